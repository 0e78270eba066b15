-- `lines::print::put_last` meets its contract: three numbers, one behind the other. Assumes nothing.
use Rattle.std.proofs.Common.{arith}
use Rattle.lines.specs.Definitions.Output.{last_line}
use Rattle.lines.specs.Laws.Output.{put_next}
use Rattle.lines.proofs.print.put_last.Goals as goal

pub returns : goal.returns
unfolding last_line
returns c =
    let first = c.put_field-behind_read in
    let second = c.put_field-behind_done in
    let third = c.put_field in
    put_next first.ensures.bytes
    (put_next second.ensures.bytes third.ensures.bytes (omega (arith, first.ensures.near, first.auto.out))) (omega arith)
