-- `lines::print::put_line` meets its contract: five numbers, one behind the other. Assumes nothing.
use Rattle.std.proofs.Common.{arith}
use Rattle.lines.specs.Definitions.Output.{line_of}
use Rattle.lines.specs.Laws.Output.{put_next}
use Rattle.lines.proofs.print.put_line.Goals as goal

pub returns-clause-bytes : goal.returns-clause-bytes
unfolding line_of
returns-clause-bytes c =
    let first = c.put_field-behind_number in
    let second = c.put_field-behind_code in
    let third = c.put_field-behind_value in
    let fourth = c.put_field-behind_who in
    let fifth = c.put_field in
    let near_first = first.ensures.near in
    let near_second = second.ensures.near in
    let near_third = third.ensures.near in
    let code = rw c.from.ensures at second.ensures.bytes in
    let who = rw c.from-2.ensures at fourth.ensures.bytes in
    let behind_third =
    put_next who fifth.ensures.bytes
    (omega (arith, c.requires, near_first, near_second, near_third, first.auto.out, second.auto.out, third.auto.out)) in
    let behind_second =
    put_next third.ensures.bytes behind_third (omega (arith, c.requires, near_first, near_second, first.auto.out, second.auto.out)) in
    let behind_first = put_next code behind_second (omega (arith, c.requires, near_first, first.auto.out)) in
    put_next first.ensures.bytes behind_first (omega (arith, c.requires))
