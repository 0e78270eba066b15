-- `script::line::run_line` meets its contract. Assumes nothing.
use Rattle.script.specs.Laws.Progress.{line_ran}
use Rattle.script.proofs.line.run_line.Goals as goal

pub returns : goal.returns
returns c =
    let asked = c.read_request in
    let called = c.line_work-work in
    let put = c.put_line-at in
    line_ran c.args.line.now asked.result c.args.from c.args.bank.now called.new.bank c.args.out.now
    put.new.out called.result c.with_line.result put.result c.requires.counts.sums asked.ensures called.ensures
    put.ensures.bytes put.ensures.near c.with_line.ensures
