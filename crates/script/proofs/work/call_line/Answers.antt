-- `script::work::call_line` meets its contract. Assumes nothing.
use mathlib.Core.Path.{◌∙◌}
use lib.Seq.{length-take-le}
use Rattle.script.specs.Laws.Work.{call_works}
use Rattle.script.proofs.work.call_line.Goals as goal

pub returns : goal.returns
returns c =
    let call = c.do_call-printed in
    call_works c.args.request _ c.args.size call.result _ _ (call.ensures.printed, call.ensures.bytes) (call.auto.bank ∙ length-take-le _ _ c.requires)
