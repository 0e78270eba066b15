-- `accesses::live::live` meets its contract: the tests, then the access. Assumes nothing.
use mathlib.Core.Path.{sym}
use Rattle.model.specs.Definitions.Codec.{decode}
use Rattle.exchange.specs.Progress.{running}
use Rattle.accesses.proofs.Prepared.{live_refused, live_passed}
use Rattle.accesses.proofs.live.live.Goals as goal

pub returns-in-Err-clause-run : goal.returns-in-Err-clause-run
returns-in-Err-clause-run c =
    λ a goes read n.
    live_refused _ a (running n (decode c.args.bank.now)) _ _
    (c.in-Err.ensures a (c.board_lacks-lacking.ensures a goes.stands))
    (sym c.requires.0.bank.bank.back)

pub returns-in-Ok-clause-run : goal.returns-in-Ok-clause-run
returns-in-Ok-clause-run c =
    λ a goes read n.
    let lacking = c.board_lacks-lacking.ensures a goes.stands in
    let pass = c.in-Ok.ensures a lacking in
    rw (live_passed _ a (running n (decode c.args.bank.now)) pass)
    (c.proceed.ensures.run a (record { lacking = lacking; can = goes.can; passed = sym pass }) read n)
