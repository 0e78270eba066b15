-- `accesses::live::proceed` meets its contract: what comes before the access, then the access itself. Assumes nothing.
use mathlib.Core.Path.{sym, ap, ◌∙◌}
use mathlib.Core.List.{List, map}
use Rattle.model.specs.Definitions.Bank.{board_at}
use Rattle.model.specs.Definitions.Codec.{decode}
use Rattle.model.specs.Definitions.Steps.{Cell, cell_byte, read_from}
use Rattle.accesses.proofs.Prepared.{ahead_of, ahead_ready, answered_lost, answered_done}
use Rattle.accesses.proofs.live.proceed.Goals as goal

pub perform_at-requires : goal.perform_at-requires
perform_at-requires c =
    let asks = c.requires.0 in
    let a = c.requires.2.0 in
    let way = c.requires.2.1 in
    let came = c.in-Ok.ensures.run a way.lacking 0 in (
      ahead_of _ a 0 _ asks.formed way.can way.passed came.bytes _ asks.bank.count,
      c.requires.1,
      (a, way.lacking.stands, ahead_ready _ a 0 _ asks.formed way.can way.passed came.bytes came.lost),
    )

pub returns-in-Err-clause-run : goal.returns-in-Err-clause-run
returns-in-Err-clause-run c =
    λ a way read n. answered_lost _ a n _ c.requires.0.formed way.can way.passed _ _ (c.in-Err.ensures.run a way.lacking n)

pub returns-in-Ok-clause-run : goal.returns-in-Ok-clause-run
unfolding read_from
returns-in-Ok-clause-run c =
    let asks = c.requires.0 in
    let did = c.perform_at in
    λ a way read n.
    let came = c.in-Ok.ensures.run a way.lacking n in
    let ready = ahead_ready _ a n _ asks.formed way.can way.passed came.bytes came.lost in
    answered_done _ a n _ asks.formed way.can way.passed _ came
    (did.ensures.read
    ∙ ap (λ (cs : List Cell). map (cell_byte (board_at (decode c.prepare.new.bank) c.args.ask.board).working.frames) cs) (sym read))
    (did.ensures.did a way.lacking.stands ready)
