-- `exchange::fetch::show_all` meets its contract. The loop's invariant: what is left of the givers' part makes the whole run. Assumes nothing.
use mathlib.Core.Path.{refl, sym, ap, ◌∙◌}
use Prim.Native.Nat.{◌<◌}
use native.Mathlib.Omega.{arith}
use Rattle.std.proofs.Common.{rules}
use Rattle.std.proofs.lemmas.Result.{err_from_is_err_and}
use Rattle.copies.specs.Directory.{of_board, of_owner}
use Rattle.exchange.specs.Progress.{loss_of, after_told}
use Rattle.steps.specs.Asked.{got}
use Rattle.exchange.specs.ReadFetches.{showing_first, showing_skip, show_giver, show_can, showing_lost, showing_on, showing_last}
use Rattle.exchange.proofs.fetch.show_all.Goals.{then-has+in_ok-stores, else-has}
use Rattle.exchange.proofs.fetch.show_all.Goals as goal

pub loop-page-init : goal.loop-page-init
loop-page-init c = (refl, showing_first _ c.requires.0 c.requires.1 c.requires.2)

pub giver-giver-requires : goal.giver-giver-requires
giver-giver-requires c =
    let showing = c.loop-page.invariant.1 in
    let inside : c.loop-page.page < c.args.pages = omega arith in
    (of_owner showing.bank showing.formed _ inside, inside)

pub show-requires : goal.show-requires
unfolding got
show-requires c =
    let showing = c.loop-page.invariant.1 in
    let inside : c.loop-page.page < c.args.pages = omega arith in
    let among = sym c.has.ensures ∙ c.if-has.true in
    let from = c.giver-giver.ensures in
    (of_board showing.bank _ (show_giver showing inside among _ from), showing.formed, showing.bank.board, inside, show_can showing inside among _ from)

pub returns-in_err-stores-clause-run : goal.returns-in_err-stores-clause-run
unfolding got
returns-in_err-stores-clause-run c =
    let loop = c.loop-page in
    let inside : loop.page < c.args.pages = omega arith in
    let among = sym c.has.ensures ∙ c.if-has.true in
    let p = err_from_is_err_and c.from_residual.result c.from_residual.ensures.1 in
    let told = after_told loop.stores c.show.result c.map_err.result c.map_err.ensures.cases (λ e d q. search rules) in
    let lost = told.1 ∙ ap loss_of c.in_err-stores.was in
    λ n.
    let came = showing_lost loop.invariant.1 inside among _ c.giver-giver.ensures _ c.show.ensures.run _ lost n in
    rw (p.1, p.2) (rw (told.0, lost, c.in_err-stores.was) at came)

pub loop-page-preserved : goal.loop-page-preserved
unfolding got
loop-page-preserved c =
    let loop = c.loop-page in
    let inside : loop.page < c.args.pages = omega arith in
    elim c.if-has.branch [
      | then-has+in_ok-stores w ↦
          let among = sym c.has.ensures ∙ w.if-has.true in
          let told = after_told loop.stores w.show.result w.map_err.result w.map_err.ensures.cases (λ e d q. search rules) in
          rw (w.bank-is, w.stores-is) (
            w.show.auto.bank ∙ loop.invariant.0,
            rw (told.0, w.in_ok-stores.was) at
                (showing_on loop.invariant.1 inside among _ w.giver-giver.ensures _ w.show.ensures.run (told.1 ∙ ap loss_of w.in_ok-stores.was) w.show.ensures.few),
          )
      | else-has w ↦
          rw (w.bank-is, w.stores-is) (loop.invariant.0, showing_skip loop.invariant.1 inside (sym c.has.ensures ∙ w.if-has.false))
    ]

pub returns-clause-run : goal.returns-clause-run
returns-clause-run c = showing_last c.loop-page.invariant.1 (omega arith)
