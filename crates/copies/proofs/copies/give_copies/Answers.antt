-- `copies::copies::give_copies` meets its contract. The loop's invariant: what is left of the copies gives all of them. Assumes nothing.
use mathlib.Core.Path.{refl, sym, ◌∙◌}
use Prim.Native.Nat.{◌<◌}
use native.Mathlib.Omega.{arith}
use Rattle.steps.specs.Asked.{got}
use Rattle.copies.specs.Copies.{giving_first, giving_skip, give_owner, give_from, give_space, giving_on, giving_last}
use Rattle.copies.proofs.copies.give_copies.Goals.{then-has, else-has}
use Rattle.copies.proofs.copies.give_copies.Goals as goal

pub loop-page-init : goal.loop-page-init
loop-page-init c = (refl, giving_first _ c.requires.0 c.requires.1)

pub giver-giver-requires : goal.giver-giver-requires
giver-giver-requires c =
    let giving = c.loop-page.invariant.1 in
    let inside : c.loop-page.page < c.args.pages = omega arith in
    (give_owner giving inside (sym c.has.ensures ∙ c.if-has.true), inside)

pub give_copy-requires : goal.give_copy-requires
unfolding got
give_copy-requires c =
    let giving = c.loop-page.invariant.1 in
    let inside : c.loop-page.page < c.args.pages
    = omega arith in
    let among = sym c.has.ensures ∙ c.if-has.true in
    (giving.bank, give_from giving inside among _ c.giver-giver.ensures, give_space giving inside among, inside)

pub loop-page-preserved : goal.loop-page-preserved
unfolding got
loop-page-preserved c =
    let loop = c.loop-page in
    let inside : loop.page < c.args.pages = omega arith in
    elim c.if-has.branch [
      | then-has w ↦
          let among = sym c.has.ensures ∙ w.if-has.true in
          rw w.bank-is
          (w.give_copy.auto.bank ∙ loop.invariant.0, giving_on loop.invariant.1 inside among _ w.giver-giver.ensures w.give_copy.ensures)
      | else-has w ↦ rw w.bank-is (loop.invariant.0, giving_skip loop.invariant.1 inside (sym c.has.ensures ∙ w.if-has.false))
    ]

pub returns : goal.returns
returns c = giving_last c.loop-page.invariant.1 (omega arith)
