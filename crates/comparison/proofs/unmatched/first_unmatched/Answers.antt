-- `comparison::unmatched::first_unmatched` meets its contract. The invariant: the gots so far fit their showns, so the others decide. Assumes nothing.
use mathlib.Core.Path.{◌≡◌, sym, ap, ◌∙◌}
use mathlib.Core.Logic.{inl}
use Prim.Native.Nat.{◌+◌, ◌≤◌}
use native.Mathlib.Omega.{arith}
use lib.ListN.{length}
use Rattle.model.specs.Definitions.Layout.{slot_count}
use Rattle.comparison.specs.Naming.{from_few}
use Rattle.comparison.specs.Left.{pages_left}
use Rattle.comparison.specs.Matched.{place_here, place_none, turn_none}
use Rattle.comparison.proofs.unmatched.first_unmatched.Goals.{After-into_iter-i-iterator}
use Rattle.comparison.proofs.unmatched.first_unmatched.Goals as goal

pub loop-i-init : goal.loop-i-init
loop-i-init c =
    let s = c.args.gots in
    let it = c.into_iter-i-iterator.result in
    let source : it.iter ≡ s = ap (λ x. x.iter) c.into_iter-i-iterator.ensures.into_iter_gives ∙ c.enumerate-i-items.ensures.source in
    let none : it.count ≡ 0 = ap (λ x. x.count) c.into_iter-i-iterator.ensures.into_iter_gives ∙ c.enumerate-i-items.ensures.count in
    let few : it.count + length (pages_left it.iter) ≤ slot_count =
    rw (none, source) (omega (arith, from_few s.looked_for s.peer s.pages s.block.now s.left.start s.left.end, s.few)) in
    ((tt, tt, inl (omega (arith, few))), tt, few, rw (none, source))

pub returns-then-not-shows_page-clause-first : goal.returns-then-not-shows_page-clause-first
returns-then-not-shows_page-clause-first c =
    let e = c.in-Some.ensures.steps in
    place_here c.in-Some.i
    (sym c.loop-i.invariant.3
    ∙ rw (e.0, e.1) (rw c.if-not-shows_page.true at (c.shows_page.ensures (c.loop-i.i-iterator.count + 1) (pages_left c.next.new.self.iter))))

pub loop-i-preserved : goal.loop-i-preserved
loop-i-preserved c =
    let e = c.in-Some.ensures.steps in
    let few : c.next.new.self.count + length (pages_left c.next.new.self.iter) ≤ slot_count = omega (arith, ap length e.0, e.2, c.loop-i.invariant.2) in
    let n = c.loop-i.i-iterator.count + 1 in
    let same = rw c.if-not-shows_page.false at (c.shows_page.ensures n (pages_left c.next.new.self.iter)) in (
      (tt, tt, inl (omega (arith, few))),
      tt,
      few,
      rw e.2 (sym same ∙ (rw e.0 at c.loop-i.invariant.3)),
    )

pub returns-clause-first : goal.returns-clause-first
returns-clause-first c = place_none (sym c.loop-i.invariant.3 ∙ turn_none _ _ c.in-None.ensures.steps.0.0)
