-- The next page of a record that names the board. The invariant: what is passed over has none of the pages. Assumes nothing.
use mathlib.Core.Path.{◌≡◌, sym, ap, ◌∙◌}
use native.Mathlib.Omega.{arith}
use mathlib.Core.List.{◌∷◌}
use lib.ListN.{length}
use Rattle.comparison.specs.Naming.{from_wanted, from_other, from_end, pages_from}
use Rattle.comparison.specs.Left.{pages_left}
use Rattle.comparison.proofs.naming.NamingIterator.next.Goals.{After-page_of}
use Rattle.comparison.proofs.naming.NamingIterator.next.Goals as goal

-- its page, then those that are left
told : (c : After-page_of) → pages_left c.args.self.now
    ≡ c.page_of.result ∷ pages_from c.loop-i.self.looked_for c.loop-i.self.peer c.loop-i.self.pages c.loop-i.self.block.now c.next.new.self.start c.next.new.self.end
told c =
    let s = c.loop-i.self in
    sym c.loop-i.invariant
    ∙ rw c.page_of.ensures
    (from_wanted s.looked_for s.peer s.pages s.block.now c.in-Some.ensures.steps _ c.read_stored-value.ensures (sym c.names.ensures ∙ c.if-names.true))

pub returns-then-names-clause-steps : goal.returns-then-names-clause-steps
returns-then-names-clause-steps c = told c

pub returns-then-names-clause-goes : goal.returns-then-names-clause-goes
returns-then-names-clause-goes c = record { on = λ _. (tt, tt, omega (arith, ap length (told c))); keeps = tt; rests = λ _. tt }

pub loop-i-preserved : goal.loop-i-preserved
loop-i-preserved c =
    let s = c.loop-i.self in
    sym (from_other s.looked_for s.peer s.pages s.block.now c.in-Some.ensures.steps _ c.read_stored-value.ensures (sym c.names.ensures ∙ c.if-names.false))
    ∙ c.loop-i.invariant

pub returns-clause-steps : goal.returns-clause-steps
returns-clause-steps c =
    let s = c.loop-i.self in
    let went = c.in_default.ensures.steps in
    (sym c.loop-i.invariant ∙ from_end s.looked_for s.peer s.pages s.block.now _ _ (omega arith), from_end s.looked_for s.peer s.pages s.block.now _ _ (omega arith))
