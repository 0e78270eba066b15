-- `comparison::unmatched::first_unmatched` meets its contract. The invariant: the gots so far fit their showns, so the others decide. Assumes nothing.
use mathlib.Core.Path.{◌≡◌}
use Prim.Native.Nat.{◌+◌, ◌≤◌}
use lib.ListN.{length}
use Rattle.model.specs.Definitions.Layout.{slot_count}
use Rattle.model.specs.Definitions.Logs.{first_unmatched}
use Rattle.comparison.specs.Left.{pages_left}
use Rattle.comparison.proofs.unmatched.first_unmatched.Given as goal

abbrev pub invariant-loop-i : goal.invariant-loop-i
invariant-loop-i l =
    let it = goal.iterator-loop-i in
    it.can_next l.i-iterator × it.is_finite l.i-iterator × (l.i-iterator.count + length (pages_left l.i-iterator.iter) ≤ slot_count)
    × (first_unmatched (l.i-iterator.count + 1) (pages_left l.i-iterator.iter) (pages_left l.showns)
    ≡ first_unmatched 1 (pages_left l.fn.gots) (pages_left l.fn.showns))
