-- The next page of a record that names the board. The invariant: what is passed over has none of the pages. Assumes nothing.
use mathlib.Core.Path.{◌≡◌}
use Prim.Native.Nat.{◌-◌}
use Rattle.comparison.specs.Left.{pages_left}
use Rattle.comparison.proofs.naming.NamingIterator.next.Given as goal

abbrev pub invariant-loop-i : goal.invariant-loop-i
invariant-loop-i l = pages_left l.self ≡ pages_left l.initial.self

abbrev pub decreases-loop-i : goal.decreases-loop-i
decreases-loop-i l = l.self.left.end - l.self.left.start
