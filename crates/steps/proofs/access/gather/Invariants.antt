-- `steps::access::gather` meets its contract. The invariant: the first bytes stand in the buffer, and with those to come they are all. Assumes nothing.
use mathlib.Core.Path.{◌≡◌}
use Prim.Native.Nat.{◌≤◌}
use lib.ListN.{length}
use Rattle.steps.specs.Blocks.{board_of}
use Rattle.steps.specs.Gathered.{Gathered}
use Rattle.steps.proofs.access.gather.Given as goal

abbrev pub invariant-loop-i : goal.invariant-loop-i
invariant-loop-i l =
    (length l.out ≡ length l.initial.out) × (l.i ≤ length l.out) × Gathered l.pages (board_of l.pages l.block).working.frames l.cells l.i l.out
