-- `steps::access::lacking_pages` meets its contract. The invariant: the set has the lacking ones of the first pages. Assumes nothing.
use Prim.Native.Nat.{◌≤◌}
use Rattle.steps.specs.Access.{LackingBelow}
use Rattle.steps.specs.Blocks.{board_of}
use Rattle.steps.proofs.access.lacking_pages.Given as goal

abbrev pub invariant-loop-page : goal.invariant-loop-page
invariant-loop-page l =
    (l.page ≤ l.pages) × LackingBelow (board_of l.pages l.block).working.frames l.writes l.named l.page l.lacking
