-- `accesses::need::need` meets its contract. The loop's invariant: what is added up so far and what is left make the sum. Assumes nothing.
use mathlib.Core.Path.{◌≡◌}
use Prim.Native.Nat.{◌+◌, ◌*◌, ◌-◌, ◌≤◌}
use Rattle.model.specs.Definitions.Parts.{sum_from, sum_below}
use Rattle.model.specs.Definitions.Codec.{decode}
use Rattle.model.specs.Definitions.Steps.{Access}
use Rattle.model.specs.Definitions.Calls.{page_need}
use Rattle.accesses.specs.Asks.{Lacking}
use Rattle.accesses.proofs.need.need.Given as goal

abbrev pub invariant-loop-page : goal.invariant-loop-page
invariant-loop-page l =
    (l.need ≤ 2 * l.page)
    × ((a : Access) → Lacking l.pages a l.ask l.lacking (decode l.bank)
    → l.need + sum_from l.page (l.pages - l.page) (page_need l.ask.board a (decode l.bank) l.board) ≡ sum_below l.pages (page_need l.ask.board a (decode l.bank) l.board))
