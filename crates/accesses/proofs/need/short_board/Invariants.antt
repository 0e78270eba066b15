-- `accesses::need::short_board` meets its contract: the loop's invariant says that no lower board is short. Assumes nothing.
use mathlib.Core.Path.{◌≡◌}
use Prim.Native.Nat.{◌-◌}
use Rattle.model.specs.Definitions.Parts.{first_from, first_below}
use Rattle.model.specs.Definitions.Codec.{decode}
use Rattle.model.specs.Definitions.Steps.{Access}
use Rattle.model.specs.Definitions.Calls.{short}
use Rattle.accesses.specs.Asks.{Lacking}
use Rattle.accesses.proofs.need.short_board.Given as goal

abbrev pub invariant-loop-board : goal.invariant-loop-board
invariant-loop-board l =
    (a : Access) → Lacking l.pages a l.ask l.lacking (decode l.bank)
    → first_below l.boards (short l.ask.board a (decode l.bank)) ≡ first_from l.board (l.boards - l.board) (short l.ask.board a (decode l.bank))
