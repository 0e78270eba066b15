-- `checks::entry::enter` meets its contract: each return is one finding. Assumes nothing.
use mathlib.Core.Path.{◌≡◌}
use Prim.Native.Nat.{◌<◌}
use mathlib.Core.Bool.{true}
use native.Mathlib.Omega.{arith}
use lib.ListN.{length}
use borrow.Author.Tests.{lt-ltb, le-ltb}
use Rattle.model.specs.Definitions.Codec.{decode}
use Rattle.model.specs.Definitions.Check.{well_formed}
use Rattle.model.proofs.Laws.BankSteps.{is_bank_test}
use Rattle.validity.specs.Search.{failed, passed}
use Rattle.checks.specs.Findings.{finds_unreadable, finds_none, finds_board}
use Rattle.checks.proofs.entry.enter.Goals as goal
use Rattle.checks.proofs.entry.enter.Goals.{Else-board_count-b, Else-not-well_formed}

-- what the test of the bytes says, once it passed
known : (c : goal.Else-not-well_formed) → well_formed c.args.bank.now ≡ true
known c = passed c.well_formed-2.ensures c.if-not-well_formed.false-raw

-- the board is one of the bank's
inside : (c : goal.Else-board_count-b) → c.args.board < length
    (decode c.args.bank.now).boards
inside c = omega (arith, c.board_count.ensures)

pub returns-then-not-well_formed : goal.returns-then-not-well_formed
returns-then-not-well_formed c = finds_unreadable _ _ (failed c.well_formed-2.ensures c.if-not-well_formed.true-raw)

pub board_count-requires : goal.board_count-requires
board_count-requires c = is_bank_test _ (known c)

pub returns-then-board_count-b : goal.returns-then-board_count-b
returns-then-board_count-b c =
    finds_none _ _ (known (goal.at.returns-then-board_count-b c).Else-not-well_formed)
    (le-ltb c.args.board (length (decode c.args.bank.now).boards) (omega (arith, c.board_count.ensures)))

pub board_state-requires : goal.board_state-requires
board_state-requires c = (is_bank_test _ (known (goal.at.board_state-requires c).Else-not-well_formed), inside c)

pub returns : goal.returns
returns c =
    rw c.board_state.ensures (finds_board _ _ (known (goal.at.returns c).Else-not-well_formed) (lt-ltb _ _ (inside (goal.at.returns c).Else-board_count-b)))
