-- `validity::bank::boards_valid` meets its contract. The invariants: the boards before `board` fit, and of this board the logs before `log` and the
-- records before `index` are valid. Assumes nothing.
use Rattle.std.proofs.Common.{◌≡◌, ℕ, ◌<◌, true, get_or}
use Rattle.model.specs.Definitions.Layout.{form_of}
use Rattle.model.specs.Definitions.Parts.{every_below}
use Rattle.validity.specs.declared.bank.Log.TheVariants.{First}
use Rattle.validity.specs.Pieces.{log_passes, record_passes_in, record_valid}
use Rattle.validity.specs.Order.{board_fits}
use Rattle.validity.proofs.bank.boards_valid.Given as goal

abbrev pub invariant-loop-index : goal.invariant-loop-index
invariant-loop-index l =
    every_below l.index
    (record_passes_in (form_of l.since) (record_valid (form_of l.since) l.named l.boards l.pages l.board) l.pages l.block (get_or l.log-items l.log-index First)) ≡ true

abbrev pub invariant-loop-log : goal.invariant-loop-log
invariant-loop-log l =
    (k : ℕ) → k < l.log-index → log_passes (form_of l.since) (record_valid (form_of l.since) l.named l.boards l.pages l.board) l.pages l.block (get_or l.log-items k First) ≡ true

abbrev pub invariant-loop-board : goal.invariant-loop-board
invariant-loop-board l = every_below l.board (board_fits (form_of l.since) l.named l.boards l.pages l.bank) ≡ true
