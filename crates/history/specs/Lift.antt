-- A step of one board is shown to keep that board's part of the invariant; this lifts it to the bank. Assumes nothing.
use Rattle.std.specs.Prelude.{◌≡◌, ◌≢◌, ℕ, ◌<◌, List, length}
use Rattle.std.proofs.Common.{sym, subst}
use Rattle.std.proofs.Math.Option.{Option}
use Rattle.model.specs.Definitions.Bank.{Entry, Board, Bank, board_at, on_board}
use Rattle.model.specs.Definitions.WellFormed.{WellFormed}
use Rattle.model.proofs.Laws.Logic.{by_eq}
use Rattle.model.proofs.Laws.Boards.{boards_on_board, directory_on_board, board_at_same, board_at_other}
use Rattle.model.specs.History.Statement.{History}
use Rattle.history.specs.Rerun.{Rebuilt}
use Rattle.history.specs.Invariant.{BoardInvariant, Invariant}

-- board b changes alone; what is ahead of the others stays
pub on_board_invariant : (b : ℕ) (f : Board → Board) (k : Bank) {g g' : ℕ → Option Rebuilt} {h : History} → Invariant g k h
    → WellFormed (on_board b f k) → ((c : ℕ) → c ≢ b → g' c ≡ g c)
    → (b < length k.boards → BoardInvariant k.directory h (g b) b (board_at k b) → BoardInvariant k.directory h (g' b) b (f (board_at k b)))
    → Invariant g' (on_board b f k) h
on_board_invariant b f k {g} {g'} {h} q w same this =
    record {
      formed = w;
      memory = q.memory;
      known = rw (boards_on_board b f k) q.known;
      boards = λ c i.
          let j : c < length k.boards = rw (boards_on_board b f k) at i in
          subst (λ (d : List Entry). BoardInvariant d h (g' c) c (board_at (on_board b f k) c)) (sym (directory_on_board b f k))
          (by_eq c b
          (λ e. rw e (rw (board_at_same b f k (rw e at j)) (this (rw e at j) (q.boards b (rw e at j)))))
          (λ n. rw (board_at_other b f k c n, same c n) (q.boards c j)));
    }
