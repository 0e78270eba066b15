-- Steps that change no board's state. Assumes nothing.
use Rattle.std.specs.Prelude.{◌≡◌, refl, ℕ, ◌<◌, Bool, length}
use Rattle.std.proofs.Common.{sym, ap, ◌∙◌, arith}
use Rattle.model.specs.Definitions.Bank.{Board, Bank, board_at, on_board, on_working}
use Rattle.model.specs.Definitions.Steps.{with_frame, frame_of, give_copy, dropped, drop_at, drop_copies, pass_ownership}
use Rattle.model.proofs.Laws.Logic.{cases, by_eq}
use Rattle.model.proofs.Laws.Boards.{board_at_out, by_board, boards_on_board, board_at_same, board_at_other, board_at_on_entry, took_copy, give_copy_parts}
use Rattle.model.proofs.Laws.Boards.{dropped_if, boards_drop_at, board_at_drop_at, holds, drop_copies_parts, took_own, loses, pass_ownership_parts}

abbrev pub SameStates : Bank → Bank → Type 0
SameStates k j = (c : ℕ) → (board_at j c).state ≡ (board_at k c).state

-- of boards that are there, and of no others
states_in : (k j : Bank) → length j.boards ≡ length k.boards
    → ((c : ℕ) → c < length k.boards → (board_at j c).state ≡ (board_at k c).state) → SameStates k j
states_in k j e f c =
    by_board k c (f c) (λ h. ap (λ (x : Board). x.state) (board_at_out j c (omega arith) ∙ sym (board_at_out k c h)))

pub states_on_board : (b : ℕ) (f : Board → Board) (k : Bank) → (f (board_at k b)).state ≡ (board_at k b).state → SameStates k (on_board b f k)
states_on_board b f k h =
    states_in k (on_board b f k) (boards_on_board b f k)
    (λ c l.
    by_eq c b
    (λ e. rw e (ap (λ (x : Board). x.state) (board_at_same b f k (rw e at l)) ∙ h))
    (λ n. ap (λ (x : Board). x.state) (board_at_other b f k c n)))

dropped_if_state : (t : Bool) (w p : ℕ) (x : Board) → (dropped_if t w p x).state ≡ x.state
unfolding dropped_if dropped with_frame on_working
dropped_if_state t w p x = cases (λ (y : Board). y.state ≡ x.state) t (λ e. refl) (λ e. refl)

states_drop_at : (loses : ℕ → Bool) (w p : ℕ) (k : Bank) → SameStates k (drop_at loses w p k)
states_drop_at loses w p k =
    states_in k (drop_at loses w p k) (boards_drop_at loses w p k)
    (λ c l. ap (λ (x : Board). x.state) (board_at_drop_at loses w p k c l) ∙ dropped_if_state (loses c) w p (board_at k c))

pub states_give_copy : (o b p : ℕ) (k : Bank) → SameStates k (give_copy o b p k)
unfolding took_copy with_frame on_working
states_give_copy o b p k c = rw (give_copy_parts o b p k, board_at_on_entry) (states_on_board b (took_copy o p (frame_of k o p).bytes) k refl c)

pub states_drop_copies : (w p : ℕ) (k : Bank) → SameStates k (drop_copies w p k)
states_drop_copies w p k c = rw (drop_copies_parts w p k, board_at_on_entry) (states_drop_at (holds w p k) w p k c)

pub states_pass_ownership : (o w p : ℕ) (k : Bank) → SameStates k (pass_ownership o w p k)
unfolding took_own with_frame on_working
states_pass_ownership o w p k c =
    let j : Bank = drop_at (loses o w p k) w p k in
    rw (pass_ownership_parts o w p k, board_at_on_entry)
    (states_on_board w (took_own p (frame_of k o p).bytes) j refl c ∙ states_drop_at (loses o w p k) w p k c)
