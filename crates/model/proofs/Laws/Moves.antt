-- Lists of moves: one induction for every law about calls; a run that lost power makes no move; stores only grow, and no list of a bank changes its length.
-- Assumes nothing.
pub mod Formed
pub mod Stores
pub mod Fetches
pub mod Calls
pub mod Down
use Rattle.std.specs.Prelude.{◌≡◌, ℕ, false, []}
use Rattle.std.proofs.Common.{ap, ◌∙◌}
use Rattle.std.proofs.Math.Option.{none, some}
use Rattle.model.specs.Definitions.Bank.{board_at, on_board, on_working}
use Rattle.model.specs.Definitions.Steps.{Run, step, store, note, stored_selector, rested_working, Access, access}
use Rattle.model.specs.Definitions.Replay.{took_due, replay_over, settle}
use Rattle.model.specs.Moves.{Move, NoteShown, NoteGot, StoreRecord, StoreFrame, StoreHead, StoreSelector, GiveCopy, PassOwnership, DropCopies, Perform}
use Rattle.model.specs.Moves.{LosePower, SetFuse, Load, Repeat, TakeLast, Settle, does, Phase, Begun, Replays, Finished, Guard, Moves, still, then}
use Rattle.model.specs.Moves.{waits, ends, cut_off}
use Rattle.model.specs.History.Statement.{Event, Nothing}
use Rattle.model.proofs.Laws.Logic.{by_option}
use Rattle.model.proofs.Laws.Runs.{step_lost, store_lost, sizes_trans, sizes_on_board, sizes_power_off, sizes_give_copy, sizes_drop_copies}
use Rattle.model.proofs.Laws.Runs.{sizes_pass_ownership, Follows, follows_refl, follows_trans, follows_step, follows_store}

-- ---- lists of moves

-- what every move keeps, whatever the phase, holds after all of them
pub induct : {d : ℕ} {Again : Access → Type 0} (P : Phase → Run → Type 0)
    → ((χ ψ : Phase) (s : Run) (m : Move) → s.lost ≡ none → Guard d Again s.bank m χ ψ → P χ s → P ψ (does m s))
    → ((e : Event) (s : Run) → s.lost ≡ none → replay_over (board_at s.bank d) ≡ false → P (Replays e) s → P (Finished e []) s)
    → ((s : Run) → P Begun s → P (Finished Nothing []) s)
    → ((χ ψ : Phase) (s : Run) (c : ℕ) → s.lost ≡ some c → P χ s → P ψ s)
    → {φ : Phase} {r : Run} {χ : Phase} {s : Run} → Moves d Again φ r χ s → P φ r → P χ s
induct P move wait end cut still h = h
induct P move wait end cut (then {χ = χ} {ψ = ψ} {s = s} t m n a) h = move χ ψ s m n a (induct P move wait end cut t h)
induct P move wait end cut (waits {e = e} {s = s} t n o) h = wait e s n o (induct P move wait end cut t h)
induct P move wait end cut (ends {s = s} t) h = end s (induct P move wait end cut t h)
induct P move wait end cut (cut_off {χ = χ} {ψ = ψ} {s = s} {c = c} t e) h = cut χ ψ s c e (induct P move wait end cut t h)

pub does_lost : (m : Move) (r : Run) {c : ℕ} → r.lost ≡ some c → does m r ≡ r
unfolding does
does_lost (NoteShown b t p) r e = step_lost _ r e
does_lost (NoteGot b o p) r e = step_lost _ r e
does_lost (StoreRecord b) r e = store_lost b _ r e
does_lost (StoreFrame b p) r e = store_lost b _ r e
does_lost (StoreHead b) r e = store_lost b _ r e
does_lost (StoreSelector b) r e = ap (step (on_board b (on_working rested_working))) (store_lost b stored_selector r e) ∙ step_lost _ r e
does_lost (GiveCopy o b p) r e = step_lost _ r e
does_lost (PassOwnership o b p) r e = step_lost _ r e
does_lost (DropCopies w p) r e = step_lost _ r e
does_lost (Perform b a) r e = step_lost _ r e
does_lost (LosePower b) r e = step_lost _ r e
does_lost (SetFuse b n) r e = step_lost _ r e
does_lost (Load b) r e = step_lost _ r e
does_lost (Repeat b a) r e = step_lost _ r e
does_lost (TakeLast b) r e = step_lost _ r e
does_lost (Settle b) r e = step_lost _ r e

-- one move more, if power was not lost before
pub moves_do : {d : ℕ} {Again : Access → Type 0} {φ χ ψ : Phase} {r s : Run} (m : Move) → Moves d Again φ r χ s
    → (s.lost ≡ none → Guard d Again s.bank m χ ψ) → Moves d Again φ r ψ (does m s)
moves_do {s = s} m t a = by_option s.lost (λ n. then t m n (a n)) (λ c e. rw (does_lost m s e) (cut_off t e))

-- ---- stores, sizes and a power loss before

pub follows_does : (m : Move) (r : Run) → Follows r (does m r)
unfolding does note access settle
follows_does (NoteShown b t p) r = follows_step _ r (sizes_on_board b _ r.bank)
follows_does (NoteGot b o p) r = follows_step _ r (sizes_on_board b _ r.bank)
follows_does (StoreRecord b) r = follows_store b _ r
follows_does (StoreFrame b p) r = follows_store b _ r
follows_does (StoreHead b) r = follows_store b _ r
follows_does (StoreSelector b) r =
    follows_trans (follows_store b stored_selector r) (follows_step _ (store b stored_selector r) (sizes_on_board b _ (store b stored_selector r).bank))
follows_does (GiveCopy o b p) r = follows_step _ r (sizes_give_copy o b p r.bank)
follows_does (PassOwnership o b p) r = follows_step _ r (sizes_pass_ownership o b p r.bank)
follows_does (DropCopies w p) r = follows_step _ r (sizes_drop_copies w p r.bank)
follows_does (Perform b a) r = follows_step _ r (sizes_on_board b _ r.bank)
follows_does (LosePower b) r = follows_step _ r (sizes_power_off b r.bank)
follows_does (SetFuse b n) r = follows_step _ r (sizes_on_board b _ r.bank)
follows_does (Load b) r = follows_step _ r (sizes_on_board b _ r.bank)
follows_does (Repeat b a) r = follows_step _ r (sizes_trans (sizes_on_board b took_due r.bank) (sizes_on_board b _ (on_board b took_due r.bank)))
follows_does (TakeLast b) r = follows_step _ r (sizes_on_board b _ r.bank)
follows_does (Settle b) r = follows_step _ r (sizes_on_board b _ r.bank)

pub moves_follow : {d : ℕ} {Again : Access → Type 0} {φ χ : Phase} {r s : Run} → Moves d Again φ r χ s → Follows r s
moves_follow {r = r} t =
    induct (λ χ s. Follows r s) (λ χ ψ s m n a h. follows_trans h (follows_does m s)) (λ e s n o h. h) (λ s h. h) (λ χ ψ s c e h. h) t (follows_refl r)
