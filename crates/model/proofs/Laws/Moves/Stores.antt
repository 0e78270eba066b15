-- A flush, a checkpoint and a page shown are lists of moves. Assumes nothing.
use Rattle.std.specs.Prelude.{◌≡◌, refl, List, eqb}
use Rattle.std.proofs.Common.{sym, ap, ◌∙◌, arith, length-set, ext_get_or}
use Prim.Native.Nat.{ℕ, zero, suc, ◌+◌, ◌<◌}
use Rattle.std.proofs.Math.Option.{none}
use Rattle.std.proofs.Math.ListN.{length}
use Rattle.types.specs.declared.Frame.{Frame}
use Rattle.types.specs.declared.State.TheVariants.{Up}
use Rattle.types.specs.declared.Kind.{Kind}
use Rattle.types.specs.declared.Kind.TheVariants.{Shown}
use Rattle.model.specs.Definitions.Parts.{zeros, tabulate_from, tabulate}
use Rattle.model.specs.Definitions.Layout.{page_size}
use Rattle.model.specs.Definitions.Bank.{Working, Stable, Board, Bank, empty_frame, board_at, entry_at, frame_at, on_working, on_spare}
use Rattle.model.specs.Definitions.WellFormed.{WellFormed}
use Rattle.model.specs.Definitions.Steps.{Run, step, burnt, store, store_all, recorded, note, stored_record, record_stores, flush, stored_frame, stored_head}
use Rattle.model.specs.Definitions.Steps.{spare_stores, checkpoint, show, Access}
use Rattle.model.specs.Definitions.Replay.{settled, end_replay, settle}
use Rattle.model.proofs.Laws.Keeps.Replay.{settle_restores}
use Rattle.model.specs.Clauses.{InReplay, WellFormedBut, Fits, RoomFor, Another}
use Rattle.model.specs.Moves.{still, checkpoints, NoteShown, StoreRecord, StoreFrame, StoreHead, StoreSelector, does, Phase, Begun, MayStore, anyone}
use Rattle.model.specs.Moves.{Selects, Saved, notes_shown, stores_record, stores_frame, stores_head, stores_selector, Moves}
use Rattle.model.proofs.Laws.Logic.{by_eq}
use Rattle.model.proofs.Laws.Lists.{foldl_keeps}
use Rattle.model.proofs.Laws.Boards.{frame_at_same, frame_at_other, board_at_same}
use Rattle.model.proofs.Laws.Runs.{step_going, changed_store, step_done, step_none, follows_none, follows_store, follows_store_all, each_record_stores}
use Rattle.model.proofs.Laws.Runs.{each_spare_stores, checkpoint_selector, after_stores, changed_store_all}
use Rattle.model.proofs.Laws.Runs.Stores.{burnt_state, burnt_working, burnt_stable, flushed_stored_record, Headed, after_spare_stores, headed_spare_stores}
use Rattle.model.proofs.Laws.Keeps.Clauses.{fits, up_below}
use Rattle.model.proofs.Laws.Moves.{moves_do}
use Rattle.model.proofs.Laws.Moves.Formed.{FormedRun, formed_begun, run_formed, selects_stores, moves_formed}

-- ---- a board that stores

-- it stays up, if it isn't lost
pub store_up : (b : ℕ) (f : Board → Board) → ((x : Board) → (f x).state ≡ x.state) → (r : Run) → (r.lost ≡ none → (board_at r.bank b).state ≡ Up)
    → (store b f r).lost ≡ none → (board_at (store b f r).bank b).state ≡ Up
store_up b f same r u e =
    let n : r.lost ≡ none = follows_none (follows_store b f r) e in
    let x : Board = board_at r.bank b in
    (changed_store b {R = λ x y. y.state ≡ x.state} f r e (burnt_state (f x) ∙ same x)).this (up_below r.bank b (u n)) ∙ u n

-- a record noted, with bytes that may be read off the bank, leaves its board up
pub noted_up : (b : ℕ) (kind : Kind) (peer : ℕ) (bytes : Bank → List ℕ) (r : Run) → (r.lost ≡ none → (board_at r.bank b).state ≡ Up)
    → (step (λ k. note b kind peer (bytes k) k) r).lost ≡ none → (board_at (step (λ k. note b kind peer (bytes k) k) r).bank b).state ≡ Up
unfolding note on_working
noted_up b kind peer bytes r u e =
    let noted : Bank → Bank = λ k. note b kind peer (bytes k) k in
    let n : r.lost ≡ none = step_none noted r e in
    rw (step_done noted r e, board_at_same b (on_working (recorded kind peer (bytes r.bank))) r.bank (up_below r.bank b (u n))) (u n)

-- ---- what the spare area holds during a checkpoint

-- its first p frames are the working memory's
record Copied (pages p : ℕ) (x : Board) : Type 0 where
  size : length x.stable.spare.frames ≡ pages
  frames : (i : ℕ) → i < p → frame_at x.stable.spare.frames i ≡ frame_at x.working.frames i

-- neither the fuse nor the head changes that
copied_burnt : {pages p : ℕ} (x : Board) → Copied pages p x → Copied pages p (burnt x)
copied_burnt x c =
    record {
      size = ap (λ (t : Stable). length t.spare.frames) (burnt_stable x) ∙ c.size;
      frames = λ i l. cc (burnt_stable x, burnt_working x, c.frames i l);
    }

copied_stored_head : {pages p : ℕ} (x : Board) → Copied pages p x → Copied pages p (stored_head x)
unfolding stored_head on_spare
copied_stored_head x c = record { size = c.size; frames = c.frames }

copied_stored_frame : (pages p : ℕ) (x : Board) → p < pages → Copied pages p x → Copied pages (suc p) (stored_frame p x)
unfolding stored_frame on_spare
copied_stored_frame pages p x l c =
    let fs : List Frame = x.stable.spare.frames in
    let f : Frame = frame_at x.working.frames p in
    record {
      size = length-set fs p f ∙ c.size;
      frames = λ i m.
          by_eq i p
          (λ e. rw e (frame_at_same fs p f (rw c.size l)))
          (λ n. frame_at_other fs p i f n ∙ c.frames i (omega arith));
    }

-- all frames, one after the other
copied_after_stores : (pages p n : ℕ) (x : Board) → p + n ≡ pages → Copied pages p x → Copied pages pages (after_stores (tabulate_from p n stored_frame) x)
unfolding tabulate_from after_stores
copied_after_stores pages p zero x m c = let i : p ≡ pages = omega arith in rw i at c
copied_after_stores pages p (suc n) x m c =
    copied_after_stores pages (suc p) n (burnt (stored_frame p x)) (omega arith)
    (copied_burnt (stored_frame p x) (copied_stored_frame pages p x (omega arith) c))

copied_all : (pages : ℕ) (x : Board) → length x.working.frames ≡ pages → Copied pages pages x → x.stable.spare.frames ≡ x.working.frames
unfolding frame_at
copied_all pages x w c =
    ext_get_or empty_frame x.stable.spare.frames x.working.frames (c.size ∙ sym w) (λ i l. c.frames i (rw c.size at l))

-- the stores up to the head, if none of them lost power
pub head_saves : (b : ℕ) (r : Run) → WellFormed r.bank → b < length r.bank.boards
    → (store_all b (spare_stores (length r.bank.directory)) r).lost ≡ none
    → Saved (board_at (store_all b (spare_stores (length r.bank.directory)) r).bank b)
unfolding tabulate
head_saves b r w l e =
    let pages : ℕ = length r.bank.directory in
    let x : Board = board_at r.bank b in
    let y : Board = after_stores (spare_stores pages) x in
    let z : Board = after_stores (tabulate pages stored_frame) x in
    let f : Fits r.bank.directory b x = fits w b l in
    let first : Copied pages 0 x = record { size = f.alone.fields.spare.frames.count; frames = λ i m. absurd (omega arith) } in
    let framed : Copied pages pages z = copied_after_stores pages 0 pages x (omega arith) first in
    let copied : Copied pages pages y = rw (after_spare_stores pages x) (copied_burnt (stored_head z) (copied_stored_head z framed)) in
    let t : Headed x y = headed_spare_stores pages x in
    let g : y.working ≡ x.working = t.saving.working in
    rw ((changed_store_all b (spare_stores pages) r e).this l)
    (record {
      number = t.number ∙ sym (ap (λ (v : Working). v.number) g);
      frames = copied_all pages y (ap (λ (v : Working). length v.frames) g ∙ f.alone.fields.working.frames.count) copied;
      records = t.records;
    })

-- ---- lists of moves

-- moves so far, and board b up if it isn't lost
abbrev Storing : (d : ℕ) (Again : Access → Type 0) (φ : Phase) (r : Run) (b : ℕ) (χ : Phase) → Run → Type 0
Storing d Again φ r b χ s = Moves d Again φ r χ s × (s.lost ≡ none → (board_at s.bank b).state ≡ Up)

module _ {d : ℕ} {Again : Access → Type 0} {φ : Phase} {r : Run} where
  -- "Flush ..", of an up board
  pub flush_moves : (b : ℕ) {χ : Phase} {s : Run} → MayStore d b χ → Moves d Again φ r χ s → (s.lost ≡ none → (board_at s.bank b).state ≡ Up)
      → Moves d Again φ r χ (flush b s)
  unfolding flush store_all does
  flush_moves b {χ} {s} o t u =
      let h : (q : Run) → Storing d Again φ r b χ q → Storing d Again φ r b χ (store b stored_record q) =
      λ q v. (moves_do (StoreRecord b) v.0 (λ e. stores_record b o (v.1 e)), store_up b stored_record (λ y. (flushed_stored_record y).state) q v.1) in
      (foldl_keeps (Storing d Again φ r b χ) _ (record_stores (board_at s.bank b)) (each_record_stores h (board_at s.bank b)) s (t, u)).0

  -- "Checkpoint: ..", of an up board
  pub checkpoint_moves : (b : ℕ) {χ ψ : Phase} {s : Run} → FormedRun d φ r → Selects d b χ ψ → Moves d Again φ r χ s
      → (s.lost ≡ none → (board_at s.bank b).state ≡ Up) → Moves d Again φ r ψ (checkpoint b s)
  unfolding store_all does stored_frame stored_head on_spare
  checkpoint_moves b {χ} {ψ} {s} h x t u =
      let o : MayStore d b χ = selects_stores x in
      let pages : ℕ = length s.bank.directory in
      let saved : Storing d Again φ r b χ (store_all b (spare_stores pages) s) =
      foldl_keeps (Storing d Again φ r b χ) _ (spare_stores pages)
      (each_spare_stores
      (λ p q v. (moves_do (StoreFrame b p) v.0 (λ e. stores_frame b p o (v.1 e)), store_up b (stored_frame p) (λ y. refl) q v.1))
      (λ q v. (moves_do (StoreHead b) v.0 (λ e. stores_head b o (v.1 e)), store_up b stored_head (λ y. refl) q v.1))
      pages)
      s (t, u) in
      rw (checkpoint_selector b s)
      (moves_do (StoreSelector b) saved.0
      (λ e.
      let n : s.lost ≡ none = follows_none (follows_store_all b (spare_stores pages) s) e in
      stores_selector b x (saved.1 e) (head_saves b s (run_formed o (moves_formed t h)) (up_below s.bank b (u n)) e)))

  -- "owner records shown and flushes"
  pub show_moves : (o p : ℕ) {s : Run} → Moves d Again φ r Begun s → (s.lost ≡ none → (board_at s.bank o).state ≡ Up)
      → (s.lost ≡ none → RoomFor 1 (board_at s.bank o)) → (s.lost ≡ none → p < length s.bank.directory) → (s.lost ≡ none → Another d o s.bank)
      → Moves d Again φ r Begun (show o d p s)
  unfolding show does
  show_moves o p {s} t u m l v =
      flush_moves o anyone (moves_do (NoteShown o d p) t (λ e. notes_shown o p (u e) (m e) (l e) (v e))) (noted_up o (Shown p) d (λ k. zeros page_size) s u)

-- ---- well formed at the end of each, for those who know no phase

pub show_keeps : (o b p : ℕ) (r : Run) → WellFormed r.bank → (r.lost ≡ none → (board_at r.bank o).state ≡ Up)
    → (r.lost ≡ none → RoomFor 1 (board_at r.bank o)) → (r.lost ≡ none → p < length r.bank.directory) → (r.lost ≡ none → Another b o r.bank)
    → WellFormed (show o b p r).bank
show_keeps o b p r w u m l v = run_formed {d = b} {b = b} anyone (moves_formed (show_moves {Again = λ a. ⊥} o p still u m l v) (formed_begun b r w))

-- "End of replay ..: ..; checkpoint."
pub end_replay_keeps : (b : ℕ) (r : Run) → r.lost ≡ none → b < length r.bank.boards → WellFormedBut b InReplay r.bank → WellFormed (end_replay b r).bank
unfolding end_replay settle settled
end_replay_keeps b r n l w =
    let f : Bank → Bank = settle b in
    let done : (step f r).bank ≡ f r.bank = step_going f r n in
    let v : WellFormed (step f r).bank = rw done (settle_restores b r.bank w) in
    let h : FormedRun b Begun (step f r) = formed_begun b (step f r) v in
    run_formed {d = b} {b = b} anyone
    (moves_formed
    (checkpoint_moves {Again = λ a. ⊥} b h checkpoints still
    (λ e. rw (done, board_at_same b (settled (λ p. eqb (entry_at r.bank p).owner b)) r.bank l)))
    h)
