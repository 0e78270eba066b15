-- Records used one by one, as the loop does it, come to what the definitions use up at once. Assumes nothing.
use Rattle.std.specs.Prelude.{◌≡◌, refl, ℕ, suc, ◌+◌, ◌*◌, ◌<◌, true, false, List, [], ◌∷◌, length, drop, set, eqb, Some, None}
use Rattle.std.proofs.Common.{sym, ap, ◌∙◌, arith, drop-drop}
use Rattle.words.specs.LittleEndian.{bytes_of}
use Rattle.types.specs.declared.Frame.{Frame}
use Rattle.types.specs.declared.Kind.{Kind}
use Rattle.types.specs.declared.Kind.TheVariants.{Got, Shown, Dropped}
use Rattle.types.specs.declared.Record.{Record}
use Rattle.model.specs.Definitions.Parts.{splice, byte_at}
use Rattle.model.specs.Definitions.Layout.{page_size, since_size, frame_size, since_at, place_at, frames_at}
use Rattle.model.specs.Definitions.Bank.{Working, Board, empty_frame, on_working}
use Rattle.model.specs.Definitions.Codec.{encode_frame, encode_board, decode_board_in}
use Rattle.model.specs.Definitions.WellFormed.{is_got, FramesOk, FieldsOk}
use Rattle.model.specs.Definitions.Replay.{records_left, used, use_up, used_up}
use Rattle.model.proofs.Laws.Logic.{by_bool, clash}
use Rattle.model.proofs.Laws.Keeps.Replay.{use_up_used}
use Rattle.model.proofs.Laws.BlockReplay.{used_shown, used_frame}
use Rattle.model.proofs.Laws.Codes.Tests.{by_kind}
use Rattle.model.proofs.Laws.Valid.{frame_ok_empty, frames_ok_set}
use Rattle.model.proofs.Laws.BoardFields.{on_working_fields, used_fields}
use Rattle.steps.specs.Blocks.{IsBlock, board_of}
use Rattle.replay.specs.Clauses.{ready_in, ready, frames_after, uses_next, used_next}
use Rattle.replay.specs.Next.{by_option, Ready, ready_in_some}

module _ {pages : ℕ} {l : List ℕ} (b : IsBlock pages l) where
  pub record_used : (p : ℕ) → p ≡ byte_at l place_at
      → splice (splice l place_at ((p + 1) ∷ [])) since_at (bytes_of since_size 0) ≡ encode_board (on_working (λ w. used w.frames w) (board_of pages l))
  unfolding decode_board_in
  record_used p e = rw e (rw b.back at (used_shown (board_of pages l)))

  pub frame_used : (p : ℕ) (f : Frame) (m : List ℕ) → p < pages → length f.bytes ≡ page_size
      → m ≡ encode_board (on_working (λ w. used w.frames w) (board_of pages l))
      → splice m (frames_at + p * frame_size) (encode_frame f) ≡ encode_board (on_working (λ w. used (set w.frames p f) w) (board_of pages l))
  frame_used p f m h n e = rw (e, ← used_shown (board_of pages l)) (used_frame pages (board_of pages l) b.fields p h f n)

-- each case of the definitions
pub next_none : (x : Board) → ready x ≡ None → (uses_next x ≡ false) × (used_next x ≡ x)
unfolding uses_next used_next
next_none x e = (cc, cc)

pub next_got : (x : Board) (r : Record) → ready x ≡ Some r → is_got r.kind ≡ true → (uses_next x ≡ false) × (used_next x ≡ x)
unfolding uses_next used_next
next_got x r e g = (cc, cc)

pub next_used : (x : Board) (r : Record) → ready x ≡ Some r → is_got r.kind ≡ false
    → (uses_next x ≡ true) × (used_next x ≡ on_working (λ w. used (frames_after r.kind w.frames) w) x)
unfolding uses_next used_next
next_used x r e g = (cc, cc)

-- what the code writes for a shown or a dropped
pub next_leaves : (x : Board) (r : Record) (fs : List Frame) → ready x ≡ Some r → is_got r.kind ≡ false
    → frames_after r.kind x.working.frames ≡ fs → (true ≡ uses_next x) × (on_working (λ w. used fs w) x ≡ used_next x)
unfolding on_working
next_leaves x r fs e g f = let n = next_used x r e g in (sym n.0, rw (n.1, f))

use_up_unready : (l : List Record) (w : Working) → ready_in l w.since ≡ None → use_up l w ≡ w
unfolding ready_in use_up
use_up_unready [] w h = refl
use_up_unready (r ∷ rs) w h =
    by_bool (eqb r.count w.since)
    (λ t. cc)
    (λ t. cc)

use_up_got : (r : Record) (rs : List Record) (w : Working) → is_got r.kind ≡ true → use_up (r ∷ rs) w ≡ w
unfolding use_up is_got
use_up_got r rs w h =
    by_bool (eqb r.count w.since)
    (λ t. by_kind r.kind (λ g p e. cc) (λ p e. clash h (rw e)) (λ p e. clash h (rw e)))
    (λ t. cc)

use_up_first : (r : Record) (rs : List Record) (w : Working) → eqb r.count w.since ≡ true → is_got r.kind ≡ false
    → use_up (r ∷ rs) w ≡ use_up rs (used (frames_after r.kind w.frames) w)
unfolding use_up is_got frames_after
use_up_first r rs w t h = by_kind r.kind (λ g p e. clash (rw e) h) (λ p e. cc) (λ p e. cc)

-- nothing to use
pub used_up_idle : (x : Board) → uses_next x ≡ false → (used_up x ≡ x) × (used_next x ≡ x)
unfolding used_up ready on_working
used_up_idle x h =
    by_option (ready x)
    (λ e. (rw (use_up_unready (records_left x) x.working e), (next_none x e).1))
    (λ r e.
    let s : Ready (records_left x) x.working.since r = ready_in_some (records_left x) x.working.since r e in
    by_bool (is_got r.kind)
    (λ g. (rw (s.first, use_up_got r (drop 1 (records_left x)) x.working g), (next_got x r e g).1))
    (λ g. clash (next_used x r e g).0 h))

-- what a use leaves to the next one
pub record NextUse (pages : ℕ) (x y : Board) : Type 0 where
  pub same : used_up x ≡ used_up y
  pub fields : FieldsOk pages y
  pub fewer : length (records_left y) < length (records_left x)

frames_after_ok : {pages : ℕ} (k : Kind) (fs : List Frame) → FramesOk pages fs → FramesOk pages (frames_after k fs)
unfolding frames_after
frames_after_ok (Got g p) fs h = h
frames_after_ok (Shown p) fs h = h
frames_after_ok (Dropped p) fs h = frames_ok_set fs p empty_frame h frame_ok_empty

first_used : {pages : ℕ} (x : Board) (r : Record) → FieldsOk pages x → Ready (records_left x) x.working.since r → is_got r.kind ≡ false
    → NextUse pages x (on_working (λ w. used (frames_after r.kind w.frames) w) x)
unfolding used_up records_left used on_working
first_used x r ok s g =
    let w : Working = x.working in
    let rs : List Record = x.stable.selected.log in
    let fs : List Frame = frames_after r.kind w.frames in
    let d : drop 1 (drop w.place rs) ≡ drop (w.place + 1) rs = drop-drop 1 w.place rs in
    let n : length (drop w.place rs) ≡ suc (length (drop 1 (drop w.place rs))) = ap length s.first in
    let m : length (drop 1 (drop w.place rs)) ≡ length (drop (w.place + 1) rs) = ap length d in
    let e : use_up (drop w.place rs) w ≡ use_up (drop (w.place + 1) rs) (used fs w) =
    ap (λ (l : List Record). use_up l w) s.first
    ∙ use_up_first r (drop 1 (drop w.place rs)) w s.equal g
    ∙ ap (λ (l : List Record). use_up l (used fs w)) d in
    record {
      same = ap (λ (v : Working). on_working (λ u. v) x) e;
      fields = used_fields ok fs (frames_after_ok r.kind w.frames ok.working.frames);
      fewer = omega arith;
    }

pub used_next_used : {pages : ℕ} (x : Board) → FieldsOk pages x → uses_next x ≡ true → NextUse pages x (used_next x)
unfolding ready
used_next_used x ok h =
    by_option (ready x)
    (λ e. clash h (next_none x e).0)
    (λ r e.
    by_bool (is_got r.kind)
    (λ t. clash h (next_got x r e t).0)
    (λ t. rw (next_used x r e t).1 (first_used x r ok (ready_in_some (records_left x) x.working.since r e) t)))

-- ---- every field stays in range

pub used_up_fields : {pages : ℕ} (x : Board) → FieldsOk pages x → FieldsOk pages (used_up x)
unfolding used_up
used_up_fields x ok =
    on_working_fields ok (use_up (records_left x)) (use_up_used (records_left x) x.working ok.working).ok
