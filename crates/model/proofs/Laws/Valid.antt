-- What is valid stays valid where a part of it changes: a frame, frames, a record, a log, an area, a working memory; one law for each field.
-- Whole boards are in BoardFields. Assumes nothing.
use Rattle.std.specs.Prelude.{◌≡◌, refl, ◌≢◌, ℕ, ◌+◌, ◌≤◌, ◌<◌, Bool, true, false, List, [], ◌∷◌, map, length, set}
use Rattle.std.proofs.Common.{sym, ap, ◌∙◌, arith, length-append, length-set}
use Rattle.std.proofs.Math.Decide.{dec_lt}
use Rattle.std.proofs.lemmas.List.{length-map}
use Rattle.std.proofs.Math.Seq.{set_out}
use Rattle.words.specs.Bytes.{each_nil, each_cons}
use Rattle.types.specs.declared.Right.{Right}
use Rattle.types.specs.declared.Right.TheVariants.{None, Copy, Own}
use Rattle.types.specs.declared.Frame.{Frame}
use Rattle.types.specs.declared.CopyOrOwn.{CopyOrOwn}
use Rattle.types.specs.declared.Kind.{Kind}
use Rattle.types.specs.declared.Kind.TheVariants.{Got}
use Rattle.types.specs.declared.Record.{Record}
use Rattle.model.specs.Definitions.Parts.{zeros, each}
use Rattle.model.specs.Definitions.Layout.{byte_values, page_size, slot_count, last_since, last_number}
use Rattle.model.specs.Definitions.Bank.{Area, Working, empty_frame, frame_at, with_area_number, with_area_frames, with_area_log, with_number, with_since}
use Rattle.model.specs.Definitions.Bank.{with_place, with_frames, with_log}
use Rattle.model.specs.Definitions.Codec.{page_of}
use Rattle.model.specs.Definitions.WellFormed.{FrameOk, is_got, RecordOk, LogOk, FramesOk, AreaOk, WorkingOk}
use Rattle.model.specs.Definitions.Steps.{appended, Cell, with_byte, with_bytes, with_record}
use Rattle.model.specs.Definitions.Replay.{used, settled_frame}
use Rattle.model.specs.Clauses.{Recordable}
pub use Rattle.model.specs.Clauses.{Writable}
use Rattle.model.proofs.Laws.Logic.{by_eq, clash}
use Rattle.model.proofs.Laws.Lists.{each_head, each_tail, each_get_d_any, each_set, each_imp, each_append, each_map, each_each, length_each}
use Rattle.model.proofs.Laws.Zeros.{zeros_bytes, zeros_length}
use Rattle.model.proofs.Laws.Boards.{frame_at_same, frame_at_other}

-- ---- frames

pub copy_some : Copy ≢ None
copy_some e = let z : ◌≡◌ {A = ℕ} 0 1 = cc in absurd (omega arith)

pub own_some : Own ≢ None
own_some e = let z : ◌≡◌ {A = ℕ} 0 1 = cc in absurd (omega arith)

pub frame_ok_empty : FrameOk empty_frame
unfolding empty_frame
frame_ok_empty = record { size = zeros_length page_size; bytes = zeros_bytes page_size; empty = λ e. refl }

-- the same bytes under a right
pub frame_ok_right : {f : Frame} (r : Right) → r ≢ None → FrameOk f → FrameOk (record { right = r; bytes = f.bytes })
frame_ok_right r n h = record { size = h.size; bytes = h.bytes; empty = λ e. absurd (n e) }

pub frame_ok_settled : (t : Bool) (f : Frame) → FrameOk f → FrameOk (settled_frame t f)
unfolding settled_frame
frame_ok_settled true f h = frame_ok_right Own own_some h
frame_ok_settled false f h = frame_ok_empty

-- the frames as the end of replay leaves them
abbrev pub settled_frames : (ℕ → Bool) → List Frame → List Frame
settled_frames owned fs = each (λ p f. settled_frame (owned p) f) fs

pub settled_frames_ok : {pages : ℕ} (owned : ℕ → Bool) (fs : List Frame) → FramesOk pages fs → FramesOk pages (settled_frames owned fs)
settled_frames_ok owned fs ok =
    record {
      count = length_each (λ p f. settled_frame (owned p) f) fs ∙ ok.count;
      frames = each_each (λ p f. settled_frame (owned p) f) fs ok.frames (λ p f h. frame_ok_settled (owned p) f h);
    }

-- and as a power loss leaves them
pub empty_frames_ok : {pages : ℕ} (fs : List Frame) → FramesOk pages fs → FramesOk pages (map (λ f. empty_frame) fs)
empty_frames_ok fs ok = record { count = length-map fs (λ f. empty_frame) ∙ ok.count; frames = each_map (λ f. empty_frame) fs (λ f. frame_ok_empty) }

-- a frame of a valid list of frames, at any page
pub frame_ok_at : {pages : ℕ} (fs : List Frame) (p : ℕ) → FramesOk pages fs → FrameOk (frame_at fs p)
unfolding frame_at
frame_ok_at fs p h = each_get_d_any fs p empty_frame h.frames frame_ok_empty

pub frames_ok_set : {pages : ℕ} (fs : List Frame) (p : ℕ) (f : Frame) → FramesOk pages fs → FrameOk f → FramesOk pages (set fs p f)
frames_ok_set fs p f h v = record { count = rw (length-set fs p f) h.count; frames = each_set fs p f h.frames v }

-- a frame that keeps its right
right_set : (fs : List Frame) (p q : ℕ) (f : Frame) → f.right ≡ (frame_at fs p).right → (frame_at (set fs p f) q).right ≡ (frame_at fs q).right
right_set fs p q f h =
    by_eq q p
    (λ e.
    elim (dec_lt p (length fs)) [
      | yes l ↦ rw (e, frame_at_same fs p f l) h
      | no n ↦ rw (set_out fs p f (omega arith))
    ])
    (λ n. rw (frame_at_other fs p q f n))

-- ---- bytes written

right_with_byte : (c : Cell) (v : ℕ) (fs : List Frame) (q : ℕ) → (frame_at (with_byte c v fs) q).right ≡ (frame_at fs q).right
unfolding with_byte
right_with_byte c v fs q =
    right_set fs c.page q (record { right = (frame_at fs c.page).right; bytes = set (frame_at fs c.page).bytes c.offset v }) refl

frames_ok_with_byte : {pages : ℕ} (c : Cell) (v : ℕ) (fs : List Frame) → FramesOk pages fs → v < byte_values → (frame_at fs c.page).right ≢ None
    → FramesOk pages (with_byte c v fs)
unfolding with_byte
frames_ok_with_byte c v fs h l n =
    let f : FrameOk (frame_at fs c.page) = frame_ok_at fs c.page h in
    frames_ok_set fs c.page (record { right = (frame_at fs c.page).right; bytes = set (frame_at fs c.page).bytes c.offset v }) h
    (record {
      size = length-set (frame_at fs c.page).bytes c.offset v ∙ f.size;
      bytes = each_set (frame_at fs c.page).bytes c.offset v f.bytes l;
      empty = λ e. absurd (n e);
    })

-- the rights are those of before
pub right_with_bytes : (ws : List (Cell × ℕ)) (fs : List Frame) (q : ℕ) → (frame_at (with_bytes ws fs) q).right ≡ (frame_at fs q).right
unfolding with_bytes
right_with_bytes [] fs q = refl
right_with_bytes (w ∷ ws) fs q = right_with_bytes ws (with_byte w.0 w.1 fs) q ∙ right_with_byte w.0 w.1 fs q

pub frames_ok_with_bytes : {pages : ℕ} (ws : List (Cell × ℕ)) (fs : List Frame) → FramesOk pages fs → Writable fs ws → FramesOk pages (with_bytes ws fs)
unfolding with_bytes
frames_ok_with_bytes [] fs h e = h
frames_ok_with_bytes (w ∷ ws) fs h e =
    frames_ok_with_bytes ws (with_byte w.0 w.1 fs)
    (frames_ok_with_byte w.0 w.1 fs h (each_head e).0 (each_head e).1)
    (each_imp ws (λ v p. (p.0, λ i. p.1 (sym (right_with_byte w.0 w.1 fs v.0.page) ∙ i))) (each_tail e))

-- ---- logs

module _ {pages : ℕ} {l : List Record} where
  -- one record more takes a slot
  pub log_ok_appended : {r : Record} → LogOk pages l → RecordOk pages r → length l < slot_count → LogOk pages (appended r l)
  unfolding appended
  log_ok_appended {r} h v m =
      record {
        records = each_append l (r ∷ []) h.records (each_cons v each_nil);
        count = rw (length-append l (r ∷ [])) (omega arith);
      }

  -- the first record taken away
  pub log_ok_moved : (r : Record) (rs : List Record) → l ≡ r ∷ rs → LogOk pages l → LogOk pages rs
  log_ok_moved r rs e h = record { records = each_tail (rw e at h.records); count = omega (arith, h.count, ap length e) }

-- ---- what a record may hold

-- a shown or dropped
pub recordable_plain : {pages : ℕ} (kind : Kind) {peer : ℕ} → is_got kind ≡ false → page_of kind < pages → peer < byte_values
    → Recordable pages kind peer (zeros page_size)
recordable_plain kind g m h n l =
    record { count = omega arith; page = m; peer = h; size = zeros_length page_size; bytes = zeros_bytes page_size; plain = λ e. refl }

-- a got with the bytes of a frame
pub recordable_got : {pages p peer : ℕ} {f : Frame} (g : CopyOrOwn) → FrameOk f → p < pages → peer < byte_values → Recordable pages (Got g p) peer f.bytes
unfolding page_of is_got
recordable_got g h m i n l = record { count = omega arith; page = m; peer = i; size = h.size; bytes = h.bytes; plain = λ e. clash refl e }

-- ---- an area, field by field

module _ {pages : ℕ} {a : Area} (ok : AreaOk pages a) where
  pub area_ok_number : (n : ℕ) → n ≤ last_number → AreaOk pages (with_area_number n a)
  area_ok_number n h = record { number = h; frames = ok.frames; log = ok.log }

  pub area_ok_frames : {fs : List Frame} → FramesOk pages fs → AreaOk pages (with_area_frames fs a)
  area_ok_frames h = record { number = ok.number; frames = h; log = ok.log }

  pub area_ok_log : {l : List Record} → LogOk pages l → AreaOk pages (with_area_log l a)
  area_ok_log h = record { number = ok.number; frames = ok.frames; log = h }

  pub area_ok_record : {r : Record} → RecordOk pages r → length a.log < slot_count → AreaOk pages (with_record r a)
  area_ok_record v h = area_ok_log (log_ok_appended ok.log v h)

-- ---- a working memory, field by field

module _ {pages : ℕ} {w : Working} (ok : WorkingOk pages w) where
  pub working_ok_number : (n : ℕ) → n ≤ last_number → WorkingOk pages (with_number n w)
  working_ok_number n h = record { number = h; since = ok.since; frames = ok.frames; log = ok.log }

  pub working_ok_since : (n : ℕ) → n ≤ last_since → WorkingOk pages (with_since n w)
  working_ok_since n h = record { number = ok.number; since = omega arith; frames = ok.frames; log = ok.log }

  pub working_ok_place : (n : ℕ) → WorkingOk pages (with_place n w)
  working_ok_place n = record { number = ok.number; since = ok.since; frames = ok.frames; log = ok.log }

  pub working_ok_frames : {fs : List Frame} → FramesOk pages fs → WorkingOk pages (with_frames fs w)
  working_ok_frames h = record { number = ok.number; since = ok.since; frames = h; log = ok.log }

  pub working_ok_log : {l : List Record} → LogOk pages l → WorkingOk pages (with_log l w)
  working_ok_log h = record { number = ok.number; since = ok.since; frames = ok.frames; log = h }

-- a stored record used
pub working_ok_used : {pages : ℕ} {w : Working} → WorkingOk pages w → {fs : List Frame} → FramesOk pages fs → WorkingOk pages (used fs w)
unfolding used
working_ok_used {w} ok h = working_ok_since (working_ok_place (working_ok_frames ok h) (w.place + 1)) 0 (omega arith)
