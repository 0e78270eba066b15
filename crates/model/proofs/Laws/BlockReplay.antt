-- Restart and replay as writes into a board's block; frames that a loop replaces page by page. Assumes nothing.
use Rattle.std.specs.Prelude.{◌≡◌, ℕ, suc, ◌+◌, ◌*◌, ◌≤◌, ◌<◌, List, [], ◌∷◌, ◌++◌, get_or, set, take, drop}
use Rattle.std.proofs.Math.Path.{refl}
use Rattle.std.proofs.Common.{sym, ◌∙◌, arith, append-nil, length-append, drop-cons, take_all}
use Rattle.std.proofs.Math.ListN.{length, length-drop, drop_of_length-le}
use Rattle.std.proofs.Math.Seq.{take-suc, append_snoc, length-take-le}
use Rattle.std.proofs.lemmas.List.{set_at, get_or_at}
use Rattle.words.specs.LittleEndian.{bytes_of}
use Rattle.types.specs.declared.Frame.{Frame}
use Rattle.types.specs.declared.State.TheVariants.{Replaying}
use Rattle.model.specs.Definitions.Parts.{splice}
use Rattle.model.specs.Definitions.Layout.{page_size, frame_size, number_size, since_size, state_at, number_at, since_at, place_at, frames_at}
use Rattle.model.specs.Definitions.Bank.{Board, empty_frame, frame_at, with_state, with_number, with_since, with_place, on_working, on_frames}
use Rattle.model.specs.Definitions.Codec.{encode_frame, state_byte, encode_board}
use Rattle.model.specs.Definitions.Steps.{with_frame}
use Rattle.model.specs.Definitions.Replay.{loaded, used}
use Rattle.model.specs.Definitions.WellFormed.{FramesOk, FieldsOk}
unfoldable pub use Rattle.model.specs.Clauses.{restarting}
use Rattle.model.proofs.Laws.Lists.{each_append, each_take, each_drop}
use Rattle.model.proofs.Laws.BlockFields.{write_state, write_number, write_since, write_place, write_frame}
use Rattle.model.proofs.Laws.Valid.{working_ok_number, working_ok_since, working_ok_place, working_ok_frames}
use Rattle.model.proofs.Laws.BoardFields.{with_state_fields, on_working_fields, with_working_fields}

-- ---- elements replaced one by one

module _ {A : Type 0} where
  -- the first n elements as in another list
  unfoldable pub replaced : ℕ → List A → List A → List A
  replaced n gs fs = take n gs ++ drop n fs

  pub replaced_all : (n : ℕ) (gs fs : List A) → length gs ≡ n → length fs ≡ n → replaced n gs fs ≡ gs
  unfolding replaced
  replaced_all n gs fs e h = rw (take_all n gs (omega arith), drop_of_length-le fs {i = n} (omega arith), append-nil)

  pub length_replaced : (n : ℕ) (gs fs : List A) → length gs ≡ length fs → n ≤ length fs → length (replaced n gs fs) ≡ length fs
  unfolding replaced
  length_replaced n gs fs e h =
      let m : length (take n gs) ≡ n = length-take-le n gs (omega arith) in
      rw (length-append (take n gs) (drop n fs), length-drop n fs) (omega arith)

  module _ (n : ℕ) (gs fs : List A) (d : A) (e : length gs ≡ length fs) (h : n < length fs) where
    abbrev front : length (take n gs) ≡ n
    front = length-take-le n gs (omega arith)

    -- element n is still the old one
    pub replaced_here : get_or (replaced n gs fs) n d ≡ get_or fs n d
    unfolding replaced
    replaced_here = rw (drop-cons fs n d h) (get_or_at (take n gs) (get_or fs n d) (drop (suc n) fs) d n front)

    -- element n stored
    pub replaced_next : set (replaced n gs fs) n (get_or gs n d) ≡ replaced (suc n) gs fs
    unfolding replaced
    replaced_next =
        rw (drop-cons fs n d h, take-suc gs n d (omega arith), append_snoc (take n gs) (get_or gs n d) (drop (suc n) fs))
        (set_at (take n gs) (get_or fs n d) (drop (suc n) fs) (get_or gs n d) n front)

-- ---- a loop that replaces the frames of a block, page by page

-- the first p frames as in another list
abbrev pub replacing : ℕ → List Frame → Board → Board
replacing p gs x = on_working (on_frames (replaced p gs)) x

module _ (pages : ℕ) (x : Board) (gs : List Frame) (old : FramesOk pages x.working.frames) (new : FramesOk pages gs) where
  same_count : length gs ≡ length x.working.frames
  same_count = new.count ∙ sym old.count

  pub replacing_none : replacing 0 gs x ≡ x
  unfolding on_working on_frames replaced
  replacing_none = refl

  pub replacing_all : replacing pages gs x ≡ on_working (on_frames (λ fs. gs)) x
  unfolding on_working on_frames
  replacing_all = rw (replaced_all pages gs x.working.frames new.count old.count)

  replaced_ok : (p : ℕ) → p ≤ pages → FramesOk pages (replaced p gs x.working.frames)
  unfolding replaced
  replaced_ok p h =
      record {
        count = length_replaced p gs x.working.frames same_count (omega (arith, old.count)) ∙ old.count;
        frames = each_append (take p gs) (drop p x.working.frames) (each_take p gs new.frames) (each_drop p x.working.frames old.frames);
      }

  pub replacing_fields : FieldsOk pages x → (p : ℕ) → p ≤ pages → FieldsOk pages (replacing p gs x)
  unfolding on_frames
  replacing_fields ok p h = on_working_fields ok (on_frames (replaced p gs)) (working_ok_frames ok.working (replaced_ok p h))

  module _ (p : ℕ) (h : p < pages) where
    inside : p < length x.working.frames
    inside = omega (arith, old.count)

    -- the frame of page p is still the old one
    pub replacing_here : frame_at (replacing p gs x).working.frames p ≡ frame_at x.working.frames p
    unfolding on_working on_frames frame_at
    replacing_here = replaced_here p gs x.working.frames empty_frame same_count inside

    -- page p's frame put in, however it was written
    pub replacing_next : (f : Frame) → f ≡ frame_at gs p → with_frame p f (replacing p gs x) ≡ replacing (suc p) gs x
    unfolding with_frame on_working on_frames frame_at
    replacing_next f e = rw (e, replaced_next p gs x.working.frames empty_frame same_count inside)

-- ---- restart

pub restarting_loaded : (x : Board) → on_working (on_frames (λ fs. x.stable.selected.frames)) (restarting x) ≡ loaded x
unfolding restarting on_working on_frames loaded
restarting_loaded x = refl

-- state, number, since, place
abbrev pub restart_written : Board → List ℕ
restart_written x =
    splice
    (splice
    (splice (splice (encode_board x) state_at (state_byte Replaying ∷ [])) number_at (bytes_of number_size x.stable.selected.number))
    since_at (bytes_of since_size 0))
    place_at (0 ∷ [])

pub restarting_bytes : (x : Board) → restart_written x ≡ encode_board (restarting x)
unfolding restarting
restarting_bytes x =
    let a : Board = with_state Replaying x in
    let b : Board = on_working (with_number x.stable.selected.number) a in
    rw (write_state x Replaying, write_number a x.stable.selected.number, write_since b 0) (write_place (on_working (with_since 0) b) 0)

module _ (pages : ℕ) (x : Board) (ok : FieldsOk pages x) where
  pub restarting_fields : FieldsOk pages (restarting x)
  unfolding restarting on_working
  restarting_fields =
      with_working_fields (with_state_fields ok Replaying)
      (working_ok_place (working_ok_since (working_ok_number ok.working x.stable.selected.number ok.selected.number) 0 (omega arith)) 0)

-- ---- a stored record used

-- the next place, since 0
abbrev pub use_written : Board → List ℕ
use_written x = splice (splice (encode_board x) place_at ((x.working.place + 1) ∷ [])) since_at (bytes_of since_size 0)

-- a shown
pub used_shown : (x : Board) → use_written x ≡ encode_board (on_working (λ w. used w.frames w) x)
unfolding on_working used
used_shown x = rw (write_place x (x.working.place + 1)) (write_since (on_working (with_place (x.working.place + 1)) x) 0)

module _ (pages : ℕ) (x : Board) (ok : FieldsOk pages x) (p : ℕ) (h : p < pages) where
  -- one that leaves another frame
  pub used_frame : (f : Frame) → length f.bytes ≡ page_size
      → splice (use_written x) (frames_at + p * frame_size) (encode_frame f) ≡ encode_board (on_working (λ w. used (set w.frames p f) w) x)
  unfolding on_working on_frames with_frame used
  used_frame f e = rw (used_shown x) (write_frame pages (on_working (λ w. used w.frames w) x) p f ok.working.frames e h)
