-- A board's block as bytes, field by field: what stands at each place of `encode_board x`, and that one field changed is one splice.
-- Steps of whole boards are in BlockWorking. Assumes nothing.
use Rattle.std.specs.Prelude.{◌≡◌, get_or}
use Rattle.std.proofs.Math.Path.{refl, sym, ap}
use Rattle.std.proofs.Common.{◌∙◌, arith, length-append, length-set}
use Prim.Native.Nat.{ℕ, ◌+◌, ◌-◌, ◌*◌, ◌≤◌, ◌<◌}
use mathlib.Core.List.{List, [], ◌∷◌, ◌++◌}
use Rattle.std.proofs.Math.ListN.{length, set}
use Rattle.words.specs.Bytes.{Each}
use Rattle.words.specs.LittleEndian.{bytes_of, number_of}
use Rattle.words.specs.LittleEndianLaws.{length_bytes_of, number_of_bytes_of}
use Rattle.types.specs.declared.Frame.{Frame}
use Rattle.types.specs.declared.Record.{Record}
use Rattle.types.specs.declared.State.{State}
use Rattle.model.specs.Definitions.Parts.{part, splice, byte_at, zeros, encode_all}
use Rattle.model.specs.Definitions.Layout.{page_size, frame_size, frame_bytes_at, right_at, slot_size, slots_size, fuse_size, number_size, since_size, state_at}
use Rattle.model.specs.Definitions.Layout.{selector_at, fuse_at, number_at, since_at, place_at, volatile_count_at, frames_at, slots_at, today}
use Rattle.model.specs.Definitions.Bank.{Board, empty_frame, frame_at, with_state, with_number, with_since, with_place, with_log, on_working, on_frames}
use Rattle.model.specs.Definitions.Codec.{right_byte, encode_frame, decode_frame, encode_record, decode_record, encode_log, state_byte, selector_byte}
use Rattle.model.specs.Definitions.Codec.{encode_fixed, encode_stable, encode_board, encode_log_in, encode_fixed_in, encode_board_in}
use Rattle.model.specs.Definitions.Steps.{with_fuse, with_frame, with_byte, cell_byte}
use Rattle.model.specs.Definitions.WellFormed.{FramesOk, FieldsOk}
use Rattle.model.proofs.Laws.Lists.{each_imp, each_get_d}
use Rattle.model.proofs.Laws.Parts.{part_part, part_append_left, part_end, splice_append_left, splice_append_right, splice_front, splice_at, splice_amid}
use Rattle.model.proofs.Laws.Parts.{splice_all, splice_behind, splice_within, splice_one, byte_at_part, index_in, part_encode_all, encode_all_set}
use Rattle.model.proofs.Laws.Codec.{length_encode_frame, decode_encode_frame, length_encode_frames, length_encode_record, decode_encode_record}
use Rattle.model.proofs.Laws.Codec.{length_encode_records}
use Rattle.model.proofs.Laws.CodecBank.{switches, length_encode_fixed, fixed_state, fixed_selector, fixed_number, fixed_since, board_fixed, board_byte}
use Rattle.model.proofs.Laws.CodecBank.{board_frames, board_slots}
use Rattle.model.proofs.Laws.Valid.{frame_ok_at}

-- ---- writing the fixed fields: for any board, whatever its values

-- what stands behind the fixed fields
abbrev pub behind_fixed : Board → List ℕ
behind_fixed x = encode_all encode_frame x.working.frames ++ (encode_log x.working.log ++ encode_stable x.stable)

-- a block is at least its fixed fields
pub fixed_inside : (x : Board) → frames_at ≤ length (encode_board x)
unfolding encode_board_in
fixed_inside x = rw (length-append (encode_fixed x) (behind_fixed x), length_encode_fixed today x) (omega arith)

-- a splice in the fixed fields leaves what stands behind them
pub write_fixed : (x y : Board) (a : ℕ) (v : List ℕ) → a + length v ≤ frames_at → splice (encode_fixed x) a v ≡ encode_fixed y
    → behind_fixed x ≡ behind_fixed y → splice (encode_board x) a v ≡ encode_board y
unfolding encode_board_in
write_fixed x y a v h e b =
    splice_append_left (encode_fixed x) (behind_fixed x) a v (rw (length_encode_fixed today x) h) ∙ rw (e, b)

-- a number over another of the same width
same_width : (w m n : ℕ) → length (bytes_of w m) ≡ length (bytes_of w n)
same_width w m n = rw (length_bytes_of w m, length_bytes_of w n)

number_fits : (a w n b : ℕ) → a + w ≤ b → a + length (bytes_of w n) ≤ b
number_fits a w n b h = rw (length_bytes_of w n) h

module _ (x : Board) where
  pub write_state : (s : State) → splice (encode_board x) state_at (state_byte s ∷ []) ≡ encode_board (with_state s x)
  unfolding encode_fixed_in splice
  write_state s = write_fixed x (with_state s x) state_at (state_byte s ∷ []) (omega arith) refl refl

  -- the numbers behind the two bytes before the fuse
  abbrev fuse_bytes : List ℕ
  fuse_bytes = bytes_of fuse_size x.fuse

  abbrev number_bytes : List ℕ
  number_bytes = bytes_of number_size x.working.number

  abbrev since_bytes : List ℕ
  since_bytes = bytes_of since_size x.working.since

  abbrev last_two : List ℕ
  last_two = x.working.place ∷ length x.working.log ∷ []

  pub write_fuse : (n : ℕ) → splice (encode_board x) fuse_at (bytes_of fuse_size n) ≡ encode_board (with_fuse n x)
  unfolding encode_fixed_in with_fuse
  write_fuse n =
      write_fixed x (with_fuse n x) fuse_at (bytes_of fuse_size n) (number_fits fuse_at fuse_size n frames_at (omega arith))
      (splice_at (switches x) fuse_bytes (bytes_of fuse_size n) (number_bytes ++ (since_bytes ++ last_two)) fuse_at refl (same_width fuse_size x.fuse n)) refl

  pub write_number : (n : ℕ) → splice (encode_board x) number_at (bytes_of number_size n) ≡ encode_board (on_working (with_number n) x)
  unfolding encode_fixed_in on_working
  write_number n =
      write_fixed x (on_working (with_number n) x) number_at (bytes_of number_size n) (number_fits number_at number_size n frames_at (omega arith))
      (splice_append_right (switches x) _ number_at fuse_size (bytes_of number_size n) refl
      ∙ ap (λ (r : List ℕ). switches x ++ r)
      (splice_at fuse_bytes number_bytes (bytes_of number_size n) (since_bytes ++ last_two) fuse_size
      (length_bytes_of fuse_size x.fuse) (same_width number_size x.working.number n)))
      refl

  -- a splice behind the access number
  behind_number : (r : List ℕ) (a b : ℕ) (v : List ℕ) → since_at + b ≡ a
      → splice (switches x ++ (fuse_bytes ++ (number_bytes ++ r))) a v ≡ switches x ++ (fuse_bytes ++ (number_bytes ++ splice r b v))
  behind_number r a b v e =
      splice_behind (switches x) fuse_bytes (number_bytes ++ r) a (number_size + b) v (rw (length_bytes_of fuse_size x.fuse) (omega arith))
      ∙ ap (λ (t : List ℕ). switches x ++ (fuse_bytes ++ t))
      (splice_append_right number_bytes r (number_size + b) b v (rw (length_bytes_of number_size x.working.number)))

  pub write_since : (n : ℕ) → splice (encode_board x) since_at (bytes_of since_size n) ≡ encode_board (on_working (with_since n) x)
  unfolding encode_fixed_in on_working
  write_since n =
      write_fixed x (on_working (with_since n) x) since_at (bytes_of since_size n) (number_fits since_at since_size n frames_at (omega arith))
      (behind_number (since_bytes ++ last_two) since_at 0 (bytes_of since_size n) refl
      ∙ rw (splice_front since_bytes (bytes_of since_size n) last_two (same_width since_size x.working.since n)))
      refl

  -- a splice in the last two bytes
  in_last_two : (a b : ℕ) (v : List ℕ) → place_at + b ≡ a
      → splice (switches x ++ (fuse_bytes ++ (number_bytes ++ (since_bytes ++ last_two)))) a v
      ≡ switches x ++ (fuse_bytes ++ (number_bytes ++ (since_bytes ++ splice last_two b v)))
  in_last_two a b v e =
      behind_number (since_bytes ++ last_two) a (since_size + b) v (omega arith)
      ∙ rw (splice_append_right since_bytes last_two (since_size + b) b v (rw (length_bytes_of since_size x.working.since)))

  pub write_place : (n : ℕ) → splice (encode_board x) place_at (n ∷ []) ≡ encode_board (on_working (with_place n) x)
  unfolding encode_fixed_in on_working splice
  write_place n = write_fixed x (on_working (with_place n) x) place_at (n ∷ []) (omega arith) (in_last_two place_at 0 (n ∷ []) refl) refl

  -- the count of another volatile log
  pub count_written : (g : List Record) → splice (encode_fixed x) volatile_count_at (length g ∷ []) ≡ encode_fixed (on_working (with_log g) x)
  unfolding encode_fixed_in on_working splice
  count_written g = in_last_two volatile_count_at 1 (length g ∷ []) refl

-- valid frames have the width of a frame
pub wide_frames : {pages : ℕ} (fs : List Frame) → FramesOk pages fs → Each (λ f. length (encode_frame f) ≡ frame_size) fs
wide_frames fs ok = each_imp fs (λ f o. length_encode_frame f o.size) ok.frames

-- ---- reading the fixed fields

module _ (pages : ℕ) (x : Board) (ok : FieldsOk pages x) where
  pub read_state : byte_at (encode_board x) state_at ≡ state_byte x.state
  read_state = board_byte pages x ok state_at (omega arith) ∙ fixed_state today x

  pub read_selector : byte_at (encode_board x) selector_at ≡ selector_byte x.stable.second
  read_selector = board_byte pages x ok selector_at (omega arith) ∙ fixed_selector today x

  pub read_number : number_of (part (encode_board x) number_at number_size) ≡ x.working.number
  read_number =
      rw (board_fixed pages x ok number_at number_size (omega arith), fixed_number today x)
      (number_of_bytes_of number_size x.working.number (omega (arith, ok.working.number)))

  pub read_since : number_of (part (encode_board x) since_at since_size) ≡ x.working.since
  read_since =
      rw (board_fixed pages x ok since_at since_size (omega arith), fixed_since today x)
      (number_of_bytes_of since_size x.working.since (omega (arith, ok.working.since)))

  -- ---- reading a frame: whole, its right, its bytes, one of them

  pub frame_part : (p : ℕ) → p < pages → part (encode_board x) (frames_at + p * frame_size) frame_size ≡ encode_frame (frame_at x.working.frames p)
  unfolding frame_at
  frame_part p h =
      sym (part_part (encode_board x) frames_at (pages * frame_size) (p * frame_size) frame_size (index_in frame_size pages p h))
      ∙ rw (board_frames pages x ok)
      (part_encode_all encode_frame frame_size x.working.frames p empty_frame (wide_frames x.working.frames ok.working.frames)
      (omega (arith, ok.working.frames.count)))

  pub read_frame : (p : ℕ) → p < pages → decode_frame (part (encode_board x) (frames_at + p * frame_size) frame_size) ≡ frame_at x.working.frames p
  read_frame p h = rw (frame_part p h) (decode_encode_frame (frame_at x.working.frames p) (frame_ok_at x.working.frames p ok.working.frames))

  pub read_right : (p : ℕ) → p < pages → byte_at (encode_board x) (frames_at + p * frame_size + right_at) ≡ right_byte (frame_at x.working.frames p).right
  unfolding encode_frame byte_at
  read_right p h = sym (byte_at_part (encode_board x) (frames_at + p * frame_size) frame_size right_at (omega arith)) ∙ rw (frame_part p h)

  pub read_bytes : (p : ℕ) → p < pages
      → part (encode_board x) (frames_at + p * frame_size + frame_bytes_at) page_size ≡ (frame_at x.working.frames p).bytes
  unfolding encode_frame
  read_bytes p h =
      let f : Frame = frame_at x.working.frames p in
      sym (part_part (encode_board x) (frames_at + p * frame_size) frame_size frame_bytes_at page_size (omega arith))
      ∙ rw (frame_part p h)
      (part_end (right_byte f.right ∷ []) f.bytes frame_bytes_at page_size refl (frame_ok_at x.working.frames p ok.working.frames).size)

  pub read_byte : (p o : ℕ) → p < pages → o < page_size
      → byte_at (encode_board x) (frames_at + p * frame_size + frame_bytes_at + o) ≡ cell_byte x.working.frames (record { page = p; offset = o })
  unfolding cell_byte byte_at
  read_byte p o h k =
      sym (byte_at_part (encode_board x) (frames_at + p * frame_size + frame_bytes_at) page_size o k) ∙ rw (read_bytes p h)

  -- ---- reading a volatile record

  pub slot_part : (i : ℕ) (d : Record) → i < length x.working.log
      → part (encode_board x) (slots_at pages + i * slot_size) slot_size ≡ encode_record (get_or x.working.log i d)
  unfolding encode_log_in
  slot_part i d h =
      let rs : List Record = x.working.log in
      let bytes : List ℕ = encode_all encode_record rs in
      let m : i * slot_size + slot_size ≤ length rs * slot_size = index_in slot_size (length rs) i h in
      let e : length bytes ≡ length rs * slot_size = length_encode_records pages rs ok.working.log.records in
      sym (part_part (encode_board x) (slots_at pages) slots_size (i * slot_size) slot_size (omega (arith, ok.working.log.count)))
      ∙ rw (board_slots pages x ok)
      (part_append_left bytes (zeros (slots_size - length rs * slot_size)) (i * slot_size) slot_size (omega arith)
      ∙ part_encode_all encode_record slot_size rs i d (each_imp rs (λ r o. length_encode_record today r o.size) ok.working.log.records) h)

  pub read_record : (i : ℕ) (d : Record) → i < length x.working.log
      → decode_record (part (encode_board x) (slots_at pages + i * slot_size) slot_size) ≡ get_or x.working.log i d
  read_record i d h =
      rw (slot_part i d h)
      (decode_encode_record pages (get_or x.working.log i d) (each_get_d x.working.log i d ok.working.log.records h))

-- ---- writing frames

-- a splice in the frames
pub write_frames : (pages : ℕ) (x : Board) (g : List Frame → List Frame) (b : ℕ) (v : List ℕ) → FramesOk pages x.working.frames
    → b + length v ≤ pages * frame_size
    → splice (encode_all encode_frame x.working.frames) b v ≡ encode_all encode_frame (g x.working.frames)
    → splice (encode_board x) (frames_at + b) v ≡ encode_board (on_working (on_frames g) x)
unfolding encode_board_in encode_fixed_in on_working on_frames
write_frames pages x g b v ok h e =
    let n : length (encode_all encode_frame x.working.frames) ≡ pages * frame_size = length_encode_frames pages x.working.frames ok in
    splice_amid (encode_fixed x) (encode_all encode_frame x.working.frames) (encode_log x.working.log ++ encode_stable x.stable)
    (frames_at + b) b v (rw (length_encode_fixed today x)) (omega arith)
    ∙ rw e

-- one frame
pub write_frame : (pages : ℕ) (x : Board) (p : ℕ) (f : Frame) → FramesOk pages x.working.frames → length f.bytes ≡ page_size → p < pages
    → splice (encode_board x) (frames_at + p * frame_size) (encode_frame f) ≡ encode_board (with_frame p f x)
unfolding with_frame
write_frame pages x p f ok e h =
    let n : length (encode_frame f) ≡ frame_size = length_encode_frame f e in
    let m : p * frame_size + frame_size ≤ pages * frame_size = index_in frame_size pages p h in
    write_frames pages x (λ fs. set fs p f) (p * frame_size) (encode_frame f) ok (omega arith)
    (sym (encode_all_set encode_frame frame_size x.working.frames p f (wide_frames x.working.frames ok) n (omega (arith, ok.count))))

-- a splice in one frame
write_in_frame : (pages : ℕ) (x : Board) (p b a : ℕ) (v : List ℕ) (f : Frame) → FramesOk pages x.working.frames → length f.bytes ≡ page_size
    → p < pages → frames_at + p * frame_size + b ≡ a → b + length v ≤ frame_size
    → splice (encode_frame (frame_at x.working.frames p)) b v ≡ encode_frame f → splice (encode_board x) a v ≡ encode_board (with_frame p f x)
unfolding with_frame frame_at
write_in_frame pages x p b a v f ok e h i k s =
    let fs : List Frame = x.working.frames in
    let l : List ℕ = encode_all encode_frame fs in
    let wide : Each (λ g. length (encode_frame g) ≡ frame_size) fs = wide_frames fs ok in
    let m : p * frame_size + frame_size ≤ pages * frame_size = index_in frame_size pages p h in
    let n : length l ≡ pages * frame_size = length_encode_frames pages fs ok in
    let q : splice l (p * frame_size + b) v ≡ encode_all encode_frame (set fs p f)
    = sym (splice_within l (p * frame_size) frame_size b v k (omega arith))
    ∙ rw (part_encode_all encode_frame frame_size fs p empty_frame wide (omega (arith, ok.count)), s)
    (sym (encode_all_set encode_frame frame_size fs p f wide (length_encode_frame f e) (omega (arith, ok.count)))) in
    let j : frames_at + (p * frame_size + b) ≡ a = omega arith in
    rw j at (write_frames pages x (λ gs. set gs p f) (p * frame_size + b) v ok (omega arith) q)

module _ (pages : ℕ) (x : Board) (p : ℕ) (ok : FramesOk pages x.working.frames) (h : p < pages) where
  -- one of its bytes alone
  pub write_byte : (o v : ℕ) → o < page_size
      → splice (encode_board x) (frames_at + p * frame_size + frame_bytes_at + o) (v ∷ [])
      ≡ encode_board (on_working (on_frames (with_byte (record { page = p; offset = o }) v)) x)
  unfolding encode_frame with_frame with_byte on_working on_frames
  write_byte o v k =
      let f : Frame = frame_at x.working.frames p in
      let z : length f.bytes ≡ page_size = (frame_ok_at x.working.frames p ok).size in
      write_in_frame pages x p (frame_bytes_at + o) (frames_at + p * frame_size + frame_bytes_at + o) (v ∷ [])
      (record { right = f.right; bytes = set f.bytes o v }) ok (length-set f.bytes o v ∙ z) h (omega arith) (omega arith)
      (splice_append_right (right_byte f.right ∷ []) f.bytes (frame_bytes_at + o) o (v ∷ []) refl
      ∙ ap (λ (r : List ℕ). right_byte f.right ∷ r) (splice_one f.bytes o v (omega arith)))

-- a block is at least its fixed fields, frames and volatile slots
pub slots_inside : (pages : ℕ) (x : Board) → FramesOk pages x.working.frames → length (encode_log x.working.log) ≡ slots_size
    → slots_at pages + slots_size ≤ length (encode_board x)
unfolding encode_board_in
slots_inside pages x ok n =
    let frames : List ℕ = encode_all encode_frame x.working.frames in
    let m : length frames ≡ pages * frame_size = length_encode_frames pages x.working.frames ok in
    rw (
      length-append (encode_fixed x) (behind_fixed x),
      length_encode_fixed today x,
      length-append frames (encode_log x.working.log ++ encode_stable x.stable),
      length-append (encode_log x.working.log) (encode_stable x.stable),
    )
    (omega arith)

-- all frames
pub write_all_frames : (pages : ℕ) (x : Board) (fs : List Frame) → FramesOk pages x.working.frames
    → length (encode_all encode_frame fs) ≡ pages * frame_size
    → splice (encode_board x) frames_at (encode_all encode_frame fs) ≡ encode_board (on_working (on_frames (λ gs. fs)) x)
write_all_frames pages x fs ok n =
    let m : length (encode_all encode_frame x.working.frames) ≡ pages * frame_size = length_encode_frames pages x.working.frames ok in
    write_frames pages x (λ gs. fs) 0 (encode_all encode_frame fs) ok (omega arith)
    (splice_all (encode_all encode_frame x.working.frames) (encode_all encode_frame fs) (m ∙ sym n))

-- ---- writing the volatile log

-- another log is its count, and a splice that makes the slots those of the log
pub write_log : (pages : ℕ) (x : Board) (g : List Record) (b : ℕ) (v : List ℕ) → FramesOk pages x.working.frames
    → length (encode_log x.working.log) ≡ slots_size → b + length v ≤ slots_size → splice (encode_log x.working.log) b v ≡ encode_log g
    → splice (splice (encode_board x) volatile_count_at (length g ∷ [])) (slots_at pages + b) v ≡ encode_board (on_working (with_log g) x)
unfolding encode_board_in on_working
write_log pages x g b v ok n h e =
    let y : Board = on_working (with_log g) x in
    let frames : List ℕ = encode_all encode_frame x.working.frames in
    let m : length frames ≡ pages * frame_size = length_encode_frames pages x.working.frames ok in
    rw (splice_append_left (encode_fixed x) (behind_fixed x) volatile_count_at (length g ∷ []) (rw (length_encode_fixed today x) (omega arith)), count_written x g)
    (splice_behind (encode_fixed y) frames (encode_log x.working.log ++ encode_stable x.stable)
    (slots_at pages + b) b v (rw (length_encode_fixed today y) (omega arith))
    ∙ rw (splice_append_left (encode_log x.working.log) (encode_stable x.stable) b v (omega arith), e))
