-- What was written reads back, part by part: the length of a part's bytes, where each field stands in them, and that reading gives
-- the part again. An entry, a frame, a record, a log, an area. Assumes nothing.
use Rattle.std.specs.Prelude.{◌≡◌, refl, ℕ, suc, ◌*◌, ◌≤◌, List, [], ◌∷◌, ◌++◌, length}
use Rattle.std.proofs.Common.{ap, ◌∙◌, mul-le-mul_right, arith, append_assoc, length-append}
use Rattle.words.specs.Bytes.{Each}
use Rattle.words.specs.LittleEndian.{bytes_of}
use Rattle.words.specs.LittleEndianLaws.{length_bytes_of, number_of_bytes_of}
use Rattle.types.specs.declared.Right.{Right}
use Rattle.types.specs.declared.Right.TheVariants.{None, Copy, Own}
use Rattle.types.specs.declared.Frame.{Frame}
use Rattle.types.specs.declared.CopyOrOwn.TheVariants.{GotCopy, GotOwn}
use Rattle.types.specs.declared.Kind.{Kind}
use Rattle.types.specs.declared.Kind.TheVariants.{Got, Shown, Dropped}
use Rattle.types.specs.declared.Record.{Record}
use Rattle.model.specs.Definitions.Parts.{part, byte_at, encode_all}
use Rattle.model.specs.Definitions.Layout.{frame_bytes_at, area_number_at, page_size, slot_count, entry_size, frame_size, number_size, area_count_at, area_frames_at}
use Rattle.model.specs.Definitions.Layout.{area_slots_at, slot_bytes_at_in, slot_size_in, slots_size_in, area_size_in, Form, record_count_at}
use Rattle.model.specs.Definitions.Bank.{Entry, Area}
use Rattle.model.specs.Definitions.Codec.{encode_entry, decode_entry, right_byte, right_of, encode_frame, decode_frame, mark0, mark1, page_of, kind_of}
use Rattle.model.specs.Definitions.Codec.{decode_frames, encode_record_in, decode_record_in, encode_log_in, decode_log_in, encode_area_in, decode_area_in}
use Rattle.model.specs.Definitions.WellFormed.{FrameOk, FramesOk, RecordOkIn, LogOkIn, AreaOkIn}
use Rattle.model.proofs.Laws.Lists.{each_imp}
use Rattle.model.proofs.Laws.Parts.{part_append_right, part_front, part_at, part_end, byte_at_append_right, length_encode_all, decode_all_encode_all}
use Rattle.model.proofs.Laws.Parts.{decode_all_encode_all_all, ReadsBack}
use Rattle.model.proofs.Laws.Zeros.{zeros_length}

-- ---- an entry of the directory

pub length_encode_entry : (e : Entry) → length (encode_entry e) ≡ entry_size
unfolding encode_entry
length_encode_entry e = refl

pub decode_encode_entry : (e : Entry) → decode_entry (encode_entry e) ≡ e
unfolding decode_entry encode_entry byte_at
decode_encode_entry e = refl

-- ---- a frame

pub right_of_right_byte : (r : Right) → right_of (right_byte r) ≡ r
unfolding right_of right_byte
right_of_right_byte None = refl
right_of_right_byte Copy = refl
right_of_right_byte Own = refl

pub length_encode_frame : (f : Frame) → length f.bytes ≡ page_size → length (encode_frame f) ≡ frame_size
unfolding encode_frame
length_encode_frame f e = ap suc e

pub decode_encode_frame : (f : Frame) → FrameOk f → decode_frame (encode_frame f) ≡ f
unfolding decode_frame encode_frame byte_at
decode_encode_frame f ok =
    let p : (decode_frame (encode_frame f)).bytes ≡ f.bytes
    = part_end (right_byte f.right ∷ []) f.bytes frame_bytes_at page_size refl ok.size in
    λ i. record { right = right_of_right_byte f.right i; bytes = p i }

-- ---- a record

pub kind_of_marks : (k : Kind) → kind_of (mark0 k) (mark1 k) (page_of k) ≡ k
unfolding kind_of mark0 mark1 page_of
kind_of_marks (Got GotCopy p) = refl
kind_of_marks (Got GotOwn p) = refl
kind_of_marks (Shown p) = refl
kind_of_marks (Dropped p) = refl

pub length_encode_record : (form : Form) (r : Record) → length r.bytes ≡ page_size → length (encode_record_in form r) ≡ slot_size_in form
unfolding encode_record_in
length_encode_record form r e = rw (length-append (bytes_of form.since_width r.count) r.bytes, length_bytes_of, e) (omega arith)

pub decode_encode_record : {form : Form} (pages : ℕ) (r : Record) → RecordOkIn form pages r → decode_record_in form (encode_record_in form r) ≡ r
unfolding decode_record_in encode_record_in byte_at
decode_encode_record {form} pages r ok =
    let head : List ℕ = mark0 r.kind ∷ mark1 r.kind ∷ page_of r.kind ∷ r.peer ∷ [] in
    let count : List ℕ = bytes_of form.since_width r.count in
    let width : length count ≡ form.since_width = length_bytes_of form.since_width r.count in
    let c : part (encode_record_in form r) record_count_at form.since_width ≡ count
    = part_at head count r.bytes record_count_at form.since_width refl width in
    let n : (decode_record_in form (encode_record_in form r)).count ≡ r.count = rw c (number_of_bytes_of form.since_width r.count (omega (arith, ok.count))) in
    let b : (decode_record_in form (encode_record_in form r)).bytes ≡ r.bytes
    = part_append_right head (count ++ r.bytes) (slot_bytes_at_in form) form.since_width page_size refl
    ∙ part_end count r.bytes form.since_width page_size width ok.size in
    λ i. record { count = n i; kind = kind_of_marks r.kind i; peer = r.peer; bytes = b i }

-- ---- frames side by side

frame_back : (f : Frame) → FrameOk f → ReadsBack encode_frame decode_frame frame_size f
frame_back f ok = (length_encode_frame f ok.size, decode_encode_frame f ok)

pub length_encode_frames : (pages : ℕ) (fs : List Frame) → FramesOk pages fs → length (encode_all encode_frame fs) ≡ pages * frame_size
length_encode_frames pages fs ok =
    length_encode_all encode_frame frame_size fs (each_imp fs (λ f h. length_encode_frame f h.size) ok.frames)
    ∙ ap (λ (n : ℕ). n * frame_size) ok.count

pub decode_encode_frames : (pages : ℕ) (fs : List Frame) → FramesOk pages fs → decode_frames pages (encode_all encode_frame fs) ≡ fs
unfolding decode_frames
decode_encode_frames pages fs ok = decode_all_encode_all_all encode_frame decode_frame frame_size pages fs (each_imp fs frame_back ok.frames) ok.count

-- ---- a log

record_back : {form : Form} (pages : ℕ) (r : Record) → RecordOkIn form pages r → ReadsBack (encode_record_in form) (decode_record_in form) (slot_size_in form) r
record_back {form} pages r ok = (length_encode_record form r ok.size, decode_encode_record pages r ok)

pub length_encode_records : {form : Form} (pages : ℕ) (rs : List Record) → Each (RecordOkIn form pages) rs
    → length (encode_all (encode_record_in form) rs) ≡ length rs * slot_size_in form
length_encode_records {form} pages rs ok =
    length_encode_all (encode_record_in form) (slot_size_in form) rs (each_imp rs (λ r h. length_encode_record form r h.size) ok)

-- records fill no more than the slots
pub records_in : {form : Form} {pages : ℕ} {rs : List Record} → LogOkIn form pages rs → length rs * slot_size_in form ≤ slots_size_in form
records_in {form} {rs} ok = mul-le-mul_right {m = length rs} {n = slot_count} (slot_size_in form) ok.count

pub length_encode_log : {form : Form} (pages : ℕ) (rs : List Record) → LogOkIn form pages rs → length (encode_log_in form rs) ≡ slots_size_in form
unfolding encode_log_in
length_encode_log {form} pages rs ok =
    simp (length-append, length_encode_records pages rs ok.records, zeros_length) (omega (arith, records_in ok))

pub decode_encode_log : {form : Form} (pages : ℕ) (rs : List Record) → LogOkIn form pages rs → decode_log_in form (length rs) (encode_log_in form rs) ≡ rs
unfolding decode_log_in encode_log_in
decode_encode_log {form} pages rs ok =
    decode_all_encode_all (encode_record_in form) (decode_record_in form) (slot_size_in form) (length rs) rs _ (each_imp rs (record_back pages) ok.records) refl

-- ---- an area: where its fields stand

-- an area's number and count
abbrev pub area_head : Area → List ℕ
area_head a = bytes_of number_size a.number ++ (length a.log ∷ [])

pub length_area_head : (a : Area) → length (area_head a) ≡ area_frames_at
length_area_head a = rw (length-append (bytes_of number_size a.number) (length a.log ∷ []), length_bytes_of)

pub encode_area_split : (form : Form) (a : Area) → encode_area_in form a ≡ area_head a ++ (encode_all encode_frame a.frames ++ encode_log_in form a.log)
unfolding encode_area_in
encode_area_split form a = rw append_assoc

module _ {form : Form} (pages : ℕ) (a : Area) (ok : AreaOkIn form pages a) where
  pub length_encode_area : length (encode_area_in form a) ≡ area_size_in form pages
  unfolding encode_area_in
  length_encode_area =
      simp (length-append, length_bytes_of, length_encode_frames pages a.frames ok.frames, length_encode_log pages a.log ok.log) (omega arith)

  pub area_number : part (encode_area_in form a) area_number_at number_size ≡ bytes_of number_size a.number
  unfolding encode_area_in
  area_number = part_front (bytes_of number_size a.number) _ number_size (length_bytes_of number_size a.number)

  pub area_count_lem : byte_at (encode_area_in form a) area_count_at ≡ length a.log
  unfolding encode_area_in byte_at
  area_count_lem =
      byte_at_append_right (bytes_of number_size a.number)
      (length a.log ∷ (encode_all encode_frame a.frames ++ encode_log_in form a.log))
      area_count_at 0 (rw length_bytes_of)

  pub area_frames : part (encode_area_in form a) area_frames_at (pages * frame_size) ≡ encode_all encode_frame a.frames
  area_frames =
      rw (encode_area_split form a)
      (part_at (area_head a) (encode_all encode_frame a.frames) (encode_log_in form a.log) area_frames_at (pages * frame_size)
      (length_area_head a) (length_encode_frames pages a.frames ok.frames))

  pub area_slots : part (encode_area_in form a) (area_slots_at pages) (slots_size_in form) ≡ encode_log_in form a.log
  area_slots =
      let frames : List ℕ = encode_all encode_frame a.frames in
      rw (encode_area_split form a)
      (part_append_right (area_head a) (frames ++ encode_log_in form a.log) (area_slots_at pages) (pages * frame_size) (slots_size_in form) (rw (length_area_head a))
      ∙ part_end frames (encode_log_in form a.log) (pages * frame_size) (slots_size_in form)
      (length_encode_frames pages a.frames ok.frames) (length_encode_log pages a.log ok.log))

  pub decode_encode_area : decode_area_in form pages (encode_area_in form a) ≡ a
  unfolding decode_area_in
  decode_encode_area =
      let n : (decode_area_in form pages (encode_area_in form a)).number ≡ a.number
      = rw area_number (number_of_bytes_of number_size a.number (omega (arith, ok.number))) in
      let f : (decode_area_in form pages (encode_area_in form a)).frames ≡ a.frames = rw area_frames (decode_encode_frames pages a.frames ok.frames) in
      let l : (decode_area_in form pages (encode_area_in form a)).log ≡ a.log = rw (area_count_lem, area_slots) (decode_encode_log pages a.log ok.log) in
      λ i. record { number = n i; frames = f i; log = l i }
