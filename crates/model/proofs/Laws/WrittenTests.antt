-- What is well formed passes the tests of Definitions.Check once written, and is written in bytes: frames, records, logs, areas and blocks.
-- ReadTests has the other way. Assumes nothing.
use Rattle.std.specs.Prelude.{◌≡◌, refl, ℕ, ◌*◌, ◌^◌, ◌≤◌, ◌<◌, Bool, true, false, List, [], ◌∷◌, length, get_or}
use Rattle.std.proofs.Common.{ap, ◌∙◌, arith, lit<, lit≤, le-leb, lt-ltb}
use Rattle.std.proofs.Math.Nat.{pow-le-pow_right}
use Rattle.words.specs.Bytes.{Each, each_nil, each_cons, Bytes}
use Rattle.words.specs.LittleEndian.{bytes_of}
use Rattle.words.specs.LittleEndianLaws.{bytes_bytes_of}
use Rattle.types.specs.declared.Right.{Right}
use Rattle.types.specs.declared.Right.TheVariants.{None, Copy, Own}
use Rattle.types.specs.declared.Frame.{Frame}
use Rattle.types.specs.declared.CopyOrOwn.TheVariants.{GotCopy, GotOwn}
use Rattle.types.specs.declared.Kind.{Kind}
use Rattle.types.specs.declared.Kind.TheVariants.{Got, Shown, Dropped}
use Rattle.types.specs.declared.Record.{Record}
use Rattle.types.specs.declared.State.{State}
use Rattle.types.specs.declared.State.TheVariants.{Up, Down, Replaying}
use Rattle.model.specs.Definitions.Parts.{part, byte_at, encode_all}
use Rattle.model.specs.Definitions.Layout.{byte_values, page_size, frame_size, number_size, fuse_size, state_at, selector_at, most_boards, most_pages}
use Rattle.model.specs.Definitions.Layout.{slot_bytes_at_in, slot_size_in, volatile_count_at_in, Form}
use Rattle.model.specs.Definitions.Bank.{Entry, Area, Board, empty_frame}
use Rattle.model.specs.Definitions.Codec.{right_byte, state_byte, selector_byte, mark0, mark1, page_of, encode_frame, encode_entry, encode_record_in}
use Rattle.model.specs.Definitions.Codec.{decode_record_in, encode_log_in, encode_area_in, encode_fixed_in, encode_board_in}
use Rattle.model.specs.Definitions.WellFormed.{FrameOk, FramesOk, EntryOk, is_got, RecordOkIn, LogOkIn, AreaOkIn, FieldsOkIn}
use Rattle.model.specs.Definitions.Check.{frame_valid, got_mark, bare_mark, mark_fits, slot_valid}
use Rattle.model.proofs.Laws.Logic.{and_both}
use Rattle.model.proofs.Laws.Lists.{each_imp, each_head, each_tail, each_get_d, each_append}
use Rattle.model.proofs.Laws.Parts.{part_encode_all, part_append_left, index_in}
use Rattle.model.proofs.Laws.Zeros.{zeros_bytes}
use Rattle.model.proofs.Laws.Codec.{length_encode_frame, decode_encode_frame, length_encode_record, decode_encode_record, length_encode_records, area_count_lem}
use Rattle.model.proofs.Laws.Codec.{area_frames, area_slots}
use Rattle.model.proofs.Laws.CodecBank.{area0, area1, area0_ok, area1_ok, encode_stable_split, fixed_state, fixed_selector, fixed_volatile, board_byte}
use Rattle.model.proofs.Laws.CodecBank.{board_frames, board_slots, board_area0, board_area1}
use Rattle.model.proofs.Laws.CodecBack.{FramesPass, LogPasses, AreaPasses, Readable}
use Rattle.model.proofs.Laws.Tests.{says_zero, says_clear}

-- ---- a frame

right_le : (r : Right) → right_byte r ≤ right_byte Own
unfolding right_byte
right_le None = lit≤ tt
right_le Copy = lit≤ tt
right_le Own = lit≤ tt

pub frame_valid_lem : (f : Frame) → FrameOk f → frame_valid (encode_frame f) ≡ true
unfolding frame_valid encode_frame byte_at
frame_valid_lem f ok =
    and_both
    (le-leb (right_byte f.right) (right_byte Own) (right_le f.right))
    ((says_clear (encode_frame f) (length_encode_frame f ok.size)).1 (rw (decode_encode_frame f ok) ok.empty))

pub frames_valid : (pages : ℕ) (fs : List Frame) → FramesOk pages fs → FramesPass pages (encode_all encode_frame fs)
frames_valid pages fs ok i h =
    let m : i < length fs = rw ok.count h in
    rw (part_encode_all encode_frame frame_size fs i empty_frame (each_imp fs (λ f o. length_encode_frame f o.size) ok.frames) m)
    (frame_valid_lem (get_or fs i empty_frame) (each_get_d fs i empty_frame ok.frames m))

-- ---- a record

mark_valid : (k : Kind) (blank : Bool) → (is_got k ≡ false → blank ≡ true) → mark_fits (mark0 k) (mark1 k) blank ≡ true
unfolding mark_fits got_mark bare_mark mark0 mark1 is_got
mark_valid (Got GotCopy p) blank h = refl
mark_valid (Got GotOwn p) blank h = refl
mark_valid (Shown p) blank h = rw (h refl)
mark_valid (Dropped p) blank h = rw (h refl)

pub slot_valid_lem : {form : Form} (pages : ℕ) (r : Record) → RecordOkIn form pages r → slot_valid form pages (encode_record_in form r) ≡ true
unfolding slot_valid encode_record_in byte_at decode_record_in
slot_valid_lem {form} pages r ok =
    let bytes : part (encode_record_in form r) (slot_bytes_at_in form) page_size ≡ r.bytes = ap (λ (q : Record). q.bytes) (decode_encode_record pages r ok) in
    and_both
    (mark_valid r.kind _ (λ g. rw bytes ((says_zero r.bytes page_size ok.size).1 (ok.plain g))))
    (lt-ltb (page_of r.kind) pages ok.page)

-- ---- a log

log_slot : {form : Form} (pages : ℕ) (l : List Record) → LogOkIn form pages l → (i : ℕ) (d : Record) → i < length l
    → part (encode_log_in form l) (i * slot_size_in form) (slot_size_in form) ≡ encode_record_in form (get_or l i d)
unfolding encode_log_in
log_slot {form} pages l ok i d h =
    part_append_left (encode_all (encode_record_in form) l) _ (i * slot_size_in form) (slot_size_in form)
    (rw (length_encode_records pages l ok.records) (index_in (slot_size_in form) (length l) i h))
    ∙ part_encode_all (encode_record_in form) (slot_size_in form) l i d
    (each_imp l (λ r o. length_encode_record form r o.size) ok.records) h

pub log_valid : {form : Form} (pages : ℕ) (l : List Record) → LogOkIn form pages l → LogPasses form pages (length l) (encode_log_in form l)
log_valid {form} pages l ok =
    let none : Record = decode_record_in form [] in
    record {
      few = ok.count;
      slots = λ i h. rw (log_slot pages l ok i none h) (slot_valid_lem pages (get_or l i none) (each_get_d l i none ok.records h));
    }

-- ---- an area

pub area_valid : {form : Form} (pages : ℕ) (a : Area) → AreaOkIn form pages a → AreaPasses form pages (encode_area_in form a)
area_valid pages a ok =
    record {
      frames = rw (area_frames pages a ok) (frames_valid pages a.frames ok.frames);
      log = rw (area_count_lem pages a ok, area_slots pages a ok) (log_valid pages a.log ok.log);
    }

-- ---- a block

state_le : (t : State) → state_byte t ≤ state_byte Replaying
unfolding state_byte
state_le Up = lit≤ tt
state_le Down = lit≤ tt
state_le Replaying = lit≤ tt

selector_le : (second : Bool) → selector_byte second ≤ selector_byte true
unfolding selector_byte
selector_le false = lit≤ tt
selector_le true = lit≤ tt

pub block_valid : {form : Form} (pages : ℕ) (x : Board) → FieldsOkIn form pages x → Readable form pages (encode_board_in form x)
block_valid {form} pages x ok =
    record {
      state = rw (board_byte pages x ok state_at (omega arith), fixed_state form x) (state_le x.state);
      selector = rw (board_byte pages x ok selector_at (omega arith), fixed_selector form x) (selector_le x.stable.second);
      frames = rw (board_frames pages x ok) (frames_valid pages x.working.frames ok.working.frames);
      log =
          rw (board_byte pages x ok (volatile_count_at_in form) (omega arith), fixed_volatile form x, board_slots pages x ok)
          (log_valid pages x.working.log ok.working.log);
      area0 = rw (board_area0 pages x ok) (area_valid pages (area0 x.stable) (area0_ok pages x ok));
      area1 = rw (board_area1 pages x ok) (area_valid pages (area1 x.stable) (area1_ok pages x ok));
    }

-- ---- all that is written are bytes

-- one byte before others
pub byte : (b : ℕ) {bs : List ℕ} → b < byte_values → Bytes bs → Bytes (b ∷ bs)
byte b h e = each_cons h e

pub bytes_encode_all : {A : Type 0} {Q : A → Type 0} (enc : A → List ℕ) (xs : List A)
    → Each Q xs → ((x : A) → Q x → Bytes (enc x)) → Bytes (encode_all enc xs)
unfolding encode_all
bytes_encode_all enc [] e f = each_nil
bytes_encode_all enc (x ∷ xs) e f = each_append (enc x) (encode_all enc xs) (f x (each_head e)) (bytes_encode_all enc xs (each_tail e) f)

pub bytes_entry : (boards : ℕ) (e : Entry) → boards ≤ most_boards → EntryOk boards e → Bytes (encode_entry e)
unfolding encode_entry
bytes_entry boards e h ok =
    let p : 2 ^ boards ≤ 2 ^ most_boards = pow-le-pow_right (lit< tt) h in
    byte e.owner (omega (arith, ok.owner)) (byte e.copies (omega (arith, ok.copies)) each_nil)

bytes_frame : (f : Frame) → FrameOk f → Bytes (encode_frame f)
unfolding encode_frame right_byte
bytes_frame f ok = byte (right_byte f.right) (omega (arith, right_le f.right)) ok.bytes

mark0_byte : (k : Kind) → mark0 k < byte_values
unfolding mark0
mark0_byte (Got g p) = lit< tt
mark0_byte (Shown p) = lit< tt
mark0_byte (Dropped p) = lit< tt

mark1_byte : (k : Kind) → mark1 k < byte_values
unfolding mark1
mark1_byte (Got GotCopy p) = lit< tt
mark1_byte (Got GotOwn p) = lit< tt
mark1_byte (Shown p) = lit< tt
mark1_byte (Dropped p) = lit< tt

module _ (pages : ℕ) (few : pages ≤ most_pages) where
  bytes_record : {form : Form} (r : Record) → RecordOkIn form pages r → Bytes (encode_record_in form r)
  unfolding encode_record_in
  bytes_record {form} r ok =
      byte (mark0 r.kind) (mark0_byte r.kind)
      (byte (mark1 r.kind) (mark1_byte r.kind)
      (byte (page_of r.kind) (omega (arith, ok.page))
      (byte r.peer ok.peer (each_append (bytes_of form.since_width r.count) r.bytes (bytes_bytes_of form.since_width r.count) ok.bytes))))

  pub bytes_log : {form : Form} (l : List Record) → LogOkIn form pages l → Bytes (encode_log_in form l)
  unfolding encode_log_in
  bytes_log {form} l ok =
      each_append (encode_all (encode_record_in form) l) _
      (bytes_encode_all (encode_record_in form) l ok.records bytes_record) (zeros_bytes _)

  bytes_area : {form : Form} (a : Area) → AreaOkIn form pages a → Bytes (encode_area_in form a)
  unfolding encode_area_in
  bytes_area {form} a ok =
      each_append (bytes_of number_size a.number) _ (bytes_bytes_of number_size a.number)
      (byte (length a.log) (omega (arith, ok.log.count))
      (each_append (encode_all encode_frame a.frames) (encode_log_in form a.log)
      (bytes_encode_all encode_frame a.frames ok.frames.frames bytes_frame) (bytes_log a.log ok.log)))

  bytes_fixed : {form : Form} (x : Board) → FieldsOkIn form pages x → x.working.place < byte_values → Bytes (encode_fixed_in form x)
  unfolding encode_fixed_in state_byte selector_byte
  bytes_fixed {form} x ok h =
      byte (state_byte x.state) (omega (arith, state_le x.state))
      (byte (selector_byte x.stable.second) (omega (arith, selector_le x.stable.second))
      (each_append (bytes_of fuse_size x.fuse) _ (bytes_bytes_of fuse_size x.fuse)
      (each_append (bytes_of number_size x.working.number) _ (bytes_bytes_of number_size x.working.number)
      (each_append (bytes_of form.since_width x.working.since) _ (bytes_bytes_of form.since_width x.working.since)
      (byte x.working.place h
      (byte (length x.working.log) (omega (arith, ok.working.log.count)) each_nil))))))

  pub bytes_board : {form : Form} (x : Board) → FieldsOkIn form pages x → x.working.place < byte_values → Bytes (encode_board_in form x)
  unfolding encode_board_in
  bytes_board {form} x ok h =
      each_append (encode_fixed_in form x) _ (bytes_fixed x ok h)
      (each_append (encode_all encode_frame x.working.frames) _ (bytes_encode_all encode_frame x.working.frames ok.working.frames.frames bytes_frame)
      (each_append (encode_log_in form x.working.log) _ (bytes_log x.working.log ok.working.log)
      (rw (encode_stable_split form x.stable)
      (each_append (encode_area_in form (area0 x.stable)) _ (bytes_area (area0 x.stable) (area0_ok pages x ok))
      (bytes_area (area1 x.stable) (area1_ok pages x ok))))))
