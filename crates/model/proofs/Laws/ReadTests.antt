-- Bytes that pass a test of Definitions.Check are read as what is well formed: frames, slots, logs, areas and blocks.
-- WrittenTests has the other way. Assumes nothing.
use Rattle.std.specs.Prelude.{◌≡◌, ℕ, suc, ◌+◌, ◌*◌, ◌^◌, ◌≤◌, ◌<◌, Bool, true, false, ◌&&◌, List, [], length, eqb, leb}
use Rattle.std.proofs.Common.{arith, lit≤, ltb-true}
use Rattle.words.specs.Bytes.{Each, Bytes}
use Rattle.words.specs.LittleEndian.{number_of}
use Rattle.words.specs.LittleEndianLaws.{number_of_below}
use Rattle.types.specs.declared.Right.TheVariants.{Own}
use Rattle.model.specs.Definitions.Parts.{part, byte_at, decode_all}
use Rattle.model.specs.Definitions.Layout.{byte_values, page_size, slot_count, right_at, frame_bytes_at, frame_size, letter_g, letter_c, mark0_at, mark1_at}
use Rattle.model.specs.Definitions.Layout.{slot_page_at, slot_peer_at, fuse_size, number_size, no_fuse, last_number, area_number_at, area_count_at, area_frames_at}
use Rattle.model.specs.Definitions.Layout.{area_slots_at}
use Rattle.model.specs.Definitions.Layout.{selector_at, fuse_at, number_at, since_at, slot_bytes_at_in, slot_size_in, slots_size_in, area_size_in, volatile_count_at_in}
use Rattle.model.specs.Definitions.Layout.{frames_at_in, slots_at_in, area_at_in, block_size_in, Form, record_count_at}
use Rattle.model.specs.Definitions.Bank.{Area}
use Rattle.model.specs.Definitions.Codec.{right_byte, selector_byte, decode_frame, decode_frames, kind_of, decode_stable, decode_record_in, decode_log_in}
use Rattle.model.specs.Definitions.Codec.{decode_area_in, decode_board_in}
use Rattle.model.specs.Definitions.WellFormed.{FrameOk, is_got, FramesOk, RecordOkIn, LogOkIn, AreaOkIn, FieldsOkIn}
use Rattle.model.specs.Definitions.Check.{is_zero, frame_valid, got_mark, mark_fits, slot_valid, bare_mark}
use Rattle.model.proofs.Laws.Logic.{by_bool, clash, and_left, and_right}
use Rattle.model.proofs.Laws.Lists.{each_get_d, each_of_get_d}
use Rattle.model.proofs.Laws.Parts.{each_part, length_part, length_decode_all, get_d_decode_all, index_in}
use Rattle.model.proofs.Laws.CodecBack.{FramesPass, LogPasses, AreaPasses, Readable, page_of_kind_of, slot_in}
use Rattle.model.proofs.Laws.Tests.{says_zero, says_clear}

-- ---- what holds of bytes holds of the numbers and the elements read from them

-- a number read from a part of its width is below the values of that width, and at most the last of them
number_in : (l : List ℕ) (a w : ℕ) → a + w ≤ length l → Bytes l → number_of (part l a w) < byte_values ^ w
number_in l a w h b = number_of_below w (part l a w) (each_part l a w b) (length_part l a w h)

number_below : (l : List ℕ) (a w last : ℕ) → a + w ≤ length l → Bytes l → byte_values ^ w ≤ suc last → number_of (part l a w) ≤ last
number_below l a w last h b e = omega (arith, number_in l a w h b)

number_width : byte_values ^ number_size ≤ suc last_number
number_width = lit≤ tt

fuse_width : byte_values ^ fuse_size ≤ suc no_fuse
fuse_width = lit≤ tt

pub each_decode_all : {A : Type 0} {P : A → Type 0} (dec : List ℕ → A) (w n : ℕ) (l : List ℕ)
    → ((i : ℕ) → i < n → P (dec (part l (i * w) w))) → Each P (decode_all dec w n l)
each_decode_all dec w n l f =
    each_of_get_d (decode_all dec w n l) (dec [])
    (λ i h. let m : i < n = rw (length_decode_all dec w n l) at h in rw (get_d_decode_all dec w n l i (dec []) m) (f i m))

-- ---- a frame

pub frame_ok : (l : List ℕ) → length l ≡ frame_size → Bytes l → frame_valid l ≡ true → FrameOk (decode_frame l)
unfolding frame_valid decode_frame
frame_ok l e b v =
    record {
      size = length_part l frame_bytes_at page_size (omega arith);
      bytes = each_part l frame_bytes_at page_size b;
      empty = (says_clear l e).0 (and_right (leb (byte_at l right_at) (right_byte Own)) _ v);
    }

pub frames_ok : (pages : ℕ) (l : List ℕ) → length l ≡ pages * frame_size → Bytes l → FramesPass pages l → FramesOk pages (decode_frames pages l)
unfolding decode_frames
frames_ok pages l e b v =
    record {
      count = length_decode_all decode_frame frame_size pages l;
      frames =
          each_decode_all decode_frame frame_size pages l
          (λ i h.
          frame_ok (part l (i * frame_size) frame_size)
          (length_part l (i * frame_size) frame_size (omega (arith, index_in frame_size pages i h)))
          (each_part l (i * frame_size) frame_size b)
          (v i h));
    }

-- ---- a record

-- under a mark that is no got the page is zero
bare_blank : (m0 m1 p : ℕ) (blank : Bool) → mark_fits m0 m1 blank ≡ true → is_got (kind_of m0 m1 p) ≡ false → blank ≡ true
unfolding mark_fits got_mark kind_of is_got
bare_blank m0 m1 p blank v g =
    by_bool (eqb m0 letter_g)
    (λ t. by_bool (eqb m1 letter_c) (λ u. clash (cc) g) (λ u. clash (cc) g))
    (λ t. let r : (blank && bare_mark m0 m1) ≡ true = cc in and_left blank (bare_mark m0 m1) r)

pub slot_ok : {form : Form} (pages : ℕ) (l : List ℕ) → length l ≡ slot_size_in form → Bytes l → slot_valid form pages l ≡ true
    → RecordOkIn form pages (decode_record_in form l)
unfolding slot_valid decode_record_in byte_at
slot_ok {form} pages l e b v =
    let size : length (part l (slot_bytes_at_in form) page_size) ≡ page_size = length_part l (slot_bytes_at_in form) page_size (omega arith) in
    let bytes : Bool = is_zero (part l (slot_bytes_at_in form) page_size) in
    let mark : mark_fits (byte_at l mark0_at) (byte_at l mark1_at) bytes ≡ true = and_left _ _ v in
    record {
      count = number_in l record_count_at form.since_width (omega arith) b;
      page =
          rw (page_of_kind_of (byte_at l mark0_at) (byte_at l mark1_at) (byte_at l slot_page_at))
          (ltb-true (byte_at l slot_page_at) pages (and_right (mark_fits (byte_at l mark0_at) (byte_at l mark1_at) bytes) _ v));
      peer = each_get_d l slot_peer_at 0 b (omega arith);
      size = size;
      bytes = each_part l (slot_bytes_at_in form) page_size b;
      plain = λ g.
          (says_zero (part l (slot_bytes_at_in form) page_size) page_size size).0
          (bare_blank (byte_at l mark0_at) (byte_at l mark1_at) (byte_at l slot_page_at) bytes mark g);
    }

-- ---- a log

pub log_ok : {form : Form} (pages count : ℕ) (l : List ℕ) → length l ≡ slots_size_in form → Bytes l → LogPasses form pages count l
    → LogOkIn form pages (decode_log_in form count l)
unfolding decode_log_in
log_ok {form} pages count l e b v =
    let c : count ≤ slot_count = v.few in
    record {
      records =
          each_decode_all (decode_record_in form) (slot_size_in form) count l
          (λ i h.
          slot_ok pages (part l (i * slot_size_in form) (slot_size_in form))
          (length_part l (i * slot_size_in form) (slot_size_in form) (omega (arith, slot_in form count i c h)))
          (each_part l (i * slot_size_in form) (slot_size_in form) b)
          (v.slots i h));
      count = rw (length_decode_all (decode_record_in form) (slot_size_in form) count l) c;
    }

-- ---- an area

frames_part_ok : (pages : ℕ) (l : List ℕ) (a : ℕ) → a + pages * frame_size ≤ length l → Bytes l
    → FramesPass pages (part l a (pages * frame_size)) → FramesOk pages (decode_frames pages (part l a (pages * frame_size)))
frames_part_ok pages l a h b =
    frames_ok pages (part l a (pages * frame_size)) (length_part l a (pages * frame_size) h) (each_part l a (pages * frame_size) b)

log_part_ok : {form : Form} (pages count : ℕ) (l : List ℕ) (a : ℕ) → a + slots_size_in form ≤ length l → Bytes l
    → LogPasses form pages count (part l a (slots_size_in form)) → LogOkIn form pages (decode_log_in form count (part l a (slots_size_in form)))
log_part_ok {form} pages count l a h b =
    log_ok pages count (part l a (slots_size_in form)) (length_part l a (slots_size_in form) h) (each_part l a (slots_size_in form) b)

pub area_ok : {form : Form} (pages : ℕ) (l : List ℕ) → length l ≡ area_size_in form pages → Bytes l → AreaPasses form pages l
    → AreaOkIn form pages (decode_area_in form pages l)
unfolding decode_area_in
area_ok pages l e b v =
    record {
      number = number_below l area_number_at number_size last_number (omega arith) b number_width;
      frames = frames_part_ok pages l area_frames_at (omega arith) b v.frames;
      log = log_part_ok pages (byte_at l area_count_at) l (area_slots_at pages) (omega arith) b v.log;
    }

area_part_ok : {form : Form} (pages : ℕ) (l : List ℕ) (a : ℕ) → a + area_size_in form pages ≤ length l → Bytes l
    → AreaPasses form pages (part l a (area_size_in form pages)) → AreaOkIn form pages (decode_area_in form pages (part l a (area_size_in form pages)))
area_part_ok {form} pages l a h b =
    area_ok pages (part l a (area_size_in form pages)) (length_part l a (area_size_in form pages) h) (each_part l a (area_size_in form pages) b)

-- ---- a block

-- either area may be the selected one
selected_ok : {form : Form} (pages : ℕ) (second : Bool) (x y : Area) → AreaOkIn form pages x → AreaOkIn form pages y
    → AreaOkIn form pages (decode_stable second x y).selected
unfolding decode_stable
selected_ok pages false x y p q = p
selected_ok pages true x y p q = q

spare_ok : {form : Form} (pages : ℕ) (second : Bool) (x y : Area) → AreaOkIn form pages x → AreaOkIn form pages y
    → AreaOkIn form pages (decode_stable second x y).spare
unfolding decode_stable
spare_ok pages false x y p q = q
spare_ok pages true x y p q = p

pub fields_ok : {form : Form} (pages : ℕ) (l : List ℕ) → length l ≡ block_size_in form pages → Bytes l → Readable form pages l
    → FieldsOkIn form pages (decode_board_in form pages l)
unfolding decode_board_in
fields_ok {form} pages l e b r =
    let second : Bool = eqb (byte_at l selector_at) (selector_byte true) in
    let x : Area = decode_area_in form pages (part l (area_at_in form pages 0) (area_size_in form pages)) in
    let y : Area = decode_area_in form pages (part l (area_at_in form pages 1) (area_size_in form pages)) in
    let p : AreaOkIn form pages x = area_part_ok pages l (area_at_in form pages 0) (omega arith) b r.area0 in
    let q : AreaOkIn form pages y = area_part_ok pages l (area_at_in form pages 1) (omega arith) b r.area1 in
    record {
      fuse = number_below l fuse_at fuse_size no_fuse (omega arith) b fuse_width;
      working =
          record {
            number = number_below l number_at number_size last_number (omega arith) b number_width;
            since = number_in l since_at form.since_width (omega arith) b;
            frames = frames_part_ok pages l (frames_at_in form) (omega arith) b r.frames;
            log = log_part_ok pages (byte_at l (volatile_count_at_in form)) l (slots_at_in form pages) (omega arith) b r.log;
          };
      selected = selected_ok pages second x y p q;
      spare = spare_ok pages second x y p q;
    }
