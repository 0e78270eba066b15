-- What was read writes back, part by part, where the tests of Check pass, also that of the slots past a count: a frame, a record, a log, an area, a block.
-- Assumes nothing.
use Rattle.std.specs.Prelude.{◌≡◌, refl, ℕ, zero, suc, ◌+◌, ◌-◌, ◌*◌, ◌≤◌, ◌<◌, Bool, true, false, ◌&&◌, ◌||◌, List, [], ◌∷◌, ◌++◌, length, drop, eqb}
use Rattle.std.proofs.Common.{◌∙◌, arith, append_assoc, take-append-drop, leb-true, eqb-true}
use Rattle.words.specs.Bytes.{Bytes}
use Rattle.words.specs.LittleEndian.{bytes_of, number_of}
use Rattle.words.specs.LittleEndianLaws.{bytes_of_number_of}
use Rattle.types.specs.declared.Right.TheVariants.{Own}
use Rattle.types.specs.declared.Kind.{Kind}
use Rattle.types.specs.declared.State.TheVariants.{Replaying}
use Rattle.model.specs.Definitions.Parts.{part, byte_at, zeros, encode_all}
use Rattle.model.specs.Definitions.Layout.{right_at, frame_bytes_at, mark0_at, mark1_at, area_number_at, letter_g, letter_c, letter_o, letter_s, letter_h, letter_d}
use Rattle.model.specs.Definitions.Layout.{letter_r, page_size, slot_count, frame_size, slot_page_at, slot_peer_at, fuse_size, number_size, state_at, selector_at}
use Rattle.model.specs.Definitions.Layout.{fuse_at, number_at, since_at, area_count_at, area_frames_at, area_slots_at, slot_bytes_at_in, slot_size_in, slots_size_in}
use Rattle.model.specs.Definitions.Layout.{area_size_in, place_at_in, volatile_count_at_in, frames_at_in, slots_at_in, area_at_in, block_size_in, Form, record_count_at}
use Rattle.model.specs.Definitions.Bank.{Area}
use Rattle.model.specs.Definitions.Codec.{right_byte, right_of, encode_frame, decode_frame, mark0, mark1, page_of, kind_of, decode_frames, state_byte, state_of}
use Rattle.model.specs.Definitions.Codec.{selector_byte, decode_stable, encode_record_in, decode_record_in, encode_log_in, decode_log_in, encode_area_in}
use Rattle.model.specs.Definitions.Codec.{decode_area_in, encode_fixed_in, encode_stable_in, encode_board_in, decode_board_in}
use Rattle.model.specs.Definitions.Check.{frame_valid, got_mark, bare_mark, mark_fits, slot_valid}
use Rattle.model.proofs.Laws.Logic.{clash, cases, by_bool, and_left}
use Rattle.model.proofs.Laws.Parts.{each_part, length_part, part_rest, part_last, byte_rest, index_in, encode_all_decode_all, encode_all_decode_all_all}
use Rattle.model.proofs.Laws.Parts.{length_decode_all}

-- ---- a number and a frame

-- a number's bytes, read at any place
pub bytes_of_part : (l : List ℕ) (a w : ℕ) → Bytes l → a + w ≤ length l → bytes_of w (number_of (part l a w)) ≡ part l a w
bytes_of_part l a w b h = bytes_of_number_of w (part l a w) (each_part l a w b) (length_part l a w h)

pub right_byte_right_of : (n : ℕ) → n ≤ right_byte Own → right_byte (right_of n) ≡ n
unfolding right_byte right_of
right_byte_right_of zero h = refl
right_byte_right_of (suc zero) h = refl
right_byte_right_of (suc (suc n)) h = omega arith

pub encode_decode_frame : (l : List ℕ) → frame_valid l ≡ true → length l ≡ frame_size → encode_frame (decode_frame l) ≡ l
unfolding encode_frame decode_frame frame_valid
encode_decode_frame l v e =
    rw (right_byte_right_of (byte_at l right_at) (leb-true (byte_at l right_at) (right_byte Own) (and_left _ _ v)), part_last l frame_bytes_at page_size e)
    (byte_rest l right_at (omega arith))

-- the frames of all pages
abbrev pub FramesPass : ℕ → List ℕ → Type 0
FramesPass pages l = (p : ℕ) → p < pages → frame_valid (part l (p * frame_size) frame_size) ≡ true

pub encode_decode_frames : (pages : ℕ) (l : List ℕ) → FramesPass pages l → length l ≡ pages * frame_size
    → encode_all encode_frame (decode_frames pages l) ≡ l
unfolding decode_frames
encode_decode_frames pages l v e =
    encode_all_decode_all_all encode_frame decode_frame frame_size pages l
    (λ p h.
    let m : p * frame_size + frame_size ≤ pages * frame_size = index_in frame_size pages p h in
    encode_decode_frame (part l (p * frame_size) frame_size) (v p h) (length_part l (p * frame_size) frame_size (omega arith)))
    e

-- ---- a record

pub page_of_kind_of : (m0 m1 p : ℕ) → page_of (kind_of m0 m1 p) ≡ p
unfolding kind_of page_of
page_of_kind_of m0 m1 p =
    cases (λ (k : Kind). page_of k ≡ p) (eqb m0 letter_g)
    (λ t. cases (λ (k : Kind). page_of k ≡ p) (eqb m1 letter_c) (λ u. refl) (λ u. refl))
    (λ t. cases (λ (k : Kind). page_of k ≡ p) (eqb m0 letter_s) (λ u. refl) (λ u. refl))

-- two numbers tested for equality
by_test : {X : Type 0} (a b : ℕ) → (a ≡ b → X) → (eqb a b ≡ false → X) → X
by_test a b f g = by_bool (eqb a b) (λ t. f (eqb-true a b t)) g

-- whatever the page bytes are, the letters are a mark
mark_alone : (got blank bare : Bool) → (got || (blank && bare)) ≡ true → (got || bare) ≡ true
mark_alone true blank bare h = refl
mark_alone false true bare h = h
mark_alone false false bare h = clash h refl

pub marks_kind_of : (m0 m1 p : ℕ) (blank : Bool) → mark_fits m0 m1 blank ≡ true → (mark0 (kind_of m0 m1 p) ≡ m0) × (mark1 (kind_of m0 m1 p) ≡ m1)
unfolding kind_of mark0 mark1 mark_fits got_mark bare_mark
marks_kind_of m0 m1 p blank v =
    let h : (got_mark m0 m1 || bare_mark m0 m1) ≡ true = mark_alone (got_mark m0 m1) blank (bare_mark m0 m1) v in
    by_test m0 letter_g
    (λ e. by_test m1 letter_c (λ f. (cc, cc)) (λ t. by_test m1 letter_o (λ f. (cc, cc)) (λ u. clash h (cc))))
    (λ t.
    by_test m0 letter_s
    (λ e. by_test m1 letter_h (λ f. (cc, cc)) (λ u. clash h (cc)))
    (λ u. by_test m0 letter_d (λ e. by_test m1 letter_r (λ f. (cc, cc)) (λ w. clash h (cc))) (λ w. clash h (cc))))

pub encode_decode_record : (form : Form) (pages : ℕ) (l : List ℕ) → slot_valid form pages l ≡ true → Bytes l → length l ≡ slot_size_in form
    → encode_record_in form (decode_record_in form l) ≡ l
unfolding encode_record_in decode_record_in slot_valid
encode_decode_record form pages l v b e =
    let k : Kind = kind_of (byte_at l mark0_at) (byte_at l mark1_at) (byte_at l slot_page_at) in
    let m : (mark0 k ≡ byte_at l mark0_at) × (mark1 k ≡ byte_at l mark1_at)
    = marks_kind_of (byte_at l mark0_at) (byte_at l mark1_at) (byte_at l slot_page_at) _ (and_left _ _ v) in
    rw (
      m.0,
      m.1,
      page_of_kind_of,
      bytes_of_part l record_count_at form.since_width b (omega arith),
      part_last l (slot_bytes_at_in form) page_size e,
      part_rest l record_count_at form.since_width (slot_bytes_at_in form) refl,
      byte_rest l slot_peer_at (omega arith),
      byte_rest l slot_page_at (omega arith),
      byte_rest l mark1_at (omega arith),
    )
    (byte_rest l mark0_at (omega arith))

-- ---- a log

-- 32 slots of which the first `count` are records
pub record LogPasses (form : Form) (pages count : ℕ) (l : List ℕ) : Type 0 where
  pub few : count ≤ slot_count
  pub slots : (i : ℕ) → i < count → slot_valid form pages (part l (i * slot_size_in form) (slot_size_in form)) ≡ true

-- a slot below the count is inside
pub slot_in : (form : Form) (count i : ℕ) → count ≤ slot_count → i < count → i * slot_size_in form + slot_size_in form ≤ slots_size_in form
slot_in form count i n h = index_in (slot_size_in form) slot_count i (omega arith)

pub length_decode_log : (form : Form) (count : ℕ) (l : List ℕ) → length (decode_log_in form count l) ≡ count
unfolding decode_log_in
length_decode_log form count l = length_decode_all (decode_record_in form) (slot_size_in form) count l

-- those behind them are zero
abbrev pub LogClean : (form : Form) (count : ℕ) → List ℕ → Type 0
LogClean form count l = drop (count * slot_size_in form) l ≡ zeros (slots_size_in form - count * slot_size_in form)

pub encode_decode_log : {form : Form} (pages count : ℕ) (l : List ℕ) → LogPasses form pages count l → LogClean form count l → Bytes l
    → length l ≡ slots_size_in form → encode_log_in form (decode_log_in form count l) ≡ l
unfolding encode_log_in decode_log_in
encode_decode_log {form} pages count l v z b e =
    rw (
      length_decode_all (decode_record_in form) (slot_size_in form) count l,
      encode_all_decode_all (encode_record_in form) (decode_record_in form) (slot_size_in form) count l
          (λ i h.
          let m : i * slot_size_in form + slot_size_in form ≤ slots_size_in form = slot_in form count i v.few h in
          encode_decode_record form pages (part l (i * slot_size_in form) (slot_size_in form)) (v.slots i h)
          (each_part l (i * slot_size_in form) (slot_size_in form) b) (length_part l (i * slot_size_in form) (slot_size_in form) (omega arith))),
      ← z,
    )
    (take-append-drop (count * slot_size_in form) l)

-- ---- an area

pub record AreaPasses (form : Form) (pages : ℕ) (l : List ℕ) : Type 0 where
  pub frames : FramesPass pages (part l area_frames_at (pages * frame_size))
  pub log : LogPasses form pages (byte_at l area_count_at) (part l (area_slots_at pages) (slots_size_in form))

abbrev pub AreaClean : (form : Form) (pages : ℕ) → List ℕ → Type 0
AreaClean form pages l = LogClean form (byte_at l area_count_at) (part l (area_slots_at pages) (slots_size_in form))

-- frames, and a log, read at any place of a longer list
pub frames_part : (pages : ℕ) (l : List ℕ) (a : ℕ) → FramesPass pages (part l a (pages * frame_size)) → a + pages * frame_size ≤ length l
    → encode_all encode_frame (decode_frames pages (part l a (pages * frame_size))) ≡ part l a (pages * frame_size)
frames_part pages l a v h = encode_decode_frames pages (part l a (pages * frame_size)) v (length_part l a (pages * frame_size) h)

pub log_part : {form : Form} (pages count : ℕ) (l : List ℕ) (a : ℕ) → LogPasses form pages count (part l a (slots_size_in form))
    → LogClean form count (part l a (slots_size_in form)) → Bytes l → a + slots_size_in form ≤ length l
    → encode_log_in form (decode_log_in form count (part l a (slots_size_in form))) ≡ part l a (slots_size_in form)
log_part {form} pages count l a v z b h =
    encode_decode_log pages count (part l a (slots_size_in form)) v z (each_part l a (slots_size_in form) b) (length_part l a (slots_size_in form) h)

pub encode_decode_area : {form : Form} (pages : ℕ) (l : List ℕ) → AreaPasses form pages l → AreaClean form pages l → Bytes l → length l ≡ area_size_in form pages
    → encode_area_in form (decode_area_in form pages l) ≡ l
unfolding encode_area_in decode_area_in
encode_decode_area {form} pages l v z b e =
    rw (
      bytes_of_part l area_number_at number_size b (omega arith),
      length_decode_log form (byte_at l area_count_at) (part l (area_slots_at pages) (slots_size_in form)),
      frames_part pages l area_frames_at v.frames (omega arith),
      log_part pages (byte_at l area_count_at) l (area_slots_at pages) v.log z b (omega arith),
    )
    (rw (
      part_last l (area_slots_at pages) (slots_size_in form) e,
      part_rest l area_frames_at (pages * frame_size) (area_slots_at pages) refl,
      byte_rest l area_count_at (omega arith),
    )
    (part_rest l area_number_at number_size area_count_at refl))

pub area_part : {form : Form} (pages : ℕ) (l : List ℕ) (a : ℕ) → AreaPasses form pages (part l a (area_size_in form pages))
    → AreaClean form pages (part l a (area_size_in form pages)) → Bytes l → a + area_size_in form pages ≤ length l
    → encode_area_in form (decode_area_in form pages (part l a (area_size_in form pages))) ≡ part l a (area_size_in form pages)
area_part {form} pages l a v z b h =
    encode_decode_area pages (part l a (area_size_in form pages)) v z (each_part l a (area_size_in form pages) b) (length_part l a (area_size_in form pages) h)

-- ---- a block

pub state_byte_state_of : (n : ℕ) → n ≤ state_byte Replaying → state_byte (state_of n) ≡ n
unfolding state_byte state_of
state_byte_state_of zero h = refl
state_byte_state_of (suc zero) h = refl
state_byte_state_of (suc (suc n)) h = omega arith

pub selector_byte_eqb : (n : ℕ) → n ≤ selector_byte true → selector_byte (eqb n (selector_byte true)) ≡ n
unfolding selector_byte
selector_byte_eqb zero h = refl
selector_byte_eqb (suc zero) h = refl
selector_byte_eqb (suc (suc n)) h = absurd (omega arith)

pub second_decode_stable : (b : Bool) (a0 a1 : Area) → (decode_stable b a0 a1).second ≡ b
unfolding decode_stable
second_decode_stable true a0 a1 = refl
second_decode_stable false a0 a1 = refl

pub encode_decode_stable : (form : Form) (b : Bool) (a0 a1 : Area) → encode_stable_in form (decode_stable b a0 a1) ≡ encode_area_in form a0 ++ encode_area_in form a1
unfolding encode_stable_in decode_stable
encode_decode_stable form true a0 a1 = refl
encode_decode_stable form false a0 a1 = refl

-- what the test of a block says of its parts
pub record Readable (form : Form) (pages : ℕ) (l : List ℕ) : Type 0 where
  pub state : byte_at l state_at ≤ state_byte Replaying
  pub selector : byte_at l selector_at ≤ selector_byte true
  pub frames : FramesPass pages (part l (frames_at_in form) (pages * frame_size))
  pub log : LogPasses form pages (byte_at l (volatile_count_at_in form)) (part l (slots_at_in form pages) (slots_size_in form))
  pub area0 : AreaPasses form pages (part l (area_at_in form pages 0) (area_size_in form pages))
  pub area1 : AreaPasses form pages (part l (area_at_in form pages 1) (area_size_in form pages))

-- all slots past a count are zero
pub record CleanBlock (form : Form) (pages : ℕ) (l : List ℕ) : Type 0 where
  pub log : LogClean form (byte_at l (volatile_count_at_in form)) (part l (slots_at_in form pages) (slots_size_in form))
  pub area0 : AreaClean form pages (part l (area_at_in form pages 0) (area_size_in form pages))
  pub area1 : AreaClean form pages (part l (area_at_in form pages 1) (area_size_in form pages))

-- five pieces and what follows them
regroup : (s f n c p r : List ℕ) → (s ++ (f ++ (n ++ (c ++ p)))) ++ r ≡ s ++ (f ++ (n ++ (c ++ (p ++ r))))
regroup s f n c p r = simp append_assoc

-- the fixed fields, then the rest
fixed_back : {form : Form} (pages : ℕ) (l : List ℕ) → Readable form pages l → Bytes l → frames_at_in form ≤ length l
    → encode_fixed_in form (decode_board_in form pages l) ++ drop (frames_at_in form) l ≡ l
unfolding encode_fixed_in decode_board_in
fixed_back {form} pages l v b h =
    let a0 : Area = decode_area_in form pages (part l (area_at_in form pages 0) (area_size_in form pages)) in
    let a1 : Area = decode_area_in form pages (part l (area_at_in form pages 1) (area_size_in form pages)) in
    rw (
      state_byte_state_of (byte_at l state_at) v.state,
      second_decode_stable (eqb (byte_at l selector_at) (selector_byte true)) a0 a1,
      selector_byte_eqb (byte_at l selector_at) v.selector,
      bytes_of_part l fuse_at fuse_size b (omega arith),
      bytes_of_part l number_at number_size b (omega arith),
      bytes_of_part l since_at form.since_width b (omega arith),
      length_decode_log form (byte_at l (volatile_count_at_in form)) (part l (slots_at_in form pages) (slots_size_in form)),
    )
    (regroup (byte_at l state_at ∷ byte_at l selector_at ∷ []) (part l fuse_at fuse_size) (part l number_at number_size) (part l since_at form.since_width)
    (byte_at l (place_at_in form) ∷ byte_at l (volatile_count_at_in form) ∷ []) (drop (frames_at_in form) l)
    ∙ rw (
      byte_rest l (volatile_count_at_in form) (omega arith),
      byte_rest l (place_at_in form) (omega arith),
      part_rest l since_at form.since_width (place_at_in form) refl,
      part_rest l number_at number_size since_at refl,
      part_rest l fuse_at fuse_size number_at refl,
      byte_rest l selector_at (omega arith),
    )
    (byte_rest l state_at (omega arith)))

-- an area lies inside its block
pub area_inside : (form : Form) (pages area : ℕ) → area < 2 → area_at_in form pages area + area_size_in form pages ≤ block_size_in form pages
area_inside form pages area h = omega (arith, index_in (area_size_in form pages) 2 area h)

-- what stands behind the fixed fields: frames, volatile slots, two areas
behind_fixed : (form : Form) (pages : ℕ) (l : List ℕ) → length l ≡ block_size_in form pages
    → part l (frames_at_in form) (pages * frame_size)
    ++ (part l (slots_at_in form pages) (slots_size_in form) ++ (part l (area_at_in form pages 0) (area_size_in form pages)
    ++ part l (area_at_in form pages 1) (area_size_in form pages)))
    ≡ drop (frames_at_in form) l
behind_fixed form pages l e =
    rw (
      part_last l (area_at_in form pages 1) (area_size_in form pages) (omega arith),
      part_rest l (area_at_in form pages 0) (area_size_in form pages) (area_at_in form pages 1) (omega arith),
      part_rest l (slots_at_in form pages) (slots_size_in form) (area_at_in form pages 0) (omega arith),
    )
    (part_rest l (frames_at_in form) (pages * frame_size) (slots_at_in form pages) refl)

pub encode_decode_board : {form : Form} (pages : ℕ) (l : List ℕ) → Readable form pages l → CleanBlock form pages l → Bytes l → length l ≡ block_size_in form pages
    → encode_board_in form (decode_board_in form pages l) ≡ l
unfolding encode_board_in decode_board_in
encode_decode_board {form} pages l r z b e =
    rw (
      frames_part pages l (frames_at_in form) r.frames (omega arith),
      log_part pages (byte_at l (volatile_count_at_in form)) l (slots_at_in form pages) r.log z.log b (omega arith),
      encode_decode_stable form,
      area_part pages l (area_at_in form pages 0) r.area0 z.area0 b (omega arith),
      area_part pages l (area_at_in form pages 1) r.area1 z.area1 b (omega arith),
      behind_fixed form pages l e,
    )
    (fixed_back pages l r b (omega arith))
