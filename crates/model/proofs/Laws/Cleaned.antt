-- Document 02, F-8: the slots at or past the counts of a block made zero. All else of the block is as it was, so it is read as the same board, and what is
-- written of that board are these bytes; where the slots were zero, the block itself. Assumes nothing.
use Rattle.std.specs.Prelude.{◌≡◌, refl, drop}
use Rattle.std.proofs.Common.{sym, ◌∙◌, mul-le-mul_right, zero-add, add-zero, drop_at, lit<}
use Rattle.std.proofs.Math.Path.{ap}
use Prim.Native.Nat.{ℕ, zero, suc, ◌+◌, ◌-◌, ◌*◌, ◌≤◌, ◌<◌}
use Rattle.std.proofs.Math.Decide.{dec_le}
use native.Mathlib.Omega.{arith}
use mathlib.Core.List.{List, [], ◌∷◌}
use Rattle.std.proofs.Math.ListN.{length}
use Rattle.words.specs.Bytes.{Bytes}
use Rattle.types.specs.declared.Record.{Record}
use Rattle.model.specs.Definitions.Parts.{part, splice, byte_at, zeros, encode_all}
use Rattle.model.specs.Definitions.Layout.{slot_count, frame_size, fuse_size, number_size, state_at, selector_at, fuse_at, number_at, since_at, area_number_at}
use Rattle.model.specs.Definitions.Layout.{area_count_at, area_frames_at, area_slots_at, slot_size_in, slots_size_in, area_size_in, place_at_in, volatile_count_at_in}
use Rattle.model.specs.Definitions.Layout.{frames_at_in, slots_at_in, area_at_in, block_size_in, Form, today}
use Rattle.model.specs.Definitions.Bank.{Area, Board}
use Rattle.model.specs.Definitions.Codec.{encode_record_in, encode_log_in, decode_log_in, encode_area_in, decode_area_in, encode_board_in, decode_board_in}
use Rattle.model.specs.Definitions.WellFormed.{LogOkIn, AreaOkIn, FieldsOkIn}
use Rattle.model.specs.Definitions.Check.{area_count, area_log_at, rest_zero, block_clean}
use Rattle.model.specs.Definitions.Older.{cleaned_log, cleaned_block}
use Rattle.model.proofs.Laws.Parts.{length_part, part_part, part_join, part_last, byte_at_part, same_byte, length_splice, part_splice, part_splice_before}
use Rattle.model.proofs.Laws.Parts.{part_splice_after, each_splice, index_in, decode_all_append}
use Rattle.model.proofs.Laws.Zeros.{zeros_bytes, zeros_length, zeros_over}
use Rattle.model.proofs.Laws.Codec.{length_encode_records, area_count_lem, area_slots}
use Rattle.model.proofs.Laws.CodecBank.{area0, area1, area0_ok, area1_ok, fixed_volatile, board_byte, board_slots, board_area0, board_area1}
use Rattle.model.proofs.Laws.CodecBack.{LogPasses, AreaPasses, Readable, LogClean, AreaClean, CleanBlock, encode_decode_board, area_inside}
use Rattle.model.proofs.Laws.BoardTests.{count_place, slots_place}
use Rattle.model.proofs.Laws.Tests.{Says, says_and, says_zero}

-- ==== the test of the slots past a count, of a block

-- what stands behind the first c of a part
pub part_behind : (l : List ℕ) (a n c : ℕ) → a + n ≤ length l → c ≤ n → drop c (part l a n) ≡ part l (a + c) (n - c)
part_behind l a n c h k = sym (part_last (part l a n) c (n - c) (length_part l a n h ∙ omega arith)) ∙ part_part l a n c (n - c) (omega arith)

-- records fill no more than the slots
few_slots : (form : Form) (count : ℕ) → count ≤ slot_count → count * slot_size_in form ≤ slots_size_in form
few_slots form count h = mul-le-mul_right {m = count} {n = slot_count} (slot_size_in form) h

says_rest : (form : Form) (a count : ℕ) (l : List ℕ) → a + slots_size_in form ≤ length l → count ≤ slot_count
    → Says (rest_zero form a count l) (LogClean form count (part l a (slots_size_in form)))
unfolding rest_zero
says_rest form a count l h k =
    let c : ℕ = count * slot_size_in form in
    let m : c ≤ slots_size_in form = few_slots form count k in
    rw (part_behind l a (slots_size_in form) c h m)
    (says_zero (part l (a + c) (slots_size_in form - c)) (slots_size_in form - c) (length_part l (a + c) (slots_size_in form - c) (omega arith)))

module _ (form : Form) (pages : ℕ) (l : List ℕ) (n : length l ≡ block_size_in form pages) where
  -- an area's slots are inside its block
  log_inside : (area : ℕ) → area < 2 → area_log_at form pages area + slots_size_in form ≤ length l
  log_inside area h = omega (arith, area_inside form pages area h)

  says_area : (area : ℕ) → area < 2 → area_count form pages area l ≤ slot_count
      → Says (rest_zero form (area_log_at form pages area) (area_count form pages area l) l)
      (AreaClean form pages (part l (area_at_in form pages area) (area_size_in form pages)))
  says_area area h k =
      rw (count_place form pages area l, slots_place form pages area l)
      (says_rest form (area_log_at form pages area) (area_count form pages area l) l (log_inside area h) k)

  pub says_clean : Readable form pages l → Says (block_clean form pages l) (CleanBlock form pages l)
  unfolding block_clean
  says_clean r =
      let all =
      says_and (says_rest form (slots_at_in form pages) (byte_at l (volatile_count_at_in form)) l (omega arith) r.log.few)
      (says_and (says_area 0 (lit< tt) (rw (count_place form pages 0 l) at r.area0.log.few))
      (says_area 1 (lit< tt) (rw (count_place form pages 1 l) at r.area1.log.few))) in (
        λ t. let q = all.0 t in record { log = q.0; area0 = q.1.0; area1 = q.1.1 },
        λ z. all.1 (z.log, (z.area0, z.area1)),
      )

-- ---- what is written passes it

log_clean : {form : Form} (pages : ℕ) (rs : List Record) → LogOkIn form pages rs → LogClean form (length rs) (encode_log_in form rs)
unfolding encode_log_in
log_clean {form} pages rs ok =
    drop_at (encode_all (encode_record_in form) rs) (zeros (slots_size_in form - length rs * slot_size_in form)) (length rs * slot_size_in form)
    (length_encode_records pages rs ok.records)

area_clean : {form : Form} (pages : ℕ) (a : Area) → AreaOkIn form pages a → AreaClean form pages (encode_area_in form a)
area_clean pages a ok = rw (area_count_lem pages a ok, area_slots pages a ok) (log_clean pages a.log ok.log)

pub block_clean_lem : {form : Form} (pages : ℕ) (x : Board) → FieldsOkIn form pages x → CleanBlock form pages (encode_board_in form x)
block_clean_lem {form} pages x ok =
    record {
      log =
          rw (board_byte pages x ok (volatile_count_at_in form) (omega arith), fixed_volatile form x, board_slots pages x ok)
          (log_clean pages x.working.log ok.working.log);
      area0 = rw (board_area0 pages x ok) (area_clean pages (area0 x.stable) (area0_ok pages x ok));
      area1 = rw (board_area1 pages x ok) (area_clean pages (area1 x.stable) (area1_ok pages x ok));
    }

-- ==== one log made clean

module _ (form : Form) (a count : ℕ) (l : List ℕ) (h : a + slots_size_in form ≤ length l) where
  abbrev c : ℕ
  c = count * slot_size_in form

  -- a count beyond the slots leaves none to zero
  by_count : {X : Type 0} → (c ≤ slots_size_in form → X) → (cleaned_log form a count l ≡ l → X) → X
  unfolding cleaned_log zeros splice part
  by_count f g =
      elim (dec_le c (slots_size_in form)) [
        | yes k ↦ f k
        | no k ↦
            let z : slots_size_in form - c ≡ 0 = omega arith in
            g (rw z (zeros_over l (a + c) 0 refl))
      ]

  pub length_cleaned : length (cleaned_log form a count l) ≡ length l
  unfolding cleaned_log
  length_cleaned =
      let w : length (zeros (slots_size_in form - c)) ≡ slots_size_in form - c = zeros_length (slots_size_in form - c) in
      by_count (λ k. length_splice l (a + c) (zeros (slots_size_in form - c)) (omega arith)) (λ e. ap length e)

  pub before_cleaned : (b n : ℕ) → b + n ≤ a + c → part (cleaned_log form a count l) b n ≡ part l b n
  unfolding cleaned_log
  before_cleaned b n m =
      by_count (λ k. part_splice_before l (a + c) (zeros (slots_size_in form - c)) b n m (omega arith)) (λ e. ap (λ (r : List ℕ). part r b n) e)

  pub after_cleaned : (b n : ℕ) → a + slots_size_in form ≤ b → part (cleaned_log form a count l) b n ≡ part l b n
  unfolding cleaned_log
  after_cleaned b n m =
      let w : length (zeros (slots_size_in form - c)) ≡ slots_size_in form - c = zeros_length (slots_size_in form - c) in
      by_count (λ k. part_splice_after l (a + c) (zeros (slots_size_in form - c)) b n (omega arith) (omega arith)) (λ e. ap (λ (r : List ℕ). part r b n) e)

  pub zero_cleaned : count ≤ slot_count → part (cleaned_log form a count l) (a + c) (slots_size_in form - c) ≡ zeros (slots_size_in form - c)
  unfolding cleaned_log
  zero_cleaned k =
      let m : c ≤ slots_size_in form = few_slots form count k in
      part_splice l (a + c) (slots_size_in form - c) (zeros (slots_size_in form - c)) (zeros_length (slots_size_in form - c)) (omega arith)

bytes_cleaned : (form : Form) (a count : ℕ) (l : List ℕ) → Bytes l → Bytes (cleaned_log form a count l)
unfolding cleaned_log
bytes_cleaned form a count l b = each_splice l _ _ b (zeros_bytes _)

-- ==== two lists with the same first bytes

module _ (l m : List ℕ) (n : ℕ) (e : part m 0 n ≡ part l 0 n) where
  front_part : (b k : ℕ) → b + k ≤ n → part m b k ≡ part l b k
  front_part b k h =
      let at : (r : List ℕ) → part (part r 0 n) b k ≡ part r b k = λ r. rw zero-add at (part_part r 0 n b k h) in
      sym (at m) ∙ ap (λ (r : List ℕ). part r b k) e ∙ at l

  front_byte : (i : ℕ) → i < n → byte_at m i ≡ byte_at l i
  front_byte i h =
      let at : (r : List ℕ) → byte_at (part r 0 n) i ≡ byte_at r i = λ r. rw zero-add at (byte_at_part r 0 n i h) in
      sym (at m) ∙ ap (λ (r : List ℕ). byte_at r i) e ∙ at l

-- a log's reader looks at its records alone
log_front : (form : Form) (l : List ℕ) (a count : ℕ) → count ≤ slot_count → a + slots_size_in form ≤ length l
    → decode_log_in form count (part l a (slots_size_in form)) ≡ decode_log_in form count (part l a (count * slot_size_in form))
unfolding decode_log_in
log_front form l a count k h =
    let c : ℕ = count * slot_size_in form in
    let m : c ≤ slots_size_in form = few_slots form count k in
    let e : c + (slots_size_in form - c) ≡ slots_size_in form = omega arith in
    let w : length (part l a c) ≡ c = length_part l a c (omega arith) in
    rw (← e, ← part_join l a c (slots_size_in form - c)) (decode_all_append _ (slot_size_in form) count (part l a c) _ (omega arith))

-- so do the tests of its records
log_same : {form : Form} (pages : ℕ) (l m : List ℕ) (a count n : ℕ) → part m 0 n ≡ part l 0 n → count ≤ slot_count → a + count * slot_size_in form ≤ n
    → LogPasses form pages count (part l a (slots_size_in form)) → LogPasses form pages count (part m a (slots_size_in form))
log_same {form} pages l m a count n e k h v =
    let s : ℕ = slot_size_in form in
    let slot : (r : List ℕ) (i : ℕ) → i < count → part (part r a (slots_size_in form)) (i * s) s ≡ part r (a + i * s) s =
    λ r i b. part_part r a (slots_size_in form) (i * s) s (omega (arith, index_in s slot_count i (omega arith))) in
    record {
      few = k;
      slots =
          λ i b.
          rw (slot m i b, front_part l m n e (a + i * s) s (omega (arith, index_in s count i b)))
          (rw (slot l i b) at (v.slots i b));
    }

-- ---- an area, and what its reader and its tests look at

module _ (form : Form) (pages : ℕ) (l m : List ℕ) (few : byte_at l area_count_at ≤ slot_count) (n : length l ≡ area_size_in form pages)
    (n' : length m ≡ area_size_in form pages)
    (e : part m 0 (area_slots_at pages + byte_at l area_count_at * slot_size_in form) ≡ part l 0 (area_slots_at pages + byte_at l area_count_at * slot_size_in form)) where
  abbrev front : ℕ
  front = area_slots_at pages + byte_at l area_count_at * slot_size_in form

  area_count_same : byte_at m area_count_at ≡ byte_at l area_count_at
  area_count_same = front_byte l m front e area_count_at (omega arith)

  area_same : decode_area_in form pages m ≡ decode_area_in form pages l
  unfolding decode_area_in
  area_same =
      rw (
        area_count_same,
        front_part l m front e area_number_at number_size (omega arith),
        front_part l m front e area_frames_at (pages * frame_size) (omega arith),
        log_front form m (area_slots_at pages) (byte_at l area_count_at) few (omega arith),
        log_front form l (area_slots_at pages) (byte_at l area_count_at) few (omega arith),
        front_part l m front e (area_slots_at pages) (byte_at l area_count_at * slot_size_in form) (omega arith),
      )

  area_passes : AreaPasses form pages l → AreaPasses form pages m
  area_passes v =
      record {
        frames = rw (front_part l m front e area_frames_at (pages * frame_size) (omega arith)) v.frames;
        log = rw area_count_same (log_same pages l m (area_slots_at pages) (byte_at l area_count_at) front e few (omega arith) v.log);
      }

-- ---- a block: two that differ in slots past a count alone

pub record SameBelow (form : Form) (pages : ℕ) (l m : List ℕ) : Type 0 where
  pub size : length l ≡ block_size_in form pages
  pub size' : length m ≡ block_size_in form pages
  pub volatile : byte_at l (volatile_count_at_in form) ≤ slot_count
  pub stored : (area : ℕ) → area < 2 → area_count form pages area l ≤ slot_count
  pub working :
      part m 0 (slots_at_in form pages + byte_at l (volatile_count_at_in form) * slot_size_in form)
      ≡ part l 0 (slots_at_in form pages + byte_at l (volatile_count_at_in form) * slot_size_in form)
  pub areas : (area : ℕ) → area < 2
      → part m (area_at_in form pages area) (area_slots_at pages + area_count form pages area l * slot_size_in form)
      ≡ part l (area_at_in form pages area) (area_slots_at pages + area_count form pages area l * slot_size_in form)

module _ (form : Form) (pages : ℕ) (l m : List ℕ) (s : SameBelow form pages l m) where
  abbrev read : ℕ
  read = slots_at_in form pages + byte_at l (volatile_count_at_in form) * slot_size_in form

  abbrev own : List ℕ → ℕ → List ℕ
  own r area = part r (area_at_in form pages area) (area_size_in form pages)

  pub same_volatile : byte_at m (volatile_count_at_in form) ≡ byte_at l (volatile_count_at_in form)
  same_volatile = front_byte l m read s.working (volatile_count_at_in form) (omega arith)

  module _ (area : ℕ) (h : area < 2) where
    inside : area_at_in form pages area + area_size_in form pages ≤ block_size_in form pages
    inside = area_inside form pages area h

    few_own : byte_at (own l area) area_count_at ≤ slot_count
    few_own = rw (count_place form pages area l) (s.stored area h)

    same_own : part (own m area) 0 (area_slots_at pages + byte_at (own l area) area_count_at * slot_size_in form)
        ≡ part (own l area) 0 (area_slots_at pages + byte_at (own l area) area_count_at * slot_size_in form)
    same_own =
        let n : ℕ = area_slots_at pages + area_count form pages area l * slot_size_in form in
        let k : area_count form pages area l * slot_size_in form ≤ slots_size_in form = few_slots form (area_count form pages area l) (s.stored area h) in
        let at : (r : List ℕ) → part (own r area) 0 n ≡ part r (area_at_in form pages area) n =
        λ r. rw add-zero at (part_part r (area_at_in form pages area) (area_size_in form pages) 0 n (omega arith)) in
        rw (count_place form pages area l) (at m ∙ s.areas area h ∙ sym (at l))

    length_own : (r : List ℕ) → length r ≡ block_size_in form pages → length (own r area) ≡ area_size_in form pages
    length_own r n = length_part r (area_at_in form pages area) (area_size_in form pages) (omega (arith, inside))

    pub same_area : decode_area_in form pages (part m (area_at_in form pages area) (area_size_in form pages))
        ≡ decode_area_in form pages (part l (area_at_in form pages area) (area_size_in form pages))
    same_area = area_same form pages (own l area) (own m area) few_own (length_own l s.size) (length_own m s.size') same_own

    same_area_passes : AreaPasses form pages (own l area) → AreaPasses form pages (own m area)
    same_area_passes = area_passes form pages (own l area) (own m area) few_own (length_own l s.size) (length_own m s.size') same_own

    same_count : area_count form pages area m ≡ area_count form pages area l
    same_count =
        sym (count_place form pages area m)
        ∙ area_count_same form pages (own l area) (own m area) few_own (length_own l s.size) (length_own m s.size') same_own
        ∙ count_place form pages area l

  -- it is read as the same board
  pub same_board : decode_board_in form pages m ≡ decode_board_in form pages l
  unfolding decode_board_in
  same_board =
      let keep : (b k : ℕ) → b + k ≤ read → part m b k ≡ part l b k = front_part l m read s.working in
      let byte : (i : ℕ) → i < read → byte_at m i ≡ byte_at l i = front_byte l m read s.working in
      let v : ℕ = byte_at l (volatile_count_at_in form) in
      rw (
        byte state_at (omega arith),
        byte selector_at (omega arith),
        byte (place_at_in form) (omega arith),
        same_volatile,
        keep fuse_at fuse_size (omega arith),
        keep number_at number_size (omega arith),
        keep since_at form.since_width (omega arith),
        keep (frames_at_in form) (pages * frame_size) (omega arith),
        log_front form m (slots_at_in form pages) v s.volatile (omega (arith, s.size')),
        log_front form l (slots_at_in form pages) v s.volatile (omega (arith, s.size)),
        keep (slots_at_in form pages) (v * slot_size_in form) (omega arith),
        same_area 0 (lit< tt),
        same_area 1 (lit< tt),
      )

  -- and can be read where the other can
  pub same_readable : Readable form pages l → Readable form pages m
  same_readable r =
      record {
        state = rw (front_byte l m read s.working state_at (omega arith)) r.state;
        selector = rw (front_byte l m read s.working selector_at (omega arith)) r.selector;
        frames = rw (front_part l m read s.working (frames_at_in form) (pages * frame_size) (omega arith)) r.frames;
        log =
            rw same_volatile
            (log_same pages l m (slots_at_in form pages) (byte_at l (volatile_count_at_in form)) read s.working s.volatile (omega arith) r.log);
        area0 = same_area_passes 0 (lit< tt) r.area0;
        area1 = same_area_passes 1 (lit< tt) r.area1;
      }

  pub same_back : SameBelow form pages m l
  same_back =
      record {
        size = s.size';
        size' = s.size;
        volatile = rw same_volatile s.volatile;
        stored = λ area h. rw (same_count area h) (s.stored area h);
        working = rw same_volatile (sym s.working);
        areas = λ area h. rw (same_count area h) (sym (s.areas area h));
      }

-- what holds of both areas
pub by_area : (P : ℕ → Type 0) → P 0 → P 1 → (area : ℕ) → area < 2 → P area
by_area P p q zero h = p
by_area P p q (suc zero) h = q
by_area P p q (suc (suc n)) h = absurd (omega arith)

-- ==== a block made clean

module _ (form : Form) (pages : ℕ) (l : List ℕ) (n : length l ≡ block_size_in form pages) where
  abbrev v : ℕ
  v = byte_at l (volatile_count_at_in form)

  -- the second area, then the first, then the volatile log
  abbrev once : List ℕ
  once = cleaned_log form (area_log_at form pages 1) (area_count form pages 1 l) l

  abbrev twice : List ℕ
  twice = cleaned_log form (area_log_at form pages 0) (area_count form pages 0 l) once

  length_once : length once ≡ block_size_in form pages
  length_once = length_cleaned form (area_log_at form pages 1) (area_count form pages 1 l) l (log_inside form pages l n 1 (lit< tt)) ∙ n

  length_twice : length twice ≡ block_size_in form pages
  length_twice = length_cleaned form (area_log_at form pages 0) (area_count form pages 0 l) once (log_inside form pages once length_once 0 (lit< tt)) ∙ length_once

  pub length_cleaned_block : length (cleaned_block form pages l) ≡ block_size_in form pages
  unfolding cleaned_block
  length_cleaned_block = length_cleaned form (slots_at_in form pages) v twice (omega (arith, length_twice)) ∙ length_twice

  pub bytes_cleaned_block : Bytes l → Bytes (cleaned_block form pages l)
  unfolding cleaned_block
  bytes_cleaned_block b = bytes_cleaned form _ _ twice (bytes_cleaned form _ _ once (bytes_cleaned form _ _ l b))

  -- what stands before a log's slots past its count, and behind those of the logs before it, is as it was
  before_volatile : (b k : ℕ) → b + k ≤ slots_at_in form pages + v * slot_size_in form → b + k ≤ area_at_in form pages 0
      → part (cleaned_block form pages l) b k ≡ part l b k
  unfolding cleaned_block
  before_volatile b k h i =
      before_cleaned form (slots_at_in form pages) v twice (omega (arith, length_twice)) b k h
      ∙ before_cleaned form (area_log_at form pages 0) (area_count form pages 0 l) once (log_inside form pages once length_once 0 (lit< tt)) b k (omega arith)
      ∙ before_cleaned form (area_log_at form pages 1) (area_count form pages 1 l) l (log_inside form pages l n 1 (lit< tt)) b k (omega arith)

  before_area0 : (b k : ℕ) → area_at_in form pages 0 ≤ b → b + k ≤ area_log_at form pages 0 + area_count form pages 0 l * slot_size_in form
      → b + k ≤ area_at_in form pages 1 → part (cleaned_block form pages l) b k ≡ part l b k
  unfolding cleaned_block
  before_area0 b k g h i =
      after_cleaned form (slots_at_in form pages) v twice (omega (arith, length_twice)) b k (omega arith)
      ∙ before_cleaned form (area_log_at form pages 0) (area_count form pages 0 l) once (log_inside form pages once length_once 0 (lit< tt)) b k h
      ∙ before_cleaned form (area_log_at form pages 1) (area_count form pages 1 l) l (log_inside form pages l n 1 (lit< tt)) b k (omega arith)

  before_area1 : (b k : ℕ) → area_at_in form pages 1 ≤ b → b + k ≤ area_log_at form pages 1 + area_count form pages 1 l * slot_size_in form
      → part (cleaned_block form pages l) b k ≡ part l b k
  unfolding cleaned_block
  before_area1 b k g h =
      after_cleaned form (slots_at_in form pages) v twice (omega (arith, length_twice)) b k (omega arith)
      ∙ after_cleaned form (area_log_at form pages 0) (area_count form pages 0 l) once (log_inside form pages once length_once 0 (lit< tt)) b k (omega arith)
      ∙ before_cleaned form (area_log_at form pages 1) (area_count form pages 1 l) l (log_inside form pages l n 1 (lit< tt)) b k h

  -- so the counts stay
  cleaned_volatile : byte_at (cleaned_block form pages l) (volatile_count_at_in form) ≡ v
  cleaned_volatile =
      front_byte l (cleaned_block form pages l) (slots_at_in form pages) (before_volatile 0 (slots_at_in form pages) (omega arith) (omega arith))
      (volatile_count_at_in form) (omega arith)

  cleaned_stored : (area : ℕ) → area < 2 → area_count form pages area (cleaned_block form pages l) ≡ area_count form pages area l
  unfolding area_count
  cleaned_stored =
      by_area (λ area. area_count form pages area (cleaned_block form pages l) ≡ area_count form pages area l)
      (same_byte (cleaned_block form pages l) l (area_at_in form pages 0 + area_count_at)
      (before_area0 (area_at_in form pages 0 + area_count_at) 1 (omega arith) (omega arith) (omega arith)))
      (same_byte (cleaned_block form pages l) l (area_at_in form pages 1 + area_count_at)
      (before_area1 (area_at_in form pages 1 + area_count_at) 1 (omega arith) (omega arith)))

  -- counts of no more than the slots, in the block or in what it is made
  module _ (few : v ≤ slot_count) (fews : (area : ℕ) → area < 2 → area_count form pages area l ≤ slot_count) where
    records : (area : ℕ) → area < 2 → area_count form pages area l * slot_size_in form ≤ slots_size_in form
    records area h = few_slots form (area_count form pages area l) (fews area h)

    pub cleaned_same : SameBelow form pages l (cleaned_block form pages l)
    cleaned_same =
        record {
          size = n;
          size' = length_cleaned_block;
          volatile = few;
          stored = fews;
          working = before_volatile 0 (slots_at_in form pages + v * slot_size_in form) (omega arith) (omega (arith, few_slots form v few));
          areas =
              by_area
              (λ area.
              part (cleaned_block form pages l) (area_at_in form pages area) (area_slots_at pages + area_count form pages area l * slot_size_in form)
              ≡ part l (area_at_in form pages area) (area_slots_at pages + area_count form pages area l * slot_size_in form))
              (before_area0 (area_at_in form pages 0) _ (omega arith) (omega arith) (omega (arith, records 0 (lit< tt))))
              (before_area1 (area_at_in form pages 1) _ (omega arith) (omega arith));
        }

    -- the slots past the counts are zero
    zero_part : (m : List ℕ) (a count : ℕ) → a + slots_size_in form ≤ length m → count ≤ slot_count
        → part m (a + count * slot_size_in form) (slots_size_in form - count * slot_size_in form) ≡ zeros (slots_size_in form - count * slot_size_in form)
        → LogClean form count (part m a (slots_size_in form))
    zero_part m a count h k e = part_behind m a (slots_size_in form) (count * slot_size_in form) h (few_slots form count k) ∙ e

    cleaned_area : (area : ℕ) → area < 2
        → part (cleaned_block form pages l) (area_log_at form pages area + area_count form pages area l * slot_size_in form)
        (slots_size_in form - area_count form pages area l * slot_size_in form)
        ≡ zeros (slots_size_in form - area_count form pages area l * slot_size_in form)
        → AreaClean form pages (part (cleaned_block form pages l) (area_at_in form pages area) (area_size_in form pages))
    cleaned_area area h e =
        rw (count_place form pages area (cleaned_block form pages l), slots_place form pages area (cleaned_block form pages l), cleaned_stored area h)
        (zero_part (cleaned_block form pages l) (area_log_at form pages area) (area_count form pages area l)
        (log_inside form pages (cleaned_block form pages l) length_cleaned_block area h) (fews area h) e)

    pub cleaned_clean : CleanBlock form pages (cleaned_block form pages l)
    unfolding cleaned_block
    cleaned_clean =
        let below : slots_at_in form pages + slots_size_in form ≤ length twice = omega (arith, length_twice) in
        let first = log_inside form pages once length_once 0 (lit< tt) in
        record {
          log =
              rw cleaned_volatile
              (zero_part (cleaned_block form pages l) (slots_at_in form pages) v (omega (arith, length_cleaned_block)) few
              (zero_cleaned form (slots_at_in form pages) v twice below few));
          area0 =
              cleaned_area 0 (lit< tt)
              (after_cleaned form (slots_at_in form pages) v twice below _ _ (omega arith)
              ∙ zero_cleaned form (area_log_at form pages 0) (area_count form pages 0 l) once first (fews 0 (lit< tt)));
          area1 =
              cleaned_area 1 (lit< tt)
              (after_cleaned form (slots_at_in form pages) v twice below _ _ (omega arith)
              ∙ after_cleaned form (area_log_at form pages 0) (area_count form pages 0 l) once first _ _ (omega arith)
              ∙ zero_cleaned form (area_log_at form pages 1) (area_count form pages 1 l) l (log_inside form pages l n 1 (lit< tt)) (fews 1 (lit< tt)));
        }

    -- a clean block stays as it is
    clean_log : (a count : ℕ) → a + slots_size_in form ≤ length l → count ≤ slot_count → LogClean form count (part l a (slots_size_in form))
        → cleaned_log form a count l ≡ l
    unfolding cleaned_log
    clean_log a count h k e =
        zeros_over l (a + count * slot_size_in form) (slots_size_in form - count * slot_size_in form)
        (sym (part_behind l a (slots_size_in form) (count * slot_size_in form) h (few_slots form count k)) ∙ e)

    clean_area : (area : ℕ) → area < 2 → AreaClean form pages (part l (area_at_in form pages area) (area_size_in form pages))
        → cleaned_log form (area_log_at form pages area) (area_count form pages area l) l ≡ l
    clean_area area h e =
        clean_log (area_log_at form pages area) (area_count form pages area l) (log_inside form pages l n area h) (fews area h)
        (rw (count_place form pages area l, slots_place form pages area l) at e)

    pub clean_stays : CleanBlock form pages l → cleaned_block form pages l ≡ l
    unfolding cleaned_block
    clean_stays z =
        rw (clean_area 1 (lit< tt) z.area1, clean_area 0 (lit< tt) z.area0) (clean_log (slots_at_in form pages) v (omega arith) few z.log)

  -- where the block can be read, and where what it is made can be: so then can the other, as the same board
  module _ (r : Readable form pages l) where
    counts : (area : ℕ) → area < 2 → area_count form pages area l ≤ slot_count
    counts =
        by_area (λ area. area_count form pages area l ≤ slot_count) (rw (count_place form pages 0 l) at r.area0.log.few)
        (rw (count_place form pages 1 l) at r.area1.log.few)

    pub readable_same : SameBelow form pages l (cleaned_block form pages l)
    readable_same = cleaned_same r.log.few counts

    -- what was read is written so
    pub cleaned_back : Bytes l → encode_board_in form (decode_board_in form pages l) ≡ cleaned_block form pages l
    cleaned_back b =
        ap (encode_board_in form) (sym (same_board form pages l (cleaned_block form pages l) readable_same))
        ∙ encode_decode_board pages (cleaned_block form pages l) (same_readable form pages l (cleaned_block form pages l) readable_same r)
        (cleaned_clean r.log.few counts) (bytes_cleaned_block b) length_cleaned_block

    pub readable_stays : CleanBlock form pages l → cleaned_block form pages l ≡ l
    readable_stays = clean_stays r.log.few counts

  pub readable_back : Readable form pages (cleaned_block form pages l) → Readable form pages l
  readable_back r =
      let few : v ≤ slot_count = rw cleaned_volatile at r.log.few in
      let own : (area : ℕ) → area < 2 → area_count form pages area (cleaned_block form pages l) ≤ slot_count → area_count form pages area l ≤ slot_count =
      λ area h k. rw (cleaned_stored area h) at k in
      let fews : (area : ℕ) → area < 2 → area_count form pages area l ≤ slot_count =
      by_area (λ area. area_count form pages area l ≤ slot_count)
      (own 0 (lit< tt) (rw (count_place form pages 0 (cleaned_block form pages l)) at r.area0.log.few))
      (own 1 (lit< tt) (rw (count_place form pages 1 (cleaned_block form pages l)) at r.area1.log.few)) in
      same_readable form pages (cleaned_block form pages l) l (same_back form pages l (cleaned_block form pages l) (cleaned_same few fews)) r

-- Computed: a block without records, with something in the first and the last slot byte of each of its three logs.
unfoldable pub stale : List ℕ
stale =
    let mess : (at : ℕ) → List ℕ → List ℕ = λ at l. splice (splice l at (7 ∷ [])) (at + slots_size_in today - 1) (7 ∷ []) in
    mess (slots_at_in today 1) (mess (area_log_at today 1 0) (mess (area_log_at today 1 1) (zeros (block_size_in today 1))))

pub block_zeroed : cleaned_block today 1 stale ≡ zeros (block_size_in today 1)
unfolding stale cleaned_block cleaned_log area_count byte_at splice zeros
block_zeroed = refl
