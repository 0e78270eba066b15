-- A block of the older form as it is written anew, part by part: what the parts come to is today's block of the board that was read.
-- Assumes nothing.
use Rattle.std.specs.Prelude.{◌≡◌, refl, true, ◌&&◌, take, drop, eqb}
use Rattle.std.proofs.Common.{sym, ap, ◌∙◌, arith, lit<}
use Prim.Native.Nat.{ℕ, zero, suc, ◌+◌, ◌*◌, ◌-◌, ◌≤◌, ◌<◌}
use mathlib.Core.List.{List, [], ◌∷◌, ◌++◌, append_assoc}
use Rattle.std.proofs.Math.ListN.{length, length-append}
use Rattle.words.specs.Bytes.{Bytes}
use Rattle.words.specs.LittleEndian.{bytes_of, number_of}
use Rattle.words.specs.LittleEndianLaws.{length_bytes_of}
use Rattle.model.specs.Definitions.Parts.{part, splice, byte_at, encode_all, zeros, decode_all}
use Rattle.model.specs.Definitions.Layout.{today, most_pages, fuse_size, number_size, since_size, frame_size, area_number_at, area_count_at, area_frames_at, area_slots_at}
use Rattle.model.specs.Definitions.Layout.{state_at, selector_at, fuse_at, number_at, since_at, slots_size, slots_size_in, area_size_in, place_at_in}
use Rattle.model.specs.Definitions.Layout.{volatile_count_at_in, frames_at_in, slots_at_in, area_at_in, block_size_in, place_at, slots_at, area_at, block_size, area_size}
use Rattle.model.specs.Definitions.Bank.{Board}
use Rattle.model.specs.Definitions.Codec.{selector_byte, encode_frame, encode_log, decode_log_in, encode_area, encode_area_in, decode_area_in, encode_fixed}
use Rattle.model.specs.Definitions.Codec.{encode_fixed_in, encode_stable, encode_board, encode_board_in, decode_board_in}
use Rattle.model.specs.Definitions.Older.{older}
use Rattle.model.specs.Definitions.Check.{area_count}
use Rattle.model.proofs.Laws.Parts.{each_part, length_part, part_join, byte_part, splice_next}
use Rattle.fields.proofs.Lent.{lent_part}
use Rattle.fields.proofs.Splices.{splice_triple}
use Rattle.model.proofs.Laws.CodecBack.{AreaPasses, Readable, area_inside, bytes_of_part, frames_part, length_decode_log, state_byte_state_of, selector_byte_eqb}
use Rattle.model.proofs.Laws.CodecBack.{second_decode_stable, encode_decode_stable}
use Rattle.model.proofs.Laws.CodecAt.{encode_no_record}
use Rattle.model.proofs.Laws.Logic.{and_left, and_right}
use Rattle.model.proofs.Laws.Zeros.{zeros_length}
use Rattle.model.proofs.Laws.BoardTests.{count_place}
use Rattle.model.specs.Clauses.{counts_zero}
use borrow.Author.Tests.{eqb-true}

-- ---- what is known of the old bytes

pub record OlderArea (pages : ℕ) (l : List ℕ) : Type 0 where
  pub few : pages ≤ most_pages
  pub size : length l ≡ area_size_in older pages
  pub bytes : Bytes l
  pub passes : AreaPasses older pages l
  pub empty : byte_at l area_count_at ≡ 0

pub record OlderBlock (pages : ℕ) (l : List ℕ) : Type 0 where
  pub few : pages ≤ most_pages
  pub size : length l ≡ block_size_in older pages
  pub bytes : Bytes l
  pub readable : Readable older pages l
  pub empty : counts_zero older pages l ≡ true

area_passes : (pages area : ℕ) (l : List ℕ) → OlderBlock pages l → area < 2
    → AreaPasses older pages (part l (area_at_in older pages area) (area_size_in older pages))
area_passes pages zero l o h = o.readable.area0
area_passes pages (suc zero) l o h = o.readable.area1
area_passes pages (suc (suc n)) l o h = absurd (omega arith)

-- the counts of a block without a record
module _ (pages : ℕ) (l : List ℕ) (o : OlderBlock pages l) where
  areas_zero : (eqb (area_count older pages 0 l) 0 && eqb (area_count older pages 1 l) 0) ≡ true
  unfolding counts_zero
  areas_zero = and_right (eqb (byte_at l (volatile_count_at_in older)) 0) _ o.empty

  volatile_zero : byte_at l (volatile_count_at_in older) ≡ 0
  unfolding counts_zero
  volatile_zero = eqb-true _ 0 (and_left (eqb (byte_at l (volatile_count_at_in older)) 0) _ o.empty)

  area_zero : (area : ℕ) → area < 2 → area_count older pages area l ≡ 0
  area_zero zero h = eqb-true _ 0 (and_left (eqb (area_count older pages 0 l) 0) _ areas_zero)
  area_zero (suc zero) h = eqb-true _ 0 (and_right (eqb (area_count older pages 0 l) 0) _ areas_zero)
  area_zero (suc (suc n)) h = absurd (omega arith)

-- ---- an area

-- a log without a record: 32 slots of zeros
log_zeros : (count : ℕ) (l : List ℕ) → count ≡ 0 → encode_log (decode_log_in older count l) ≡ zeros slots_size
unfolding decode_log_in decode_all
log_zeros count l e = rw e encode_no_record

-- number, stored count and frames are as they were
pub area_written : (pages : ℕ) (l : List ℕ) → OlderArea pages l
    → part l 0 (area_slots_at pages) ++ zeros slots_size ≡ encode_area (decode_area_in older pages l)
unfolding encode_area_in decode_area_in
area_written pages l o =
    let n : ℕ = pages * frame_size in
    let e : length l ≡ area_size_in older pages = o.size in
    let head : part l 0 (area_slots_at pages) ≡ part l area_number_at number_size ++ (byte_at l area_count_at ∷ part l area_frames_at n) =
    ap (part l 0) {y = number_size + (n + 1)} (omega arith)
    ∙ sym (rw (byte_part l area_count_at area_frames_at n (n + 1) (omega arith) refl refl) (part_join l 0 number_size (n + 1))) in
    rw (
      head,
      bytes_of_part l area_number_at number_size o.bytes (omega arith),
      length_decode_log older (byte_at l area_count_at) (part l (area_slots_at pages) (slots_size_in older)),
      frames_part pages l area_frames_at o.passes.frames (omega arith),
    )
    (append_assoc (part l area_number_at number_size) (byte_at l area_count_at ∷ part l area_frames_at n) (zeros slots_size)
    ∙ ap (λ (t : List ℕ). part l area_number_at number_size ++ ((byte_at l area_count_at ∷ part l area_frames_at n) ++ t))
    (sym (log_zeros (byte_at l area_count_at) (part l (area_slots_at pages) (slots_size_in older)) o.empty)))

area_length : (pages : ℕ) (l : List ℕ) → OlderArea pages l → length (encode_area (decode_area_in older pages l)) ≡ area_size pages
area_length pages l o =
    rw (← area_written pages l o)
    (simp (
      length-append,
      length_part l 0 (area_slots_at pages) (omega (arith, o.size)),
      zeros_length,
    ))

-- ---- a block

-- an area of a block, as its own part
pub area_part : (pages area : ℕ) (l : List ℕ) → OlderBlock pages l → area < 2
    → OlderArea pages (part l (area_at_in older pages area) (area_size_in older pages))
area_part pages area l o h =
    record {
      few = o.few;
      size = length_part l (area_at_in older pages area) (area_size_in older pages) (omega (arith, area_inside older pages area h, o.size));
      bytes = each_part l (area_at_in older pages area) (area_size_in older pages) o.bytes;
      passes = area_passes pages area l o h;
      empty = count_place older pages area l ∙ area_zero pages l o area h;
    }

-- all before the areas: since in four bytes, the volatile log without a record
unfoldable pub widened_working : ℕ → List ℕ → List ℕ
widened_working pages l =
    part l 0 since_at
    ++ (bytes_of since_size (number_of (part l since_at older.since_width))
    ++ (part l (place_at_in older) (slots_at pages - place_at) ++ zeros slots_size))

unfoldable pub widened_area : ℕ → ℕ → List ℕ → List ℕ
widened_area pages area l = encode_area (decode_area_in older pages (part l (area_at_in older pages area) (area_size_in older pages)))

-- ---- an area of a block, as it is lent: `&l[a..a + n]`

module _ (pages area : ℕ) (l : List ℕ) {a n : ℕ} (at : a ≡ area_at_in older pages area) (size : n ≡ area_size_in older pages) where
  lent : take (a + n - a) (drop a l) ≡ part l (area_at_in older pages area) (area_size_in older pages)
  lent = lent_part l a n ∙ rw (at, size)

  pub lent_area : OlderBlock pages l → area < 2 → OlderArea pages (take (a + n - a) (drop a l))
  lent_area o h = rw lent (area_part pages area l o h)

  pub lent_widened : encode_area (decode_area_in older pages (take (a + n - a) (drop a l))) ≡ widened_area pages area l
  unfolding widened_area
  lent_widened = rw lent

-- the pieces as they are written, and as a board's bytes have them
regroup : (h f n s p v g r : List ℕ) → ((h ++ (f ++ n)) ++ (s ++ ((p ++ v) ++ g))) ++ r ≡ (h ++ (f ++ (n ++ (s ++ p)))) ++ (v ++ (g ++ r))
regroup h f n s p v g r = simp append_assoc

module _ (pages : ℕ) (l : List ℕ) (o : OlderBlock pages l) where
  abbrev n : ℕ
  n = pages * frame_size

  size : length l ≡ block_size_in older pages
  size = o.size

  front : part l 0 since_at ≡ (byte_at l state_at ∷ byte_at l selector_at ∷ []) ++ (part l fuse_at fuse_size ++ part l number_at number_size)
  front =
      sym (rw (part_join l fuse_at fuse_size number_size, byte_part l selector_at fuse_at (fuse_size + number_size) (since_at - 1) (omega arith) refl refl)
      (byte_part l state_at selector_at (since_at - 1) since_at (omega arith) refl refl))

  behind : part l (place_at_in older) (slots_at pages - place_at)
      ≡ (byte_at l (place_at_in older) ∷ byte_at l (volatile_count_at_in older) ∷ []) ++ part l (frames_at_in older) n
  behind =
      sym (rw (byte_part l (volatile_count_at_in older) (frames_at_in older) n (n + 1) (omega arith) refl refl)
      (byte_part l (place_at_in older) (volatile_count_at_in older) (n + 1) (slots_at pages - place_at) (omega arith) refl (omega arith)))

  -- the parts side by side
  pub working_written : (t : List ℕ) → length t ≡ block_size pages
      → splice
      (splice (splice (splice t 0 (part l 0 since_at)) since_at (bytes_of since_size (number_of (part l since_at older.since_width))))
      place_at (part l (place_at_in older) (slots_at pages - place_at)))
      (slots_at pages) (zeros slots_size)
      ≡ splice t 0 (widened_working pages l)
  unfolding widened_working
  working_written t e =
      let h : List ℕ = part l 0 since_at in
      let s : List ℕ = bytes_of since_size (number_of (part l since_at older.since_width)) in
      let b : List ℕ = part l (place_at_in older) (slots_at pages - place_at) in
      let g : List ℕ = zeros slots_size in
      let x : length h ≡ since_at = length_part l 0 since_at (omega (arith, size)) in
      let y : length s ≡ since_size = length_bytes_of since_size _ in
      let z : length b ≡ slots_at pages - place_at = length_part l (place_at_in older) (slots_at pages - place_at) (omega (arith, size)) in
      let u : length (h ++ s) ≡ length h + length s = length-append h s in
      let v : length ((h ++ s) ++ b) ≡ length (h ++ s) + length b = length-append (h ++ s) b in
      rw (
        splice_next t 0 since_at h s (omega arith) (omega arith),
        splice_next t 0 place_at (h ++ s) b (omega arith) (omega arith),
        splice_next t 0 (slots_at pages) ((h ++ s) ++ b) g (omega arith) (omega arith),
      )
      (ap (splice t 0) (simp append_assoc))

  working_length : length (widened_working pages l) ≡ area_at pages 0
  unfolding widened_working
  working_length =
      simp (
        length-append,
        length_bytes_of,
        length_part l 0 since_at (omega (arith, size)),
        length_part l (place_at_in older) (slots_at pages - place_at) (omega (arith, size)),
        zeros_length,
      )
      (omega arith)

  widened_length : (area : ℕ) → area < 2 → length (widened_area pages area l) ≡ area_size pages
  unfolding widened_area
  widened_length area h = area_length pages _ (area_part pages area l o h)

  -- the board, and its bytes part by part
  abbrev y : Board
  y = decode_board_in older pages l

  fixed_same : encode_fixed y
      ≡ (byte_at l state_at ∷ byte_at l selector_at ∷ [])
      ++ (part l fuse_at fuse_size
      ++ (part l number_at number_size
      ++ (bytes_of since_size (number_of (part l since_at older.since_width)) ++ (byte_at l (place_at_in older) ∷ byte_at l (volatile_count_at_in older) ∷ []))))
  unfolding encode_fixed_in decode_board_in
  fixed_same =
      rw (
        state_byte_state_of (byte_at l state_at) o.readable.state,
        second_decode_stable (eqb (byte_at l selector_at) (selector_byte true)) _ _,
        selector_byte_eqb (byte_at l selector_at) o.readable.selector,
        bytes_of_part l fuse_at fuse_size o.bytes (omega arith),
        bytes_of_part l number_at number_size o.bytes (omega arith),
        length_decode_log older (byte_at l (volatile_count_at_in older)) (part l (slots_at_in older pages) (slots_size_in older)),
      )

  frames_same : encode_all encode_frame y.working.frames ≡ part l (frames_at_in older) n
  unfolding decode_board_in
  frames_same = frames_part pages l (frames_at_in older) o.readable.frames (omega arith)

  log_zero : encode_log y.working.log ≡ zeros slots_size
  unfolding decode_board_in
  log_zero = log_zeros (byte_at l (volatile_count_at_in older)) (part l (slots_at_in older pages) (slots_size_in older)) (volatile_zero pages l o)

  areas_same : encode_stable y.stable ≡ widened_area pages 0 l ++ widened_area pages 1 l
  unfolding decode_board_in widened_area
  areas_same = encode_decode_stable today (eqb (byte_at l selector_at) (selector_byte true)) _ _

  block_written : widened_working pages l ++ (widened_area pages 0 l ++ widened_area pages 1 l) ≡ encode_board (decode_board_in older pages l)
  unfolding widened_working encode_board_in
  block_written =
      rw (fixed_same, frames_same, log_zero, areas_same, front, behind)
      (regroup (byte_at l state_at ∷ byte_at l selector_at ∷ []) (part l fuse_at fuse_size) (part l number_at number_size)
      (bytes_of since_size (number_of (part l since_at older.since_width))) (byte_at l (place_at_in older) ∷ byte_at l (volatile_count_at_in older) ∷ [])
      (part l (frames_at_in older) n) (zeros slots_size)
      (widened_area pages 0 l ++ widened_area pages 1 l))

  pub parts_written : (t : List ℕ) → length t ≡ block_size pages
      → splice (splice (splice t 0 (widened_working pages l)) (area_at pages 0) (widened_area pages 0 l)) (area_at pages 1) (widened_area pages 1 l)
      ≡ encode_board (decode_board_in older pages l)
  parts_written t e =
      let w : length (widened_working pages l) ≡ area_at pages 0 = working_length in
      let x : length (widened_area pages 0 l) ≡ area_size pages = widened_length 0 (lit< tt) in
      let z : length (widened_area pages 1 l) ≡ area_size pages = widened_length 1 (lit< tt) in
      splice_triple t (widened_working pages l) (widened_area pages 0 l) (widened_area pages 1 l) (area_at pages 0) (area_at pages 1) w (omega arith) (omega arith)
      ∙ block_written

  pub block_wide : length (encode_board (decode_board_in older pages l)) ≡ block_size pages
  block_wide =
      rw (← block_written)
      (simp (length-append, working_length, widened_length 0 (lit< tt), widened_length 1 (lit< tt)) (omega arith))
