-- The whole test as the check follows it: the head, with the two numbers each in range, then what is left once the head is known; a block in the
-- code's order; block and records board by board. Assumes nothing.
use Rattle.std.specs.Prelude.{◌≡◌, refl, ◌≢◌, true, false, ◌&&◌, not, List, length, get_or, eqb, leb}
use Rattle.std.proofs.Math.Path.{sym, ap, fun_ext}
use Rattle.std.proofs.Common.{◌∙◌, add-zero}
use Prim.Native.Nat.{ℕ, zero, suc, ◌+◌, ◌-◌, ◌*◌, ◌≤◌, ◌<◌}
use native.Mathlib.Omega.{arith}
use Rattle.std.proofs.Math.Bool.{Bool, and_assoc, and_comm, and-true, and-false}
use Rattle.std.proofs.Math.Dec.{ltb}
use borrow.Author.Tests.{lt-ltb, ne_eqb, leb-true, eqb-true}
use Rattle.types.specs.declared.State.{State}
use Rattle.types.specs.declared.State.TheVariants.{Up, Down, Replaying}
use Rattle.model.specs.Definitions.Layout.{most_boards, most_pages, byte_values, head_mark0, head_mark1, head_mark0_at, head_mark1_at, head_size, boards_at, pages_at}
use Rattle.model.specs.Definitions.Layout.{right_at, frame_bytes_at, frame_size, page_size, entry_size, area_frames_at, state_at, selector_at, frames_at_in, area_at_in}
use Rattle.model.specs.Definitions.Layout.{block_size_in, slot_count, no_fuse, fuse_size, number_size, fuse_at, number_at, since_at, place_at_in, volatile_count_at_in}
use Rattle.model.specs.Definitions.Layout.{bank_size_in, Form}
use Rattle.model.specs.Definitions.Parts.{part, byte_at, every, every_from, every_below, member}
use Rattle.types.specs.Bytes.{right_byte, state_byte, state_of}
use Rattle.model.specs.Definitions.Codec.{decode_entry, decode_frame, selector_byte}
use Rattle.model.specs.Definitions.Check.{is_zero, frame_valid, frames_valid, page_agrees, head_valid, directory_valid, counts_valid, all_frames_valid, fields_valid}
use Rattle.model.specs.Definitions.Check.{selected_count, is_blank, state_valid, board_valid, page_agrees_at, pages_agree, block_fits, slot_valid, slot_peer_valid}
use Rattle.model.specs.Definitions.Check.{records_pass, directory_of}
use Rattle.model.specs.Definitions.Check.{block_of_in, blocks_fit, logs_valid, peers_valid, formed_in}
use Rattle.words.specs.LittleEndian.{number_of}
use Rattle.model.proofs.Laws.Logic.{by_bool, and_left, and_right}
use Rattle.model.proofs.Laws.Lists.{each_of_get_d, each_every, every_below_all}
use Rattle.model.proofs.Laws.Parts.{part_join, part_part, byte_at_first}
use Rattle.model.proofs.Laws.Tests.{zero_append}
use Rattle.model.proofs.Laws.CodecBank.{state_of_state_byte}
use Rattle.model.proofs.Laws.CodecBankBack.{BytesOk, head_ok}
use Rattle.validity.specs.Pieces.{holds_none, Holders, frame_agrees, stored_frames_valid, stored_page_valid, fixed_fields_valid, blank_fields, own_frames_valid}
use Rattle.validity.specs.Pieces.{own_page_agrees, own_page_zero, state_fields_valid, board_fields_valid, frames_agree, down_frames_valid, frames_fit, record_valid}
use Rattle.validity.specs.Search.{below_more, below_both, records_both}
use Rattle.validity.specs.Words.{zero_none, byte_alone}

pub in_range_says : (n most : ℕ) → (ltb 0 n && leb n most) ≡ true → n ≤ most
in_range_says n most h = leb-true n most (and_right (ltb 0 n) (leb n most) h)

module _ (form : Form) where
  pub head_test : (s : List ℕ)
      → head_valid form s
      ≡ (eqb (byte_at s head_mark0_at) head_mark0
      && (eqb (byte_at s head_mark1_at) head_mark1
      && ((ltb 0 (byte_at s boards_at) && leb (byte_at s boards_at) most_boards)
      && ((ltb 0 (byte_at s pages_at) && leb (byte_at s pages_at) most_pages) && eqb (length s) (bank_size_in form (byte_at s boards_at) (byte_at s pages_at))))))
  unfolding head_valid
  head_test s = simp and_assoc

  -- a list that is too short to have a head
  pub no_head : (s : List ℕ) → length s < head_size → false ≡ head_valid form s
  no_head s h = by_bool (head_valid form s) (λ t. absurd (omega (arith, (head_ok s t).size))) (λ t. sym t)

  pub not_well_formed : (named : Bool) (s : List ℕ) → head_valid form s ≡ false → formed_in form named s ≡ false
  unfolding formed_in
  not_well_formed named s head = rw (head, formed_in)

  -- with the numbers of boards and pages as the check read them; every element of a slice is a byte
  pub well_formed_left : (named : Bool) (s : List ℕ) {boards pages : ℕ} → boards ≡ byte_at s boards_at → pages ≡ byte_at s pages_at
      → ((i : ℕ) → i < length s → get_or s i 0 < byte_values)
      → head_valid form s ≡ true
      → formed_in form named s ≡ (directory_valid boards pages (directory_of pages s)
      && (blocks_fit form boards pages s && (logs_valid form boards pages s && peers_valid form named boards pages s)))
  unfolding formed_in
  well_formed_left named s p q bytes head =
      let all = each_every (λ b. ltb b byte_values) s (λ b h. lt-ltb b byte_values h) (each_of_get_d s 0 bytes) in
      rw (head, formed_in, all, ← p, ← q)

-- a bank that passed, with these numbers as the check read them: the counts of a block
pub counts_passed : {form : Form} {named : Bool} (s : List ℕ) {boards pages : ℕ} → boards ≡ byte_at s boards_at → pages ≡ byte_at s pages_at
    → BytesOk form named s → (b : ℕ) → b < boards → counts_valid form pages (block_of_in form pages s b) ≡ true
unfolding block_fits fields_valid
counts_passed s p q ok b h = let fits = ok.fits b (rw p at h) in rw q (search (and_left, and_right))

-- ---- a block, in the order in which the code tests it

frames_last : (a b c w s v p : Bool) → ((a && (b && (c && (w && s)))) && (v && p)) ≡ ((a && (b && c)) && (v && (s && (w && p))))
frames_last true true true true true v p = refl
frames_last true true true true false true p = refl
frames_last true true true true false false p = refl
frames_last true true true false true true p = refl
frames_last true true true false true false p = refl
frames_last true true true false false true p = refl
frames_last true true true false false false p = refl
frames_last true true false w s v p = refl
frames_last true false c w s v p = refl
frames_last false b c w s v p = refl

-- a state by its byte, as the code compares it: `n` was read, and a state's byte is `k` or `j`
pub state_is : (t : State) {n m k : ℕ} → n ≡ m → n ≡ k → k ≡ state_byte t → state_of m ≡ t
state_is t p q r = rw (← p, q, r) (state_of_state_byte t)

third_state : (n : ℕ) → n ≢ state_byte Up → n ≢ state_byte Down → state_of n ≡ Replaying
unfolding state_of state_byte
third_state zero p q = absurd (p refl)
third_state (suc zero) p q = absurd (q refl)
third_state (suc (suc n)) p q = refl

pub state_else : {n m k j : ℕ} → n ≡ m → n ≢ k → k ≡ state_byte Up → n ≢ j → j ≡ state_byte Down → state_of m ≡ Replaying
state_else {n} p q r u v = rw (← p) (third_state n (λ e. q (e ∙ sym r)) (λ e. u (e ∙ sym v)))

-- whether a state's byte is that of an up board
pub up_byte : (n : ℕ) → state_of n ≡ Up → eqb n (state_byte Up) ≡ true
unfolding state_of state_byte
up_byte zero e = refl
up_byte (suc zero) e = cc
up_byte (suc (suc n)) e = cc

pub other_byte : (n : ℕ) → state_of n ≢ Up → eqb n (state_byte Up) ≡ false
unfolding state_of state_byte
other_byte n e = ne_eqb n (state_byte Up) (λ z. e (ap state_of z))

-- part of a run of zero bytes
zero_middle : (l : List ℕ) (a b m r : ℕ) → is_zero (part l a (b + (m + r))) ≡ true → is_zero (part l (a + b) m) ≡ true
zero_middle l a b m r z =
    let split : is_zero (part l a (b + (m + r))) ≡ (is_zero (part l a b) && (is_zero (part l (a + b) m) && is_zero (part l (a + b + m) r))) =
    rw (← part_join l a b (m + r), zero_append (part l a b), ← part_join l (a + b) m r, zero_append (part l (a + b) m))
    in
    and_left _ _ (and_right (is_zero (part l a b)) _ (sym split ∙ z))

zero_part : (l : List ℕ) (a n b m : ℕ) → b + m ≤ n → is_zero (part l a n) ≡ true → is_zero (part l (a + b) m) ≡ true
zero_part l a n b m h z =
    let e : b + (m + (n - (b + m))) ≡ n = omega arith in
    zero_middle l a b m (n - (b + m)) (ap (λ (k : ℕ). is_zero (part l a k)) e ∙ z)

zero_byte : (l : List ℕ) (a : ℕ) → a < length l → is_zero (part l a 1) ≡ true → byte_at l a ≡ 0
unfolding is_zero every
zero_byte l a h z = eqb-true (byte_at l a) 0 (and_left _ _ (rw (byte_alone l a h) at z))

-- frames of zeros are valid
zero_frame : (l : List ℕ) (a : ℕ) → a < length l → is_zero (part l a frame_size) ≡ true → frame_valid (part l a frame_size) ≡ true
unfolding frame_valid right_byte
zero_frame l a h z =
    let r : byte_at l a ≡ 0 = zero_byte l a h (rw add-zero at (zero_part l a frame_size 0 1 (omega arith) z)) in
    let first : byte_at (part l a frame_size) right_at ≡ 0 = sym (byte_at_first l a frame_size (omega arith)) ∙ r in
    let rest : is_zero (part (part l a frame_size) frame_bytes_at page_size) ≡ true =
    rw (part_part l a frame_size frame_bytes_at page_size (omega arith)) (zero_part l a frame_size frame_bytes_at page_size (omega arith) z)
    in
    rw (first, rest)

zero_frames : (l : List ℕ) (a pages : ℕ) → a + pages * frame_size ≤ length l → is_zero (part l a (pages * frame_size)) ≡ true → frames_valid pages a l ≡ true
unfolding frames_valid
zero_frames l a pages h z =
    every_below_all pages (λ p. frame_valid (part l (a + p * frame_size) frame_size))
    (λ p m. zero_frame l (a + p * frame_size) (omega arith) (zero_part l a (pages * frame_size) (p * frame_size) frame_size (omega arith) z))

-- the frames of a down board are tested with the others
blank_last : (a b c w s f m p n i v z u g : Bool) → (z ≡ true → w ≡ true)
    → ((a && (b && (c && (w && s)))) && ((f && (m && (p && (n && (i && (v && (z && u))))))) && g))
    ≡ ((a && (b && c)) && ((f && (m && (p && (n && (i && (v && u)))))) && (s && (z && g))))
blank_last a b c w s f m p n i v true u g h = rw (h refl) (frames_last a b c true s (f && (m && (p && (n && (i && (v && u)))))) g)
blank_last a b c w s f m p n i v false u g h = simp and-false

module _ (form : Form) (pages : ℕ) (directory l : List ℕ) (b : ℕ) where
  abbrev fits : State → Type 0
  fits t = ((fields_valid form pages l) && ((not (eqb (number_of (part l fuse_at fuse_size)) 0)
      && (leb (selected_count form pages l + byte_at l (volatile_count_at_in form)) slot_count && state_valid form t pages l)) && pages_agree form pages directory l b))
      ≡ (fixed_fields_valid form pages l && ((not (eqb (number_of (part l fuse_at fuse_size)) 0)
      && (leb (selected_count form pages l + byte_at l (volatile_count_at_in form)) slot_count && state_fields_valid form t pages l))
      && frames_fit form t pages directory l b))

  plain_fits : (v : Bool) → (fields_valid form pages l && (v && pages_agree form pages directory l b))
      ≡ (fixed_fields_valid form pages l && (v && (stored_frames_valid form pages l &&
      (frames_valid pages (frames_at_in form) l && pages_agree form pages directory l b))))
  unfolding fields_valid all_frames_valid fixed_fields_valid stored_frames_valid
  plain_fits v =
      frames_last (leb (byte_at l state_at) (state_byte Replaying)) (leb (byte_at l selector_at) (selector_byte true)) (counts_valid form pages l)
      (frames_valid pages (frames_at_in form) l) (stored_frames_valid form pages l) v (pages_agree form pages directory l b)

  state_fits : length l ≡ block_size_in form pages → (t : State) → fits t
  unfolding state_fields_valid frames_fit own_frames_valid fields_valid all_frames_valid fixed_fields_valid stored_frames_valid state_valid is_blank blank_fields
  state_fits size Up =
      plain_fits (not (eqb (number_of (part l fuse_at fuse_size)) 0)
      && (leb (selected_count form pages l + byte_at l (volatile_count_at_in form)) slot_count && state_valid form Up pages l))
  state_fits size Down =
      blank_last (leb (byte_at l state_at) (state_byte Replaying)) (leb (byte_at l selector_at) (selector_byte true)) (counts_valid form pages l)
      (frames_valid pages (frames_at_in form) l) (stored_frames_valid form pages l) (not (eqb (number_of (part l fuse_at fuse_size)) 0))
      (leb (selected_count form pages l + byte_at l (volatile_count_at_in form)) slot_count) (eqb (byte_at l (place_at_in form)) 0)
      (eqb (number_of (part l number_at number_size)) 0) (eqb (number_of (part l since_at form.since_width)) 0) (eqb (byte_at l (volatile_count_at_in form)) 0)
      (is_zero (part l (frames_at_in form) (pages * frame_size))) (eqb (number_of (part l fuse_at fuse_size)) no_fuse) (pages_agree form pages directory l b)
      (zero_frames l (frames_at_in form) pages (omega arith))
  state_fits size Replaying =
      plain_fits (not (eqb (number_of (part l fuse_at fuse_size)) 0)
      && (leb (selected_count form pages l + byte_at l (volatile_count_at_in form)) slot_count && state_valid form Replaying pages l))

  pub block_pieces : length l ≡ block_size_in form pages → block_fits form pages directory l b
      ≡ (fixed_fields_valid form pages l && (board_fields_valid form pages l && frames_fit form (state_of (byte_at l state_at)) pages directory l b))
  unfolding block_fits board_valid board_fields_valid
  block_pieces size = state_fits size (state_of (byte_at l state_at))

  -- the frames of both areas, page by page
  stored_pages : every_below pages (stored_page_valid form pages l) ≡ stored_frames_valid form pages l
  unfolding stored_frames_valid frames_valid
  stored_pages =
      below_both (λ p. frame_valid (part l (area_at_in form pages 0 + area_frames_at + p * frame_size) frame_size))
      (λ p. frame_valid (part l (area_at_in form pages 1 + area_frames_at + p * frame_size) frame_size))
      pages

  -- an up board
  own_pages : eqb (byte_at l state_at) (state_byte Up) ≡ true
      → every_below pages (own_page_agrees form directory l b) ≡ (frames_valid pages (frames_at_in form) l && pages_agree form pages directory l b)
  unfolding frame_agrees pages_agree page_agrees_at frames_valid
  own_pages e =
      (λ k.
      every_below pages
      (λ p.
      page_agrees (sym e k) (decode_frame (part l (frames_at_in form + p * frame_size) frame_size)).right (decode_entry (part directory (p * entry_size) entry_size)) b
      && frame_valid (part l (frames_at_in form + p * frame_size) frame_size)))
      ∙ below_both (page_agrees_at form directory l b) (λ p. frame_valid (part l (frames_at_in form + p * frame_size) frame_size)) pages
      ∙ and_comm (pages_agree form pages directory l b) (frames_valid pages (frames_at_in form) l)

  pub up_fits : eqb (byte_at l state_at) (state_byte Up) ≡ true → frames_agree form pages directory l b ≡ frames_fit form Up pages directory l b
  unfolding frames_agree frames_fit own_frames_valid
  up_fits e =
      below_both (own_page_agrees form directory l b) (stored_page_valid form pages l) pages
      ∙ and_comm (every_below pages (own_page_agrees form directory l b)) (every_below pages (stored_page_valid form pages l))
      ∙ rw (stored_pages, own_pages e)

  -- another board holds no copy
  none_held : eqb (byte_at l state_at) (state_byte Up) ≡ false → holds_none pages directory b ≡ pages_agree form pages directory l b
  unfolding holds_none pages_agree page_agrees_at page_agrees
  none_held e k =
      every_below pages
      (λ p.
      page_agrees (sym e k) (decode_frame (part l (frames_at_in form + p * frame_size) frame_size)).right (decode_entry (part directory (p * entry_size) entry_size)) b)

  pub other_fits : (set : ℕ) → Holders pages directory set → eqb (byte_at l state_at) (state_byte Up) ≡ false
      → {held : Bool} → held ≡ member b set → not held ≡ pages_agree form pages directory l b
  other_fits set h e p = rw p (h b) ∙ none_held e

  -- a board that holds a copy, and isn't up, doesn't fit
  pub held_unfit : (t : State) → pages_agree form pages directory l b ≡ false → false ≡ frames_fit form t pages directory l b
  unfolding frames_fit
  held_unfit t h = rw (h, and-false (own_frames_valid form t pages l), and-false (stored_frames_valid form pages l))

  -- a down board: page by page
  zero_each : (a n : ℕ) → every_below n (λ p. is_zero (part l (a + p * frame_size) frame_size)) ≡ is_zero (part l a (n * frame_size))
  unfolding every_below every_from
  zero_each a zero = sym (zero_none l a)
  zero_each a (suc n) =
      let e : suc n ≡ n + 1 = omega arith in
      let d : n * frame_size + frame_size ≡ suc n * frame_size = omega arith in
      let zero : ℕ → Bool = λ p. is_zero (part l (a + p * frame_size) frame_size) in
      ap (λ (k : ℕ). every_below k zero) e
      ∙ below_more zero n
      ∙ ap (λ (t : Bool). t && zero n) (zero_each a n)
      ∙ sym (zero_append (part l a (n * frame_size)) (part l (a + n * frame_size) frame_size))
      ∙ ap is_zero (part_join l a (n * frame_size) frame_size)
      ∙ ap (λ (k : ℕ). is_zero (part l a k)) d

  pub down_fits : pages_agree form pages directory l b ≡ true → down_frames_valid form pages l ≡ frames_fit form Down pages directory l b
  unfolding down_frames_valid frames_fit own_frames_valid
  down_fits h =
      below_both (own_page_zero form l) (stored_page_valid form pages l) pages
      ∙ and_comm (every_below pages (own_page_zero form l)) (every_below pages (stored_page_valid form pages l))
      ∙ rw (stored_pages, zero_each (frames_at_in form) pages, h, and-true)

  -- the counts of a block that fits are in range
  pub counts_known : block_fits form pages directory l b ≡ true → counts_valid form pages l ≡ true
  unfolding block_fits fields_valid
  counts_known h = search (and_left, and_right)

-- ---- all boards: block and records of each

module _ (form : Form) (named : Bool) (boards pages : ℕ) (s : List ℕ) where
  abbrev fits_in : ℕ → Bool
  fits_in b = block_fits form pages (directory_of pages s) (block_of_in form pages s b) b

  unfoldable pub board_fits : ℕ → Bool
  board_fits b =
      block_fits form pages (directory_of pages s) (block_of_in form pages s b) b
      && records_pass form (record_valid form named boards pages b) pages (block_of_in form pages s b)

  -- a board's records by their slots, and by whom they name
  both_parts : (b : ℕ) → records_pass form (record_valid form named boards pages b) pages (block_of_in form pages s b)
      ≡ (records_pass form (slot_valid form pages) pages (block_of_in form pages s b) && records_pass form (slot_peer_valid named boards b) pages (block_of_in form pages s b))
  unfolding record_valid
  both_parts b = records_both form (slot_valid form pages) (slot_peer_valid named boards b) pages (block_of_in form pages s b)

  pub boards_fit : every_below boards board_fits ≡ (blocks_fit form boards pages s && (logs_valid form boards pages s && peers_valid form named boards pages s))
  unfolding board_fits blocks_fit logs_valid peers_valid
  boards_fit =
      let slots : ℕ → Bool = λ b. records_pass form (slot_valid form pages) pages (block_of_in form pages s b) in
      let peers : ℕ → Bool = λ b. records_pass form (slot_peer_valid named boards b) pages (block_of_in form pages s b) in
      below_both fits_in (λ b. records_pass form (record_valid form named boards pages b) pages (block_of_in form pages s b)) boards
      ∙ ap (λ (t : Bool). every_below boards fits_in && t) (ap (every_below boards) (fun_ext both_parts) ∙ below_both slots peers boards)
