-- The definition's tests as the code makes them on machine numbers: zero bytes by words and by joined bits, two bytes as one number, copy-sets joined,
-- a copy-set shifted. Assumes nothing.
use Rattle.std.specs.Prelude.{◌≡◌, refl, ◌≢◌, ℕ, zero, suc, max, ◌+◌, ◌*◌, ◌/◌, ◌%◌, ◌^◌, ◌≤◌, ◌<◌, Bool, true, false, ◌&&◌, ◌||◌, not, List, [], ◌∷◌, ◌++◌, length, take, eqb, ltb, leb}
use Rattle.std.proofs.Common.{sym, ap, ◌∙◌, zero-add, div-lt_iff_lt-mul, arith, pow_pos, ltb-true, ltb-false, lt-ltb, leb-true, eq-eqb, ne_eqb, eqb-true}
use Rattle.std.proofs.Math.Nat.{zero-max, div-eq_of_lt}
use Rattle.std.specs.Int.Bits.{bit_or, or_step, or_zero_l, or_add_and}
use Rattle.std.proofs.lemmas.Nat.{and_le_r}
use Rattle.std.proofs.Math.Bool.{and-true, and-false, or-false}
use Rattle.std.specs.Int.{w64, from_le_bytes}
use Rattle.words.specs.LittleEndian.{number_of}
use Rattle.types.specs.declared.Right.{Right}
use Rattle.types.specs.declared.Right.TheVariants.{None, Own}
use Rattle.model.specs.Definitions.Layout.{byte_values, number_size, page_size, entry_size, copies_at, right_at, frame_bytes_at, frame_size, mark0_at}
use Rattle.model.specs.Definitions.Layout.{mark1_at, slot_page_at, letter_g, letter_s, letter_h, letter_d, letter_r, Form, slot_bytes_at_in}
use Rattle.model.specs.Definitions.Parts.{part, byte_at, every, every_from, every_below, member}
use Rattle.types.specs.Bytes.{right_byte, right_of}
use Rattle.model.specs.Definitions.Codec.{decode_entry}
use Rattle.model.specs.Definitions.Check.{is_zero, frame_valid, got_mark, bare_mark, mark_fits, peer_allowed, slot_valid, same_right}
use Rattle.model.proofs.Laws.Logic.{clash, by_bool, by_eq, and_left, and_right}
use Rattle.model.proofs.Laws.Parts.{length_part, part_all, part_join, part_part, byte_rest, byte_at_part}
use Rattle.model.proofs.Laws.Codec.{right_of_right_byte}
use Rattle.model.proofs.Laws.Sets.{member_none}
use Rattle.model.proofs.Laws.Tests.{zero_append}
use Rattle.validity.specs.Pieces.{word_size, page_bits, holds_none}
use Rattle.validity.specs.Search.{below_more}

-- ---- zero bytes

-- a sum is zero where each part is
pub sum_zero : (a b : ℕ) → eqb (a + b) 0 ≡ (eqb a 0 && eqb b 0)
sum_zero a b =
    by_eq a 0
    (λ e. rw (e, zero-add))
    (λ n. rw (ne_eqb a 0 n) (ne_eqb (a + b) 0 (λ e. n (omega arith))))

times_zero : (n : ℕ) → eqb (256 * n) 0 ≡ eqb n 0
times_zero n =
    by_eq n 0
    (λ e. rw e)
    (λ h. rw (ne_eqb n 0 h) (ne_eqb (256 * n) 0 (λ e. h (omega arith))))

-- a number is zero where its bytes are
pub number_zero : (l : List ℕ) → eqb (number_of l) 0 ≡ is_zero l
unfolding number_of is_zero every
number_zero [] = refl
number_zero (b ∷ bs) = rw (sum_zero b (256 * number_of bs), times_zero (number_of bs), number_zero bs)

-- bits joined are none where each part has none
pub or_zero : (a b : ℕ) → eqb (bit_or a b) 0 ≡ (eqb a 0 && eqb b 0)
or_zero a b =
    by_eq a 0
    (λ e. rw (e, or_zero_l))
    (λ n. rw (ne_eqb a 0 n) (ne_eqb (bit_or a b) 0 (λ e. n (omega (arith, or_add_and a b, and_le_r a b)))))

pub or_none : (a b : ℕ) → bit_or a b ≡ 0 → (a ≡ 0) × (b ≡ 0)
or_none a b h =
    let t : (eqb a 0 && eqb b 0) ≡ true = sym (or_zero a b) ∙ eq-eqb (bit_or a b) 0 h in
    (eqb-true a 0 (and_left _ _ t), eqb-true b 0 (and_right (eqb a 0) _ t))

-- zero bytes, one byte further
pub zero_none : (l : List ℕ) (a : ℕ) → is_zero (part l a 0) ≡ true
unfolding is_zero every part
zero_none l a = refl

pub byte_alone : (l : List ℕ) (a : ℕ) → a < length l → part l a 1 ≡ byte_at l a ∷ []
unfolding part
byte_alone l a h = ap (take 1) (sym (byte_rest l a h))

pub zero_next : (l : List ℕ) (a i bits : ℕ) → a + i < length l → eqb bits 0 ≡ is_zero (part l a i)
    → eqb (bit_or bits (byte_at l (a + i))) 0 ≡ is_zero (part l a (i + 1))
unfolding is_zero every
zero_next l a i bits h e =
    rw (or_zero bits (byte_at l (a + i)), e, ← part_join l a i 1, zero_append (part l a i) (part l (a + i) 1), byte_alone l (a + i) h, and-true)

-- a page is zero where no bit is set in its two words
pub page_zero : (l : List ℕ) → length l ≡ page_size → eqb (page_bits l) 0 ≡ is_zero l
unfolding page_bits
page_zero l h =
    rw (
      or_zero (number_of (part l 0 word_size)) (number_of (part l word_size word_size)),
      number_zero (part l 0 word_size),
      number_zero (part l word_size word_size),
      ← zero_append (part l 0 word_size) (part l word_size word_size),
    )
    (ap is_zero (part_join l 0 word_size word_size ∙ part_all l page_size h))

-- ---- four bytes as a number, and eight

bytes_rest : (l : List ℕ) (a n : ℕ) → a < length l → part l a (suc n) ≡ byte_at l a ∷ part l (a + 1) n
unfolding part
bytes_rest l a n h = ap (take (suc n)) (sym (byte_rest l a h))

four_bytes : (l : List ℕ) (a : ℕ) → a + 4 ≤ length l
    → part l a 4 ≡ byte_at l a ∷ byte_at l (a + 1) ∷ byte_at l (a + 2) ∷ byte_at l (a + 3) ∷ []
four_bytes l a h =
    let p : a + 1 + 1 ≡ a + 2 = omega arith in
    let q : a + 2 + 1 ≡ a + 3 = omega arith in
    rw (bytes_rest l a 3 (omega arith), bytes_rest l (a + 1) 2 (omega arith), p, bytes_rest l (a + 2) 1 (omega arith), q, byte_alone l (a + 3) (omega arith))

four_sum : (a b c d : ℕ) → a + 256 * b + 65536 * c + 16777216 * d ≡ number_of (a ∷ b ∷ c ∷ d ∷ [])
unfolding number_of
four_sum a b c d = omega arith

pub half_bytes : (l : List ℕ) → length l ≡ number_size
    → byte_at l 0 + 256 * byte_at l 1 + 65536 * byte_at l 2 + 16777216 * byte_at l 3 ≡ number_of l
half_bytes l h =
    four_sum (byte_at l 0) (byte_at l 1) (byte_at l 2) (byte_at l 3) ∙ ap number_of (sym (four_bytes l 0 (omega arith)) ∙ part_all l 4 h)

four_first : (a b c d : ℕ) (l : List ℕ) → number_of (a ∷ b ∷ c ∷ d ∷ []) + 4294967296 * number_of l ≡ number_of (a ∷ b ∷ c ∷ d ∷ l)
unfolding number_of
four_first a b c d l = omega arith

pub word_halves : (l : List ℕ) → length l ≡ word_size
    → number_of (part l 0 number_size) + 4294967296 * number_of (part l number_size number_size) ≡ number_of l
word_halves l h =
    let e : part l 0 4 ++ part l 4 4 ≡ l = part_join l 0 4 4 ∙ part_all l 8 h in
    ap (λ (k : List ℕ). number_of k + 4294967296 * number_of (part l 4 4)) (four_bytes l 0 (omega arith))
    ∙ four_first (byte_at l 0) (byte_at l 1) (byte_at l 2) (byte_at l 3) (part l 4 4)
    ∙ ap number_of (ap (λ (k : List ℕ). k ++ part l 4 4) (sym (four_bytes l 0 (omega arith))) ∙ e)

-- eight as the library sums them
pub word_number : (bs : List ℕ) → length bs ≡ word_size → from_le_bytes w64 bs ≡ number_of bs
unfolding number_of
word_number (a ∷ b ∷ c ∷ d ∷ e ∷ f ∷ g ∷ h ∷ []) k = omega arith
word_number (a ∷ b ∷ c ∷ d ∷ e ∷ f ∷ g ∷ h ∷ i ∷ is) k = absurd (omega arith)
word_number (a ∷ b ∷ c ∷ d ∷ e ∷ f ∷ g ∷ []) k = absurd (omega arith)
word_number (a ∷ b ∷ c ∷ d ∷ e ∷ f ∷ []) k = absurd (omega arith)
word_number (a ∷ b ∷ c ∷ d ∷ e ∷ []) k = absurd (omega arith)
word_number (a ∷ b ∷ c ∷ d ∷ []) k = absurd (omega arith)
word_number (a ∷ b ∷ c ∷ []) k = absurd (omega arith)
word_number (a ∷ b ∷ []) k = absurd (omega arith)
word_number (a ∷ []) k = absurd (omega arith)
word_number [] k = absurd (omega arith)

-- ---- a mark

-- two letters compared as one number
pair_test : (m0 m1 k0 k1 : ℕ) → m0 < byte_values → k0 < byte_values → eqb (m0 + 256 * m1) (k0 + 256 * k1) ≡ (eqb m0 k0 && eqb m1 k1)
pair_test m0 m1 k0 k1 h k =
    by_eq m0 k0
    (λ e.
    by_eq m1 k1
    (λ f. cc (eq-eqb m0 k0 e, eq-eqb m1 k1 f, eq-eqb (m0 + 256 * m1) (k0 + 256 * k1) (omega arith)))
    (λ n. cc (eq-eqb m0 k0 e, ne_eqb m1 k1 n, ne_eqb (m0 + 256 * m1) (k0 + 256 * k1) (λ f. n (omega arith)))))
    (λ n. cc (ne_eqb m0 k0 n, ne_eqb (m0 + 256 * m1) (k0 + 256 * k1) (λ e. n (omega arith))))

pub bare_number : (m0 m1 : ℕ) → m0 < byte_values
    → bare_mark m0 m1 ≡ (eqb (m0 + 256 * m1) (letter_s + 256 * letter_h) || eqb (m0 + 256 * m1) (letter_d + 256 * letter_r))
unfolding bare_mark
bare_number m0 m1 h = rw (pair_test m0 m1 letter_s letter_h h (omega arith), pair_test m0 m1 letter_d letter_r h (omega arith))

-- a mark without page bytes is no got's
bare_not_got : (m0 m1 : ℕ) → bare_mark m0 m1 ≡ true → got_mark m0 m1 ≡ false
unfolding bare_mark got_mark
bare_not_got m0 m1 h = by_eq m0 letter_g (λ e. clash (rw e at h) refl) (λ n. rw (ne_eqb m0 letter_g n))

-- ---- a slot: its page, then its mark

-- a number at or past a limit
not_below : (limit n : ℕ) → limit ≤ n → ltb n limit ≡ false
not_below limit n h = by_bool (ltb n limit) (λ t. absurd (omega (arith, ltb-true n limit t))) (λ t. t)

module _ (form : Form) (pages : ℕ) (l : List ℕ) where
  abbrev marked : Bool
  marked = mark_fits (byte_at l mark0_at) (byte_at l mark1_at) (is_zero (part l (slot_bytes_at_in form) page_size))

  pub slot_out : pages ≤ byte_at l slot_page_at → false ≡ slot_valid form pages l
  unfolding slot_valid
  slot_out h = rw (not_below pages (byte_at l slot_page_at) h) (sym (and-false marked))

  -- the page in range: a mark without page bytes asks for zeros, any other has to be a got's
  module _ (h : byte_at l slot_page_at < pages) where
    slot_in : marked ≡ slot_valid form pages l
    unfolding slot_valid
    slot_in = rw (lt-ltb (byte_at l slot_page_at) pages h, and-true)

    pub slot_bare : bare_mark (byte_at l mark0_at) (byte_at l mark1_at) ≡ true → is_zero (part l (slot_bytes_at_in form) page_size) ≡ slot_valid form pages l
    unfolding mark_fits
    slot_bare t = rw (← slot_in, bare_not_got (byte_at l mark0_at) (byte_at l mark1_at) t, t, and-true)

    pub slot_other : bare_mark (byte_at l mark0_at) (byte_at l mark1_at) ≡ false → got_mark (byte_at l mark0_at) (byte_at l mark1_at) ≡ slot_valid form pages l
    unfolding mark_fits
    slot_other t = rw (← slot_in, t, and-false, or-false)

-- ---- whom a record names

pub peer_zero : (named : Bool) (boards b peer : ℕ) → not named ≡ true → eqb peer 0 ≡ peer_allowed named boards b peer
unfolding peer_allowed
peer_zero true boards b peer h = clash h refl
peer_zero false boards b peer h = refl

pub peer_out : (named : Bool) (boards b peer : ℕ) → not named ≡ false → boards ≤ peer → false ≡ peer_allowed named boards b peer
unfolding peer_allowed
peer_out true boards b peer h l = rw (not_below boards peer l)
peer_out false boards b peer h l = clash refl h

pub peer_other : (named : Bool) (boards b peer : ℕ) → not named ≡ false → peer < boards → not (eqb peer b) ≡ peer_allowed named boards b peer
unfolding peer_allowed
peer_other true boards b peer h l = rw (lt-ltb peer boards l)
peer_other false boards b peer h l = clash refl h

-- ---- sets joined

either_one : (x y : ℕ) → x < 2 → y < 2 → eqb (max x y) 1 ≡ (eqb x 1 || eqb y 1)
either_one zero y h k = ap (λ (n : ℕ). eqb n 1) (zero-max y)
either_one (suc zero) y h k = let e : max 1 y ≡ 1 = omega arith in rw e
either_one (suc (suc x)) y h k = absurd (omega arith)

pub member_or : (b x y : ℕ) → member b (bit_or x y) ≡ (member b x || member b y)
unfolding member
member_or zero x y =
    let e : bit_or x y % 2 ≡ max (x % 2) (y % 2) = omega (arith, or_step x y) in
    rw e (either_one (x % 2) (y % 2) (omega arith) (omega arith))
member_or (suc b) x y =
    let e : bit_or x y / 2 ≡ bit_or (x / 2) (y / 2) = omega (arith, or_step x y) in
    rw e (member_or b (x / 2) (y / 2))

not_or : (a b : Bool) → not (a || b) ≡ (not a && not b)
not_or true b = refl
not_or false b = refl

-- a board is in no set of those joined so far, one page further
pub holders_next : (pages : ℕ) (directory : List ℕ) (holders copies b : ℕ) → copies ≡ byte_at directory (pages * entry_size + copies_at)
    → not (member b holders) ≡ holds_none pages directory b → not (member b (bit_or holders copies)) ≡ holds_none (pages + 1) directory b
unfolding holds_none decode_entry
holders_next pages directory holders copies b p h =
    rw (
      member_or b holders copies,
      not_or (member b holders) (member b copies),
      h,
      below_more,
      byte_at_part directory (pages * entry_size) entry_size copies_at
          (omega arith),
      ← p,
    )

pub holders_none : (directory : List ℕ) (b : ℕ) → not (member b 0) ≡ holds_none 0 directory b
unfolding holds_none every_below every_from
holders_none directory b = rw (member_none b)

-- ---- a copy-set with no bit at or past a number

pub below_power : (n set : ℕ) → set / 2 ^ n ≡ 0 → set < 2 ^ n
below_power n set e =
    let h : set < 1 * 2 ^ n = (div-lt_iff_lt-mul {k = 2 ^ n} {x = set} {y = 1} (pow_pos n)).0 (omega arith) in
    omega arith

pub past_power : (n set : ℕ) → (set / 2 ^ n ≡ 0 → ⊥) → 2 ^ n ≤ set
past_power n set e = by_bool (ltb set (2 ^ n)) (λ t. absurd (e (div-eq_of_lt (ltb-true set (2 ^ n) t)))) (λ t. ltb-false set (2 ^ n) t)

pub no_bit_past : (n set : ℕ) → eqb (set / 2 ^ n) 0 ≡ ltb set (2 ^ n)
no_bit_past n set =
    by_eq (set / 2 ^ n) 0
    (λ e. rw e (sym (lt-ltb set (2 ^ n) (below_power n set e))))
    (λ e. ne_eqb (set / 2 ^ n) 0 e ∙ sym (not_below (2 ^ n) set (past_power n set e)))

-- ---- a frame by its right

pub frame_none : (f : List ℕ) → byte_at f right_at ≡ right_byte None → is_zero (part f frame_bytes_at page_size) ≡ frame_valid f
unfolding frame_valid right_byte
frame_none f e = rw e

pub frame_some : (f : List ℕ) → byte_at f right_at ≢ right_byte None → leb (byte_at f right_at) (right_byte Own) ≡ frame_valid f
unfolding frame_valid
frame_some f n = rw (ne_eqb (byte_at f right_at) (right_byte None) n, and-true)

-- a frame's page by its bits
pub frame_page : (l : List ℕ) (a bits : ℕ) → a + frame_size ≤ length l → bits ≡ page_bits (part l (a + frame_bytes_at) page_size)
    → eqb bits 0 ≡ is_zero (part (part l a frame_size) frame_bytes_at page_size)
frame_page l a bits h e =
    rw (e, part_part l a frame_size frame_bytes_at page_size (omega arith))
    (page_zero (part l (a + frame_bytes_at) page_size) (length_part l (a + frame_bytes_at) page_size (omega arith)))

-- a frame of zeros, its right joined to its page's bits
pub frame_zero : (l : List ℕ) (a right bits : ℕ) → a + frame_size ≤ length l → right ≡ byte_at l a → bits ≡ page_bits (part l (a + frame_bytes_at) page_size)
    → eqb (bit_or right bits) 0 ≡ is_zero (part l a frame_size)
unfolding is_zero every
frame_zero l a right bits h p q =
    let page : eqb bits 0 ≡ is_zero (part l (a + 1) page_size) = rw q (page_zero (part l (a + 1) page_size) (length_part l (a + 1) page_size (omega arith))) in
    rw (or_zero right bits, page, p, ← part_join l a 1 page_size, zero_append (part l a 1) (part l (a + 1) page_size), byte_alone l a (omega arith), and-true)

-- two frames without a right: both pages at once
pub frames_none : (f g : List ℕ) (a b : ℕ) → byte_at f right_at ≡ 0 → byte_at g right_at ≡ 0
    → eqb a 0 ≡ is_zero (part f frame_bytes_at page_size) → eqb b 0 ≡ is_zero (part g frame_bytes_at page_size)
    → eqb (bit_or a b) 0 ≡ (frame_valid f && frame_valid g)
unfolding right_byte
frames_none f g a b p q h k = rw (or_zero a b, h, k, frame_none f p, frame_none g q)

-- a frame whose right is a given one, and one whose right isn't
pub frame_given : (f : List ℕ) (r : Right) → byte_at f right_at ≡ right_byte r → (same_right (right_of (byte_at f right_at)) r && frame_valid f) ≡ frame_valid f
unfolding same_right
frame_given f r e =
    let same : right_byte (right_of (byte_at f right_at)) ≡ right_byte r = rw e (ap right_byte (right_of_right_byte r)) in
    rw (eq-eqb (right_byte (right_of (byte_at f right_at))) (right_byte r) same)

right_back : (n : ℕ) → n ≤ right_byte Own → right_byte (right_of n) ≡ n
unfolding right_of right_byte
right_back zero h = refl
right_back (suc zero) h = refl
right_back (suc (suc zero)) h = refl
right_back (suc (suc (suc n))) h = absurd (omega arith)

pub frame_unlike : (f : List ℕ) (r : Right) → byte_at f right_at ≢ right_byte r → (same_right (right_of (byte_at f right_at)) r && frame_valid f) ≡ false
unfolding same_right frame_valid
frame_unlike f r n =
    by_bool (leb (byte_at f right_at) (right_byte Own))
    (λ t.
    let other : right_byte (right_of (byte_at f right_at)) ≢ right_byte r =
    λ e. n (sym (right_back (byte_at f right_at) (leb-true (byte_at f right_at) (right_byte Own) t)) ∙ e)
    in
    rw (ne_eqb (right_byte (right_of (byte_at f right_at))) (right_byte r) other))
    (λ t. rw (t, and-false))
