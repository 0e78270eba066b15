-- Bytes put into a buffer one behind the other, and how many a line has. Assumes nothing.
use Rattle.std.specs.Prelude.{◌≡◌, refl, ℕ, ◌+◌, ◌-◌, ◌/◌, ◌%◌, ◌≤◌, ◌<◌, List, [], ◌∷◌, ◌++◌, length, take, drop, set}
use Rattle.std.proofs.Common.{sym, ap, ◌∙◌, arith, length-append, drop-drop, take_at}
use borrow.Rule.Slice.PartMut.{put_mid}
use Rattle.model.specs.Definitions.Parts.{splice}
use Rattle.model.proofs.Laws.Parts.{splice_next, splice_one, length_splice}
use Rattle.lines.specs.Definitions.Numbers.{largest_number, digit_zero, decimal}
use Rattle.lines.specs.Definitions.Output.{field}
use Rattle.lines.specs.Laws.Numbers.{decimal_fits, decimal_one, decimal_more, length_more}
use Rattle.lines.specs.Clauses.{Put, most_field}

pub put_length : {l : List ℕ} {a : ℕ} {v m : List ℕ} {b : ℕ} → Put l a v m b → a + length v ≤ length l → length m ≡ length l
put_length {l} {a} {v} p h = ap length p.bytes ∙ length_splice l a v h

-- one behind the other
pub put_next : {l : List ℕ} {a : ℕ} {v m : List ℕ} {b : ℕ} {w k : List ℕ} {c : ℕ} → Put l a v m b → Put m b w k c → a ≤ length l → Put l a (v ++ w) k c
put_next {l} {a} {v} {m} {b} {w} {k} {c} p q h =
    record {
      bytes = q.bytes ∙ rw p.bytes (splice_next l a b v w (sym p.end) h);
      end = simp length-append (omega (arith, p.end, q.end));
    }

-- one byte
pub put_byte : (l : List ℕ) (a c : ℕ) → a < length l → Put l a (c ∷ []) (set l a c) (a + 1)
put_byte l a c h = record { bytes = sym (splice_one l a c h); end = refl }

-- at the beginning of the buffer
module _ {l v m : List ℕ} {n : ℕ} (p : Put l 0 v m n) where
  put_joined : m ≡ v ++ drop (0 + length v) l
  unfolding splice
  put_joined = p.bytes

  put_count : n ≡ length v
  put_count = omega (arith, p.end)

  pub put_front : take n m ≡ v
  put_front = rw (put_joined, put_count) (take_at v (drop (0 + length v) l) (length v) refl)

  pub put_inside : n ≤ length m
  put_inside = rw (put_joined, put_count) (simp length-append (omega arith))

pub put_as : {l : List ℕ} {a : ℕ} {v w k : List ℕ} {b : ℕ} → v ≡ w → Put l a w k b → Put l a v k b
put_as e p = rw e p

-- bytes copied into a part of the buffer
pub put_copied : (l : List ℕ) (a : ℕ) (v d part : List ℕ) → d ≡ v → part ≡ d → Put l a v (put_mid a (a + length d - a) l part) (a + length d)
unfolding splice
put_copied l a v d part e f =
    let k : a + length v - a ≡ length v = omega arith in
    record { bytes = rw (f, e, k) (ap (λ (x : List ℕ). take a l ++ (v ++ x)) (drop-drop (length v) a l)); end = ap (λ (x : List ℕ). a + length x) e }

-- ---- a number's digits

pub digit_room : (l : List ℕ) (a n : ℕ) → n < 10 → a + length (decimal n) ≤ length l → a < length l
digit_room l a n h k = omega (arith, rw (decimal_one n h) at k)

pub put_digit : (l : List ℕ) (a n d : ℕ) → n < 10 → d ≡ digit_zero + n → a + length (decimal n) ≤ length l → Put l a (decimal n) (set l a d) (a + 1)
put_digit l a n d h e k = rw (decimal_one n h, ← e) (put_byte l a d (digit_room l a n h k))

-- the last digit, behind those of a tenth
module _ (l : List ℕ) (a n : ℕ) (m : List ℕ) (b : ℕ) (h : 10 ≤ n) (p : Put l a (decimal (n / 10)) m b) (k : a + length (decimal n) ≤ length l) where
  tenth_room : a + length (decimal (n / 10)) + 1 ≤ length l
  tenth_room = omega (arith, length_more n h)

  pub last_digit_room : b < length m
  last_digit_room = omega (arith, p.end, put_length p (omega (arith, tenth_room)), tenth_room)

  pub put_last_digit : (d : ℕ) → d ≡ digit_zero + n % 10 → Put l a (decimal n) (set m b d) (b + 1)
  put_last_digit d e = rw (decimal_more n h, ← e) (put_next p (put_byte m b d last_digit_room) (omega arith))

-- a number and the byte behind it
module _ (l : List ℕ) (a n : ℕ) (m : List ℕ) (b : ℕ) (h : n ≤ largest_number) (k : a + most_field ≤ length l) where
  pub field_room : a + length (decimal n) ≤ length l
  field_room = omega (arith, decimal_fits n h)

  module _ (p : Put l a (decimal n) m b) where
    pub behind_room : b < length m
    behind_room = omega (arith, p.end, put_length p field_room, decimal_fits n h)

    pub put_field : (end : ℕ) → Put l a (field n end) (set m b end) (b + 1)
    unfolding field
    put_field end = put_next p (put_byte m b end behind_room) (omega arith)

    pub field_near : b + 1 ≤ a + most_field
    field_near = omega (arith, p.end, decimal_fits n h)
