-- Laws of parts and splices of a list: lengths, parts of joined lists, parts of parts, what a splice writes and what it leaves.
-- Then of elements of one width side by side: reading and writing them all, or one at any index. Assumes nothing.
use Rattle.std.specs.Prelude.{◌≡◌, get_or, set}
use Rattle.std.proofs.Math.Path.{refl, sym, ap}
use Rattle.std.proofs.Common.{◌∙◌, suc-add, add-zero, mul-le-mul_right, not-suc-le-zero, le_of_suc-le-suc, add-one, length-append, length-drop, take-append-drop, drop-cons, get_or-append-add, get_or-take}
use Prim.Native.Nat.{ℕ, zero, suc, ◌+◌, ◌-◌, ◌*◌, ◌≤◌, ◌<◌}
use Rattle.std.proofs.Math.Nat.{zero-add, add_assoc, zero-mul, suc-mul}
use native.Mathlib.Omega.{arith}
use mathlib.Core.List.{List, [], ◌∷◌, ◌++◌, map, append-nil, append_assoc}
use Rattle.std.proofs.Math.ListN.{length, take, drop, length-take, get_or-append}
use Rattle.std.proofs.Math.Seq.{length-take-le, take_all, take-nil, take-take, take-add, drop-drop, drop-append-le, drop-append-add, take-append-add, take_at, drop_at, get_or-drop}
use Rattle.std.proofs.lemmas.List.{take-append-le, set_split}
use Rattle.model.specs.Definitions.Parts.{part, splice, byte_at, encode_all, decode_all}
use Rattle.words.specs.Bytes.{Each, each_nil, each_cons}
use Rattle.model.proofs.Laws.Lists.{each_head, each_tail, each_append, each_take, each_drop}

module _ {ℓ} {A : Type ℓ} where
  -- ---- parts: lengths, joined lists

  pub length_part : (l : List A) (a n : ℕ) → a + n ≤ length l → length (part l a n) ≡ n
  unfolding part
  length_part l a n h = length-take-le n (drop a l) (rw (length-drop a l) (omega arith))

  pub part_all : (l : List A) (n : ℕ) → length l ≡ n → part l 0 n ≡ l
  unfolding part
  part_all l n e = take_all n l (omega arith)

  pub part_append_left : (xs ys : List A) (a n : ℕ) → a + n ≤ length xs → part (xs ++ ys) a n ≡ part xs a n
  unfolding part
  part_append_left xs ys a n h =
      rw (drop-append-le a xs ys (omega arith)) (take-append-le n (drop a xs) ys (rw (length-drop a xs) (omega arith)))

  pub part_append_right : (xs ys : List A) (a b n : ℕ) → length xs + b ≡ a → part (xs ++ ys) a n ≡ part ys b n
  unfolding part
  part_append_right xs ys a b n e = rw (← e, drop-append-add xs ys b)

  pub part_front : (v q : List A) (n : ℕ) → length v ≡ n → part (v ++ q) 0 n ≡ v
  unfolding part
  part_front v q n e = take_at v q n e

  -- the part that `v` is, wherever it stands
  pub part_at : (p v q : List A) (a n : ℕ) → length p ≡ a → length v ≡ n → part (p ++ (v ++ q)) a n ≡ v
  part_at p v q a n e f = part_append_right p (v ++ q) a 0 n (omega arith) ∙ part_front v q n f

  pub part_end : (p v : List A) (a n : ℕ) → length p ≡ a → length v ≡ n → part (p ++ v) a n ≡ v
  part_end p v a n e f = part_append_right p v a 0 n (omega arith) ∙ part_all v n f

  -- ---- consecutive parts join

  pub part_join : (l : List A) (a n m : ℕ) → part l a n ++ part l (a + n) m ≡ part l a (n + m)
  unfolding part
  part_join l a n m = rw (take-add n m (drop a l), drop-drop n a l)

  pub part_rest : (l : List A) (a n b : ℕ) → a + n ≡ b → part l a n ++ drop b l ≡ drop a l
  unfolding part
  part_rest l a n b e = rw (← e, ← drop-drop n a l) (take-append-drop n (drop a l))

  pub part_last : (l : List A) (a n : ℕ) → length l ≡ a + n → part l a n ≡ drop a l
  unfolding part
  part_last l a n e = take_all n (drop a l) (rw (length-drop a l) (omega arith))

  pub split_part : (l : List A) (a n : ℕ) → take a l ++ (part l a n ++ drop (a + n) l) ≡ l
  split_part l a n = rw (part_rest l a n (a + n) refl) (take-append-drop a l)

  -- ---- a part of a part

  drop_take : (b m : ℕ) (l : List A) → drop b (take (b + m) l) ≡ take m (drop b l)
  drop_take zero m l = rw zero-add
  drop_take (suc b) m [] = rw suc-add (sym (take-nil m))
  drop_take (suc b) m (x ∷ l) = rw suc-add (drop_take b m l)

  pub part_drop : (l : List A) (a b n : ℕ) → part (drop a l) b n ≡ part l (a + b) n
  unfolding part
  part_drop l a b n = rw (drop-drop b a l)

  pub part_part : (l : List A) (a n b m : ℕ) → b + m ≤ n → part (part l a n) b m ≡ part l (a + b) m
  unfolding part
  part_part l a n b m h =
      let e : n ≡ b + (n - b) = omega arith in
      rw (e, drop_take b (n - b) (drop a l), take-take m (n - b) (drop b (drop a l)) (omega arith), drop-drop b a l)

  pub part_take : (l : List A) (n b m : ℕ) → b + m ≤ n → part (take n l) b m ≡ part l b m
  unfolding part
  part_take l n b m h = rw zero-add at (part_part l 0 n b m h)

  pub get_d_part : (l : List A) (a n i : ℕ) (d : A) → i < n → get_or (part l a n) i d ≡ get_or l (a + i) d
  unfolding part
  get_d_part l a n i d h = rw (get_or-take n (drop a l) i d h, get_or-drop a l i d)

  -- ---- splices: lengths, joined lists

  pub length_splice : (l : List A) (a : ℕ) (v : List A) → a + length v ≤ length l → length (splice l a v) ≡ length l
  unfolding splice
  length_splice l a v h = simp (length-append, length-take, length-drop) (omega arith)

  -- a splice as what stands before it, it, and what stands behind
  pub splice_of : (l : List A) (a : ℕ) (v : List A) (n : ℕ) → length v ≡ n → splice l a v ≡ take a l ++ (v ++ drop (a + n) l)
  unfolding splice
  splice_of l a v n e = rw e

  pub splice_zero : (l v : List A) (n : ℕ) → length v ≡ n → splice l 0 v ≡ v ++ drop n l
  splice_zero l v n e = rw zero-add at (splice_of l 0 v n e)

  pub splice_append_left : (xs ys : List A) (a : ℕ) (v : List A) → a + length v ≤ length xs → splice (xs ++ ys) a v ≡ splice xs a v ++ ys
  unfolding splice
  splice_append_left xs ys a v h =
      rw (take-append-le a xs ys (omega arith), drop-append-le (a + length v) xs ys (omega arith)) (simp append_assoc)

  pub splice_append_right : (xs ys : List A) (a b : ℕ) (v : List A) → length xs + b ≡ a → splice (xs ++ ys) a v ≡ xs ++ splice ys b v
  unfolding splice
  splice_append_right xs ys a b v e =
      rw (← e, take-append-add xs ys b, add_assoc (length xs) b (length v), drop-append-add xs ys (b + length v)) (simp append_assoc)

  pub splice_front : (u v q : List A) → length u ≡ length v → splice (u ++ q) 0 v ≡ v ++ q
  splice_front u v q e = splice_zero (u ++ q) v (length v) refl ∙ rw (drop_at u q (length v) e)

  -- of the whole list
  pub splice_all : (l v : List A) → length l ≡ length v → splice l 0 v ≡ v
  splice_all l v e = simp append-nil at (splice_front l v [] e)

  pub splice_at : (p u v q : List A) (a : ℕ) → length p ≡ a → length u ≡ length v → splice (p ++ (u ++ q)) a v ≡ p ++ (v ++ q)
  splice_at p u v q a e f = splice_append_right p (u ++ q) a 0 v (omega arith) ∙ ap (λ (r : List A). p ++ r) (splice_front u v q f)

  -- a splice in the second of three lists
  pub splice_amid : (p u q : List A) (a b : ℕ) (v : List A) → length p + b ≡ a → b + length v ≤ length u
      → splice (p ++ (u ++ q)) a v ≡ p ++ (splice u b v ++ q)
  splice_amid p u q a b v e h = splice_append_right p (u ++ q) a b v e ∙ ap (λ (r : List A). p ++ r) (splice_append_left u q b v h)

  -- and in the third
  pub splice_behind : (p u q : List A) (b c : ℕ) (w : List A) → length p + (length u + c) ≡ b → splice (p ++ (u ++ q)) b w ≡ p ++ (u ++ splice q c w)
  splice_behind p u q b c w e =
      splice_append_right p (u ++ q) b (length u + c) w e ∙ ap (λ (r : List A). p ++ r) (splice_append_right u q (length u + c) c w refl)

  -- ---- what a splice wrote reads back, and every part before or after it is as it was

  pub part_splice : (l : List A) (a n : ℕ) (v : List A) → length v ≡ n → a ≤ length l → part (splice l a v) a n ≡ v
  unfolding splice
  part_splice l a n v e h = part_at (take a l) v (drop (a + length v) l) a n (length-take-le a l h) e

  pub part_splice_before : (l : List A) (a : ℕ) (v : List A) (b n : ℕ) → b + n ≤ a → a ≤ length l → part (splice l a v) b n ≡ part l b n
  unfolding splice
  part_splice_before l a v b n h k =
      part_append_left (take a l) (v ++ drop (a + length v) l) b n (rw (length-take-le a l k) h) ∙ part_take l a b n h

  pub drop_splice_after : (l : List A) (a : ℕ) (v : List A) (b : ℕ) → a + length v ≤ b → a ≤ length l → drop b (splice l a v) ≡ drop b l
  drop_splice_after l a v b h k =
      let c : ℕ = b - (a + length v) in
      let q : List A = drop (a + length v) l in
      let e : length (take a l) ≡ a = length-take-le a l k in
      let f : b ≡ length (take a l) + (length v + c) = omega arith in
      let g : b ≡ a + length v + c = omega arith in
      let r : drop (length (take a l) + (length v + c)) (splice l a v) ≡ drop (a + length v + c) l
      = rw (splice_of l a v (length v) refl, drop-append-add (take a l) (v ++ q) (length v + c), drop-append-add v q c) (drop-drop c (a + length v) l) in
      ap (λ (m : ℕ). drop m (splice l a v)) f ∙ r ∙ ap (λ (m : ℕ). drop m l) (sym g)

  pub part_splice_after : (l : List A) (a : ℕ) (v : List A) (b n : ℕ) → a + length v ≤ b → a ≤ length l → part (splice l a v) b n ≡ part l b n
  unfolding part
  part_splice_after l a v b n h k = rw (drop_splice_after l a v b h k)

  -- a part of what it wrote
  pub part_splice_inside : (l : List A) (a : ℕ) (v : List A) (b n : ℕ) → b + n ≤ length v → a ≤ length l → part (splice l a v) (a + b) n ≡ part v b n
  unfolding splice
  part_splice_inside l a v b n h k =
      part_append_right (take a l) (v ++ drop (a + length v) l) (a + b) b n (rw (length-take-le a l k))
      ∙ part_append_left v (drop (a + length v) l) b n h

  -- ---- a splice inside a part

  splice_into : (l : List A) (a n b : ℕ) (v : List A) → b + length v ≤ n → a + n ≤ length l
      → splice l (a + b) v ≡ take a l ++ (splice (part l a n) b v ++ drop (a + n) l)
  splice_into l a n b v h k =
      let e : length (take a l) ≡ a = length-take-le a l (omega arith) in
      let f : length (part l a n) ≡ n = length_part l a n k in
      rw (split_part l a n) at (splice_amid (take a l) (part l a n) (drop (a + n) l) (a + b) b v (omega arith) (omega arith))

  length_splice_part : (l : List A) (a n b : ℕ) (v : List A) → b + length v ≤ n → a + n ≤ length l → length (splice (part l a n) b v) ≡ n
  length_splice_part l a n b v h k =
      let f : length (part l a n) ≡ n = length_part l a n k in
      length_splice (part l a n) b v (omega arith) ∙ f

  -- a part, changed by a splice and put back
  pub splice_within : (l : List A) (a n b : ℕ) (v : List A) → b + length v ≤ n → a + n ≤ length l
      → splice l a (splice (part l a n) b v) ≡ splice l (a + b) v
  splice_within l a n b v h k = splice_of l a (splice (part l a n) b v) n (length_splice_part l a n b v h k) ∙ sym (splice_into l a n b v h k)

  -- a splice behind what is dropped
  pub drop_splice : (l : List A) (a b : ℕ) (v : List A) → a ≤ length l → drop a (splice l (a + b) v) ≡ splice (drop a l) b v
  unfolding splice
  drop_splice l a b v h =
      rw (take-add a b l, append_assoc (take a l) (take b (drop a l)) (v ++ drop (a + b + length v) l))
      (drop_at (take a l) (take b (drop a l) ++ (v ++ drop (a + b + length v) l)) a (length-take-le a l h)
      ∙ rw (drop-drop (b + length v) a l, add_assoc))

  -- ---- two splices

  pub splice_again : (l : List A) (a : ℕ) (v w : List A) → length v ≡ length w → a ≤ length l → splice (splice l a v) a w ≡ splice l a w
  splice_again l a v w e h =
      rw (splice_of l a v (length v) refl, splice_of l a w (length v) (sym e))
      (splice_at (take a l) v w (drop (a + length v) l) a (length-take-le a l h) e)

  -- side by side: one splice of both
  pub splice_next : (l : List A) (a b : ℕ) (v w : List A) → a + length v ≡ b → a ≤ length l → splice (splice l a v) b w ≡ splice l a (v ++ w)
  splice_next l a b v w e h =
      let q : List A = drop (a + length v) l in
      let f : length (take a l) ≡ a = length-take-le a l h in
      rw (
        splice_of l a v (length v) refl,
        splice_behind (take a l) v q b 0 w (omega arith),
        splice_zero q w (length w) refl,
        drop-drop (length w) (a + length v) l,
      )
      (rw (splice_of l a (v ++ w) (length v + length w) (length-append v w), ← add_assoc a (length v) (length w)) (simp append_assoc))

  -- apart: in either order
  pub splice_apart : (l : List A) (a b : ℕ) (v w : List A) → a + length v ≤ b → b ≤ length l
      → splice (splice l a v) b w ≡ splice (splice l b w) a v
  splice_apart l a b v w h k =
      let p : List A = take a l in
      let u : List A = part l a (length v) in
      let q : List A = drop (a + length v) l in
      let c : ℕ = b - (a + length v) in
      let e : length p ≡ a = length-take-le a l (omega arith) in
      let f : length u ≡ length v = length_part l a (length v) (omega arith) in
      let g : splice l b w ≡ p ++ (u ++ splice q c w) = rw (split_part l a (length v)) at (splice_behind p u q b c w (omega arith)) in
      rw (splice_of l a v (length v) refl, splice_behind p v q b c w (omega arith), g) (sym (splice_at p u v (splice q c w) a e f))

  -- one element
  pub splice_one : (l : List A) (i : ℕ) (x : A) → i < length l → splice l i (x ∷ []) ≡ set l i x
  splice_one l i x h = let e : i + 1 ≡ suc i = omega arith in splice_of l i (x ∷ []) 1 refl ∙ rw e (sym (set_split l i x h))

-- ---- one byte

pub byte_at_append_left : (xs ys : List ℕ) (i : ℕ) → i < length xs → byte_at (xs ++ ys) i ≡ byte_at xs i
unfolding byte_at
byte_at_append_left xs ys i h = get_or-append xs ys 0 i h

pub byte_at_append_right : (xs ys : List ℕ) (a i : ℕ) → length xs + i ≡ a → byte_at (xs ++ ys) a ≡ byte_at ys i
unfolding byte_at
byte_at_append_right xs ys a i e = rw (← e) (get_or-append-add xs ys i 0)

pub byte_at_part : (l : List ℕ) (a n i : ℕ) → i < n → byte_at (part l a n) i ≡ byte_at l (a + i)
unfolding byte_at
byte_at_part l a n i h = get_d_part l a n i 0 h

-- a byte that stands first in its part
pub byte_at_first : (l : List ℕ) (a n : ℕ) → 0 < n → byte_at l a ≡ byte_at (part l a n) 0
byte_at_first l a n h = rw add-zero at (sym (byte_at_part l a n 0 h))

pub byte_rest : (l : List ℕ) (a : ℕ) → a < length l → byte_at l a ∷ drop (a + 1) l ≡ drop a l
unfolding byte_at
byte_rest l a h = let e : a + 1 ≡ suc a = omega arith in rw e (sym (drop-cons l a 0 h))

-- two lists agree at a byte where they have the same part
pub same_byte : (l m : List ℕ) (i : ℕ) → part l i 1 ≡ part m i 1 → byte_at l i ≡ byte_at m i
same_byte l m i e = byte_at_first l i 1 (omega arith) ∙ rw e (sym (byte_at_first m i 1 (omega arith)))

-- one byte before the part that follows it
pub byte_part : (l : List ℕ) (a b n m : ℕ) → a < length l → a + 1 ≡ b → n + 1 ≡ m → byte_at l a ∷ part l b n ≡ part l a m
unfolding part
byte_part l a b n m h e f = rw (← e, ← f, add-one n, ← byte_rest l a h)

pub byte_at_splice_left : (l : List ℕ) (a : ℕ) (v : List ℕ) (i : ℕ) → i < a → i < length l → byte_at (splice l a v) i ≡ byte_at l i
unfolding splice byte_at
byte_at_splice_left l a v i h k =
    byte_at_append_left (take a l) (v ++ drop (a + length v) l) i (rw (length-take a l) (omega arith)) ∙ get_or-take a l i 0 h

-- ==== what holds of every element

pub each_part : {A : Type 0} {P : A → Type 0} (l : List A) (a n : ℕ) → Each P l → Each P (part l a n)
unfolding part
each_part l a n e = each_take n (drop a l) (each_drop a l e)

pub each_all : {A : Type 0} {P : A → Type 0} (xs : List A) → ((x : A) → P x) → Each P xs
each_all [] f = each_nil
each_all (x ∷ xs) f = each_cons (f x) (each_all xs f)

pub each_splice : {A : Type 0} {P : A → Type 0} (l : List A) (a : ℕ) (v : List A) → Each P l → Each P v → Each P (splice l a v)
unfolding splice
each_splice l a v e f = each_append (take a l) _ (each_take a l e) (each_append v _ f (each_drop (a + length v) l e))

-- ==== elements of one width, side by side

-- the element at index i is inside
pub index_in : (w n i : ℕ) → i < n → i * w + w ≤ n * w
index_in w n i h = rw (suc-mul i w) at (mul-le-mul_right {m = suc i} {n = n} w h)

-- the next element is one width further
next_at : (i w : ℕ) → suc i * w ≡ w + i * w
next_at i w = rw suc-mul (omega arith)

pub next_part : (l : List ℕ) (i w : ℕ) → part (drop w l) (i * w) w ≡ part l (suc i * w) w
next_part l i w = part_drop l w (i * w) w ∙ rw (next_at i w)

module _ {A : Type 0} (enc : A → List ℕ) (w : ℕ) where
  abbrev pub Wide : A → Type 0
  Wide x = length (enc x) ≡ w

  pub length_encode_all : (xs : List A) → Each Wide xs → length (encode_all enc xs) ≡ length xs * w
  unfolding encode_all
  length_encode_all [] e = rw zero-mul
  length_encode_all (x ∷ xs) e = rw (length-append (enc x) (encode_all enc xs), length_encode_all xs (each_tail e), suc-mul, each_head e) (omega arith)

  pub encode_all_append : (xs ys : List A) → encode_all enc (xs ++ ys) ≡ encode_all enc xs ++ encode_all enc ys
  unfolding encode_all
  encode_all_append [] ys = refl
  encode_all_append (x ∷ xs) ys = rw (encode_all_append xs ys) (simp append_assoc)

  -- one at the end
  pub encode_all_snoc : (xs : List A) (y : A) → encode_all enc (xs ++ (y ∷ [])) ≡ encode_all enc xs ++ enc y
  unfolding encode_all
  encode_all_snoc xs y = rw (encode_all_append xs (y ∷ []), append-nil)

  -- each element stands at its index times the width
  pub part_encode_all : (xs : List A) (i : ℕ) (d : A) → Each Wide xs → i < length xs → part (encode_all enc xs) (i * w) w ≡ enc (get_or xs i d)
  unfolding encode_all
  part_encode_all [] i d e h = absurd (not-suc-le-zero h)
  part_encode_all (x ∷ xs) zero d e h = rw zero-mul (part_front (enc x) (encode_all enc xs) w (each_head e))
  part_encode_all (x ∷ xs) (suc i) d e h =
      let f : length (enc x) ≡ w = each_head e in
      part_append_right (enc x) (encode_all enc xs) (suc i * w) (i * w) w (rw suc-mul (omega arith))
      ∙ part_encode_all xs i d (each_tail e) (le_of_suc-le-suc h)

  -- an element changed is a splice of its bytes
  pub encode_all_set : (xs : List A) (i : ℕ) (y : A) → Each Wide xs → Wide y → i < length xs
      → encode_all enc (set xs i y) ≡ splice (encode_all enc xs) (i * w) (enc y)
  unfolding encode_all
  encode_all_set [] i y e g h = absurd (not-suc-le-zero h)
  encode_all_set (x ∷ xs) zero y e g h = rw zero-mul (sym (splice_front (enc x) (enc y) (encode_all enc xs) (each_head e ∙ sym g)))
  encode_all_set (x ∷ xs) (suc i) y e g h =
      let f : length (enc x) ≡ w = each_head e in
      rw (encode_all_set xs i y (each_tail e) g (le_of_suc-le-suc h))
      (sym (splice_append_right (enc x) (encode_all enc xs) (suc i * w) (i * w) (enc y) (rw suc-mul (omega arith))))

module _ {A : Type 0} (dec : List ℕ → A) (w : ℕ) where
  pub length_decode_all : (n : ℕ) (l : List ℕ) → length (decode_all dec w n l) ≡ n
  unfolding decode_all
  length_decode_all zero l = refl
  length_decode_all (suc n) l = ap suc (length_decode_all n (drop w l))

  pub get_d_decode_all : (n : ℕ) (l : List ℕ) (i : ℕ) (d : A) → i < n → get_or (decode_all dec w n l) i d ≡ dec (part l (i * w) w)
  unfolding decode_all part
  get_d_decode_all zero l i d h = absurd (not-suc-le-zero h)
  get_d_decode_all (suc n) l zero d h = rw zero-mul
  get_d_decode_all (suc n) l (suc i) d h =
      get_d_decode_all n (drop w l) i d (le_of_suc-le-suc h) ∙ ap dec (next_part l i w)

  -- of a longer list, only the elements are read
  pub decode_all_append : (n : ℕ) (xs ys : List ℕ) → n * w ≤ length xs → decode_all dec w n (xs ++ ys) ≡ decode_all dec w n xs
  unfolding decode_all
  decode_all_append zero xs ys h = refl
  decode_all_append (suc n) xs ys h =
      let e : suc n * w ≡ n * w + w = suc-mul n w in
      rw (take-append-le w xs ys (omega arith), drop-append-le w xs ys (omega arith), decode_all_append n (drop w xs) ys (rw (length-drop w xs) (omega arith)))

  pub decode_all_add : (n m : ℕ) (l : List ℕ) → decode_all dec w (n + m) l ≡ decode_all dec w n l ++ decode_all dec w m (drop (n * w) l)
  unfolding decode_all
  decode_all_add zero m l = rw (zero-add, zero-mul)
  decode_all_add (suc n) m l =
      rw (suc-add, decode_all_add n m (drop w l), drop-drop (n * w) w l, next_at n w)

  -- what is written at any index reads back there, and the others are as they were
  pub decode_all_splice : (n : ℕ) (l : List ℕ) (i : ℕ) (v : List ℕ) → length v ≡ w → i < n → n * w ≤ length l
      → decode_all dec w n (splice l (i * w) v) ≡ set (decode_all dec w n l) i (dec v)
  unfolding decode_all part
  decode_all_splice zero l i v e h k = absurd (not-suc-le-zero h)
  decode_all_splice (suc n) l zero v e h k =
      rw (zero-mul w, splice_zero l v w e, take_at v (drop w l) w e, drop_at v (drop w l) w e)
  decode_all_splice (suc n) l (suc i) v e h k =
      let g : suc n * w ≡ n * w + w = suc-mul n w in
      let m : i * w + w ≤ n * w = index_in w n i (le_of_suc-le-suc h) in
      let t : take w (splice l (w + i * w) v) ≡ take w l = part_splice_before l (w + i * w) v 0 w (omega arith) (omega arith) in
      rw (
        next_at i w,
        t,
        drop_splice l w (i * w) v (omega arith),
        decode_all_splice n (drop w l) i v e (le_of_suc-le-suc h) (rw (length-drop w l) (omega arith)),
      )

  -- a splice behind the elements
  pub decode_all_before : (n : ℕ) (l : List ℕ) (a : ℕ) (v : List ℕ) → n * w ≤ a → a ≤ length l → decode_all dec w n (splice l a v) ≡ decode_all dec w n l
  decode_all_before n l a v h k =
      let e : length (take a l) ≡ a = length-take-le a l k in
      let f : decode_all dec w n (take a l ++ drop a l) ≡ decode_all dec w n (take a l) = decode_all_append n (take a l) (drop a l) (omega arith) in
      rw (splice_of l a v (length v) refl) (decode_all_append n (take a l) (v ++ drop (a + length v) l) (omega arith)) ∙ sym (rw (take-append-drop a l) at f)

  -- an element written behind the last: it is one more
  pub decode_all_snoc : (n : ℕ) (l : List ℕ) (v : List ℕ) → length v ≡ w → n * w ≤ length l
      → decode_all dec w (n + 1) (splice l (n * w) v) ≡ decode_all dec w n l ++ (dec v ∷ [])
  unfolding decode_all part
  decode_all_snoc n l v e k =
      let f : take w (drop (n * w) (splice l (n * w) v)) ≡ v = part_splice l (n * w) w v e k in
      rw (decode_all_add n 1 (splice l (n * w) v), decode_all_before n l (n * w) v (omega arith) k, f)

  -- the same for elements that start at some place of a longer list
  pub get_d_decode_all_part : (n : ℕ) (l : List ℕ) (a i : ℕ) (d : A) → i < n
      → get_or (decode_all dec w n (part l a (n * w))) i d ≡ dec (part l (a + i * w) w)
  get_d_decode_all_part n l a i d h =
      get_d_decode_all n (part l a (n * w)) i d h ∙ ap dec (part_part l a (n * w) (i * w) w (index_in w n i h))

module _ {A : Type 0} (enc : A → List ℕ) (dec : List ℕ → A) (w : ℕ) where
  -- an element of the width that reads back
  abbrev pub ReadsBack : A → Type 0
  ReadsBack x = (length (enc x) ≡ w) × (dec (enc x) ≡ x)

  -- bytes that write back
  abbrev pub WritesBack : List ℕ → Type 0
  WritesBack l = enc (dec l) ≡ l

  -- all that was written reads back, whatever stands behind it
  pub decode_all_encode_all : (n : ℕ) (xs : List A) (rest : List ℕ) → Each ReadsBack xs → length xs ≡ n
      → decode_all dec w n (encode_all enc xs ++ rest) ≡ xs
  unfolding decode_all encode_all
  decode_all_encode_all zero [] rest e g = refl
  decode_all_encode_all zero (x ∷ xs) rest e g = absurd (omega arith)
  decode_all_encode_all (suc n) [] rest e g = absurd (omega arith)
  decode_all_encode_all (suc n) (x ∷ xs) rest e g =
      let q : List ℕ = encode_all enc xs ++ rest in
      let h : ReadsBack x = each_head e in
      rw (append_assoc (enc x) (encode_all enc xs) rest, take_at (enc x) q w h.0, drop_at (enc x) q w h.0, h.1)
      (ap (λ (r : List A). x ∷ r) (decode_all_encode_all n xs rest (each_tail e) (omega arith)))

  pub decode_all_encode_all_all : (n : ℕ) (xs : List A) → Each ReadsBack xs → length xs ≡ n → decode_all dec w n (encode_all enc xs) ≡ xs
  decode_all_encode_all_all n xs e g = rw append-nil at (decode_all_encode_all n xs [] e g)

  -- all that was read writes back
  pub encode_all_decode_all : (n : ℕ) (l : List ℕ) → ((i : ℕ) → i < n → WritesBack (part l (i * w) w))
      → encode_all enc (decode_all dec w n l) ≡ take (n * w) l
  unfolding decode_all encode_all part
  encode_all_decode_all zero l f = rw zero-mul
  encode_all_decode_all (suc n) l f =
      let h : enc (dec (take w l)) ≡ take w l = rw zero-mul at (f 0 (omega arith)) in
      rw (h, next_at n w, take-add w (n * w) l)
      (ap (λ (r : List ℕ). take w l ++ r) (encode_all_decode_all n (drop w l) (λ i b. rw (next_part l i w) (f (suc i) (omega arith)))))

  -- or is written in another way, each element by itself
  pub encode_all_decode_all_by : (f : List ℕ → List ℕ) (n : ℕ) (l : List ℕ) → ((i : ℕ) → i < n → enc (dec (part l (i * w) w)) ≡ f (part l (i * w) w))
      → encode_all enc (decode_all dec w n l) ≡ encode_all f (decode_all (λ r. r) w n l)
  unfolding decode_all encode_all part
  encode_all_decode_all_by f zero l h = refl
  encode_all_decode_all_by f (suc n) l h =
      let e : enc (dec (take w l)) ≡ f (take w l) = rw zero-mul at (h 0 (omega arith)) in
      rw e (ap (λ (r : List ℕ). f (take w l) ++ r) (encode_all_decode_all_by f n (drop w l) (λ i b. rw (next_part l i w) (h (suc i) (omega arith)))))

  pub encode_all_decode_all_all : (n : ℕ) (l : List ℕ) → ((i : ℕ) → i < n → WritesBack (part l (i * w) w)) → length l ≡ n * w
      → encode_all enc (decode_all dec w n l) ≡ l
  encode_all_decode_all_all n l f e = encode_all_decode_all n l f ∙ take_all (n * w) l (omega arith)

  -- an element written at any index reads back
  pub decode_all_write : (n : ℕ) (l : List ℕ) (i : ℕ) (y : A) → ReadsBack y → i < n → n * w ≤ length l
      → decode_all dec w n (splice l (i * w) (enc y)) ≡ set (decode_all dec w n l) i y
  decode_all_write n l i y e h k = rw (decode_all_splice dec w n l i (enc y) e.0 h k, e.1)

-- elements changed before they are written
pub encode_all_map : {A B : Type 0} (enc : B → List ℕ) (f : A → B) (xs : List A) → encode_all enc (map f xs) ≡ encode_all (λ x. enc (f x)) xs
unfolding encode_all
encode_all_map enc f [] = refl
encode_all_map enc f (x ∷ xs) = ap (λ (l : List ℕ). enc (f x) ++ l) (encode_all_map enc f xs)
