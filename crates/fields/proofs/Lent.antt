-- What the borrow checker says of a part `&s[a..a + n]` that was lent to a call, in the definitions' words. Assumes nothing.
use mathlib.Core.Path.{◌≡◌, ◌∙◌}
use Prim.Native.Nat.{ℕ, ◌+◌, ◌-◌, ◌≤◌}
use native.Mathlib.Omega.{arith}
use mathlib.Core.List.{List, ◌++◌}
use lib.ListN.{length, take, drop, length-take, length-drop}
use lib.Seq.{drop-drop}
use Rattle.model.specs.Definitions.Parts.{part, splice, zeros}
use Rattle.model.proofs.Laws.Parts.{length_part}

module _ {A : Type 0} where
  -- what is lent is the part
  pub lent_part : (l : List A) (a n : ℕ) → take (a + n - a) (drop a l) ≡ part l a n
  unfolding part
  lent_part l a n = let e : a + n - a ≡ n = omega arith in rw e

  -- lent as `&`: the callee's answer is that of the part
  pub lent_read : {X : Type 0} (l : List A) (a n : ℕ) (f : List A → X) (r : X) → r ≡ f (take (a + n - a) (drop a l)) → r ≡ f (part l a n)
  unfolding part
  lent_read l a n f r p = let e : a + n - a ≡ n = omega arith in rw e at p

  -- lent as `&mut`: what the callee left in the part stands in the whole, and the rest is as it was
  pub lent_written : (l ys : List A) (a n : ℕ) (f : List A → List A) → a + n ≤ length l
      → length ys ≡ length (take (a + n - a) (drop a l)) → ys ≡ f (take (a + n - a) (drop a l))
      → take a l ++ (ys ++ drop (a + n - a) (drop a l)) ≡ splice l a (f (part l a n))
  unfolding part splice
  lent_written l ys a n f h k p =
      let e : a + n - a ≡ n = omega arith in
      let p' : ys ≡ f (take n (drop a l)) = rw e at p in
      let g : length ys ≡ n = omega (arith, simp (length-take, length-drop) at k) in
      rw (e, ← p', g, drop-drop n a l)

-- a part lent to be cleared
pub lent_cleared : (l ys : List ℕ) (a n : ℕ) → a + n ≤ length l → length ys ≡ length (take (a + n - a) (drop a l))
    → ys ≡ zeros (length (take (a + n - a) (drop a l))) → take a l ++ (ys ++ drop (a + n - a) (drop a l)) ≡ splice l a (zeros n)
lent_cleared l ys a n h k p = lent_written l ys a n (λ x. zeros (length x)) h k p ∙ rw (length_part l a n h)
