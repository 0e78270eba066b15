-- A walk over the indices below n that pass a test: what is left of it from index i on. Assumes nothing.
use Rattle.std.specs.Prelude.{◌≡◌, Bool, true, false, List, [], ◌∷◌}
use Prim.Native.Nat.{ℕ, suc, ◌+◌, ◌-◌, ◌≤◌, ◌<◌}
use native.Mathlib.Omega.{arith}
use Rattle.words.specs.Bytes.{Each}
use Rattle.model.specs.Definitions.Parts.{all_from, all_below}
use Rattle.model.proofs.Laws.Below.{rising_each, all_from_rising}

module _ (f : ℕ → Bool) (n : ℕ) where
  -- the indices from i on that pass the test
  abbrev pub left : ℕ → List ℕ
  left i = all_from i (n - i) f

  pub left_all : left 0 ≡ all_below n f
  unfolding all_below
  left_all = let e : n - 0 ≡ n = omega arith in rw e

  pub left_none : (i : ℕ) → n ≤ i → left i ≡ []
  unfolding all_from
  left_none i h = let e : n - i ≡ 0 = omega arith in rw e

  pub left_next : (i : ℕ) → i < n → f i ≡ true → left i ≡ i ∷ left (i + 1)
  unfolding all_from
  left_next i h t =
      let m : n - i ≡ suc (n - suc i) = omega arith in
      let q : i + 1 ≡ suc i = omega arith in
      rw (q, m) cc

  pub left_skip : (i : ℕ) → i < n → f i ≡ false → left i ≡ left (i + 1)
  unfolding all_from
  left_skip i h t =
      let m : n - i ≡ suc (n - suc i) = omega arith in
      let q : i + 1 ≡ suc i = omega arith in
      rw (q, m) cc

  -- none of them is below i
  pub left_above : (i : ℕ) → Each (λ p. i ≤ p) (left i)
  left_above i = rising_each i (left i) (all_from_rising f i (n - i))
