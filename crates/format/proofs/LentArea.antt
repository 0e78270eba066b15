-- What the borrow checker says of an area that was lent to a call, in the definitions' words. Assumes nothing.
use mathlib.Core.Path.{◌≡◌, ◌∙◌}
use Prim.Native.Nat.{ℕ, ◌+◌, ◌-◌, ◌≤◌}
use mathlib.Core.List.{List, ◌++◌}
use lib.ListN.{length, take, drop}
use Rattle.model.specs.Definitions.Parts.{part}
use Rattle.fields.proofs.Lent.{lent_read, lent_written}
use Rattle.format.specs.Areas.{with_part}

module _ (l : List ℕ) (a n a' n' : ℕ) (p : a ≡ a') (q : n ≡ n') where
  -- lent as `&`: the answer is that of the area
  pub lent_area_read : {X : Type 0} (f : List ℕ → X) (r : X) → r ≡ f (take (a + n - a) (drop a l)) → r ≡ f (part l a' n')
  lent_area_read f r g = lent_read l a n f r g ∙ rw (p, q)

  -- lent as `&mut`: only the area has changed
  pub lent_area_written : (ys : List ℕ) (f : List ℕ → List ℕ) → a + n ≤ length l
      → length ys ≡ length (take (a + n - a) (drop a l)) → ys ≡ f (take (a + n - a) (drop a l))
      → take a l ++ (ys ++ drop (a + n - a) (drop a l)) ≡ with_part a' n' f l
  unfolding with_part
  lent_area_written ys f h k g = lent_written l ys a n f h k g ∙ rw (p, q)
