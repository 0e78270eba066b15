-- Elements of one width that a loop writes side by side: none yet, one more, all. Over any element, width and place. Assumes nothing.
use Rattle.std.specs.Prelude.{◌≡◌, length}
use Rattle.std.proofs.Math.Path.{ap}
use Rattle.std.proofs.Common.{◌∙◌, add-suc, suc-add, add-one, arith}
use Prim.Native.Nat.{ℕ, zero, suc, ◌+◌, ◌*◌, ◌≤◌}
use Rattle.std.proofs.Math.Nat.{add-zero, zero-add}
use mathlib.Core.List.{List, [], ◌∷◌, ◌++◌}
use Rattle.model.specs.Definitions.Parts.{splice, encode_all, tabulate_from, tabulate}
use Rattle.model.proofs.Laws.Lists.{length_tabulate, each_tabulate}
use Rattle.model.proofs.Laws.Parts.{length_encode_all, encode_all_snoc, splice_next}
use Rattle.fields.proofs.Splices.{splice_none}

module _ {A : Type 0} where
  tabulate_from_snoc : (i n : ℕ) (f : ℕ → A) → tabulate_from i (suc n) f ≡ tabulate_from i n f ++ (f (i + n) ∷ [])
  unfolding tabulate_from
  tabulate_from_snoc i zero f = rw add-zero
  tabulate_from_snoc i (suc n) f = ap (λ (l : List A). f i ∷ l) (tabulate_from_snoc (suc i) n f ∙ rw (add-suc, suc-add))

  pub tabulate_snoc : (n : ℕ) (f : ℕ → A) → tabulate (suc n) f ≡ tabulate n f ++ (f n ∷ [])
  unfolding tabulate
  tabulate_snoc n f = tabulate_from_snoc 0 n f ∙ rw zero-add

-- `f i` is written by `enc` and `w` bytes wide
module _ {A : Type 0} (enc : A → List ℕ) (w : ℕ) (f : ℕ → A) (wide : (i : ℕ) → length (enc (f i)) ≡ w) where
  pub all_next : (i : ℕ) → encode_all enc (tabulate (suc i) f) ≡ encode_all enc (tabulate i f) ++ enc (f i)
  all_next i = rw (tabulate_snoc i f) (encode_all_snoc enc w (tabulate i f) (f i))

  pub all_length : (i : ℕ) → length (encode_all enc (tabulate i f)) ≡ i * w
  all_length i = length_encode_all enc w (tabulate i f) (each_tabulate i f wide) ∙ ap (λ (n : ℕ). n * w) (length_tabulate i f)

  -- the loop's invariant, where it begins and after a turn
  pub none_written : (l : List ℕ) (a : ℕ) → l ≡ splice l a (encode_all enc (tabulate 0 f))
  unfolding encode_all tabulate tabulate_from
  none_written l a = splice_none l a

  pub one_more : (l₀ l : List ℕ) (a i : ℕ) → a ≤ length l₀ → l ≡ splice l₀ a (encode_all enc (tabulate i f))
      → splice l (a + i * w) (enc (f i)) ≡ splice l₀ a (encode_all enc (tabulate (i + 1) f))
  one_more l₀ l a i h e =
      let n : length (encode_all enc (tabulate i f)) ≡ i * w = all_length i in
      rw (e, add-one i, all_next i) (splice_next l₀ a (a + i * w) (encode_all enc (tabulate i f)) (enc (f i)) (omega arith) h)
