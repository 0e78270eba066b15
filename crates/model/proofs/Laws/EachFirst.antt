-- A change of every element as a loop: the first n elements done, one more with each step. Over any element type. Assumes nothing.
use Rattle.std.specs.Prelude.{◌≡◌, get_or}
use Rattle.std.proofs.Math.Path.{refl, ap}
use Rattle.std.proofs.Common.{sym, ◌∙◌, arith, ext_get_or}
use Prim.Native.Nat.{ℕ, zero, suc, ◌≤◌, ◌<◌}
use mathlib.Core.List.{List, [], ◌∷◌, map}
use Rattle.std.proofs.Math.ListN.{length}
use Rattle.model.specs.Definitions.Parts.{update, each_from, each}
use Rattle.model.proofs.Laws.Logic.{by_eq}
use Rattle.model.proofs.Laws.Lists.{length_update, get_d_update_same, get_d_update_other, length_each, get_d_each}

module _ {A : Type 0} where
  unfoldable pub each_first : ℕ → (ℕ → A → A) → List A → List A
  each_first zero f xs = xs
  each_first (suc n) f xs = update n (f n) (each_first n f xs)

  pub length_each_first : (n : ℕ) (f : ℕ → A → A) (xs : List A) → length (each_first n f xs) ≡ length xs
  unfolding each_first
  length_each_first zero f xs = refl
  length_each_first (suc n) f xs = length_update n (f n) (each_first n f xs) ∙ length_each_first n f xs

  -- those from n on wait
  pub each_first_waits : (n i : ℕ) (f : ℕ → A → A) (xs : List A) (d : A) → n ≤ i → get_or (each_first n f xs) i d ≡ get_or xs i d
  unfolding each_first
  each_first_waits zero i f xs d h = refl
  each_first_waits (suc n) i f xs d h =
      get_d_update_other n i (f n) (each_first n f xs) d (λ e. absurd (omega arith)) ∙ each_first_waits n i f xs d (omega arith)

  -- those below n are done
  pub each_first_done : (n i : ℕ) (f : ℕ → A → A) (xs : List A) (d : A) → i < n → i < length xs → get_or (each_first n f xs) i d ≡ f i (get_or xs i d)
  unfolding each_first
  each_first_done zero i f xs d h l = absurd (omega arith)
  each_first_done (suc n) i f xs d h l =
      by_eq i n
      (λ e.
      let m : n < length (each_first n f xs) = rw (length_each_first n f xs) (omega arith) in
      rw e (get_d_update_same n (f n) (each_first n f xs) d m ∙ ap (f n) (each_first_waits n n f xs d (omega arith))))
      (λ ne. get_d_update_other n i (f n) (each_first n f xs) d ne ∙ each_first_done n i f xs d (omega arith) l)

  -- after the last one all are done
  pub each_first_all : (n : ℕ) (f : ℕ → A → A) (xs : List A) (d : A) → length xs ≤ n → each_first n f xs ≡ each f xs
  each_first_all n f xs d h =
      let m : length (each_first n f xs) ≡ length xs = length_each_first n f xs in
      ext_get_or d (each_first n f xs) (each f xs) (m ∙ sym (length_each f xs))
      (λ i l. each_first_done n i f xs d (omega arith) (omega arith) ∙ sym (get_d_each i f xs d (omega arith)))

  -- one change for all
  each_same : (i : ℕ) (g : A → A) (xs : List A) → each_from i (λ j. g) xs ≡ map g xs
  unfolding each_from
  each_same i g [] = refl
  each_same i g (x ∷ xs) = ap (λ (l : List A). g x ∷ l) (each_same (suc i) g xs)

  pub each_as_map : (g : A → A) (xs : List A) → each (λ j. g) xs ≡ map g xs
  unfolding each
  each_as_map g xs = each_same 0 g xs

  -- a change that changes nothing
  pub update_same : (i : ℕ) (xs : List A) → update i (λ x. x) xs ≡ xs
  unfolding update
  update_same i [] = refl
  update_same zero (x ∷ xs) = refl
  update_same (suc i) (x ∷ xs) = ap (λ (l : List A). x ∷ l) (update_same i xs)
