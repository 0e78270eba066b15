-- A function of a number by the cases 0, 1 and more: its last case, from two tests that failed. Assumes nothing.
use mathlib.Core.Path.{◌≡◌, refl}
use Prim.Native.Nat.{ℕ, zero, suc}

pub past_one : {A : Type 0} (f : ℕ → A) (a : A) → ((n : ℕ) → a ≡ f (suc (suc n))) → (b : ℕ) → (b ≡ 0 → ⊥) → (b ≡ 1 → ⊥) → a ≡ f b
past_one f a h zero e g = absurd (e refl)
past_one f a h (suc zero) e g = absurd (g refl)
past_one f a h (suc (suc n)) e g = h n
