-- A list whose every element satisfies a predicate, and lists of bytes. Assumes nothing.
use Rattle.std.specs.Prelude.{ℕ, ◌<◌, List, [], ◌∷◌}

pub data Each {A : Type 0} (P : A → Type 0) : List A → Type 0 where
  each_nil : Each P []
  each_cons : {x : A} {xs : List A} → P x → Each P xs → Each P (x ∷ xs)

-- a byte is below 256
abbrev pub Bytes : List ℕ → Type 0
Bytes l = Each (λ b. b < 256) l
