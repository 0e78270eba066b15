-- The word in which the contracts of the calls are said: what a call answers and leaves. Assumes nothing.
use Rattle.std.specs.Prelude.{◌≡◌, ℕ, List}
use Rattle.types.specs.declared.Outcome.{Outcome}
use Rattle.model.specs.Definitions.Calls.{Reply}

-- an outcome and the bytes left are those of a definition's reply
abbrev pub Replied : Reply → Outcome → List ℕ → Type 0
Replied y o s = (o ≡ y.outcome) × (s ≡ y.bytes)
