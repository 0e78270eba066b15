-- The word in which the contracts of the calls for C are said: what a call answers and leaves, its answer in one number. Assumes nothing.
use Rattle.std.specs.Prelude.{◌≡◌, ℕ, List}
use Rattle.std.proofs.Common.{ap, subst, ◌∙◌}
use Rattle.types.specs.declared.Outcome.{Outcome}
use Rattle.model.specs.Definitions.Calls.{Reply}
use Rattle.answers.specs.Packed.{packed, ReadBack}
use Rattle.engine.specs.Clauses.{Replied}

-- the number is that of the reply's outcome, its four fields are read back, and the bytes left are the reply's
pub record RepliedPacked (y : Reply) (r : ℕ) (s : List ℕ) : Type 0 where
  pub number : r ≡ packed y.outcome
  pub fields : ReadBack r y.outcome
  pub bytes : s ≡ y.bytes

pub replied_packed : {y : Reply} {o : Outcome} {r : ℕ} {s : List ℕ} → Replied y o s → (r ≡ packed o) × ReadBack r o → RepliedPacked y r s
replied_packed {r = r} h e = record { number = e.0 ∙ ap packed h.0; fields = subst (ReadBack r) h.0 e.1; bytes = h.1 }
