-- What a call answers, as the contracts say it: an answer with its stores, the bytes left and the bytes read, beside the result of the definitions.
-- Assumes nothing.
use Rattle.std.specs.Prelude.{◌≡◌, ℕ, ◌+◌, Bool, true, false, List, Result, Ok, Err}
use Rattle.std.proofs.Math.Option.{Option, none, some}
use Rattle.types.specs.declared.Answer.{Answer}
use Rattle.types.specs.declared.Answer.TheVariants.{Done, PowerLost}
use Rattle.types.specs.declared.Outcome.{Outcome}
use Rattle.model.specs.Definitions.Answers.{code, value}
use Rattle.model.specs.Definitions.Codec.{encode}
use Rattle.model.specs.Definitions.Steps.{Access}
use Rattle.model.specs.Definitions.Calls as calls
use Rattle.model.specs.History.Statement.{bytes_seen}
use Rattle.model.specs.Likeness.{on_value}

-- bytes, stores and answer are those of the result, where n stores were made before, but that a value is 0 here; a done access has read its bytes
pub record Answered (a : Access) (s : List ℕ) (o : Outcome) (n : ℕ) (t : calls.Result) (out : List ℕ) : Type 0 where
  pub bytes : s ≡ encode t.run.bank
  pub answer : o.answer ≡ on_value (λ v. 0) t.answer
  pub stores : n + o.stores ≡ t.run.stores
  pub read : code t.answer ≡ 0 → out ≡ bytes_seen a (value t.answer) t.given

-- the first test that holds, if one does
abbrev pub refusal : Result (Unit {0}) Answer → Option Answer
refusal (Ok u) = none
refusal (Err a) = some a

-- a call's answer after stores of board b alone
unfoldable pub ended_as : ℕ → ℕ → Bool → Answer
ended_as v b t = elim t [ true ↦ PowerLost b | false ↦ Done v ]
