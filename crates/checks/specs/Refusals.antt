-- What a refusal answers. Assumes nothing.
use Rattle.std.specs.Prelude.{Result, Ok, Err}
use Rattle.types.specs.declared.Answer.{Answer}
use Rattle.types.specs.declared.Answer.TheVariants.{Malformed, OutOfRange, WrongState, CountersFull, ReplayDiffers, WrongCells, HasRecords, SameBoard}
use Rattle.types.specs.declared.Outcome.{Outcome}
use Rattle.checks.specs.declared.refusal.Refusal.{Refusal}
use Rattle.checks.specs.declared.refusal.Refusal.TheVariants as by

-- document 01's codes 1 to 5, and document 02's 10 to 12
abbrev pub refusal_answer : Refusal → Answer
refusal_answer by.Malformed = Malformed
refusal_answer by.OutOfRange = OutOfRange
refusal_answer (by.WrongState b) = WrongState b
refusal_answer (by.CountersFull b) = CountersFull b
refusal_answer (by.ReplayDiffers b) = ReplayDiffers b
refusal_answer by.WrongCells = WrongCells
refusal_answer by.HasRecords = HasRecords
refusal_answer by.SameBoard = SameBoard

-- a refusal makes no store
abbrev pub outcome_of : Result Outcome Refusal → Outcome
outcome_of (Ok o) = o
outcome_of (Err r) = record { answer = refusal_answer r; stores = 0 }
