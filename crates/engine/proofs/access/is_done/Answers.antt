-- `engine::access::is_done` meets its contract: code 0 of the row of numbers. Assumes nothing.
use mathlib.Core.Path.{ap}
use lib.Dec.{eqb}
use Rattle.types.specs.declared.AnswerNumbers.{AnswerNumbers}
use Rattle.model.specs.Definitions.Answers.{code}
use Rattle.engine.proofs.access.is_done.Goals as goal

pub returns : goal.returns
unfolding code
returns c = ap (λ (n : AnswerNumbers). eqb n.code 0) c.numbers_of.ensures
