-- `accesses::need::holder_need` meets its contract. Assumes nothing.
use Rattle.accesses.specs.Needs.{held_one, held_none}
use mathlib.Core.Path.{sym, ◌∙◌}
use Rattle.accesses.proofs.need.holder_need.Goals as goal

pub returns-then-has-clause-need : goal.returns-then-has-clause-need
returns-then-has-clause-need c = held_one _ _ (sym c.has.ensures ∙ c.if-has.true)

pub returns-else-has-clause-need : goal.returns-else-has-clause-need
returns-else-has-clause-need c = held_none _ _ (sym c.has.ensures ∙ c.if-has.false)
