-- `comparison::naming::of_kind` meets its contract: each arm is a case of the definition. Assumes nothing.
use native.Mathlib.Omega.{arith}
use Rattle.std.proofs.lemmas.Grind.{common_steps}
use Rattle.model.specs.Definitions.WellFormed.{is_got}
use Rattle.model.specs.Definitions.Logs.{is_shown}
use Rattle.comparison.proofs.naming.of_kind.Goals as goal

pub returns-in-Got : goal.returns-in-Got
unfolding is_got is_shown
returns-in-Got c = let h = c.eq.ensures in grind (arith, common_steps)

pub returns-in-Shown : goal.returns-in-Shown
unfolding is_got is_shown
returns-in-Shown c = let h = c.eq-in-Shown.ensures in grind (arith, common_steps)

pub returns-in-Dropped : goal.returns-in-Dropped
unfolding is_got is_shown
returns-in-Dropped c = grind (arith, common_steps)
