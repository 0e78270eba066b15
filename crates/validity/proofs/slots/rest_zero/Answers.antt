-- `validity::slots::rest_zero` meets its contract: a log without records is one run, and so is what stands behind them. Assumes nothing.
use native.Mathlib.Nat.{add-zero}
use Rattle.model.specs.Definitions.Check.{rest_zero}
use Rattle.validity.proofs.slots.rest_zero.Goals as goal

pub returns-then-count-eq0 : goal.returns-then-count-eq0
unfolding rest_zero
returns-then-count-eq0 c = rw (c.if-count-eq0.true, add-zero) c.zero_run.ensures

pub returns : goal.returns
unfolding rest_zero
returns c = c.zero_run-2.ensures
