-- `validity::parts::zero_run` meets its contract. The loop's invariant: no bit is set where the bytes before `b` are zero. Assumes nothing.
use mathlib.Core.Path.{◌≡◌}
use lib.Dec.{eqb}
use Rattle.model.specs.Definitions.Parts.{part}
use Rattle.model.specs.Definitions.Check.{is_zero}
use Rattle.validity.proofs.parts.zero_run.Given as goal

abbrev pub invariant-loop-b : goal.invariant-loop-b
invariant-loop-b l = eqb l.bits 0 ≡ is_zero (part l.s l.at l.b-index)
