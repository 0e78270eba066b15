-- `accesses::outcome::ended` meets its contract. Assumes nothing.
use Rattle.accesses.specs.Results.{ended_as}
use mathlib.Core.Path.{refl}
use Rattle.accesses.proofs.outcome.ended.Goals as goal

pub returns-in-Ok : goal.returns-in-Ok
unfolding ended_as
returns-in-Ok c = rw c.in-Ok.is (refl, refl)

pub returns-in-Err : goal.returns-in-Err
unfolding ended_as
returns-in-Err c = rw c.in-Err.is (refl, refl)
