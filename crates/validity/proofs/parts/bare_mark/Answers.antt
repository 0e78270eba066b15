-- `validity::parts::bare_mark` meets its contract: the law by numbers. Assumes nothing.
use Rattle.std.proofs.Common.{arith}
use Rattle.std.proofs.lemmas.Bool.Decides.{nat_tests}
use Rattle.validity.specs.Words.{bare_number}
use Rattle.validity.proofs.parts.bare_mark.Goals as goal

pub returns-then-mark-shown : goal.returns-then-mark-shown
returns-then-mark-shown c = rw (bare_number c.args.m0 c.args.m1 c.ranges.m0.fits) (grind (arith, nat_tests))

pub returns-else-mark-shown : goal.returns-else-mark-shown
returns-else-mark-shown c = rw (bare_number c.args.m0 c.args.m1 c.ranges.m0.fits) (grind (arith, nat_tests))
