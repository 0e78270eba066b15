-- `validity::parts::got_mark` meets its contract: each return follows the definition's tests. Assumes nothing.
use Rattle.std.proofs.Common.{arith}
use Rattle.std.proofs.lemmas.Bool.Decides.{nat_tests}
use Rattle.model.specs.Definitions.Check.{got_mark}
use Rattle.validity.proofs.parts.got_mark.Goals as goal

pub returns-in-67 : goal.returns-in-67
unfolding got_mark
returns-in-67 c = grind (arith, nat_tests)

pub returns-in_default : goal.returns-in_default
unfolding got_mark
returns-in_default c = grind (arith, nat_tests)

pub returns-else-m0-eq-GOT_MARK0 : goal.returns-else-m0-eq-GOT_MARK0
unfolding got_mark
returns-else-m0-eq-GOT_MARK0 c = grind (arith, nat_tests)
