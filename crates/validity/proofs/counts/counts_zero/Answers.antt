-- `validity::counts::counts_zero` meets its contract: each return follows the tests in turn. Assumes nothing.
use Rattle.std.proofs.Common.{rules, tests, arith}
use Rattle.std.proofs.lemmas.Bool.Decides.{nat_tests}
use Rattle.model.specs.Clauses.{counts_zero}
use Rattle.validity.proofs.counts.counts_zero.Goals as goal

pub returns-then-area_count-eq0 : goal.returns-then-area_count-eq0
unfolding counts_zero
returns-then-area_count-eq0 c = grind (arith, nat_tests)

pub returns-else-area_count-eq0 : goal.returns-else-area_count-eq0
unfolding counts_zero
returns-else-area_count-eq0 c = search (rules, tests)
