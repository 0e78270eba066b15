-- `validity::block::counts_valid` meets its contract: each return follows the tests in turn. Assumes nothing.
use Rattle.std.proofs.Common.{rules, tests, arith}
use Rattle.std.proofs.lemmas.Bool.Decides.{nat_tests}
use Rattle.model.specs.Definitions.Check.{counts_valid}
use Rattle.validity.proofs.block.counts_valid.Goals as goal

pub returns-then-area_count-le-SLOT_COUNT : goal.returns-then-area_count-le-SLOT_COUNT
unfolding counts_valid
returns-then-area_count-le-SLOT_COUNT c = grind (arith, nat_tests)

pub returns-else-area_count-le-SLOT_COUNT : goal.returns-else-area_count-le-SLOT_COUNT
unfolding counts_valid
returns-else-area_count-le-SLOT_COUNT c = search (rules, tests)
