-- `validity::slots::block_clean` meets its contract: each return follows the tests in turn. Assumes nothing.
use Rattle.std.proofs.Common.{rules, tests, arith}
use Rattle.std.proofs.lemmas.Bool.Decides.{nat_tests}
use Rattle.model.specs.Definitions.Layout.{today}
use Rattle.model.specs.Definitions.Check.{block_clean}
use Rattle.validity.specs.Search.{few_volatile}
use Rattle.validity.proofs.slots.block_clean.Goals as goal

pub rest_zero-requires : goal.rest_zero-requires
unfolding block_clean
rest_zero-requires c = (omega arith, omega (arith, c.volatile_count-count.ensures, few_volatile today c.args.pages c.args.block.now c.requires.2))

pub returns-then-area_rest_zero : goal.returns-then-area_rest_zero
unfolding block_clean
returns-then-area_rest_zero c = grind (arith, nat_tests)

pub returns-else-area_rest_zero : goal.returns-else-area_rest_zero
unfolding block_clean
returns-else-area_rest_zero c = search (rules, tests)
