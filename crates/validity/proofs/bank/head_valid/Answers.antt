-- `validity::bank::head_valid` meets its contract: each return follows the tests in turn. Assumes nothing.
use Rattle.std.proofs.Common.{rules, tests, arith}
use Rattle.std.proofs.lemmas.Bool.Decides.{nat_tests}
use Rattle.model.specs.Definitions.Parts.{byte_at}
use Rattle.validity.specs.Order.{head_test, no_head}
use Rattle.validity.proofs.bank.head_valid.Goals as goal

pub returns-then-bank-lt-HEAD_SIZE : goal.returns-then-bank-lt-HEAD_SIZE
returns-then-bank-lt-HEAD_SIZE c = no_head _ c.args.bank.now c.if-bank-lt-HEAD_SIZE.true

pub returns-then-in_range-2 : goal.returns-then-in_range-2
unfolding byte_at
returns-then-in_range-2 c = rw head_test (grind (arith, nat_tests))

pub returns-else-in_range-2 : goal.returns-else-in_range-2
unfolding byte_at
returns-else-in_range-2 c = rw head_test (search (rules, tests))
