-- `validity::block::blank_fields` meets its contract: each return follows the tests in turn. Assumes nothing.
use Rattle.std.proofs.Common.{rules, tests, arith}
use Rattle.std.proofs.lemmas.Bool.Decides.{nat_tests}
use Rattle.model.specs.Definitions.Layout.{since_at}
use Rattle.model.specs.Definitions.Parts.{part}
use Rattle.validity.specs.Pieces.{blank_fields}
use Rattle.validity.specs.Words.{number_zero}
use Rattle.validity.proofs.block.blank_fields.Goals as goal

pub returns-then-volatile_count-eq0 : goal.returns-then-volatile_count-eq0
unfolding blank_fields
returns-then-volatile_count-eq0 c = rw (number_zero (part c.args.block.now since_at c.args.since)) (grind (arith, nat_tests))

pub returns-else-volatile_count-eq0 : goal.returns-else-volatile_count-eq0
unfolding blank_fields
returns-else-volatile_count-eq0 c = rw (number_zero (part c.args.block.now since_at c.args.since)) (search (rules, tests))
