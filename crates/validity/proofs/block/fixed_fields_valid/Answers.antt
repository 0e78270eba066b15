-- `validity::block::fixed_fields_valid` meets its contract: each return follows the tests in turn. Assumes nothing.
use Rattle.std.proofs.Common.{rules, tests, arith}
use Rattle.std.proofs.lemmas.Bool.Decides.{nat_tests}
use Rattle.model.specs.Definitions.Parts.{byte_at}
use Rattle.model.specs.Definitions.Codec.{selector_byte}
use Rattle.validity.specs.Pieces.{fixed_fields_valid}
use Rattle.validity.proofs.block.fixed_fields_valid.Goals as goal

pub returns-then-block-le-SECOND_AREA : goal.returns-then-block-le-SECOND_AREA
unfolding fixed_fields_valid selector_byte byte_at
returns-then-block-le-SECOND_AREA c = grind (arith, nat_tests)

pub returns-else-block-le-SECOND_AREA : goal.returns-else-block-le-SECOND_AREA
unfolding fixed_fields_valid selector_byte byte_at
returns-else-block-le-SECOND_AREA c = search (rules, tests)
