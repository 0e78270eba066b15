-- `validity::block::selected_count` meets its contract: the selector names an area. Assumes nothing.
use Rattle.std.proofs.Common.{arith}
use Rattle.std.proofs.lemmas.Bool.Decides.{nat_tests}
use Rattle.model.specs.Definitions.Parts.{byte_at}
use Rattle.model.specs.Definitions.Codec.{selector_byte}
use Rattle.model.specs.Definitions.Check.{selected_count}
use Rattle.validity.proofs.block.selected_count.Goals as goal

pub returns-then-block-eq-SECOND_AREA : goal.returns-then-block-eq-SECOND_AREA
unfolding selected_count selector_byte byte_at
returns-then-block-eq-SECOND_AREA c = grind (arith, nat_tests)

pub returns-else-block-eq-SECOND_AREA : goal.returns-else-block-eq-SECOND_AREA
unfolding selected_count selector_byte byte_at
returns-else-block-eq-SECOND_AREA c = grind (arith, nat_tests)
