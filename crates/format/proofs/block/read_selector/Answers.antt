-- `format::block::read_selector` meets its contract. Assumes nothing.
use Rattle.model.specs.Definitions.Codec.{selector_byte}
use Rattle.format.proofs.block.read_selector.Goals as goal

pub returns : goal.returns
unfolding selector_byte
returns c = rw c.get.ensures
