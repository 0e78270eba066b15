-- `validity::block::volatile_count` meets its contract. Assumes nothing.
use native.Mathlib.Omega.{arith}
use Rattle.model.specs.Definitions.Parts.{byte_at}
use Rattle.validity.proofs.block.volatile_count.Goals as goal

pub returns : goal.returns
unfolding byte_at
returns c = (rw (c.from.ensures, c.volatile_count_at_in.ensures), omega arith)
