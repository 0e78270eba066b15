-- `fresh::block::write_own` meets its contract: three bytes. Assumes nothing.
use Rattle.fresh.specs.Block.{owned_made}
use Rattle.fresh.proofs.block.write_own.Goals as goal

pub returns : goal.returns
returns c =
    owned_made _ _ _ c.from-own.ensures c.put.ensures
    c.area_at.ensures c.put-2.ensures c.area_at-2.ensures c.put-3.ensures
