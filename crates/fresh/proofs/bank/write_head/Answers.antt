-- `fresh::bank::write_head` meets its contract: four bytes side by side. Assumes nothing.
use Rattle.fresh.specs.Fresh.{head_made}
use Rattle.fresh.proofs.bank.write_head.Goals as goal

pub returns : goal.returns
returns c = head_made
    _ _ _ c.requires
    c.put.ensures
    c.put-2.ensures
    c.put-3.ensures c.put-4.ensures
