-- `format::spare::store_head` meets its contract: the spare area is lent. Assumes nothing.
use native.Mathlib.Omega.{arith}
use Rattle.format.specs.Areas.{head_stored}
use Rattle.format.proofs.LentArea.{lent_area_written}
use Rattle.format.proofs.spare.store_head.Goals as goal

pub returns : goal.returns
returns c =
    let wrote = c.store_head in
    lent_area_written c.args.block.now _ _ _ _ c.spare_at-a.ensures.place
    c.area_size-size.ensures
    wrote.new.area (head_stored c.args.pages c.args.number)
    (omega arith) wrote.auto.area wrote.ensures
