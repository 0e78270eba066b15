-- `validity::block::area_count` meets its contract: the count stands in its area, inside the block. Assumes nothing.
use native.Mathlib.Omega.{arith}
use Rattle.model.specs.Definitions.Layout.{form_of}
use Rattle.model.specs.Definitions.Parts.{byte_at}
use Rattle.model.specs.Definitions.Check.{area_count}
use Rattle.model.proofs.Laws.CodecBack.{area_inside}
use Rattle.validity.proofs.block.area_count.Goals as goal

pub overflow_add-area_at_in : goal.overflow_add-area_at_in
overflow_add-area_at_in c =
    omega (arith, area_inside (form_of c.args.since) c.args.pages c.args.area c.requires.1)

pub bounds-block-area_at_in : goal.bounds-block-area_at_in
bounds-block-area_at_in c =
    omega (arith, area_inside (form_of c.args.since) c.args.pages c.args.area c.requires.1)

pub returns : goal.returns
unfolding area_count byte_at
returns c = (rw (c.from.ensures, c.area_at_in.ensures), omega arith)
