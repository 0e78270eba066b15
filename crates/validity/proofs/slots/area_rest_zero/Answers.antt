-- `validity::slots::area_rest_zero` meets its contract: an area's slots stand inside the block, and its count is at most 32. Assumes nothing.
use native.Mathlib.Omega.{arith}
use Rattle.model.specs.Definitions.Layout.{today}
use Rattle.model.proofs.Laws.CodecBack.{area_inside}
use Rattle.validity.specs.Search.{few_stored}
use Rattle.validity.proofs.slots.area_rest_zero.Goals as goal

pub overflow_add-at : goal.overflow_add-at
overflow_add-at c =
    omega (arith, area_inside today c.args.pages c.args.area c.requires.1)

pub rest_zero-requires : goal.rest_zero-requires
rest_zero-requires c =
    let few = few_stored today c.args.pages c.args.block.now c.requires.0.2 c.args.area c.requires.1 in
    (omega (arith, area_inside today c.args.pages c.args.area c.requires.1), omega (arith, c.area_count.ensures, few))

pub returns : goal.returns
returns c =
    rw (
      c.rest_zero.ensures,
      c.area_count.ensures.0,
      c.area_slots_at.ensures,
      c.area_at.ensures,
    )
