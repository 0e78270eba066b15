-- `validity::block::area_frames_at` meets its contract: the frames stand inside their area. Assumes nothing.
use native.Mathlib.Omega.{arith}
use Rattle.model.specs.Definitions.Layout.{form_of}
use Rattle.model.proofs.Laws.CodecBack.{area_inside}
use Rattle.validity.proofs.block.area_frames_at.Goals as goal

pub overflow_add-result : goal.overflow_add-result
overflow_add-result c =
    omega (arith, area_inside (form_of c.args.since) c.args.pages c.args.area c.requires.2)
