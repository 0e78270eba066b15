-- `copies::boards::take_copy` meets its contract: the record, then the frame. Assumes nothing.
use native.Mathlib.Omega.{arith}
use Rattle.types.specs.declared.CopyOrOwn.TheVariants.{GotCopy}
use Rattle.model.proofs.Laws.Boards.{took_copy}
use Rattle.model.proofs.Laws.Valid.{recordable_got}
use Rattle.copies.specs.Blocks.{recorded_block, recorded_frame}
use Rattle.copies.proofs.boards.take_copy.Goals as goal

pub record-requires : goal.record-requires
record-requires c =
    (c.requires.0, c.requires.1, recordable_got GotCopy c.requires.3 c.requires.2 (omega arith))

pub set_frame-requires : goal.set_frame-requires
set_frame-requires c = (
  recorded_block _ _ _ c.requires.0 c.requires.1 (recordable_got GotCopy c.requires.3 c.requires.2 (omega arith))
      c.record.ensures,
  c.requires.2,
  c.requires.3.size,
)

pub returns : goal.returns
unfolding took_copy
returns c =
    recorded_frame _ _ _ c.requires.0 c.requires.1 (recordable_got GotCopy c.requires.3 c.requires.2 (omega arith))
    c.record.ensures _ _ _ c.set_frame.ensures
