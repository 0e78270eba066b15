-- `copies::boards::drop_right` meets its contract: the record, then the empty frame. Assumes nothing.
use native.Mathlib.Omega.{arith}
use mathlib.Core.Path.{refl, ap}
use Prim.Native.Nat.{ℕ, ◌<◌}
use lib.ListN.{length}
use Rattle.types.specs.declared.Frame.{Frame}
use Rattle.types.specs.declared.Kind.TheVariants.{Dropped}
use Rattle.model.specs.Definitions.Parts.{zeros}
use Rattle.model.specs.Definitions.Layout.{page_size, byte_values}
use Rattle.model.specs.Definitions.Bank.{empty_frame}
use Rattle.model.specs.Definitions.Codec.{page_of}
use Rattle.model.specs.Definitions.WellFormed.{is_got}
use Rattle.model.specs.Definitions.Steps.{dropped}
use Rattle.model.specs.Clauses.{Recordable}
use Rattle.model.proofs.Laws.Valid.{recordable_plain}
use Rattle.copies.specs.Blocks.{recorded_block, recorded_frame}
use Rattle.copies.proofs.boards.drop_right.Goals as goal

drop_recordable : {pages p w : ℕ} → p < pages → w < byte_values → Recordable pages (Dropped p) w (zeros page_size)
unfolding page_of is_got
drop_recordable {p = p} h i = recordable_plain (Dropped p) refl h i

pub record-requires : goal.record-requires
unfolding zeros
record-requires c = (c.requires.0, c.requires.1, drop_recordable c.requires.2 (omega arith))

pub set_frame-requires : goal.set_frame-requires
unfolding zeros empty_frame
set_frame-requires c = (
  recorded_block _ _ _ c.requires.0 c.requires.1 (drop_recordable c.requires.2 (omega arith)) c.record.ensures,
  c.requires.2,
  ap (λ (f : Frame). length f.bytes) c.empty_frame.ensures,
)

pub returns : goal.returns
unfolding dropped zeros
returns c =
    rw c.empty_frame.ensures at
    (recorded_frame _ _ _ c.requires.0 c.requires.1 (drop_recordable c.requires.2 (omega arith))
    c.record.ensures c.args.page _ _ c.set_frame.ensures)
