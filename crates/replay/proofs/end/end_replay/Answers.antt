-- `replay::end::end_replay` meets its contract: the rights settled, then a checkpoint. Assumes nothing.
use Rattle.steps.specs.BlockLaws.{board_written, block_written}
use Rattle.steps.specs.Blocks.{board_of}
use Rattle.model.specs.Definitions.Replay.{settled}
use Rattle.model.specs.Definitions.WellFormed.{FieldsOk}
use Rattle.model.specs.Definitions.Parts.{member}
use Rattle.model.proofs.Laws.BoardFields.{settled_fields}
use Rattle.replay.proofs.end.end_replay.Goals.{Start}
use Rattle.replay.proofs.end.end_replay.Goals as goal

after_fields : (c : Start) → FieldsOk c.args.pages (settled (λ p. member p c.args.owned) (board_of c.args.pages c.args.block.now))
after_fields c = settled_fields c.requires.fields (λ p. member p c.args.owned)

pub checkpoint-requires : goal.checkpoint-requires
checkpoint-requires c = block_written (settled (λ p. member p c.args.owned) (board_of c.args.pages c.args.block.now)) c.requires.few (after_fields (goal.at.checkpoint-requires c).Start) c.settle.ensures

pub returns : goal.returns
returns c =
    let made = c.checkpoint.ensures in
    let e = board_written (settled (λ p. member p c.args.owned) (board_of c.args.pages c.args.block.now)) c.requires.few (after_fields (goal.at.returns c).Start) c.settle.ensures in
    record { run = rw e at made.run; few = made.few }
