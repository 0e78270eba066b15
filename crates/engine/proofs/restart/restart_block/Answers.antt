-- `engine::restart::restart_block` meets its contract: the number, the board's step, and whether a record is left. Assumes nothing.
use mathlib.Core.Path.{ap, ◌∙◌}
use Rattle.model.specs.Definitions.WellFormed.{FieldsOk}
use Rattle.model.specs.Definitions.Replay.{replay_over}
use Rattle.steps.specs.Blocks.{board_of}
use Rattle.steps.specs.BlockLaws.{block_length, board_written, block_written}
use Rattle.steps.specs.Selected.{stored_number}
use Rattle.engine.specs.Restarts.{restarted, restarted_fields}
use Rattle.engine.proofs.restart.restart_block.Goals.{Start}
use Rattle.engine.proofs.restart.restart_block.Goals as goal

-- the board as the step leaves it
fields : (c : Start) → FieldsOk c.args.pages (restarted (board_of c.args.pages c.args.block.now))
fields c = restarted_fields _ c.requires.fields

pub read_number-number-requires : goal.read_number-number-requires
read_number-number-requires c = (c.requires.few, block_length c.requires)

pub replay_over-requires : goal.replay_over-requires
replay_over-requires c = block_written _ c.requires.few (fields (goal.at.replay_over-requires c).Start) c.begin_replay.ensures

pub returns : goal.returns
returns c =
    let stepped = c.begin_replay.ensures in (
      c.read_number-number.ensures ∙ stored_number c.requires,
      c.replay_over.ensures
          ∙ ap replay_over (board_written _ c.requires.few (fields (goal.at.returns c).Start) stepped),
      stepped,
    )
