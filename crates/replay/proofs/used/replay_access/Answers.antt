-- `replay::used::replay_access` meets its contract. Assumes nothing.
use mathlib.Core.Path.{ap, ◌∙◌}
use Rattle.model.specs.Definitions.Bank.{Board, on_working}
use Rattle.model.specs.Definitions.Codec.{encode_board}
use Rattle.model.specs.Definitions.Steps.{accessed}
use Rattle.model.specs.Definitions.Replay.{used_up, replayed}
use Rattle.model.proofs.Laws.BoardFields.{accessed_fields}
use Rattle.steps.specs.Access.{performed_block}
use Rattle.steps.specs.BlockLaws.{board_written}
use Rattle.steps.specs.Blocks.{board_of}
use Rattle.replay.proofs.used.replay_access.Goals as goal

pub use_up-requires : goal.use_up-requires
use_up-requires c =
    performed_block _ c.requires.0 c.args.write c.requires.4 c.requires.1
    c.requires.2 c.perform.ensures

pub returns : goal.returns
unfolding replayed
returns c =
    λ a e.
    c.use_up.ensures
    ∙ ap (λ (x : Board). encode_board (used_up x))
    (board_written (on_working (accessed a) (board_of c.args.pages c.args.block.now)) c.requires.0.few
    (accessed_fields c.requires.0.fields a (rw e c.requires.4) c.requires.1 c.requires.2)
    (c.perform.ensures a e))
