-- `replay::restart::begin_replay` meets its contract. Assumes nothing.
use mathlib.Core.Path.{ap, ◌∙◌}
use Rattle.model.specs.Definitions.Bank.{Board}
use Rattle.model.specs.Definitions.Codec.{encode_board}
use Rattle.model.specs.Definitions.Replay.{used_up}
use Rattle.model.proofs.Laws.BoardFields.{loaded_fields}
use Rattle.steps.specs.BlockLaws.{board_written, block_written}
use Rattle.steps.specs.Blocks.{board_of}
use Rattle.replay.proofs.restart.begin_replay.Goals as goal

pub use_up-requires : goal.use_up-requires
use_up-requires c =
    block_written _ c.requires.few (loaded_fields c.args.pages (board_of c.args.pages c.args.block.now) c.requires.fields)
    c.load.ensures

pub returns : goal.returns
returns c =
    let ok = loaded_fields c.args.pages (board_of c.args.pages c.args.block.now) c.requires.fields in
    c.use_up.ensures ∙ ap (λ (x : Board). encode_board (used_up x))
    (board_written _ c.requires.few ok c.load.ensures)
