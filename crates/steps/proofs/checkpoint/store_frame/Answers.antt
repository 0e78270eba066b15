-- `steps::checkpoint::store_frame` meets its contract. Assumes nothing.
use mathlib.Core.Path.{◌∙◌}
use Rattle.steps.specs.Checkpoint.{store_frame_bytes}
use Rattle.steps.proofs.checkpoint.store_frame.Goals as goal

pub returns : goal.returns
returns c =
    let block = c.requires.0 in
    c.store_frame.ensures
    ∙ store_frame_bytes _ _ _ block.fields block.back _ _ c.requires.1 c.read_page_frame-frame.ensures
