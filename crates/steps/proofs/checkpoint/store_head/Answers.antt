-- `steps::checkpoint::store_head` meets its contract. Assumes nothing.
use mathlib.Core.Path.{◌∙◌}
use Rattle.steps.specs.Checkpoint.{store_head_bytes}
use Rattle.steps.proofs.checkpoint.store_head.Goals as goal

pub returns : goal.returns
returns c =
    let block = c.requires in
    c.store_head.ensures ∙ store_head_bytes _ _ _ block.fields block.back _ c.read_number-number.ensures
