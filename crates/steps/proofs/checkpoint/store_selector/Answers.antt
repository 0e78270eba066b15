-- `steps::checkpoint::store_selector` meets its contract. Assumes nothing.
use mathlib.Core.Path.{◌∙◌}
use Rattle.steps.specs.Checkpoint.{store_selector_bytes}
use Rattle.steps.proofs.checkpoint.store_selector.Goals as goal

pub returns : goal.returns
returns c =
    let block = c.requires in
    c.write_selector.ensures ∙ store_selector_bytes _ _ _ block.fields block.back _
    c.read_selector-second.ensures
