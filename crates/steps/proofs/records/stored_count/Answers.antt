-- `steps::records::stored_count` meets its contract. Assumes nothing.
use mathlib.Core.Path.{◌∙◌}
use Rattle.steps.specs.Selected.{stored_count_lem}
use Rattle.steps.proofs.records.stored_count.Goals as goal

pub returns : goal.returns
returns c = c.from.ensures ∙ c.read_stored_count.ensures ∙ stored_count_lem c.requires
