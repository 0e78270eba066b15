-- `steps::records::volatile_count` meets its contract. Assumes nothing.
use mathlib.Core.Path.{◌∙◌}
use Rattle.steps.specs.Logs.{volatile_read}
use Rattle.steps.proofs.records.volatile_count.Goals as goal

pub returns : goal.returns
returns c = λ pages. c.from.ensures ∙ c.read_volatile_count.ensures ∙ volatile_read pages c.args.block.now
