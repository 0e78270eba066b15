-- `part` is what `words` reads. Assumes nothing.
use Rattle.model.specs.Definitions.Parts.{part}
use Rattle.fields.proofs.bytes.get_number.Goals as goal

pub returns-clause-number : goal.returns-clause-number
unfolding part
returns-clause-number g c = c.read.ensures.number
