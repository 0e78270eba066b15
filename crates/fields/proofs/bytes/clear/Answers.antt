use Rattle.model.specs.Definitions.Parts.{zeros}
use Rattle.fields.proofs.bytes.clear.Goals as goal

pub returns : goal.returns
unfolding zeros
returns c = c.fill.ensures.after (λ y e. e)
