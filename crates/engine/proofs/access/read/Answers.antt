-- `engine::access::read` meets its contract. Assumes nothing.
use Rattle.model.specs.Definitions.Steps.{Read}
use Rattle.model.specs.Definitions.Calls.{Accessing}
use Rattle.engine.specs.Replies.{answered_replied}
use Rattle.engine.proofs.access.read.Goals as goal

pub returns : goal.returns
returns c =
    let both = answered_replied (Accessing _ (Read _ _)) _ c.access.result c.answered.ensures c.access.ensures in
    record { reply = both.0; few = both.1 }
