-- `engine::access::read_cells` meets its contract. Assumes nothing.
use Rattle.model.specs.Definitions.Steps.{ReadCells}
use Rattle.model.specs.Definitions.Calls.{Accessing}
use Rattle.engine.specs.Replies.{answered_replied}
use Rattle.engine.proofs.access.read_cells.Goals as goal

pub returns : goal.returns
returns c =
    let called = c.try_read_cells in
    let both = answered_replied (Accessing _ (ReadCells _ _)) _ called.result c.answered.ensures called.ensures.reply in
    record { reply = both.0; given = called.ensures.given; few = both.1 }
