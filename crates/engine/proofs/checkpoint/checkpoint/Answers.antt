-- `engine::checkpoint::checkpoint` meets its contract. Assumes nothing.
use Rattle.model.specs.Definitions.Calls.{Checkpointing}
use Rattle.engine.specs.Replies.{answered_replied}
use Rattle.engine.proofs.checkpoint.checkpoint.Goals as goal

pub returns : goal.returns
returns c = let both = answered_replied (Checkpointing _) _ c.try_checkpoint.result c.answered.ensures c.try_checkpoint.ensures in record { reply = both.0; few = both.1 }
