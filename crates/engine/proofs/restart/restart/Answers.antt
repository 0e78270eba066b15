-- `engine::restart::restart` meets its contract. Assumes nothing.
use Rattle.model.specs.Definitions.Calls.{Restarting}
use Rattle.engine.specs.Replies.{answered_replied}
use Rattle.engine.proofs.restart.restart.Goals as goal

pub returns : goal.returns
returns c = let both = answered_replied (Restarting _) _ c.try_restart.result c.answered.ensures c.try_restart.ensures in record { reply = both.0; few = both.1 }
