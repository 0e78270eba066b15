-- `engine::compare::compare_logs` meets its contract. Assumes nothing.
use Rattle.model.specs.Definitions.Calls.{Comparing}
use Rattle.engine.specs.Replies.{answered_replied}
use Rattle.engine.proofs.compare.compare_logs.Goals as goal

pub returns : goal.returns
returns c = let both = answered_replied (Comparing _ _) _ c.try_compare_logs.result c.answered.ensures c.try_compare_logs.ensures in record { reply = both.0; few = both.1 }
