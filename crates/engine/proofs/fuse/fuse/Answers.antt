-- `engine::fuse::fuse` meets its contract. Assumes nothing.
use Rattle.model.specs.Definitions.Calls.{Fusing}
use Rattle.engine.specs.Replies.{answered_replied}
use Rattle.engine.proofs.fuse.fuse.Goals as goal

pub returns : goal.returns
returns c = let both = answered_replied (Fusing _ _) _ c.try_fuse.result c.answered.ensures c.try_fuse.ensures in record { reply = both.0; few = both.1 }
