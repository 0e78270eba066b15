-- `replay::next::replay_over` meets its contract. Assumes nothing.
use Rattle.replay.specs.Next.{over_read}
use Rattle.replay.proofs.next.replay_over.Goals as goal

pub returns : goal.returns
returns c = over_read c.requires _ _ c.read_stored_count.ensures c.read_place.ensures
