-- `accesses::live::giver_missing` meets its contract. Assumes nothing.
use Rattle.copies.specs.Directory.{of_owner}
use Rattle.accesses.proofs.live.giver_missing.Goals as goal

pub nobody_gives-requires : goal.nobody_gives-requires
nobody_gives-requires c = let pre = c.requires in (of_owner pre.0 pre.1 _ pre.2, pre.2)
