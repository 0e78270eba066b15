-- `copies::copies::drop_all` meets its contract. The loop's invariant: the losers but those left have dropped their right. Assumes nothing.
use mathlib.Core.Path.{◌≡◌}
use lib.ListN.{length}
use Rattle.model.specs.Definitions.Codec.{decode}
use Rattle.copies.specs.Drops.{Dropping}
use Rattle.copies.proofs.copies.drop_all.Given as goal

abbrev pub invariant-loop-holder : goal.invariant-loop-holder
invariant-loop-holder l = (length l.bank ≡ length l.initial.bank) × Dropping l.bank (decode l.initial.bank) l.losers l.left l.writer l.page

abbrev pub decreases-loop-holder : goal.decreases-loop-holder
decreases-loop-holder l = l.left
