-- `copies::copies::give_copies` meets its contract. The loop's invariant: what is left of the copies gives all of them. Assumes nothing.
use mathlib.Core.Path.{◌≡◌}
use lib.ListN.{length}
use Rattle.model.specs.Definitions.Codec.{decode}
use Rattle.copies.specs.Copies.{Giving}
use Rattle.copies.proofs.copies.give_copies.Given as goal

abbrev pub invariant-loop-page : goal.invariant-loop-page
invariant-loop-page l = (length l.bank ≡ length l.initial.bank) × Giving l.pages l.lacking l.board (decode l.initial.bank) l.bank l.page
