-- `fresh::bank::write_directory` meets its contract. The invariant: the entries of the first pages are written, and whose the next one is. Assumes nothing.
use mathlib.Core.Path.{◌≡◌}
use Prim.Native.Nat.{◌%◌}
use lib.ListN.{length}
use Rattle.model.specs.Definitions.Parts.{splice}
use Rattle.model.specs.Definitions.Layout.{head_size}
use Rattle.fresh.specs.Fresh.{fresh_directory}
use Rattle.fresh.proofs.bank.write_directory.Given as goal

abbrev pub invariant-loop-page : goal.invariant-loop-page
invariant-loop-page l =
    (l.owner ≡ l.page % l.sizes.boards) × (length l.bank ≡ length l.initial.bank) × (l.bank ≡ splice l.initial.bank head_size (fresh_directory l.sizes.boards l.page))
