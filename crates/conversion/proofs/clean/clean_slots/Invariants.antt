-- `conversion::clean::clean_slots` meets its contract. The invariant: the first blocks are clean. Assumes nothing.
use mathlib.Core.Path.{◌≡◌}
use Rattle.model.specs.Definitions.Parts.{splice}
use Rattle.model.specs.Definitions.Layout.{blocks_at}
use Rattle.conversion.specs.Cleaning.{cleaned_blocks}
use Rattle.conversion.proofs.clean.clean_slots.Given as goal

abbrev pub invariant-loop-board : goal.invariant-loop-board
invariant-loop-board l =
    l.bank ≡ splice l.initial.bank (blocks_at l.pages) (cleaned_blocks l.pages l.board l.initial.bank)
