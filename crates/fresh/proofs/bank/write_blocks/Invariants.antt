-- `fresh::bank::write_blocks` meets its contract. The invariant: the first blocks are written. Assumes nothing.
use mathlib.Core.Path.{◌≡◌}
use Rattle.model.specs.Definitions.Parts.{splice}
use Rattle.model.specs.Definitions.Layout.{blocks_at}
use Rattle.fresh.specs.Fresh.{fresh_blocks}
use Rattle.fresh.proofs.bank.write_blocks.Given as goal

abbrev pub invariant-loop-board : goal.invariant-loop-board
invariant-loop-board l =
    l.bank ≡ splice l.initial.bank (blocks_at l.sizes.pages) (fresh_blocks l.sizes.boards l.sizes.pages l.board)
