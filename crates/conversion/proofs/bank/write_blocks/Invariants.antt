-- `conversion::bank::write_blocks` meets its contract. The invariant: the first blocks are written. Assumes nothing.
use mathlib.Core.Path.{◌≡◌}
use Rattle.model.specs.Definitions.Parts.{splice}
use Rattle.model.specs.Definitions.Layout.{blocks_at}
use Rattle.conversion.specs.Banks.{rewritten_blocks}
use Rattle.conversion.proofs.bank.write_blocks.Given as goal

abbrev pub invariant-loop-board : goal.invariant-loop-board
invariant-loop-board l =
    l.new ≡ splice l.initial.new (blocks_at l.pages) (rewritten_blocks l.pages l.board l.old)
