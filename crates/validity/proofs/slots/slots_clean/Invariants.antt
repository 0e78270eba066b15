-- `validity::slots::slots_clean` meets its contract. The loop's invariant: the blocks before `board` are clean. Assumes nothing.
use mathlib.Core.Path.{◌≡◌}
use mathlib.Core.Bool.{true}
use Rattle.model.specs.Definitions.Layout.{today}
use Rattle.model.specs.Definitions.Parts.{every_below}
use Rattle.model.specs.Definitions.Check.{block_of_in, block_clean}
use Rattle.validity.proofs.slots.slots_clean.Given as goal

abbrev pub invariant-loop-board : goal.invariant-loop-board
invariant-loop-board l =
    every_below l.board (λ b. block_clean today l.pages (block_of_in today l.pages l.bank b)) ≡ true
