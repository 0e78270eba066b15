-- `validity::counts::no_records` meets its contract. The loop's invariant: the blocks before `board` have no record. Assumes nothing.
use mathlib.Core.Path.{◌≡◌}
use mathlib.Core.Bool.{true}
use Rattle.model.specs.Definitions.Layout.{form_of}
use Rattle.model.specs.Definitions.Parts.{every_below}
use Rattle.model.specs.Definitions.Check.{block_of_in}
use Rattle.model.specs.Clauses.{counts_zero}
use Rattle.validity.proofs.counts.no_records.Given as goal

abbrev pub invariant-loop-board : goal.invariant-loop-board
invariant-loop-board l =
    every_below l.board (λ b. counts_zero (form_of l.since) l.pages (block_of_in (form_of l.since) l.pages l.bank b)) ≡ true
