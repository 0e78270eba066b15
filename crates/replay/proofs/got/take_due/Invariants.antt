-- `replay::got::take_due` meets its contract. The invariant: what is left to take gives what the whole gives. Assumes nothing.
use mathlib.Core.Path.{◌≡◌}
use lib.ListN.{length}
use Rattle.model.specs.Definitions.Replay.{due, took_due}
use Rattle.steps.specs.Blocks.{IsBlock, board_of}
use Rattle.replay.proofs.got.take_due.Given as goal

abbrev pub invariant-loop : goal.invariant-loop
invariant-loop l = IsBlock l.pages l.block × (took_due (board_of l.pages l.block) ≡ took_due (board_of l.pages l.initial.block))

abbrev pub decreases-loop : goal.decreases-loop
decreases-loop l = length (due (board_of l.pages l.block))
