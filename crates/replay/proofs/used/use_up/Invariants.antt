-- `replay::used::use_up` meets its contract. The invariant: what is left to use up gives what the whole gives. Assumes nothing.
use mathlib.Core.Path.{◌≡◌}
use lib.ListN.{length}
use Rattle.model.specs.Definitions.Replay.{records_left, used_up}
use Rattle.steps.specs.Blocks.{IsBlock, board_of}
use Rattle.replay.proofs.used.use_up.Given as goal

abbrev pub invariant-loop : goal.invariant-loop
invariant-loop l = IsBlock l.pages l.block × (used_up (board_of l.pages l.block) ≡ used_up (board_of l.pages l.initial.block))

abbrev pub decreases-loop : goal.decreases-loop
decreases-loop l = length (records_left (board_of l.pages l.block))
