-- `stores::checkpoint::store_frames` meets its contract. The invariant: what is left to store gives what the whole gives. Assumes nothing.
use Rattle.steps.specs.Blocks.{board_of}
use Rattle.stores.specs.Checkpoint.{Saving}
use Rattle.stores.proofs.checkpoint.store_frames.Given as goal

abbrev pub invariant-loop-page : goal.invariant-loop-page
invariant-loop-page l = Saving l.pages (board_of l.pages l.initial.block) l.page l.block
