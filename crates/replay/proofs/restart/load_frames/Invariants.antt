-- `replay::restart::load_frames` meets its contract. The invariant: the first pages have the frames of the selected area. Assumes nothing.
use mathlib.Core.Path.{◌≡◌}
use Prim.Native.Nat.{◌≤◌}
use Rattle.model.specs.Definitions.Codec.{encode_board}
use Rattle.model.proofs.Laws.BlockReplay.{replacing}
use Rattle.steps.specs.Blocks.{board_of}
use Rattle.replay.proofs.restart.load_frames.Given as goal

abbrev pub invariant-loop-page : goal.invariant-loop-page
invariant-loop-page l =
    (l.page ≤ l.pages) × (l.block ≡ encode_board (replacing l.page (board_of l.pages l.initial.block).stable.selected.frames (board_of l.pages l.initial.block)))
