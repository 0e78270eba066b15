-- `replay::settle::settle_frames` meets its contract. The invariant: the first pages have their settled frames. Assumes nothing.
use mathlib.Core.Path.{◌≡◌}
use Prim.Native.Nat.{ℕ, ◌≤◌}
use mathlib.Core.List.{List}
use Rattle.types.specs.declared.Frame.{Frame}
use Rattle.model.specs.Definitions.Parts.{each, member}
use Rattle.model.specs.Definitions.Codec.{encode_board}
use Rattle.model.specs.Definitions.Replay.{settled_frame}
use Rattle.model.proofs.Laws.BlockReplay.{replacing}
use Rattle.steps.specs.Blocks.{board_of}
use Rattle.replay.proofs.settle.settle_frames.Given as goal

-- the frames as the end leaves them
abbrev pub settling : ℕ → List ℕ → ℕ → List Frame
settling pages l owned = each (λ p f. settled_frame (member p owned) f) (board_of pages l).working.frames

abbrev pub invariant-loop-page : goal.invariant-loop-page
invariant-loop-page l =
    (l.page ≤ l.pages) × (l.block ≡ encode_board (replacing l.page (settling l.pages l.initial.block l.owned) (board_of l.pages l.initial.block)))
