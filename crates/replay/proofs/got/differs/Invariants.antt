-- `replay::got::differs` meets its contract. The invariant: for each access that flag and set stand for, the walk stands at the place. Assumes nothing.
use Prim.Native.Nat.{◌^◌, ◌<◌}
use Rattle.model.specs.Definitions.Layout.{most_pages}
use Rattle.model.specs.Definitions.Steps.{Access}
use Rattle.steps.specs.Asked.{Takes}
use Rattle.steps.specs.Blocks.{board_of}
use Rattle.replay.specs.Differs.{Walk}
use Rattle.replay.proofs.got.differs.Given as goal

abbrev pub invariant-loop-place : goal.invariant-loop-place
invariant-loop-place l =
    (l.lacking < 2 ^ most_pages) × ((a : Access) → Takes l.pages a l.writes l.named → Walk l.pages a (board_of l.pages l.block) l.lacking l.place l.since l.lowest)
