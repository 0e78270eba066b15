-- `replay::settle::settle` meets its contract. Assumes nothing.
use Rattle.model.specs.Definitions.Parts.{member}
use Rattle.replay.specs.Settle.{settle_written}
use Rattle.replay.proofs.settle.settle.Goals as goal

pub returns : goal.returns
returns c =
    rw (c.write_place.ensures, c.write_state.ensures)
    (settle_written c.requires
    (λ p. member p c.args.owned) _
    c.settle_frames.ensures)
