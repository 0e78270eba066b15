-- `replay::restart::load_head` meets its contract: four fields of the block, one from the selected area. Assumes nothing.
use Rattle.replay.specs.Restart.{head_loaded}
use Rattle.replay.proofs.restart.load_head.Goals as goal

pub returns : goal.returns
returns c =
    rw (
      c.write_place.ensures,
      c.write_since.ensures,
      c.write_number.ensures,
      c.write_state.ensures,
    )
    (head_loaded c.requires
    _ c.read_number-number.ensures)
