-- `validity::block::stored_frames_valid` meets its contract: the frames of both areas stand where the layout says. Assumes nothing.
use Rattle.validity.specs.Pieces.{stored_frames_valid}
use Rattle.validity.proofs.block.stored_frames_valid.Goals as goal

pub returns : goal.returns
unfolding stored_frames_valid
returns c = rw (c.frame_pairs_valid.ensures, c.area_frames_at-2.ensures, c.area_frames_at.ensures)
