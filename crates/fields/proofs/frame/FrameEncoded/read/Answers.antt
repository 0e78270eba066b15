-- `fields::frame::FrameEncoded::read` meets its contract: field by field, what the readers say. Assumes nothing.
use Rattle.model.specs.Definitions.Parts.{byte_at, part}
use Rattle.model.specs.Definitions.Codec.{decode_frame}
use Rattle.fields.proofs.frame.FrameEncoded.read.Goals as goal

pub returns : goal.returns
unfolding decode_frame byte_at part
returns c = rw (c.from.ensures, c.read_page.ensures)
