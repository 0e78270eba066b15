-- `fields::slot::RecordEncoded::read` meets its contract: field by field, what the readers say. Assumes nothing.
use Rattle.model.specs.Definitions.Parts.{byte_at}
use Rattle.model.specs.Definitions.Codec.{decode_record_in}
use Rattle.fields.proofs.slot.RecordEncoded.read.Goals as goal

pub returns : goal.returns
unfolding decode_record_in byte_at
returns c = rw (c.get_number.ensures.number, c.read_kind.ensures, c.read_page.ensures)
