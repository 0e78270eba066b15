-- What is lent is the part. Assumes nothing.
use Rattle.std.proofs.Common.{◌∙◌}
use Rattle.model.specs.Definitions.Layout.{page_size}
use Rattle.fields.proofs.Lent.{lent_part}
use Rattle.fields.proofs.bytes.read_page.Goals as goal

pub returns : goal.returns
returns c = c.copy_from_slice.ensures.after ∙ lent_part c.args.s.now c.args.at page_size
