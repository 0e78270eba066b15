-- What is lent is the part. Assumes nothing.
use Rattle.std.proofs.Common.{◌∙◌, arith}
use Rattle.model.proofs.Laws.Parts.{length_part}
use Rattle.fields.proofs.Lent.{lent_part}
use Rattle.format.proofs.selected.selected.Goals as goal

pub returns-clause-bytes : goal.returns-clause-bytes
returns-clause-bytes c =
    lent_part c.args.block.now c.selected_at-a.result c.area_size.result ∙ rw (c.selected_at-a.ensures.place, c.area_size.ensures)
