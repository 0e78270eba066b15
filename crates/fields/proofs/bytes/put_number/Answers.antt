-- `splice` is what `words` leaves. Assumes nothing.
use Rattle.std.proofs.Common.{◌∙◌}
use Rattle.fields.proofs.Splices.{splice_word}
use Rattle.fields.proofs.bytes.put_number.Goals as goal

pub returns : goal.returns
returns g c = c.write.ensures ∙ splice_word c.args.s.now c.args.at g.row.N c.args.number
