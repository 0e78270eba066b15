-- What is lent is the part. Assumes nothing.
use Rattle.fields.proofs.Lent.{lent_read}
use Rattle.fields.proofs.encoded.Encoded.read_at.Goals as goal

pub returns : goal.returns
returns g c =
    rw c.SIZE.ensures at (lent_read c.args.s.now c.args.at c.SIZE.result g.Self.Encoded.decode c.read.result c.read.ensures)
