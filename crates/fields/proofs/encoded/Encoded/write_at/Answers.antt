-- The part is lent, and becomes the value's bytes. Assumes nothing.
use Rattle.std.proofs.Common.{arith}
use Rattle.fields.proofs.Lent.{lent_written}
use Rattle.fields.proofs.encoded.Encoded.write_at.Goals as goal

pub returns : goal.returns
returns g c =
    let wrote = c.write in
    lent_written c.args.s.now wrote.new.s c.args.at c.SIZE.result (λ _. g.Self.Encoded.encode c.args.self)
    (omega (arith, c.requires, c.SIZE.ensures)) wrote.auto.s wrote.ensures
