-- A member is a digit. Assumes nothing.
use Rattle.std.proofs.Common.{sym}
use Rattle.fields.specs.Sets.{member_digit}
use Rattle.fields.proofs.sets.U16Set.has.Goals as goal

pub returns : goal.returns
returns c = rw c.bit.ensures (sym (member_digit c.args.i c.args.self))
