-- A byte with one board less is a byte. Assumes nothing.
use Rattle.std.proofs.Common.{arith}
use Rattle.model.proofs.Laws.Sets.{without_le}
use Rattle.fields.proofs.sets.U8Set.without_member.Goals as goal

pub overflow_cast-result : goal.overflow_cast-result
overflow_cast-result c = omega (arith, c.from.ensures, c.without_member.ensures, without_le c.args.i c.from.result)
