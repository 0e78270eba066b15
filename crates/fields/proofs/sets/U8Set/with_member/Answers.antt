-- A byte with one board more is a byte. Assumes nothing.
use Rattle.std.proofs.Common.{arith}
use Rattle.model.proofs.Laws.Sets.{with_below}
use Rattle.fields.proofs.sets.U8Set.with_member.Goals as goal

pub overflow_cast-result : goal.overflow_cast-result
overflow_cast-result c =
    omega (arith, c.with_member.ensures, with_below 8 c.args.i c.from.result (omega (arith, c.from.ensures)) (omega arith))
