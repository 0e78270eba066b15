-- Joining adds its bit. Assumes nothing.
use Rattle.std.proofs.Common.{◌≡◌, ◌+◌, sym, ◌∙◌, arith}
use Rattle.model.specs.Definitions.Parts.{with_member}
use Rattle.model.proofs.Laws.Sets.{with_below}
use Rattle.fields.specs.Sets.{with_in, with_out}
use Rattle.fields.proofs.sets.U16Set.with_member.Goals as goal

joined : (c : goal.After-bit) → c.args.self + c.bit.result ≡ with_member c.args.i c.args.self
joined c = rw c.bit.ensures (with_out _ _ (sym c.has.ensures ∙ c.if-has.false))

pub overflow_add-result : goal.overflow_add-result
overflow_add-result c =
    omega (arith, joined c, with_below 16 c.args.i c.args.self (omega arith) (omega arith))

pub returns-then-has : goal.returns-then-has
returns-then-has c = with_in _ _ (sym c.has.ensures ∙ c.if-has.true)

pub returns-else-has : goal.returns-else-has
returns-else-has c = joined c
