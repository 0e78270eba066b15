-- Leaving takes its bit away. Assumes nothing.
use Rattle.std.proofs.Common.{◌≡◌, ◌+◌, sym, ◌∙◌, arith}
use Rattle.model.specs.Definitions.Parts.{without_member}
use Rattle.fields.specs.Sets.{without_in, without_out}
use Rattle.fields.proofs.sets.U16Set.without_member.Goals as goal

left : (c : goal.After-bit) → c.args.self ≡ without_member c.args.i c.args.self + c.bit.result
left c = rw c.bit.ensures (without_in _ _ (sym c.has.ensures ∙ c.if-has.true))

pub overflow_sub-result : goal.overflow_sub-result
overflow_sub-result c = omega (arith, left c)

pub returns-then-has : goal.returns-then-has
returns-then-has c = omega (arith, left c)

pub returns-else-has : goal.returns-else-has
returns-else-has c = without_out _ _ (sym c.has.ensures ∙ c.if-has.false)
