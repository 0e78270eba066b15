-- `answers::pack::pack` meets its contract: each field in its own digits, so that it is read back. Assumes nothing.
use mathlib.Core.Path.{ap}
use Prim.Native.Nat.{◌<◌}
use native.Mathlib.Omega.{arith}
use Rattle.types.specs.declared.AnswerNumbers.{AnswerNumbers}
use Rattle.model.specs.Definitions.Layout.{byte_values}
use Rattle.model.specs.Definitions.Answers.{code, value, who}
use Rattle.answers.specs.Packed.{packed, packed_back}
use Rattle.answers.proofs.pack.pack.Goals as goal

pub returns : goal.returns
unfolding packed code who value
returns c =
    let o = c.args.o in
    let row = c.numbers_of-code in
    let small : who o.answer < byte_values = omega (arith, ap (λ (n : AnswerNumbers). n.who) row.ensures) in
    record {
      number = rw (c.from.ensures, c.from-2.ensures, c.from-3.ensures, c.from-4.ensures, row.ensures);
      back = rw (c.from.ensures, c.from-2.ensures, c.from-3.ensures, c.from-4.ensures, row.ensures) (packed_back o small (omega arith));
    }
