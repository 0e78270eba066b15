-- `lines::number::read_digits` meets its contract. The loop's invariant: the digits passed gave v, and the whole word is what the rest gives behind v.
-- Assumes nothing.
use Rattle.std.proofs.Common.{◌≡◌, ◌+◌, ◌*◌, ◌-◌, slice_index_or, sym, ◌∙◌, arith}
use Rattle.lines.specs.Laws.Numbers.{digits_end_at, digits_over_at, digit_least, digits_other_at, digits_next_at}
use Rattle.lines.proofs.number.read_digits.Goals as goal

pub returns-then-not-is_digit : goal.returns-then-not-is_digit
returns-then-not-is_digit c =
    sym (c.loop-c.invariant.1 ∙ digits_other_at c.loop-c.v _ c.loop-c.c-index (omega arith) (sym c.is_digit.ensures ∙ c.if-not-is_digit.true))

pub overflow_sub-c : goal.overflow_sub-c
overflow_sub-c c = digit_least _ (sym c.is_digit.ensures ∙ c.if-not-is_digit.false)

pub returns-in_err-checked_mul : goal.returns-in_err-checked_mul
returns-in_err-checked_mul c =
    let digit = sym c.is_digit.ensures ∙ c.if-not-is_digit.false in
    let h = c.in_err-checked_mul.ensures in
    c.from_residual.ensures ∙ sym (c.loop-c.invariant.1 ∙ digits_over_at c.loop-c.v _ c.loop-c.c-index (omega arith) digit (omega arith))

pub returns-in_err-v : goal.returns-in_err-v
returns-in_err-v c =
    let digit = sym c.is_digit.ensures ∙ c.if-not-is_digit.false in
    let h = c.in_err-v.ensures in
    c.from_residual-in_err-v.ensures ∙ sym (c.loop-c.invariant.1 ∙ digits_over_at c.loop-c.v _ c.loop-c.c-index (omega arith) digit (omega arith))

pub loop-c-preserved : goal.loop-c-preserved
loop-c-preserved c =
    let digit = sym c.is_digit.ensures ∙ c.if-not-is_digit.false in
    let h = c.in_ok-v.ensures in
    let k = c.in_ok-checked_mul.ensures in
    let e : 10 * c.loop-c.v + (slice_index_or c.args.word.now c.loop-c.c-index 0 - 48) ≡ c.in_ok-v.v = omega arith in
    (omega arith, c.loop-c.invariant.1 ∙ digits_next_at c.loop-c.v _ c.loop-c.c-index (omega arith) digit ∙ rw e)

pub returns : goal.returns
returns c = sym (c.loop-c.invariant.1 ∙ digits_end_at c.loop-c.v _ c.loop-c.c-index c.loop-c.invariant.0 (omega arith))
