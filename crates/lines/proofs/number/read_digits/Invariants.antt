-- `lines::number::read_digits` meets its contract. The loop's invariant: the digits passed gave v, and the whole word is what the rest gives behind v.
-- Assumes nothing.
use Rattle.std.proofs.Common.{◌≡◌, ◌≤◌, drop}
use Rattle.lines.specs.Definitions.Numbers.{largest_number, digits_from}
use Rattle.lines.proofs.number.read_digits.Given as goal

abbrev pub invariant-loop-c : goal.invariant-loop-c
invariant-loop-c l = (l.v ≤ largest_number) × (digits_from 0 l.word ≡ digits_from l.v (drop l.c-index l.word))
