-- `lines::request::read_numbers` meets its contract. The loop's invariant: the words that are left give, behind the numbers so far, what all give.
-- Assumes nothing.
use Rattle.std.proofs.Common.{◌≡◌, ◌≤◌, [], Some, length, drop}
use Rattle.lines.specs.Definitions.Lines.{words, numbers_from}
use Rattle.lines.proofs.request.read_numbers.Given as goal

abbrev pub invariant-loop-word : goal.invariant-loop-word
invariant-loop-word l =
    (goal.iterator-loop-word).can_next l.word-iterator
    × (goal.iterator-loop-word).is_finite l.word-iterator
    × (length l.numbers.items ≤ 4)
    × (numbers_from (Some []) (words l.rest) ≡ numbers_from (Some l.numbers.items) (drop (length l.yielded) (words l.rest)))
