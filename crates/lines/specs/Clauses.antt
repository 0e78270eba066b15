-- The words in which the contracts of a line's text are said. Assumes nothing.
use Rattle.std.specs.Prelude.{◌≡◌, ℕ, suc, ◌+◌, ◌*◌, ◌<◌, true, false, List, [], ◌∷◌, length, eqb}
use Rattle.arrayvec.specs.ArrayVec.{ArrayVec}
use Rattle.lines.specs.declared.tally.Tally.{Tally}
use Rattle.model.specs.Definitions.Parts.{splice}
use Rattle.lines.specs.Definitions.Lines.{space, words}
use Rattle.lines.specs.Definitions.Tally.{most_lines}

-- ---- the bytes of a line

-- how many bytes the first word has
unfoldable pub word_length : List ℕ → ℕ
word_length [] = 0
word_length (c ∷ l) = elim (eqb c space) [ true ↦ 0 | false ↦ suc (word_length l) ]

-- the words behind a space, if one stands there
unfoldable pub words_behind : List ℕ → List (List ℕ)
words_behind [] = []
words_behind (c ∷ l) = words l

-- the numbers that a line holds so far
abbrev pub numbers_in : ArrayVec ℕ → List ℕ
numbers_in v = v.items

-- ---- output

-- "numbers to 4,294,967,295" have ten digits at most
abbrev pub most_digits : ℕ
most_digits = 10

-- the bytes v stand in the buffer from place a on, all else as it was, and b is the place behind them
pub record Put (before : List ℕ) (a : ℕ) (v after : List ℕ) (b : ℕ) : Type 0 where
  pub bytes : after ≡ splice before a v
  pub end : b ≡ a + length v

-- how many bytes a number takes at most with the byte behind it, a line, and the three numbers of the end
abbrev pub most_field : ℕ
most_field = most_digits + 1

abbrev pub most_line : ℕ
most_line = 5 * most_field

abbrev pub most_last : ℕ
most_last = 3 * most_field

-- ---- the tally

-- done and refused make up read
abbrev pub Sums : Tally → Type 0
Sums t = t.done + t.refused ≡ t.read

-- a tally to which a line may still come
pub record Counts (t : Tally) : Type 0 where
  pub sums : Sums t
  pub more : t.read < most_lines
