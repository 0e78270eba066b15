-- Document 01, "Line runner": "Numbers are decimal", "no leading zeros, numbers to 4,294,967,295". A number's bytes, and the number that bytes are.
-- Assumes nothing.
use Rattle.std.specs.Prelude.{ℕ, zero, suc, ◌+◌, ◌-◌, ◌*◌, ◌/◌, ◌%◌, Bool, true, false, ◌&&◌, ◌||◌, Option, Some, None, List, [], ◌∷◌, ◌++◌, length, get_or, eqb, ltb, leb}
use Rattle.model.specs.Definitions.Parts.{every}

-- the digits "0" to "9" are the bytes 48 to 57
abbrev pub digit_zero : ℕ
digit_zero = 48

abbrev pub digit_nine : ℕ
digit_nine = 57

-- "numbers to 4,294,967,295"
abbrev pub largest_number : ℕ
largest_number = 4294967295

-- ---- printed

-- the digits of n, the last k of them at most
unfoldable pub digits_in : ℕ → ℕ → List ℕ
digits_in zero n = []
digits_in (suc k) n =
    elim (ltb n 10) [ true ↦ (digit_zero + n) ∷ [] | false ↦ digits_in k (n / 10) ++ ((digit_zero + n % 10) ∷ []) ]

-- all digits of n, without leading zeros; no number has more digits than n + 1
unfoldable pub decimal : ℕ → List ℕ
decimal n = digits_in (suc n) n

-- ---- read

unfoldable pub is_digit : ℕ → Bool
is_digit c = leb digit_zero c && leb c digit_nine

-- the number of a row of digits behind those that gave v
unfoldable pub value_from : ℕ → List ℕ → ℕ
value_from v [] = v
value_from v (c ∷ w) = value_from (10 * v + (c - digit_zero)) w

-- "no leading zeros": a zero stands alone
unfoldable pub leading_zero : List ℕ → Bool
leading_zero w = eqb (get_or w 0 0) digit_zero && ltb 1 (length w)

-- digits behind those that gave v, up to the largest number; none where a byte is no digit, or the number is larger
unfoldable pub digits_from : ℕ → List ℕ → Option ℕ
digits_from v w = elim (every is_digit w && leb (value_from v w) largest_number) [ true ↦ Some (value_from v w) | false ↦ None ]

-- the number that a word is, if it is one
unfoldable pub number : List ℕ → Option ℕ
number w = elim (eqb (length w) 0 || leading_zero w) [ true ↦ None | false ↦ digits_from 0 w ]
