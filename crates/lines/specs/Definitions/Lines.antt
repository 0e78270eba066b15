-- Document 01, "Line runner": "Lines: N n p; R b p o; W b p o v; C b (checkpoint); K b (cut); F b k; S b (restart). One space, .., at most 64 bytes."
-- What a line's bytes, without the byte 10 that ends it, ask for. Assumes nothing.
use Rattle.std.specs.Prelude.{ℕ, true, false, Option, Some, None, List, [], ◌∷◌, length, eqb, ltb}
use Rattle.lines.specs.declared.request.Request.{Request}
use Rattle.lines.specs.declared.request.Request.TheVariants.{Make, Read, Write, Checkpoint, Fuse, Restart, Unreadable}
use Rattle.lines.specs.Definitions.Numbers.{number}

abbrev pub space : ℕ
space = 32

-- "at most 64 bytes"
abbrev pub most_bytes : ℕ
most_bytes = 64

-- the letters of the seven lines
abbrev pub letter_n : ℕ
letter_n = 78

abbrev pub letter_r : ℕ
letter_r = 82

abbrev pub letter_w : ℕ
letter_w = 87

abbrev pub letter_c : ℕ
letter_c = 67

abbrev pub letter_k : ℕ
letter_k = 75

abbrev pub letter_f : ℕ
letter_f = 70

abbrev pub letter_s : ℕ
letter_s = 83

-- ---- "One space": a line's words are what stands before, between and behind its spaces; no number is an empty word

-- one byte more in front of the first word
unfoldable pub longer : ℕ → List (List ℕ) → List (List ℕ)
longer c [] = (c ∷ []) ∷ []
longer c (w ∷ ws) = (c ∷ w) ∷ ws

unfoldable pub words : List ℕ → List (List ℕ)
words [] = [] ∷ []
words (c ∷ l) = elim (eqb c space) [ true ↦ [] ∷ words l | false ↦ longer c (words l) ]

-- ---- the numbers behind the letter

-- one number more; a line with more than four is none of the seven
unfoldable pub and_one : Option (List ℕ) → ℕ → Option (List ℕ)
and_one (Some []) a = Some (a ∷ [])
and_one (Some (b ∷ [])) a = Some (b ∷ a ∷ [])
and_one (Some (b ∷ c ∷ [])) a = Some (b ∷ c ∷ a ∷ [])
and_one (Some (b ∷ c ∷ d ∷ [])) a = Some (b ∷ c ∷ d ∷ a ∷ [])
and_one (Some (b ∷ c ∷ d ∷ e ∷ l)) a = None
and_one None a = None

unfoldable pub more : Option (List ℕ) → Option ℕ → Option (List ℕ)
more f (Some a) = and_one f a
more f None = None

-- the numbers of the words, behind those of f; none where a word is no number, or where there are more than four
unfoldable pub numbers_from : Option (List ℕ) → List (List ℕ) → Option (List ℕ)
numbers_from f [] = f
numbers_from f (w ∷ ws) = numbers_from (more f (number w)) ws

-- ---- the request

-- "C b (checkpoint); K b (cut); S b (restart)"; "the runner's K line uses the new one" (document 02, F-1): fuse 0
unfoldable pub with_one : ℕ → ℕ → Request
with_one c b =
    elim (eqb c letter_c) [
      | true ↦ Checkpoint b
      | false ↦ elim (eqb c letter_k) [ true ↦ Fuse b 0 | false ↦ elim (eqb c letter_s) [ true ↦ Restart b | false ↦ Unreadable ] ]
    ]

-- "N n p; F b k"
unfoldable pub with_two : ℕ → ℕ → ℕ → Request
with_two c b k = elim (eqb c letter_n) [ true ↦ Make b k | false ↦ elim (eqb c letter_f) [ true ↦ Fuse b k | false ↦ Unreadable ] ]

-- "R b p o"
unfoldable pub with_three : ℕ → ℕ → ℕ → ℕ → Request
with_three c b p o = elim (eqb c letter_r) [ true ↦ Read b p o | false ↦ Unreadable ]

-- "W b p o v"
unfoldable pub with_four : ℕ → ℕ → ℕ → ℕ → ℕ → Request
with_four c b p o v = elim (eqb c letter_w) [ true ↦ Write b p o v | false ↦ Unreadable ]

-- the line with letter c and these numbers
unfoldable pub request_of : ℕ → Option (List ℕ) → Request
request_of c (Some []) = Unreadable
request_of c (Some (b ∷ [])) = with_one c b
request_of c (Some (b ∷ k ∷ [])) = with_two c b k
request_of c (Some (b ∷ p ∷ o ∷ [])) = with_three c b p o
request_of c (Some (b ∷ p ∷ o ∷ v ∷ [])) = with_four c b p o v
request_of c (Some (b ∷ p ∷ o ∷ v ∷ x ∷ l)) = Unreadable
request_of c None = Unreadable

-- the first word is the letter alone
unfoldable pub request_in : List (List ℕ) → Request
request_in [] = Unreadable
request_in ([] ∷ ws) = Unreadable
request_in ((c ∷ []) ∷ ws) = request_of c (numbers_from (Some []) ws)
request_in ((c ∷ d ∷ w) ∷ ws) = Unreadable

unfoldable pub request : List ℕ → Request
request l = elim (ltb most_bytes (length l)) [ true ↦ Unreadable | false ↦ request_in (words l) ]
