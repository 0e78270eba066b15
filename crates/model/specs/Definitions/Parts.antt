-- Lists as the bank needs them: parts of a list, elements of one width side by side, one element changed, all elements by index,
-- tests over an index, and the bits of a set of boards. Over any element type and width. Assumes nothing.
use Rattle.std.specs.Prelude.{ℕ, zero, suc, ◌+◌, ◌*◌, ◌/◌, ◌%◌, Bool, true, false, ◌&&◌, List, [], ◌∷◌, ◌++◌, length, take, drop, replicate, get_or, eqb}
use Rattle.std.proofs.Math.Option.{Option, none, some}

-- the `n` elements from place `a` on
unfoldable pub part {ℓ} : {A : Type ℓ} → List A → ℕ → ℕ → List A
part l a n = take n (drop a l)

-- the list with `v` written over it from place `a` on
unfoldable pub splice {ℓ} : {A : Type ℓ} → List A → ℕ → List A → List A
splice l a v = take a l ++ (v ++ drop (a + length v) l)

-- the byte at place `i`
unfoldable pub byte_at : List ℕ → ℕ → ℕ
byte_at l i = get_or l i 0

unfoldable pub zeros : ℕ → List ℕ
zeros n = replicate n 0

module _ {A : Type 0} where
  -- all of `xs`, each written by `enc`, side by side
  unfoldable pub encode_all : (A → List ℕ) → List A → List ℕ
  encode_all enc [] = []
  encode_all enc (x ∷ xs) = enc x ++ encode_all enc xs

  -- the first `n` elements of `l`, each `width` bytes wide, read by `dec`
  unfoldable pub decode_all : (List ℕ → A) → ℕ → ℕ → List ℕ → List A
  decode_all dec width zero l = []
  decode_all dec width (suc n) l = dec (take width l) ∷ decode_all dec width n (drop width l)

  -- element `i` changed by `f`, the others as they were
  unfoldable pub update : ℕ → (A → A) → List A → List A
  update i f [] = []
  update zero f (x ∷ xs) = f x ∷ xs
  update (suc i) f (x ∷ xs) = x ∷ update i f xs

  -- each element changed by what `f` says for its index; indices start at `i`
  unfoldable pub each_from : ℕ → (ℕ → A → A) → List A → List A
  each_from i f [] = []
  each_from i f (x ∷ xs) = f i x ∷ each_from (suc i) f xs

  unfoldable pub each : (ℕ → A → A) → List A → List A
  each f xs = each_from 0 f xs

  -- f i, f (i + 1), .., n of them
  unfoldable pub tabulate_from : ℕ → ℕ → (ℕ → A) → List A
  tabulate_from i zero f = []
  tabulate_from i (suc n) f = f i ∷ tabulate_from (suc i) n f

  unfoldable pub tabulate : ℕ → (ℕ → A) → List A
  tabulate n f = tabulate_from 0 n f

  -- the sum of `f` over a list
  unfoldable pub sum_over : (A → ℕ) → List A → ℕ
  sum_over f [] = 0
  sum_over f (x ∷ xs) = f x + sum_over f xs

  -- a test of every element
  unfoldable pub every : (A → Bool) → List A → Bool
  every f [] = true
  every f (x ∷ xs) = f x && every f xs

-- a test of the `n` indices from `i` on
unfoldable pub every_from : ℕ → ℕ → (ℕ → Bool) → Bool
every_from i zero f = true
every_from i (suc n) f = f i && every_from (suc i) n f

-- a test of every index below `n`
unfoldable pub every_below : ℕ → (ℕ → Bool) → Bool
every_below n f = every_from 0 n f

-- the lowest of the `n` indices from `i` on that passes a test
unfoldable pub first_from : ℕ → ℕ → (ℕ → Bool) → Option ℕ
first_from i zero f = none
first_from i (suc n) f = elim (f i) [ true ↦ some i | false ↦ first_from (suc i) n f ]

-- the lowest index below `n` that passes a test
unfoldable pub first_below : ℕ → (ℕ → Bool) → Option ℕ
first_below n f = first_from 0 n f

-- the indices, of the `n` from `i` on, that pass a test: rising
unfoldable pub all_from : ℕ → ℕ → (ℕ → Bool) → List ℕ
all_from i zero f = []
all_from i (suc n) f = elim (f i) [ true ↦ i ∷ all_from (suc i) n f | false ↦ all_from (suc i) n f ]

-- the indices below `n` that pass a test
unfoldable pub all_below : ℕ → (ℕ → Bool) → List ℕ
all_below n f = all_from 0 n f

-- the sum of `f` over the `n` indices from `i` on
unfoldable pub sum_from : ℕ → ℕ → (ℕ → ℕ) → ℕ
sum_from i zero f = 0
sum_from i (suc n) f = f i + sum_from (suc i) n f

-- the sum of `f` over the indices below `n`
unfoldable pub sum_below : ℕ → (ℕ → ℕ) → ℕ
sum_below n f = sum_from 0 n f

-- ---- a set of boards as a number: "bit b stands for board b"

unfoldable pub member : ℕ → ℕ → Bool
member zero set = eqb (set % 2) 1
member (suc b) set = member b (set / 2)

unfoldable pub with_member : ℕ → ℕ → ℕ
with_member zero set = 2 * (set / 2) + 1
with_member (suc b) set = 2 * with_member b (set / 2) + set % 2

unfoldable pub without_member : ℕ → ℕ → ℕ
without_member zero set = 2 * (set / 2)
without_member (suc b) set = 2 * without_member b (set / 2) + set % 2
