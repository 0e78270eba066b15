-- A run of elements read or stored one by one from a place on, as straight-line code does it, is that part of the list: for any width.
-- Assumes nothing.
use mathlib.Core.Path.{◌≡◌, refl}
use Prim.Native.Nat.{ℕ, zero, suc, ◌+◌, ◌≤◌}
use native.Mathlib.Nat.{add-suc}
use native.Mathlib.Numerals.{add-one}
use native.Mathlib.Omega.{arith}
use mathlib.Core.List.{List, [], ◌∷◌, ◌++◌, append_assoc}
use lib.ListN.{length, take, drop, get_or, set}
use lib.Seq.{drop-cons, sets, sets-eq}

-- the elements at places at + k, at + k + 1, .., n of them
abbrev pub cells_from : List ℕ → ℕ → ℕ → ℕ → List ℕ
cells_from l at k zero = []
cells_from l at k (suc n) = get_or l (at + k) 0 ∷ cells_from l at (suc k) n

abbrev pub cells : List ℕ → ℕ → ℕ → List ℕ
cells l at zero = []
cells l at (suc n) = get_or l at 0 ∷ cells_from l at 1 n

cells_from_part : (l : List ℕ) (at k n : ℕ) → at + k + n ≤ length l → take n (drop (at + k) l) ≡ cells_from l at k n
cells_from_part l at k zero h = refl
cells_from_part l at k (suc n) h =
    let e : at + suc k ≡ suc (at + k) = omega arith in
    rw (drop-cons l (at + k) 0 (omega arith), ← e, cells_from_part l at (suc k) n (omega arith))

pub cells_part : (l : List ℕ) (at n : ℕ) → at + n ≤ length l → take n (drop at l) ≡ cells l at n
cells_part l at zero h = refl
cells_part l at (suc n) h = rw (drop-cons l at 0 (omega arith), ← add-one at, cells_from_part l at 1 n (omega arith))

-- the list with vs stored at places at + k, at + k + 1, ..
abbrev pub stores_from : List ℕ → ℕ → ℕ → List ℕ → List ℕ
stores_from l at k [] = l
stores_from l at k (v ∷ vs) = stores_from (set l (at + k) v) at (suc k) vs

abbrev pub stores : List ℕ → ℕ → List ℕ → List ℕ
stores l at [] = l
stores l at (v ∷ vs) = stores_from (set l at v) at 1 vs

stores_from_sets : (vs l : List ℕ) (at k : ℕ) → stores_from l at k vs ≡ sets l (at + k) vs
stores_from_sets [] l at k = refl
stores_from_sets (v ∷ vs) l at k = rw (stores_from_sets vs (set l (at + k) v) at (suc k), add-suc)

stores_sets : (vs l : List ℕ) (at : ℕ) → stores l at vs ≡ sets l at vs
stores_sets [] l at = refl
stores_sets (v ∷ vs) l at = rw (stores_from_sets vs (set l at v) at 1, add-one at)

pub stores_splice : (l : List ℕ) (at : ℕ) (vs : List ℕ) → at + length vs ≤ length l
    → stores l at vs ≡ take at l ++ (vs ++ drop (at + length vs) l)
stores_splice l at vs h = rw (stores_sets vs l at, sets-eq vs l at h, append_assoc)
