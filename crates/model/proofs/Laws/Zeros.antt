-- Zero bytes: how many there are, that they are bytes, and runs of them joined, cut and written. Assumes nothing.
use Rattle.std.specs.Prelude.{◌≡◌, ℕ, ◌+◌, ◌-◌, ◌≤◌, List, ◌++◌, length, drop}
use Rattle.std.proofs.Common.{◌∙◌, arith, drop_at, lit<}
use Rattle.std.proofs.lemmas.List.{length-replicate, replicate-append-replicate}
use Rattle.words.specs.Bytes.{Bytes}
use Rattle.model.specs.Definitions.Parts.{part, splice, zeros}
use Rattle.model.proofs.Laws.Lists.{each_replicate}
use Rattle.model.proofs.Laws.Parts.{part_at, splice_of, splice_next, split_part}

pub zeros_bytes : (n : ℕ) → Bytes (zeros n)
unfolding zeros
zeros_bytes n = each_replicate n 0 (lit< tt)

pub zeros_length : (n : ℕ) → length (zeros n) ≡ n
unfolding zeros
zeros_length n = length-replicate n 0

pub zeros_append : (m n : ℕ) → zeros m ++ zeros n ≡ zeros (m + n)
unfolding zeros
zeros_append m n = replicate-append-replicate m n 0

-- of a longer run what is left behind its first ones
pub zeros_drop : (m n : ℕ) → drop m (zeros (m + n)) ≡ zeros n
zeros_drop m n = rw (← zeros_append m n) (drop_at (zeros m) (zeros n) m (zeros_length m))

-- two runs of zeros side by side are one
pub zeros_next : (l : List ℕ) (a b m n : ℕ) → a + m ≡ b → a ≤ length l → splice (splice l a (zeros m)) b (zeros n) ≡ splice l a (zeros (m + n))
zeros_next l a b m n e h =
    let w : length (zeros m) ≡ m = zeros_length m in
    rw (← zeros_append m n) (splice_next l a b (zeros m) (zeros n) (omega arith) h)

-- a part of them
pub zeros_part : (n a k : ℕ) → a + k ≤ n → part (zeros n) a k ≡ zeros k
zeros_part n a k h =
    let e : n ≡ a + (k + (n - (a + k))) = omega arith in
    rw (e, ← zeros_append a (k + (n - (a + k))), ← zeros_append k (n - (a + k)))
    (part_at (zeros a) (zeros k) (zeros (n - (a + k))) a k (zeros_length a) (zeros_length k))

-- zeros written over zeros
pub zeros_over : (l : List ℕ) (a n : ℕ) → part l a n ≡ zeros n → splice l a (zeros n) ≡ l
zeros_over l a n e = splice_of l a (zeros n) n (zeros_length n) ∙ rw (← e) (split_part l a n)
