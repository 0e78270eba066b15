-- Splices as loops and runs of stores make them: element by element, side by side, over the whole. Assumes nothing.
use mathlib.Core.Path.{◌≡◌, sym, ◌∙◌}
use Prim.Native.Nat.{ℕ, ◌+◌, ◌≤◌, ◌<◌}
use native.Mathlib.Nat.{add-zero, zero-add}
use native.Mathlib.Numerals.{add-one}
use native.Mathlib.Omega.{arith}
use mathlib.Core.List.{List, [], ◌∷◌, ◌++◌, append-nil, append_assoc}
use lib.ListN.{length, take, drop, get_or, set, take-append-drop, drop_of_length-le, length-append}
use lib.Seq.{length-take-le, take_all, take-suc}
use Rattle.words.specs.LittleEndian.{bytes_of}
use Rattle.words.specs.LittleEndianLaws.{length_bytes_of}
use Rattle.model.specs.Definitions.Parts.{part, splice}
use Rattle.model.proofs.Laws.Parts.{length_splice, length_part, get_d_part, splice_one, splice_next}

module _ {A : Type 0} where
  -- nothing written
  pub splice_none : (l : List A) (at : ℕ) → l ≡ splice l at []
  unfolding splice
  splice_none l at = rw add-zero (sym (take-append-drop at l))

  -- all of it written
  pub splice_whole : (l v : List A) → length l ≡ length v → splice l 0 v ≡ v
  unfolding splice
  splice_whole l v e = rw (zero-add, drop_of_length-le l {i = length v} (omega arith), append-nil)

  -- one element more of a run
  pub splice_more : (l : List A) (at : ℕ) (v : List A) (i : ℕ) (d : A) → at + length v ≤ length l → i < length v
      → set (splice l at (take i v)) (at + i) (get_or v i d) ≡ splice l at (take (i + 1) v)
  splice_more l at v i d h k =
      let e : length (take i v) ≡ i = length-take-le i v (omega arith) in
      let f : length (splice l at (take i v)) ≡ length l = length_splice l at (take i v) (omega arith) in
      rw (add-one i, take-suc v i d k)
      (sym (splice_one (splice l at (take i v)) (at + i) (get_or v i d) (omega arith))
      ∙ splice_next l at (at + i) (take i v) (get_or v i d ∷ []) (omega arith) (omega arith))

  -- the same where the run is a part of another list, copied to the front
  pub splice_more_part : (l : List A) (s : List A) (at n i : ℕ) (d : A) → length l ≡ n → at + n ≤ length s → i < n
      → set (splice l 0 (take i (part s at n))) i (get_or s (at + i) d) ≡ splice l 0 (take (i + 1) (part s at n))
  splice_more_part l s at n i d e h k =
      let f : length (part s at n) ≡ n = length_part s at n h in
      rw (← get_d_part s at n i d k)
      (rw zero-add at (splice_more l 0 (part s at n) i d (omega arith) (omega arith)))

  pub splice_done : (l v : List A) (at i : ℕ) → length v ≤ i → splice l at (take i v) ≡ splice l at v
  splice_done l v at i h = rw (take_all i v h)

  -- two and three runs side by side over a whole list
  pub splice_pair : (l v w : List A) (b : ℕ) → length v ≡ b → length l ≡ length v + length w → splice (splice l 0 v) b w ≡ v ++ w
  splice_pair l v w b e h =
      splice_next l 0 b v w (omega arith) (omega arith) ∙ splice_whole l (v ++ w) (rw (length-append v w) h)

  pub splice_triple : (l u v w : List A) (b c : ℕ) → length u ≡ b → length u + length v ≡ c → length l ≡ length u + (length v + length w)
      → splice (splice (splice l 0 u) b v) c w ≡ u ++ (v ++ w)
  splice_triple l u v w b c e f h =
      let k : length (u ++ v) ≡ length u + length v = length-append u v in
      rw (splice_next l 0 b u v (omega arith) (omega arith)) (splice_pair l (u ++ v) w c (omega arith) (omega arith) ∙ append_assoc u v w)

-- a number written at a place, as the writers of `words` say it
pub splice_word : (l : List ℕ) (at n v : ℕ) → take at l ++ (bytes_of n v ++ drop (at + n) l) ≡ splice l at (bytes_of n v)
unfolding splice
splice_word l at n v = rw (length_bytes_of n v)
