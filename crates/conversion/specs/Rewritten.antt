-- What a loop writes that reads elements of one width and writes them anew in another, one behind the other. Assumes nothing.
use Rattle.std.specs.Prelude.{◌≡◌, List, [], ◌∷◌, ◌++◌, length, take, drop}
use Rattle.std.proofs.Common.{sym, ◌∙◌, zero-mul, mul-le-mul_right, add-one, arith, length-take, length-drop}
use Rattle.std.proofs.Math.Path.{ap}
use Prim.Native.Nat.{ℕ, zero, suc, ◌+◌, ◌*◌, ◌-◌, ◌≤◌, ◌<◌}
use Rattle.std.proofs.Math.Nat.{suc-mul}
use Rattle.std.proofs.Math.ListN.{length-append}
use Rattle.model.specs.Definitions.Parts.{part, splice, encode_all, decode_all}
use Rattle.model.proofs.Laws.Parts.{decode_all_add, encode_all_snoc, splice_next, length_splice, index_in, part_drop, part_splice_after}
use Rattle.fields.proofs.Lent.{lent_part, lent_written}
use Rattle.fields.proofs.Splices.{splice_none}

-- elements read by `dec` in one width, written by `enc` in the other
module _ {A : Type 0} (dec : List ℕ → A) (enc : A → List ℕ) (from to : ℕ) where
  -- the first n elements of l
  unfoldable pub rewritten : ℕ → List ℕ → List ℕ
  rewritten n l = encode_all enc (decode_all dec from n l)

  -- the first n of them are as wide as they should be
  abbrev pub Wide : ℕ → List ℕ → Type 0
  Wide n l = (i : ℕ) → i < n → length (enc (dec (part l (i * from) from))) ≡ to

  rewritten_next : (n : ℕ) (l : List ℕ) → rewritten (suc n) l ≡ rewritten n l ++ enc (dec (part l (n * from) from))
  unfolding rewritten decode_all part
  rewritten_next n l =
      let e : decode_all dec from (suc n) l ≡ decode_all dec from n l ++ (dec (part l (n * from) from) ∷ [])
      = rw (add-one n) at (decode_all_add dec from n 1 l) in
      ap (encode_all enc) e ∙ encode_all_snoc enc from (decode_all dec from n l) (dec (part l (n * from) from))

  pub rewritten_length : (n : ℕ) (l : List ℕ) → Wide n l → length (rewritten n l) ≡ n * to
  unfolding rewritten decode_all encode_all
  rewritten_length zero l w = rw (zero-mul to)
  rewritten_length (suc n) l w =
      rw (rewritten_next n l, length-append (rewritten n l) (enc (dec (part l (n * from) from))), suc-mul n to)
      (omega (arith, rewritten_length n l (λ i h. w i (omega arith)), w n (omega arith)))

  -- the loop's invariant, where it begins and after a turn
  pub written_none : (l t : List ℕ) (a : ℕ) → t ≡ splice t a (rewritten 0 l)
  unfolding rewritten decode_all encode_all
  written_none l t a = splice_none t a

  written_more : (l t₀ t : List ℕ) (a i n : ℕ) → Wide n l → i < n → a ≤ length t₀ → t ≡ splice t₀ a (rewritten i l)
      → splice t (a + i * to) (enc (dec (part l (i * from) from))) ≡ splice t₀ a (rewritten (i + 1) l)
  written_more l t₀ t a i n w h k e =
      let m : length (rewritten i l) ≡ i * to = rewritten_length i l (λ j g. w j (omega arith)) in
      rw (e, add-one i, rewritten_next i l) (splice_next t₀ a (a + i * to) (rewritten i l) (enc (dec (part l (i * from) from))) (omega arith) k)

  -- what is written lies inside
  pub written_length : (l t₀ : List ℕ) (a i n : ℕ) → Wide n l → i ≤ n → length t₀ ≡ a + n * to → length (splice t₀ a (rewritten i l)) ≡ a + n * to
  written_length l t₀ a i n w h e =
      let k : length (rewritten i l) ≡ i * to = rewritten_length i l (λ j g. w j (omega arith)) in
      let m : i * to ≤ n * to = mul-le-mul_right {m = i} {n = n} to h in
      length_splice t₀ a (rewritten i l) (omega arith) ∙ e

  -- ---- a turn: the first i of n elements behind place z of s are written over t₀, and `&s[a..a + f]` and `&mut t[b..b + g]` are the next

  pub record Turn (n : ℕ) (s t₀ t : List ℕ) (z i a f b g : ℕ) : Type 0 where
    pub source : length s ≡ z + n * from
    pub wide : Wide n (drop z s)
    pub whole : length t₀ ≡ z + n * to
    pub bytes : t ≡ splice t₀ z (rewritten i (drop z s))
    pub next : i < n
    pub read : a ≡ z + i * from
    pub narrow : f ≡ from
    pub place : b ≡ z + i * to
    pub size : g ≡ to

module _ {A : Type 0} {dec : List ℕ → A} {enc : A → List ℕ} {from to n : ℕ} {s t₀ t : List ℕ} {z i a f b g : ℕ}
    (x : Turn dec enc from to n s t₀ t z i a f b g) where
  pub turn_read : a + f ≤ length s
  turn_read = omega (arith, index_in from n i x.next, x.source, x.read, x.narrow)

  pub turn_kept : length t ≡ z + n * to
  turn_kept = rw x.bytes (written_length dec enc from to (drop z s) t₀ z i n x.wide (omega (arith, x.next)) x.whole)

  pub turn_in : b + g ≤ length t
  turn_in = omega (arith, index_in to n i x.next, turn_kept, x.place, x.size)

  -- what is lent to be read
  pub turn_lent : take (a + f - a) (drop a s) ≡ part s (z + i * from) from
  turn_lent = lent_part s a f ∙ rw (x.read, x.narrow)

  pub turn_length : length (take (b + g - b) (drop b t)) ≡ to
  turn_length = simp (length-take, length-drop) (omega (arith, turn_in, x.size))

  pub turn_written : (ys : List ℕ) → length ys ≡ length (take (b + g - b) (drop b t)) → ys ≡ enc (dec (take (a + f - a) (drop a s)))
      → take b t ++ (ys ++ drop (b + g - b) (drop b t)) ≡ splice t₀ z (rewritten dec enc from to (i + 1) (drop z s))
  turn_written ys kept e =
      lent_written t ys b g (λ _. enc (dec (take (a + f - a) (drop a s)))) turn_in kept e
      ∙ rw (turn_lent, ← part_drop s z (i * from) from, x.place)
      (written_more dec enc from to (drop z s) t₀ t z i n x.wide x.next (omega (arith, x.whole)) x.bytes)

-- ---- in place: what isn't written yet is as it was

module _ {A : Type 0} {dec : List ℕ → A} {enc : A → List ℕ} {width n : ℕ} {s t : List ℕ} {z i a f : ℕ}
    (x : Turn dec enc width width n s s t z i a f a f) where
  pub turn_unwritten : take (a + f - a) (drop a t) ≡ take (a + f - a) (drop a s)
  turn_unwritten =
      let k : length (rewritten dec enc width width i (drop z s)) ≡ i * width =
      rewritten_length dec enc width width i (drop z s) (λ j h. x.wide j (omega (arith, x.next))) in
      lent_part t a f
      ∙ rw x.bytes (part_splice_after s z (rewritten dec enc width width i (drop z s)) a f (omega (arith, x.read)) (omega (arith, x.source)))
      ∙ sym (lent_part s a f)
