-- What the library says of eight bytes and their number, in this crate's words, and what a part of them is. Assumes nothing.
use Rattle.std.proofs.Common.{◌≡◌, refl, ℕ, zero, suc, ◌+◌, ◌-◌, ◌*◌, ◌/◌, ◌%◌, ◌^◌, ◌≤◌, ◌<◌, List, [], ◌∷◌, ◌++◌, ◌∙◌, length, length-append, length-drop, length-take, take, drop, get_or, ap, pow-suc, arith}
use Rattle.std.proofs.lemmas.List.{drop-drop, get_or-drop}
use Rattle.std.specs.Int.{w64, to_le_bytes, from_le_bytes}
use Rattle.words.specs.LittleEndian.{bytes_of, number_of}

-- ---- read

pub word_number : (bs : List ℕ) → length bs ≡ 8 → from_le_bytes w64 bs ≡ number_of bs
unfolding number_of
word_number (a ∷ b ∷ c ∷ d ∷ e ∷ f ∷ g ∷ h ∷ []) k = omega arith
word_number (a ∷ b ∷ c ∷ d ∷ e ∷ f ∷ g ∷ h ∷ i ∷ is) k = absurd (omega arith)
word_number (a ∷ b ∷ c ∷ d ∷ e ∷ f ∷ g ∷ []) k = absurd (omega arith)
word_number (a ∷ b ∷ c ∷ d ∷ e ∷ f ∷ []) k = absurd (omega arith)
word_number (a ∷ b ∷ c ∷ d ∷ e ∷ []) k = absurd (omega arith)
word_number (a ∷ b ∷ c ∷ d ∷ []) k = absurd (omega arith)
word_number (a ∷ b ∷ c ∷ []) k = absurd (omega arith)
word_number (a ∷ b ∷ []) k = absurd (omega arith)
word_number (a ∷ []) k = absurd (omega arith)
word_number [] k = absurd (omega arith)

-- bytes that count nothing, and what is left of them
pub nothing_behind : (bs zs : List ℕ) → number_of zs ≡ 0 → number_of (bs ++ zs) ≡ number_of bs
unfolding number_of
nothing_behind [] zs h = h
nothing_behind (b ∷ bs) zs h = rw (nothing_behind bs zs h)

pub nothing_left : (n : ℕ) (zs : List ℕ) → number_of zs ≡ 0 → number_of (drop n zs) ≡ 0
unfolding number_of
nothing_left zero zs h = h
nothing_left (suc n) [] h = h
nothing_left (suc n) (z ∷ zs) h = nothing_left n zs (omega arith)

-- the word that is read: n bytes of a list, and zeros
pub word_read : (n at : ℕ) (s ys : List ℕ) → n ≤ 8 → at + n ≤ length s → ys ≡ take (at + n - at) (drop at s)
    → from_le_bytes w64 (ys ++ drop n (0 ∷ 0 ∷ 0 ∷ 0 ∷ 0 ∷ 0 ∷ 0 ∷ 0 ∷ [])) ≡ number_of (take n (drop at s))
unfolding number_of
word_read n at s ys few h e =
    let k : at + n - at ≡ n = omega arith in
    let none : List ℕ = 0 ∷ 0 ∷ 0 ∷ 0 ∷ 0 ∷ 0 ∷ 0 ∷ 0 ∷ [] in
    let zs : List ℕ = drop n none in
    let ys' : ys ≡ take n (drop at s) = rw k at e in
    let long : length ys ≡ n = rw ys' (grind (arith, length-take, length-drop)) in
    word_number (ys ++ zs) (omega (arith, length-append ys zs, length-drop n none))
    ∙ nothing_behind ys zs (nothing_left n none refl)
    ∙ ap number_of ys'

-- ---- how large

below_take : (n : ℕ) (l : List ℕ) → ((i : ℕ) → get_or l i 0 < 256) → (i : ℕ) → get_or (take n l) i 0 < 256
below_take zero l h i = omega arith
below_take (suc n) [] h i = omega arith
below_take (suc n) (b ∷ bs) h zero = h 0
below_take (suc n) (b ∷ bs) h (suc i) = below_take n bs (λ k. h (suc k)) i

number_below : (bs : List ℕ) → ((i : ℕ) → get_or bs i 0 < 256) → number_of bs < 256 ^ length bs
unfolding number_of
number_below [] h = omega arith
number_below (b ∷ bs) h =
    let p : b < 256 = h 0 in
    let e : 256 ^ suc (length bs) ≡ 256 ^ length bs * 256 = pow-suc 256 (length bs) in
    omega (arith, number_below bs (λ i. h (suc i)))

pub part_below : (n at : ℕ) (s : List ℕ) → at + n ≤ length s → ((i : ℕ) → get_or s i 0 < 256) → number_of (take n (drop at s)) < 256 ^ n
part_below n at s h k =
    let e : length (take n (drop at s)) ≡ n = grind (arith, length-take, length-drop) in
    rw e at (number_below (take n (drop at s)) (below_take n (drop at s) (λ i. rw (get_or-drop at s i 0) (k (at + i)))))

-- ---- written

pub word_bytes : (n : ℕ) → to_le_bytes w64 n ≡ bytes_of 8 n
unfolding bytes_of
word_bytes n =
    let b : n / 65536 ≡ n / 256 / 256 = omega arith in
    let c : n / 16777216 ≡ n / 256 / 256 / 256 = omega arith in
    let d : n / 4294967296 ≡ n / 256 / 256 / 256 / 256 = omega arith in
    let e : n / 1099511627776 ≡ n / 256 / 256 / 256 / 256 / 256 = omega arith in
    let f : n / 281474976710656 ≡ n / 256 / 256 / 256 / 256 / 256 / 256 = omega arith in
    let g : n / 72057594037927936 ≡ n / 256 / 256 / 256 / 256 / 256 / 256 / 256 = omega arith in
    rw (b, c, d, e, f, g)

pub lowest_bytes : (k w n : ℕ) → k ≤ w → take k (bytes_of w n) ≡ bytes_of k n
unfolding bytes_of
lowest_bytes zero w n h = refl
lowest_bytes (suc k) zero n h = absurd (omega arith)
lowest_bytes (suc k) (suc w) n h = rw (lowest_bytes k w (n / 256) (omega arith))

-- the word that is written: n of its bytes, over those at a place
pub word_written : (n at v : ℕ) (s ys : List ℕ) → n ≤ 8 → ys ≡ take n (to_le_bytes w64 v)
    → take at s ++ (ys ++ drop (at + n - at) (drop at s)) ≡ take at s ++ (bytes_of n v ++ drop (at + n) s)
word_written n at v s ys few e =
    let k : at + n - at ≡ n = omega arith in
    rw (e, word_bytes v, lowest_bytes n 8 v few, k, drop-drop n at s)
