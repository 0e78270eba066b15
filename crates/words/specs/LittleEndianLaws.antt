-- Laws of numbers as bytes, for any width: a number that fits reads back from its bytes, and bytes are the bytes of their number.
-- Assumes nothing.
use Rattle.std.specs.Prelude.{◌≡◌, refl, ℕ, zero, suc, ◌+◌, ◌*◌, ◌/◌, ◌%◌, ◌^◌, ◌<◌, List, [], ◌∷◌, length}
use Rattle.std.proofs.Common.{ap, pow-suc, arith}
use Rattle.words.specs.Bytes.{each_nil, each_cons, Bytes}
use Rattle.words.specs.LittleEndian.{bytes_of, number_of}

pub length_bytes_of : (w n : ℕ) → length (bytes_of w n) ≡ w
unfolding bytes_of
length_bytes_of zero n = refl
length_bytes_of (suc w) n = ap suc (length_bytes_of w (n / 256))

pub bytes_bytes_of : (w n : ℕ) → Bytes (bytes_of w n)
unfolding bytes_of
bytes_bytes_of zero n = each_nil
bytes_bytes_of (suc w) n = let p : n % 256 < 256 = omega arith in each_cons p (bytes_bytes_of w (n / 256))

-- what was written reads back, where it fits
pub number_of_bytes_of : (w n : ℕ) → n < 256 ^ w → number_of (bytes_of w n) ≡ n
unfolding bytes_of number_of
number_of_bytes_of zero n h = omega arith
number_of_bytes_of (suc w) n h =
    let e : 256 ^ suc w ≡ 256 ^ w * 256 = pow-suc 256 w in
    let r : number_of (bytes_of w (n / 256)) ≡ n / 256 = number_of_bytes_of w (n / 256) (omega arith) in
    omega arith

low : (b r : ℕ) → b < 256 → (b + 256 * r) % 256 ≡ b
low b r h = omega arith

high : (b r : ℕ) → b < 256 → (b + 256 * r) / 256 ≡ r
high b r h = omega arith

-- what was read writes back
pub bytes_of_number_of : (w : ℕ) (bs : List ℕ) → Bytes bs → length bs ≡ w → bytes_of w (number_of bs) ≡ bs
unfolding bytes_of number_of
bytes_of_number_of zero [] h e = refl
bytes_of_number_of zero (b ∷ bs) h e = absurd (omega arith)
bytes_of_number_of (suc w) [] h e = absurd (omega arith)
bytes_of_number_of (suc w) (b ∷ bs) (each_cons p ps) e =
    rw (low b (number_of bs) p, high b (number_of bs) p, bytes_of_number_of w bs ps (omega arith))

pub number_of_below : (w : ℕ) (bs : List ℕ) → Bytes bs → length bs ≡ w → number_of bs < 256 ^ w
unfolding number_of
number_of_below zero [] h e = omega arith
number_of_below zero (b ∷ bs) h e = absurd (omega arith)
number_of_below (suc w) [] h e = absurd (omega arith)
number_of_below (suc w) (b ∷ bs) (each_cons p ps) e =
    let q : 256 ^ suc w ≡ 256 ^ w * 256 = pow-suc 256 w in
    let r : number_of bs < 256 ^ w = number_of_below w bs ps (omega arith) in
    omega arith
