-- Laws of a set of boards as a number (Definitions.Parts): who is a member after one joins or leaves, bounds, and that the count of trailing zeros is the
-- lowest member. Assumes nothing.
use Rattle.std.specs.Prelude.{◌≡◌, refl, ◌≢◌, ℕ, zero, suc, ◌+◌, ◌*◌, ◌/◌, ◌%◌, ◌^◌, ◌≤◌, ◌<◌, true, false}
use Rattle.std.proofs.Common.{ap, pow-suc, not-suc-le-zero, le_of_suc-le-suc, arith, eq-eqb, ne_eqb}
use Rattle.std.proofs.Math.Decide.{dec_lt}
use Rattle.std.specs.Int.Count.{count_trailing_zeros}
use Rattle.model.specs.Definitions.Parts.{member, with_member, without_member}
use Rattle.model.proofs.Laws.Logic.{by_eq, clash}

-- a number made of a half and a lowest digit
low : (x y : ℕ) → (2 * x + y % 2) % 2 ≡ y % 2
low x y = omega arith

high : (x y : ℕ) → (2 * x + y % 2) / 2 ≡ x
high x y = omega arith

odd_low : (x : ℕ) → (2 * x + 1) % 2 ≡ 1
odd_low x = omega arith

odd_high : (x : ℕ) → (2 * x + 1) / 2 ≡ x
odd_high x = omega arith

even_low : (x : ℕ) → (2 * x) % 2 ≡ 0
even_low x = omega arith

even_high : (x : ℕ) → (2 * x) / 2 ≡ x
even_high x = omega arith

pub member_with_same : (b set : ℕ) → member b (with_member b set) ≡ true
unfolding member with_member
member_with_same zero set = rw odd_low
member_with_same (suc b) set = rw high (member_with_same b (set / 2))

pub member_with_other : (b c set : ℕ) → c ≢ b → member c (with_member b set) ≡ member c set
unfolding member with_member
member_with_other zero zero set h = absurd (h refl)
member_with_other zero (suc c) set h = rw odd_high
member_with_other (suc b) zero set h = rw low
member_with_other (suc b) (suc c) set h = rw high (member_with_other b c (set / 2) (λ e. h (ap suc e)))

pub member_without_same : (b set : ℕ) → member b (without_member b set) ≡ false
unfolding member without_member
member_without_same zero set = rw even_low
member_without_same (suc b) set = rw high (member_without_same b (set / 2))

pub member_without_other : (b c set : ℕ) → c ≢ b → member c (without_member b set) ≡ member c set
unfolding member without_member
member_without_other zero zero set h = absurd (h refl)
member_without_other zero (suc c) set h = rw even_high
member_without_other (suc b) zero set h = rw low
member_without_other (suc b) (suc c) set h = rw high (member_without_other b c (set / 2) (λ e. h (ap suc e)))

pub member_none : (b : ℕ) → member b 0 ≡ false
unfolding member
member_none zero = refl
member_none (suc b) = member_none b

-- a set below 2 ^ n has no member at or past n
pub member_past : (n b set : ℕ) → set < 2 ^ n → n ≤ b → member b set ≡ false
unfolding member
member_past zero b set h l = let e : set ≡ 0 = omega arith in rw e (member_none b)
member_past (suc n) zero set h l = absurd (not-suc-le-zero l)
member_past (suc n) (suc b) set h l =
    let e : 2 ^ suc n ≡ 2 ^ n * 2 = pow-suc 2 n in
    member_past n b (set / 2) (omega arith) (le_of_suc-le-suc l)

pub member_below : (n b set : ℕ) → set < 2 ^ n → member b set ≡ true → b < n
member_below n b set h m = elim (dec_lt b n) [ yes l ↦ l | no l ↦ clash m (member_past n b set h (omega arith)) ]

pub with_below : (n b set : ℕ) → set < 2 ^ n → b < n → with_member b set < 2 ^ n
unfolding with_member
with_below zero b set h l = absurd (not-suc-le-zero l)
with_below (suc n) zero set h l =
    let e : 2 ^ suc n ≡ 2 ^ n * 2 = pow-suc 2 n in
    omega arith
with_below (suc n) (suc b) set h l =
    let e : 2 ^ suc n ≡ 2 ^ n * 2 = pow-suc 2 n in
    let r : with_member b (set / 2) < 2 ^ n = with_below n b (set / 2) (omega arith) (le_of_suc-le-suc l) in
    omega arith

pub without_le : (b set : ℕ) → without_member b set ≤ set
unfolding without_member
without_le zero set = omega arith
without_le (suc b) set = let r : without_member b (set / 2) ≤ set / 2 = without_le b (set / 2) in omega arith

-- ---- the lowest member

even_trailing : (k set : ℕ) → set % 2 ≡ 0 → count_trailing_zeros (suc k) set ≡ suc (count_trailing_zeros k (set / 2))
unfolding count_trailing_zeros
even_trailing k set e = rw e

odd_trailing : (k set : ℕ) → set % 2 ≡ 1 → count_trailing_zeros (suc k) set ≡ 0
unfolding count_trailing_zeros
odd_trailing k set e = rw e

-- where it is below the width, it is a member
pub lowest_member : (k set : ℕ) → count_trailing_zeros k set < k → member (count_trailing_zeros k set) set ≡ true
unfolding member
lowest_member zero set h = absurd (not-suc-le-zero h)
lowest_member (suc k) set h =
    by_eq (set % 2) 0
    (λ e.
    let f : count_trailing_zeros (suc k) set ≡ suc (count_trailing_zeros k (set / 2)) = even_trailing k set e in
    rw f (lowest_member k (set / 2) (omega arith)))
    (λ n.
    let e : set % 2 ≡ 1 = omega arith in
    rw (odd_trailing k set e) (eq-eqb (set % 2) 1 e))

-- none below it is one
pub lowest_others : (k set j : ℕ) → j < count_trailing_zeros k set → member j set ≡ false
unfolding member count_trailing_zeros
lowest_others zero set j h = absurd (not-suc-le-zero h)
lowest_others (suc k) set zero h =
    by_eq (set % 2) 1
    (λ e. let f : count_trailing_zeros (suc k) set ≡ 0 = odd_trailing k set e in absurd (omega arith))
    (λ n. ne_eqb (set % 2) 1 n)
lowest_others (suc k) set (suc j) h =
    by_eq (set % 2) 0
    (λ e.
    let f : count_trailing_zeros (suc k) set ≡ suc (count_trailing_zeros k (set / 2)) = even_trailing k set e in
    lowest_others k (set / 2) j (omega arith))
    (λ n.
    let e : set % 2 ≡ 1 = omega arith in
    let f : count_trailing_zeros (suc k) set ≡ 0 = odd_trailing k set e in
    absurd (omega arith))

-- a set that is not empty has a lowest member
pub lowest_in : (k set : ℕ) → set < 2 ^ k → set ≢ 0 → count_trailing_zeros k set < k
unfolding count_trailing_zeros
lowest_in zero set h n = absurd (n (omega arith))
lowest_in (suc k) set h n =
    let e : 2 ^ suc k ≡ 2 ^ k * 2 = pow-suc 2 k in
    by_eq (set % 2) 0
    (λ z. let m : count_trailing_zeros k (set / 2) < k = lowest_in k (set / 2) (omega arith) (λ y. n (omega arith)) in rw z (omega arith))
    (λ z. let o : set % 2 ≡ 1 = omega arith in rw o (omega arith))
