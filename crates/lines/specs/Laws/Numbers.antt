-- Reading a number digit by digit, and printing one. Assumes nothing.
use Rattle.std.specs.Prelude.{◌≡◌, ℕ, zero, suc, ◌+◌, ◌-◌, ◌*◌, ◌/◌, ◌%◌, ◌^◌, ◌≤◌, ◌<◌, true, false, Some, None, List, [], ◌∷◌, ◌++◌, length, drop, get_or, eqb, ltb, leb}
use Rattle.std.proofs.Common.{sym, ◌∙◌, arith, add-one, length-append, drop_of_length-le, drop-cons, eq-eqb, ne_eqb, lt-ltb, le-ltb, ltb-true, ltb-false, le-leb, leb-true}
use Rattle.std.proofs.lemmas.Bool.{lt-leb}
use Rattle.std.specs.Fmt as std
use Rattle.std.proofs.lemmas.Fmt.{decimal_by_steps}
use Rattle.model.specs.Definitions.Parts.{every}
use Rattle.lines.specs.Definitions.Numbers.{largest_number}
use Rattle.model.proofs.Laws.Logic.{by_bool, and_left}
use Rattle.lines.specs.Definitions.Numbers.{digit_zero, digits_in, decimal, is_digit, value_from, leading_zero, digits_from, number}
use Rattle.lines.specs.Clauses.{most_digits}

-- ---- read

-- more digits make no smaller number
value_grows : (v : ℕ) (w : List ℕ) → v ≤ value_from v w
unfolding value_from
value_grows v [] = omega arith
value_grows v (c ∷ w) =
    let h : 10 * v + (c - digit_zero) ≤ value_from (10 * v + (c - digit_zero)) w = value_grows (10 * v + (c - digit_zero)) w in omega arith

pub digits_end : (v : ℕ) → v ≤ largest_number → digits_from v [] ≡ Some v
unfolding digits_from every value_from
digits_end v h = cc (le-leb v largest_number h)

pub digits_other : (v c : ℕ) (w : List ℕ) → is_digit c ≡ false → digits_from v (c ∷ w) ≡ None
unfolding digits_from every
digits_other v c w e = cc e

pub digits_next : (v c : ℕ) (w : List ℕ) → is_digit c ≡ true → digits_from v (c ∷ w) ≡ digits_from (10 * v + (c - digit_zero)) w
unfolding digits_from every value_from
digits_next v c w e = cc e

pub digits_over : (v : ℕ) (w : List ℕ) → largest_number < v → digits_from v w ≡ None
unfolding digits_from
digits_over v w h =
    let k : leb (value_from v w) largest_number ≡ false = lt-leb (value_from v w) largest_number (omega (arith, value_grows v w)) in
    by_bool (every is_digit w) (λ t. cc (t, k)) (λ t. cc (t, k))

pub digit_least : (c : ℕ) → is_digit c ≡ true → digit_zero ≤ c
unfolding is_digit
digit_least c t = leb-true digit_zero c (and_left (leb digit_zero c) _ t)

-- the same at a place of a word
pub digits_end_at : (v : ℕ) (l : List ℕ) (i : ℕ) → v ≤ largest_number → length l ≤ i → digits_from v (drop i l) ≡ Some v
digits_end_at v l i h k = rw (drop_of_length-le l k) (digits_end v h)

module _ (v : ℕ) (l : List ℕ) (i : ℕ) (h : i < length l) where
  pub digits_other_at : is_digit (get_or l i 0) ≡ false → digits_from v (drop i l) ≡ None
  digits_other_at e = rw (drop-cons l i 0 h) (digits_other v (get_or l i 0) (drop (suc i) l) e)

  pub digits_next_at : is_digit (get_or l i 0) ≡ true → digits_from v (drop i l) ≡ digits_from (10 * v + (get_or l i 0 - digit_zero)) (drop (i + 1) l)
  digits_next_at e = rw (drop-cons l i 0 h, add-one i) (digits_next v (get_or l i 0) (drop (suc i) l) e)

  pub digits_over_at : is_digit (get_or l i 0) ≡ true → largest_number < 10 * v + (get_or l i 0 - digit_zero) → digits_from v (drop i l) ≡ None
  digits_over_at e k = digits_next_at e ∙ digits_over _ _ k

-- ---- a number, by the tests of the code

pub leading_short : (w : List ℕ) → length w ≤ 1 → leading_zero w ≡ false
unfolding leading_zero
leading_short w h = by_bool (eqb (get_or w 0 0) digit_zero) (λ t. cc (t, le-ltb 1 (length w) h)) (λ t. cc t)

pub leading_long : (w : List ℕ) → 1 < length w → leading_zero w ≡ eqb (get_or w 0 0) digit_zero
unfolding leading_zero
leading_long w h = by_bool (eqb (get_or w 0 0) digit_zero) (λ t. cc (t, lt-ltb 1 (length w) h)) (λ t. cc t)

pub number_empty : (w : List ℕ) → length w ≡ 0 → number w ≡ None
unfolding number
number_empty w h = cc (eq-eqb (length w) 0 h)

pub number_leading : (w : List ℕ) → (length w ≡ 0 → ⊥) → leading_zero w ≡ true → number w ≡ None
unfolding number
number_leading w h e = cc (ne_eqb (length w) 0 h, e)

pub number_digits : (w : List ℕ) → (length w ≡ 0 → ⊥) → leading_zero w ≡ false → number w ≡ digits_from 0 w
unfolding number
number_digits w h e = cc (ne_eqb (length w) 0 h, e)

-- ---- printed

-- any number of digits that is more than n is enough
digits_enough : (k j n : ℕ) → n < k → n < j → digits_in k n ≡ digits_in j n
unfolding digits_in
digits_enough zero j n h i = absurd (omega arith)
digits_enough (suc k) zero n h i = absurd (omega arith)
digits_enough (suc k) (suc j) n h i =
    by_bool (ltb n 10)
    (λ t. cc t)
    (λ t. let m : 10 ≤ n = ltb-false n 10 t in
    let p : n / 10 < k = omega arith in
    let q : n / 10 < j = omega arith in
    cc (t, digits_enough k j (n / 10) p q))

pub decimal_one : (n : ℕ) → n < 10 → decimal n ≡ (digit_zero + n) ∷ []
unfolding decimal digits_in
decimal_one n h = cc (lt-ltb n 10 h)

pub decimal_more : (n : ℕ) → 10 ≤ n → decimal n ≡ decimal (n / 10) ++ ((digit_zero + n % 10) ∷ [])
unfolding decimal digits_in
decimal_more n h = cc (le-ltb n 10 h, digits_enough n (suc (n / 10)) (n / 10) (omega arith) (omega arith))

pub length_more : (n : ℕ) → 10 ≤ n → length (decimal n) ≡ length (decimal (n / 10)) + 1
length_more n h = rw (decimal_more n h) (simp length-append)

-- ten to a power
unfoldable tens : ℕ → ℕ
tens zero = 1
tens (suc k) = 10 * tens k

decimal_short : (k n : ℕ) → n < tens (suc k) → length (decimal n) ≤ suc k
unfolding tens
decimal_short zero n h = rw (decimal_one n (omega arith)) (omega arith)
decimal_short (suc k) n h =
    by_bool (ltb n 10)
    (λ t. rw (decimal_one n (ltb-true n 10 t)) (omega arith))
    (λ t. let m : 10 ≤ n = ltb-false n 10 t in omega (arith, length_more n m, decimal_short k (n / 10) (omega arith)))

pub decimal_fits : (n : ℕ) → n ≤ largest_number → length (decimal n) ≤ most_digits
unfolding tens
decimal_fits n h = decimal_short 9 n (omega arith)

-- std's digits of a number are these
pub std_decimal : (n : ℕ) → n < 2 ^ 64 → std.decimal n ≡ decimal n
std_decimal n h =
    decimal_by_steps (λ n ds. ds ≡ decimal n) (λ n h. sym (decimal_one n h)) (λ n ds h e. rw e (sym (decimal_more n h))) n h
