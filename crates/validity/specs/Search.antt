-- Laws of a test of every index, as a loop makes it: index by index, ending at the first that fails; and of the search through a block's logs,
-- log by log, each as far as its count. Assumes nothing.
use Rattle.std.specs.Prelude.{◌≡◌, ◌≢◌, true, false, ◌&&◌, not, List, ltb, take, drop}
use Rattle.std.specs.List.{list_all, range_with_len}
use Rattle.std.proofs.Math.Path.{refl, sym, ap, fun_ext}
use Rattle.std.proofs.Common.{◌∙◌}
use Prim.Native.Nat.{ℕ, zero, suc, ◌+◌, ◌*◌, ◌≤◌, ◌<◌, ◌-◌}
use Rattle.std.proofs.Math.Nat.{zero-add, add-zero}
use native.Mathlib.Omega.{arith}
use Rattle.std.proofs.Math.Bool.{Bool, and_assoc, and-true, and-false}
use borrow.Author.Tests.{ltb-true, lt-ltb, leb-true}
use Rattle.model.specs.Definitions.Layout.{slot_count, area_slots_at, Form, slot_size_in, slots_size_in, volatile_count_at_in, slots_at_in, area_at_in, block_size_in}
use Rattle.model.specs.Definitions.Parts.{part, byte_at, every_from, every_below}
use Rattle.model.specs.Definitions.Check.{area_count, counts_valid, record_passes, stored_passes, slots_pass, records_pass, block_of_in}
use Rattle.model.specs.Definitions.Layout.{blocks_at}
use Rattle.model.proofs.Laws.Logic.{cases, clash, by_bool, by_eq, and_left, and_right}
use Rattle.model.proofs.Laws.Lists.{every_below_at, every_below_all}
use Rattle.model.proofs.Laws.CodecBack.{area_inside}
use Rattle.validity.specs.declared.bank.Log.{Log}
use Rattle.validity.specs.declared.bank.Log.TheVariants.{First, Second, Volatile}
use Rattle.validity.specs.Pieces.{log_number, log_count, log_slots_at, record_passes_in, log_passes}
use Rattle.fields.proofs.Lent.{lent_part}

-- what a caller learns of a test that a function made, where it goes on if the test passed and returns if it failed
pub failed : {t u : Bool} → t ≡ u → not t ≡ true → u ≡ false
failed {t} {u} e h = by_bool t (λ p. clash h (rw p)) (λ p. cc)

pub passed : {t u : Bool} → t ≡ u → not t ≡ false → u ≡ true
passed {t} {u} e h = by_bool t (λ p. cc) (λ p. clash (rw p) h)

-- the same of two tests, one behind the other
pub first_failed : {a : Bool} (b : Bool) → false ≡ a → false ≡ (a && b)
first_failed {a} b h = rw (← h)

pub second_failed : (a : Bool) {b : Bool} → false ≡ b → false ≡ (a && b)
second_failed a {b} h = rw (← h, and-false)

-- ---- a loop over an index: nothing tested yet, one more passed, one failed, all passed

module _ (f : ℕ → Bool) where
  pub below_none : every_below 0 f ≡ true
  unfolding every_below every_from
  below_none = refl

  pub below_next : (i : ℕ) → every_below i f ≡ true → f i ≡ true → every_below (i + 1) f ≡ true
  below_next i h p =
      every_below_all (i + 1) f (λ j l. by_eq j i (λ e. rw e p) (λ ne. every_below_at i j f h (omega arith)))

  pub below_stop : (n i : ℕ) → i < n → f i ≡ false → false ≡ every_below n f
  below_stop n i l p = by_bool (every_below n f) (λ h. clash (every_below_at n i f h l) p) (λ h. sym h)

  pub below_end : (n i : ℕ) → i ≤ n → n ≤ i → every_below i f ≡ true → true ≡ every_below n f
  below_end n i l m h = let e : i ≡ n = omega arith in rw e at (sym h)

  -- the next index, whatever the test says
  from_more : (i n : ℕ) → every_from i (n + 1) f ≡ (every_from i n f && f (i + n))
  unfolding every_from
  from_more i zero = rw add-zero (and-true (f i))
  from_more i (suc n) =
      let e : suc n + 1 ≡ suc (n + 1) = omega arith in
      let d : suc i + n ≡ i + suc n = omega arith in
      rw (e, from_more (suc i) n, d) (sym (and_assoc (f i) (every_from (suc i) n f) (f (i + suc n))))

  pub below_more : (n : ℕ) → every_below (n + 1) f ≡ (every_below n f && f n)
  unfolding every_below
  below_more n = rw zero-add at (from_more 0 n)

-- a test of a range's numbers, as the library makes it
module _ (f : ℕ → Bool) where
  from_range : (a n : ℕ) → list_all f (range_with_len a n) ≡ every_from a n f
  unfolding every_from
  from_range a zero = refl
  from_range a (suc n) = let e : a + 1 ≡ suc a = omega arith in rw e (ap (λ (b : Bool). f a && b) (from_range (suc a) n))

  pub below_range : (n : ℕ) → list_all f (range_with_len 0 n) ≡ every_below n f
  unfolding every_below
  below_range n = from_range 0 n

-- two tests of every index are one test of both
and_swap : (a b c d : Bool) → ((a && b) && (c && d)) ≡ ((a && c) && (b && d))
and_swap true true c d = refl
and_swap true false true d = refl
and_swap true false false d = refl
and_swap false b c d = refl

and_last : (a b c : Bool) → (a && (b && c)) ≡ (c && (a && b))
and_last true true true = refl
and_last true true false = refl
and_last true false true = refl
and_last true false false = refl
and_last false b true = refl
and_last false b false = refl

module _ (f g : ℕ → Bool) where
  from_both : (i n : ℕ) → every_from i n (λ j. f j && g j) ≡ (every_from i n f && every_from i n g)
  unfolding every_from
  from_both i zero = refl
  from_both i (suc n) = rw (from_both (suc i) n) (and_swap (f i) (g i) (every_from (suc i) n f) (every_from (suc i) n g))

  pub below_both : (n : ℕ) → every_below n (λ j. f j && g j) ≡ (every_below n f && every_below n g)
  unfolding every_below
  below_both n = from_both 0 n

-- a board's block as it is lent: `&s[a..a + size]`
pub lent_block : (form : Form) (s : List ℕ) (pages board a size : ℕ) → a ≡ blocks_at pages + board * block_size_in form pages → size ≡ block_size_in form pages
    → take (a + size - a) (drop a s) ≡ block_of_in form pages s board
unfolding block_of_in
lent_block form s pages board a size p q = lent_part s a size ∙ rw (p, q)

-- ---- the search through a block's logs

module _ (form : Form) (pages : ℕ) (l : List ℕ) where
  -- a log that is not the volatile one
  pub area_count_lem : (log : Log) → log ≢ Volatile → log_count form pages l log ≡ area_count form pages (log_number log) l
  unfolding log_count
  area_count_lem First n = refl
  area_count_lem Second n = refl
  area_count_lem Volatile n = absurd (n refl)

  pub area_at : (log : Log) → log ≢ Volatile → log_slots_at form pages log ≡ area_at_in form pages (log_number log) + area_slots_at pages
  unfolding log_slots_at
  area_at First n = refl
  area_at Second n = refl
  area_at Volatile n = absurd (n refl)

  -- a log's slots lie inside the block, and its count is at most 32
  pub log_inside : (log : Log) → log_slots_at form pages log + slots_size_in form ≤ block_size_in form pages
  unfolding log_slots_at
  log_inside First = omega (arith, area_inside form pages 0 (omega arith))
  log_inside Second = omega (arith, area_inside form pages 1 (omega arith))
  log_inside Volatile = omega arith

  module _ (counts : counts_valid form pages l ≡ true) where
    pub few_volatile : byte_at l (volatile_count_at_in form) ≤ slot_count
    unfolding counts_valid
    few_volatile = leb-true (byte_at l (volatile_count_at_in form)) slot_count (and_left _ _ counts)

    pub few_stored : (area : ℕ) → area < 2 → area_count form pages area l ≤ slot_count
    unfolding counts_valid
    few_stored zero h = leb-true (area_count form pages 0 l) slot_count (search (and_left, and_right))
    few_stored (suc zero) h = leb-true (area_count form pages 1 l) slot_count (search (and_left, and_right))
    few_stored (suc (suc area)) h = absurd (omega arith)

    pub log_few : (log : Log) → log_count form pages l log ≤ slot_count
    unfolding log_count
    log_few First = few_stored 0 (omega arith)
    log_few Second = few_stored 1 (omega arith)
    log_few Volatile = few_volatile

module _ (form : Form) (test : List ℕ → Bool) (pages : ℕ) (l : List ℕ) where
  -- the records of a log are those below its count; of a slot past it nothing is asked here
  records_below : (a count : ℕ) → count ≤ slot_count
      → every_below slot_count (record_passes form test a count l) ≡ every_below count
      (λ i. test (part l (a + i * slot_size_in form) (slot_size_in form)))
  unfolding record_passes
  records_below a count h =
      let valid : ℕ → Bool = λ i. test (part l (a + i * slot_size_in form) (slot_size_in form)) in
      by_bool (every_below count valid)
      (λ t.
      every_below_all slot_count (record_passes form test a count l)
      (λ i m. cases (λ u. u ≡ true) (ltb i count) (λ p. every_below_at count i valid t (ltb-true i count p)) (λ p. refl))
      ∙ sym t)
      (λ t.
      by_bool (every_below slot_count (record_passes form test a count l))
      (λ u.
      clash
      (every_below_all count valid
      (λ i m. cc (every_below_at slot_count i (record_passes form test a count l) u (omega arith), lt-ltb i count m)))
      t)
      (λ u. u ∙ sym t))

  -- a log whose records were all passed
  pub log_ended : (log : Log) (index : ℕ) {count : ℕ} → count ≡ log_count form pages l log → index ≤ count → count ≤ index
      → every_below index (record_passes_in form test pages l log) ≡ true → log_passes form test pages l log ≡ true
  unfolding log_passes
  log_ended log index e h k p = let d : index ≡ log_count form pages l log = omega arith in rw d at p

  -- log by log as slot by slot
  pub logs_valid : counts_valid form pages l ≡ true
      → (log_passes form test pages l First && (log_passes form test pages l Second && log_passes form test pages l Volatile)) ≡ records_pass form test pages l
  unfolding records_pass slots_pass stored_passes log_passes log_count log_slots_at record_passes_in
  logs_valid h =
      and_last (log_passes form test pages l First) (log_passes form test pages l Second) (log_passes form test pages l Volatile)
      ∙ rw (
        ← records_below (slots_at_in form pages) (byte_at l (volatile_count_at_in form)) (few_volatile form pages l h),
        ← records_below (area_at_in form pages 0 + area_slots_at pages) (area_count form pages 0 l) (few_stored form pages l h 0 (omega arith)),
        ← records_below (area_at_in form pages 1 + area_slots_at pages) (area_count form pages 1 l) (few_stored form pages l h 1 (omega arith)),
        ← below_both (stored_passes form test pages 0 l) (stored_passes form test pages 1 l) slot_count,
      )
      (sym (below_both (record_passes form test (slots_at_in form pages) (byte_at l (volatile_count_at_in form)) l)
      (λ i. stored_passes form test pages 0 l i && stored_passes form test pages 1 l i) slot_count))

  -- one of the three that failed
  pub log_failed : (log : Log) → log_passes form test pages l log ≡ false
      → (log_passes form test pages l First && (log_passes form test pages l Second && log_passes form test pages l Volatile)) ≡ false
  log_failed First h = rw h
  log_failed Second h = rw (h, and-false)
  log_failed Volatile h = rw (h, and-false, and-false)

-- two tests of every record are one test of both
module _ (form : Form) (f g : List ℕ → Bool) where
  record_both : (a count : ℕ) (l : List ℕ) (i : ℕ)
      → record_passes form (λ s. f s && g s) a count l i ≡ (record_passes form f a count l i && record_passes form g a count l i)
  unfolding record_passes
  record_both a count l i = by_bool (ltb i count) (λ t. rw (t, record_passes)) (λ t. rw (t, record_passes))

  slots_both : (pages : ℕ) (l : List ℕ) (i : ℕ)
      → slots_pass form (λ s. f s && g s) pages l i ≡ (slots_pass form f pages l i && slots_pass form g pages l i)
  unfolding slots_pass stored_passes
  slots_both pages l i =
      let at : ℕ → ℕ = λ area. area_at_in form pages area + area_slots_at pages in
      let count : ℕ → ℕ = λ area. area_count form pages area l in
      let v : ℕ = byte_at l (volatile_count_at_in form) in
      rw (record_both (slots_at_in form pages) v l i, record_both (at 0) (count 0) l i, record_both (at 1) (count 1) l i)
      (ap (λ (t : Bool). (record_passes form f (slots_at_in form pages) v l i && record_passes form g (slots_at_in form pages) v l i) && t)
      (and_swap (record_passes form f (at 0) (count 0) l i) (record_passes form g (at 0) (count 0) l i)
      (record_passes form f (at 1) (count 1) l i) (record_passes form g (at 1) (count 1) l i))
      ∙ and_swap (record_passes form f (slots_at_in form pages) v l i) (record_passes form g (slots_at_in form pages) v l i) _ _)

  pub records_both : (pages : ℕ) (l : List ℕ) → records_pass form (λ s. f s && g s) pages l ≡ (records_pass form f pages l && records_pass form g pages l)
  unfolding records_pass
  records_both pages l =
      ap (every_below slot_count) (fun_ext (slots_both pages l)) ∙ below_both (slots_pass form f pages l) (slots_pass form g pages l) slot_count
