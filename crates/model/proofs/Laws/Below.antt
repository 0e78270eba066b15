-- The indices that pass a test, as a list and added up; and the pages that an access lacks. Assumes nothing.
use Rattle.std.proofs.Math.Path.{◌≡◌, refl}
use Rattle.std.proofs.Common.{sym, ◌∙◌, eq-eqb, ne_eqb}
use Rattle.std.specs.Prelude.{◌≢◌, Bool, ◌||◌, eqb}
use Prim.Native.Nat.{ℕ, zero, suc, ◌+◌, ◌≤◌, ◌<◌}
use native.Mathlib.Omega.{arith}
use Rattle.std.proofs.Math.Bool.{true, false}
use mathlib.Core.List.{List, [], ◌∷◌}
use Rattle.std.proofs.Math.ListN.{length}
use Rattle.words.specs.Bytes.{Each, each_nil, each_cons}
use Rattle.types.specs.declared.Frame.{Frame}
use Rattle.model.specs.Definitions.Parts.{all_from, all_below, sum_from, sum_below, sum_over}
use Rattle.model.specs.Definitions.Steps.{Access, Cell, cells_read, cells_written, any_cell, any_write, names, takes, lacks, lacks_page, lacking_pages}
use Rattle.model.specs.Definitions.Bank.{frame_at}
use Rattle.model.specs.Definitions.Replay.{lacking}
use Rattle.model.proofs.Laws.Logic.{cases, by_bool, by_eq, clash, and_left, and_right, and_both}
use Rattle.model.proofs.Laws.Lists.{each_imp, each_head, each_tail}

-- ==== lists of indices

-- whether p is in a list
unfoldable pub listed : ℕ → List ℕ → Bool
listed p [] = false
listed p (q ∷ qs) = eqb q p || listed p qs

-- rising, and none below n
unfoldable pub Rising : ℕ → List ℕ → Type 0
Rising n [] = Unit
Rising n (p ∷ ps) = (n ≤ p) × Rising (suc p) ps

pub rising_each : (n : ℕ) (ps : List ℕ) → Rising n ps → Each (λ p. n ≤ p) ps
unfolding Rising
rising_each n [] r = each_nil
rising_each n (p ∷ ps) r = each_cons r.0 (each_imp ps (λ q h. omega arith) (rising_each (suc p) ps r.1))

rising_lower : (m n : ℕ) (ps : List ℕ) → m ≤ n → Rising n ps → Rising m ps
unfolding Rising
rising_lower m n [] l r = tt
rising_lower m n (p ∷ ps) l r = (omega (arith, r.0), r.1)

pub above_unlisted : (p : ℕ) (ps : List ℕ) {n : ℕ} → Each (λ q. n ≤ q) ps → p < n → listed p ps ≡ false
unfolding listed
above_unlisted p [] e l = refl
above_unlisted p (q ∷ qs) e l = let h = each_head e in cc (ne_eqb q p (λ s. absurd (omega (arith, each_head e))), above_unlisted p qs (each_tail e) l)

or_left : {a : Bool} (b : Bool) → a ≡ true → (a || b) ≡ true
or_left b t = rw t

pub or_right : (a : Bool) {b : Bool} → b ≡ true → (a || b) ≡ true
or_right true t = refl
or_right false t = t

module _ (f : ℕ → Bool) where
  -- an index of the list: in range, and it passes
  pub record Passes (i n j : ℕ) : Type 0 where
    pub from : i ≤ j
    pub below : j < i + n
    pub passes : f j ≡ true

  all_from_passes : (i n : ℕ) → Each (Passes i n) (all_from i n f)
  unfolding all_from
  all_from_passes i zero = each_nil
  all_from_passes i (suc n) =
      let rest : Each (Passes i (suc n)) (all_from (suc i) n f) =
      each_imp (all_from (suc i) n f) (λ j p. record { from = omega (arith, p.from); below = omega (arith, p.below); passes = p.passes })
      (all_from_passes (suc i) n) in
      cases (Each (Passes i (suc n))) (f i)
      (λ t. each_cons (record { from = omega arith; below = omega arith; passes = t }) rest)
      (λ t. rest)

  pub all_from_rising : (i n : ℕ) → Rising i (all_from i n f)
  unfolding all_from Rising
  all_from_rising i zero = tt
  all_from_rising i (suc n) =
      cases (Rising i) (f i)
      (λ t. (omega arith, all_from_rising (suc i) n))
      (λ t. rising_lower i (suc i) (all_from (suc i) n f) (omega arith) (all_from_rising (suc i) n))

  all_from_none : (i n j : ℕ) → all_from i n f ≡ [] → i ≤ j → j < i + n → f j ≡ false
  unfolding all_from
  all_from_none i zero j e l m = absurd (omega arith)
  all_from_none i (suc n) j e l m =
      by_bool (f i)
      (λ t. let z : ◌≡◌ {A = ℕ} 0 1 = cc in absurd (omega arith))
      (λ t. by_eq i j (λ s. rw s at t) (λ ne. all_from_none (suc i) n j (cc) (omega arith) (omega arith)))

  none_all_from : (i n : ℕ) → ((j : ℕ) → i ≤ j → j < i + n → f j ≡ false) → all_from i n f ≡ []
  unfolding all_from
  none_all_from i zero h = refl
  none_all_from i (suc n) h = cc (h i (omega arith) (omega arith), none_all_from (suc i) n (λ j l m. h j (omega arith) (omega arith)))

  -- one index alone passes
  all_from_one : (i n p : ℕ) → f p ≡ true → ((q : ℕ) → f q ≡ true → q ≡ p) → i ≤ p → p < i + n → all_from i n f ≡ p ∷ []
  unfolding all_from
  all_from_one i zero p t only l m = absurd (omega arith)
  all_from_one i (suc n) p t only l m =
      by_eq i p
      (λ e.
      let none : all_from (suc i) n f ≡ [] =
      none_all_from (suc i) n (λ j a b. by_bool (f j) (λ s. let q : j ≡ p = only j s in absurd (omega arith)) (λ s. s)) in
      let here : f i ≡ true = rw e t in
      cc)
      (λ ne.
      let away : f i ≡ false = by_bool (f i) (λ s. absurd (ne (only i s))) (λ s. s) in
      let rest : all_from (suc i) n f ≡ p ∷ [] = all_from_one (suc i) n p t only (omega arith) (omega arith) in
      cc)

  pub all_below_passes : (n : ℕ) → Each (λ j. (j < n) × (f j ≡ true)) (all_below n f)
  unfolding all_below
  all_below_passes n = each_imp (all_from 0 n f) (λ j p. (omega (arith, p.below), p.passes)) (all_from_passes 0 n)

  pub all_below_rising : (n : ℕ) → Rising 0 (all_below n f)
  unfolding all_below
  all_below_rising n = all_from_rising 0 n

  pub all_below_none : (n j : ℕ) → all_below n f ≡ [] → j < n → f j ≡ false
  unfolding all_below
  all_below_none n j e l = all_from_none 0 n j e (omega arith) (omega arith)

  pub none_all_below : (n : ℕ) → ((j : ℕ) → j < n → f j ≡ false) → all_below n f ≡ []
  unfolding all_below
  none_all_below n h = none_all_from 0 n (λ j l m. h j (omega arith))

  pub all_below_one : (n p : ℕ) → f p ≡ true → ((q : ℕ) → f q ≡ true → q ≡ p) → p < n → all_below n f ≡ p ∷ []
  unfolding all_below
  all_below_one n p t only l = all_from_one 0 n p t only (omega arith) (omega arith)

-- tests that agree pass the same indices
all_from_same : (f g : ℕ → Bool) (i n : ℕ) → ((j : ℕ) → i ≤ j → j < i + n → f j ≡ g j) → all_from i n f ≡ all_from i n g
unfolding all_from
all_from_same f g i zero h = refl
all_from_same f g i (suc n) h =
    cc (h i (omega arith) (omega arith), all_from_same f g (suc i) n (λ j l m. h j (omega arith) (omega arith)))

pub all_below_same : (f g : ℕ → Bool) (n : ℕ) → ((j : ℕ) → j < n → f j ≡ g j) → all_below n f ≡ all_below n g
unfolding all_below
all_below_same f g n h = all_from_same f g 0 n (λ j l m. h j (omega arith))

-- ==== sums

-- what the indices that pass add up to is no more than what all do
sum_from_part : (f : ℕ → Bool) (h s : ℕ → ℕ) (i n : ℕ) → ((j : ℕ) → f j ≡ true → s j ≡ h j) → sum_over h (all_from i n f) ≤ sum_from i n s
unfolding all_from sum_from sum_over
sum_from_part f h s i zero e = omega arith
sum_from_part f h s i (suc n) e =
    cases (λ ps. sum_over h ps ≤ s i + sum_from (suc i) n s) (f i)
    (λ t. omega (arith, e i t, sum_from_part f h s (suc i) n e))
    (λ t. omega (arith, sum_from_part f h s (suc i) n e))

pub sum_below_part : (f : ℕ → Bool) (h s : ℕ → ℕ) (n : ℕ) → ((j : ℕ) → f j ≡ true → s j ≡ h j) → sum_over h (all_below n f) ≤ sum_below n s
unfolding all_below sum_below
sum_below_part f h s n e = sum_from_part f h s 0 n e

-- each index adds no more than all do
sum_from_at : (s : ℕ → ℕ) (i n j : ℕ) → i ≤ j → j < i + n → s j ≤ sum_from i n s
unfolding sum_from
sum_from_at s i zero j l m = absurd (omega arith)
sum_from_at s i (suc n) j l m =
    by_eq i j (λ e. rw (← e) (omega arith)) (λ ne. omega (arith, sum_from_at s (suc i) n j (omega arith) (omega arith)))

pub sum_below_at : (s : ℕ → ℕ) (n j : ℕ) → j < n → s j ≤ sum_below n s
unfolding sum_below
sum_below_at s n j l = sum_from_at s 0 n j (omega arith) (omega arith)

-- ==== the pages that an access lacks

no_page : (ps : List ℕ) → ◌≡◌ {A = Bool} (elim ps [ [] ↦ false | p ∷ qs ↦ true ]) false → ps ≡ []
no_page [] h = refl
no_page (p ∷ ps) h = clash refl h

module _ (a : Access) (fs : List Frame) where
  pub lacking_none : lacking a fs ≡ false → lacking_pages a fs ≡ []
  unfolding lacking
  lacking_none h = no_page (lacking_pages a fs) h

  pub none_lacking : lacking_pages a fs ≡ [] → lacking a fs ≡ false
  unfolding lacking
  none_lacking e = cc

  pub lacks_no_page : lacking a fs ≡ false → (p : ℕ) → p < length fs → lacks_page a fs p ≡ false
  unfolding lacking_pages
  lacks_no_page h p l = all_below_none (lacks_page a fs) (length fs) p (lacking_none h) l

  pub no_page_lacks : ((p : ℕ) → p < length fs → lacks_page a fs p ≡ false) → lacking a fs ≡ false
  unfolding lacking_pages
  no_page_lacks h = none_lacking (none_all_below (lacks_page a fs) (length fs) h)

  -- each page of the list is in range, named, and its right too little
  pub record Lacks (p : ℕ) : Type 0 where
    pub below : p < length fs
    pub named : names a p ≡ true
    pub right : lacks (takes a) (frame_at fs p).right ≡ true

  pub lacks_page_says : (p : ℕ) → p < length fs → lacks_page a fs p ≡ true → Lacks p
  unfolding lacks_page
  lacks_page_says p l t = record { below = l; named = and_left (names a p) _ t; right = and_right (names a p) _ t }

  pub lacks_passes : (p : ℕ) → Lacks p → lacks_page a fs p ≡ true
  unfolding lacks_page
  lacks_passes p l = and_both l.named l.right

  pub passes_names : (p : ℕ) → lacks_page a fs p ≡ true → names a p ≡ true
  unfolding lacks_page
  passes_names p t = and_left (names a p) _ t

  -- a right that is enough
  pub page_enough : (p : ℕ) → lacks (takes a) (frame_at fs p).right ≡ false → lacks_page a fs p ≡ false
  unfolding lacks_page
  page_enough p h = by_bool (names a p) (λ t. cc) (λ t. cc)

  pub lacking_pages_lack : Each Lacks (lacking_pages a fs)
  unfolding lacking_pages
  lacking_pages_lack =
      each_imp (all_below (length fs) (lacks_page a fs)) (λ p t. lacks_page_says p t.0 t.1) (all_below_passes (lacks_page a fs) (length fs))

  pub lacking_pages_rise : Rising 0 (lacking_pages a fs)
  unfolding lacking_pages
  lacking_pages_rise = all_below_rising (lacks_page a fs) (length fs)

  -- a page that is named and not lacked has its right
  pub has_right : lacking a fs ≡ false → (p : ℕ) → p < length fs → names a p ≡ true → lacks (takes a) (frame_at fs p).right ≡ false
  unfolding lacks_page
  has_right h p l n =
      by_bool (lacks (takes a) (frame_at fs p).right) (λ t. clash (and_both n t) (lacks_no_page h p l)) (λ t. t)

-- ==== which indices are in the list; which pages an access names

all_from_listed : (f : ℕ → Bool) (i n p : ℕ) → i ≤ p → p < i + n → listed p (all_from i n f) ≡ f p
unfolding all_from listed
all_from_listed f i zero p l m = absurd (omega arith)
all_from_listed f i (suc n) p l m =
    by_eq i p
    (λ e.
    cases (λ ps. listed p ps ≡ f p) (f i)
    (λ t. let s : eqb i p ≡ true = eq-eqb i p e in let u : f p ≡ true = rw (← e) t in cc)
    (λ t.
    let u : f p ≡ false = rw (← e) t in
    above_unlisted p (all_from (suc i) n f) (rising_each (suc i) _ (all_from_rising f (suc i) n)) (omega arith) ∙ sym u))
    (λ ne.
    let rest : listed p (all_from (suc i) n f) ≡ f p = all_from_listed f (suc i) n p (omega arith) (omega arith) in
    cases (λ ps. listed p ps ≡ f p) (f i)
    (λ t. let s : eqb i p ≡ false = ne_eqb i p ne in cc)
    (λ t. rest))

pub all_below_listed : (f : ℕ → Bool) (n p : ℕ) → p < n → listed p (all_below n f) ≡ f p
unfolding all_below
all_below_listed f n p l = all_from_listed f 0 n p (omega arith) (omega arith)

-- an access names the pages of its cells
any_cell_here : (cs : List Cell) → Each (λ c. any_cell cs c.page ≡ true) cs
unfolding any_cell
any_cell_here [] = each_nil
any_cell_here (c ∷ cs) =
    each_cons (or_left _ (eq-eqb c.page c.page refl)) (each_imp cs (λ d t. or_right (eqb c.page d.page) t) (any_cell_here cs))

any_write_here : (ws : List (Cell × ℕ)) → Each (λ w. any_write ws w.0.page ≡ true) ws
unfolding any_write
any_write_here [] = each_nil
any_write_here (w ∷ ws) =
    each_cons (or_left _ (eq-eqb w.0.page w.0.page refl)) (each_imp ws (λ v t. or_right (eqb w.0.page v.0.page) t) (any_write_here ws))

pub read_named : (a : Access) → Each (λ c. names a c.page ≡ true) (cells_read a)
unfolding names
read_named a = each_imp (cells_read a) (λ c t. or_left _ t) (any_cell_here (cells_read a))

pub written_named : (a : Access) → Each (λ w. names a w.0.page ≡ true) (cells_written a)
unfolding names
written_named a = each_imp (cells_written a) (λ w t. or_right (any_cell (cells_read a) w.0.page) t) (any_write_here (cells_written a))

-- the same right, as much lacking
pub page_same : (a : Access) (fs gs : List Frame) (p : ℕ) → (frame_at gs p).right ≡ (frame_at fs p).right → lacks_page a gs p ≡ lacks_page a fs p
unfolding lacks_page
page_same a fs gs p e = rw e

-- ==== how many pass

module _ (f : ℕ → Bool) where
  -- one index more is none or one that passes
  all_from_more : (i n : ℕ) → length (all_from (suc i) n f) ≤ length (all_from i (suc n) f)
  unfolding all_from
  all_from_more i n = cases (λ (ps : List ℕ). length (all_from (suc i) n f) ≤ length ps) (f i) (λ t. omega arith) (λ t. omega arith)

  all_from_next : (i n : ℕ) → length (all_from i (suc n) f) ≤ length (all_from (suc i) n f) + 1
  unfolding all_from
  all_from_next i n = cases (λ (ps : List ℕ). length ps ≤ length (all_from (suc i) n f) + 1) (f i) (λ t. omega arith) (λ t. omega arith)

  all_from_few : (i n : ℕ) → length (all_from i n f) ≤ n
  unfolding all_from
  all_from_few i zero = omega arith
  all_from_few i (suc n) = omega (arith, all_from_next i n, all_from_few (suc i) n)

  -- no more than there are
  pub all_below_few : (n : ℕ) → length (all_below n f) ≤ n
  unfolding all_below
  all_below_few n = all_from_few 0 n

-- and no more than pass a test that asks less
module _ (f g : ℕ → Bool) where
  both_next : (i n c : ℕ) → (f i ≡ true → g i ≡ true) → length (all_from (suc i) n f) ≤ length (all_from (suc i) n g) + c
      → length (all_from i (suc n) f) ≤ length (all_from i (suc n) g) + c
  unfolding all_from
  both_next i n c h m =
      cases (λ (qs : List ℕ). length (all_from i (suc n) f) ≤ length qs + c) (g i)
      (λ u. omega (arith, m, all_from_next f i n))
      (λ u. cases (λ (ps : List ℕ). length ps ≤ length (all_from (suc i) n g) + c) (f i) (λ t. clash (h t) u) (λ t. m))

  all_from_fewer : (i n : ℕ) → ((j : ℕ) → i ≤ j → f j ≡ true → g j ≡ true) → length (all_from i n f) ≤ length (all_from i n g) + 0
  unfolding all_from
  all_from_fewer i zero h = omega arith
  all_from_fewer i (suc n) h = both_next i n 0 (h i (omega arith)) (all_from_fewer (suc i) n (λ j l. h j (omega (arith, l))))

  pub all_below_fewer : ((j : ℕ) → f j ≡ true → g j ≡ true) → (n : ℕ) → length (all_below n f) ≤ length (all_below n g)
  unfolding all_below
  all_below_fewer h n = omega (arith, all_from_fewer 0 n (λ j l. h j))

  -- or one more, where one index may pass without it
  module _ (o : ℕ) (h : (j : ℕ) → j ≢ o → f j ≡ true → g j ≡ true) where
    all_from_but : (i n : ℕ) → length (all_from i n f) ≤ length (all_from i n g) + 1
    unfolding all_from
    all_from_but i zero = omega arith
    all_from_but i (suc n) =
        by_eq i o
        (λ e.
        omega (
          arith,
          all_from_next f i n,
          all_from_fewer (suc i) n (λ j l. h j (λ d. absurd (omega (arith, e, l, d)))),
          all_from_more g i n,
        ))
        (λ ne. both_next i n 1 (h i ne) (all_from_but (suc i) n))

    pub all_below_but : (n : ℕ) → length (all_below n f) ≤ length (all_below n g) + 1
    unfolding all_below
    all_below_but n = all_from_but 0 n

-- ==== how many pages an access lacks

-- no more than there are frames
pub lacking_pages_few : (a : Access) (fs : List Frame) → length (lacking_pages a fs) ≤ length fs
unfolding lacking_pages
lacking_pages_few a fs = all_below_few (lacks_page a fs) (length fs)
