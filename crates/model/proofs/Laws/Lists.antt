-- Laws of the list operations of Definitions.Parts and of Each: lengths, what stands at an index, and tests over an index.
-- Over any element type. Assumes nothing.
use Rattle.std.specs.Prelude.{◌≡◌, ◌≢◌, Bool, true, false, length, get_or, set, drop, take, replicate}
use Rattle.std.proofs.Math.Path.{refl, ap}
use Prim.Native.Nat.{ℕ, zero, suc, ◌+◌, ◌≤◌, ◌<◌}
use Rattle.std.proofs.Common.{le_of_suc-le-suc, not-suc-le-zero, zero-lt-suc, zero-add, suc-add, arith}
use Rattle.std.proofs.Math.Nat.{add-suc, add-zero}
use Rattle.std.proofs.Math.Option.{none, some}
use mathlib.Core.List.{List, [], ◌∷◌, ◌++◌, map, foldl}
use Rattle.model.specs.Definitions.Parts.{update, each_from, each, tabulate_from, tabulate, every, every_from, every_below, first_from, first_below}
use Rattle.words.specs.Bytes.{Each, each_nil, each_cons}
use Rattle.model.proofs.Laws.Logic.{by_bool, by_eq, and_left, and_right, and_both}

module _ {A : Type 0} where
  -- ---- update: one element

  pub length_update : (i : ℕ) (f : A → A) (xs : List A) → length (update i f xs) ≡ length xs
  unfolding update
  length_update i f [] = refl
  length_update zero f (x ∷ xs) = refl
  length_update (suc i) f (x ∷ xs) = ap suc (length_update i f xs)

  pub get_d_update_same : (i : ℕ) (f : A → A) (xs : List A) (d : A) → i < length xs → get_or (update i f xs) i d ≡ f (get_or xs i d)
  unfolding update
  get_d_update_same i f [] d h = absurd (not-suc-le-zero h)
  get_d_update_same zero f (x ∷ xs) d h = refl
  get_d_update_same (suc i) f (x ∷ xs) d h = get_d_update_same i f xs d (le_of_suc-le-suc h)

  pub get_d_update_other : (i j : ℕ) (f : A → A) (xs : List A) (d : A) → j ≢ i → get_or (update i f xs) j d ≡ get_or xs j d
  unfolding update
  get_d_update_other i j f [] d h = refl
  get_d_update_other zero zero f (x ∷ xs) d h = absurd (h refl)
  get_d_update_other zero (suc j) f (x ∷ xs) d h = refl
  get_d_update_other (suc i) zero f (x ∷ xs) d h = refl
  get_d_update_other (suc i) (suc j) f (x ∷ xs) d h = get_d_update_other i j f xs d (λ e. h (ap suc e))

  -- an update is a store of the changed element
  pub update_set : (i : ℕ) (f : A → A) (xs : List A) (d : A) → i < length xs → update i f xs ≡ set xs i (f (get_or xs i d))
  unfolding update
  update_set i f [] d h = absurd (not-suc-le-zero h)
  update_set zero f (x ∷ xs) d h = refl
  update_set (suc i) f (x ∷ xs) d h = ap (λ (l : List A). x ∷ l) (update_set i f xs d (le_of_suc-le-suc h))

  -- ---- each: every element by its index

  length_each_from : (i : ℕ) (f : ℕ → A → A) (xs : List A) → length (each_from i f xs) ≡ length xs
  unfolding each_from
  length_each_from i f [] = refl
  length_each_from i f (x ∷ xs) = ap suc (length_each_from (suc i) f xs)

  get_d_each_from : (i j : ℕ) (f : ℕ → A → A) (xs : List A) (d : A) → j < length xs → get_or (each_from i f xs) j d ≡ f (i + j) (get_or xs j d)
  unfolding each_from
  get_d_each_from i j f [] d h = absurd (not-suc-le-zero h)
  get_d_each_from i zero f (x ∷ xs) d h = rw add-zero
  get_d_each_from i (suc j) f (x ∷ xs) d h = rw (get_d_each_from (suc i) j f xs d (le_of_suc-le-suc h), add-suc, suc-add)

  pub length_each : (f : ℕ → A → A) (xs : List A) → length (each f xs) ≡ length xs
  unfolding each
  length_each f xs = length_each_from 0 f xs

  pub get_d_each : (j : ℕ) (f : ℕ → A → A) (xs : List A) (d : A) → j < length xs → get_or (each f xs) j d ≡ f j (get_or xs j d)
  unfolding each
  get_d_each j f xs d h = rw (get_d_each_from 0 j f xs d h, zero-add)

  -- ---- tabulate: every element from its index

  length_tabulate_from : (i n : ℕ) (f : ℕ → A) → length (tabulate_from i n f) ≡ n
  unfolding tabulate_from
  length_tabulate_from i zero f = refl
  length_tabulate_from i (suc n) f = ap suc (length_tabulate_from (suc i) n f)

  get_d_tabulate_from : (i n j : ℕ) (f : ℕ → A) (d : A) → j < n → get_or (tabulate_from i n f) j d ≡ f (i + j)
  unfolding tabulate_from
  get_d_tabulate_from i zero j f d h = absurd (not-suc-le-zero h)
  get_d_tabulate_from i (suc n) zero f d h = rw add-zero
  get_d_tabulate_from i (suc n) (suc j) f d h = rw (get_d_tabulate_from (suc i) n j f d (le_of_suc-le-suc h), add-suc, suc-add)

  pub length_tabulate : (n : ℕ) (f : ℕ → A) → length (tabulate n f) ≡ n
  unfolding tabulate
  length_tabulate n f = length_tabulate_from 0 n f

  pub get_d_tabulate : (n j : ℕ) (f : ℕ → A) (d : A) → j < n → get_or (tabulate n f) j d ≡ f j
  unfolding tabulate
  get_d_tabulate n j f d h = rw (get_d_tabulate_from 0 n j f d h, zero-add)

  -- ---- Each: what holds of every element

  -- what each step of a fold keeps, of one fold or between two
  pub foldl_keeps : {B : Type 0} (Q : B → Type 0) (g : B → A → B) (xs : List A) → Each (λ x. (b : B) → Q b → Q (g b x)) xs → (b : B) → Q b → Q (foldl g b xs)
  foldl_keeps Q g [] e b q = q
  foldl_keeps Q g (x ∷ xs) (each_cons p ps) b q = foldl_keeps Q g xs ps (g b x) (p b q)

  pub foldl_both : {B : Type 0} (Q : B → B → Type 0) (g : B → A → B) (xs : List A) → Each (λ x. (b c : B) → Q b c → Q (g b x) (g c x)) xs
      → (b c : B) → Q b c → Q (foldl g b xs) (foldl g c xs)
  foldl_both Q g [] e b c q = q
  foldl_both Q g (x ∷ xs) (each_cons p ps) b c q = foldl_both Q g xs ps (g b x) (g c x) (p b c q)

  module _ {P : A → Type 0} where
    pub each_head : {x : A} {xs : List A} → Each P (x ∷ xs) → P x
    each_head (each_cons p ps) = p

    pub each_tail : {x : A} {xs : List A} → Each P (x ∷ xs) → Each P xs
    each_tail (each_cons p ps) = ps

    pub each_get_d : (xs : List A) (i : ℕ) (d : A) → Each P xs → i < length xs → P (get_or xs i d)
    each_get_d [] i d e h = absurd (not-suc-le-zero h)
    each_get_d (x ∷ xs) zero d e h = each_head e
    each_get_d (x ∷ xs) (suc i) d e h = each_get_d xs i d (each_tail e) (le_of_suc-le-suc h)

    -- with a default that satisfies P the index is free
    pub each_get_d_any : (xs : List A) (i : ℕ) (d : A) → Each P xs → P d → P (get_or xs i d)
    each_get_d_any [] i d e p = p
    each_get_d_any (x ∷ xs) zero d e p = each_head e
    each_get_d_any (x ∷ xs) (suc i) d e p = each_get_d_any xs i d (each_tail e) p

    pub each_of_get_d : (xs : List A) (d : A) → ((i : ℕ) → i < length xs → P (get_or xs i d)) → Each P xs
    each_of_get_d [] d f = each_nil
    each_of_get_d (x ∷ xs) d f = each_cons (f 0 (zero-lt-suc (length xs))) (each_of_get_d xs d (λ i h. f (suc i) (omega arith)))

    pub each_set : (xs : List A) (i : ℕ) (a : A) → Each P xs → P a → Each P (set xs i a)
    each_set [] i a e p = each_nil
    each_set (x ∷ xs) zero a e p = each_cons p (each_tail e)
    each_set (x ∷ xs) (suc i) a e p = each_cons (each_head e) (each_set xs i a (each_tail e) p)

    pub each_append : (xs ys : List A) → Each P xs → Each P ys → Each P (xs ++ ys)
    each_append [] ys e d = d
    each_append (x ∷ xs) ys e d = each_cons (each_head e) (each_append xs ys (each_tail e) d)

    pub each_drop : (n : ℕ) (xs : List A) → Each P xs → Each P (drop n xs)
    each_drop zero xs e = e
    each_drop (suc n) [] e = each_nil
    each_drop (suc n) (x ∷ xs) e = each_drop n xs (each_tail e)

    pub each_take : (n : ℕ) (xs : List A) → Each P xs → Each P (take n xs)
    each_take zero xs e = each_nil
    each_take (suc n) [] e = each_nil
    each_take (suc n) (x ∷ xs) e = each_cons (each_head e) (each_take n xs (each_tail e))

    pub each_replicate : (n : ℕ) (a : A) → P a → Each P (replicate n a)
    each_replicate zero a p = each_nil
    each_replicate (suc n) a p = each_cons p (each_replicate n a p)

    pub each_both : {Q : A → Type 0} {xs : List A} → Each P xs → Each Q xs → Each (λ x. P x × Q x) xs
    each_both each_nil each_nil = each_nil
    each_both (each_cons p ps) (each_cons q qs) = each_cons (p, q) (each_both ps qs)

    pub each_map : {B : Type 0} (f : B → A) (xs : List B) → ((x : B) → P (f x)) → Each P (map f xs)
    each_map f [] p = each_nil
    each_map f (x ∷ xs) p = each_cons (p x) (each_map f xs p)

    each_each_from : (i : ℕ) (f : ℕ → A → A) (xs : List A) → Each P xs → ((j : ℕ) (x : A) → P x → P (f j x)) → Each P (each_from i f xs)
    unfolding each_from
    each_each_from i f [] e p = each_nil
    each_each_from i f (x ∷ xs) e p = each_cons (p i x (each_head e)) (each_each_from (suc i) f xs (each_tail e) p)

    pub each_each : (f : ℕ → A → A) (xs : List A) → Each P xs → ((j : ℕ) (x : A) → P x → P (f j x)) → Each P (each f xs)
    unfolding each
    each_each f xs e p = each_each_from 0 f xs e p

    each_tabulate_from : (i n : ℕ) (f : ℕ → A) → ((j : ℕ) → P (f j)) → Each P (tabulate_from i n f)
    unfolding tabulate_from
    each_tabulate_from i zero f p = each_nil
    each_tabulate_from i (suc n) f p = each_cons (p i) (each_tabulate_from (suc i) n f p)

    pub each_tabulate : (n : ℕ) (f : ℕ → A) → ((j : ℕ) → P (f j)) → Each P (tabulate n f)
    unfolding tabulate
    each_tabulate n f p = each_tabulate_from 0 n f p

    -- ---- every: Each as a test

    pub every_each : (f : A → Bool) (xs : List A) → ((x : A) → f x ≡ true → P x) → every f xs ≡ true → Each P xs
    unfolding every
    every_each f [] p h = each_nil
    every_each f (x ∷ xs) p h =
        each_cons (p x (and_left (f x) (every f xs) h)) (every_each f xs p (and_right (f x) (every f xs) h))

    pub each_every : (f : A → Bool) (xs : List A) → ((x : A) → P x → f x ≡ true) → Each P xs → every f xs ≡ true
    unfolding every
    each_every f [] p e = refl
    each_every f (x ∷ xs) p e = and_both (p x (each_head e)) (each_every f xs p (each_tail e))

    pub each_imp : {Q : A → Type 0} (xs : List A) → ((x : A) → P x → Q x) → Each P xs → Each Q xs
    each_imp [] f e = each_nil
    each_imp (x ∷ xs) f e = each_cons (f x (each_head e)) (each_imp xs f (each_tail e))

-- ---- tests over an index

every_from_at : (i n j : ℕ) (f : ℕ → Bool) → every_from i n f ≡ true → j < n → f (i + j) ≡ true
unfolding every_from
every_from_at i zero j f h l = absurd (not-suc-le-zero l)
every_from_at i (suc n) zero f h l = rw add-zero (and_left (f i) (every_from (suc i) n f) h)
every_from_at i (suc n) (suc j) f h l =
    let e : i + suc j ≡ suc i + j = omega arith in
    rw e (every_from_at (suc i) n j f (and_right (f i) (every_from (suc i) n f) h) (le_of_suc-le-suc l))

every_from_all : (i n : ℕ) (f : ℕ → Bool) → ((j : ℕ) → j < n → f (i + j) ≡ true) → every_from i n f ≡ true
unfolding every_from
every_from_all i zero f h = refl
every_from_all i (suc n) f h =
    and_both
    (rw add-zero at (h 0 (zero-lt-suc n)))
    (every_from_all (suc i) n f (λ j l. let e : suc i + j ≡ i + suc j = omega arith in rw e (h (suc j) (omega arith))))

pub every_below_at : (n j : ℕ) (f : ℕ → Bool) → every_below n f ≡ true → j < n → f j ≡ true
unfolding every_below
every_below_at n j f h l = rw zero-add at (every_from_at 0 n j f h l)

pub every_below_all : (n : ℕ) (f : ℕ → Bool) → ((j : ℕ) → j < n → f j ≡ true) → every_below n f ≡ true
unfolding every_below
every_below_all n f h = every_from_all 0 n f (λ j l. rw zero-add (h j l))

-- the lowest index that passes, or none
first_from_none : (i n j : ℕ) (f : ℕ → Bool) → first_from i n f ≡ none → j < n → f (i + j) ≡ false
unfolding first_from
first_from_none i zero j f h l = absurd (not-suc-le-zero l)
first_from_none i (suc n) zero f h l =
    by_bool (f i)
    (λ t. let z : ◌≡◌ {A = ℕ} 0 1 = cc in absurd (omega arith))
    (λ t. rw add-zero t)
first_from_none i (suc n) (suc j) f h l =
    let e : i + suc j ≡ suc i + j = omega arith in
    by_bool (f i)
    (λ t. let z : ◌≡◌ {A = ℕ} 0 1 = cc in absurd (omega arith))
    (λ t. rw e (first_from_none (suc i) n j f (cc) (le_of_suc-le-suc l)))

pub first_below_none : (n j : ℕ) (f : ℕ → Bool) → first_below n f ≡ none → j < n → f j ≡ false
unfolding first_below
first_below_none n j f h l = rw zero-add at (first_from_none 0 n j f h l)

pub record Lowest (n : ℕ) (f : ℕ → Bool) (m : ℕ) : Type 0 where
  pub below : m < n
  pub passes : f m ≡ true
  pub others : (j : ℕ) → j < m → f j ≡ false

record LowestFrom (i n : ℕ) (f : ℕ → Bool) (m : ℕ) : Type 0 where
  from : i ≤ m
  below : m < i + n
  passes : f m ≡ true
  others : (j : ℕ) → i ≤ j → j < m → f j ≡ false

first_from_some : (i n m : ℕ) (f : ℕ → Bool) → first_from i n f ≡ some m → LowestFrom i n f m
unfolding first_from
first_from_some i zero m f h = let z : ◌≡◌ {A = ℕ} 0 1 = cc in absurd (omega arith)
first_from_some i (suc n) m f h =
    by_bool (f i)
    (λ t.
    let e : i ≡ m = cc in
    record { from = omega arith; below = omega arith; passes = cc; others = λ j a b. absurd (omega arith) })
    (λ t.
    let r : LowestFrom (suc i) n f m = first_from_some (suc i) n m f (cc) in
    record {
      from = omega (arith, r.from);
      below = omega (arith, r.below);
      passes = r.passes;
      others = λ j a b. by_eq i j (λ e. rw e at t) (λ ne. r.others j (omega arith) b);
    })

pub first_below_some : (n m : ℕ) (f : ℕ → Bool) → first_below n f ≡ some m → Lowest n f m
unfolding first_below
first_below_some n m f h =
    let r : LowestFrom 0 n f m = first_from_some 0 n m f h in
    record { below = omega (arith, r.below); passes = r.passes; others = λ j l. r.others j (omega arith) l }

-- two functions that agree
pub map_same : {A B : Type 0} {f g : A → B} (xs : List A) → ((x : A) → f x ≡ g x) → map f xs ≡ map g xs
map_same [] h = refl
map_same (x ∷ xs) h = cc (h x, map_same xs h)

-- .. as far as the elements of a list go
pub map_each : {A B : Type 0} {f g : A → B} (xs : List A) → Each (λ x. f x ≡ g x) xs → map f xs ≡ map g xs
map_each [] e = refl
map_each (x ∷ xs) e = cc (each_head e, map_each xs (each_tail e))
