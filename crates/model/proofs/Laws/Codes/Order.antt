-- The one law behind the order of the codes: where each test of a list decides its row of the table, the answer is that of the first row that
-- holds. With it, what tests say. Assumes nothing.
use Rattle.std.specs.Prelude.{◌≡◌, refl, ◌≢◌, ◌⊎◌, ◌↔◌, ℕ, zero, suc, ◌≤◌, ◌<◌, Bool, ◌&&◌, ◌||◌, not, List, [], ◌∷◌, ◌++◌, length, eqb, ltb, leb}
use Rattle.std.proofs.Common.{sym, ap, ◌∙◌, inl, inr, arith}
use Rattle.std.proofs.Math.Bool.{true, false}
use Rattle.std.proofs.lemmas.Bool.{eqb-false}
use Rattle.types.specs.declared.Answer.{Answer}
use Rattle.model.specs.Definitions.Parts.{every}
use Rattle.model.specs.Definitions.Answers.{code, value, who}
use Rattle.model.specs.Definitions.Steps.{Run}
use Rattle.model.specs.Definitions.Calls.{Result, first_given, unless}
use Rattle.model.proofs.Laws.Logic.{clash, and_left, and_right, not_true}
use Rattle.model.proofs.Laws.Tests.{Says, says_lt, says_le}
use Rattle.model.specs.Laws.Codes.Statement.{Row, First, NoRow, WhoIn, code_in, Some}

-- two constructors that an equation in scope joins: `cc` finds 0 ≡ 1
pub never : {X : Type 0} → ◌≡◌ {A = ℕ} 0 1 → X
never z = absurd (omega arith)

-- ==== tests and what they say, besides those of Laws.Tests

module _ {P : Type 0} where
  -- a test that fails
  pub fails : {t : Bool} → Says t P → t ≡ false → ¬ P
  fails d e p = clash (d.1 p) e

  pub refuted : (t : Bool) → Says t P → (¬ P) → t ≡ false
  refuted true d n = absurd (n (d.0 refl))
  refuted false d n = refl

  pub says_absurd : (¬ P) → Says false P
  says_absurd n = (λ e. clash e refl, λ p. absurd (n p))

  pub says_no : (t : Bool) → Says t P → Says (not t) (¬ P)
  says_no true d = (λ e. clash e refl, λ n. absurd (n (d.0 refl)))
  says_no false d = (λ e. fails d refl, λ n. refl)

module _ {P Q : Type 0} where
  pub says_iff : {t : Bool} → (P → Q) → (Q → P) → Says t P → Says t Q
  says_iff f g d = (λ e. f (d.0 e), λ q. d.1 (g q))

  -- the second test matters where the first fails
  pub says_or_else : (s t : Bool) → Says s P → (s ≡ false → Says t Q) → Says (s || t) (P ⊎ Q)
  says_or_else true t d e = (λ h. inl (d.0 refl), λ u. refl)
  says_or_else false t d e = (λ h. inr ((e refl).0 h), λ u. elim u [ inl x ↦ clash (d.1 x) refl | inr y ↦ (e refl).1 y ])

  pub says_or : (s t : Bool) → Says s P → Says t Q → Says (s || t) (P ⊎ Q)
  says_or s t d e = says_or_else s t d (λ h. e)

  -- the ranges of code 2 are tested all at once: out of range where one of them is
  pub says_not_and : (s t : Bool) → Says (not s) P → Says (not t) Q → Says (not (s && t)) (P ⊎ Q)
  says_not_and true t d e = (λ h. inr (e.0 h), λ u. elim u [ inl x ↦ clash (d.1 x) refl | inr y ↦ e.1 y ])
  says_not_and false t d e = (λ h. inl (d.0 refl), λ u. refl)

-- a test of every element fails where one element is out
pub says_not_every : {A : Type 0} {P : A → Type 0} (f : A → Bool) (xs : List A) → ((x : A) → Says (not (f x)) (P x)) → Says (not (every f xs)) (Some P xs)
unfolding every Some
says_not_every f [] d = says_absurd (λ u. u)
says_not_every f (x ∷ xs) d = says_not_and (f x) (every f xs) (d x) (says_not_every f xs d)

pub says_not_lt : (a b : ℕ) → Says (not (ltb a b)) (b ≤ a)
says_not_lt a b = says_iff (λ n. omega arith) (λ h. omega arith) (says_no (ltb a b) (says_lt a b))

pub says_not_le : (a b : ℕ) → Says (not (leb a b)) (b < a)
says_not_le a b = says_iff (λ n. omega arith) (λ h. omega arith) (says_no (leb a b) (says_le a b))

-- "fuse out of range", "N or P out of range": they begin with 1
pub says_not_pos : (n : ℕ) → Says (not (ltb 0 n)) (n ≡ 0)
says_not_pos n = says_iff (λ h. omega arith) (λ h. omega arith) (says_not_lt 0 n)

-- ==== answers in the table's order

-- an answer is that of the first of these rows that holds; where none holds, it satisfies Q
pub data Judged (Q : Answer → Type 0) (rs : List Row) (x : Answer) : Type 0 where
  by_row : (n : ℕ) → First rs n → code x ≡ code_in rs n → WhoIn rs n (who x) → value x ≡ 0 → Judged Q rs x
  passed : NoRow rs → Q x → Judged Q rs x

-- a test with its answer is that of row r
pub record TestOf (r : Row) (t : Bool) (x : Answer) : Type 0 where
  pub says : Says t r.when
  pub code : code x ≡ r.code
  pub who : t ≡ true → r.who (who x)
  pub value : value x ≡ 0

-- no row is left
pub judged_nil : {Q : Answer → Type 0} {x : Answer} → Q x → Judged Q [] x
unfolding NoRow
judged_nil q = passed tt q

module _ {Q : Answer → Type 0} {rs : List Row} where
  -- a row that doesn't hold
  pub judged_past : (r : Row) {x : Answer} → (¬ r.when) → Judged Q rs x → Judged Q (r ∷ rs) x
  unfolding First WhoIn code_in NoRow
  judged_past r n (by_row m f c w v) = by_row (suc m) (n, f) c w v
  judged_past r n (passed f q) = passed (n, f) q

  -- THE LAW OF ORDER: tests in the rows' order answer by the first that holds
  pub judged_test : {r : Row} (t : Bool) (x : Answer) (ts : List (Bool × Answer)) (run : Run) (go : Result)
      → TestOf r t x → ((¬ r.when) → Judged Q rs (unless ts run go).answer)
      → Judged Q (r ∷ rs) (unless ((t, x) ∷ ts) run go).answer
  unfolding unless first_given First WhoIn code_in
  judged_test true x ts run go d rest = by_row 0 (d.says.0 refl) d.code (d.who refl) d.value
  judged_test {r} false x ts run go d rest = judged_past r (fails d.says refl) (rest (fails d.says refl))

  -- no test is left
  pub judged_go : (run : Run) (go : Result) → Judged Q rs go.answer → Judged Q rs (unless [] run go).answer
  unfolding unless first_given
  judged_go run go h = h

-- ==== what a judged answer says of each code

first_unique : (rs : List Row) (m n : ℕ) → First rs m → First rs n → m ≡ n
unfolding First
first_unique [] m n f g = absurd f
first_unique (r ∷ rs) zero zero f g = refl
first_unique (r ∷ rs) zero (suc n) f g = absurd (g.0 f)
first_unique (r ∷ rs) (suc m) zero f g = absurd (f.0 g)
first_unique (r ∷ rs) (suc m) (suc n) f g = ap suc (first_unique rs m n f.1 g.1)

first_or_none : (rs : List Row) (n : ℕ) → First rs n → ¬ NoRow rs
unfolding First NoRow
first_or_none [] n f h = absurd f
first_or_none (r ∷ rs) zero f h = h.0 f
first_or_none (r ∷ rs) (suc n) f h = first_or_none rs n f.1 h.1

first_below : (rs : List Row) (n : ℕ) → First rs n → n < length rs
unfolding First
first_below [] n f = absurd f
first_below (r ∷ rs) zero f = omega arith
first_below (r ∷ rs) (suc n) f = omega (arith, first_below rs n f.1)

-- ---- rows are told from each other, and from a done call, by their codes

-- no row has this code
unfoldable pub no_code : ℕ → List Row → Bool
no_code i [] = true
no_code i (r ∷ rs) = not (eqb i r.code) && no_code i rs

-- no two rows have the same code
unfoldable pub differ : List Row → Bool
differ [] = true
differ (r ∷ rs) = no_code r.code rs && differ rs

-- a test, so that it computes for a table; 0 is the code of a done call
unfoldable pub apart : List Row → Bool
apart rs = no_code 0 rs && differ rs

no_code_at : (i : ℕ) (rs : List Row) (n : ℕ) → no_code i rs ≡ true → n < length rs → i ≢ code_in rs n
unfolding no_code code_in
no_code_at i [] n h l e = absurd (omega arith)
no_code_at i (r ∷ rs) zero h l e = eqb-false i r.code (not_true (and_left (not (eqb i r.code)) (no_code i rs) h)) e
no_code_at i (r ∷ rs) (suc n) h l e = no_code_at i rs n (and_right (not (eqb i r.code)) (no_code i rs) h) (omega arith) e

differ_at : (rs : List Row) (m n : ℕ) → differ rs ≡ true → m < length rs → n < length rs → code_in rs m ≡ code_in rs n → m ≡ n
unfolding differ code_in
differ_at [] m n h l k e = absurd (omega arith)
differ_at (r ∷ rs) zero zero h l k e = refl
differ_at (r ∷ rs) zero (suc n) h l k e = absurd (no_code_at r.code rs n (and_left (no_code r.code rs) (differ rs) h) (omega arith) e)
differ_at (r ∷ rs) (suc m) zero h l k e = absurd (no_code_at r.code rs m (and_left (no_code r.code rs) (differ rs) h) (omega arith) (sym e))
differ_at (r ∷ rs) (suc m) (suc n) h l k e =
    ap suc (differ_at rs m n (and_right (no_code r.code rs) (differ rs) h) (omega arith) (omega arith) e)

abbrev pub IsDone : Answer → Type 0
IsDone x = code x ≡ 0

module _ (rs : List Row) (x : Answer) (told : apart rs ≡ true) where
  not_done : (n : ℕ) → n < length rs → code x ≡ code_in rs n → ¬ IsDone x
  unfolding apart
  not_done n l e d = no_code_at 0 rs n (and_left (no_code 0 rs) (differ rs) told) l (sym d ∙ e)

  same_row : (m n : ℕ) → m < length rs → n < length rs → code x ≡ code_in rs m → code x ≡ code_in rs n → m ≡ n
  unfolding apart
  same_row m n l k e d = differ_at rs m n (and_right (no_code 0 rs) (differ rs) told) l k (sym e ∙ d)

  -- a row's code is answered exactly where it is the first that holds
  pub judged_code : Judged IsDone rs x → (n : ℕ) → n < length rs → (code x ≡ code_in rs n) ↔ First rs n
  judged_code (by_row m f c w v) n l =
      (λ e. rw (← same_row m n (first_below rs m f) l c e) f, λ g. let d : m ≡ n = first_unique rs m n f g in rw (← d) c)
  judged_code (passed f q) n l = (λ e. absurd (not_done n l e q), λ g. absurd (first_or_none rs n g f))

  pub judged_done : Judged IsDone rs x → (code x ≡ 0) ↔ NoRow rs
  judged_done (by_row m f c w v) = (λ e. absurd (not_done m (first_below rs m f) c e), λ h. absurd (first_or_none rs m f h))
  judged_done (passed f q) = (λ e. f, λ h. q)

  pub judged_who : Judged IsDone rs x → (n : ℕ) → n < length rs → code x ≡ code_in rs n → WhoIn rs n (who x)
  judged_who (by_row m f c w v) n l e = rw (← same_row m n (first_below rs m f) l c e) w
  judged_who (passed f q) n l e = absurd (not_done n l e q)

pub judged_value : {rs : List Row} {x : Answer} → Judged IsDone rs x → code x ≢ 0 → value x ≡ 0
judged_value (by_row m f c w v) n = v
judged_value (passed f q) n = absurd (n q)

-- ---- rows behind rows

first_append : (rs ss : List Row) (n : ℕ) → First rs n → First (rs ++ ss) n
unfolding First
first_append [] ss n f = absurd f
first_append (r ∷ rs) ss zero f = f
first_append (r ∷ rs) ss (suc n) f = (f.0, first_append rs ss n f.1)

who_append : (rs ss : List Row) (n w : ℕ) → WhoIn rs n w → WhoIn (rs ++ ss) n w
unfolding WhoIn
who_append [] ss n w f = absurd f
who_append (r ∷ rs) ss zero w f = f
who_append (r ∷ rs) ss (suc n) w f = who_append rs ss n w f

code_append : (rs ss : List Row) (n : ℕ) → First rs n → code_in (rs ++ ss) n ≡ code_in rs n
unfolding First code_in
code_append [] ss n f = absurd f
code_append (r ∷ rs) ss zero f = refl
code_append (r ∷ rs) ss (suc n) f = code_append rs ss n f.1

judged_behind : {Q : Answer → Type 0} (rs ss : List Row) (x : Answer) → NoRow rs → Judged Q ss x → Judged Q (rs ++ ss) x
unfolding NoRow
judged_behind [] ss x f h = h
judged_behind (r ∷ rs) ss x f h = judged_past r f.0 (judged_behind rs ss x f.1 h)

pub judged_append : {P Q : Answer → Type 0} (rs ss : List Row) (x : Answer) → Judged P rs x → (P x → Judged Q ss x) → Judged Q (rs ++ ss) x
judged_append rs ss x (by_row n f c w v) rest = by_row n (first_append rs ss n f) (c ∙ sym (code_append rs ss n f)) (who_append rs ss n (who x) w) v
judged_append rs ss x (passed f p) rest = judged_behind rs ss x f (rest p)

-- ---- the same tests, followed for anything else that holds of a result

pub unless_test : (P : Result → Type 0) (t : Bool) (x : Answer) (ts : List (Bool × Answer)) (run : Run) (go : Result)
    → (t ≡ true → P (record { answer = x; run = run; given = [] })) → (t ≡ false → P (unless ts run go)) → P (unless ((t, x) ∷ ts) run go)
unfolding unless first_given
unless_test P true x ts run go f g = f refl
unless_test P false x ts run go f g = g refl

pub unless_go : (P : Result → Type 0) (run : Run) (go : Result) → P go → P (unless [] run go)
unfolding unless first_given
unless_go P run go h = h
