-- The pages of records that name a board, and the first place where two lists of them are apart: what document 02's F-7 finds (History/LogsStatement). Assumes
-- nothing.
use Rattle.std.specs.Prelude.{◌≡◌, ◌≢◌, ℕ, zero, suc, ◌+◌, ◌<◌, Bool, ◌&&◌, List, [], ◌∷◌, ◌++◌, map, length}
use Rattle.std.proofs.Math.Path.{refl}
use Rattle.std.proofs.Common.{sym, ap, subst, ◌∙◌, arith}
use Rattle.std.proofs.Math.Bool.{true, false}
use Rattle.std.proofs.Math.Option.{some}
use Rattle.std.proofs.Math.Dec.{eqb, ltb}
use borrow.Author.Tests.{eqb-true, eqb-false, eq-eqb, ne_eqb, lt-ltb, le-ltb, ltb-true, ltb-false}
use Rattle.types.specs.declared.Answer.{Answer}
use Rattle.types.specs.declared.Answer.TheVariants.{Compared}
use Rattle.types.specs.declared.Kind.{Kind}
use Rattle.types.specs.declared.Record.{Record}
use Rattle.model.specs.Definitions.Bank.{Bank, board_at}
use Rattle.model.specs.Definitions.Codec.{page_of, decode}
use Rattle.model.specs.Definitions.Check.{well_formed}
use Rattle.model.specs.Definitions.Steps.{start}
use Rattle.model.specs.Definitions.Logs.{pages_naming, first_unmatched, gots_of, showns_of, unmatched_in, compared_in_order, compared_logs}
use Rattle.model.specs.Definitions.Calls.{Result, unless, first_given, compare_bank, Comparing, call_within, call_bank, Reply, refused, reply_of, call}
use Rattle.model.specs.History.PeersStatement.{Said, said}
use Rattle.model.specs.History.LogsStatement.{MatchedAt, IsFirstUnmatched, AllMatched, Finds, given_by_lower, given_by_higher, nowhere}
use Rattle.model.specs.History.LogsStatement.{LeavesAll, ComparesLogs}
use Rattle.model.proofs.Laws.WellFormedTest.{well_formed_back}
use Rattle.model.proofs.Laws.Logic.{cases, by_bool}
use Rattle.model.proofs.Laws.Codes.Order.{never}
use Rattle.model.proofs.Laws.Codes.Cases.{compare_cases}

-- ==== lists of pages

-- log by log
pub pages_append : (such : Kind → Bool) (peer : ℕ) (rs qs : List Record)
    → pages_naming such peer (rs ++ qs) ≡ pages_naming such peer rs ++ pages_naming such peer qs
unfolding pages_naming
pages_append such peer [] qs = refl
pages_append such peer (r ∷ rs) qs =
    by_bool (such r.kind && eqb r.peer peer) (λ t. cc (pages_append such peer rs qs)) (λ t. cc (pages_append such peer rs qs))

-- the same of what records say
unfoldable pub pages_said : (Kind → Bool) → (peer : ℕ) → List Said → List ℕ
pages_said such peer [] = []
pages_said such peer (r ∷ rs) =
    elim (such r.kind && eqb r.peer peer) [ true ↦ page_of r.kind ∷ pages_said such peer rs | false ↦ pages_said such peer rs ]

pub pages_said_lem : (such : Kind → Bool) (peer : ℕ) (rs : List Record) → pages_naming such peer rs ≡ pages_said such peer (map said rs)
unfolding pages_naming pages_said
pages_said_lem such peer [] = refl
pages_said_lem such peer (r ∷ rs) = cc (pages_said_lem such peer rs)

pub said_append : (such : Kind → Bool) (peer : ℕ) (rs qs : List Said) → pages_said such peer (rs ++ qs) ≡ pages_said such peer rs ++ pages_said such peer qs
unfolding pages_said
said_append such peer [] qs = refl
said_append such peer (r ∷ rs) qs =
    by_bool (such r.kind && eqb r.peer peer) (λ t. cc (said_append such peer rs qs)) (λ t. cc (said_append such peer rs qs))

-- ==== the first place

-- gots that are the first of the showns are all matched
pub unmatched_prefix : (i : ℕ) (gots more : List ℕ) → first_unmatched i gots (gots ++ more) ≡ 0
unfolding first_unmatched
unmatched_prefix i [] more = refl
unmatched_prefix i (g ∷ gots) more = cc (eq-eqb g g refl, unmatched_prefix (suc i) gots more)

matched_cons : (g s : ℕ) (gots showns : List ℕ) → g ≡ s → (i : ℕ) → ((j : ℕ) → i ≡ suc j → MatchedAt gots showns j) → MatchedAt (g ∷ gots) (s ∷ showns) i
matched_cons g s gots showns e zero h = ap some (sym e)
matched_cons g s gots showns e (suc i) h = h i refl

-- all matched, or the first place that is not; n is how many stand before
unmatched_cases : (P : ℕ → Type 0) (n : ℕ) (gots showns : List ℕ) → (AllMatched gots showns → P 0)
    → ((i : ℕ) → IsFirstUnmatched gots showns i → P (suc (n + i))) → P (first_unmatched (suc n) gots showns)
unfolding first_unmatched
unmatched_cases P n [] showns all found = all (λ i l. absurd (omega arith))
unmatched_cases P n (g ∷ gots) [] all found =
    subst (λ (i : ℕ). P (suc i)) (omega arith) (found 0 (record { got = omega arith; unmatched = λ e. never (cc); before = λ j l. absurd (omega arith) }))
unmatched_cases P n (g ∷ gots) (s ∷ showns) all found =
    cases P (eqb g s)
    (λ t.
    let e : g ≡ s = eqb-true g s t in
    unmatched_cases P (suc n) gots showns
    (λ h. all (λ i l. matched_cons g s gots showns e i (λ j z. h j (omega arith))))
    (λ i h.
    subst (λ (i : ℕ). P (suc i)) (omega arith)
    (found (suc i)
    (record {
      got = omega (arith, h.got);
      unmatched = h.unmatched;
      before = λ j l. matched_cons g s gots showns e j (λ m z. h.before m (omega arith));
    }))))
    (λ t.
    subst (λ (i : ℕ). P (suc i)) (omega arith)
    (found 0
    (record {
      got = omega arith;
      unmatched = λ m. let z : s ≡ g = cc in absurd (eqb-false g s t (sym z));
      before = λ j l. absurd (omega arith);
    })))

-- from the first on
unmatched_first : (P : ℕ → Type 0) (gots showns : List ℕ) → (AllMatched gots showns → P 0) → ((i : ℕ) → IsFirstUnmatched gots showns i → P (suc i))
    → P (first_unmatched 1 gots showns)
unmatched_first P gots showns all found = unmatched_cases P 0 gots showns all (λ i h. subst (λ (j : ℕ). P (suc j)) (omega arith) (found i h))

-- ==== the call

-- a place that is one
placed : (i : ℕ) (x y : Answer) → ◌≡◌ {A = Answer} (elim (eqb (suc i) 0) [ false ↦ x | true ↦ y ]) x
placed i x y = cc (ne_eqb (suc i) 0 (λ e. omega arith))

compared_finds : (x y : ℕ) (k : Bank) → Finds x y k (compared_in_order x y k)
unfolding compared_in_order unmatched_in
compared_finds x y k =
    let other : ℕ → Answer = λ i. elim (eqb i 0) [ false ↦ Compared i x | true ↦ Compared 0 0 ] in
    let P : ℕ → Type 0 = λ i. Finds x y k (elim (eqb i 0) [ false ↦ Compared i y | true ↦ other (unmatched_in y x k) ]) in
    unmatched_first P (gots_of x y k) (showns_of x y k)
    (λ all.
    unmatched_first (λ i. Finds x y k (other i)) (gots_of y x k) (showns_of y x k)
    (λ both. nowhere all both)
    (λ i h. subst (Finds x y k) (sym (placed i (Compared (suc i) x) (Compared 0 0))) (given_by_higher i all h)))
    (λ i h. subst (Finds x y k) (sym (placed i (Compared (suc i) y) (other (unmatched_in y x k)))) (given_by_lower i h))

-- two boards named in either order
ordered_either : (b c : ℕ) (k : Bank) → b ≢ c → compared_logs c b k ≡ compared_logs b c k
unfolding compared_logs
ordered_either b c k n =
    by_bool (ltb b c)
    (λ t. let u : ltb c b ≡ false = le-ltb c b (omega (arith, ltb-true b c t)) in cc)
    (λ t. let u : ltb c b ≡ true = lt-ltb c b (omega (arith, ltb-false b c t, n)) in cc)

-- "the stored logs of their selected areas": what the two boards have not stored, and all other boards, change nothing
pub unmatched_by_stable : (x y : ℕ) (k j : Bank) → (board_at j x).stable ≡ (board_at k x).stable → (board_at j y).stable ≡ (board_at k y).stable
    → unmatched_in x y j ≡ unmatched_in x y k
unfolding unmatched_in
unmatched_by_stable x y k j e f = cc (e, f)

compare_either : (b c : ℕ) (k : Bank) → compare_bank c b k ≡ compare_bank b c k
unfolding compare_bank unless first_given
compare_either b c k =
    by_bool (eqb b c)
    (λ t. let e : b ≡ c = eqb-true b c t in ap (λ (d : ℕ). compare_bank d b k) (sym e) ∙ ap (λ (d : ℕ). compare_bank b d k) e)
    (λ t.
    let n : b ≢ c = eqb-false b c t in
    let f : eqb c b ≡ false = ne_eqb c b (λ e. n (sym e)) in
    let o = ordered_either b c k n in
    by_bool (ltb b (length k.boards))
    (λ l. by_bool (ltb c (length k.boards)) (λ m. cc) (λ m. cc))
    (λ l. by_bool (ltb c (length k.boards)) (λ m. cc) (λ m. cc)))

module _ (lower higher : ℕ) (s : List ℕ) where
  abbrev y : Reply
  y = call (Comparing lower higher) s

  compare_leaves : LeavesAll s (call (Comparing lower higher) s)
  unfolding call call_bank call_within refused reply_of start
  compare_leaves =
      cases (LeavesAll s) (well_formed s)
      (λ t.
      compare_cases (λ (r : Result). LeavesAll s (reply_of r)) lower higher (decode s)
      (λ x h i. record { bytes = well_formed_back s t; stores = refl; given = refl })
      (λ i d. record { bytes = well_formed_back s t; stores = refl; given = refl }))
      (λ t. record { bytes = refl; stores = refl; given = refl })

  compare_finds : well_formed s ≡ true → lower < higher → higher < length (decode s).boards
      → Finds lower higher (decode s) (call (Comparing lower higher) s).outcome.answer
  unfolding call call_bank call_within reply_of compare_bank compared_logs unless first_given
  compare_finds w l m =
      let k : Bank = decode s in
      let first : ltb lower (length k.boards) ≡ true = lt-ltb lower (length k.boards) (omega arith) in
      let second : ltb higher (length k.boards) ≡ true = lt-ltb higher (length k.boards) m in
      let other : eqb lower higher ≡ false = ne_eqb lower higher (λ e. absurd (omega arith)) in
      let order : ltb lower higher ≡ true = lt-ltb lower higher l in
      let e : (call (Comparing lower higher) s).outcome.answer ≡ compared_in_order lower higher k = cc in
      rw e (compared_finds lower higher k)

  pub compares_logs : ComparesLogs lower higher s
  unfolding call call_bank call_within
  compares_logs = record { finds = compare_finds; either = cc (compare_either lower higher (decode s)); leaves = compare_leaves }
