-- Two logs held against each other: what is answered by what the tests and the search say, one law for each way through the call. Assumes nothing.
use Rattle.std.specs.Prelude.{◌≡◌, ◌≢◌, ℕ, ◌≤◌, ◌<◌, List, length, Option, Some, None, suc}
use Rattle.std.proofs.Common.{zero, refl, sym, ◌∙◌, arith}
use Rattle.std.proofs.Math.Bool.{true, false}
use Rattle.std.proofs.Math.Dec.{eqb, ltb}
use borrow.Author.Tests.{lt-ltb, le-ltb, eq-eqb, ne_eqb}
use Rattle.types.specs.declared.State.{State}
use Rattle.types.specs.declared.Answer.{Answer}
use Rattle.types.specs.declared.Answer.TheVariants.{OutOfRange, Compared, SameBoard}
use Rattle.model.specs.Definitions.Bank.{Bank}
use Rattle.model.specs.Definitions.Codec.{decode}
use Rattle.model.specs.Definitions.Logs.{unmatched_in, compared_in_order, compared_logs}
use Rattle.model.specs.Definitions.Calls.{unless, first_given, compare_bank, Comparing, call_within, call_bank, refused, call}
use Rattle.comparison.specs.Matched.{place_in}
use Rattle.checks.specs.Findings.{OnBoard}
use Rattle.engine.specs.Replies.{call_refused, listed}

-- ---- the lower board as giver first

-- a place in a log, and none
some_place : (n : ℕ) {i : ℕ} → Some i ≡ place_in n → (i ≡ n) × (eqb n 0 ≡ false)
some_place zero e = cc
some_place (suc n) e = (cc, ne_eqb (suc n) 0 (λ z. absurd (omega arith)))

none_place : (n : ℕ) → None ≡ place_in n → n ≡ 0
none_place zero e = refl
none_place (suc n) e = cc

module _ (x y : ℕ) (k : Bank) where
  pub first_place : {r : Option ℕ} {i : ℕ} → r ≡ place_in (unmatched_in x y k) → r ≡ Some i → Compared i y ≡ compared_in_order x y k
  unfolding compared_in_order
  first_place e q = let p = some_place (unmatched_in x y k) (sym q ∙ e) in cc

  module _ (first : None ≡ place_in (unmatched_in x y k)) where
    pub second_place : {r : Option ℕ} {i : ℕ} → r ≡ place_in (unmatched_in y x k) → r ≡ Some i → Compared i x ≡ compared_in_order x y k
    unfolding compared_in_order
    second_place e q =
        let s : eqb (unmatched_in x y k) 0 ≡ true = eq-eqb (unmatched_in x y k) 0 (none_place (unmatched_in x y k) first) in
        let p = some_place (unmatched_in y x k) (sym q ∙ e) in
        cc

    pub no_place : {r : Option ℕ} → r ≡ place_in (unmatched_in y x k) → r ≡ None → Compared 0 0 ≡ compared_in_order x y k
    unfolding compared_in_order
    no_place e q =
        let s : eqb (unmatched_in x y k) 0 ≡ true = eq-eqb (unmatched_in x y k) 0 (none_place (unmatched_in x y k) first) in
        let t : eqb (unmatched_in y x k) 0 ≡ true = eq-eqb (unmatched_in y x k) 0 (none_place (unmatched_in y x k) (sym q ∙ e)) in
        cc

-- ---- in either order

module _ (b c : ℕ) (k : Bank) {r : Answer} where
  pub in_order : b < c → r ≡ compared_in_order b c k → r ≡ compared_logs b c k
  unfolding compared_logs
  in_order l e = let t : ltb b c ≡ true = lt-ltb b c l in cc

  pub other_order : c ≤ b → r ≡ compared_in_order c b k → r ≡ compared_logs b c k
  unfolding compared_logs
  other_order l e = let t : ltb b c ≡ false = le-ltb b c l in cc

-- ---- the call, on the bytes of a bank that has the first board

module _ {b : ℕ} {s : List ℕ} {st : State} (on : OnBoard b s st) (c : ℕ) where
  abbrev k : Bank
  k = decode s

  pub other_out : length (decode s).boards ≤ c → call (Comparing b c) s ≡ refused OutOfRange s
  unfolding call_bank call_within compare_bank unless first_given
  other_out h =
      let l : ltb b (length k.boards) ≡ true = listed on in
      let m : ltb c (length k.boards) ≡ false = le-ltb c (length k.boards) h in
      call_refused s on.formed (Comparing b c) OutOfRange (cc)

  module _ (inside : c < length (decode s).boards) where
    pub same_board : b ≡ c → call (Comparing b c) s ≡ refused SameBoard s
    unfolding call_bank call_within compare_bank unless first_given
    same_board e =
        let l : ltb b (length k.boards) ≡ true = listed on in
        let m : ltb c (length k.boards) ≡ true = lt-ltb c (length k.boards) inside in
        let t : eqb b c ≡ true = eq-eqb b c e in
        call_refused s on.formed (Comparing b c) SameBoard (cc)

    -- done, without a store and with the bytes as they were, as a refusal leaves them
    pub compare_done : b ≢ c → call (Comparing b c) s ≡ refused (compared_logs b c (decode s)) s
    unfolding call_bank call_within compare_bank unless first_given
    compare_done n =
        let l : ltb b (length k.boards) ≡ true = listed on in
        let m : ltb c (length k.boards) ≡ true = lt-ltb c (length k.boards) inside in
        let t : eqb b c ≡ false = ne_eqb b c n in
        call_refused s on.formed (Comparing b c) (compared_logs b c k) (cc)
