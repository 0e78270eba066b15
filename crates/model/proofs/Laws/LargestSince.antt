-- Of all that a call does the largest since stands in code 4's test alone. So a call does the same under two of them wherever that test says the same, and
-- where it doesn't answer 4 under one, by a since that is not the other. Assumes nothing.
use Rattle.std.specs.Prelude.{◌≡◌, ◌≢◌, ℕ, eqb}
use Rattle.std.proofs.Math.Path.{refl, sym}
use Rattle.std.proofs.Common.{◌∙◌, ne_eqb}
use Rattle.model.specs.Definitions.Bank.{Bank, board_at}
use Rattle.model.specs.Definitions.WellFormed.{is_down}
use Rattle.model.specs.Definitions.Answers.{code}
use Rattle.model.specs.Definitions.Steps.{Access}
use Rattle.model.specs.Definitions.Calls.{Result, unless, first_given, access_in_range, wrong_cells, counters_full, refusals_within, access_within, Call}
use Rattle.model.specs.Definitions.Calls.{Accessing, Checkpointing, Fusing, Restarting, Comparing, call_within}
use Rattle.model.proofs.Laws.Logic.{by_bool}

-- m and n are two largest sinces
module _ (m n : ℕ) where
  -- only an access knows one: what holds of every access under both, and of anything beside itself, holds of every call
  pub by_access : (P : Result → Result → Type 0) (c : Call) (k : Bank)
      → ((b : ℕ) (a : Access) → c ≡ Accessing b a → P (access_within m b a k) (access_within n b a k)) → ((t : Result) → P t t)
      → P (call_within m c k) (call_within n c k)
  unfolding call_within
  by_access P (Accessing b a) k of_access same = of_access b a refl
  by_access P (Checkpointing b) k of_access same = same _
  by_access P (Fusing b s) k of_access same = same _
  by_access P (Restarting b) k of_access same = same _
  by_access P (Comparing b c) k of_access same = same _

  -- board b's since is m exactly where it is n
  abbrev pub SameTest : ℕ → Bank → Type 0
  SameTest b k = eqb (board_at k b).working.since m ≡ eqb (board_at k b).working.since n

  access_tests : (b : ℕ) (a : Access) (k : Bank) → SameTest b k → access_within m b a k ≡ access_within n b a k
  unfolding access_within refusals_within counters_full
  access_tests b a k e = rw e

  -- the largest since is in that test alone: where it says the same under both, so does the call
  pub largest_tested : (c : Call) (k : Bank) → ((b : ℕ) (a : Access) → c ≡ Accessing b a → SameTest b k) → call_within m c k ≡ call_within n c k
  largest_tested c k tests = by_access (λ s t. s ≡ t) c k (λ b a e. access_tests b a k (tests b a e)) (λ t. refl)

  -- an access by a since that is m is refused before the test, so under n too, or it answers 4
  access_until_full : (b : ℕ) (a : Access) (k : Bank) → (board_at k b).working.since ≢ n → code (access_within m b a k).answer ≢ 4
      → access_within m b a k ≡ access_within n b a k
  unfolding access_within refusals_within counters_full unless first_given code
  access_until_full b a k below not_full =
      by_bool (eqb (board_at k b).working.since m)
      (λ full.
      by_bool (access_in_range b a k)
      (λ fits.
      by_bool (wrong_cells a) (λ wrong. cc) (λ right. by_bool (is_down (board_at k b).state) (λ down. cc) (λ power. absurd (not_full (cc)))))
      (λ out. cc))
      (λ free. access_tests b a k (free ∙ sym (ne_eqb (board_at k b).working.since n below)))

  -- A call that doesn't answer 4 under m, by a since that is not n, does the same under n
  pub same_until_full : (c : Call) (k : Bank) → ((b : ℕ) (a : Access) → c ≡ Accessing b a → (board_at k b).working.since ≢ n)
      → code (call_within m c k).answer ≢ 4 → call_within m c k ≡ call_within n c k
  same_until_full c k below =
      by_access (λ s t. code s.answer ≢ 4 → s ≡ t) c k (λ b a e. access_until_full b a k (below b a e)) (λ t not_full. refl)
