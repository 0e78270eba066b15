-- The tests on entry of an access, as the code makes them: its numbers, then codes 4 and 5 on its board's block. Assumes nothing.
use Rattle.std.specs.Prelude.{◌≡◌, ℕ, ◌<◌, Bool, true, false, ◌&&◌, Result, Ok, Err, ltb}
use Rattle.std.proofs.Common.{ltb-true}
use Rattle.model.specs.Definitions.Layout.{byte_values, page_size, last_since}
use Rattle.model.specs.Definitions.Bank.{Board}
use Rattle.model.specs.Definitions.Steps.{Access}
use Rattle.model.specs.Definitions.Replay.{differs}
use Rattle.model.specs.Definitions.Calls.{counters_full}
use Rattle.model.proofs.Laws.Logic.{and_right}
use Rattle.checks.specs.declared.refusal.Refusal.{Refusal}
use Rattle.checks.specs.declared.refusal.Refusal.TheVariants.{CountersFull, ReplayDiffers}

-- ---- code 2

-- "page ≥ P, offset ≥ 16, value > 255": none of them
abbrev pub numbers_fit : ℕ → ℕ → ℕ → ℕ → Bool
numbers_fit pages p o v = ltb p pages && (ltb o page_size && ltb v byte_values)

pub value_fits : (pages p o v : ℕ) → numbers_fit pages p o v ≡ true → v < byte_values
value_fits pages p o v h = ltb-true v byte_values (and_right (ltb o page_size) _ (and_right (ltb p pages) _ h))

-- ---- codes 4 and 5

unfoldable pub admission_of : (b : ℕ) → Bool → Access → Board → Result (Unit {0}) Refusal
admission_of b rep a x =
    elim (counters_full last_since x) [
      | true ↦ Err (CountersFull b)
      | false ↦ elim (rep && differs a x) [ true ↦ Err (ReplayDiffers b) | false ↦ Ok tt ]
    ]

-- the tests in the code's order
module _ (b : ℕ) (a : Access) (x : Board) where
  pub admits_full : (rep : Bool) → counters_full last_since x ≡ true → Err (CountersFull b) ≡ admission_of b rep a x
  unfolding admission_of
  admits_full rep t = cc

  pub admits_live : (rep : Bool) → counters_full last_since x ≡ false → rep ≡ false → Ok tt ≡ admission_of b rep a x
  unfolding admission_of
  admits_live rep t u = cc

  module _ (rep : Bool) (t : counters_full last_since x ≡ false) (u : rep ≡ true) where
    pub admits_different : differs a x ≡ true → Err (ReplayDiffers b) ≡ admission_of b rep a x
    unfolding admission_of
    admits_different v = cc

    pub admits_repeated : differs a x ≡ false → Ok tt ≡ admission_of b rep a x
    unfolding admission_of
    admits_repeated v = cc
