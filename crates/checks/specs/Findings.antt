-- What a call of a board finds first, as a definition, and what each finding says of the bytes. Assumes nothing.
use Rattle.std.specs.Prelude.{◌≡◌, ℕ, ◌<◌, true, false, List, length, Result, Ok, Err, ltb}
use Rattle.std.proofs.Common.{arith, ltb-true}
use Rattle.types.specs.declared.State.{State}
use Rattle.model.specs.Definitions.Layout.{most_boards}
use Rattle.model.specs.Definitions.Bank.{board_at}
use Rattle.model.specs.Definitions.Codec.{decode}
use Rattle.model.specs.Definitions.WellFormed.{WellFormed}
use Rattle.model.specs.Definitions.Check.{well_formed}
use Rattle.model.proofs.Laws.Logic.{by_bool}
use Rattle.model.proofs.Laws.WellFormedTest.{well_formed_sound}
use Rattle.model.proofs.Laws.BankSteps.{is_bank_test}
use Rattle.model.specs.Clauses.{IsBank}
use Rattle.copies.specs.Banks.{OfBank}
use Rattle.checks.specs.declared.refusal.Refusal.{Refusal}
use Rattle.checks.specs.declared.refusal.Refusal.TheVariants.{Malformed, OutOfRange}

-- "Checked in this order": the bytes, the board's number; then its state is known
unfoldable pub finding_of : ℕ → List ℕ → Result State Refusal
finding_of b s =
    elim (well_formed s) [
      | false ↦ Err Malformed
      | true ↦ elim (ltb b (length (decode s).boards)) [ false ↦ Err OutOfRange | true ↦ Ok (board_at (decode s) b).state ]
    ]

-- what is known where there is a board
pub record OnBoard (b : ℕ) (s : List ℕ) (st : State) : Type 0 where
  pub formed : well_formed s ≡ true
  pub inside : b < length (decode s).boards
  pub whole : IsBank s
  pub state : (board_at (decode s) b).state ≡ st

-- its pages counted, what the steps on a bank ask for
pub on_bank : {b : ℕ} {s : List ℕ} {st : State} → OnBoard b s st → (pages : ℕ) → pages ≡ length (decode s).directory → OfBank pages b s
on_bank on pages e = record { bank = on.whole; count = e; board = on.inside }

pub on_formed : {b : ℕ} {s : List ℕ} {st : State} → OnBoard b s st → WellFormed (decode s)
on_formed {s = s} on = well_formed_sound s on.formed

pub on_small : {b : ℕ} {s : List ℕ} {st : State} → OnBoard b s st → b < most_boards
on_small on = omega (arith, on.inside, on.whole.sizes.boards)

module _ (b : ℕ) (s : List ℕ) where
  -- ---- from the tests to the finding

  pub finds_unreadable : well_formed s ≡ false → Err Malformed ≡ finding_of b s
  unfolding finding_of
  finds_unreadable v = cc

  pub finds_none : well_formed s ≡ true → ltb b (length (decode s).boards) ≡ false → Err OutOfRange ≡ finding_of b s
  unfolding finding_of
  finds_none v h = cc

  pub finds_board : well_formed s ≡ true → ltb b (length (decode s).boards) ≡ true → Ok (board_at (decode s) b).state ≡ finding_of b s
  unfolding finding_of
  finds_board v h = cc

  -- ---- from the finding to the tests: what `enter` ensures of its result e, and what the arm of a `match` on e is told

  module _ {e : Result State Refusal} (told : e ≡ finding_of b s) where
    pub refused_says : {a : Refusal} (P : Refusal → Type 0) → (well_formed s ≡ false → P Malformed)
        → (well_formed s ≡ true → ltb b (length (decode s).boards) ≡ false → P OutOfRange) → e ≡ Err a → P a
    refused_says {a} P unreadable out q =
        by_bool (well_formed s)
        (λ v. by_bool (ltb b (length (decode s).boards))
        (λ h. let r = finds_board v h in let z : ◌≡◌ {A = ℕ} 0 1 = cc in absurd (omega arith))
        (λ h. let r = finds_none v h in let i : a ≡ OutOfRange = cc in rw i (out v h)))
        (λ v. let r = finds_unreadable v in let i : a ≡ Malformed = cc in rw i (unreadable v))

    pub board_says : {st : State} → e ≡ Ok st → OnBoard b s st
    board_says q =
        by_bool (well_formed s)
        (λ v. by_bool (ltb b (length (decode s).boards))
        (λ h. let r = finds_board v h in record { formed = v; inside = ltb-true b _ h; whole = is_bank_test s v; state = cc })
        (λ h. let r = finds_none v h in let z : ◌≡◌ {A = ℕ} 0 1 = cc in absurd (omega arith)))
        (λ v. let r = finds_unreadable v in let z : ◌≡◌ {A = ℕ} 0 1 = cc in absurd (omega arith))
