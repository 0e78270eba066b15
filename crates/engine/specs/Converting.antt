-- What converting a bank of the older form replies: one law for each way through it; and what the test of a bank says of its head. Assumes nothing.
use Rattle.std.specs.Prelude.{◌≡◌, ℕ, ◌≤◌, Bool, List, length, eqb}
use Rattle.std.proofs.Common.{arith}
use Rattle.std.proofs.Math.Bool.{true, false}
use Rattle.types.specs.declared.Answer.TheVariants.{Malformed, HasRecords}
use Rattle.model.specs.Definitions.Parts.{byte_at}
use Rattle.model.specs.Definitions.Layout.{head_size, boards_at, pages_at, bank_size, Form}
use Rattle.model.specs.Definitions.Calls.{refused}
use Rattle.model.specs.Definitions.Older.{older_well_formed, older_bank, fits_target, convert, no_records}
use Rattle.model.specs.Definitions.Check.{head_valid, formed_in}
use Rattle.model.proofs.Laws.CodecBankBack.{bytes_ok}
use Rattle.model.proofs.Laws.Logic.{by_bool}
use Rattle.engine.specs.Replies.{done}

module _ (old new : List ℕ) where
  pub convert_malformed : older_well_formed old ≡ false → convert old new ≡ refused Malformed new
  unfolding convert
  convert_malformed h = cc

  module _ {boards pages : ℕ} (n : boards ≡ byte_at old boards_at) (p : pages ≡ byte_at old pages_at) (formed : older_well_formed old ≡ true) where
    pub convert_length : eqb (length new) (bank_size boards pages) ≡ false → convert old new ≡ refused Malformed new
    unfolding convert fits_target
    convert_length e = let f : fits_target old new ≡ false = rw (← n, ← p) e in cc

    pub convert_records : eqb (length new) (bank_size boards pages) ≡ true → no_records (older_bank old) ≡ false → convert old new ≡ refused HasRecords new
    unfolding convert fits_target
    convert_records e r = let f : fits_target old new ≡ true = rw (← n, ← p) e in cc

    pub convert_done : eqb (length new) (bank_size boards pages) ≡ true → no_records (older_bank old) ≡ true → convert old new ≡ done (older_bank old)
    unfolding convert fits_target
    convert_done e r = let f : fits_target old new ≡ true = rw (← n, ← p) e in cc

-- what the test says of the head
pub formed_head : (form : Form) (s : List ℕ) → formed_in form false s ≡ true → head_valid form s ≡ true
unfolding formed_in
formed_head form s h = by_bool (head_valid form s) (λ t. t) (λ t. cc)

pub head_inside : (form : Form) (named : Bool) (s : List ℕ) → formed_in form named s ≡ true → head_size ≤ length s
head_inside form named s h = omega (arith, (bytes_ok s h).head.size)
