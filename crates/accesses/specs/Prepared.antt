-- What comes before a live access, in the shape in which the code does it; proofs/Prepared says that it is what the definitions do. Assumes nothing.
use Rattle.std.specs.Prelude.{ℕ, true, false, eqb}
use Rattle.model.specs.Definitions.Bank.{Bank, entry_at}
use Rattle.model.specs.Definitions.Steps.{drop_copies}

-- a page without the copies that were out, if any were, dropped for writer w
unfoldable pub without_out : (w p : ℕ) → Bank → Bank
without_out w p k = elim (eqb (entry_at k p).copies 0) [ true ↦ k | false ↦ drop_copies w p k ]
