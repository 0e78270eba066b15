-- Words of the contracts of stores: how many were made, and whether power was lost at the last, off what a run of them returns. No law stands here.
-- Assumes nothing.
use Rattle.std.specs.Prelude.{ℕ, Bool, true, false, Result, Ok, Err}
use Rattle.stores.specs.declared.spend.PowerLost.{PowerLost}

-- the stores that were made, the one after which power was lost included
abbrev pub stores_made : Result ℕ PowerLost → ℕ
stores_made (Ok n) = n
stores_made (Err e) = e.stores

abbrev pub is_lost : {T : Type 0} → Result T PowerLost → Bool
is_lost (Ok x) = false
is_lost (Err e) = true
