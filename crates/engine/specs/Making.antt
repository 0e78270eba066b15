-- What making a bank replies, one law for each way through it. Assumes nothing.
use Rattle.std.specs.Prelude.{◌≡◌, ℕ, true, false, List, length, eqb}
use Rattle.types.specs.declared.Answer.TheVariants.{Malformed, OutOfRange}
use Rattle.model.specs.Definitions.Layout.{bank_size}
use Rattle.model.specs.Definitions.Bank.{fresh}
use Rattle.model.specs.Definitions.Calls.{refused, make}
use Rattle.engine.specs.Replies.{done}
use Rattle.model.specs.Definitions.Check.{sizes_allowed}

module _ (boards pages : ℕ) (s : List ℕ) where
  pub make_range : sizes_allowed boards pages ≡ false → make boards pages s ≡ refused OutOfRange s
  unfolding make
  make_range h = cc

  pub make_length : sizes_allowed boards pages ≡ true → eqb (length s) (bank_size boards pages) ≡ false → make boards pages s ≡ refused Malformed s
  unfolding make
  make_length h e = cc

  pub make_done : sizes_allowed boards pages ≡ true → eqb (length s) (bank_size boards pages) ≡ true → make boards pages s ≡ done (fresh boards pages)
  unfolding make
  make_done h e = cc
