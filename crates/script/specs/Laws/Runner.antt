-- What the definitions say of lines without a bank. Assumes nothing.
use Rattle.std.specs.Prelude.{◌≡◌, refl, []}
use Rattle.types.specs.declared.Answer.TheVariants.{Malformed}
use Rattle.model.specs.Definitions.Calls.{Call, call, refused}
use Rattle.model.specs.Definitions.Parts.{byte_at}
use Rattle.model.specs.Definitions.Check.{head_valid, formed_in, well_formed_in}

-- "With no bank each readable line prints 1"
pub no_bank : (c : Call) → call c [] ≡ refused Malformed []
unfolding byte_at head_valid formed_in well_formed_in call refused
no_bank c = refl
