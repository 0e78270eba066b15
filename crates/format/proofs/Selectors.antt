-- The selector's number, as the library converts a bool. Assumes nothing.
use Rattle.std.proofs.Common.{◌≡◌, refl, Bool, true, false}
use mir.Val.{bool_byte}
use Rattle.model.specs.Definitions.Codec.{selector_byte}

pub selector_number : (b : Bool) → bool_byte b ≡ selector_byte b
unfolding selector_byte
selector_number true = refl
selector_number false = refl
