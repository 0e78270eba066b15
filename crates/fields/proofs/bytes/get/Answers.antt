-- `fields::bytes::get` meets its contract. Assumes nothing.
use Rattle.model.specs.Definitions.Parts.{byte_at}
use mathlib.Core.Path.{refl}
use Rattle.fields.proofs.bytes.get.Goals as goal

pub returns : goal.returns
unfolding byte_at
returns c = refl
