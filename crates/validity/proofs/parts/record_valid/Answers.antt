-- `validity::parts::record_valid` meets its contract: whom the record names, then the rest of its slot. Assumes nothing.
use Rattle.std.proofs.Common.{arith}
use Rattle.std.proofs.lemmas.Bool.Decides.{nat_tests}
use Rattle.model.specs.Definitions.Parts.{byte_at}
use Rattle.model.specs.Definitions.Check.{slot_peer_valid}
use Rattle.validity.specs.Pieces.{record_valid}
use Rattle.validity.proofs.parts.record_valid.Goals as goal

pub returns-then-peer_allowed : goal.returns-then-peer_allowed
unfolding record_valid slot_peer_valid byte_at
returns-then-peer_allowed c = grind (arith, nat_tests)

pub returns-else-peer_allowed : goal.returns-else-peer_allowed
unfolding record_valid slot_peer_valid byte_at
returns-else-peer_allowed c = grind (arith, nat_tests)
