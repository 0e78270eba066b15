-- `validity::parts::peer_allowed` meets its contract: each return follows the rule for names. Assumes nothing.
use Rattle.std.proofs.Common.{arith}
use Rattle.std.proofs.lemmas.Bool.Decides.{nat_tests}
use Rattle.model.specs.Definitions.Check.{peer_allowed}
use Rattle.validity.proofs.parts.peer_allowed.Goals as goal

pub returns-then-from-boards : goal.returns-then-from-boards
unfolding peer_allowed
returns-then-from-boards c = grind (arith, nat_tests)

pub returns-else-from-boards : goal.returns-else-from-boards
unfolding peer_allowed
returns-else-from-boards c = grind (arith, nat_tests)

pub returns-else-named : goal.returns-else-named
unfolding peer_allowed
returns-else-named c = grind (arith, nat_tests)
