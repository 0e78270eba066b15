-- `validity::parts::entry_valid` meets its contract: each return follows the definition's tests. Assumes nothing.
use Rattle.std.proofs.Common.{rules, tests, arith}
use Rattle.std.proofs.lemmas.Bool.Decides.{nat_tests}
use Rattle.model.specs.Definitions.Parts.{byte_at}
use Rattle.model.specs.Definitions.Codec.{decode_entry}
use Rattle.model.specs.Definitions.Check.{entry_valid}
use Rattle.validity.specs.Words.{no_bit_past}
use Rattle.validity.proofs.parts.entry_valid.Goals as goal

pub returns-then-from-boards-eq0 : goal.returns-then-from-boards-eq0
unfolding entry_valid decode_entry byte_at
returns-then-from-boards-eq0 c = rw (← no_bit_past) (grind (arith, nat_tests))

pub returns-else-from-boards-eq0 : goal.returns-else-from-boards-eq0
unfolding entry_valid decode_entry byte_at
returns-else-from-boards-eq0 c = rw (← no_bit_past) (search (rules, tests))
