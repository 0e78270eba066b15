-- `validity::bank::well_formed` meets its contract: the slots are tested where all else passed. Assumes nothing.
use Rattle.std.proofs.Common.{rules, tests, arith}
use Rattle.std.proofs.lemmas.Bool.Decides.{nat_tests}
use Rattle.model.specs.Definitions.Check.{well_formed_in}
use Rattle.validity.proofs.bank.well_formed.Goals as goal

pub returns-then-formed_in : goal.returns-then-formed_in
unfolding well_formed_in
returns-then-formed_in c = grind (arith, nat_tests)

pub returns-else-formed_in : goal.returns-else-formed_in
unfolding well_formed_in
returns-else-formed_in c = search (rules, tests)
