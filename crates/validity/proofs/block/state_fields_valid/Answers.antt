-- `validity::block::state_fields_valid` meets its contract: each return follows its state's tests. Assumes nothing.
use Rattle.std.proofs.Common.{rules, tests, arith}
use Rattle.std.proofs.lemmas.Bool.Decides.{nat_tests}
use Rattle.model.specs.Definitions.Parts.{byte_at}
use Rattle.model.specs.Definitions.Check.{state_valid}
use Rattle.validity.specs.Pieces.{state_fields_valid}
use Rattle.validity.proofs.block.state_fields_valid.Goals as goal

pub returns-in-Up : goal.returns-in-Up
unfolding state_fields_valid state_valid byte_at
returns-in-Up c = grind (arith, nat_tests)

pub returns-then-place-eq0 : goal.returns-then-place-eq0
unfolding state_fields_valid state_valid byte_at
returns-then-place-eq0 c = grind (arith, nat_tests)

pub returns-else-place-eq0 : goal.returns-else-place-eq0
unfolding state_fields_valid state_valid byte_at
returns-else-place-eq0 c = search (rules, tests)

pub returns-then-place-selected_count : goal.returns-then-place-selected_count
unfolding state_fields_valid state_valid byte_at
returns-then-place-selected_count c = grind (arith, nat_tests)

pub returns-else-place-selected_count : goal.returns-else-place-selected_count
unfolding state_fields_valid state_valid byte_at
returns-else-place-selected_count c = search (rules, tests)
