-- `validity::block::board_fields_valid` meets its contract: each return follows the tests in turn. Assumes nothing.
use Rattle.std.proofs.Common.{rules, tests, arith}
use Rattle.std.proofs.lemmas.Bool.Decides.{nat_tests}
use Rattle.validity.specs.Pieces.{board_fields_valid}
use Rattle.validity.proofs.block.board_fields_valid.Goals as goal

pub returns-then-selected_count-volatile_count-le-SLOT_COUNT : goal.returns-then-selected_count-volatile_count-le-SLOT_COUNT
unfolding board_fields_valid
returns-then-selected_count-volatile_count-le-SLOT_COUNT c = grind (arith, nat_tests)

pub returns-else-selected_count-volatile_count-le-SLOT_COUNT : goal.returns-else-selected_count-volatile_count-le-SLOT_COUNT
unfolding board_fields_valid
returns-else-selected_count-volatile_count-le-SLOT_COUNT c = search (rules, tests)
