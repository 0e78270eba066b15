-- `validity::block::block_fits` meets its contract: each return follows the tests in turn. Assumes nothing.
use Rattle.std.proofs.Common.{rules, tests, arith}
use Rattle.std.proofs.lemmas.Bool.Decides.{nat_tests}
use Rattle.validity.specs.Order.{block_pieces}
use Rattle.validity.proofs.block.block_fits.Goals as goal

pub returns-then-board_fields_valid : goal.returns-then-board_fields_valid
returns-then-board_fields_valid c = rw (block_pieces _ _ _ _ _ c.requires.1.1) (grind (arith, nat_tests))

pub returns-else-board_fields_valid : goal.returns-else-board_fields_valid
returns-else-board_fields_valid c = rw (block_pieces _ _ _ _ _ c.requires.1.1) (search (rules, tests))
