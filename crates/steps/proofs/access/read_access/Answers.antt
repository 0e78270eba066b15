-- `steps::access::read_access` meets its contract: both counters are one more. Assumes nothing.
use native.Mathlib.Omega.{arith}
use Rattle.model.specs.Definitions.Codec.{decode_board_in}
use Rattle.steps.specs.Access.{access_counted}
use Rattle.steps.proofs.access.read_access.Goals as goal

pub overflow_add-number : goal.overflow_add-number
unfolding decode_board_in
overflow_add-number c = omega (arith, c.read_number-number.ensures)

pub overflow_add-since : goal.overflow_add-since
unfolding decode_board_in
overflow_add-since c = omega (arith, c.read_since-since.ensures)

pub returns : goal.returns
returns c =
    let start = c in
    λ p o.
    rw (c.write_since.ensures, c.write_number.ensures)
    (access_counted start.requires.0 _ _ c.read_number-number.ensures c.read_since-since.ensures p o)
