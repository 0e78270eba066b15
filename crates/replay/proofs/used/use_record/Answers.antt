-- `replay::used::use_record` meets its contract. Assumes nothing.
use native.Mathlib.Omega.{arith}
use Rattle.model.specs.Definitions.Codec.{decode_board_in}
use Rattle.replay.specs.Used.{record_used}
use Rattle.replay.proofs.used.use_record.Goals as goal

pub overflow_add-place : goal.overflow_add-place
unfolding decode_board_in
overflow_add-place c = omega (arith, c.read_place-place.ensures)

pub returns : goal.returns
returns c =
    rw (c.write_since.ensures, c.write_place.ensures)
    (record_used c.requires.0 _
    c.read_place-place.ensures)
