-- `steps::access::perform` meets its contract. Assumes nothing.
use mathlib.Core.Path.{sym, ap, ◌∙◌}
use Rattle.model.specs.Definitions.Codec.{encode_board}
use Rattle.model.specs.Definitions.Steps.{Read, Write, cells_written}
use Rattle.steps.specs.Access.{accessed_same}
use Rattle.steps.specs.Blocks.{board_of}
use Rattle.steps.proofs.access.perform.Goals as goal

pub returns-in-Some : goal.returns-in-Some
unfolding cells_written
returns-in-Some c =
    let w = c.in-Some.write in
    λ a e.
    c.write_access.ensures
    ∙ ap encode_board (accessed_same a (Write w.page w.offset w.value) (board_of c.args.pages c.args.block.now) (sym (rw c.in-Some.is at e)))

pub returns-in-None : goal.returns-in-None
unfolding cells_written
returns-in-None c =
    λ a e.
    c.read_access.ensures 0 0
    ∙ ap encode_board (accessed_same a (Read 0 0) (board_of c.args.pages c.args.block.now) (sym (rw c.in-None.is at e)))
