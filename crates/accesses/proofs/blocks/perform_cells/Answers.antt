-- `accesses::blocks::perform_cells` meets its contract. Assumes nothing.
use Rattle.accesses.proofs.blocks.perform_cells.Goals as goal

pub returns : goal.returns
returns c =
    record { read = c.gather.ensures; did = λ a s. c.perform.ensures a s.writes }
