-- `steps::access::right` meets its contract. Assumes nothing.
use Rattle.steps.specs.Access.{right_read}
use Rattle.steps.proofs.access.right.Goals as goal

pub returns : goal.returns
returns c =
    rw (c.from.ensures, c.get.ensures) (right_read c.requires.0 c.args.page c.requires.1)
