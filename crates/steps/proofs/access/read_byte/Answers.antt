-- `steps::access::read_byte` meets its contract. Assumes nothing.
use mathlib.Core.Path.{◌∙◌}
use Rattle.steps.specs.Access.{byte_read}
use Rattle.steps.proofs.access.read_byte.Goals as goal

pub returns : goal.returns
returns c =
    c.get.ensures ∙ byte_read c.requires.0 c.args.page c.args.offset c.requires.1 c.requires.2
