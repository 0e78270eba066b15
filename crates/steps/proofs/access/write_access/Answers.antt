-- `steps::access::write_access` meets its contract: the counters, then the byte. Assumes nothing.
use mathlib.Core.Path.{◌∙◌}
use Rattle.steps.specs.Access.{byte_written}
use Rattle.steps.proofs.access.write_access.Goals as goal

pub returns : goal.returns
returns c =
    c.put.ensures
    ∙ byte_written c.requires.0 c.args.write.page c.args.write.offset c.args.write.value _ c.requires.3 c.requires.4
    (c.read_access.ensures c.args.write.page c.args.write.offset)
