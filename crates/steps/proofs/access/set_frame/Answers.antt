-- `steps::access::set_frame` meets its contract. Assumes nothing.
use mathlib.Core.Path.{◌∙◌}
use Rattle.steps.specs.Access.{frame_written}
use Rattle.steps.proofs.access.set_frame.Goals as goal

pub returns : goal.returns
returns c =
    c.write_page_frame.ensures ∙ frame_written c.requires.0 c.args.page c.args.frame c.requires.1 c.requires.2
