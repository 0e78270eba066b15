-- `replay::used::use_with_frame` meets its contract. Assumes nothing.
use mathlib.Core.Path.{◌∙◌}
use Rattle.replay.specs.Used.{frame_used}
use Rattle.replay.proofs.used.use_with_frame.Goals as goal

pub returns : goal.returns
returns c =
    c.write_page_frame.ensures
    ∙ frame_used c.requires.0 c.args.page c.args.frame _ c.requires.2 c.requires.3
    c.use_record.ensures
