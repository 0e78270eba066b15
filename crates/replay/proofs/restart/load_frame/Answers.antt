-- `replay::restart::load_frame` meets its contract. Assumes nothing.
use mathlib.Core.Path.{◌∙◌}
use Rattle.replay.specs.Restart.{frame_loaded}
use Rattle.replay.proofs.restart.load_frame.Goals as goal

pub returns : goal.returns
returns c =
    c.write_page_frame.ensures ∙ frame_loaded c.requires.0 c.args.page _ c.requires.1
    c.read_page_frame-frame.ensures
