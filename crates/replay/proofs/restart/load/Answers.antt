-- `replay::restart::load` meets its contract. Assumes nothing.
use mathlib.Core.Path.{◌∙◌}
use Rattle.replay.specs.Restart.{restart_block, restart_loaded}
use Rattle.replay.proofs.restart.load.Goals as goal

pub load_frames-requires : goal.load_frames-requires
load_frames-requires c = restart_block c.requires _ c.load_head.ensures

pub returns : goal.returns
returns c =
    c.load_frames.ensures ∙ restart_loaded c.requires _
    c.load_head.ensures
