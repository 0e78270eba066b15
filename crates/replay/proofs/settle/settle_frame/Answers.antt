-- `replay::settle::settle_frame` meets its contract. Assumes nothing.
use mathlib.Core.Path.{◌∙◌}
use Rattle.replay.specs.Settle.{frame_settled}
use Rattle.replay.proofs.settle.settle_frame.Goals as goal

pub returns : goal.returns
returns c =
    c.write_page_frame.ensures
    ∙ frame_settled c.requires.0 c.args.page c.args.own _ _ c.requires.1
    c.read_page_frame-frame.ensures c.settled_frame.ensures
