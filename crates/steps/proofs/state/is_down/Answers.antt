use Rattle.std.proofs.Common.{◌∙◌}
use Rattle.steps.specs.States.{same_down}
use Rattle.steps.proofs.state.is_down.Goals as goal

pub returns : goal.returns
returns c = c.eq.ensures ∙ same_down c.args.state
