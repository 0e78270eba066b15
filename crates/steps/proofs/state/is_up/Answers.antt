use Rattle.std.proofs.Common.{◌∙◌}
use Rattle.steps.specs.States.{same_up}
use Rattle.steps.proofs.state.is_up.Goals as goal

pub returns : goal.returns
returns c = c.eq.ensures ∙ same_up c.args.state
