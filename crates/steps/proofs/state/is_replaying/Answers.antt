use Rattle.std.proofs.Common.{◌∙◌}
use Rattle.steps.specs.States.{same_replaying}
use Rattle.steps.proofs.state.is_replaying.Goals as goal

pub returns : goal.returns
returns c = c.eq.ensures ∙ same_replaying c.args.state
