-- `copies::state::board_up` meets its contract. Assumes nothing.
use mathlib.Core.Path.{ap, ◌∙◌}
use Rattle.model.specs.Definitions.WellFormed.{is_up}
use Rattle.steps.specs.States.{same_up}
use Rattle.copies.proofs.state.board_up.Goals as goal

pub returns : goal.returns
returns c = c.eq.ensures ∙ (same_up _ ∙ ap is_up c.board_state.ensures)
