use Rattle.format.specs.Areas.{selected_at}
use Rattle.format.proofs.Selectors.{selector_number}
use Rattle.format.proofs.selected.selected_at.Goals as goal

pub returns-clause-place : goal.returns-clause-place
unfolding selected_at
returns-clause-place c = rw (c.area_at.ensures, c.from.ensures, selector_number, c.read_selector.ensures)
