-- `comparison::unmatched::unmatched_in` meets its contract: both lists of pages, then their first difference. Assumes nothing.
use Rattle.model.specs.Definitions.Logs.{unmatched_in}
use Rattle.comparison.proofs.unmatched.unmatched_in.Goals as goal

pub returns-clause-first : goal.returns-clause-first
unfolding unmatched_in
returns-clause-first c = rw (c.board_pages-gots.ensures, c.board_pages-showns.ensures) at c.first_unmatched.ensures.first
