-- `comparison::unmatched::shows_page` meets its contract: by the shown that comes next, or none. Assumes nothing.
use Rattle.comparison.specs.Matched.{found_some, found_none}
use Rattle.comparison.proofs.unmatched.shows_page.Goals as goal

pub returns-in-Some : goal.returns-in-Some
returns-in-Some c = found_some _ _ c.in-Some.ensures.steps

pub returns-in-None : goal.returns-in-None
returns-in-None c = found_none _ c.in-None.ensures.steps.0
