-- `engine::compare::compare_in_order` meets its contract: the first place of the first direction that has one. Assumes nothing.
use mathlib.Core.Path.{sym, ◌∙◌}
use Rattle.engine.specs.Comparing.{first_place, second_place, no_place}
use Rattle.engine.proofs.compare.compare_in_order.Goals as goal

pub returns-in-Some : goal.returns-in-Some
returns-in-Some c = first_place _ _ _ c.unmatched_in.ensures.first c.in-Some.is

pub returns-in-Some-unmatched_in : goal.returns-in-Some-unmatched_in
returns-in-Some-unmatched_in c =
    second_place _ _ _ (sym c.in_default.is ∙ c.unmatched_in.ensures.first) c.unmatched_in-2.ensures.first c.in-Some-unmatched_in.is

pub returns-in-None : goal.returns-in-None
returns-in-None c = no_place _ _ _ (sym c.in_default.is ∙ c.unmatched_in.ensures.first) c.unmatched_in-2.ensures.first c.in-None.is
