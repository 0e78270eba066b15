-- `checks::admission::admit_block` meets its contract: each return is one finding. Assumes nothing.
use mathlib.Core.Path.{refl, sym, ◌∙◌}
use Rattle.validity.specs.Search.{failed, passed}
use Rattle.checks.specs.Admission.{admits_full, admits_live, admits_different, admits_repeated}
use Rattle.checks.proofs.admission.admit_block.Goals as goal

pub returns-then-counters_full : goal.returns-then-counters_full
returns-then-counters_full c = λ a t. admits_full _ _ _ _ (sym c.counters_full.ensures ∙ c.if-counters_full.true)

pub returns-then-not-replaying : goal.returns-then-not-replaying
returns-then-not-replaying c =
    λ a t. admits_live _ _ _ _ (sym c.counters_full.ensures ∙ c.if-counters_full.false) (failed refl c.if-not-replaying.true-raw)

pub returns-then-differs : goal.returns-then-differs
returns-then-differs c =
    λ a t. admits_different _ _ _ _ (sym c.counters_full.ensures ∙ c.if-counters_full.false) (passed refl c.if-not-replaying.false-raw)
    (sym (c.differs.ensures a t) ∙ c.if-differs.true)

pub returns : goal.returns
returns c =
    λ a t. admits_repeated _ _ _ _ (sym c.counters_full.ensures ∙ c.if-counters_full.false) (passed refl c.if-not-replaying.false-raw)
    (sym (c.differs.ensures a t) ∙ c.if-differs.false)
