-- `steps::access::counters_full` meets its contract. Assumes nothing.
use borrow.Author.Tests.{eq-eqb, ne_eqb}
use Rattle.steps.specs.Access.{counters_test}
use Rattle.steps.proofs.access.counters_full.Goals as goal

pub returns-then-read_since-eq-LAST_SINCE : goal.returns-then-read_since-eq-LAST_SINCE
returns-then-read_since-eq-LAST_SINCE c =
    counters_test c.args.pages _ _ (rw (← c.read_since.ensures, eq-eqb _ _ c.if-read_since-eq-LAST_SINCE.true))

pub returns-else-read_since-eq-LAST_SINCE : goal.returns-else-read_since-eq-LAST_SINCE
returns-else-read_since-eq-LAST_SINCE c =
    counters_test c.args.pages _ _
    (rw (← c.read_since.ensures, ne_eqb _ _ c.if-read_since-eq-LAST_SINCE.false, ← c.read_number.ensures))
