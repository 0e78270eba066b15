-- `accesses::live::missing_page` meets its contract: the loop's invariant says that no lower page is found. Assumes nothing.
use mathlib.Core.Path.{sym, ◌∙◌}
use native.Mathlib.Omega.{arith}
use Rattle.accesses.specs.Needs.{found_at, found_none, search_on, search_begins}
use Rattle.accesses.proofs.live.missing_page.Goals as goal

pub loop-page-init : goal.loop-page-init
loop-page-init c = search_begins _ _

pub returns-then-giver_missing-clause-found : goal.returns-then-giver_missing-clause-found
returns-then-giver_missing-clause-found c =
    let loop = c.loop-page in
    found_at c.args.pages loop.page _ loop.invariant (omega arith) (sym c.giver_missing.ensures ∙ c.if-giver_missing.true)

pub loop-page-preserved : goal.loop-page-preserved
loop-page-preserved c =
    let loop = c.loop-page in
    search_on c.args.pages loop.page _ loop.invariant (omega arith) (sym c.giver_missing.ensures ∙ c.if-giver_missing.false)

pub returns-clause-found : goal.returns-clause-found
returns-clause-found c =
    let loop = c.loop-page in
    found_none c.args.pages loop.page _ loop.invariant (omega arith)
