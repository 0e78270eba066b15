-- `accesses::need::need` meets its contract. The loop's invariant: what is added up so far and what is left make the sum. Assumes nothing.
use mathlib.Core.Path.{◌∙◌}
use native.Mathlib.Omega.{arith}
use Rattle.accesses.specs.Needs.{sum_begins, sum_on, sum_ends, need_written, need_zero, need_of}
use Rattle.accesses.proofs.need.need.Goals as goal

pub returns-in-Some-clause-need : goal.returns-in-Some-clause-need
returns-in-Some-clause-need c =
    let page = rw c.in-Some.is at c.requires.2 in
    λ a l.
    c.page_need.ensures.need a l
    ∙ (need_written l c.args.board c.in-Some.w c.in-Some.is page ∙ need_of _ _ a _ _ c.requires.0.count)

pub returns-then-lacking-eq0-clause-need : goal.returns-then-lacking-eq0-clause-need
returns-then-lacking-eq0-clause-need c =
    λ a l. need_zero l c.args.board c.in_default.is c.if-lacking-eq0.true ∙ need_of _ _ a _ _ c.requires.0.count

pub loop-page-init : goal.loop-page-init
loop-page-init c = (omega arith, λ a l. sum_begins _ _)

pub loop-page-preserved : goal.loop-page-preserved
loop-page-preserved c =
    let loop = c.loop-page in (
      omega (arith, c.page_need-need.ensures.few),
      λ a l. sum_on _ _ loop.need loop.page _ (omega arith) (c.page_need-need.ensures.need a l) (loop.invariant.1 a l),
    )

pub returns-clause-need : goal.returns-clause-need
returns-clause-need c =
    let loop = c.loop-page in
    λ a l. sum_ends _ _ loop.need loop.page (omega arith) (loop.invariant.1 a l) ∙ need_of _ _ a _ _ c.requires.0.count
