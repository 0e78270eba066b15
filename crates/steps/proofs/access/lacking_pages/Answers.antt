-- `steps::access::lacking_pages` meets its contract. The invariant: the set has the lacking ones of the first pages. Assumes nothing.
use mathlib.Core.Path.{◌≡◌, sym, ◌∙◌}
use native.Mathlib.Omega.{arith}
use Rattle.steps.specs.Access.{lacking_first, lacking_with, lacking_without, lacking_all}
use Rattle.steps.proofs.access.lacking_pages.Goals.{then-lacks_page, else-lacks_page}
use Rattle.steps.proofs.access.lacking_pages.Goals as goal

pub loop-page-init : goal.loop-page-init
loop-page-init c = (omega arith, lacking_first)

pub loop-page-preserved : goal.loop-page-preserved
loop-page-preserved c = (
  omega arith,
  elim c.if-lacks_page.branch [
    | then-lacks_page w ↦ rw (w.lacking-is, w.with_member-lacking.ensures)
        (lacking_with c.loop-page.page c.loop-page.lacking c.loop-page.invariant.1 (sym c.lacks_page.ensures ∙ w.if-lacks_page.true))
    | else-lacks_page w ↦ rw w.lacking-is
        (lacking_without c.loop-page.page c.loop-page.lacking c.loop-page.invariant.1 (sym c.lacks_page.ensures ∙ w.if-lacks_page.false))
  ],
)

pub returns : goal.returns
returns c =
    λ a t p.
    let n : c.loop-page.page ≡ c.args.pages = omega arith in
    lacking_all _ _ (rw n at c.loop-page.invariant.1) a t p
