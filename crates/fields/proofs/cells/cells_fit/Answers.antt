-- Each chunk is a cell. Assumes nothing.
use Rattle.std.proofs.Common.{rules, sym, ◌∙◌, arith}
use Rattle.fields.specs.Cells.{passed_next, passed_not, passed_all}
use Rattle.fields.proofs.cells.cells_fit.Goals as goal

pub returns-then-not-cell_fits : goal.returns-then-not-cell_fits
returns-then-not-cell_fits c =
    let next = c.in-Some.ensures.steps in
    passed_not _ _ _ c.loop-cell.invariant.passed _ _ next.1.0 (next.1.1 ∙ c.loop-cell.invariant.pairs) (sym c.cell_fits.ensures ∙ c.if-not-cell_fits.true)

pub loop-cell-preserved : goal.loop-cell-preserved
loop-cell-preserved c =
    let next = c.in-Some.ensures.steps in
    record {
      can_next = search rules;
      is_finite = tt;
      pairs = next.0 ∙ c.loop-cell.invariant.pairs;
      passed = passed_next _ _ _ c.loop-cell.invariant.passed _ _ next.1.0 (next.1.1 ∙ c.loop-cell.invariant.pairs) (sym c.cell_fits.ensures ∙ c.if-not-cell_fits.false);
    }

pub returns : goal.returns
returns c = passed_all _ _ _ c.loop-cell.invariant.passed (omega (arith, c.in-None.ensures.steps, c.loop-cell.invariant.pairs))
