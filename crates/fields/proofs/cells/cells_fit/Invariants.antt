-- The cells so far pass, so the rest decide.
use Rattle.std.proofs.Common.{◌≡◌}
use Rattle.model.specs.Definitions.Calls.{cell_in_range}
use Rattle.fields.specs.Cells.{PassedTo}
use Rattle.fields.proofs.cells.cells_fit.Given as goal

abbrev pub invariant-loop-cell : goal.invariant-loop-cell
invariant-loop-cell l = record {
  can_next : goal.iterator-loop-cell.can_next l.cell-iterator;
  is_finite : goal.iterator-loop-cell.is_finite l.cell-iterator;
  pairs : l.cell-iterator.size ≡ 2;
  passed : PassedTo (cell_in_range l.pages) l.cells l.cell-iterator.rest.now;
}
