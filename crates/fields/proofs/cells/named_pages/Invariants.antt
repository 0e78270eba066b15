-- The pages of the cells so far are in the set, those of the rest are to come.
use Rattle.std.proofs.Common.{◌≡◌}
use Rattle.fields.specs.Cells.{NamedTo}
use Rattle.fields.proofs.cells.named_pages.Given as goal

abbrev pub invariant-loop-cell : goal.invariant-loop-cell
invariant-loop-cell l = record {
  can_next : goal.iterator-loop-cell.can_next l.cell-iterator;
  is_finite : goal.iterator-loop-cell.is_finite l.cell-iterator;
  pairs : l.cell-iterator.size ≡ 2;
  named : NamedTo l.pages l.cells l.cell-iterator.rest.now l.named;
}
