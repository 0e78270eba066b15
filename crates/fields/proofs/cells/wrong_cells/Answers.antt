-- `fields::cells::wrong_cells` meets its contract: each return is one test of code 10. Assumes nothing.
use native.Mathlib.Omega.{arith}
use Rattle.fields.specs.Cells.{wrong_none, wrong_odd, wrong_many, wrong_room}
use Rattle.fields.proofs.cells.wrong_cells.Goals as goal

pub returns-then-count-eq0 : goal.returns-then-count-eq0
returns-then-count-eq0 c = wrong_none _ _ (omega arith)

pub returns-then-cells-eq1 : goal.returns-then-cells-eq1
returns-then-cells-eq1 c = wrong_odd _ _ (λ e. absurd (omega arith)) (omega arith)

pub returns-then-count-gt-MOST_CELLS : goal.returns-then-count-gt-MOST_CELLS
returns-then-count-gt-MOST_CELLS c = wrong_many _ _ (λ e. absurd (omega arith)) (λ e. absurd (omega arith)) (omega arith)

pub returns : goal.returns
returns c = wrong_room _ _ (λ e. absurd (omega arith)) (λ e. absurd (omega arith)) (omega arith)
