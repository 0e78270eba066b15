-- `engine::compare::compare_boards` meets its contract: the lower of two boards is named first. Assumes nothing.
use Rattle.engine.specs.Comparing.{in_order, other_order}
use Rattle.engine.proofs.compare.compare_boards.Goals as goal

pub returns-then-b-c : goal.returns-then-b-c
returns-then-b-c c = in_order _ _ _ c.if-b-c.true c.compare_in_order.ensures

pub returns : goal.returns
returns c = other_order _ _ _ c.if-b-c.false c.compare_in_order-2.ensures
