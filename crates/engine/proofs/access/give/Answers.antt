-- `engine::access::give` meets its contract: the bytes of a done call are copied, and of no other. Assumes nothing.
use mathlib.Core.Path.{sym, ◌∙◌}
use Rattle.engine.specs.Cells.{when_done, when_other}
use Rattle.engine.proofs.access.give.Goals as goal

pub returns-then-is_done : goal.returns-then-is_done
returns-then-is_done c = c.copy_from_slice.ensures.after ∙ when_done c.args.answer _ _ (sym c.is_done.ensures ∙ c.if-is_done.true)

pub returns-else-is_done : goal.returns-else-is_done
returns-else-is_done c = when_other c.args.answer _ _ (sym c.is_done.ensures ∙ c.if-is_done.false)
