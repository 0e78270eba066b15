-- `engine::access::with_value` meets its contract: an outcome of code 0 gets the byte, and any other stays. Assumes nothing.
use mathlib.Core.Path.{sym, ap, ◌∙◌}
use Rattle.types.specs.declared.Answer.{Answer}
use Rattle.engine.specs.Cells.{when_done, when_other}
use Rattle.engine.proofs.access.with_value.Goals as goal

pub returns-then-is_done : goal.returns-then-is_done
returns-then-is_done c =
    let n = c.args in
    rw c.from.ensures (ap (λ (x : Answer). record { answer = x; stores = n.outcome.stores })
    (when_done n.outcome.answer _ _ (sym c.is_done.ensures ∙ c.if-is_done.true)))

pub returns : goal.returns
returns c =
    let n = c.args in
    ap (λ (x : Answer). record { answer = x; stores = n.outcome.stores })
    (when_other n.outcome.answer _ _ (sym c.is_done.ensures ∙ c.if-is_done.false))
