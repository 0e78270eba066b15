-- `validity::parts::frame_valid` meets its contract: each return follows the definition's tests. Assumes nothing.
use mathlib.Core.Path.{sym, ◌∙◌}
use Rattle.model.specs.Definitions.Parts.{byte_at}
use Rattle.validity.specs.Words.{frame_none, frame_some}
use Rattle.validity.proofs.parts.frame_valid.Goals as goal

pub returns-then-right-from : goal.returns-then-right-from
unfolding byte_at
returns-then-right-from c = c.zero_page.ensures ∙ frame_none _ (c.if-right-from.true ∙ c.from.ensures)

pub returns-else-right-from : goal.returns-else-right-from
unfolding byte_at
returns-else-right-from c = rw c.from-else-right-from.ensures (frame_some _ (λ e. c.if-right-from.false (e ∙ sym c.from.ensures)))
