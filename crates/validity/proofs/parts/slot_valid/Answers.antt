-- `validity::parts::slot_valid` meets its contract: each return is a law of the slot's mark. Assumes nothing.
use mathlib.Core.Path.{sym, ◌∙◌}
use Rattle.model.specs.Definitions.Parts.{byte_at}
use Rattle.validity.specs.Words.{slot_out, slot_bare, slot_other}
use Rattle.validity.proofs.parts.slot_valid.Goals as goal

pub returns-then-from-pages : goal.returns-then-from-pages
unfolding byte_at
returns-then-from-pages c = slot_out _ _ _ (rw (← c.from.ensures) c.if-from-pages.true)

pub returns-then-bare_mark : goal.returns-then-bare_mark
unfolding byte_at
returns-then-bare_mark c = rw (c.zero_page.ensures, c.slot_bytes_at_in.ensures) (slot_bare _ _ _ (rw (← c.from.ensures) c.if-from-pages.false) (sym c.bare_mark.ensures ∙ c.if-bare_mark.true))

pub returns-else-bare_mark : goal.returns-else-bare_mark
unfolding byte_at
returns-else-bare_mark c = c.got_mark.ensures ∙ slot_other _ _ _ (rw (← c.from.ensures) c.if-from-pages.false) (sym c.bare_mark.ensures ∙ c.if-bare_mark.false)
