-- `validity::block::right_given` meets its contract: each return follows the definition's tests. Assumes nothing.
use mathlib.Core.Path.{sym, ◌∙◌}
use Rattle.model.specs.Definitions.Parts.{byte_at}
use Rattle.model.specs.Definitions.Codec.{decode_entry}
use Rattle.model.proofs.Laws.Boards.{right_in_owner, right_in_copy, right_in_none}
use Rattle.validity.proofs.block.right_given.Goals as goal

pub returns-then-entry-board : goal.returns-then-entry-board
unfolding decode_entry byte_at
returns-then-entry-board c = sym (right_in_owner (decode_entry c.args.entry.now) _ c.if-entry-board.true)

pub returns-then-has : goal.returns-then-has
unfolding decode_entry byte_at
returns-then-has c = sym (right_in_copy (decode_entry c.args.entry.now) _ c.if-entry-board.false (sym (rw c.from.ensures at c.has.ensures) ∙ c.if-has.true))

pub returns-else-has : goal.returns-else-has
unfolding decode_entry byte_at
returns-else-has c = sym (right_in_none (decode_entry c.args.entry.now) _ c.if-entry-board.false (sym (rw c.from.ensures at c.has.ensures) ∙ c.if-has.false))
