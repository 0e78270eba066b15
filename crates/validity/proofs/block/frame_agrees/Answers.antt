-- `validity::block::frame_agrees` meets its contract: the right is the directory's, or the frame doesn't agree. Assumes nothing.
use borrow.Author.Tests.{ne_eqb}
use mathlib.Core.Path.{sym, ◌∙◌}
use Rattle.model.specs.Definitions.Parts.{byte_at}
use Rattle.model.specs.Definitions.Codec.{decode_frame}
use Rattle.model.specs.Definitions.Check.{page_agrees}
use Rattle.validity.specs.Pieces.{frame_agrees}
use Rattle.validity.specs.Words.{frame_given, frame_unlike}
use Rattle.validity.proofs.block.frame_agrees.Goals as goal

pub returns-then-frame-from : goal.returns-then-frame-from
unfolding frame_agrees page_agrees decode_frame byte_at
returns-then-frame-from c = c.frame_valid.ensures ∙ sym (frame_given c.args.frame.now _ (c.if-frame-from.true ∙ rw c.right_given.ensures at c.from.ensures))

pub returns-else-frame-from : goal.returns-else-frame-from
unfolding frame_agrees page_agrees decode_frame byte_at
returns-else-frame-from c = ne_eqb _ _ c.if-frame-from.false ∙ sym (frame_unlike c.args.frame.now _ (λ e. c.if-frame-from.false (e ∙ sym (rw c.right_given.ensures at c.from.ensures))))
