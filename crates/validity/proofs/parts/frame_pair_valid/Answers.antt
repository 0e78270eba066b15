-- `validity::parts::frame_pair_valid` meets its contract: both pages at once, or what is said of each part that was lent. Assumes nothing.
use mathlib.Core.Path.{◌≡◌, sym, ◌∙◌}
use Rattle.std.proofs.Common.{arith}
use Rattle.std.proofs.lemmas.Bool.Decides.{nat_tests}
use Rattle.model.specs.Definitions.Layout.{frame_size}
use Rattle.model.specs.Definitions.Parts.{part, byte_at}
use Rattle.types.specs.Bytes.{right_byte}
use Rattle.model.specs.Definitions.Check.{frame_valid}
use Rattle.model.proofs.Laws.Parts.{byte_at_first}
use Rattle.fields.proofs.Lent.{lent_read}
use Rattle.validity.specs.Words.{or_none, frame_page, frames_none}
use Rattle.validity.proofs.parts.frame_pair_valid.Goals as goal
use Rattle.validity.proofs.parts.frame_pair_valid.Goals.{After-frame_valid}

first : (c : goal.After-frame_valid)
    → c.frame_valid.result ≡ frame_valid (part c.args.s.now c.args.first frame_size)
first c = lent_read c.args.s.now
    c.args.first frame_size frame_valid _ c.frame_valid.ensures

pub returns-then-s-first : goal.returns-then-s-first
unfolding byte_at right_byte
returns-then-s-first c =
    let s = c.args.s.now in
    let none = or_none _ _ (c.if-s-first.true ∙ c.from.ensures) in
    frames_none (part s c.args.first frame_size) (part s c.args.second frame_size)
    c.page_bits.result
    c.page_bits-then-s-first.result
    (sym (byte_at_first s c.args.first frame_size (omega arith)) ∙ none.0)
    (sym (byte_at_first s c.args.second frame_size (omega arith)) ∙ none.1)
    (frame_page s c.args.first _ (omega arith) c.page_bits.ensures)
    (frame_page s c.args.second _ (omega arith) c.page_bits-then-s-first.ensures)

pub returns-then-frame_valid : goal.returns-then-frame_valid
returns-then-frame_valid c =
    let second = lent_read c.args.s.now c.args.second frame_size frame_valid _ c.frame_valid-then-frame_valid.ensures in
    grind (arith, nat_tests, first (goal.at.returns-then-frame_valid c).After-frame_valid, second)

pub returns-else-frame_valid : goal.returns-else-frame_valid
returns-else-frame_valid c = grind (arith, nat_tests, first (goal.at.returns-else-frame_valid c).After-frame_valid)
