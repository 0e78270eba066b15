-- `validity::parts::frames_valid` meets its contract: a test of every page. Assumes nothing.
use Rattle.std.proofs.Common.{ℕ, ◌+◌, ◌*◌, Bool, refl, ◌∙◌, rules, tests, arith}
use Rattle.std.proofs.lemmas.Iterator.{YieldsList-from_range}
use Rattle.std.proofs.lemmas.Iterator.Search.{all_from_yields_List}
use Rattle.model.specs.Definitions.Layout.{frame_size}
use Rattle.model.specs.Definitions.Parts.{part}
use Rattle.model.specs.Definitions.Check.{frame_valid, frames_valid}
use Rattle.validity.specs.Search.{below_range}
use Rattle.fields.proofs.Lent.{lent_part}
use Rattle.validity.proofs.parts.frames_valid.Goals as goal

pub returns : goal.returns
unfolding frames_valid
returns c =
    let test : ℕ → Bool = λ p. frame_valid (part c.args.s.now (c.args.at + p * frame_size) frame_size) in
    all_from_yields_List test _ _ c.all.result c.all.ensures.ran (YieldsList-from_range 0 c.args.pages c.args.pages refl (omega arith)) (λ x b q k. search (rules, tests, lent_part c.args.s.now (c.args.at + x * frame_size) frame_size))
    ∙ below_range test c.args.pages
