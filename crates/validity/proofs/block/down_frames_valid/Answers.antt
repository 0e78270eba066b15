-- `validity::block::down_frames_valid` meets its contract: a test of every page. Assumes nothing.
use Rattle.std.proofs.Common.{ℕ, Bool, ◌&&◌, refl, ◌∙◌, rules, tests, arith}
use Rattle.std.proofs.lemmas.Iterator.{YieldsList-from_range}
use Rattle.std.proofs.lemmas.Iterator.Search.{all_from_yields_List}
use Rattle.model.specs.Definitions.Layout.{form_of}
use Rattle.validity.specs.Pieces.{own_page_zero, stored_page_valid, down_frames_valid}
use Rattle.validity.specs.Search.{below_range}
use Rattle.validity.proofs.block.down_frames_valid.Goals as goal

pub returns : goal.returns
unfolding down_frames_valid
returns c =
    let test : ℕ → Bool = λ p. own_page_zero (form_of c.args.since) c.args.block.now p && stored_page_valid (form_of c.args.since) c.args.pages c.args.block.now p in
    all_from_yields_List test _ _ c.all.result c.all.ensures.ran (YieldsList-from_range 0 c.args.pages c.args.pages refl (omega arith)) (λ x b q k. search (rules, tests))
    ∙ below_range test c.args.pages
