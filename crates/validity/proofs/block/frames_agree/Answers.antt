-- `validity::block::frames_agree` meets its contract: a test of every page. Assumes nothing.
use Rattle.std.proofs.Common.{ℕ, ◌+◌, ◌*◌, Bool, ◌&&◌, refl, ◌∙◌, rules, tests, arith}
use Rattle.std.proofs.lemmas.Iterator.{YieldsList-from_range}
use Rattle.std.proofs.lemmas.Iterator.Search.{all_from_yields_List}
use Rattle.model.specs.Definitions.Layout.{entry_size, frame_size, form_of}
use Rattle.validity.specs.Pieces.{own_page_agrees, stored_page_valid, frames_agree}
use Rattle.validity.specs.Search.{below_range}
use Rattle.fields.proofs.Lent.{lent_part}
use Rattle.validity.proofs.block.frames_agree.Goals as goal

pub returns : goal.returns
unfolding frames_agree
returns c =
    let test : ℕ → Bool = λ p. own_page_agrees (form_of c.args.since) c.args.directory.now c.args.block.now c.args.board p && stored_page_valid (form_of c.args.since) c.args.pages c.args.block.now p in
    all_from_yields_List test _ _ c.all.result c.all.ensures.ran (YieldsList-from_range 0 c.args.pages c.args.pages refl (omega arith)) (λ x b q k. search (rules, tests, lent_part c.args.directory.now (x * entry_size) entry_size, lent_part c.args.block.now (c.frames_at_in-working.result + x * frame_size) frame_size, c.frames_at_in-working.ensures, c.area_frames_at-first.ensures, c.area_frames_at-second.ensures))
    ∙ below_range test c.args.pages
