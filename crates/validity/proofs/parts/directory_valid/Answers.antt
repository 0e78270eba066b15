-- `validity::parts::directory_valid` meets its contract: a test of every page. Assumes nothing.
use Rattle.std.proofs.Common.{ℕ, ◌*◌, Bool, refl, ◌∙◌, rules, tests, arith}
use Rattle.std.proofs.lemmas.Iterator.{YieldsList-from_range}
use Rattle.std.proofs.lemmas.Iterator.Search.{all_from_yields_List}
use Rattle.model.specs.Definitions.Layout.{entry_size}
use Rattle.model.specs.Definitions.Parts.{part}
use Rattle.model.specs.Definitions.Codec.{decode_entry}
use Rattle.model.specs.Definitions.Check.{entry_valid, directory_valid}
use Rattle.validity.specs.Search.{below_range}
use Rattle.fields.proofs.Lent.{lent_part}
use Rattle.validity.proofs.parts.directory_valid.Goals as goal

pub returns : goal.returns
unfolding directory_valid
returns c =
    let test : ℕ → Bool = λ p. entry_valid c.args.boards (decode_entry (part c.args.directory.now (p * entry_size) entry_size)) in
    all_from_yields_List test _ _ c.all.result c.all.ensures.ran (YieldsList-from_range 0 c.args.pages c.args.pages refl (omega arith)) (λ x b q k. search (rules, tests, lent_part c.args.directory.now (x * entry_size) entry_size))
    ∙ below_range test c.args.pages
