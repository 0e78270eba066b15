-- The part is lent, and filled. Assumes nothing.
use Rattle.model.specs.Definitions.Parts.{zeros}
use Rattle.fields.proofs.Lent.{lent_cleared}
use Rattle.fields.proofs.bytes.clear_at.Goals as goal

pub returns : goal.returns
unfolding zeros
returns c =
    let filled = c.fill in
    lent_cleared c.args.s.now filled.new.self c.args.at c.args.n c.requires filled.ensures.len (filled.ensures.after (λ y e. e))
