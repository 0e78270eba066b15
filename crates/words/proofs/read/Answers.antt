-- Bytes above the N are zero, and count nothing. Assumes nothing.
use Rattle.std.proofs.Common.{◌∙◌}
use Rattle.words.proofs.Words.{word_read, part_below}
use Rattle.words.proofs.read.Goals as goal

pub returns-clause-number : goal.returns-clause-number
returns-clause-number g c =
    c.from_le_bytes.ensures
    ∙ word_read g.row.N c.args.at c.args.s.now _ c.requires.0 c.requires.1 c.copy_from_slice.ensures.after

pub returns-clause-fits : goal.returns-clause-fits
returns-clause-fits g c =
    rw (c.from_le_bytes.ensures
    ∙ word_read g.row.N c.args.at c.args.s.now _ c.requires.0 c.requires.1 c.copy_from_slice.ensures.after)
    (part_below g.row.N c.args.at c.args.s.now c.requires.1 (λ i. (c.type_inv.s i).fits))
