-- The library's bytes are the definition's, and N of them are copied. Assumes nothing.
use Rattle.words.proofs.Words.{word_written}
use Rattle.words.proofs.write.Goals as goal

pub returns : goal.returns
returns g c =
    word_written g.row.N c.args.at c.args.number c.args.s.now _ c.requires.0
    (rw c.to_le_bytes.ensures at c.copy_from_slice.ensures.after)
