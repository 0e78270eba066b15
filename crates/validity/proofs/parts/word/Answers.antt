-- `validity::parts::word` meets its contract: the library's number of eight bytes is the definition's. Assumes nothing.
use Rattle.std.proofs.Common.{◌∙◌, ap, length}
use Rattle.words.specs.LittleEndian.{number_of}
use Rattle.validity.specs.Words.{word_number}
use Rattle.validity.proofs.parts.word.Goals as goal

pub returns : goal.returns
returns c =
    let chunk = rw c.unwrap.ensures at c.try_from.ensures.1 in
    c.from_le_bytes.ensures ∙ word_number c.unwrap.result (ap length chunk.same ∙ c.requires) ∙ ap number_of chunk.same
