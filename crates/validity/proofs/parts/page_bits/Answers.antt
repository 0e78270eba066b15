-- `validity::parts::page_bits` meets its contract: its words are the page's. Assumes nothing.
use mathlib.Core.Path.{◌≡◌}
use Prim.Native.Nat.{◌+◌}
use native.Mathlib.Nat.{add-zero}
use native.Mathlib.Omega.{arith}
use Rattle.words.specs.LittleEndian.{number_of}
use Rattle.model.specs.Definitions.Layout.{page_size}
use Rattle.model.specs.Definitions.Parts.{part}
use Rattle.model.proofs.Laws.Parts.{part_part}
use Rattle.fields.proofs.Lent.{lent_read}
use Rattle.validity.specs.Pieces.{word_size, page_bits}
use Rattle.validity.proofs.parts.page_bits.Goals as goal

pub returns : goal.returns
unfolding page_bits
returns c =
    let s = c.args.s.now in
    let at = c.args.at in
    let first : c.word.result ≡ number_of (part s at word_size) = lent_read s at word_size number_of _ c.word.ensures in
    let second : c.word-2.result ≡ number_of (part s (at + word_size) word_size) = lent_read s (at + word_size) word_size number_of _ c.word-2.ensures in
    rw (first, second, part_part s at page_size 0 word_size (omega arith), add-zero, part_part s at page_size word_size word_size (omega arith))
