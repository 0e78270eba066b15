-- `validity::parts::zero_page` meets its contract: the law of a page's bits. Assumes nothing.
use native.Mathlib.Omega.{arith}
use Rattle.model.proofs.Laws.Parts.{length_part}
use Rattle.validity.specs.Words.{page_zero}
use Rattle.validity.proofs.parts.zero_page.Goals as goal

pub returns : goal.returns
returns c = rw c.page_bits.ensures (page_zero _ (length_part c.args.s.now _ _ (omega arith)))
