-- `validity::parts::zero_frame` meets its contract: the law of a frame's bits. Assumes nothing.
use native.Mathlib.Omega.{arith}
use Rattle.model.specs.Definitions.Parts.{byte_at}
use Rattle.validity.specs.Words.{frame_zero}
use Rattle.validity.proofs.parts.zero_frame.Goals as goal

pub returns : goal.returns
unfolding byte_at
returns c = frame_zero _ _ c.from.result c.page_bits.result (omega arith) c.from.ensures c.page_bits.ensures
