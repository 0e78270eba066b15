-- `fields::bytes::copy` meets its contract. The loop's invariant: the first i bytes are written at the place. Assumes nothing.
use mathlib.Core.Path.{◌≡◌}
use lib.ListN.{length, take}
use Rattle.model.specs.Definitions.Parts.{part, splice}
use Rattle.fields.proofs.bytes.copy.Given as goal

abbrev pub invariant-loop-i : goal.invariant-loop-i
invariant-loop-i l = (length l.to ≡ length l.initial.to) × (l.to ≡ splice l.initial.to l.b (take l.i (part l.from l.a l.n)))
