-- `fields::bytes::put` meets its contract: a store is a splice of one element. Assumes nothing.
use mathlib.Core.Path.{sym}
use Rattle.model.proofs.Laws.Parts.{splice_one}
use Rattle.fields.proofs.bytes.put.Goals as goal

pub returns : goal.returns
returns c = sym (splice_one c.args.s.now c.args.at c.args.b c.requires)
