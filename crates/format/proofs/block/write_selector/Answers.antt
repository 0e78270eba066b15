use Rattle.format.proofs.Selectors.{selector_number}
use Rattle.format.proofs.block.write_selector.Goals as goal

pub returns : goal.returns
returns c = rw (← selector_number c.args.second, ← c.from.ensures) c.put.ensures
