-- `comparison::pages::pages_naming` meets its contract: the whole log is left. Assumes nothing.
use mathlib.Core.Path.{◌∙◌}
use native.Mathlib.Omega.{arith}
use Rattle.steps.specs.BlockLaws.{block_length}
use Rattle.steps.specs.Selected.{stored_count_lem, stored_most}
use Rattle.comparison.specs.Naming.{from_block}
use Rattle.comparison.proofs.pages.pages_naming.Goals as goal

pub read_stored_count-requires : goal.read_stored_count-requires
read_stored_count-requires c = (c.requires.few, block_length c.requires)

pub invariant_of-result : goal.invariant_of-result
invariant_of-result c =
    let b = c.requires in
    record { few_pages = b.few; is_block = block_length b; few = omega (arith, c.from-stored.ensures, c.read_stored_count.ensures, stored_count_lem b, stored_most b) }

pub returns : goal.returns
returns c = from_block c.args.looked_for c.args.peer c.args.pages c.args.block.now c.requires (c.from-stored.ensures ∙ c.read_stored_count.ensures)
