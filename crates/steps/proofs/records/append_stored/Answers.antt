-- `steps::records::append_stored` meets its contract. Assumes nothing.
use mathlib.Core.Path.{◌∙◌}
use native.Mathlib.Omega.{arith}
use Rattle.steps.specs.Logs.{append_bytes}
use Rattle.steps.specs.Selected.{stored_count_lem}
use Rattle.steps.specs.BlockLaws.{block_length}
use Rattle.steps.proofs.records.append_stored.Goals as goal

pub write_stored-requires : goal.write_stored-requires
write_stored-requires c =
    let block = c.requires.0 in
    (block.few, omega (arith, stored_count_lem block), block_length block)

pub overflow_add-at : goal.overflow_add-at
overflow_add-at c = omega (arith, stored_count_lem c.requires.0)

pub returns : goal.returns
returns c =
    let counted = c.read_stored_count-at.ensures ∙ stored_count_lem c.requires.0 in
    rw (c.write_stored_count.ensures, c.write_stored.ensures, c.from.ensures)
    (append_bytes c.requires.0 c.args.r _ counted c.requires.2 (omega arith))
