-- `steps::records::record` meets its contract. Assumes nothing.
use mathlib.Core.Path.{◌∙◌}
use native.Mathlib.Omega.{arith}
use Rattle.steps.specs.Logs.{volatile_read, record_bytes}
use Rattle.steps.specs.BlockLaws.{block_length}
use Rattle.steps.proofs.records.record.Goals as goal

pub write_volatile-requires : goal.write_volatile-requires
write_volatile-requires c =
    (c.requires.0.few, omega (arith, block_length c.requires.0, volatile_read c.args.pages c.args.block.now))

pub overflow_add-at : goal.overflow_add-at
overflow_add-at c =
    let args = c.args in omega (
      arith,
      volatile_read args.pages
          args.block.now,
    )

pub returns : goal.returns
returns c =
    let args = c.args in
    let counted = c.read_volatile_count-at.ensures
    ∙ volatile_read args.pages args.block.now in
    rw (
      c.write_since.ensures,
      c.write_volatile_count.ensures,
      c.write_volatile.ensures,
      c.from.ensures,
    )
    (record_bytes c.requires.0 args.kind args.peer args.bytes _ _
    c.read_since-count.ensures counted
    c.requires.2 (omega arith))
