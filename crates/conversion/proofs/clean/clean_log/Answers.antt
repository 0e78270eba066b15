-- `conversion::clean::clean_log` meets its contract: the slots behind the records, lent to be cleared. Assumes nothing.
use Prim.Native.Nat.{◌+◌, ◌*◌, ◌-◌}
use native.Mathlib.Omega.{arith}
use Rattle.model.specs.Definitions.Layout.{slot_size, slots_size}
use Rattle.model.specs.Definitions.Older.{cleaned_log}
use Rattle.fields.proofs.Lent.{lent_cleared}
use Rattle.conversion.proofs.clean.clean_log.Goals as goal

pub returns : goal.returns
unfolding cleaned_log
returns c =
    let used = c.args.count * slot_size in
    let wrote = c.clear in
    lent_cleared c.args.block.now wrote.new.s (c.args.at + used) (slots_size - used) (omega (arith, c.requires.0, c.requires.1))
    wrote.auto.s wrote.ensures
