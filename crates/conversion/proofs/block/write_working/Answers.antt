-- `conversion::block::write_working` meets its contract: four parts side by side. Assumes nothing.
use mathlib.Core.Path.{◌∙◌}
use Rattle.conversion.specs.Blocks.{working_written}
use Rattle.conversion.proofs.block.write_working.Goals as goal

pub returns : goal.returns
returns c =
    c.clear_volatiles.ensures
    ∙ rw (
      c.copy-2.ensures,
      c.put_number.ensures,
      c.copy.ensures,
      c.get_number-since.ensures.number,
      c.slots_at.ensures,
      c.place_at_in.ensures,
    )
    (working_written c.args.pages c.args.old.now c.requires.0 c.args.new.now c.requires.1)
