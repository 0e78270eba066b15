-- `conversion::block::write_block` meets its contract: the working memory, then both areas. Assumes nothing.
use mathlib.Core.Path.{◌∙◌}
use Rattle.conversion.specs.Blocks.{parts_written}
use Rattle.conversion.proofs.block.write_block.Goals as goal

pub returns : goal.returns
returns c =
    c.write_area_at-2.ensures
    ∙ rw (
      c.write_area_at.ensures,
      c.write_working.ensures,
    )
    (parts_written c.args.pages c.args.old.now c.requires.0 c.args.new.now c.requires.1)
