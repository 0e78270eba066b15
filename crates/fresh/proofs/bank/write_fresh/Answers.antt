-- `fresh::bank::write_fresh` meets its contract: head, directory and blocks side by side, the blocks over zeros. Assumes nothing.
use mathlib.Core.Path.{◌∙◌}
use Rattle.fresh.specs.Fresh.{blocks_zero, bank_written}
use Rattle.fresh.proofs.bank.write_fresh.Goals as goal

pub write_blocks-requires : goal.write_blocks-requires
write_blocks-requires c =
    let kept = c.write_directory.auto.bank ∙ c.write_head.auto.bank ∙ c.clear.auto.s ∙ c.requires in
    (kept, rw (c.write_directory.ensures, c.write_head.ensures, c.clear.ensures) (blocks_zero _ _ c.requires))

pub returns : goal.returns
returns c =
    let size = c.clear.auto.s ∙ c.requires in
    c.write_blocks.ensures ∙ rw (c.write_directory.ensures, c.write_head.ensures) (bank_written _ _ _ size)
