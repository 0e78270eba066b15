-- `conversion::bank::write_converted` meets its contract: head and directory, then the blocks. Assumes nothing.
use mathlib.Core.Path.{◌∙◌}
use native.Mathlib.Omega.{arith}
use Rattle.conversion.specs.Formed.{few_pages, size}
use Rattle.conversion.specs.Banks.{bank_written}
use Rattle.conversion.proofs.bank.write_converted.Goals as goal

pub blocks_at-requires : goal.blocks_at-requires
blocks_at-requires c = few_pages c.requires.0.bank

pub copy-requires : goal.copy-requires
copy-requires c = (
  omega (arith, size c.requires.0.bank, c.blocks_at.ensures),
  omega
      (arith, c.requires.1, c.blocks_at.ensures),
)

pub returns : goal.returns
returns c =
    c.write_blocks.ensures ∙ rw (
      c.copy.ensures,
      c.blocks_at.ensures,
    ) (bank_written c.requires.0 c.args.new.now c.requires.1)
