-- `comparison::pages::board_pages` meets its contract: the block is lent. Assumes nothing.
use mathlib.Core.Path.{sym}
use native.Mathlib.Omega.{arith}
use Rattle.model.specs.Definitions.Codec.{decode}
use Rattle.steps.specs.BankBlocks.{LentBlock, lent_in, lent_block, lent_board}
use Rattle.comparison.proofs.pages.board_pages.Goals.{After-block_size-size}
use Rattle.comparison.proofs.pages.board_pages.Goals as goal

-- the board's block in the bank
lent : (c : After-block_size-size)
    → LentBlock (decode c.args.bank.now) c.args.bank.now
    c.args.pages c.args.board c.block_at-a.result c.block_size-size.result
lent c =
    let pre = c.requires in
    record {
      bytes = sym pre.0.back;
      fields = pre.0.fields;
      few = omega (arith, pre.0.sizes.pages, pre.1);
      count = pre.1;
      board = pre.2;
      place = c.block_at-a.ensures;
      size = c.block_size-size.ensures;
    }

pub slice_bounds-pages_naming-end : goal.slice_bounds-pages_naming-end
slice_bounds-pages_naming-end c = lent_in (lent c)

pub pages_naming-requires : goal.pages_naming-requires
pages_naming-requires c = lent_block (lent (goal.at.pages_naming-requires c).After-block_size-size)

pub returns : goal.returns
returns c = rw (lent_board (lent (goal.at.returns c).After-block_size-size)) at c.pages_naming.ensures
