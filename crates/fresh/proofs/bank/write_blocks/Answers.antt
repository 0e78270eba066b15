-- `fresh::bank::write_blocks` meets its contract. The invariant: the first blocks are written. Assumes nothing.
use Rattle.model.specs.Definitions.Layout.{blocks_at, block_size}
use Rattle.model.specs.Definitions.Bank.{fresh_board}
use Rattle.model.specs.Definitions.Codec.{encode_board}
use Rattle.fresh.specs.SideBySide.{none_written}
use Rattle.fresh.specs.Block.{block_wide}
use Rattle.fresh.specs.Fresh.{NextBlock, next_lent, next_written}
use Rattle.fresh.proofs.bank.write_blocks.Goals as goal
use Rattle.fresh.proofs.bank.write_blocks.Goals.{After-block_at-a}

-- the block that is written next
due : (c : goal.After-block_at-a)
    → NextBlock c.args.sizes.boards c.args.sizes.pages
    c.args.bank.now c.loop-board.bank c.loop-board.board c.block_at-a.result
    c.block_size-size.result
due c =
    record {
      whole = c.requires.0;
      zero = c.requires.1;
      bytes = c.loop-board.invariant;
      board = c.loop-board-test.true;
      place = c.block_at-a.ensures;
      size = c.block_size-size.ensures;
    }

pub loop-board-init : goal.loop-board-init
loop-board-init c =
    none_written encode_board (block_size c.args.sizes.pages) (fresh_board c.args.sizes.boards c.args.sizes.pages) (block_wide _ _) c.args.bank.now (blocks_at c.args.sizes.pages)

pub write_block-requires : goal.write_block-requires
write_block-requires c = (c.loop-board-test.true, next_lent (due (goal.at.write_block-requires c).After-block_at-a))

pub loop-board-preserved : goal.loop-board-preserved
loop-board-preserved c =
    let went = c.write_block in
    next_written (due (goal.at.loop-board-preserved c).After-block_at-a) went.new.block went.auto.block went.ensures
