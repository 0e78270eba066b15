-- `conversion::bank::write_blocks` meets its contract. The invariant: the first blocks are written. Assumes nothing.
use native.Mathlib.Omega.{arith}
use lib.Dec.{lit≤}
use Rattle.model.specs.Definitions.Layout.{block_size, block_size_in}
use Rattle.model.specs.Definitions.Codec.{encode_board, decode_board_in}
use Rattle.model.specs.Definitions.Older.{older}
use Rattle.conversion.specs.Formed.{few_pages, few_boards, size}
use Rattle.conversion.specs.Rewritten.{written_none, turn_read, turn_length, turn_written}
use Rattle.conversion.specs.Banks.{NextBlock, blocks_wide, next_lent}
use Rattle.conversion.proofs.bank.write_blocks.Goals as goal
use Rattle.conversion.proofs.bank.write_blocks.Goals.{After-block_at-b}

-- the block that is written next
due : (c : goal.After-block_at-b)
    → NextBlock c.args.boards
    c.args.pages
    c.args.old.now
    c.args.new.now c.loop-board.new
    c.loop-board.board
    c.block_at_in-a.result c.block_size_in-from.result c.block_at-b.result
    c.block_size-to.result
due c =
    record {
      source = size c.requires.0.bank;
      wide = blocks_wide c.requires.0;
      whole = c.requires.1;
      bytes = c.loop-board.invariant;
      next = c.loop-board-test.true;
      read = c.block_at_in-a.ensures;
      narrow = c.block_size_in-from.ensures;
      place = c.block_at-b.ensures;
      size = c.block_size-to.ensures;
    }

pub block_size_in-from-requires : goal.block_size_in-from-requires
block_size_in-from-requires c = (lit≤ tt, few_pages c.requires.0.bank)

pub block_size-to-requires : goal.block_size-to-requires
block_size-to-requires c = few_pages c.requires.0.bank

pub loop-board-init : goal.loop-board-init
loop-board-init c =
    let pages = c.args.pages in written_none (decode_board_in older pages) encode_board (block_size_in older pages) (block_size pages) _ _ _

pub block_at_in-a-requires : goal.block_at_in-a-requires
block_at_in-a-requires c = (
  lit≤ tt,
  few_pages c.requires.0.bank,
  omega
      (arith, few_boards c.requires.0.bank),
)

pub block_at-b-requires : goal.block_at-b-requires
block_at-b-requires c = (
  few_pages c.requires.0.bank,
  omega
      (arith, few_boards c.requires.0.bank),
)

pub slice_bounds-write_block-end : goal.slice_bounds-write_block-end
slice_bounds-write_block-end c = turn_read (due c)

pub write_block-requires : goal.write_block-requires
write_block-requires c = (
  next_lent c.requires.0 (due (goal.at.write_block-requires c).After-block_at-b),
  turn_length (due (goal.at.write_block-requires c).After-block_at-b),
)

pub loop-board-preserved : goal.loop-board-preserved
loop-board-preserved c =
    let went = c.write_block in
    turn_written (due (goal.at.loop-board-preserved c).After-block_at-b) went.new.new went.auto.new went.ensures
