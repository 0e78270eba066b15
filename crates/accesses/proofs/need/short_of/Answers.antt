-- `accesses::need::short_of` meets its contract: the counts are read in the board's block, which is lent. Assumes nothing.
use Rattle.accesses.specs.Needs.{room_short}
use Rattle.copies.specs.Banks.{lent_of}
use Rattle.steps.specs.BankBlocks.{LentBlock, lent_in, lent_block, lent_board}
use Rattle.model.specs.Definitions.Codec.{decode}
use Rattle.model.specs.Definitions.Bank.{board_at}
use Rattle.accesses.proofs.need.short_of.Goals.{After-block_size-size}
use Rattle.accesses.proofs.need.short_of.Goals as goal

-- the board's block in the bank
lent : (c : After-block_size-size)
    → LentBlock (decode c.args.bank.now) c.args.bank.now
    c.args.pages c.args.board c.block_at-a.result c.block_size-size.result
lent c = lent_of c.requires.0 _ _ c.block_at-a.ensures c.block_size-size.ensures

pub slice_bounds-room-end : goal.slice_bounds-room-end
slice_bounds-room-end c = lent_in (lent c)

pub room-requires : goal.room-requires
room-requires c = lent_block (lent (goal.at.room-requires c).After-block_size-size)

pub returns : goal.returns
returns c =
    room_short _ (board_at (decode c.args.bank.now) c.args.board) c.args.need _ (lent_board (lent (goal.at.returns c).After-block_size-size))
    c.room.ensures
