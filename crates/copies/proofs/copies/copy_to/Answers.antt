-- `copies::copies::copy_to` meets its contract: a copy taken in the board's block, which is lent. Assumes nothing.
use native.Mathlib.Omega.{arith}
use Rattle.model.specs.Definitions.Codec.{decode}
use Rattle.model.proofs.Laws.Boards.{took_copy}
use Rattle.model.proofs.Laws.BoardFields.{took_copy_fields}
use Rattle.steps.specs.BankBlocks.{LentBlock, lent_in, lent_fields, lent_block, lent_board}
use Rattle.copies.specs.Banks.{lent_of, lent_holds}
use Rattle.copies.proofs.copies.copy_to.Goals.{After-block_size-size}
use Rattle.copies.proofs.copies.copy_to.Goals as goal

-- the board's block in the bank
lent : (c : After-block_size-size)
    → LentBlock (decode c.args.bank.now) c.args.bank.now c.args.pages
    c.args.board c.block_at-a.result c.block_size-size.result
lent c = lent_of c.requires.0 _ _ c.block_at-a.ensures c.block_size-size.ensures

pub slice_bounds-take_copy-end : goal.slice_bounds-take_copy-end
slice_bounds-take_copy-end c = lent_in (lent c)

pub take_copy-requires : goal.take_copy-requires
take_copy-requires c = let pre = c.requires
    in (lent_block (lent (goal.at.take_copy-requires c).After-block_size-size), rw (lent_board (lent (goal.at.take_copy-requires c).After-block_size-size)) pre.1, pre.2, pre.3)

pub returns : goal.returns
returns c =
    let block = lent (goal.at.returns c).After-block_size-size in
    let done = c.take_copy in
    lent_holds c.requires.0 block (took_copy c.args.giver c.args.page c.args.frame.bytes) done.new.block
    (took_copy_fields (lent_fields block) _ _ c.args.frame c.requires.3 c.requires.2 (omega arith) c.requires.1) done.auto.block done.ensures
