-- `copies::copies::own_to` meets its contract: a page taken over in the board's block, which is lent. Assumes nothing.
use Rattle.model.specs.Definitions.Codec.{decode}
use Rattle.model.proofs.Laws.Boards.{took_own}
use Rattle.model.proofs.Laws.BoardFields.{took_own_fields}
use Rattle.steps.specs.BankBlocks.{LentBlock, lent_in, lent_fields, lent_block}
use Rattle.copies.specs.Banks.{lent_of, lent_holds}
use Rattle.copies.proofs.copies.own_to.Goals.{After-block_size-size}
use Rattle.copies.proofs.copies.own_to.Goals as goal

-- the board's block in the bank
lent : (c : After-block_size-size)
    → LentBlock (decode c.args.bank.now) c.args.bank.now c.args.pages
    c.args.board c.block_at-a.result c.block_size-size.result
lent c = lent_of c.requires.0 _ _ c.block_at-a.ensures c.block_size-size.ensures

pub slice_bounds-take_own-end : goal.slice_bounds-take_own-end
slice_bounds-take_own-end c = lent_in (lent c)

pub take_own-requires : goal.take_own-requires
take_own-requires c = let pre = c.requires in (lent_block (lent (goal.at.take_own-requires c).After-block_size-size), pre.1, pre.2)

pub returns : goal.returns
returns c =
    let block = lent (goal.at.returns c).After-block_size-size in
    let done = c.take_own in
    lent_holds c.requires.0 block (took_own c.args.page c.args.frame.bytes) done.new.block
    (took_own_fields (lent_fields block) _ c.args.frame c.requires.2) done.auto.block done.ensures
