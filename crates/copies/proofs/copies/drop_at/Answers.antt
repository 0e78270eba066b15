-- `copies::copies::drop_at` meets its contract: a right dropped in the board's block, which is lent. Assumes nothing.
use native.Mathlib.Omega.{arith}
use Rattle.model.specs.Definitions.Codec.{decode}
use Rattle.model.specs.Definitions.Steps.{dropped}
use Rattle.model.proofs.Laws.BoardFields.{dropped_fields}
use Rattle.steps.specs.BankBlocks.{LentBlock, lent_in, lent_fields, lent_block, lent_board}
use Rattle.copies.specs.Banks.{lent_of, lent_holds}
use Rattle.copies.proofs.copies.drop_at.Goals.{After-block_size-size}
use Rattle.copies.proofs.copies.drop_at.Goals as goal

-- the board's block in the bank
lent : (c : After-block_size-size)
    → LentBlock (decode c.args.bank.now) c.args.bank.now c.args.pages
    c.args.board c.block_at-a.result c.block_size-size.result
lent c = lent_of c.requires.0 _ _ c.block_at-a.ensures c.block_size-size.ensures

pub slice_bounds-drop_right-end : goal.slice_bounds-drop_right-end
slice_bounds-drop_right-end c = lent_in (lent c)

pub drop_right-requires : goal.drop_right-requires
drop_right-requires c = let pre = c.requires
    in (lent_block (lent (goal.at.drop_right-requires c).After-block_size-size), rw (lent_board (lent (goal.at.drop_right-requires c).After-block_size-size)) pre.1, pre.2)

pub returns : goal.returns
returns c =
    let block = lent (goal.at.returns c).After-block_size-size in
    let done = c.drop_right in
    lent_holds c.requires.0 block (dropped c.args.writer c.args.page) done.new.block (dropped_fields (lent_fields block) _ _ c.requires.2 (omega arith) c.requires.1)
    done.auto.block done.ensures
