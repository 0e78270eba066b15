-- `copies::copies::page_frame` meets its contract: the frame is read in the board's block, which is lent. Assumes nothing.
use mathlib.Core.Path.{◌∙◌}
use Rattle.model.specs.Definitions.Codec.{decode}
use Rattle.model.proofs.Laws.BankSteps.{frame_of_ok}
use Rattle.steps.specs.BankBlocks.{LentBlock, lent_in}
use Rattle.copies.specs.Banks.{lent_of, lent_frame}
use Rattle.copies.proofs.copies.page_frame.Goals.{After-block_size-size}
use Rattle.copies.proofs.copies.page_frame.Goals as goal

-- the board's block in the bank
lent : (c : After-block_size-size)
    → LentBlock (decode c.args.bank.now) c.args.bank.now c.args.pages
    c.args.board c.block_at-a.result c.block_size-size.result
lent c = lent_of c.requires.0 _ _ c.block_at-a.ensures c.block_size-size.ensures

pub slice_bounds-read_page_frame-end : goal.slice_bounds-read_page_frame-end
slice_bounds-read_page_frame-end c = lent_in (lent c)

pub returns : goal.returns
returns c =
    let read = c.read_page_frame.ensures ∙ lent_frame c.requires.0 (lent (goal.at.returns c).After-block_size-size) c.args.page c.requires.1 in
    (read, rw read (frame_of_ok (decode c.args.bank.now) c.requires.0.bank.fields _ _))
