-- `checks::admission::admit` meets its contract: the block is lent. Assumes nothing.
use mathlib.Core.Path.{ap, ◌∙◌}
use Rattle.model.specs.Definitions.Codec.{decode}
use Rattle.steps.specs.BankBlocks.{LentBlock, lent_in, lent_block, lent_board}
use Rattle.copies.specs.Banks.{lent_of}
use Rattle.checks.specs.Admission.{admission_of}
use Rattle.checks.proofs.admission.admit.Goals as goal
use Rattle.checks.proofs.admission.admit.Goals.{After-block_size-size}

-- the board's block in the bank
lent : (c : goal.After-block_size-size)
    → LentBlock (decode c.args.bank.now) c.args.bank.now c.args.pages
    c.args.board c.block_at-a.result c.block_size-size.result
lent c = lent_of c.requires _ _ c.block_at-a.ensures c.block_size-size.ensures

pub slice_bounds-admit_block-end : goal.slice_bounds-admit_block-end
slice_bounds-admit_block-end c = lent_in (lent c)

pub admit_block-requires : goal.admit_block-requires
admit_block-requires c = lent_block (lent (goal.at.admit_block-requires c).After-block_size-size)

pub returns : goal.returns
returns c =
    let q = c.args in
    λ a t. c.admit_block.ensures a t ∙ ap (admission_of q.board q.replaying a)
    (lent_board (lent (goal.at.returns c).After-block_size-size))
