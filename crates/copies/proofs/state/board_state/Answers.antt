-- `copies::state::board_state` meets its contract. Assumes nothing.
use Rattle.copies.specs.Banks.{lent_of}
use Rattle.steps.specs.BankBlocks.{LentBlock, lent_in, lent_state}
use Rattle.model.specs.Definitions.Codec.{decode}
use mathlib.Core.Path.{◌∙◌}
use Rattle.copies.proofs.state.board_state.Goals.{After-block_size-size}
use Rattle.copies.proofs.state.board_state.Goals as goal

-- the board's block in the bank
lent : (c : After-block_size-size)
    → LentBlock (decode c.args.bank.now) c.args.bank.now c.args.pages
    c.args.board c.block_at-a.result c.block_size-size.result
lent c = lent_of c.requires _ _ c.block_at-a.ensures c.block_size-size.ensures

pub slice_bounds-read_state-end : goal.slice_bounds-read_state-end
slice_bounds-read_state-end c = lent_in (lent c)

pub returns : goal.returns
returns c = c.read_state.ensures ∙ lent_state (lent (goal.at.returns c).After-block_size-size)
