-- `engine::restart::restart_board` meets its contract: the block is lent. Assumes nothing.
use mathlib.Core.Path.{ap, ◌∙◌}
use native.Mathlib.Omega.{arith}
use Rattle.model.specs.Definitions.Bank.{Board}
use Rattle.model.specs.Definitions.Codec.{decode}
use Rattle.model.specs.Definitions.Replay.{replay_over}
use Rattle.steps.specs.BankBlocks.{LentBlock, lent_in, lent_fields, lent_block, lent_board}
use Rattle.copies.specs.Banks.{lent_of, lent_holds}
use Rattle.engine.specs.Restarts.{restarted, restarted_fields}
use Rattle.engine.proofs.restart.restart_board.Goals.{After-block_size-size}
use Rattle.engine.proofs.restart.restart_board.Goals as goal

-- the board's block in the bank
lent : (c : After-block_size-size)
    → LentBlock (decode c.args.bank.now) c.args.bank.now c.args.pages
    c.args.board c.block_at-a.result c.block_size-size.result
lent c = lent_of c.requires _ _ c.block_at-a.ensures c.block_size-size.ensures

pub overflow_add-a : goal.overflow_add-a
overflow_add-a c = omega (arith, lent_in (lent c))

pub slice_bounds-restart_block-end : goal.slice_bounds-restart_block-end
slice_bounds-restart_block-end c = lent_in (lent c)

pub restart_block-requires : goal.restart_block-requires
restart_block-requires c = lent_block (lent (goal.at.restart_block-requires c).After-block_size-size)

pub returns : goal.returns
returns c =
    let block = lent (goal.at.returns c).After-block_size-size in
    let stepped = c.restart_block in (
      stepped.ensures.0 ∙ ap (λ (x : Board). x.stable.selected.number) (lent_board block),
      stepped.ensures.1 ∙ ap (λ (x : Board). replay_over (restarted x)) (lent_board block),
      lent_holds c.requires block restarted stepped.new.block (restarted_fields _ (lent_fields block))
          stepped.auto.block stepped.ensures.2,
    )
