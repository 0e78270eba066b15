-- `exchange::runs::checkpoint` meets its contract: a checkpoint in the board's block, which is lent, and the directory where power was lost. Assumes nothing.
use mathlib.Core.Path.{sym, ◌∙◌}
use native.Mathlib.Omega.{arith}
use Rattle.model.specs.Definitions.Bank.{board_at}
use Rattle.model.specs.Definitions.Codec.{decode}
use Rattle.model.specs.Definitions.WellFormed.{FieldsOk}
use Rattle.model.specs.Definitions.BoardRuns.{checkpoint_on}
use Rattle.steps.specs.BankBlocks.{LentBlock, lent_in, lent_fields, lent_block}
use Rattle.stores.specs.RunFields.{checkpoint_on_fields}
use Rattle.stores.specs.Lifted.{checkpoint_lifted}
use Rattle.copies.specs.Banks.{lent_of}
use Rattle.exchange.specs.LentRuns.{lost_told, run_of, run_going, run_lost}
use Rattle.exchange.proofs.runs.checkpoint.Goals.{After-block_size-size}
use Rattle.exchange.proofs.runs.checkpoint.Goals as goal

-- the board's block in the bank
lent : (c : After-block_size-size)
    → LentBlock (decode c.args.bank.now) c.args.bank.now c.args.pages
    c.args.board c.block_at-a.result c.block_size-size.result
lent c = lent_of c.requires.0 _ _ c.block_at-a.ensures c.block_size-size.ensures

-- the board as its run leaves it
fields : (c : After-block_size-size)
    → FieldsOk c.args.pages
    (checkpoint_on c.args.pages
    (board_at (decode c.args.bank.now) c.args.board)).board
fields c = checkpoint_on_fields c.args.pages _ (lent c).few (lent_fields (lent c))

pub slice_bounds-checkpoint-end : goal.slice_bounds-checkpoint-end
slice_bounds-checkpoint-end c = lent_in (lent c)

pub checkpoint-stored-requires : goal.checkpoint-stored-requires
checkpoint-stored-requires c = lent_block (lent (goal.at.checkpoint-stored-requires c).After-block_size-size)

pub forget-requires : goal.forget-requires
forget-requires c =
    let ran = c.checkpoint-stored in
    let bank = run_of c.requires.0 (lent (goal.at.forget-requires c).After-block_size-size) (checkpoint_on c.args.pages) (fields (goal.at.forget-requires c).After-block_size-size) ran.new.block ran.auto.block ran.ensures.run.0 in
    (bank.bank, bank.count, omega (arith, bank.board, bank.bank.sizes.boards))

pub returns-then-is_err-clause-run : goal.returns-then-is_err-clause-run
returns-then-is_err-clause-run c =
    let ran = c.checkpoint-stored in
    λ n.
    rw (checkpoint_lifted c.args.board n (decode c.args.bank.now) c.requires.0.board, ← c.requires.0.count)
    (run_lost c.requires.0 (lent (goal.at.returns-then-is_err-clause-run c).After-block_size-size) (checkpoint_on c.args.pages) (fields (goal.at.returns-then-is_err-clause-run c).After-block_size-size) ran.new.block ran.auto.block
    ran.ensures.run.0 _ _ ran.ensures.run.1 ran.ensures.run.2
    (lost_told _ ∙ (sym c.is_err.ensures.value ∙ c.if-is_err.true)) _ c.forget.ensures n)

pub returns-else-is_err-clause-run : goal.returns-else-is_err-clause-run
returns-else-is_err-clause-run c =
    let ran = c.checkpoint-stored in
    λ n.
    rw (checkpoint_lifted c.args.board n (decode c.args.bank.now) c.requires.0.board, ← c.requires.0.count)
    (run_going c.requires.0 (lent (goal.at.returns-else-is_err-clause-run c).After-block_size-size) (checkpoint_on c.args.pages) (fields (goal.at.returns-else-is_err-clause-run c).After-block_size-size) ran.new.block ran.auto.block
    ran.ensures.run.0 _ _ ran.ensures.run.1 ran.ensures.run.2 (lost_told _ ∙ (sym c.is_err.ensures.value ∙ c.if-is_err.false)) n)
