-- `exchange::runs::log_through` meets its contract: a record and a flush in the board's block, which is lent, and the directory where power was lost. Assumes
-- nothing.
use mathlib.Core.Path.{sym, ◌∙◌}
use native.Mathlib.Omega.{arith}
use Rattle.model.specs.Definitions.Bank.{board_at}
use Rattle.model.specs.Definitions.Codec.{decode}
use Rattle.model.specs.Definitions.WellFormed.{FieldsOk}
use Rattle.model.specs.Definitions.BoardRuns.{logged_on}
use Rattle.steps.specs.BankBlocks.{LentBlock, lent_in, lent_fields, lent_block, lent_board}
use Rattle.stores.specs.RunFields.{logged_on_fields}
use Rattle.stores.specs.Lifted.{logged_lifted}
use Rattle.copies.specs.Banks.{lent_of}
use Rattle.exchange.specs.LentRuns.{lost_told, run_of, run_going, run_lost}
use Rattle.exchange.proofs.runs.log_through.Goals.{After-block_size-size}
use Rattle.exchange.proofs.runs.log_through.Goals as goal

-- the board's block in the bank
lent : (c : After-block_size-size)
    → LentBlock (decode c.args.bank.now) c.args.bank.now c.args.pages
    c.args.board c.block_at-a.result c.block_size-size.result
lent c = lent_of c.requires.0 _ _ c.block_at-a.ensures c.block_size-size.ensures

-- the board as its run leaves it
fields : (c : After-block_size-size)
    → FieldsOk c.args.pages
    (logged_on c.args.kind c.args.peer c.args.bytes
    (board_at (decode c.args.bank.now) c.args.board)).board
fields c = logged_on_fields c.args.kind c.args.peer c.args.bytes _ (lent_fields (lent c)) c.requires.3 c.requires.4

pub slice_bounds-log_through-end : goal.slice_bounds-log_through-end
slice_bounds-log_through-end c = lent_in (lent c)

pub log_through-stored-requires : goal.log_through-stored-requires
log_through-stored-requires c = (lent_block (lent (goal.at.log_through-stored-requires c).After-block_size-size), rw (lent_board (lent (goal.at.log_through-stored-requires c).After-block_size-size)) c.requires.3, c.requires.4)

pub forget-requires : goal.forget-requires
forget-requires c =
    let ran = c.log_through-stored in
    let bank = run_of c.requires.0 (lent (goal.at.forget-requires c).After-block_size-size) (logged_on c.args.kind c.args.peer c.args.bytes) (fields (goal.at.forget-requires c).After-block_size-size) ran.new.block ran.auto.block
    ran.ensures.run.0 in
    (bank.bank, bank.count, omega (arith, bank.board, bank.bank.sizes.boards))

pub returns-then-is_err-clause-run : goal.returns-then-is_err-clause-run
returns-then-is_err-clause-run c =
    let ran = c.log_through-stored in
    λ n.
    rw (logged_lifted c.args.board n (decode c.args.bank.now) c.requires.0.board c.args.kind c.args.peer c.args.bytes)
    (run_lost c.requires.0 (lent (goal.at.returns-then-is_err-clause-run c).After-block_size-size) (logged_on c.args.kind c.args.peer c.args.bytes) (fields (goal.at.returns-then-is_err-clause-run c).After-block_size-size) ran.new.block ran.auto.block
    ran.ensures.run.0 _ _ ran.ensures.run.1 ran.ensures.run.2
    (lost_told _ ∙ (sym c.is_err.ensures.value ∙ c.if-is_err.true)) _ c.forget.ensures n)

pub returns-else-is_err-clause-run : goal.returns-else-is_err-clause-run
returns-else-is_err-clause-run c =
    let ran = c.log_through-stored in
    λ n.
    rw (logged_lifted c.args.board n (decode c.args.bank.now) c.requires.0.board c.args.kind c.args.peer c.args.bytes)
    (run_going c.requires.0 (lent (goal.at.returns-else-is_err-clause-run c).After-block_size-size) (logged_on c.args.kind c.args.peer c.args.bytes) (fields (goal.at.returns-else-is_err-clause-run c).After-block_size-size) ran.new.block ran.auto.block
    ran.ensures.run.0 _ _ ran.ensures.run.1 ran.ensures.run.2 (lost_told _ ∙ (sym c.is_err.ensures.value ∙ c.if-is_err.false)) n)
