-- `accesses::replaying::end_replay` meets its contract: the end of replay in the board's block, which is lent, and the directory where power was lost. Assumes
-- nothing.
use Rattle.accesses.specs.Ends.{end_replay_told}
use Rattle.copies.specs.Banks.{lent_of}
use Rattle.exchange.specs.LentRuns.{lost_told, run_of, run_going, run_lost}
use Rattle.exchange.specs.Progress.{running}
use Rattle.stores.specs.Lifted.{lifted}
use Rattle.stores.specs.RunFields.{checkpoint_on_fields}
use Rattle.steps.specs.BankBlocks.{LentBlock, lent_in, lent_fields, lent_block}
use Rattle.model.specs.Definitions.Replay.{settled, end_replay}
use Rattle.model.specs.Definitions.WellFormed.{FieldsOk}
use Rattle.model.specs.Definitions.Codec.{decode}
use Rattle.model.specs.Definitions.Bank.{Board, board_at}
use Rattle.model.specs.Definitions.Parts.{member}
use Rattle.model.specs.Definitions.BoardRuns.{BoardRun, checkpoint_on}
use Rattle.model.proofs.Laws.BoardFields.{settled_fields}
use native.Mathlib.Omega.{arith}
use mathlib.Core.Path.{◌≡◌, sym, ◌∙◌}
use Prim.Native.Nat.{ℕ}
use Rattle.accesses.proofs.replaying.end_replay.Goals.{After-block_size-size}
use Rattle.accesses.proofs.replaying.end_replay.Goals as goal

-- the board's block in the bank
lent : (c : After-block_size-size)
    → LentBlock (decode c.args.bank.now) c.args.bank.now
    c.args.pages c.args.board c.block_at-a.result
    c.block_size-size.result
lent c = lent_of c.requires.0 _ _ c.block_at-a.ensures c.block_size-size.ensures

-- what the board's block goes through
abbrev run : (pages owned : ℕ) → Board → BoardRun
run pages owned x = checkpoint_on pages (settled (λ p. member p owned) x)

fields : (c : After-block_size-size) → FieldsOk c.args.pages
    (run c.args.pages c.owned_pages-owned.result (board_at (decode c.args.bank.now) c.args.board)).board
fields c = checkpoint_on_fields c.args.pages _ (lent c).few
    (settled_fields (lent_fields (lent c)) (λ p. member p c.owned_pages-owned.result))

-- the bank's run is that of the block
is_run : (c : After-block_size-size) (n : ℕ)
    → end_replay c.args.board (running n (decode c.args.bank.now))
    ≡ lifted c.args.board n (decode c.args.bank.now)
    (run c.args.pages c.owned_pages-owned.result (board_at (decode c.args.bank.now) c.args.board))
is_run c n =
    end_replay_told c.args.board n (decode c.args.bank.now) c.requires.0.board c.args.pages c.owned_pages-owned.result
    c.requires.0.count (lent_fields (lent c)).working.frames.count c.owned_pages-owned.ensures

pub slice_bounds-end_replay-end : goal.slice_bounds-end_replay-end
slice_bounds-end_replay-end c = lent_in (lent c)

pub end_replay-stored-requires : goal.end_replay-stored-requires
end_replay-stored-requires c = lent_block (lent (goal.at.end_replay-stored-requires c).After-block_size-size)

pub forget-requires : goal.forget-requires
forget-requires c =
    let ran = c.end_replay-stored in
    let bank = run_of c.requires.0 (lent (goal.at.forget-requires c).After-block_size-size) (run c.args.pages c.owned_pages-owned.result) (fields (goal.at.forget-requires c).After-block_size-size) ran.new.block ran.auto.block ran.ensures.run.0 in
    (bank.bank, bank.count, omega (arith, bank.board, bank.bank.sizes.boards))

pub returns-then-is_err-clause-run : goal.returns-then-is_err-clause-run
returns-then-is_err-clause-run c =
    let ran = c.end_replay-stored in
    λ n.
    rw (is_run (goal.at.returns-then-is_err-clause-run c).After-block_size-size n)
    (run_lost c.requires.0 (lent (goal.at.returns-then-is_err-clause-run c).After-block_size-size) (run c.args.pages c.owned_pages-owned.result) (fields (goal.at.returns-then-is_err-clause-run c).After-block_size-size) ran.new.block ran.auto.block ran.ensures.run.0 _ _ ran.ensures.run.1
    ran.ensures.run.2 (lost_told _ ∙ (sym c.is_err.ensures.value ∙ c.if-is_err.true)) _ c.forget.ensures n)

pub returns-else-is_err-clause-run : goal.returns-else-is_err-clause-run
returns-else-is_err-clause-run c =
    let ran = c.end_replay-stored in
    λ n.
    rw (is_run (goal.at.returns-else-is_err-clause-run c).After-block_size-size n)
    (run_going c.requires.0 (lent (goal.at.returns-else-is_err-clause-run c).After-block_size-size) (run c.args.pages c.owned_pages-owned.result) (fields (goal.at.returns-else-is_err-clause-run c).After-block_size-size) ran.new.block ran.auto.block ran.ensures.run.0 _ _ ran.ensures.run.1
    ran.ensures.run.2 (lost_told _ ∙ (sym c.is_err.ensures.value ∙ c.if-is_err.false)) n)
