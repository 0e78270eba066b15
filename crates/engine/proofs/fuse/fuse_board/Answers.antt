-- `engine::fuse::fuse_board` meets its contract: the board loses its power, or the fuse is written in its block, which is lent. Assumes nothing.
use mathlib.Core.Path.{◌≡◌, refl, sym, ap, ◌∙◌}
use mathlib.Core.Logic.{◌≢◌}
use Prim.Native.Nat.{ℕ, zero, suc}
use native.Mathlib.Omega.{arith}
use Rattle.model.specs.Definitions.Bank.{Bank, on_board}
use Rattle.model.specs.Definitions.Codec.{encode, decode}
use Rattle.model.specs.Definitions.Steps.{with_fuse, fuse_board}
use Rattle.model.proofs.Laws.BoardFields.{with_fuse_fields}
use Rattle.steps.specs.BankBlocks.{LentBlock, lent_in, lent_fields, lent_block, lent_step}
use Rattle.copies.specs.Banks.{lent_of}
use Rattle.engine.proofs.fuse.fuse_board.Goals.{After-block_size-size}
use Rattle.engine.proofs.fuse.fuse_board.Goals as goal

-- any fuse but 0 is written
fuse_board_set : (b n : ℕ) (k : Bank) → n ≢ 0 → fuse_board b n k ≡ on_board b (with_fuse n) k
unfolding fuse_board
fuse_board_set b zero k h = absurd (h refl)
fuse_board_set b (suc n) k h = refl

-- the board's block in the bank
lent : (c : After-block_size-size)
    → LentBlock (decode c.args.bank.now) c.args.bank.now
    c.args.pages c.args.board c.block_at-a.result c.block_size-size.result
lent c =
    lent_of (record { bank = c.requires.0; count = c.requires.1; board = c.requires.2 }) _ _ c.block_at-a.ensures c.block_size-size.ensures

pub overflow_add-a : goal.overflow_add-a
overflow_add-a c = omega (arith, lent_in (lent c))

pub slice_bounds-set_fuse-end : goal.slice_bounds-set_fuse-end
slice_bounds-set_fuse-end c = lent_in (lent c)

pub set_fuse-requires : goal.set_fuse-requires
set_fuse-requires c = lent_block (lent (goal.at.set_fuse-requires c).After-block_size-size)

pub returns-then-stores-eq0 : goal.returns-then-stores-eq0
unfolding fuse_board
returns-then-stores-eq0 c = c.power_off.ensures ∙ rw c.if-stores-eq0.true

pub returns-else-stores-eq0 : goal.returns-else-stores-eq0
returns-else-stores-eq0 c =
    let block = lent (goal.at.returns-else-stores-eq0 c).After-block_size-size in
    let wrote = c.set_fuse in
    let n = c.args.stores in
    lent_step block (with_fuse n) wrote.new.block (with_fuse_fields (lent_fields block) n (omega arith)) wrote.auto.block wrote.ensures
    ∙ ap encode (sym (fuse_board_set c.args.board n (decode c.args.bank.now) c.if-stores-eq0.false))
