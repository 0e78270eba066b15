-- `fresh::block::write_block` meets its contract. The invariant: the rights of the own pages below the next one are written. Assumes nothing.
use mathlib.Core.Path.{◌≡◌, ◌∙◌}
use Prim.Native.Nat.{◌+◌}
use native.Mathlib.Nat.{mod-eq_of_lt}
use native.Mathlib.Omega.{arith}
use Rattle.model.specs.Definitions.Layout.{block_size}
use Rattle.model.proofs.Laws.Zeros.{zeros_length}
use Rattle.fresh.specs.Rights.{own_again}
use Rattle.fresh.specs.Block.{block_below, below_length, below_first, below_next, below_last}
use Rattle.fresh.proofs.block.write_block.Goals.{After-write_own}
use Rattle.fresh.proofs.block.write_block.Goals as goal

pub write_fuse-requires : goal.write_fuse-requires
write_fuse-requires c =
    rw (c.requires.1, zeros_length (block_size c.args.sizes.pages)) (omega arith)

pub loop-page-init : goal.loop-page-init
loop-page-init c =
    (mod-eq_of_lt c.requires.0, c.write_fuse.ensures ∙ rw c.requires.1 (below_first _ _ _ c.requires.0))

pub write_own-requires : goal.write_own-requires
write_own-requires c =
    let loop = c.loop-page in
    (c.loop-page-test.true, c.args.sizes.allowed.pages, rw loop.invariant.1 (below_length _ _ _ loop.page))

-- one more right is written
more : (c : After-write_own) → c.write_own.new.block ≡ block_below c.args.sizes.boards c.args.sizes.pages c.args.board (c.loop-page.page + c.args.sizes.boards)
more c =
    let loop = c.loop-page in
    c.write_own.ensures ∙ rw loop.invariant.1 (below_next _ _ _ loop.page loop.invariant.0 c.requires.0 c.loop-page-test.true)

pub loop-page-preserved : goal.loop-page-preserved
loop-page-preserved c =
    let loop = c.loop-page in
    (own_again _ _ loop.page loop.invariant.0 c.requires.0, more (goal.at.loop-page-preserved c).After-write_own)

pub returns : goal.returns
returns c =
    let loop = c.loop-page in
    loop.invariant.1 ∙ below_last _ _ _ loop.page (omega arith)

-- the last own page is that of the turn
pub returns-2 : goal.returns-2
returns-2 c =
    more (goal.at.returns-2 c).After-write_own ∙ below_last _ _ _ (c.loop-page.page + c.args.sizes.boards) (omega arith)
