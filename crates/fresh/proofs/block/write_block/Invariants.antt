-- `fresh::block::write_block` meets its contract. The invariant: the rights of the own pages below the next one are written. Assumes nothing.
use mathlib.Core.Path.{◌≡◌}
use Prim.Native.Nat.{◌%◌}
use Rattle.fresh.specs.Block.{block_below}
use Rattle.fresh.proofs.block.write_block.Given as goal

abbrev pub invariant-loop-page : goal.invariant-loop-page
invariant-loop-page l = (l.page % l.sizes.boards ≡ l.board) × (l.block ≡ block_below l.sizes.boards l.sizes.pages l.board l.page)
