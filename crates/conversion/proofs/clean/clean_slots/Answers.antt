-- `conversion::clean::clean_slots` meets its contract. The invariant: the first blocks are clean. Assumes nothing.
use mathlib.Core.Path.{◌≡◌, ap, ◌∙◌}
use native.Mathlib.Omega.{arith}
use Rattle.model.specs.Definitions.Layout.{today, block_size}
use Rattle.model.specs.Definitions.Older.{cleaned_block}
use Rattle.conversion.specs.Formed.{few_pages, few_boards, size}
use Rattle.conversion.specs.Rewritten.{written_none, turn_kept, turn_in, turn_unwritten, turn_written}
use Rattle.conversion.specs.Cleaning.{DueBlock, blocks_wide, due_lent, bank_cleaned}
use Rattle.conversion.proofs.clean.clean_slots.Goals as goal
use Rattle.conversion.proofs.clean.clean_slots.Goals.{After-block_at-a}

-- the block that is made clean next
due : (c : goal.After-block_at-a)
    → DueBlock c.args.boards c.args.pages
    c.args.bank.now
    c.loop-board.bank c.loop-board.board c.block_at-a.result c.block_size-size.result
due c =
    record {
      source = size c.requires;
      wide = blocks_wide c.requires;
      whole = size c.requires;
      bytes = c.loop-board.invariant;
      next = c.loop-board-test.true;
      read = c.block_at-a.ensures;
      narrow = c.block_size-size.ensures;
      place = c.block_at-a.ensures;
      size = c.block_size-size.ensures;
    }

pub block_size-size-requires : goal.block_size-size-requires
block_size-size-requires c = few_pages c.requires

pub loop-board-init : goal.loop-board-init
loop-board-init c =
    let pages = c.args.pages in
    written_none (λ l. l) (cleaned_block today pages) (block_size pages) (block_size pages) _ _ _

pub block_at-a-requires : goal.block_at-a-requires
block_at-a-requires c = (few_pages c.requires, omega (arith, few_boards c.requires))

pub overflow_add-a : goal.overflow_add-a
overflow_add-a c = omega (arith, turn_in (due c), turn_kept (due c), size c.requires)

pub slice_bounds-clean_block-end : goal.slice_bounds-clean_block-end
slice_bounds-clean_block-end c = turn_in (due c)

pub clean_block-requires : goal.clean_block-requires
clean_block-requires c = due_lent c.requires (due (goal.at.clean_block-requires c).After-block_at-a)

pub loop-board-preserved : goal.loop-board-preserved
loop-board-preserved c =
    let went = c.clean_block in
    let next = due (goal.at.loop-board-preserved c).After-block_at-a in
    turn_written next went.new.block went.auto.block (went.ensures ∙ ap (cleaned_block today _) (turn_unwritten next))

pub returns : goal.returns
returns c =
    let loop = c.loop-board in
    let e : loop.board ≡ c.args.boards = omega arith in
    loop.invariant ∙ rw e (bank_cleaned c.requires)
