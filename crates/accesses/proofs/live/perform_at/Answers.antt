-- `accesses::live::perform_at` meets its contract: the access is done on the board's block, which is lent. Assumes nothing.
use Rattle.copies.specs.Banks.{lent_of, lent_holds}
use Rattle.steps.specs.BankBlocks.{LentBlock, lent_in, lent_fields, lent_block, lent_board}
use Rattle.accesses.specs.Asks.{performed_fields, value_small}
use Rattle.model.specs.Definitions.Steps.{cells_asked, cell_byte, accessed, access}
use Rattle.model.specs.Definitions.Codec.{decode}
use Rattle.model.specs.Definitions.Bank.{Board, on_working}
use mathlib.Core.Path.{ap, ◌∙◌}
use mathlib.Core.List.{map}
use Rattle.accesses.proofs.live.perform_at.Goals.{After-block_size-size}
use Rattle.accesses.proofs.live.perform_at.Goals as goal

-- the board's block in the bank
lent : (c : After-block_size-size)
    → LentBlock (decode c.args.bank.now) c.args.bank.now
    c.args.pages c.args.ask.board c.block_at-a.result
    c.block_size-size.result
lent c = lent_of c.requires.0 _ _ c.block_at-a.ensures c.block_size-size.ensures

pub slice_bounds-perform_cells-end : goal.slice_bounds-perform_cells-end
slice_bounds-perform_cells-end c = lent_in (lent c)

pub perform_cells-requires : goal.perform_cells-requires
perform_cells-requires c =
    let block = lent (goal.at.perform_cells-requires c).After-block_size-size in
    let ready = c.requires.2.2 in
    (lent_block block, rw (lent_board block) ready.number, rw (lent_board block) ready.since, c.requires.1)

pub returns : goal.returns
unfolding access
returns c =
    let q = c.args.ask in
    let block = lent (goal.at.returns c).After-block_size-size in
    let did = c.perform_cells in
    record {
      read = did.ensures.read ∙ ap (λ (x : Board). map (cell_byte x.working.frames) (cells_asked c.args.cells.now)) (lent_board block);
      did = λ a s ready.
          lent_holds c.requires.0 block (on_working (accessed a)) did.new.block
          (performed_fields a q s (value_small c.args.ask.write) (lent_fields block) ready.right ready.number ready.since) did.auto.block (did.ensures.did a s);
    }
