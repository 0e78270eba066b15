-- `accesses::live::board_lacks` meets its contract: the rights are read in the board's block, which is lent. Assumes nothing.
use Rattle.copies.specs.Banks.{lent_of}
use Rattle.steps.specs.BankBlocks.{LentBlock, lent_in, lent_block, lent_board}
use Rattle.model.specs.Definitions.Steps.{lacks_page}
use Rattle.model.specs.Definitions.Codec.{decode}
use Rattle.model.specs.Definitions.Bank.{Board}
use mathlib.Core.Path.{ap, ◌∙◌}
use Rattle.accesses.proofs.live.board_lacks.Goals.{After-block_size-size}
use Rattle.accesses.proofs.live.board_lacks.Goals as goal

-- the board's block in the bank
lent : (c : After-block_size-size)
    → LentBlock (decode c.args.bank.now) c.args.bank.now c.args.pages
    c.args.ask.board c.block_at-a.result c.block_size-size.result
lent c = lent_of c.requires _ _ c.block_at-a.ensures c.block_size-size.ensures

pub slice_bounds-lacking_pages-end : goal.slice_bounds-lacking_pages-end
slice_bounds-lacking_pages-end c = lent_in (lent c)

pub lacking_pages-requires : goal.lacking_pages-requires
lacking_pages-requires c = lent_block (lent (goal.at.lacking_pages-requires c).After-block_size-size)

pub returns : goal.returns
returns c =
    λ a s.
    record {
      stands = s;
      lacks = λ p.
          c.lacking_pages.ensures a (rw c.is_some.ensures s.takes) p ∙ ap (λ (x : Board). lacks_page a x.working.frames p) (lent_board (lent (goal.at.returns c).After-block_size-size));
    }
