-- `steps::power::power_off` meets its contract: the directory, then the block, which is lent. Assumes nothing.
use mathlib.Core.Path.{sym, ◌∙◌}
use native.Mathlib.Omega.{arith}
use mathlib.Core.List.{map}
use lib.ListN.{length-map}
use Rattle.model.specs.Definitions.Bank.{Bank}
use Rattle.model.specs.Definitions.Codec.{decode}
use Rattle.model.specs.Definitions.Steps.{forgotten, powered_off, power_off}
use Rattle.model.proofs.Laws.BoardFields.{powered_off_fields}
use Rattle.steps.specs.BankBlocks.{LentBlock, lent_in, lent_fields, lent_block, lent_step}
use Rattle.steps.specs.Power.{forget_fields}
use Rattle.steps.proofs.power.power_off.Goals.{After-block_size-size}
use Rattle.steps.proofs.power.power_off.Goals as goal

-- the bank with its directory written, and the block in it
lent : (c : After-block_size-size)
    → LentBlock
    (record {
      directory =
          map (forgotten c.args.board)
          (decode c.args.bank.now).directory;
      boards = (decode c.args.bank.now).boards;
    })
    c.forget.new.bank c.args.pages
    c.args.board c.block_at-a.result c.block_size-size.result
lent c =
    let k : Bank = decode c.args.bank.now in
    record {
      bytes = c.forget.ensures;
      fields = forget_fields k c.args.board c.requires.0.fields;
      few = omega arith;
      count = c.requires.1 ∙ sym (length-map k.directory (forgotten c.args.board));
      board = c.requires.2;
      place = c.block_at-a.ensures;
      size = c.block_size-size.ensures;
    }

pub slice_bounds-wipe-end : goal.slice_bounds-wipe-end
slice_bounds-wipe-end c = lent_in (lent c)

pub wipe-requires : goal.wipe-requires
wipe-requires c = lent_block (lent (goal.at.wipe-requires c).After-block_size-size)

pub returns : goal.returns
unfolding power_off
returns c =
    let block = lent (goal.at.returns c).After-block_size-size in
    let wiped = c.wipe in
    lent_step block powered_off wiped.new.block (powered_off_fields (lent_fields block)) wiped.auto.block wiped.ensures
