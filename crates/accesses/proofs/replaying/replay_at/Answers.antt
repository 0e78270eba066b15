-- `accesses::replaying::replay_at` meets its contract: the access is repeated on the board's block, which is lent. Assumes nothing.
use mathlib.Core.Path.{ap, ◌∙◌}
use Rattle.model.specs.Definitions.Codec.{decode}
use Rattle.steps.specs.BankBlocks.{LentBlock, lent_in, lent_fields, lent_block, lent_board}
use Rattle.copies.specs.Banks.{lent_of, lent_holds}
use Rattle.accesses.specs.Asks.{value_small}
use Rattle.accesses.specs.BlockReplay.{replayed_board, replayed_to, replayed_fields}
use Rattle.accesses.proofs.replaying.replay_at.Goals.{After-block_size-size}
use Rattle.accesses.proofs.replaying.replay_at.Goals as goal

-- the board's block in the bank
lent : (c : After-block_size-size)
    → LentBlock (decode c.args.bank.now) c.args.bank.now
    c.args.pages c.args.ask.board c.block_at-a.result
    c.block_size-size.result
lent c = lent_of c.requires.0 _ _ c.block_at-a.ensures c.block_size-size.ensures

pub slice_bounds-replay-end : goal.slice_bounds-replay-end
slice_bounds-replay-end c = lent_in (lent c)

pub replay-requires : goal.replay-requires
replay-requires c =
    let block = lent (goal.at.replay-requires c).After-block_size-size in
    let again = c.requires.2 in
    (lent_block block, c.requires.1, (again.0, again.1, rw (lent_board block) again.2))

pub returns : goal.returns
returns c =
    let block = lent (goal.at.returns c).After-block_size-size in
    let e = lent_board block in
    let did = c.replay in
    record {
      read = λ on. rw e at did.ensures.read on;
      did = λ a s h.
          let told = did.ensures.did a s (rw e h) in (
            told.0 ∙ ap (replayed_to a) e,
            lent_holds c.requires.0 block (replayed_board a) did.new.block
                (replayed_fields (lent_fields block) a h c.args.ask s (value_small c.args.ask.write)) did.auto.block told.1,
          );
    }
