-- `copies::copies::give_copy` meets its contract: the reader's block, then the entry. Assumes nothing.
use native.Mathlib.Omega.{arith}
use Rattle.model.specs.Definitions.Bank.{on_board}
use Rattle.model.specs.Definitions.Codec.{decode}
use Rattle.copies.specs.Banks.{entry_in}
use Rattle.copies.specs.Exchanges.{copy_given}
use Rattle.copies.proofs.copies.give_copy.Goals as goal

pub read_owner-owner-requires : goal.read_owner-owner-requires
unfolding on_board
read_owner-owner-requires c = entry_in c.copy_to.ensures
    _ (omega (arith, c.requires.0.count))

pub read_copies-copies-requires : goal.read_copies-copies-requires
unfolding on_board
read_copies-copies-requires c = entry_in c.copy_to.ensures
    _ (omega (arith, c.requires.0.count))

pub write_entry-requires : goal.write_entry-requires
unfolding on_board
write_entry-requires c = entry_in c.copy_to.ensures
    _ (omega (arith, c.requires.0.count))

pub returns : goal.returns
returns c =
    let args = c.args in
    copy_given (decode args.bank.now) args.giver args.board args.page _ _ _ _ (omega (arith, c.requires.0.count))
    c.page_frame-frame.ensures.0
    c.copy_to.ensures
    c.read_owner-owner.ensures c.read_copies-copies.ensures
    c.with_member.ensures c.write_entry.ensures
