-- `accesses::live::nobody_gives` meets its contract: the owner is up, or a write needs it, or the ones of the copy-set are counted. Assumes nothing.
use mathlib.Core.Path.{◌≡◌, sym, ap, ◌∙◌}
use lib.Count.{ones}
use Rattle.model.specs.Definitions.Steps.{owner_up}
use Rattle.model.specs.Definitions.Calls.{nobody_gives}
use Rattle.steps.specs.Asked.{got}
use Rattle.copies.specs.Directory.{entry_at_lem, owner_told, copies_told}
use Rattle.accesses.proofs.Prepared.{given_up, copies_counted}
use Rattle.model.specs.Definitions.Bank.{entry_at}
use Rattle.model.specs.Definitions.Codec.{decode}
use Rattle.accesses.proofs.live.nobody_gives.Goals.{After-from-owner}
use Rattle.accesses.proofs.live.nobody_gives.Goals as goal

own : (c : After-from-owner) → c.from-owner.result ≡ (entry_at (decode c.args.bank.now) c.args.page).owner
own c = c.from-owner.ensures ∙ (c.read_owner.ensures ∙ owner_told c.requires.0 _ c.requires.1)

pub read_owner-requires : goal.read_owner-requires
read_owner-requires c = let pre = c.requires in entry_at_lem pre.0 _ pre.1

pub board_up-requires : goal.board_up-requires
board_up-requires c = rw (own (goal.at.board_up-requires c).After-from-owner) c.requires.0

pub returns-then-board_up : goal.returns-then-board_up
unfolding owner_up
returns-then-board_up c =
    let up = rw (own (goal.at.returns-then-board_up c).After-from-owner) at c.board_up.ensures in
    given_up c.args.writes _ _ (sym up ∙ c.if-board_up.true)

pub returns-then-writes : goal.returns-then-writes
unfolding nobody_gives got owner_up
returns-then-writes c =
    let up = rw (own (goal.at.returns-then-writes c).After-from-owner) at c.board_up.ensures in
    rw (c.if-writes.true, sym up ∙ c.if-board_up.false)

pub read_copies-requires : goal.read_copies-requires
read_copies-requires c = let pre = c.requires in entry_at_lem pre.0 _ pre.1

pub returns : goal.returns
unfolding nobody_gives got owner_up
returns c =
    let up = rw (own (goal.at.returns c).After-from-owner) at c.board_up.ensures in
    let copies = c.count_copies.ensures ∙ ap ones (c.read_copies.ensures ∙ copies_told c.requires.0 _ c.requires.1) in
    rw (c.if-writes.false, sym up ∙ c.if-board_up.false)
    (copies_counted _ _ copies)
