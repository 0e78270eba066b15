-- `copies::givers::giver` meets its contract: a write's giver, an owner that is up, or the lowest holder. Assumes nothing.
use mathlib.Core.Path.{sym, ap, ◌∙◌}
use lib.Count.{count_trailing_zeros}
use Rattle.model.specs.Definitions.Layout.{most_boards}
use Rattle.model.specs.Definitions.Steps.{lowest_holder, owner_up, giver}
use Rattle.steps.specs.Asked.{got}
use Rattle.copies.specs.Directory.{entry_at_lem, owner_told, copies_told}
use Rattle.std.proofs.Common.{◌≡◌, ℕ, true, false, refl}
use Rattle.model.specs.Definitions.Bank.{Bank, board_at, entry_at}
use Rattle.model.specs.Definitions.Codec.{decode}
use Rattle.model.specs.Definitions.WellFormed.{is_up}
use Rattle.copies.proofs.givers.giver.Goals.{After-from-owner, then-writes-via-then-writes, then-writes-via-else-writes+then-board_up}
use Rattle.copies.proofs.Lowest.{lowest_or}
use Rattle.copies.proofs.givers.giver.Goals as goal

-- who gives a copy, by the owner's state
owner_gives : (k : Bank) (p : ℕ) → is_up (board_at k (entry_at k p).owner).state ≡ true → giver (got false) k p ≡ (entry_at k p).owner
unfolding giver got owner_up
owner_gives k p u = rw (u, giver) refl

holder_gives : (k : Bank) (p : ℕ) → is_up (board_at k (entry_at k p).owner).state ≡ false → giver (got false) k p ≡ lowest_holder (entry_at k p)
unfolding giver got owner_up
holder_gives k p d = rw (d, giver) refl

own : (c : After-from-owner) → c.from-owner.result ≡ (entry_at (decode c.args.bank.now) c.args.page).owner
own c = c.from-owner.ensures ∙ (c.read_owner.ensures ∙ owner_told c.requires.0 _ c.requires.1)

pub read_owner-requires : goal.read_owner-requires
read_owner-requires c = let pre = c.requires in entry_at_lem pre.0 _ pre.1

pub board_up-requires : goal.board_up-requires
board_up-requires c = rw (own (goal.at.board_up-requires c).After-from-owner) c.requires.0

pub returns-then-writes : goal.returns-then-writes
unfolding giver got
returns-then-writes c =
    let owner = own (goal.at.returns-then-writes c).After-from-owner in
    elim c.then-writes.branch [
      | then-writes-via-then-writes w ↦ rw w.if-writes.true owner
      | then-writes-via-else-writes+then-board_up w ↦
          let up = sym (rw owner at w.board_up.ensures) ∙ w.if-board_up.true in
          rw w.if-writes.false (owner ∙ sym (owner_gives (decode c.args.bank.now) c.args.page up))
    ]

pub read_copies-requires : goal.read_copies-requires
read_copies-requires c = let pre = c.requires in entry_at_lem pre.0 _ pre.1

pub returns : goal.returns
unfolding lowest_holder
returns c =
    let pre = c.requires in
    let down = sym (rw (own (goal.at.returns c).After-from-owner) at c.board_up.ensures) ∙ c.if-board_up.false in
    let copies = c.read_copies.ensures ∙ copies_told pre.0 _ pre.1 in
    rw c.if-writes.false
    (c.unwrap_or.ensures ∙ lowest_or _ _ c.lowest_holder.ensures.some c.lowest_holder.ensures.lowest ∙ ap (count_trailing_zeros most_boards) copies ∙ sym (holder_gives (decode c.args.bank.now) c.args.page down))
