-- `copies::copies::pass_ownership` meets its contract: the blocks of those who lose the page, the taker's block, then the entry. Assumes nothing.
use mathlib.Core.Path.{ap, ◌∙◌}
use native.Mathlib.Omega.{arith}
use lib.ListN.{length}
use Rattle.model.specs.Definitions.Parts.{with_member}
use Rattle.model.specs.Definitions.Bank.{Bank, on_board}
use Rattle.model.specs.Definitions.Steps.{drop_at}
use Rattle.model.proofs.Laws.Boards.{boards_drop_at}
use Rattle.copies.specs.Banks.{of_holds, holds_of, holds_decode, entry_in}
use Rattle.copies.specs.Exchanges.{losers_below, losers_can, page_passed}
use Rattle.copies.proofs.copies.pass_ownership.Goals as goal

pub read_copies-copies-requires : goal.read_copies-copies-requires
read_copies-copies-requires c = let pre = c.requires in entry_in (of_holds pre.0) _ (omega (arith, pre.0.count))

pub drop_all-requires : goal.drop_all-requires
drop_all-requires c =
    let args = c.args in
    let pre = c.requires in
    let bank = of_holds pre.0 in
    let copies = c.read_copies-copies.ensures in
    let losers = c.with_member-losers.ensures ∙ ap (with_member args.owner) c.without_member.ensures in (
      record { bank = pre.0.bank; count = pre.0.count; board = omega (arith, pre.1) },
      losers_below args.owner args.board args.page _ _ (omega (arith, pre.0.count)) bank pre.2 copies losers pre.4 pre.1,
      pre.3,
      losers_can args.owner args.board args.page _ _ (omega (arith, pre.0.count)) bank pre.2 copies losers pre.5 pre.6,
    )

pub own_to-requires : goal.own_to-requires
unfolding drop_at
own_to-requires c =
    let pre = c.requires in
    let dropped = c.drop_all.ensures in (
      holds_of dropped _ _ pre.0.count (rw (boards_drop_at _ _ _ _) pre.0.board),
      pre.3,
      c.page_frame-passed.ensures.1,
    )

pub write_entry-requires : goal.write_entry-requires
unfolding on_board drop_at
write_entry-requires c =
    let pre = c.requires in
    let same = ap (λ (k : Bank). length k.directory) (holds_decode c.drop_all.ensures) in
    entry_in c.own_to.ensures _ (omega (arith, pre.0.count, same))

pub returns : goal.returns
returns c =
    let args = c.args in
    let losers = c.with_member-losers.ensures
    ∙ ap (with_member args.owner)
    c.without_member.ensures in
    page_passed args.owner args.board args.page _ _ (omega (arith, c.requires.0.count)) (of_holds c.requires.0) c.requires.2
    c.read_copies-copies.ensures losers
    _ c.page_frame-passed.ensures.0 c.drop_all.ensures
    c.own_to.ensures c.write_entry.ensures
