-- `copies::copies::drop_copies` meets its contract: the holders' blocks, then the entry. Assumes nothing.
use mathlib.Core.Path.{◌∙◌}
use native.Mathlib.Omega.{arith}
use Rattle.model.specs.Definitions.Steps.{drop_at}
use Rattle.copies.specs.Banks.{of_holds, entry_in}
use Rattle.copies.specs.Directory.{copies_told}
use Rattle.copies.specs.Exchanges.{copies_dropped}
use Rattle.copies.proofs.copies.drop_copies.Goals as goal

pub read_owner-owner-requires : goal.read_owner-owner-requires
read_owner-owner-requires c = let pre = c.requires in entry_in (of_holds pre.0) _ (omega (arith, pre.0.count))

pub read_copies-copies-requires : goal.read_copies-copies-requires
read_copies-copies-requires c = let pre = c.requires in entry_in (of_holds pre.0) _ (omega (arith, pre.0.count))

pub drop_all-requires : goal.drop_all-requires
drop_all-requires c =
    let pre = c.requires in
    let copies = c.read_copies-copies.ensures ∙ copies_told pre.0 _ pre.1 in (
      record { bank = pre.0.bank; count = pre.0.count; board = omega (arith, pre.0.board) },
      rw copies pre.2.copies,
      pre.1,
      λ b h t. pre.3 b h (rw copies at t),
    )

pub write_entry-requires : goal.write_entry-requires
unfolding drop_at
write_entry-requires c = entry_in c.drop_all.ensures
    _ (omega (arith, c.requires.0.count))

pub returns : goal.returns
returns c =
    copies_dropped c.args.board c.args.page _ _ (omega (arith, c.requires.0.count)) (of_holds c.requires.0)
    c.read_owner-owner.ensures
    c.read_copies-copies.ensures
    c.drop_all.ensures c.write_entry.ensures
