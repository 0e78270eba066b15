-- `fresh::bank::write_directory` meets its contract. The invariant: the entries of the first pages are written, and whose the next one is. Assumes nothing.
use mathlib.Core.Path.{refl, sym, ◌∙◌}
use native.Mathlib.Nat.{zero-mod, mod-add-mod}
use native.Mathlib.Omega.{arith}
use Rattle.model.specs.Definitions.Layout.{head_size, entry_size}
use Rattle.model.specs.Definitions.Codec.{encode_entry}
use Rattle.model.proofs.Laws.Codec.{length_encode_entry}
use Rattle.fresh.specs.SideBySide.{none_written, one_more}
use Rattle.fresh.specs.Fresh.{fresh_entry}
use Rattle.fresh.proofs.bank.write_directory.Goals as goal

pub loop-page-init : goal.loop-page-init
loop-page-init c = (
  sym (zero-mod c.args.sizes.boards),
  refl,
  none_written encode_entry entry_size (fresh_entry c.args.sizes.boards) (λ p. length_encode_entry _) c.args.bank.now head_size,
)

pub loop-page-preserved : goal.loop-page-preserved
loop-page-preserved c =
    let loop = c.loop-page in
    let went = c.write_entry in
    let boards = c.args.sizes.boards in (
      c.next_owner-owner.ensures ∙ rw loop.invariant.0 (mod-add-mod loop.page boards 1),
      went.auto.bank ∙ loop.invariant.1,
      went.ensures
          ∙ rw loop.invariant.0
          (one_more encode_entry entry_size (fresh_entry boards) (λ p. length_encode_entry _) c.args.bank.now loop.bank head_size loop.page
          (omega arith) loop.invariant.2),
    )
