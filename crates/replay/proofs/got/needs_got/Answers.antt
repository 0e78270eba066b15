-- `replay::got::needs_got` meets its contract: each arm is a case of the definition. Assumes nothing.
use mathlib.Core.Path.{sym, ◌∙◌}
use mathlib.Core.Logic.{inl, inr}
use native.Mathlib.Omega.{arith}
use borrow.Author.Tests.{leb-true}
use Rattle.model.specs.Definitions.Codec.{page_of}
use Rattle.replay.specs.Clauses.{fits}
use Rattle.replay.specs.Got.{fits_low, fits_out, fits_in}
use Rattle.replay.proofs.got.needs_got.Goals.{then-lowest-from, else-lowest-from}
use Rattle.replay.proofs.got.needs_got.Goals as goal

pub has-requires : goal.has-requires
unfolding page_of
has-requires c = rw c.from-then-lowest-from.ensures (rw c.in-Got.is at c.requires)

pub returns-then-has : goal.returns-then-has
returns-then-has c =
    elim c.if-lowest-from.branch [
      | then-lowest-from w ↦ rw c.in-Got.is
          (fits_in _ c.in-Got.brought c.args.lacking c.args.lowest c.in-Got.page (omega arith)
          (rw w.from-then-lowest-from.ensures at (sym w.has.ensures) ∙ sym w.value-is ∙ c.if-has.true) c.serves.result c.serves.ensures)
      | else-lowest-from w ↦ absurd (omega (arith, leb-true _ _ (sym w.value-is ∙ c.if-has.true)))
    ]

pub returns-else-has : goal.returns-else-has
returns-else-has c =
    elim c.if-lowest-from.branch [
      | then-lowest-from w ↦ rw (c.in-Got.is, c.if-has.false)
          (fits_out _ c.in-Got.brought c.args.lacking c.args.lowest c.in-Got.page
          (rw w.from-then-lowest-from.ensures at (sym w.has.ensures) ∙ sym w.value-is ∙ c.if-has.false))
      | else-lowest-from w ↦ rw (c.in-Got.is, c.if-has.false)
          (fits_low _ c.in-Got.brought c.args.lacking c.args.lowest c.in-Got.page (omega arith))
    ]

pub returns-in-Shown : goal.returns-in-Shown
unfolding fits
returns-in-Shown c = elim c.in-Shown.is [ inl k ↦ rw k.1 | inr k ↦ rw k.1 ]
