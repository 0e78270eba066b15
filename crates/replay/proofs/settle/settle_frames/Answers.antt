-- `replay::settle::settle_frames` meets its contract. The invariant: the first pages have their settled frames. Assumes nothing.
use native.Mathlib.Omega.{arith}
use Rattle.model.specs.Definitions.Parts.{member}
use Rattle.model.specs.Definitions.Bank.{on_working, on_frames}
use Rattle.replay.specs.Replaced.{replaced_none, replaced_block, replaced_more, replaced_last}
use Rattle.replay.specs.Settle.{settling_ok, settling_next}
use Rattle.replay.proofs.settle.settle_frames.Goals as goal

pub loop-page-init : goal.loop-page-init
loop-page-init c = (omega arith, replaced_none c.requires _ (settling_ok c.requires (λ p. member p c.args.owned)))

pub settle_frame-requires : goal.settle_frame-requires
settle_frame-requires c = (
  replaced_block c.requires _ (settling_ok c.requires (λ p. member p c.args.owned)) _ _ c.loop-page.invariant.1
      c.loop-page.invariant.0,
  c.loop-page-test.true,
)

pub loop-page-preserved : goal.loop-page-preserved
loop-page-preserved c =
    let loop = c.loop-page in
    let h = c.loop-page-test.true in
    let next = settling_next c.requires (λ p. member p c.args.owned) loop.page loop.block c.has.result h
    c.has.ensures loop.invariant.1 in (
      omega arith,
      replaced_more c.requires _ (settling_ok c.requires (λ p. member p c.args.owned)) _ _ loop.invariant.1 _ _ h
          c.settle_frame.ensures next,
    )

pub returns : goal.returns
unfolding on_working on_frames
returns c =
    replaced_last c.requires _ (settling_ok c.requires (λ p. member p c.args.owned)) _ _ c.loop-page.invariant.1 c.loop-page.invariant.0
    c.loop-page-test.false
