-- `replay::restart::load_frames` meets its contract. The invariant: the first pages have the frames of the selected area. Assumes nothing.
use native.Mathlib.Omega.{arith}
use Rattle.model.specs.Definitions.Bank.{on_working}
use Rattle.replay.specs.Replaced.{replaced_none, replaced_block, replaced_board, replaced_more, replaced_last}
use Rattle.replay.proofs.restart.load_frames.Goals as goal

pub loop-page-init : goal.loop-page-init
loop-page-init c = (omega arith, replaced_none c.requires _ c.requires.fields.selected.frames)

pub load_frame-requires : goal.load_frame-requires
load_frame-requires c =
    let b = c.requires in
    (replaced_block b _ b.fields.selected.frames _ _ c.loop-page.invariant.1 c.loop-page.invariant.0, c.loop-page-test.true)

pub loop-page-preserved : goal.loop-page-preserved
unfolding on_working
loop-page-preserved c =
    let b = c.requires in
    let loop = c.loop-page in
    let same = replaced_board b _ b.fields.selected.frames _ _ loop.invariant.1 loop.invariant.0 in (
      omega arith,
      replaced_more b _ b.fields.selected.frames _ _ loop.invariant.1 _ _ c.loop-page-test.true
          c.load_frame.ensures (rw same),
    )

pub returns : goal.returns
returns c =
    let b = c.requires in
    replaced_last b _ b.fields.selected.frames _ _ c.loop-page.invariant.1 c.loop-page.invariant.0 c.loop-page-test.false
