-- `stores::checkpoint::store_frames` meets its contract. The invariant: what is left to store gives what the whole gives. Assumes nothing.
use mathlib.Core.Path.{refl}
use Rattle.stores.specs.Store.{passed_on}
use Rattle.stores.specs.Checkpoint.{saving_begun, saving_block, saving_next, saving_cut, saving_all}
use Rattle.stores.proofs.checkpoint.store_frames.Goals as goal

pub loop-page-init : goal.loop-page-init
loop-page-init c = saving_begun c.requires

pub spend-requires : goal.spend-requires
spend-requires c =
    saving_block c.loop-page.invariant c.loop-page-test.true
    c.store_frame.ensures

pub returns-in_err-spend-clause-run : goal.returns-in_err-spend-clause-run
returns-in_err-spend-clause-run c =
    passed_on _ _ _ c.from_residual.ensures.1 c.in_err-spend.ensures.made
    (saving_cut c.loop-page.invariant c.loop-page-test.true c.store_frame.ensures c.in_err-spend.ensures.run refl)

pub loop-page-preserved : goal.loop-page-preserved
loop-page-preserved c =
    let loop = c.loop-page in
    let h = c.loop-page-test.true in
    saving_next loop.invariant h c.store_frame.ensures c.in_ok-spend.ensures.run refl

pub returns-clause-run : goal.returns-clause-run
returns-clause-run c = saving_all c.loop-page.invariant c.loop-page-test.false
