-- `stores::flush::flush` meets its contract. The invariant: what is left to store gives what the whole gives. Assumes nothing.
use mathlib.Core.Path.{refl}
use Rattle.stores.specs.Flush.{flushing_begun, flushing_block, flushing_few, flushing_count, flushing_room}
use Rattle.stores.specs.Flush.{flushing_ok, appended_block, flushing_next, flushing_cut, flushing_all}
use Rattle.stores.specs.Store.{passed_on}
use Rattle.stores.proofs.flush.flush.Goals as goal

pub loop-stored-init : goal.loop-stored-init
loop-stored-init c = flushing_begun c.requires.0 c.requires.1 (c.volatile_count-n.ensures c.args.pages)

pub append_stored-requires : goal.append_stored-requires
append_stored-requires c =
    let inv = c.loop-stored.invariant in
    let h = c.loop-stored-test.true in
    (flushing_block inv, flushing_room inv h, flushing_ok inv h c.read_volatile-r.ensures)

pub spend-requires : goal.spend-requires
spend-requires c = appended_block c.loop-stored.invariant
    c.loop-stored-test.true c.read_volatile-r.ensures
    c.append_stored.ensures

pub returns-in_err-spend-clause-run : goal.returns-in_err-spend-clause-run
returns-in_err-spend-clause-run c =
    passed_on _ _ _ c.from_residual.ensures.1 c.in_err-spend.ensures.made
    (flushing_cut c.loop-stored.invariant c.loop-stored-test.true c.read_volatile-r.ensures c.append_stored.ensures c.in_err-spend.ensures.run refl)

pub loop-stored-preserved : goal.loop-stored-preserved
loop-stored-preserved c =
    flushing_next c.loop-stored.invariant c.loop-stored-test.true c.read_volatile-r.ensures
    c.append_stored.ensures c.in_ok-spend.ensures.run refl

pub end_flush-requires : goal.end_flush-requires
end_flush-requires c = let inv = c.loop-stored.invariant in (flushing_block inv, flushing_count inv)

pub returns : goal.returns
returns c =
    let inv = c.loop-stored.invariant in
    record { run = flushing_all inv c.loop-stored-test.false c.end_flush.ensures; few = flushing_few inv }
