-- `stores::checkpoint::checkpoint` meets its contract. Assumes nothing.
use mathlib.Core.Path.{◌≡◌, refl, sym, ◌∙◌}
use Prim.Native.Nat.{◌+◌}
use native.Mathlib.Omega.{arith}
use Rattle.model.specs.Definitions.Steps.{stored_head, stored_selector}
use Rattle.steps.specs.Blocks.{board_of}
use Rattle.stores.specs.Store.{passed_on, At, at_block, at_next, at_cut}
use Rattle.stores.specs.Checkpoint.{frames_run, head_run, selector_run, head_ok, selector_ok, frames_at, frames_lost, head_lost, selector_lost, checkpoint_ran}
use Rattle.stores.proofs.checkpoint.checkpoint.Goals.{In_ok-stores, In_ok-spend, In_ok-spend-2}
use Rattle.stores.proofs.checkpoint.checkpoint.Goals as goal

-- the run so far, where there is power yet: after the frames, after the head, after the selector
saved : (c : In_ok-stores) → At c.args.pages (frames_run c.args.pages (board_of c.args.pages c.args.block.now)) c.store_frames.new.block c.in_ok-stores.stores
saved c = frames_at c.requires c.in_ok-stores.ensures.run refl

headed : (c : In_ok-spend) → At c.args.pages (head_run c.args.pages (board_of c.args.pages c.args.block.now)) c.spend.new.block (c.in_ok-stores.stores + 1)
headed c =
    let s = frames_at c.requires c.in_ok-stores.ensures.run refl in
    at_next s stored_head c.store_head.ensures (head_ok s) c.in_ok-spend.ensures.run refl

selected : (c : In_ok-spend-2) → At c.args.pages (selector_run c.args.pages (board_of c.args.pages c.args.block.now)) c.spend-2.new.block (c.in_ok-stores.stores + 2)
selected c =
    let s = frames_at c.requires c.in_ok-stores.ensures.run refl in
    let h = at_next s stored_head c.store_head.ensures (head_ok s) c.in_ok-spend.ensures.run refl in
    let e : c.in_ok-stores.stores + 1 + 1 ≡ c.in_ok-stores.stores + 2 = omega arith in
    rw e at (at_next h stored_selector c.store_selector.ensures (selector_ok h) c.in_ok-spend-2.ensures.run refl)

pub returns-in_err-stores-clause-run : goal.returns-in_err-stores-clause-run
returns-in_err-stores-clause-run c =
    passed_on _ _ _ c.from_residual.ensures.1 refl (frames_lost c.requires c.in_err-stores.ensures.run refl)

pub store_head-requires : goal.store_head-requires
store_head-requires c = (saved (goal.at.store_head-requires c).In_ok-stores).block

pub spend-requires : goal.spend-requires
spend-requires c =
    let s = saved (goal.at.spend-requires c).In_ok-stores in
    at_block s stored_head c.store_head.ensures (head_ok s)

pub returns-in_err-spend-clause-run : goal.returns-in_err-spend-clause-run
returns-in_err-spend-clause-run c =
    let s = saved (goal.at.returns-in_err-spend-clause-run c).In_ok-stores in
    passed_on _ _ _ c.from_residual-in_err-spend.ensures.1 c.in_err-spend.ensures.made
    (head_lost c.requires (at_cut s stored_head c.store_head.ensures (head_ok s) c.in_err-spend.ensures.run refl))

pub store_selector-requires : goal.store_selector-requires
store_selector-requires c = (headed (goal.at.store_selector-requires c).In_ok-spend).block

pub spend-requires-2 : goal.spend-requires-2
spend-requires-2 c =
    let h = headed (goal.at.spend-requires-2 c).In_ok-spend in
    at_block h stored_selector c.store_selector.ensures (selector_ok h)

pub returns-in_err-spend-2-clause-run : goal.returns-in_err-spend-2-clause-run
returns-in_err-spend-2-clause-run c =
    let h = headed (goal.at.returns-in_err-spend-2-clause-run c).In_ok-spend in
    let e : c.in_ok-stores.stores + 1 + 1 ≡ c.in_ok-stores.stores + 2 = omega arith in
    passed_on _ _ _ c.from_residual-in_err-spend-2.ensures.1 (c.in_err-spend-2.ensures.made ∙ sym e)
    (selector_lost c.requires (at_cut h stored_selector c.store_selector.ensures (selector_ok h) c.in_err-spend-2.ensures.run refl))

pub rest-requires : goal.rest-requires
rest-requires c = (selected (goal.at.rest-requires c).In_ok-spend-2).block

pub returns-clause-run : goal.returns-clause-run
returns-clause-run c =
    checkpoint_ran c.requires (selected (goal.at.returns-clause-run c).In_ok-spend-2) c.rest.ensures
