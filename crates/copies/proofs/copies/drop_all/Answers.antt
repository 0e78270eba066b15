-- `copies::copies::drop_all` meets its contract. The loop's invariant: the losers but those left have dropped their right. Assumes nothing.
use mathlib.Core.Path.{refl, ◌∙◌}
use Rattle.copies.specs.Banks.{of_holds}
use Rattle.copies.specs.Drops.{dropping_first, dropping_last, lowest_left, without_less, dropping_of, dropping_space}
use Rattle.copies.specs.Drops.{dropping_next}
use Rattle.copies.proofs.Lowest.{holder_some, holder_none}
use Rattle.copies.proofs.copies.drop_all.Goals as goal

pub loop-holder-init : goal.loop-holder-init
loop-holder-init c = (refl, dropping_first (of_holds c.requires.0) _ _ _)

pub drop_at-requires : goal.drop_at-requires
drop_at-requires c =
    let d = c.loop-holder.invariant.1 in
    let few = c.requires.0.bank.sizes.boards in
    let some = (holder_some c.lowest_holder.ensures.some c.in-Some.is) in
    let lowest = c.in-Some.ensures.lowest in
    (dropping_of d c.requires.1 few some lowest _ c.requires.0.count, dropping_space d c.requires.1 few some lowest c.requires.3, c.requires.2)

pub loop-holder-smaller : goal.loop-holder-smaller
loop-holder-smaller c =
    let among = lowest_left c.loop-holder.invariant.1 c.requires.1 c.requires.0.bank.sizes.boards
    (holder_some c.lowest_holder.ensures.some c.in-Some.is) c.in-Some.ensures.lowest in
    without_less _ _ _ among c.without_member-left.ensures

pub loop-holder-preserved : goal.loop-holder-preserved
loop-holder-preserved c =
    let loop = c.loop-holder in
    let went = c.drop_at in (
      went.auto.bank ∙ loop.invariant.0,
      dropping_next loop.invariant.1 c.requires.1 c.requires.0.bank.sizes.boards (holder_some c.lowest_holder.ensures.some c.in-Some.is)
          c.in-Some.ensures.lowest _ _ c.without_member-left.ensures went.ensures,
    )

pub returns : goal.returns
returns c =
    let loop = c.loop-holder in
    dropping_last c.args.losers c.args.writer c.args.page (rw (holder_none c.lowest_holder.ensures.some c.in_default.is) at loop.invariant.1)
