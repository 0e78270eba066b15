-- `exchange::fetch::fetch` meets its contract: a write's set has one page. Assumes nothing.
use Rattle.model.specs.Definitions.Steps.{fetch}
use Rattle.steps.specs.Asked.{got}
use Rattle.copies.specs.Directory.{of_owner}
use Rattle.exchange.specs.Fetching.{one_page}
use Rattle.exchange.proofs.fetch.fetch.Goals as goal

pub giver-owner-requires : goal.giver-owner-requires
giver-owner-requires c =
    let pre = c.requires in
    let page = one_page pre.0 pre.2 (rw c.in-Some.is at pre.3) in
    (of_owner pre.0 pre.1 _ page, page)

pub write_fetch-requires : goal.write_fetch-requires
unfolding got
write_fetch-requires c =
    let pre = c.requires in
    let page = rw c.in-Some.is at pre.3 in
    (pre.0, pre.1, rw (c.in-Some.is, page) at pre.2, c.giver-owner.ensures)

pub returns-in-Some-clause-run : goal.returns-in-Some-clause-run
unfolding fetch got
returns-in-Some-clause-run c =
    let page = rw c.in-Some.is at c.requires.3 in
    rw (c.in-Some.is, page) c.write_fetch.ensures.run

pub read_fetch-requires : goal.read_fetch-requires
unfolding got
read_fetch-requires c = let pre = c.requires in (pre.0, pre.1, rw c.in-None.is at pre.2)

pub returns-in-None-clause-run : goal.returns-in-None-clause-run
unfolding fetch got
returns-in-None-clause-run c = rw c.in-None.is c.read_fetch.ensures.run
