-- `exchange::fetch::read_fetch` meets its contract: the givers' part, then the copies. Assumes nothing.
use mathlib.Core.Path.{refl}
use Rattle.std.proofs.lemmas.Result.{err_from_is_err_and}
use Rattle.exchange.specs.ReadFetches.{read_lost, shown_of, shown_give, read_given}
use Rattle.exchange.proofs.fetch.read_fetch.Goals as goal

pub returns-in_err-stores-clause-run : goal.returns-in_err-stores-clause-run
returns-in_err-stores-clause-run c =
    let pre = c.requires in
    let p = err_from_is_err_and c.from_residual.result c.from_residual.ensures.1 in
    λ n. rw (p.1, p.2) (read_lost pre.0 pre.1 pre.2 n (c.in_err-stores.ensures.run n) _ refl)

pub give_copies-requires : goal.give_copies-requires
give_copies-requires c =
    let pre = c.requires in
    let shown = c.in_ok-stores.ensures.run 0 in
    (shown_of pre.0 pre.1 pre.2 0 shown refl, shown_give pre.0 pre.1 pre.2 0 shown refl)

pub returns-clause-run : goal.returns-clause-run
returns-clause-run c =
    let pre = c.requires in
    λ n. read_given pre.0 pre.1 pre.2 n (c.in_ok-stores.ensures.run n) refl _ c.give_copies.ensures
