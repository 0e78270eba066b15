-- `exchange::fetch::write_fetch` meets its contract: the owner's part, the writer's part, then the page is passed on. Assumes nothing.
use mathlib.Core.Path.{refl}
use Prim.Native.Nat.{ℕ, ◌+◌}
use Rattle.std.proofs.Common.{rules, add_assoc}
use Rattle.std.proofs.lemmas.Result.{err_from_is_err_and}
use Rattle.model.specs.Definitions.Codec.{decode}
use Rattle.exchange.specs.Progress.{running, stores_after, loss_of, Came, get_own, after_told}
use Rattle.exchange.specs.Fetching.{fetch_page, fetch_of, fetch_other, fetch_owner, fetch_shows, shown_of, shown_well_formed, shown_taker, shown_room}
use Rattle.exchange.specs.Fetching.{write_lost, got_lost, got_passed, got_of, got_entry, got_space_owner, got_space_holder}
use Rattle.exchange.proofs.fetch.write_fetch.Goals.{After-map_err}
use Rattle.exchange.proofs.fetch.write_fetch.Goals as goal

-- the writer's part, its stores counted behind the owner's
went : (c : After-map_err) (n : ℕ)
    → Came c.get_own.new.bank (n + stores_after c.in_ok-shown.shown c.map_err.result) (loss_of c.map_err.result)
    (get_own c.args.owner c.args.board c.args.page (running (n + c.in_ok-shown.shown) (decode c.show.new.bank)))
went c n =
    let told = after_told c.in_ok-shown.shown c.get_own.result c.map_err.result c.map_err.ensures.cases (λ e d q. search rules) in
    rw (← told.0, ← told.1, ← add_assoc n c.in_ok-shown.shown _) (c.get_own.ensures.run (n + c.in_ok-shown.shown))

pub show-requires : goal.show-requires
show-requires c =
    let pre = c.requires in
    (fetch_of pre, pre.1, pre.0.board, fetch_page pre, fetch_shows pre)

pub returns-in_err-shown-clause-run : goal.returns-in_err-shown-clause-run
returns-in_err-shown-clause-run c =
    λ n.
    let p = err_from_is_err_and c.from_residual.result c.from_residual.ensures.1 in
    rw (p.1, p.2) (write_lost c.requires n (c.in_err-shown.ensures.run n) _ refl)

pub get_own-requires : goal.get_own-requires
get_own-requires c =
    let pre = c.requires in
    let shown = c.in_ok-shown.ensures.run 0 in (
      shown_of pre 0 shown refl _ pre.0.board,
      shown_well_formed pre 0 shown refl,
      (shown_of pre 0 shown refl _ (fetch_owner pre)).board,
      shown_taker pre 0 shown refl,
      shown_room pre 0 shown refl,
      fetch_page pre,
    )

pub returns-in_err-got-clause-run : goal.returns-in_err-got-clause-run
returns-in_err-got-clause-run c =
    λ n.
    let p = err_from_is_err_and c.from_residual-in_err-got.result c.from_residual-in_err-got.ensures.1 in
    let took = rw c.in_err-got.was at (went (goal.at.returns-in_err-got-clause-run c).After-map_err n) in
    rw (p.1, p.2) (got_lost c.requires n (c.in_ok-shown.ensures.run n) refl took _ refl)

pub pass_ownership-requires : goal.pass_ownership-requires
pass_ownership-requires c =
    let pre = c.requires in
    let shown = c.in_ok-shown.ensures.run 0 in
    let got = rw c.in_ok-got.was at (went (goal.at.pass_ownership-requires c).After-map_err 0) in (
      got_of pre 0 shown refl got refl _ pre.0.board,
      (got_of pre 0 shown refl got refl _ (fetch_owner pre)).board,
      fetch_other pre,
      fetch_page pre,
      got_entry pre 0 shown refl got refl,
      got_space_owner pre 0 shown refl got refl,
      got_space_holder pre 0 shown refl got refl,
    )

pub returns-clause-run : goal.returns-clause-run
returns-clause-run c =
    λ n.
    let got = rw c.in_ok-got.was at (went (goal.at.returns-clause-run c).After-map_err n) in
    got_passed c.requires n (c.in_ok-shown.ensures.run n) refl got refl _ c.pass_ownership.ensures
