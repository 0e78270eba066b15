-- `engine::restart::try_restart` meets its contract: each return is one way through the call. Assumes nothing.
use mathlib.Core.Path.{◌≡◌, refl, ◌∙◌}
use mathlib.Core.Bool.{true}
use native.Mathlib.Omega.{arith}
use Rattle.model.specs.Definitions.WellFormed.{is_down}
use Rattle.model.specs.Definitions.Calls.{Restarting}
use Rattle.model.specs.Laws.Codes.Statement.{board_named}
use Rattle.model.proofs.Laws.Keeps.Clauses.{is_down_down}
use Rattle.validity.specs.Search.{failed, passed}
use Rattle.copies.specs.Banks.{holds_decode}
use Rattle.checks.specs.Findings.{OnBoard, on_bank, on_formed, on_small, board_says}
use Rattle.std.proofs.lemmas.Result.{err_from_is_err_and}
use Rattle.engine.specs.Replies.{refused_replied, found_replied}
use Rattle.engine.specs.Restarts.{resumed_in_replay, resumed_of, restart_refused, goes_replied, ends_replied}
use Rattle.engine.proofs.restart.try_restart.Goals.{Else-not-is_down, In_ok-state}
use Rattle.engine.proofs.restart.try_restart.Goals as goal

-- the board that was found, with its state
found : (c : In_ok-state) → OnBoard c.args.board c.args.bank.now c.in_ok-state.state
found c = board_says _ _ c.enter.ensures c.in_ok-state.was

-- and it is down
down : (c : Else-not-is_down) → is_down c.in_ok-state.state ≡ true
down c = passed c.is_down.ensures c.if-not-is_down.false-raw

pub returns-in_err-state : goal.returns-in_err-state
unfolding board_named
returns-in_err-state c =
    let p = err_from_is_err_and c.from_residual.result c.from_residual.ensures.1 in
    rw (p.1, p.2) (found_replied (Restarting _) _ refl c.enter.ensures c.in_err-state.was refl).0

pub overflow_cast-result : goal.overflow_cast-result
overflow_cast-result c = omega (arith, on_small (found (goal.at.overflow_cast-result c).In_ok-state))

pub returns-then-not-is_down : goal.returns-then-not-is_down
returns-then-not-is_down c =
    (refused_replied (restart_refused (found (goal.at.returns-then-not-is_down c).In_ok-state) (failed c.is_down.ensures c.if-not-is_down.true-raw)) refl).0

pub page_count-pages-requires : goal.page_count-pages-requires
page_count-pages-requires c = (found (goal.at.page_count-pages-requires c).In_ok-state).whole

pub restart_board-restarted-requires : goal.restart_board-restarted-requires
restart_board-restarted-requires c = on_bank (found (goal.at.restart_board-restarted-requires c).In_ok-state) _ c.page_count-pages.ensures

pub returns-then-not-restarted : goal.returns-then-not-restarted
returns-then-not-restarted c =
    (goes_replied (found (goal.at.returns-then-not-restarted c).In_ok-state) (down (goal.at.returns-then-not-restarted c).Else-not-is_down) _
    c.restart_board-restarted.ensures.0 c.restart_board-restarted.ensures.2 (failed c.restart_board-restarted.ensures.1 c.if-not-restarted.true)).0

pub end_replay-stored-requires : goal.end_replay-stored-requires
end_replay-stored-requires c =
    let on = found (goal.at.end_replay-stored-requires c).In_ok-state in
    let left = c.restart_board-restarted.ensures.2 in (
      resumed_of _ _ left _ c.page_count-pages.ensures on.inside,
      rw (holds_decode left) (resumed_in_replay _ _ (on_formed on) (on.state ∙ is_down_down _ (down (goal.at.end_replay-stored-requires c).Else-not-is_down))),
    )

pub ended-requires : goal.ended-requires
ended-requires c = on_small (found (goal.at.ended-requires c).In_ok-state)

pub returns : goal.returns
returns c =
    (ends_replied (found (goal.at.returns c).In_ok-state) (down (goal.at.returns c).Else-not-is_down) _
    c.restart_board-restarted.ensures.0 c.restart_board-restarted.ensures.2
    (passed c.restart_board-restarted.ensures.1 c.if-not-restarted.false) _ _
    (c.end_replay-stored.ensures.run 0) c.ended.ensures).0
