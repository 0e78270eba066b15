-- `engine::checkpoint::try_checkpoint` meets its contract: each return is one way through the call. Assumes nothing.
use mathlib.Core.Path.{◌≡◌, refl, ◌∙◌}
use mathlib.Core.Bool.{true}
use native.Mathlib.Omega.{arith}
use Rattle.model.specs.Definitions.WellFormed.{is_up}
use Rattle.model.specs.Definitions.Steps.{start}
use Rattle.model.specs.Definitions.Calls.{Checkpointing}
use Rattle.model.specs.Laws.Codes.Statement.{board_named}
use Rattle.model.proofs.Laws.Keeps.Clauses.{up_not_replaying, is_up_up}
use Rattle.validity.specs.Search.{failed, passed}
use Rattle.checks.specs.Findings.{OnBoard, on_bank, on_formed, on_small, board_says}
use Rattle.std.proofs.lemmas.Result.{err_from_is_err_and}
use Rattle.engine.specs.Replies.{refused_replied, found_replied, ended_replied, checkpoint_refused, checkpoint_done}
use Rattle.engine.proofs.checkpoint.try_checkpoint.Goals.{Else-not-is_up, In_ok-state}
use Rattle.engine.proofs.checkpoint.try_checkpoint.Goals as goal

-- the board that was found, with its state
found : (c : In_ok-state) → OnBoard c.args.board c.args.bank.now c.in_ok-state.state
found c = board_says _ _ c.enter.ensures c.in_ok-state.was

-- and it is up
up : (c : Else-not-is_up) → is_up c.in_ok-state.state ≡ true
up c = passed c.is_up.ensures c.if-not-is_up.false-raw

pub returns-in_err-state : goal.returns-in_err-state
unfolding board_named
returns-in_err-state c =
    let p = err_from_is_err_and c.from_residual.result c.from_residual.ensures.1 in
    rw (p.1, p.2) (found_replied (Checkpointing _) _ refl c.enter.ensures c.in_err-state.was refl).0

pub overflow_cast-result : goal.overflow_cast-result
overflow_cast-result c = omega (arith, on_small (found (goal.at.overflow_cast-result c).In_ok-state))

pub returns-then-not-is_up : goal.returns-then-not-is_up
returns-then-not-is_up c =
    (refused_replied (checkpoint_refused (found (goal.at.returns-then-not-is_up c).In_ok-state) (failed c.is_up.ensures c.if-not-is_up.true-raw)) refl).0

pub page_count-pages-requires : goal.page_count-pages-requires
page_count-pages-requires c = (found (goal.at.page_count-pages-requires c).In_ok-state).whole

pub checkpoint-stored-requires : goal.checkpoint-stored-requires
checkpoint-stored-requires c =
    let on = found (goal.at.checkpoint-stored-requires c).In_ok-state in
    (on_bank on _ c.page_count-pages.ensures, on_formed on, λ e. up_not_replaying (on.state ∙ is_up_up _ (up (goal.at.checkpoint-stored-requires c).Else-not-is_up)) e)

pub ended-requires : goal.ended-requires
ended-requires c = on_small (found (goal.at.ended-requires c).In_ok-state)

pub returns : goal.returns
unfolding start
returns c =
    let ran = c.checkpoint-stored in
    let on = found (goal.at.returns c).In_ok-state in
    (ended_replied _ on.formed (Checkpointing _) 0 _ _ _ (checkpoint_done on (up (goal.at.returns c).Else-not-is_up)) (ran.ensures.run 0) c.ended.ensures).0
