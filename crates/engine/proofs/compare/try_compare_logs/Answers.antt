-- `engine::compare::try_compare_logs` meets its contract: each return is one way through the call. Assumes nothing.
use mathlib.Core.Path.{refl}
use native.Mathlib.Omega.{arith}
use Rattle.model.specs.Definitions.Calls.{Comparing}
use Rattle.model.specs.Laws.Codes.Statement.{board_named}
use Rattle.checks.specs.Findings.{OnBoard, board_says}
use Rattle.std.proofs.lemmas.Result.{err_from_is_err_and}
use Rattle.engine.specs.Replies.{refused_replied, found_replied}
use Rattle.engine.specs.Comparing.{other_out, same_board, compare_done}
use Rattle.engine.proofs.compare.try_compare_logs.Goals.{In_ok-enter}
use Rattle.engine.proofs.compare.try_compare_logs.Goals as goal

-- the first board, in whatever state
found : (c : In_ok-enter) → OnBoard c.args.board c.args.bank.now c.in_ok-enter.field-0
found c = board_says _ _ c.enter.ensures c.in_ok-enter.was

pub returns-in_err-enter : goal.returns-in_err-enter
unfolding board_named
returns-in_err-enter c =
    let p = err_from_is_err_and c.from_residual.result c.from_residual.ensures.1 in
    rw (p.1, p.2) (found_replied (Comparing _ _) _ refl c.enter.ensures c.in_err-enter.was refl).0

pub board_count-requires : goal.board_count-requires
board_count-requires c = (found c).whole

pub returns-then-board_count-c : goal.returns-then-board_count-c
returns-then-board_count-c c =
    (refused_replied
    (other_out (found (goal.at.returns-then-board_count-c c).In_ok-enter) _ (omega (arith, c.board_count.ensures, c.if-board_count-c.true))) refl).0

pub returns-then-b-c : goal.returns-then-b-c
returns-then-b-c c =
    (refused_replied
    (same_board (found (goal.at.returns-then-b-c c).In_ok-enter) _ (omega (arith, c.board_count.ensures, c.if-board_count-c.false)) c.if-b-c.true) refl).0

pub compare_boards-answer-requires : goal.compare_boards-answer-requires
compare_boards-answer-requires c =
    let on = found (goal.at.compare_boards-answer-requires c).In_ok-enter in
    (on.whole, on.inside, omega (arith, c.board_count.ensures, c.if-board_count-c.false))

pub returns : goal.returns
returns c =
    (refused_replied
    (compare_done (found (goal.at.returns c).In_ok-enter) _ (omega (arith, c.board_count.ensures, c.if-board_count-c.false)) c.if-b-c.false)
    (rw c.compare_boards-answer.ensures)).0
