-- `engine::fuse::try_fuse` meets its contract: each return is one way through the call. Assumes nothing.
use mathlib.Core.Path.{◌≡◌, refl, sym, ◌∙◌}
use mathlib.Core.Bool.{true}
use native.Mathlib.Omega.{arith}
use lib.Dec.{ltb}
use borrow.Author.Tests.{lt-ltb, le-ltb}
use Rattle.model.specs.Definitions.Layout.{no_fuse}
use Rattle.model.specs.Definitions.Calls.{Fusing}
use Rattle.model.specs.Laws.Codes.Statement.{board_named}
use Rattle.checks.specs.Findings.{OnBoard, on_small, board_says}
use Rattle.std.proofs.lemmas.Result.{err_from_is_err_and}
use Rattle.engine.specs.Replies.{refused_replied, found_replied, done_replied, fuse_stores, fuse_down, fuse_done}
use Rattle.engine.proofs.fuse.try_fuse.Goals.{Else-stores-ge-NO_FUSE, In_ok-state}
use Rattle.engine.proofs.fuse.try_fuse.Goals as goal

-- the board that was found, with its state
found : (c : In_ok-state) → OnBoard c.args.board c.args.bank.now c.in_ok-state.state
found c = board_says _ _ c.enter.ensures c.in_ok-state.was

-- the number of stores is one that a fuse may have
allowed : (c : Else-stores-ge-NO_FUSE) → ltb c.args.stores no_fuse ≡ true
allowed c = lt-ltb c.args.stores no_fuse (omega (arith, c.if-stores-ge-NO_FUSE.false))

pub returns-in_err-state : goal.returns-in_err-state
unfolding board_named
returns-in_err-state c =
    let p = err_from_is_err_and c.from_residual.result c.from_residual.ensures.1 in
    rw (p.1, p.2) (found_replied (Fusing _ _) _ refl c.enter.ensures c.in_err-state.was refl).0

pub returns-then-stores-ge-NO_FUSE : goal.returns-then-stores-ge-NO_FUSE
returns-then-stores-ge-NO_FUSE c =
    let n = c.args.stores in
    (refused_replied
    (fuse_stores (found (goal.at.returns-then-stores-ge-NO_FUSE c).In_ok-state) n (le-ltb n no_fuse (omega (arith, c.if-stores-ge-NO_FUSE.true)))) refl).0

pub overflow_cast-result : goal.overflow_cast-result
overflow_cast-result c = omega (arith, on_small (found (goal.at.overflow_cast-result c).In_ok-state))

pub returns-then-is_down : goal.returns-then-is_down
returns-then-is_down c =
    (refused_replied
    (fuse_down (found (goal.at.returns-then-is_down c).In_ok-state) _ (allowed (goal.at.returns-then-is_down c).Else-stores-ge-NO_FUSE)
    (sym c.is_down.ensures ∙ c.if-is_down.true)) refl).0

pub page_count-pages-requires : goal.page_count-pages-requires
page_count-pages-requires c = (found (goal.at.page_count-pages-requires c).In_ok-state).whole

pub overflow_cast-stores : goal.overflow_cast-stores
overflow_cast-stores c = omega (arith, c.if-stores-ge-NO_FUSE.false)

pub fuse_board-requires : goal.fuse_board-requires
fuse_board-requires c =
    let on = found (goal.at.fuse_board-requires c).In_ok-state in
    (on.whole, c.page_count-pages.ensures, omega (arith, on.inside))

pub returns : goal.returns
returns c =
    (done_replied _
    (fuse_done (found (goal.at.returns c).In_ok-state) _ (allowed (goal.at.returns c).Else-stores-ge-NO_FUSE) (sym c.is_down.ensures ∙ c.if-is_down.false))
    c.fuse_board.ensures).0
