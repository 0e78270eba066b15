-- `accesses::need::short_board` meets its contract: the loop's invariant says that no lower board is short. Assumes nothing.
use mathlib.Core.Path.{◌≡◌, sym, ◌∙◌}
use native.Mathlib.Omega.{arith}
use Rattle.model.specs.Definitions.Codec.{decode}
use Rattle.model.specs.Definitions.Steps.{Access}
use Rattle.model.specs.Definitions.Calls.{short}
use Rattle.accesses.specs.Asks.{Lacking}
use Rattle.accesses.specs.Needs.{found_at, found_none, search_on, search_begins, search_of}
use Rattle.accesses.proofs.need.short_board.Goals.{After-short_of}
use Rattle.accesses.proofs.need.short_board.Goals as goal

-- what the test of a board says
told : (c : After-short_of) (a : Access)
    → Lacking c.args.pages a c.args.ask
    c.args.lacking (decode c.args.bank.now)
    → c.short_of.result ≡ short c.args.ask.board a
    (decode c.args.bank.now) c.loop-board.board
unfolding short
told c a l = c.short_of.ensures ∙ rw (c.need.ensures.need a l)

pub loop-board-init : goal.loop-board-init
loop-board-init c = λ a l. search_begins _ _

pub returns-then-short_of-clause-found : goal.returns-then-short_of-clause-found
returns-then-short_of-clause-found c =
    let loop = c.loop-board in
    λ a l.
    found_at c.args.boards loop.board _ (loop.invariant a l) (omega arith) (sym (told (goal.at.returns-then-short_of-clause-found c).After-short_of a l) ∙ c.if-short_of.true)
    ∙ search_of c.args.boards _ _ _ c.requires.0.count

pub loop-board-preserved : goal.loop-board-preserved
loop-board-preserved c =
    let loop = c.loop-board in
    λ a l. search_on c.args.boards loop.board _ (loop.invariant a l) (omega arith) (sym (told (goal.at.loop-board-preserved c).After-short_of a l) ∙ c.if-short_of.false)

pub returns-clause-found : goal.returns-clause-found
returns-clause-found c =
    let loop = c.loop-board in
    λ a l. found_none c.args.boards loop.board _ (loop.invariant a l) (omega arith) ∙ search_of c.args.boards _ _ _ c.requires.0.count
