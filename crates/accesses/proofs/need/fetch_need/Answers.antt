-- `accesses::need::fetch_need` meets its contract: each way is a case of the definition. Assumes nothing.
use Rattle.accesses.specs.Needs.{need_taker, need_giver_writing, need_giver_reading, need_holder, need_other}
use mathlib.Core.Path.{◌∙◌}
use Rattle.accesses.proofs.need.fetch_need.Goals as goal

pub returns-then-board-taker-clause-need : goal.returns-then-board-taker-clause-need
returns-then-board-taker-clause-need c = λ k p e. need_taker k c.args.taker c.args.giver p c.args.board c.args.writes c.if-board-taker.true

pub returns-then-writes-clause-need : goal.returns-then-writes-clause-need
returns-then-writes-clause-need c =
    λ k p e. rw c.if-writes.true (need_giver_writing k c.args.taker c.args.giver p c.args.board c.if-board-taker.false c.if-board-giver.true)

pub returns-else-writes-clause-need : goal.returns-else-writes-clause-need
returns-else-writes-clause-need c =
    λ k p e. rw c.if-writes.false (need_giver_reading k c.args.taker c.args.giver p c.args.board c.if-board-taker.false c.if-board-giver.true)

pub returns-then-writes-2-clause-need : goal.returns-then-writes-2-clause-need
returns-then-writes-2-clause-need c =
    λ k p e.
    c.holder_need.ensures.need
    ∙ rw c.if-writes-2.true
    (need_holder k c.args.taker c.args.giver p c.args.board c.args.copies e c.if-board-taker.false c.if-board-giver.false)

pub returns-else-writes-2-clause-need : goal.returns-else-writes-2-clause-need
returns-else-writes-2-clause-need c =
    λ k p e. rw c.if-writes-2.false (need_other k c.args.taker c.args.giver p c.args.board c.if-board-taker.false c.if-board-giver.false)
