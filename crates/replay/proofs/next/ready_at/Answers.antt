-- `replay::next::ready_at` meets its contract: no record is left, or the one at the place, if its count equals since. Assumes nothing.
use mathlib.Core.Path.{sym, ◌∙◌}
use native.Mathlib.Omega.{arith}
use Rattle.steps.specs.BlockLaws.{block_length}
use Rattle.steps.specs.Selected.{stored_count_lem, stored_most}
use Rattle.replay.specs.Next.{ready_past, read_at}
use Rattle.replay.proofs.next.ready_at.Goals as goal

pub returns-then-from-place : goal.returns-then-from-place
returns-then-from-place c =
    sym (ready_past _ c.args.place c.args.since (omega (arith, stored_count_lem c.requires)))

pub read_stored-next-requires : goal.read_stored-next-requires
read_stored-next-requires c =
    (c.requires.few, omega (arith, c.read_stored_count.ensures, stored_count_lem c.requires, stored_most c.requires), block_length c.requires)

pub returns : goal.returns
returns c =
    c.then_some.ensures
    ∙ sym (read_at c.requires c.args.place c.args.since _ (omega (arith, c.read_stored_count.ensures, stored_count_lem c.requires)) c.read_stored-next.ensures)
