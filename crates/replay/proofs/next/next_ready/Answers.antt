-- `replay::next::next_ready` meets its contract. Assumes nothing.
use mathlib.Core.Path.{◌∙◌}
use Rattle.model.specs.Definitions.Replay.{records_left}
use Rattle.replay.specs.Clauses.{ready}
use Rattle.replay.specs.Next.{place_read, since_read}
use Rattle.replay.proofs.next.next_ready.Goals as goal

pub returns : goal.returns
unfolding ready records_left
returns c =
    c.ready_at.ensures
    ∙ rw (
      c.from-place.ensures,
      place_read c.args.pages c.args.block.now _ c.read_place.ensures,
      since_read c.args.pages c.args.block.now _ c.read_since.ensures,
    )
