-- `conversion::clean::clean_area` meets its contract: an area's count and slots stand in it, inside the block. Assumes nothing.
use mathlib.Core.Path.{◌∙◌}
use Prim.Native.Nat.{◌+◌, ◌≤◌}
use lib.ListN.{length}
use Rattle.model.specs.Definitions.Layout.{today, slots_size}
use Rattle.model.specs.Definitions.Parts.{byte_at}
use Rattle.model.specs.Definitions.Check.{area_count, area_log_at}
use Rattle.conversion.specs.Cleaning.{log_in}
use Rattle.conversion.proofs.clean.clean_area.Goals as goal
use Rattle.conversion.proofs.clean.clean_area.Goals.{After-area_at-a}

-- the slots lie in the block
inside : (c : goal.After-area_at-a)
    → area_log_at today c.args.pages c.args.area + slots_size ≤ length c.args.block.now
inside c =
    log_in c.args.pages c.args.area c.args.block.now c.requires.1 c.requires.2

pub clean_log-requires : goal.clean_log-requires
unfolding area_count byte_at
clean_log-requires c = (
  rw (c.area_at-a.ensures, c.area_slots_at.ensures) (inside (goal.at.clean_log-requires c).After-area_at-a),
  rw (c.from-count.ensures, c.area_at-a.ensures) c.requires.3,
)

pub returns : goal.returns
unfolding area_count byte_at
returns c =
    c.clean_log.ensures
    ∙ rw (
      c.area_slots_at.ensures,
      c.from-count.ensures,
      c.area_at-a.ensures,
    )
