-- `conversion::clean::clean_block` meets its contract: both areas, then the volatile log, each by its own count. Assumes nothing.
use mathlib.Core.Path.{◌≡◌, ap, ◌∙◌}
use native.Mathlib.Omega.{arith}
use lib.ListN.{length}
use lib.Dec.{lit<}
use Rattle.model.specs.Definitions.Layout.{block_size}
use Rattle.conversion.specs.Cleaning.{cleaned_areas, once_length, once_few, twice_length, twice_few, block_cleaned}
use Rattle.conversion.proofs.clean.clean_block.Goals as goal
use Rattle.conversion.proofs.clean.clean_block.Goals.{After-clean_area-2}

-- what both areas leave
twice : (c : goal.After-clean_area-2)
    → c.clean_area-2.new.block
    ≡ cleaned_areas c.args.pages
    c.args.block.now
twice c = c.clean_area-2.ensures ∙ rw c.clean_area.ensures

pub clean_area-requires-2 : goal.clean_area-requires-2
clean_area-requires-2 c =
    let o = c.requires in
    let e = c.clean_area.ensures in
    (o.few, lit< tt, ap length e ∙ once_length o, rw e (once_few o))

pub clean_log-requires : goal.clean_log-requires
clean_log-requires c =
    let e = twice (goal.at.clean_log-requires c).After-clean_area-2 in
    let n : length c.clean_area-2.new.block ≡ block_size c.args.pages = ap length e ∙ twice_length c.requires in (
      omega (arith, c.slots_at.ensures),
      rw (c.from-count.ensures, c.read_volatile_count.ensures, e) (twice_few c.requires),
    )

pub returns : goal.returns
returns c =
    c.clean_log.ensures
    ∙ rw (
      c.slots_at.ensures,
      c.from-count.ensures,
      c.read_volatile_count.ensures,
      twice (goal.at.returns c).After-clean_area-2,
    )
    (block_cleaned c.requires)
