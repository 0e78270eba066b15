-- `steps::power::wipe` meets its contract. Assumes nothing.
use Rattle.steps.specs.Power.{wiped_bytes}
use Rattle.steps.proofs.power.wipe.Goals as goal

pub returns : goal.returns
returns c =
    let block = c.requires in
    rw (
      c.clear_at.ensures,
      c.area_at.ensures,
      c.write_fuse.ensures,
      c.write_state.ensures,
    )
    (wiped_bytes _ _ _ block.fields block.back)
