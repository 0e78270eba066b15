-- `steps::checkpoint::rest` meets its contract. Assumes nothing.
use Rattle.steps.specs.Checkpoint.{rest_bytes}
use Rattle.steps.proofs.checkpoint.rest.Goals as goal

pub returns : goal.returns
returns c =
    let block = c.requires in
    rw (
      c.clear_volatiles.ensures,
      c.write_volatile_count.ensures,
      c.write_since.ensures,
    )
    (rest_bytes _ _ _ block.fields block.back)
