-- `steps::records::end_flush` meets its contract. Assumes nothing.
use Rattle.steps.specs.Logs.{end_bytes}
use Rattle.steps.proofs.records.end_flush.Goals as goal

pub returns : goal.returns
returns c =
    let start = c in
    rw (c.clear_at.ensures, c.slots_at.ensures, c.write_volatile_count.ensures)
    (end_bytes start.requires.0 start.args.n start.requires.1)
