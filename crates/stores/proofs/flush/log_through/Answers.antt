-- `stores::flush::log_through` meets its contract. Assumes nothing.
use Rattle.stores.specs.Flush.{noted_block, noted_room, logged_ran}
use Rattle.stores.proofs.flush.log_through.Goals as goal

pub flush-requires : goal.flush-requires
flush-requires c =
    let noted = c.record.ensures in (
      noted_block c.requires.0 c.args.kind c.args.peer c.args.bytes c.requires.1 c.requires.2 noted,
      noted_room c.requires.0 c.args.kind c.args.peer c.args.bytes c.requires.1 c.requires.2 noted,
    )

pub returns : goal.returns
returns c =
    let flush = c.flush in
    record {
      run = logged_ran c.requires.0 c.args.kind c.args.peer c.args.bytes c.requires.1 c.requires.2
          c.record.ensures flush.ensures.run;
      few = flush.ensures.few;
    }
