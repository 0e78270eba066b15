-- `bank::bank_fuse` meets its contract: the call, and its outcome as a number. Assumes nothing.
use Rattle.bank.specs.Clauses.{replied_packed}
use Rattle.bank.proofs.bank_fuse.Goals as goal

pub returns : goal.returns
returns c = replied_packed c.fuse.ensures.reply (c.pack.ensures.number, c.pack.ensures.back)
