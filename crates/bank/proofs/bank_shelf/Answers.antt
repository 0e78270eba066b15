-- `bank::bank_shelf` meets its contract: the call, its outcome as a number, the second buffer as the call left it. Assumes nothing.
use Rattle.bank.specs.Clauses.{replied_packed}
use Rattle.bank.proofs.bank_shelf.Goals as goal

pub returns-clause-reply : goal.returns-clause-reply
returns-clause-reply c = replied_packed c.read_cells.ensures.reply (c.pack.ensures.number, c.pack.ensures.back)
