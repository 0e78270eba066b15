-- `validity::bank::log_count` meets its contract: an area's log, or the volatile one. Assumes nothing.
use Rattle.validity.specs.Pieces.{log_count}
use Rattle.validity.proofs.bank.log_count.Goals as goal

pub returns-in-First : goal.returns-in-First
unfolding log_count
returns-in-First c = cc

pub returns-in-Second : goal.returns-in-Second
unfolding log_count
returns-in-Second c = cc

pub returns-in-Volatile : goal.returns-in-Volatile
unfolding log_count
returns-in-Volatile c = cc
