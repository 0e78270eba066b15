-- `validity::bank::log_slots_at` meets its contract: an area's log, or the volatile one. Assumes nothing.
use Rattle.validity.specs.Pieces.{log_slots_at}
use Rattle.validity.proofs.bank.log_slots_at.Goals as goal

pub returns-in-First : goal.returns-in-First
unfolding log_slots_at
returns-in-First c = cc

pub returns-in-Second : goal.returns-in-Second
unfolding log_slots_at
returns-in-Second c = cc

pub returns-in-Volatile : goal.returns-in-Volatile
unfolding log_slots_at
returns-in-Volatile c = cc
