-- `stores::flush::flush` meets its contract. The invariant: what is left to store gives what the whole gives. Assumes nothing.
use Rattle.stores.specs.Flush.{Flushing}
use Rattle.stores.proofs.flush.flush.Given as goal

abbrev pub invariant-loop-stored : goal.invariant-loop-stored
invariant-loop-stored l = Flushing l.pages l.initial.block l.n l.stored l.block
