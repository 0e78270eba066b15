-- `validity::parts::all_holders` meets its contract. The loop's invariant: the set is that of the pages before `page`. Assumes nothing.
use Rattle.validity.specs.Pieces.{Holders}
use Rattle.validity.proofs.parts.all_holders.Given as goal

abbrev pub invariant-loop-page : goal.invariant-loop-page
invariant-loop-page l = Holders l.page l.directory l.holders
