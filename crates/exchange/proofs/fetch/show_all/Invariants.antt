-- `exchange::fetch::show_all` meets its contract. The loop's invariant: what is left of the givers' part makes the whole run. Assumes nothing.
use mathlib.Core.Path.{◌≡◌}
use lib.ListN.{length}
use Rattle.model.specs.Definitions.Codec.{decode}
use Rattle.exchange.specs.ReadFetches.{Showing}
use Rattle.exchange.proofs.fetch.show_all.Given as goal

abbrev pub invariant-loop-page : goal.invariant-loop-page
invariant-loop-page l = (length l.bank ≡ length l.initial.bank) × Showing l.pages l.lacking l.board (decode l.initial.bank) l.bank l.stores l.page
