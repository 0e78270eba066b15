-- `accesses::replaying::owned_pages` meets its contract: the loop goes from the highest page down, and a page's bit comes in at the bottom. Assumes nothing.
use Rattle.accesses.specs.Ends.{set_from}
use Rattle.model.specs.Definitions.Codec.{decode}
use Rattle.model.specs.Definitions.Bank.{entry_at}
use lib.Dec.{eqb}
use Prim.Native.Nat.{◌-◌}
use mathlib.Core.Path.{◌≡◌}
use Rattle.accesses.proofs.replaying.owned_pages.Given as goal

abbrev pub invariant-loop-page : goal.invariant-loop-page
invariant-loop-page l = l.owned ≡ set_from (λ p. eqb (entry_at (decode l.bank) p).owner l.board) l.page (l.pages - l.page)
