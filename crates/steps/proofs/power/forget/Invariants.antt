-- `steps::power::forget` meets its contract. The loop's invariant: the first pages have no bit of the board. Assumes nothing.
use mathlib.Core.Path.{◌≡◌}
use Prim.Native.Nat.{◌≤◌}
use lib.ListN.{length}
use Rattle.model.specs.Definitions.Codec.{encode, decode}
use Rattle.model.proofs.Laws.BankLoops.{forget_first}
use Rattle.steps.proofs.power.forget.Given as goal

abbrev pub invariant-loop-page : goal.invariant-loop-page
invariant-loop-page l =
    (l.page ≤ l.pages) × (length l.bank ≡ length l.initial.bank) × (l.bank ≡ encode (forget_first l.page l.board (decode l.initial.bank)))
