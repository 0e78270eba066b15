-- `accesses::live::missing_page` meets its contract: the loop's invariant says that no lower page is found. Assumes nothing.
use mathlib.Core.Path.{◌≡◌}
use Prim.Native.Nat.{ℕ, ◌-◌}
use mathlib.Core.Bool.{Bool, ◌&&◌}
use mathlib.Core.List.{List}
use Rattle.model.specs.Definitions.Parts.{first_from, first_below, member}
use Rattle.model.specs.Definitions.Codec.{decode}
use Rattle.model.specs.Definitions.Calls.{nobody_gives}
use Rattle.steps.specs.Asked.{got}
use Rattle.accesses.proofs.live.missing_page.Given as goal

-- what the search tests
abbrev pub missing : List ℕ → ℕ → Bool → ℕ → Bool
missing bank lacking writes p = member p lacking && nobody_gives (got writes) (decode bank) p

abbrev pub invariant-loop-page : goal.invariant-loop-page
invariant-loop-page l =
    first_below l.pages (missing l.bank l.lacking l.writes) ≡ first_from l.page (l.pages - l.page) (missing l.bank l.lacking l.writes)
