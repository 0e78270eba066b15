-- Document 01's claim about recovery points, for one board: the changes that the micro-steps of the calls make to it, and the recovery point that the
-- paper demands after them. Recovery proves that every call is such changes, and that the demand is met. Definitions only. Assumes nothing.
use Rattle.std.specs.Prelude.{◌≡◌, ℕ, Bool, true, false, List, [], ◌∷◌, ◌++◌}
use Rattle.types.specs.declared.Kind.{Kind}
use Rattle.types.specs.declared.State.TheVariants.{Up, Down, Replaying}
use Rattle.model.specs.Definitions.Bank.{Board, Bank, on_working}
use Rattle.model.specs.Definitions.Steps.{powered_off, recorded, stored_record, stored_selector, rested_working, Access, accessed}
use Rattle.model.specs.Definitions.Calls.{Call, call_bank}
use Rattle.model.specs.Definitions.Replay.{loaded, used_up, took_due, replay_over, settled, replayed}

-- what changes neither a counter nor a record, and selects no area: fuse, frames, spare area
pub record SameCounters (x y : Board) : Type 0 where
  pub state : y.state ≡ x.state
  pub number : y.working.number ≡ x.working.number
  pub since : y.working.since ≡ x.working.since
  pub place : y.working.place ≡ x.working.place
  pub volatile : y.working.log ≡ x.working.log
  pub second : y.stable.second ≡ x.stable.second
  pub selected : y.stable.selected ≡ x.stable.selected

-- What one micro-step does to a board, with what holds of the board before it. A record is made, stored or lost, and an area selected, by the first four
-- alone.
pub data Change (x y : Board) : Type 0 where
  Made : (kind : Kind) (peer : ℕ) (bytes : List ℕ) → x.state ≡ Up → y ≡ on_working (recorded kind peer bytes) x → Change x y
  Stored : x.state ≡ Up → y ≡ stored_record x → Change x y
  -- the spare area's head is stored; a power loss right after the selector leaves the same board with the volatile log emptied or not
  Selected : x.state ≡ Up → x.stable.spare.number ≡ x.working.number → x.stable.spare.log ≡ []
      → y ≡ on_working rested_working (stored_selector x) → Change x y
  Lost : y ≡ powered_off x → Change x y
  Accessed : (a : Access) → x.state ≡ Up → y ≡ on_working (accessed a) x → Change x y
  Loaded : x.state ≡ Down → y ≡ used_up (loaded x) → Change x y
  Took : x.state ≡ Replaying → y ≡ took_due x → Change x y
  Replayed : (a : Access) → x.state ≡ Replaying → replay_over x ≡ false → y ≡ replayed a x → Change x y
  Settled : (owned : ℕ → Bool) → x.state ≡ Replaying → replay_over x ≡ true → y ≡ settled owned x → Change x y
  Quiet : SameCounters x y → Change x y

-- one change after the other
pub data Changes (x : Board) : Board → Type 0 where
  unchanged : Changes x x
  next : {y z : Board} → Changes x y → Change y z → Changes x z

-- "the access number the board had when it made its last stored record or, if later, at its last selector store; 0 before either" is `point`.
-- `made` holds the access number at which each volatile record was made, in order.
pub record Demand : Type 0 where
  pub made : List ℕ
  pub point : ℕ

unfoldable pub no_demand : Demand
no_demand = record { made = []; point = 0 }

-- the first volatile record is stored
unfoldable pub first_stored : Demand → Demand
first_stored d = elim d.made [ [] ↦ d | n ∷ ns ↦ record { made = ns; point = n } ]

unfoldable pub demand_after : {x y : Board} → Change x y → Demand → Demand
demand_after {x} (Made kind peer bytes u e) d = record { made = d.made ++ (x.working.number ∷ []); point = d.point }
demand_after (Stored u e) d = first_stored d
demand_after {x} (Selected u n r e) d = record { made = []; point = x.working.number }
demand_after (Lost e) d = record { made = []; point = d.point }
demand_after (Accessed a u e) d = d
demand_after (Loaded u e) d = d
demand_after (Took u e) d = d
demand_after (Replayed a u o e) d = d
demand_after (Settled owned u o e) d = d
demand_after (Quiet s) d = d

-- from a board on that has made no record and stored no selector
unfoldable pub demanded : {x y : Board} → Changes x y → Demand
demanded unchanged = no_demand
demanded (next t c) = demand_after c (demanded t)

-- the bank that a list of calls leaves
unfoldable pub reached : List Call → Bank → Bank
reached [] k = k
reached (c ∷ cs) k = reached cs (call_bank c k).run.bank
