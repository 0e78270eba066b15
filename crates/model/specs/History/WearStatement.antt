-- Document 02, F-9: how many stable stores a bank makes at most, and when it makes that many, by the answers that a caller sees, beside the request's
-- sentences. No law stands here. Assumes nothing.
use Rattle.std.specs.Prelude.{◌≡◌, ℕ, max, ◌+◌, ◌*◌, ◌≤◌, ◌<◌, Bool, true, false, ◌||◌, List, length, eqb}
use Rattle.words.specs.Bytes.{Each}
use Rattle.types.specs.declared.Answer.{Answer}
use Rattle.model.specs.Definitions.Parts.{sum_over, all_below}
use Rattle.model.specs.Definitions.Layout.{slot_count}
use Rattle.model.specs.Definitions.Steps.{names}
use Rattle.model.specs.Definitions.Answers.{code}
use Rattle.model.specs.Definitions.Calls.{Call, Accessing, Checkpointing, Fusing, Restarting, Comparing}
use Rattle.model.specs.History.Statement.{Observed, begin}
use Rattle.model.specs.History.CleanStatement.{Asked, seen_among}

-- ---- "n events"

-- Accesses, checkpoints and restarts. "A call on several pages counts as one event for each page": for each different page that it names, of a bank with
-- so many pages. A fuse, a power loss and a comparison of two logs make no store and count nothing. (The history's events, Statement, are others.)
unfoldable pub events_asked : (pages : ℕ) → Call → ℕ
events_asked pages (Accessing b a) = length (all_below pages (names a))
events_asked pages (Checkpointing b) = 1
events_asked pages (Fusing b n) = 0
events_asked pages (Restarting b) = 1
events_asked pages (Comparing b c) = 0

-- Only a call answered 0 or 8 is an event: the fewer there are, the more the bound says.
unfoldable pub is_event : Answer → Bool
is_event x = eqb (code x) 0 || eqb (code x) 8

unfoldable pub if_event : Answer → ℕ → ℕ
if_event x n = elim (is_event x) [ true ↦ n | false ↦ 0 ]

unfoldable pub events_answered : (pages : ℕ) → Call → Answer → ℕ
events_answered pages c x = if_event x (events_asked pages c)

unfoldable pub events_in : (pages : ℕ) → List Observed → ℕ
events_in pages xs = sum_over (λ x. events_answered pages x.asked x.outcome.answer) xs

-- ---- "the stable stores", "over the count in the answers"

unfoldable pub stores_in : List Observed → ℕ
stores_in xs = sum_over (λ x. x.outcome.stores) xs

-- "the larger of P + 2 and N + 1"
unfoldable pub dearest : (boards pages : ℕ) → ℕ
dearest boards pages = max (pages + 2) (boards + 1)

-- "Over any n events from a fresh bank, the stable stores are at most n times the larger of P + 2 and N + 1.": by what was seen of any calls since. The
-- list may end after any call, so it holds at all times.
abbrev pub StoresBounded : (boards pages : ℕ) → List Observed → Type 0
StoresBounded boards pages xs = stores_in xs ≤ events_in pages xs * dearest boards pages

-- the same with F-8's call anywhere among them: a cleaning makes no store, and is no event
abbrev pub BoundedAmong : (boards pages : ℕ) → Type 0
BoundedAmong boards pages = (rs : List Asked) → StoresBounded boards pages (seen_among rs (begin boards pages).bytes)

-- ---- "Where P + 2 is at least N + 1, n checkpoints of one board reach that bound."

-- n checkpoints, for any n: each is an event and makes P + 2 stores
pub record BoundReached (boards pages : ℕ) (xs : List Observed) : Type 0 where
  pub stores : stores_in xs ≡ length xs * (pages + 2)
  pub events : events_in pages xs ≡ length xs
  pub reached : boards + 1 ≤ pages + 2 → stores_in xs ≡ events_in pages xs * dearest boards pages

-- of any board
abbrev pub CheckpointsReach : (boards pages : ℕ) → List Observed → Type 0
CheckpointsReach boards pages xs = (b : ℕ) → b < boards → Each (λ x. x.asked ≡ Checkpointing b) xs → BoundReached boards pages xs

-- ---- which calls cost what

-- For each page that an access names: a shown of who gives it, a got of who takes it, and a dropped, of the old owner or, later, of who took a copy.
abbrev pub page_cost : ℕ
page_cost = 3

-- A restart is charged the checkpoint that ends its replay, whenever that comes.
unfoldable pub cost_asked : (pages : ℕ) → Call → ℕ
cost_asked pages (Accessing b a) = length (all_below pages (names a)) * page_cost
cost_asked pages (Checkpointing b) = pages + 2
cost_asked pages (Fusing b n) = 0
cost_asked pages (Restarting b) = pages + 2
cost_asked pages (Comparing b c) = 0

unfoldable pub cost_answered : (pages : ℕ) → Call → Answer → ℕ
cost_answered pages c x = if_event x (cost_asked pages c)

unfoldable pub costs_in : (pages : ℕ) → List Observed → ℕ
costs_in pages xs = sum_over (λ x. cost_answered pages x.asked x.outcome.answer) xs

-- From a fresh bank the stores are no more than the calls cost together; so P + 2 for each event is enough, whatever N, and N + 1 is never needed.
pub record StoresPaid (pages : ℕ) (xs : List Observed) : Type 0 where
  pub costs : stores_in xs ≤ costs_in pages xs
  pub events : stores_in xs ≤ events_in pages xs * (pages + 2)

-- "The dearest hour": of calls on any well-formed bank, a stretch of time that doesn't begin with a fresh one. What waited at its beginning is added: of each
-- board at most a full volatile log, or the end of its replay, which is shorter, and a dropped for each page of which it may hold a copy.
abbrev pub HourBounded : (boards pages : ℕ) → List Observed → Type 0
HourBounded boards pages xs = stores_in xs ≤ boards * (slot_count + pages) + events_in pages xs * (pages + 2)
