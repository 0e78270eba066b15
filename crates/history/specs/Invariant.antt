-- The invariant of a bank and its history between the steps of a call. Its conjuncts are named for what they say; docs/PROOF.md has the argument.
-- Definitions only. Assumes nothing.
use Rattle.std.specs.Prelude.{◌≡◌, ◌⊎◌, ℕ, zero, suc, ◌+◌, ◌≤◌, ◌<◌, Bool, true, false, ◌||◌, List, [], ◌∷◌, length, eqb}
use Rattle.std.proofs.Math.Option.{Option, none, some}
use Rattle.words.specs.Bytes.{Each}
use Rattle.types.specs.declared.Right.TheVariants.{Own}
use Rattle.types.specs.declared.Kind.{Kind}
use Rattle.types.specs.declared.Kind.TheVariants.{Got, Shown, Dropped}
use Rattle.types.specs.declared.State.{State}
use Rattle.types.specs.declared.State.TheVariants.{Up, Down, Replaying}
use Rattle.types.specs.declared.Record.{Record}
use Rattle.model.specs.Definitions.Parts.{member}
use Rattle.model.specs.Definitions.Bank.{Entry, Board, Bank, board_at, frame_at, entry_in}
use Rattle.model.specs.Definitions.Codec.{page_of}
use Rattle.model.specs.Definitions.WellFormed.{WellFormed, is_got}
use Rattle.model.specs.Definitions.Steps.{cells_written, any_write, names}
use Rattle.model.specs.Definitions.Replay.{count_sum, recovery_point, records_left}
use Rattle.model.specs.History.Statement.{HistoryEntry, History, of_board, discard, Memory, zero_memory, written, OneMemory}
use Rattle.history.specs.Rerun.{Rebuilt, Accepted, final, checkpointed, stable_trace, rebuilt, volatile_trace, trace_left}

-- ==== memory and unstable entries

-- the memory after entries
unfoldable pub memory_after : Memory → List HistoryEntry → Memory
memory_after m [] = m
memory_after m (e ∷ es) = memory_after (written (cells_written e.access) m) es

unfoldable pub writes_page : HistoryEntry → ℕ → Bool
writes_page e p = any_write (cells_written e.access) p

unfoldable pub touches_page : HistoryEntry → ℕ → Bool
touches_page e p = names e.access p

-- whether board b wrote page p past the first n of its entries: a power loss at recovery point n takes that write back
unfoldable pub unstable_write : ℕ → ℕ → ℕ → List HistoryEntry → Bool
unstable_write b n p [] = false
unstable_write b n p (e ∷ es) =
    elim (eqb e.board b) [
      | false ↦ unstable_write b n p es
      | true ↦ elim n [ zero ↦ writes_page e p || unstable_write b zero p es | suc m ↦ unstable_write b m p es ]
    ]

-- every entry that touches page p is board b's
abbrev pub OnlyBy : ℕ → ℕ → List HistoryEntry → Type 0
OnlyBy b p es = Each (λ e. touches_page e p ≡ true → e.board ≡ b) es

-- after such a write no other board touched the page
unfoldable pub Exclusive : ℕ → ℕ → ℕ → List HistoryEntry → Type 0
Exclusive b n p [] = Unit
Exclusive b n p (e ∷ es) =
    elim (eqb e.board b) [
      | false ↦ Exclusive b n p es
      | true ↦
          elim n [
            | zero ↦ (writes_page e p ≡ true → OnlyBy b p es) × Exclusive b zero p es
            | suc m ↦ Exclusive b m p es
          ]
    ]

-- ==== the conjuncts, for one board; `es` are its own entries and `cursor` its cursor

-- cursors, numbers of entries and access numbers agree
unfoldable pub CountsAgree : State → Board → List HistoryEntry → ℕ → Type 0
CountsAgree Up x es cursor = (cursor ≡ length es) × (x.working.number ≡ length es)
CountsAgree Replaying x es cursor = (cursor ≡ x.working.number) × (length es ≡ recovery_point x)
CountsAgree Down x es cursor = length es ≡ recovery_point x

-- in every state: what the stable memory holds can be run again
pub record StableExplains (x : Board) (es : List HistoryEntry) : Type 0 where
  pub reached : recovery_point x ≤ length es
  pub accepted : Accepted (checkpointed x) (stable_trace x es)

-- an up board: run on through the volatile log, it gives `t`; since is the number of entries after the last record
pub record VolatileExplains (x : Board) (es : List HistoryEntry) (t : Rebuilt) : Type 0 where
  pub accepted : Accepted (rebuilt x es) (volatile_trace x es)
  pub ends : final (rebuilt x es) (volatile_trace x es) ≡ t
  pub rest : recovery_point x + count_sum x.working.log + x.working.since ≡ length es

-- a replaying board: what is left, from its frames, leads to what the stable memory rebuilds
unfoldable pub NextWaits : List Record → ℕ → Type 0
NextWaits [] since = ⊥
NextWaits (r ∷ rs) since = (since < r.count) ⊎ ((since ≡ r.count) × (is_got r.kind ≡ true))

pub record ReplayExplains (x : Board) (es : List HistoryEntry) : Type 0 where
  pub accepted : Accepted (record { frames = x.working.frames; pending = [] }) (trace_left x es)
  pub ends : final (record { frames = x.working.frames; pending = [] }) (trace_left x es) ≡ rebuilt x es
  pub waits : NextWaits (records_left x) x.working.since
  pub rest : x.working.number + count_sum (records_left x) ≡ recovery_point x + x.working.since

-- what an up board's frames are ahead of: nothing between calls; inside a call the state that its log explains
unfoldable pub settled_as : Option Rebuilt → Board → Rebuilt
settled_as none x = record { frames = x.working.frames; pending = [] }
settled_as (some t) x = t

unfoldable pub Explains : State → Option Rebuilt → Board → List HistoryEntry → Type 0
Explains Up g x es = VolatileExplains x es (settled_as g x)
Explains Down g x es = Unit
Explains Replaying g x es = ReplayExplains x es

unfoldable pub is_shown : Kind → Bool
is_shown (Got g p) = false
is_shown (Shown p) = true
is_shown (Dropped p) = false

-- ==== the invariant

-- What holds of board b, which is `x`, beside a directory and a history. `g` is what the board's log explains where its frames don't show it yet: a got own
-- before the page passes, a got copy before its access, the frames that a replay ended with before its checkpoint is selected.
pub record BoardInvariant (d : List Entry) (h : History) (g : Option Rebuilt) (b : ℕ) (x : Board) : Type 0 where
  -- cursor, number of entries and access number
  pub counts : CountsAgree x.state x (of_board b h.entries) (h.cursor b)
  -- the log explains the frames: from the checkpoint, and on from there
  pub stable : StableExplains x (of_board b h.entries)
  pub explained : Explains x.state g x (of_board b h.entries)
  -- what a board's frames don't show yet is not on a page that it owns
  pub ahead : (p : ℕ) (t : Rebuilt) → p < length d → x.state ≡ Up → g ≡ some t → (entry_in d p).owner ≡ b
      → frame_at t.frames p ≡ frame_at x.working.frames p
  -- a copy holds the page's memory
  pub copies : (p : ℕ) → p < length d → member b (entry_in d p).copies ≡ true
      → (frame_at x.working.frames p).bytes ≡ memory_after zero_memory h.entries p
  -- the stable memory of an owner rebuilds the page without the owner's own unstable writes
  pub owned : (p : ℕ) → p < length d → (entry_in d p).owner ≡ b
      → frame_at (rebuilt x (of_board b h.entries)).frames p
      ≡ record { right = Own; bytes = memory_after zero_memory (discard b (recovery_point x) h.entries) p }
  -- a page with a write that a power loss would take back is its writer's, without copies, and no one else touched it since
  pub exclusive : (p : ℕ) → Exclusive b (recovery_point x) p h.entries
  pub unstable : (p : ℕ) → p < length d → unstable_write b (recovery_point x) p h.entries ≡ true
      → ((entry_in d p).owner ≡ b) × ((entry_in d p).copies ≡ 0)
  -- no got or dropped that is not stored yet is on a page that the board owns
  pub volatile : Each (λ r. (entry_in d (page_of r.kind)).owner ≡ b → is_shown r.kind ≡ true) x.working.log

pub record Invariant (g : ℕ → Option Rebuilt) (k : Bank) (h : History) : Type 0 where
  pub formed : WellFormed k
  pub memory : OneMemory zero_memory h.entries
  -- every entry is of a board of the bank
  pub known : Each (λ e. e.board < length k.boards) h.entries
  pub boards : (b : ℕ) → b < length k.boards → BoardInvariant k.directory h (g b) b (board_at k b)

-- between calls nothing is ahead
unfoldable pub nobody : ℕ → Option Rebuilt
nobody b = none

-- board b alone
unfoldable pub only_of : ℕ → Rebuilt → ℕ → Option Rebuilt
only_of b t c = elim (eqb c b) [ true ↦ some t | false ↦ none ]
