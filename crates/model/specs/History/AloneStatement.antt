-- Document 01, end of "Steps": "From a restart on, replay's answers and frames depend on this board's selected area, its directory entries at the end, its
-- fuse and the accesses alone, in any well-formed bank of the same N and P and until an access goes on live." Definitions only. Assumes nothing.
use Rattle.std.specs.Prelude.{◌≡◌, ◌↔◌, ℕ, ◌<◌, Bool, true, false, ◌&&◌, not, List, [], ◌∷◌, length, eqb}
use Rattle.std.proofs.Math.Option.{Option, none, some}
use Rattle.types.specs.declared.State.{State}
use Rattle.types.specs.declared.State.TheVariants.{Down}
use Rattle.types.specs.declared.Answer.{Answer}
use Rattle.model.specs.Definitions.Bank.{Area, Working, Board, Bank, board_at, entry_at, on_board}
use Rattle.model.specs.Definitions.WellFormed.{is_replaying, WellFormed}
use Rattle.model.specs.Definitions.Steps.{Run, Access}
use Rattle.model.specs.Definitions.Replay.{took_due, replay_over}
use Rattle.model.specs.Definitions.Calls.{first_given, access_refusals, Call, Accessing, Checkpointing, Fusing, Restarting, Comparing, call_bank}
use Rattle.model.specs.Laws.Codes.Statement.{after_replay}
use Rattle.model.specs.History.Statement.{access_of}

-- ==== what a call gives

-- all of a board but its spare area, and which of its areas is the selected one
pub record Seen : Type 0 where
  pub state : State
  pub fuse : ℕ
  pub working : Working
  pub selected : Area

unfoldable pub seen : Board → Seen
seen x = record { state = x.state; fuse = x.fuse; working = x.working; selected = x.stable.selected }

-- Answer, stores, the bytes for a second buffer and the board left. An access that goes on live has no answer yet: its stores and its board are those of the
-- end of replay.
pub record Heard : Type 0 where
  pub answer : Option Answer
  pub stores : ℕ
  pub given : List ℕ
  pub left : Seen

unfoldable pub heard_of : ℕ → Option Answer → List ℕ → Run → Heard
heard_of b a given r = record { answer = a; stores = r.stores; given = given; left = seen (board_at r.bank b) }

-- ==== a replay

-- a call of board b: its access, a fuse that is set on it, a checkpoint or a restart of it. The call that holds two logs against each other is no board's
-- (document 02, F-7): it looks at both, and changes nothing.
unfoldable pub is_call_of : ℕ → Call → Bool
is_call_of b (Accessing d a) = eqb d b
is_call_of b (Checkpointing d) = eqb d b
is_call_of b (Fusing d n) = eqb d b
is_call_of b (Restarting d) = eqb d b
is_call_of b (Comparing d e) = false

-- "An access whose got was the last record then goes on live", unless the end's own checkpoint blew the fuse: with what the end of replay left
unfoldable pub goes_on_live : ℕ → Access → Bank → Option Run
goes_on_live b a k =
    elim (first_given (access_refusals b a k)) [
      | some r ↦ none
      | none ↦
          elim (replay_over (board_at (on_board b took_due k) b)) [
            | false ↦ none
            | true ↦ elim (after_replay b k).lost [ some c ↦ none | none ↦ some (after_replay b k) ]
          ]
    ]

-- of a call, given its access, if it is one
unfoldable pub live_in : Option (ℕ × Access) → Bank → Option Run
live_in none k = none
live_in (some w) k = goes_on_live w.0 w.1 k

-- What the calls of a replaying board b give, in a list of calls of any boards: until its replay is over or cut, or an access goes on live.
unfoldable pub heard : ℕ → List Call → Bank → List Heard
heard b [] k = []
heard b (c ∷ cs) k =
    elim (is_replaying (board_at k b).state) [
      | false ↦ []
      | true ↦
          elim (is_call_of b c) [
            | false ↦ heard b cs (call_bank c k).run.bank
            | true ↦
                elim (live_in (access_of c) k) [
                  | some r ↦ heard_of b none [] r ∷ []
                  | none ↦ heard_of b (some (call_bank c k).answer) (call_bank c k).given (call_bank c k).run ∷ heard b cs (call_bank c k).run.bank
                ]
          ]
    ]

-- "From a restart on"
unfoldable pub heard_from : ℕ → List Call → Bank → List Heard
heard_from b cs k =
    heard_of b (some (call_bank (Restarting b) k).answer) (call_bank (Restarting b) k).given (call_bank (Restarting b) k).run
    ∷ heard b cs (call_bank (Restarting b) k).run.bank

-- ==== its end

unfoldable pub is_access : Option (ℕ × Access) → Bool
is_access none = false
is_access (some w) = true

-- the bank in which an access ended board b's replay, as it was before that access, if one did
unfoldable pub end_bank : ℕ → List Call → Bank → Option Bank
end_bank b [] k = none
end_bank b (c ∷ cs) k =
    elim (is_replaying (board_at k b).state) [
      | false ↦ none
      | true ↦
          elim (is_access (access_of c) && not (is_replaying (board_at (call_bank c k).run.bank b).state)) [
            | true ↦ some k
            | false ↦ end_bank b cs (call_bank c k).run.bank
          ]
    ]

-- the same from a restart on, which may end it at once
unfoldable pub end_from : ℕ → List Call → Bank → Option Bank
end_from b cs k =
    elim (is_replaying (board_at (call_bank (Restarting b) k).run.bank b).state) [
      | false ↦ some k
      | true ↦ end_bank b cs (call_bank (Restarting b) k).run.bank
    ]

-- ==== what it depends on

-- the calls of board b, in order
unfoldable pub calls_of : ℕ → List Call → List Call
calls_of b [] = []
calls_of b (c ∷ cs) = elim (is_call_of b c) [ true ↦ c ∷ calls_of b cs | false ↦ calls_of b cs ]

-- "its directory entries": which pages name this board as owner
abbrev pub SameOwned : ℕ → Bank → Bank → Type 0
SameOwned b k j = (p : ℕ) → p < length k.directory → ((entry_at k p).owner ≡ b) ↔ ((entry_at j p).owner ≡ b)

-- Two well-formed banks of the same N and P in which board b is down with the same selected area. So it has no fuse in either.
pub record SameStart (b : ℕ) (k j : Bank) : Type 0 where
  pub formed : WellFormed k × WellFormed j
  pub boards : length j.boards ≡ length k.boards
  pub pages : length j.directory ≡ length k.directory
  pub down : ((board_at k b).state ≡ Down) × ((board_at j b).state ≡ Down)
  pub area : (board_at k b).stable.selected ≡ (board_at j b).stable.selected

-- The claim: all other calls may be any, and differ in the two banks.
abbrev pub SameReplay : ℕ → Bank → Bank → Type 0
SameReplay b k j =
    (cs ds : List Call)
    → calls_of b cs ≡ calls_of b ds
    → ((i l : Bank) → end_from b cs k ≡ some i → end_from b ds j ≡ some l → SameOwned b i l)
    → heard_from b cs k ≡ heard_from b ds j
