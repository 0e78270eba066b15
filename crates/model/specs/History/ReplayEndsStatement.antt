-- Document 01, end of "Steps": "A replay ends after exactly that many accesses [the recovery point] less the area's number, or, if the last record is a got,
-- on entering the next one that needs it, which is then a new access and no repeat; this holds in banks reached from a fresh one under demand 3's premise."
-- Definitions only. Assumes nothing.
use Rattle.std.specs.Prelude.{◌≡◌, ◌≢◌, ◌↔◌, ◌⊎◌, ℕ, ◌+◌, ◌-◌, ◌≤◌, ◌<◌, Bool, true, false, ◌&&◌, List, [], ◌∷◌, eqb}
use Rattle.std.proofs.Math.Option.{Option, none, some}
use Rattle.types.specs.declared.Record.{Record}
use Rattle.types.specs.declared.State.TheVariants.{Up, Down, Replaying}
use Rattle.types.specs.declared.Answer.{Answer}
use Rattle.types.specs.declared.Answer.TheVariants.{Done}
use Rattle.model.specs.Definitions.Bank.{Board, board_at}
use Rattle.model.specs.Definitions.Codec.{decode}
use Rattle.model.specs.Definitions.WellFormed.{is_got}
use Rattle.model.specs.Definitions.Steps.{Access}
use Rattle.model.specs.Definitions.Replay.{recovery_point}
use Rattle.model.specs.Definitions.Answers.{code}
use Rattle.model.specs.Definitions.Calls.{Call, Restarting, call}
use Rattle.model.specs.Laws.Codes.Statement.{Due, NeedsGots}
use Rattle.model.specs.History.Statement.{repeats, System, begin, access_of, after, Premises}

-- ==== a board

-- "that many accesses less the area's number"
unfoldable pub replay_length : Board → ℕ
replay_length x = recovery_point x - x.stable.selected.number

-- "the last record is a got"; there may be none
unfoldable pub last_is_got : List Record → Bool
last_is_got [] = false
last_is_got (r ∷ []) = is_got r.kind
last_is_got (r ∷ q ∷ rs) = last_is_got (q ∷ rs)

unfoldable pub ends_in_got : Board → Bool
ends_in_got x = last_is_got x.stable.selected.log

-- ==== calls

-- the board and the answer of a call, in a system
abbrev pub board_in : ℕ → System → Board
board_in b t = board_at (decode t.bytes) b

abbrev pub answer_in : Call → System → Answer
answer_in c t = (call c t.bytes).outcome.answer

unfoldable pub after_all : List Call → System → System
after_all [] t = t
after_all (c ∷ cs) t = after_all cs (after c t)

-- an access of board b
unfoldable pub is_access_of : ℕ → Option (ℕ × Access) → Bool
is_access_of b none = false
is_access_of b (some w) = eqb w.0 b

-- 1 for an access of board b that is answered 0
unfoldable pub done_by : ℕ → Call → Answer → ℕ
done_by b c a = elim (is_access_of b (access_of c) && eqb (code a) 0) [ true ↦ 1 | false ↦ 0 ]

-- codes 2 to 5 and 10: the tests on entry
abbrev pub RefusedOnEntry : Answer → Type 0
RefusedOnEntry a = ((2 ≤ code a) × (code a ≤ 5)) ⊎ (code a ≡ 10)

-- how many accesses of board b are done in a list of calls
unfoldable pub done_in : ℕ → List Call → System → ℕ
done_in b [] t = 0
done_in b (c ∷ cs) t = done_by b c (answer_in c t) + done_in b cs (after c t)

-- board b is replaying before each call of a list, and after the last
unfoldable pub StaysReplaying : ℕ → List Call → System → Type 0
StaysReplaying b [] t = (board_in b t).state ≡ Replaying
StaysReplaying b (c ∷ cs) t = ((board_in b t).state ≡ Replaying) × StaysReplaying b cs (after c t)

-- "banks reached from a fresh one under demand 3's premise"
pub record Reached (n p : ℕ) (t : System) : Type 0 where
  pub calls : List Call
  pub premises : Premises calls (begin n p)
  pub system : after_all calls (begin n p) ≡ t

-- ==== a replay

-- what a restart of board b and the calls `cs` leave of system t
abbrev pub left_by : ℕ → List Call → System → System
left_by b cs t = after_all cs (after (Restarting b) t)

-- how many of the board's accesses were done since the restart
abbrev pub done_since : ℕ → List Call → System → ℕ
done_since b cs t = done_in b cs (after (Restarting b) t)

-- Board b, restarted in system t, has been replaying since: through the calls `cs`, of any boards, that keep the premise.
pub record Replay (b : ℕ) (cs : List Call) (t : System) : Type 0 where
  pub premises : Premises cs (after (Restarting b) t)
  pub stays : StaysReplaying b cs (after (Restarting b) t)

-- Call c ended the replay of board b, which was x before its restart. In system t before the call `m` accesses of the replay had been done.
pub data Ends (b : ℕ) (x : Board) (m : ℕ) (c : Call) (t : System) : Type 0 where
  -- "after exactly that many accesses": c is the last of them, and repeats an entry
  exactly : (a : Access) (v : ℕ) → access_of c ≡ some (b, a) → answer_in c t ≡ Done v → ends_in_got x ≡ false → m + 1 ≡ replay_length x
      → repeats b t.history ≡ true → Ends b x m c t
  -- "or, if the last record is a got, on entering the next one that needs it, which is then a new access and no repeat"; with it go the gots that are due
  -- together
  entering : (a : Access) (r : Record) (rs : List Record) → access_of c ≡ some (b, a) → ends_in_got x ≡ true → m ≡ replay_length x
      → Due (board_in b t) (r ∷ rs) [] → NeedsGots a (board_in b t).working.frames (r ∷ rs) → repeats b t.history ≡ false → Ends b x m c t

-- ==== the claim

-- of every replay of board b that a restart in system t began
pub record EndsAsSaid (b : ℕ) (t : System) : Type 0 where
  -- the restart itself ends it exactly where no access is missing and the last record is no got
  pub at_once : ((board_in b (after (Restarting b) t)).state ≡ Up) ↔ ((replay_length (board_in b t) ≡ 0) × (ends_in_got (board_in b t) ≡ false))
  -- while it goes on, accesses are missing, or only the one that needs the last gots
  pub going : (cs : List Call) → Replay b cs t
      → (done_since b cs t < replay_length (board_in b t))
      ⊎ ((done_since b cs t ≡ replay_length (board_in b t)) × (ends_in_got (board_in b t) ≡ true))
  -- "after exactly that many accesses": the call with which they are done ends it, if the last record is no got and the call doesn't cut it
  pub exact : (cs : List Call) (c : Call) → Replay b cs t → ends_in_got (board_in b t) ≡ false → (board_in b (after c (left_by b cs t))).state ≢ Down
      → ((board_in b (after c (left_by b cs t))).state ≡ Up)
      ↔ (done_since b cs t + done_by b c (answer_in c (left_by b cs t)) ≡ replay_length (board_in b t))
  -- "on entering the next one": where only that one is missing, an access that passes the tests on entry ends it
  pub entered : (cs : List Call) (c : Call) (a : Access) → Replay b cs t → done_since b cs t ≡ replay_length (board_in b t)
      → access_of c ≡ some (b, a) → ¬ RefusedOnEntry (answer_in c (left_by b cs t))
      → (board_in b (after c (left_by b cs t))).state ≢ Replaying
  -- no other call ends it
  pub ended : (cs : List Call) (c : Call) → Replay b cs t → (board_in b (after c (left_by b cs t))).state ≡ Up
      → Ends b (board_in b t) (done_since b cs t) c (left_by b cs t)
