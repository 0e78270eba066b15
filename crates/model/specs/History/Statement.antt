-- Document 01, "The roll": the history of a bank, its premise and its claim, over a list of calls that are run on bytes. Definitions only.
-- No board keeps the history: it is fed with the calls' arguments, their answers and, at a power loss, the recovery point that the steps left.
-- Assumes nothing.
use Rattle.std.specs.Prelude.{◌≡◌, ℕ, zero, suc, ◌+◌, ◌≤◌, ◌<◌, Bool, true, false, ◌⊎◌, List, [], ◌∷◌, ◌++◌, map, length, set, get_or, eqb, ltb}
use Rattle.std.proofs.Math.Option.{Option, none, some}
use Rattle.std.proofs.Math.ListN.{get_elem?}
use Rattle.types.specs.declared.State.TheVariants.{Replaying}
use Rattle.types.specs.declared.Answer.{Answer}
use Rattle.types.specs.declared.Outcome.{Outcome}
use Rattle.types.specs.declared.Answer.TheVariants.{Done, Malformed, OutOfRange, WrongState, CountersFull, ReplayDiffers, OwnerNotUp, LogFull, PowerLost}
use Rattle.types.specs.declared.Answer.TheVariants.{WrongCells, HasRecords, Compared, SameBoard}
use Rattle.model.specs.Definitions.Parts.{zeros}
use Rattle.model.specs.Definitions.Layout.{page_size}
use Rattle.model.specs.Definitions.Bank.{Bank, board_at, on_board, fresh}
use Rattle.model.specs.Definitions.Codec.{encode, decode}
use Rattle.model.specs.Definitions.WellFormed.{is_replaying}
use Rattle.model.specs.Definitions.Steps.{start, Access, Read, Write, ReadCells, Cell, cells_read, cells_written, takes, giver}
use Rattle.model.specs.Definitions.Replay.{took_due, replay_over, end_replay, recovery_point}
use Rattle.model.specs.Definitions.Answers.{code}
use Rattle.model.specs.Definitions.Calls.{Call, Accessing, Checkpointing, Fusing, Restarting, Comparing, call, pages_lacking}

-- ==== the history

-- A line of the roll: "board, kind, page, offset, the byte read or written"; "each new kind of access .. is one line of all that it names, reads and writes"
-- (document 02, F-3). The access says the cells it reads and writes; a byte for each cell read stands beside it.
pub record HistoryEntry : Type 0 where
  pub board : ℕ
  pub access : Access
  pub bytes_read : List ℕ

-- The roll, and each board's mark: how many of its lines the board has made or repeated.
pub record History : Type 0 where
  pub entries : List HistoryEntry
  pub cursor : ℕ → ℕ

-- "It starts empty, each board's mark at 0."
unfoldable pub no_history : History
no_history = record { entries = []; cursor = λ b. 0 }

-- a board's own entries, in order
unfoldable pub of_board : ℕ → List HistoryEntry → List HistoryEntry
of_board b [] = []
of_board b (e ∷ es) = elim (eqb e.board b) [ true ↦ e ∷ of_board b es | false ↦ of_board b es ]

-- "the cut board's lines .., counted from 1, are struck above its stand point and gone":
-- of board b's entries the first n stay, and all of the other boards' do
unfoldable pub discard : ℕ → ℕ → List HistoryEntry → List HistoryEntry
discard b n [] = []
discard b n (e ∷ es) =
    elim (eqb e.board b) [
      | false ↦ e ∷ discard b n es
      | true ↦ elim n [ zero ↦ discard b zero es | suc m ↦ e ∷ discard b m es ]
    ]

-- ==== what a call does to the history

pub data Event : Type 0 where
  Accessed : (board : ℕ) (access : Access) (bytes_read : List ℕ) → Event
  Restarted : (board value : ℕ) → Event
  LostPower : (board : ℕ) → Event
  Nothing : Event

-- the bytes that a done access read: the value, or what stands in the second buffer
unfoldable pub bytes_seen : Access → ℕ → List ℕ → List ℕ
bytes_seen (Read p o) v given = v ∷ []
bytes_seen (Write p o v) w given = []
bytes_seen (ReadCells cells out_length) v given = given

-- a call answered 0; "in the roll fuse 0 answered 0 is a cut answered 0" (document 02, F-1)
unfoldable pub done_event : Call → ℕ → List ℕ → Event
done_event (Accessing b a) v given = Accessed b a (bytes_seen a v given)
done_event (Checkpointing b) v given = Nothing
done_event (Fusing b zero) v given = LostPower b
done_event (Fusing b (suc n)) v given = Nothing
done_event (Restarting b) v given = Restarted b v
done_event (Comparing b c) v given = Nothing

-- "Cut answered 0", and "any call answered 8": under 8 it is the board that `who` names. "All else: nothing." `given` is the second buffer after a done call.
-- `Compared` is code 0 too, and the answer of two logs compared alone (Laws/Codes/Statement, done_as).
unfoldable pub event_of : Call → Answer → List ℕ → Event
event_of c (Done v) given = done_event c v given
event_of c Malformed given = Nothing
event_of c OutOfRange given = Nothing
event_of c (WrongState b) given = Nothing
event_of c (CountersFull b) given = Nothing
event_of c (ReplayDiffers b) given = Nothing
event_of c (OwnerNotUp b) given = Nothing
event_of c (LogFull b) given = Nothing
event_of c (PowerLost b) given = LostPower b
event_of c WrongCells given = Nothing
event_of c HasRecords given = Nothing
event_of c (Compared i b) given = Nothing
event_of c SameBoard given = Nothing

-- how many entries a board has
unfoldable pub entry_count : ℕ → History → ℕ
entry_count b h = length (of_board b h.entries)

-- whether a board's next access repeats an entry: "its board's mark is below the number of its lines"
unfoldable pub repeats : ℕ → History → Bool
repeats b h = ltb (h.cursor b) (entry_count b h)

unfoldable pub with_number_of : ℕ → ℕ → (ℕ → ℕ) → ℕ → ℕ
with_number_of b n cursor c = elim (eqb c b) [ true ↦ n | false ↦ cursor c ]

-- "Else it adds a line at the end"
unfoldable pub with_entry : ℕ → Access → List ℕ → History → List HistoryEntry
with_entry b a bytes h =
    elim (repeats b h) [
      | true ↦ h.entries
      | false ↦ h.entries ++ (record { board = b; access = a; bytes_read = bytes } ∷ [])
    ]

-- the history after an event; `k` is the bank that the call left
unfoldable pub fed : Event → Bank → History → History
fed (Accessed b a bytes) k h = record { entries = with_entry b a bytes h; cursor = with_number_of b (h.cursor b + 1) h.cursor }
fed (Restarted b v) k h = record { entries = h.entries; cursor = with_number_of b v h.cursor }
fed (LostPower b) k h = record { entries = discard b (recovery_point (board_at k b)) h.entries; cursor = h.cursor }
fed Nothing k h = h

-- ==== one memory

-- the bytes of each page
abbrev pub Memory : Type 0
Memory = ℕ → List ℕ

unfoldable pub zero_memory : Memory
zero_memory p = zeros page_size

unfoldable pub byte_in : Memory → Cell → ℕ
byte_in m c = get_or (m c.page) c.offset 0

unfoldable pub written : List (Cell × ℕ) → Memory → Memory
written [] m = m
written (w ∷ ws) m = written ws (λ p. elim (eqb p w.0.page) [ true ↦ set (m p) w.0.offset w.1 | false ↦ m p ])

-- "one memory, at first zero, that takes the lines from the top gives each read line's byte"
unfoldable pub OneMemory : Memory → List HistoryEntry → Type 0
OneMemory m [] = Unit
OneMemory m (e ∷ es) = (e.bytes_read ≡ map (byte_in m) (cells_read e.access)) × OneMemory (written (cells_written e.access) m) es

-- ==== a bank and its history

-- `granted` holds each board's access number when it last gave a page away, 0 if it never did
pub record System : Type 0 where
  pub bytes : List ℕ
  pub history : History
  pub granted : ℕ → ℕ

-- a bank that was just made: its bytes, no history, nothing given away
unfoldable pub made : List ℕ → System
made s = record { bytes = s; history = no_history; granted = λ b. 0 }

-- a fresh bank: what `make` leaves (OnBytes, make-begins)
abbrev pub begin : ℕ → ℕ → System
begin n p = made (encode (fresh n p))

-- the access of a call, with its board
unfoldable pub access_of : Call → Option (ℕ × Access)
access_of (Accessing b a) = some (b, a)
access_of (Checkpointing b) = none
access_of (Fusing b n) = none
access_of (Restarting b) = none
access_of (Comparing b c) = none

-- the bank on which an access answered 0 goes on live, if it does: of an up board, and of a replaying board whose due gots were the last records
unfoldable pub live_bank : ℕ → Access → Bank → Option Bank
live_bank b a k =
    elim (is_replaying (board_at k b).state) [
      | false ↦ some k
      | true ↦
          elim (replay_over (board_at (on_board b took_due k) b)) [
            | true ↦ some (end_replay b (start (on_board b took_due k))).bank
            | false ↦ none
          ]
    ]

-- who gave a page away, one for each page fetched: "A board gives a page away when another board's fetch from it is done.", owner or not (F-4)
unfoldable pub givers_in : ℕ → Access → Option Bank → List ℕ
givers_in b a none = []
givers_in b a (some k) = map (giver (takes a) k) (pages_lacking b a k)

unfoldable pub gave_in : Event → Bank → List ℕ
gave_in (Accessed b a bytes) k = givers_in b a (live_bank b a k)
gave_in (Restarted b v) k = []
gave_in (LostPower b) k = []
gave_in Nothing k = []

-- a giver's access number, which the call doesn't change, is noted
unfoldable pub granted_after : List ℕ → Bank → (ℕ → ℕ) → ℕ → ℕ
granted_after [] k g = g
granted_after (o ∷ os) k g = with_number_of o (board_at k o).working.number (granted_after os k g)

-- a call as a caller sees it: what was asked, the outcome it answered, the bytes it left, and the second buffer of a done call that has one
pub record Observed : Type 0 where
  pub asked : Call
  pub outcome : Outcome
  pub bytes : List ℕ
  pub given : List ℕ

-- what the definitions answer and leave
abbrev pub defined : Call → List ℕ → Observed
defined c s = record { asked = c; outcome = (call c s).outcome; bytes = (call c s).bytes; given = (call c s).given }

-- a list of calls, each run on the bytes that the last one left
unfoldable pub run_of : List Call → List ℕ → List Observed
run_of [] s = []
run_of (c ∷ cs) s = defined c s ∷ run_of cs (call c s).bytes

-- the bytes that a list of calls left
unfoldable pub bytes_left : List ℕ → List Observed → List ℕ
bytes_left s [] = s
bytes_left s (x ∷ xs) = bytes_left x.bytes xs

-- bank and history after a call
unfoldable pub after_seen : Observed → System → System
after_seen x t =
    let e : Event = event_of x.asked x.outcome.answer x.given in
    record {
      bytes = x.bytes;
      history = fed e (decode x.bytes) t.history;
      granted = granted_after (gave_in e (decode t.bytes)) (decode t.bytes) t.granted;
    }

abbrev pub after : Call → System → System
after c t = after_seen (defined c t.bytes) t

-- ==== premise and claim

-- the entry that a board's next access repeats, if there is one
unfoldable pub next_entry : ℕ → History → Option HistoryEntry
next_entry b h = get_elem? (of_board b h.entries) (h.cursor b)

-- "while a replaying board's mark is below the number of its lines, a read or write of its own answered 0 or 8 has the kind, page, offset and,
-- for a write, byte of its line mark + 1"; "a repeat names and writes the same" (document 02, F-3): the cells in the asked order
unfoldable pub PremiseSeen : Observed → System → Type 0
PremiseSeen x t =
    (b : ℕ) (a : Access) (e : HistoryEntry)
    → access_of x.asked ≡ some (b, a)
    → (code x.outcome.answer ≡ 0) ⊎ (code x.outcome.answer ≡ 8)
    → (board_at (decode t.bytes) b).state ≡ Replaying
    → next_entry b t.history ≡ some e
    → e.access ≡ a

-- "each repeated read answered 0 gave its line's byte". The premise excludes a repeat of another kind; one would count as not agreeing.
unfoldable pub RepeatSeen : Observed → System → Type 0
RepeatSeen x t =
    (b : ℕ) (a : Access) (v : ℕ) (e : HistoryEntry)
    → access_of x.asked ≡ some (b, a)
    → x.outcome.answer ≡ Done v
    → next_entry b t.history ≡ some e
    → e.bytes_read ≡ bytes_seen a v x.given

-- "the stand points are as demanded": none is below its board's access number when the board last gave a page away.
-- That it is the access number at the last stored record or selector store is in RecoveryStatement, and needs no premise.
unfoldable pub GrantsStand : System → Type 0
GrantsStand t = (b : ℕ) → b < length (decode t.bytes).boards → t.granted b ≤ recovery_point (board_at (decode t.bytes) b)

-- "Claim, after every call"
pub record ClaimSeen (x : Observed) (t : System) : Type 0 where
  pub memory : OneMemory zero_memory (after_seen x t).history.entries
  pub repeat : RepeatSeen x t
  pub grants : GrantsStand (after_seen x t)

-- over a list of calls
unfoldable pub PremisesSeen : List Observed → System → Type 0
PremisesSeen [] t = Unit
PremisesSeen (x ∷ xs) t = PremiseSeen x t × PremisesSeen xs (after_seen x t)

unfoldable pub ClaimsSeen : List Observed → System → Type 0
ClaimsSeen [] t = Unit
ClaimsSeen (x ∷ xs) t = ClaimSeen x t × ClaimsSeen xs (after_seen x t)

-- ==== the same of what the definitions answer and leave

abbrev pub Premise : Call → System → Type 0
Premise c t = PremiseSeen (defined c t.bytes) t

abbrev pub RepeatAgrees : Call → System → Type 0
RepeatAgrees c t = RepeatSeen (defined c t.bytes) t

abbrev pub Claim : Call → System → Type 0
Claim c t = ClaimSeen (defined c t.bytes) t

unfoldable pub Premises : List Call → System → Type 0
Premises cs t = PremisesSeen (run_of cs t.bytes) t

unfoldable pub Claims : List Call → System → Type 0
Claims cs t = ClaimsSeen (run_of cs t.bytes) t
