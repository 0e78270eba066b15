-- Document 02, F-8: what is claimed of clean slots, and of the call that makes them so, beside the request's sentences. No law stands here.
-- Assumes nothing.
use Rattle.std.specs.Prelude.{◌↔◌, ◌≡◌, ℕ, ◌+◌, ◌*◌, ◌≤◌, ◌<◌, true, List, [], ◌∷◌, map}
use Rattle.types.specs.declared.Answer.TheVariants.{Malformed}
use Rattle.types.specs.declared.Outcome.{Outcome}
use Rattle.model.specs.Definitions.Parts.{part, byte_at, zeros}
use Rattle.model.specs.Definitions.Layout.{slot_count, slot_size, boards_at, pages_at, volatile_count_at, slots_at, area_at, area_size, today}
use Rattle.model.specs.Definitions.Bank.{Area, Bank}
use Rattle.model.specs.Definitions.Codec.{decode_area_in, encode, decode}
use Rattle.model.specs.Definitions.WellFormed.{WellFormed, WellFormedBytes}
use Rattle.model.specs.Definitions.Check.{area_count, area_log_at, block_of_in, well_formed}
use Rattle.model.specs.Definitions.Answers.{code}
use Rattle.model.specs.Definitions.Calls.{Result, Call, call_bank, call, refused, done_with}
use Rattle.model.specs.Definitions.Older.{stale_well_formed, StandsFor, clean}
use Rattle.model.specs.History.Statement.{Observed, defined, run_of, bytes_left, begin, PremisesSeen, ClaimsSeen}

-- ---- "every slot at or past a count to be zero"

-- a board's block in the bytes of a bank
abbrev pub block_bytes : List ℕ → (board : ℕ) → List ℕ
block_bytes s b = block_of_in today (byte_at s pages_at) s b

-- at any index, in the volatile log of any board and in both of its areas
pub record SlotsZero (s : List ℕ) : Type 0 where
  pub volatile : (b i : ℕ) → b < byte_at s boards_at → byte_at (block_bytes s b) volatile_count_at ≤ i → i < slot_count
      → part (block_bytes s b) (slots_at (byte_at s pages_at) + i * slot_size) slot_size ≡ zeros slot_size
  pub stored : (b area i : ℕ) → b < byte_at s boards_at → area < 2 → area_count today (byte_at s pages_at) area (block_bytes s b) ≤ i → i < slot_count
      → part (block_bytes s b) (area_log_at today (byte_at s pages_at) area + i * slot_size) slot_size ≡ zeros slot_size

-- "well formed requires every slot at or past a count to be zero", and nothing else that the older rule didn't
abbrev pub AsksForZero : List ℕ → Type 0
AsksForZero s = (well_formed s ≡ true) ↔ ((stale_well_formed s ≡ true) × SlotsZero s)

-- after what was seen of any list of calls on a bank whose bytes were s; and F-8's call then is done and changes nothing
pub record StaysClean (s : List ℕ) (xs : List Observed) : Type 0 where
  pub zero : SlotsZero (bytes_left s xs)
  pub cleaning : clean (bytes_left s xs) ≡ done_with (bytes_left s xs)

-- ---- demand 3 with F-8's call anywhere in the list

pub data Asked : Type 0 where
  Calling : (c : Call) → Asked
  Cleaning : Asked

-- What is seen of the calls, each run on the bytes that the last request left. To the history a cleaning is "All else: nothing"; that it is done and
-- leaves the bytes, wherever it stands, is StaysClean's.
unfoldable pub seen_among : List Asked → List ℕ → List Observed
seen_among [] s = []
seen_among (Calling c ∷ rs) s = defined c s ∷ seen_among rs (call c s).bytes
seen_among (Cleaning ∷ rs) s = seen_among rs (clean s).bytes

abbrev pub OneMemoryAmong : (n p : ℕ) → Type 0
OneMemoryAmong n p =
    (rs : List Asked) → PremisesSeen (seen_among rs (begin n p).bytes) (begin n p) → ClaimsSeen (seen_among rs (begin n p).bytes) (begin n p)

-- ---- "Service copies areas to a laptop and compares them byte by byte"

-- an area as it is copied, and what it says: number, frames and records
abbrev pub area_bytes : List ℕ → (board area : ℕ) → List ℕ
area_bytes s b area = part (block_bytes s b) (area_at (byte_at s pages_at) area) (area_size (byte_at s pages_at))

abbrev pub area_of : List ℕ → (board area : ℕ) → Area
area_of s b area = decode_area_in today (byte_at s pages_at) (area_bytes s b area)

-- Two areas that say the same are the same bytes: of any boards of two well-formed banks with as many pages, or of one bank.
abbrev pub SameAreas : (s t : List ℕ) → Type 0
SameAreas s t =
    well_formed s ≡ true → well_formed t ≡ true → byte_at t pages_at ≡ byte_at s pages_at
    → (b c i j : ℕ) → b < byte_at s boards_at → c < byte_at t boards_at → i < 2 → j < 2
    → (area_of t c j).number ≡ (area_of s b i).number → (area_of t c j).frames ≡ (area_of s b i).frames → (area_of t c j).log ≡ (area_of s b i).log
    → area_bytes t c j ≡ area_bytes s b i

-- ---- "One call zeroes these slots in a bank well formed by the older rule."

-- It is done exactly where the bytes stand for a well-formed bank, and leaves the bytes of that very bank, which are well formed and clean; any other
-- gets 1 and stays. Value, who and stores are 0. A clean bank stays as it is.
pub record CleanLeaves (s : List ℕ) : Type 0 where
  pub done : (k : Bank) → WellFormed k → StandsFor k s → clean s ≡ done_with (encode k)
  pub malformed : ((k : Bank) → WellFormed k → StandsFor k s → ⊥) → clean s ≡ refused Malformed s
  pub formed : code (clean s).outcome.answer ≡ 0 → WellFormedBytes (clean s).bytes
  pub same : code (clean s).outcome.answer ≡ 0 → decode (clean s).bytes ≡ decode s
  pub zero : code (clean s).outcome.answer ≡ 0 → SlotsZero (clean s).bytes
  pub kept : well_formed s ≡ true → clean s ≡ done_with s

-- ---- what it answers later

-- what a call tells its caller: code, value, who and stores, and the bytes for a second buffer
pub record Told : Type 0 where
  pub outcome : Outcome
  pub given : List ℕ

unfoldable pub told_by : Result → Told
told_by t = record { outcome = record { answer = t.answer; stores = t.run.stores }; given = t.given }

-- what a list of calls tells on bytes
unfoldable pub told_on : List Call → List ℕ → List Told
told_on cs s = map (λ (x : Observed). record { outcome = x.outcome; given = x.given }) (run_of cs s)

-- One call of an engine of the day before, on a bank well formed by the older rule: it answers as the bank that the bytes stand for, and leaves bytes
-- that stand for the bank that the call leaves. What it leaves in slots at or past a count is open; in those days an area's records stayed there when
-- its head was stored. That the engine of that day was one of these is not proved here: its definitions differed in these bytes alone, and are gone.
pub record StaleStep (c : Call) (s : List ℕ) (t : Told) (left : List ℕ) : Type 0 where
  pub told : t ≡ told_by (call_bank c (decode s))
  pub stands : StandsFor (call_bank c (decode s)).run.bank left

-- a list of them, whatever each left there, and the bytes at the end
unfoldable pub StaleRun : List Call → List ℕ → List Told → List ℕ → Type 0
StaleRun [] s [] left = left ≡ s
StaleRun [] s (t ∷ ts) left = ⊥
StaleRun (c ∷ cs) s [] left = ⊥
StaleRun (c ∷ cs) s (t ∷ ts) left = (next : List ℕ) × StaleStep c s t next × StaleRun cs next ts left

-- The cleaned bank answers every list of calls as the bank did by the older rule, and cleaned now or later it is the same bank. There is such a run
-- for every list.
pub record CleanedAnswers (s : List ℕ) : Type 0 where
  pub answers : code (clean s).outcome.answer ≡ 0 → (cs : List Call) (ts : List Told) (left : List ℕ) → StaleRun cs s ts left
      → told_on cs (clean s).bytes ≡ ts
  pub later : code (clean s).outcome.answer ≡ 0 → (cs : List Call) (ts : List Told) (left : List ℕ) → StaleRun cs s ts left
      → clean left ≡ done_with (bytes_left (clean s).bytes (run_of cs (clean s).bytes))
  pub some : code (clean s).outcome.answer ≡ 0 → (cs : List Call) → (ts : List Told) × ((left : List ℕ) × StaleRun cs s ts left)
