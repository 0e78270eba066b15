-- Document 02, F-7: what the call that holds two logs against each other finds, and when it finds nothing, beside the request's sentences. No law stands here.
-- Assumes nothing.
use Rattle.std.specs.Prelude.{◌≡◌, ◌≢◌, ℕ, suc, ◌<◌, true, List, [], length}
use Rattle.std.proofs.Math.ListN.{get_elem?}
use Rattle.words.specs.Bytes.{Each}
use Rattle.types.specs.declared.Answer.{Answer}
use Rattle.types.specs.declared.Answer.TheVariants.{Compared}
use Rattle.model.specs.Definitions.Bank.{Bank, board_at}
use Rattle.model.specs.Definitions.Codec.{decode}
use Rattle.model.specs.Definitions.Check.{well_formed}
use Rattle.model.specs.Definitions.Answers.{code}
use Rattle.model.specs.Definitions.Logs.{gots_from, gots_of, showns_of}
use Rattle.model.specs.Definitions.Calls.{Checkpointing, Comparing, Reply, call}
use Rattle.model.specs.Clauses.{records_of}
use Rattle.model.specs.Laws.Codes.Statement.{board_named}
use Rattle.model.specs.History.Statement.{bytes_left, LostPower, event_of, Observed}

-- ==== what it finds

-- "the i-th got .. must have the page of the i-th shown": two lists of pages have the same at a place; places count from 0
abbrev pub MatchedAt : (gots showns : List ℕ) → (place : ℕ) → Type 0
MatchedAt gots showns place = get_elem? showns place ≡ get_elem? gots place

-- "the first got, lowest i first, whose page differs or that has no partner"
pub record IsFirstUnmatched (gots showns : List ℕ) (place : ℕ) : Type 0 where
  pub got : place < length gots
  pub unmatched : ¬ MatchedAt gots showns place
  pub before : (q : ℕ) → q < place → MatchedAt gots showns q

-- there is none
abbrev pub AllMatched : (gots showns : List ℕ) → Type 0
AllMatched gots showns = (place : ℕ) → place < length gots → MatchedAt gots showns place

-- "all gots with the lower board as giver come first"; "The value is that i, counted from 1, and who is the taker, or both are 0 if there is none"
pub data Finds (lower higher : ℕ) (k : Bank) : Answer → Type 0 where
  given_by_lower : (place : ℕ) → IsFirstUnmatched (gots_of lower higher k) (showns_of lower higher k) place → Finds lower higher k (Compared (suc place) higher)
  given_by_higher : (place : ℕ) → AllMatched (gots_of lower higher k) (showns_of lower higher k)
      → IsFirstUnmatched (gots_of higher lower k) (showns_of higher lower k) place → Finds lower higher k (Compared (suc place) lower)
  nowhere : AllMatched (gots_of lower higher k) (showns_of lower higher k) → AllMatched (gots_of higher lower k) (showns_of higher lower k)
      → Finds lower higher k (Compared 0 0)

-- a reply that leaves bytes s as they are, without a store
pub record LeavesAll (s : List ℕ) (y : Reply) : Type 0 where
  pub bytes : y.bytes ≡ s
  pub stores : y.outcome.stores ≡ 0
  pub given : y.given ≡ []

-- Of two boards of a well-formed bank, in whatever states and named in either order. (Laws/Codes has the codes; nothing changes with any of them.)
pub record ComparesLogs (lower higher : ℕ) (s : List ℕ) : Type 0 where
  pub finds : well_formed s ≡ true → lower < higher → higher < length (decode s).boards
      → Finds lower higher (decode s) (call (Comparing lower higher) s).outcome.answer
  pub either : call (Comparing higher lower) s ≡ call (Comparing lower higher) s
  pub leaves : LeavesAll s (call (Comparing lower higher) s)

-- ==== when it finds nothing

-- A call after which the claim still speaks of board b, by what a caller sees.
pub record Spared (b : ℕ) (x : Observed) : Type 0 where
  -- "neither cut": neither by a fuse of 0 nor by a blown one
  pub power : event_of x.asked x.outcome.answer x.given ≢ LostPower b
  -- "nor checkpointed". The end of a replay is a checkpoint too: in a bank that began fresh only a board that was cut comes to one.
  pub checkpoint : x.asked ≡ Checkpointing b → code x.outcome.answer ≢ 0
  -- "and made no call that ended in code 8", whichever board lost its power
  pub caller : board_named x.asked ≡ b → code x.outcome.answer ≢ 8

-- between calls: the pages of all gots of the taker that name the giver, stored then volatile, are those of the giver's stored showns that name the taker
abbrev pub LogsAgree : (giver taker : ℕ) → Bank → Type 0
LogsAgree x y k = gots_from x (records_of (board_at k y)) ≡ showns_of x y k

-- "two boards that since the fresh bank were neither cut nor checkpointed, and made no call that ended in code 8, never yield such a place": of a bank whose
-- bytes were s and what was seen of the calls since. The list may end after any call, so it is never.
pub record YieldNoPlace (b c : ℕ) (s : List ℕ) (xs : List Observed) : Type 0 where
  pub logs : LogsAgree b c (decode (bytes_left s xs)) × LogsAgree c b (decode (bytes_left s xs))
  pub answer : (call (Comparing b c) (bytes_left s xs)).outcome.answer ≡ Compared 0 0

-- of any two boards of a bank with n
abbrev pub SparedYieldNoPlace : (n : ℕ) → List ℕ → List Observed → Type 0
SparedYieldNoPlace n s xs = (b c : ℕ) → b < n → c < n → b ≢ c → Each (Spared b) xs → Each (Spared c) xs → YieldNoPlace b c s xs
