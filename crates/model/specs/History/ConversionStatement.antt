-- Document 02, F-2 and F-6, with F-8: what is claimed of a conversion and of a bank taken over, beside the requests' sentences. No law stands here.
-- Assumes nothing.
use Rattle.std.specs.Prelude.{◌⊎◌, ◌↔◌, ◌≡◌, ℕ, Bool, true, false, List, [], ◌∷◌, map, length}
use Rattle.words.specs.Bytes.{Each}
use Rattle.types.specs.declared.Answer.TheVariants.{Done, Malformed, HasRecords}
use Rattle.model.specs.Definitions.Layout.{bank_size, today}
use Rattle.model.specs.Definitions.Bank.{Board, Bank}
use Rattle.model.specs.Definitions.Codec.{encode, decode}
use Rattle.model.specs.Definitions.WellFormed.{WellFormedIn, WellFormedBytes}
use Rattle.model.specs.Definitions.Check.{slots_clean, well_formed_in}
use Rattle.model.specs.Definitions.Answers.{code}
use Rattle.model.specs.Definitions.Calls.{Result, Call, call_within, refused, done_with, call}
use Rattle.model.specs.Definitions.Older.{older, older_last_since, older_well_formed, older_bank, StandsForIn, StandsFor, clean, adopt, convert}
use Rattle.model.specs.History.CleanStatement.{SlotsZero, Told, told_by, told_on}

-- ---- what it answers and writes

-- a conversion is done
abbrev pub Converts : (old new : List ℕ) → Type 0
Converts old new = code (convert old new).outcome.answer ≡ 0

-- a bank that is well formed by document 01's clauses, and one by those of the earlier form (F-6)
abbrev pub OlderWellFormed : Bank → Type 0
OlderWellFormed = WellFormedIn older false

abbrev pub EarlierWellFormed : Bank → Type 0
EarlierWellFormed = WellFormedIn today false

-- no record in any log of a board: "every stored and volatile count is zero" (F-6)
pub record BoardEmpty (x : Board) : Type 0 where
  pub volatile : x.working.log ≡ []
  pub selected : x.stable.selected.log ≡ []
  pub spare : x.stable.spare.log ≡ []

-- of every board
abbrev pub NoRecords : Bank → Type 0
NoRecords k = Each BoardEmpty k.boards

-- the old bytes stand for bank k, which is well formed by document 01's clauses, and the target has the length of that bank today
pub record ConvertsFrom (k : Bank) (old new : List ℕ) : Type 0 where
  pub formed : OlderWellFormed k
  pub bytes : StandsForIn older k old
  pub target : length new ≡ bank_size (length k.boards) (length k.directory)

-- It is done exactly where it has such a bank, without a record. Then it leaves that very bank's bytes of today, which are well formed, with "every
-- number kept" and "slots at or past a count zero". Value, who and stores are 0. Without such a bank it "gets code 1 and writes nothing"; a bank with a
-- record "gives code 11, tested after 1, in F-2's call too", and nothing is written either.
pub record ConversionWrites (old new : List ℕ) : Type 0 where
  pub done : Converts old new ↔ ((k : Bank) × ConvertsFrom k old new × NoRecords k)
  pub bytes : (k : Bank) → ConvertsFrom k old new → Converts old new → (convert old new).bytes ≡ encode k
  pub formed : Converts old new → WellFormedBytes (convert old new).bytes
  pub kept : (k : Bank) → ConvertsFrom k old new → Converts old new → decode (convert old new).bytes ≡ k
  pub zero : Converts old new → SlotsZero (convert old new).bytes
  pub answer : Converts old new → (convert old new).outcome ≡ record { answer = Done 0; stores = 0 }
  pub malformed : ((k : Bank) → ConvertsFrom k old new → ⊥) → convert old new ≡ refused Malformed new
  pub records : (k : Bank) → ConvertsFrom k old new → (NoRecords k → ⊥) → convert old new ≡ refused HasRecords new

-- ---- what it answers later

-- what a list of calls answers on a bank, under this largest since
unfoldable pub told_within : (largest : ℕ) → List Call → Bank → List Told
told_within largest [] k = []
told_within largest (c ∷ cs) k =
    let t : Result = call_within largest c k in
    told_by t ∷ told_within largest cs t.run.bank

-- "answers every later call as the old one would until its first code 4", call by call
unfoldable pub SameUntilFull : (old converted : List Told) → Type 0
SameUntilFull [] [] = Unit
SameUntilFull [] (y ∷ ys) = ⊥
SameUntilFull (x ∷ xs) [] = ⊥
SameUntilFull (x ∷ xs) (y ∷ ys) = (code x.outcome.answer ≡ 4) ⊎ ((y ≡ x) × SameUntilFull xs ys)

-- an old bank by the rules of the day, in its own layout: records name boards (F-6), and every slot at or past a count is zero (F-8)
abbrev pub older_today : List ℕ → Bool
older_today = well_formed_in older true

-- what the old one would answer, "Both under the rules of the day": code 1 where these call it malformed, which what is claimed below leaves out and the
-- crate cases shows. It keeps its largest since.
unfoldable pub told_older : List Call → List ℕ → List Told
told_older cs old =
    elim (older_today old) [
      | true ↦ told_within older_last_since cs (older_bank old)
      | false ↦ map (λ c. record { outcome = record { answer = Malformed; stores = 0 }; given = [] }) cs
    ]

-- of an old bank whose slots at or past a count are zero: another is malformed by the rules of the day, and the converted one is not (cases, Conversions)
abbrev pub ConvertedAnswers : (old new : List ℕ) → Type 0
ConvertedAnswers old new =
    Converts old new → slots_clean older old ≡ true → (cs : List Call) → SameUntilFull (told_older cs old) (told_on cs (convert old new).bytes)

-- ---- what it is until then

-- "other calls know that one alone": to them an old bank is no bank
abbrev pub OlderRefused : List ℕ → Type 0
OlderRefused old = older_well_formed old ≡ true → (c : Call) → call c old ≡ refused Malformed old

-- ---- a bank of the earlier form taken over

-- It is done exactly where the bytes stand for a bank that is well formed by the earlier rule and has no record: "they pass over unchanged when every stored
-- and volatile count is zero". "any other gives code 11, tested after 1". Nothing is ever written; value, who and stores are 0. What passed over is well formed
-- but for its slots, so F-8's call takes it, and where these are zero it is well formed as it is.
pub record AdoptionTakes (s : List ℕ) : Type 0 where
  pub done : (k : Bank) → EarlierWellFormed k → StandsFor k s → NoRecords k
      → adopt s ≡ done_with s
  pub records : (k : Bank) → EarlierWellFormed k → StandsFor k s → (NoRecords k → ⊥) → adopt s ≡ refused HasRecords s
  pub malformed : ((k : Bank) → EarlierWellFormed k → StandsFor k s → ⊥) → adopt s ≡ refused Malformed s
  pub cleans : code (adopt s).outcome.answer ≡ 0 → code (clean (adopt s).bytes).outcome.answer ≡ 0
  pub formed : code (adopt s).outcome.answer ≡ 0 → slots_clean today s ≡ true → WellFormedBytes (adopt s).bytes
