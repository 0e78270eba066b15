-- When two banks are alike but for page bytes and names of boards in records: one is the other with a function on every page byte and names that are related.
-- Laws/Likeness proves that every move keeps banks alike, and every call if the function keeps bytes bytes (code 2 tests a written value) and, for document
-- 02's F-7, a name stands for itself alone: page bytes are copied, zeroed, set and returned, names are copied and by that call compared, and nothing else is
-- decided by them. No law stands here. Assumes nothing.
use Rattle.std.specs.Prelude.{◌≡◌, ℕ, Bool, true, false, List, [], ◌∷◌, map}
use Rattle.types.specs.declared.Answer.{Answer}
use Rattle.types.specs.declared.Answer.TheVariants.{Done, Malformed, OutOfRange, WrongState, CountersFull, ReplayDiffers, OwnerNotUp, LogFull, PowerLost}
use Rattle.types.specs.declared.Answer.TheVariants.{WrongCells, HasRecords, Compared, SameBoard}
use Rattle.types.specs.declared.Frame.{Frame}
use Rattle.types.specs.declared.Record.{Record}
use Rattle.model.specs.Definitions.Bank.{Area, Working, Stable, Board, Bank}
use Rattle.model.specs.Definitions.Steps.{Run, Access, Read, Write, ReadCells}
use Rattle.model.specs.Definitions.Calls.{Result, Call, Accessing, Checkpointing, Fusing, Restarting, Comparing}
use Rattle.model.specs.Moves.{Move, NoteShown, NoteGot, StoreRecord, StoreFrame, StoreHead, StoreSelector, GiveCopy, PassOwnership, DropCopies, Perform}
use Rattle.model.specs.Moves.{LosePower, SetFuse, Load, Repeat, TakeLast, Settle}

-- two lists of one length, related element by element
pub data EachPair {A : Type 0} (R : A → A → Type 0) : List A → List A → Type 0 where
  pairs_nil : EachPair R [] []
  pairs_cons : {x y : A} {xs ys : List A} → R x y → EachPair R xs ys → EachPair R (x ∷ xs) (y ∷ ys)

-- ---- banks

-- what two banks may differ in: a function on page bytes, and which names may stand for each other; every name may stand for itself
pub record Change : Type 1 where
  pub bytes : ℕ → ℕ
  pub Peers : ℕ → ℕ → Type 0
  pub same : (b : ℕ) → Peers b b

module _ (f : Change) where
  -- f on the page bytes, the same right
  pub record FrameAlike (x y : Frame) : Type 0 where
    pub right : y.right ≡ x.right
    pub bytes : y.bytes ≡ map f.bytes x.bytes

  -- f on the page bytes, related names, the same count and kind
  pub record RecordAlike (x y : Record) : Type 0 where
    pub count : y.count ≡ x.count
    pub kind : y.kind ≡ x.kind
    pub peer : f.Peers x.peer y.peer
    pub bytes : y.bytes ≡ map f.bytes x.bytes

  -- frames alike, page by page
  abbrev pub FramesAlike : List Frame → List Frame → Type 0
  FramesAlike = EachPair FrameAlike

  -- records alike, as many of them
  abbrev pub LogAlike : List Record → List Record → Type 0
  LogAlike = EachPair RecordAlike

  -- the same access number, frames and log alike
  pub record AreaAlike (x y : Area) : Type 0 where
    pub number : y.number ≡ x.number
    pub frames : FramesAlike x.frames y.frames
    pub log : LogAlike x.log y.log

  -- the same counters and replay place, frames and log alike
  pub record WorkingAlike (x y : Working) : Type 0 where
    pub number : y.number ≡ x.number
    pub since : y.since ≡ x.since
    pub place : y.place ≡ x.place
    pub frames : FramesAlike x.frames y.frames
    pub log : LogAlike x.log y.log

  -- the same selector, both areas alike
  pub record StableAlike (x y : Stable) : Type 0 where
    pub second : y.second ≡ x.second
    pub selected : AreaAlike x.selected y.selected
    pub spare : AreaAlike x.spare y.spare

  -- the same state and fuse, both memories alike
  pub record BoardAlike (x y : Board) : Type 0 where
    pub state : y.state ≡ x.state
    pub fuse : y.fuse ≡ x.fuse
    pub working : WorkingAlike x.working y.working
    pub stable : StableAlike x.stable y.stable

  -- the same directory, as many boards, each alike
  pub record Alike (k j : Bank) : Type 0 where
    pub directory : j.directory ≡ k.directory
    pub boards : EachPair BoardAlike k.boards j.boards

  -- banks alike, the same stores, the same board lost
  pub record RunAlike (r s : Run) : Type 0 where
    pub bank : Alike r.bank s.bank
    pub stores : s.stores ≡ r.stores
    pub lost : s.lost ≡ r.lost

-- ---- what is asked of them, and what they answer

-- a write of f of its byte
unfoldable pub mapped_access : (ℕ → ℕ) → Access → Access
mapped_access f (Read p o) = Read p o
mapped_access f (Write p o v) = Write p o (f v)
mapped_access f (ReadCells cells out_length) = ReadCells cells out_length

-- a move with f on the byte that its access writes
unfoldable pub mapped : (ℕ → ℕ) → Move → Move
mapped f (NoteShown b t p) = NoteShown b t p
mapped f (NoteGot b o p) = NoteGot b o p
mapped f (StoreRecord b) = StoreRecord b
mapped f (StoreFrame b p) = StoreFrame b p
mapped f (StoreHead b) = StoreHead b
mapped f (StoreSelector b) = StoreSelector b
mapped f (GiveCopy o b p) = GiveCopy o b p
mapped f (PassOwnership o b p) = PassOwnership o b p
mapped f (DropCopies w p) = DropCopies w p
mapped f (Perform b a) = Perform b (mapped_access f a)
mapped f (LosePower b) = LosePower b
mapped f (SetFuse b n) = SetFuse b n
mapped f (Load b) = Load b
mapped f (Repeat b a) = Repeat b (mapped_access f a)
mapped f (TakeLast b) = TakeLast b
mapped f (Settle b) = Settle b

-- a call with f on the byte that it writes
unfoldable pub mapped_call : (ℕ → ℕ) → Call → Call
mapped_call f (Accessing b a) = Accessing b (mapped_access f a)
mapped_call f (Checkpointing b) = Checkpointing b
mapped_call f (Fusing b n) = Fusing b n
mapped_call f (Restarting b) = Restarting b
mapped_call f (Comparing b c) = Comparing b c

-- whether a call is decided by the names in records: that of document 02's F-7
unfoldable pub reads_names : Call → Bool
reads_names (Accessing b a) = false
reads_names (Checkpointing b) = false
reads_names (Fusing b n) = false
reads_names (Restarting b) = false
reads_names (Comparing b c) = true

-- f on the value of a read; a write's value is 0
unfoldable pub mapped_value : (ℕ → ℕ) → Access → ℕ → ℕ
mapped_value f (Read p o) v = f v
mapped_value f (Write p o w) v = v
mapped_value f (ReadCells cells out_length) v = v

-- f on the value of a call that reads; a restart's value is a number, that of two logs compared a place
unfoldable pub mapped_call_value : (ℕ → ℕ) → Call → ℕ → ℕ
mapped_call_value f (Accessing b a) v = mapped_value f a v
mapped_call_value f (Checkpointing b) v = v
mapped_call_value f (Fusing b n) v = v
mapped_call_value f (Restarting b) v = v
mapped_call_value f (Comparing b c) v = v

-- g on the value that a done call carries; a place in two logs is none (F-7)
unfoldable pub on_value : (ℕ → ℕ) → Answer → Answer
on_value g (Done v) = Done (g v)
on_value g Malformed = Malformed
on_value g OutOfRange = OutOfRange
on_value g (WrongState b) = WrongState b
on_value g (CountersFull b) = CountersFull b
on_value g (ReplayDiffers b) = ReplayDiffers b
on_value g (OwnerNotUp b) = OwnerNotUp b
on_value g (LogFull b) = LogFull b
on_value g (PowerLost b) = PowerLost b
on_value g WrongCells = WrongCells
on_value g HasRecords = HasRecords
on_value g (Compared i b) = Compared i b
on_value g SameBoard = SameBoard

-- the same answer but for g on its value, runs alike, f on the bytes that are given
pub record ResultAlike (f : Change) (g : ℕ → ℕ) (x y : Result) : Type 0 where
  pub answer : y.answer ≡ on_value g x.answer
  pub run : RunAlike f x.run y.run
  pub given : y.given ≡ map f.bytes x.given

-- ---- banks that differ in names alone

-- the same page bytes, and any name for any other
abbrev pub any_names : Change
any_names = record { bytes = λ v. v; Peers = λ x y. Unit; same = λ b. tt }

-- two banks that differ in no more than the boards that records name
abbrev pub SameButNames : Bank → Bank → Type 0
SameButNames = Alike any_names

-- the same answer, bytes given, stores and board lost, and banks that differ in no more than the boards that records name
pub record SameAnswer (x y : Result) : Type 0 where
  pub answer : y.answer ≡ x.answer
  pub given : y.given ≡ x.given
  pub stores : y.run.stores ≡ x.run.stores
  pub lost : y.run.lost ≡ x.run.lost
  pub bank : SameButNames x.run.bank y.run.bank
