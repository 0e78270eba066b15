-- What document 02's F-4 is for: "When the main cabinet is off, the others can't read a price that three of them hold." Now they can. Definitions only.
-- Assumes nothing.
use Rattle.std.specs.Prelude.{◌≡◌, ◌≢◌, ◌⊎◌, ℕ, ◌<◌, true, List, length, get_or}
use Rattle.types.specs.declared.Right.TheVariants.{None}
use Rattle.types.specs.declared.CopyOrOwn.TheVariants.{GotCopy}
use Rattle.types.specs.declared.State.TheVariants.{Up}
use Rattle.model.specs.Definitions.Layout.{page_size, no_fuse}
use Rattle.model.specs.Definitions.Bank.{Bank, board_at}
use Rattle.model.specs.Definitions.Codec.{decode}
use Rattle.model.specs.Definitions.Check.{well_formed}
use Rattle.model.specs.Definitions.Steps.{Access, Read, takes, frame_of}
use Rattle.model.specs.Definitions.Answers.{code, value}
use Rattle.model.specs.Definitions.Calls.{Accessing, call}
use Rattle.model.specs.Clauses.{RoomFor}
use Rattle.model.specs.Laws.Codes.Statement.{Names, AccessOut, CellsOut, CountersEnd, owner_of, HoldsCopy, GivesToReader, SomeShort}

-- the code of an access of board b on these bytes
abbrev pub code_of : ℕ → Access → List ℕ → ℕ
code_of b a s = code (call (Accessing b a) s).outcome.answer

-- ==== a read or a shelf call

-- a page can be had by a reader: its owner is up, or some board holds a copy
abbrev pub CanBeHad : Bank → ℕ → Type 0
CanBeHad k p = ((board_at k (owner_of k p)).state ≡ Up) ⊎ ((c : ℕ) × HoldsCopy k p c)

abbrev pub AllCanBeHad : Access → Bank → Type 0
AllCanBeHad a k = (p : ℕ) → p < length k.directory → Names a p → CanBeHad k p

-- an up board that writes nothing and names only such pages is never answered 6, on any bytes ..
abbrev pub Never6 : ℕ → Access → List ℕ → Type 0
Never6 b a s = takes a ≡ GotCopy → (board_at (decode s) b).state ≡ Up → AllCanBeHad a (decode s) → code_of b a s ≢ 6

-- .. and it is done where codes 2, 10 and 4 don't apply, no board is short of room (code 7) and no fuse is set (code 8)
pub record Unhindered (b : ℕ) (a : Access) (k : Bank) : Type 0 where
  pub numbers : ¬ AccessOut b a k
  pub cells : ¬ CellsOut a
  pub counters : ¬ CountersEnd (board_at k b)
  pub roomy : ¬ SomeShort b a k
  pub fuses : (c : ℕ) → c < length k.boards → (board_at k c).fuse ≡ no_fuse

abbrev pub IsServed : ℕ → Access → List ℕ → Type 0
IsServed b a s =
    well_formed s ≡ true → takes a ≡ GotCopy → (board_at (decode s) b).state ≡ Up → AllCanBeHad a (decode s) → Unhindered b a (decode s) → code_of b a s ≡ 0

-- ==== one page of which there are only copies

-- the owner of page p isn't up, and some board holds a copy
pub record OnlyHeld (k : Bank) (p : ℕ) : Type 0 where
  pub not_up : (board_at k (owner_of k p)).state ≢ Up
  pub holder : ℕ
  pub holds : HoldsCopy k p holder

-- a read by an up board with numbers in range: its counters are not full, its own log and that of whoever gives have room for a record, and no fuse is set
pub record CanRead (b p o : ℕ) (k : Bank) : Type 0 where
  pub up : (board_at k b).state ≡ Up
  pub page : p < length k.directory
  pub offset : o < page_size
  pub counters : ¬ CountersEnd (board_at k b)
  pub reader_room : RoomFor 1 (board_at k b)
  pub giver_room : (c : ℕ) → GivesToReader k p c → RoomFor 1 (board_at k c)
  pub fuses : (c : ℕ) → c < length k.boards → (board_at k c).fuse ≡ no_fuse

abbrev pub ReadNever6 : (board page offset : ℕ) → List ℕ → Type 0
ReadNever6 b p o s = (board_at (decode s) b).state ≡ Up → OnlyHeld (decode s) p → code_of b (Read p o) s ≢ 6

abbrev pub ReadIsServed : (board page offset : ℕ) → List ℕ → Type 0
ReadIsServed b p o s = well_formed s ≡ true → OnlyHeld (decode s) p → CanRead b p o (decode s) → code_of b (Read p o) s ≡ 0

-- .. and the value of a read that is done is the byte of whoever gives, where the page was not here
abbrev pub ReadGivesHeld : (board page offset : ℕ) → List ℕ → Type 0
ReadGivesHeld b p o s =
    (board_at (decode s) b).state ≡ Up → code_of b (Read p o) s ≡ 0 → (frame_of (decode s) b p).right ≡ None
    → (c : ℕ) → c < length (decode s).boards → GivesToReader (decode s) p c
    → value (call (Accessing b (Read p o)) s).outcome.answer ≡ get_or (frame_of (decode s) c p).bytes o 0
