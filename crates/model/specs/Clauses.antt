-- The words of contracts inside the engine: what a function asks of a bank, a board or an access, because the tests before it have shown it. Needed to read
-- those contracts. Of what a reader believes only the records of a board, their counts and the room for more are here (Laws/Codes/Statement says code 7 with
-- them, History/ServedStatement what a read needs, History/PeersStatement what an access logs). No law stands here.
-- Assumes nothing.
use Rattle.std.specs.Prelude.{◌≡◌, ◌≢◌, ℕ, ◌+◌, ◌*◌, ◌≤◌, ◌<◌, true, false, Bool, ◌&&◌, List, [], ◌∷◌, ◌++◌, length, eqb}
use Rattle.words.specs.Bytes.{Each}
use Rattle.types.specs.declared.Right.TheVariants.{None, Copy, Own}
use Rattle.types.specs.declared.Frame.{Frame}
use Rattle.types.specs.declared.CopyOrOwn.{CopyOrOwn}
use Rattle.types.specs.declared.CopyOrOwn.TheVariants.{GotCopy}
use Rattle.types.specs.declared.Kind.{Kind}
use Rattle.types.specs.declared.Kind.TheVariants.{Got}
use Rattle.types.specs.declared.State.TheVariants.{Up, Down, Replaying}
use Rattle.types.specs.declared.Record.{Record}
use Rattle.model.specs.Definitions.Parts.{member, byte_at}
use Rattle.model.specs.Definitions.Layout.{byte_values, most_pages, slot_count, last_since, last_number, Form, volatile_count_at_in}
use Rattle.model.specs.Definitions.Bank.{Entry, Board, Bank, board_at, entry_in, frame_at, with_number, with_since, with_place, with_state, on_working}
use Rattle.model.specs.Definitions.Codec.{encode, decode}
use Rattle.model.specs.Definitions.WellFormed.{RecordOk, FieldsOk, FuseOk, RoomOk, PlaceOk, ReplayingOk, DownOk, right_in, EntryOk, SizesOk, PeersOk}
use Rattle.model.specs.Definitions.Steps.{Access, Cell, cells_written, names, giver, recorded, with_frame}
use Rattle.model.specs.Definitions.Replay.{lacking}
use Rattle.model.specs.Definitions.Calls.{fetch_need}
use Rattle.model.specs.Definitions.Check.{area_count}

-- ---- records

-- all records of a board: the stored ones of the selected area, then the volatile ones
unfoldable pub records_of : Board → List Record
records_of x = x.stable.selected.log ++ x.working.log

-- how many the selected area has, and how many the volatile log
abbrev pub stored_count : Board → ℕ
stored_count x = length x.stable.selected.log

abbrev pub volatile_count : Board → ℕ
volatile_count x = length x.working.log

-- a slot is left for one volatile record more
abbrev pub Space : Board → Type 0
Space x = volatile_count x < slot_count

-- "stored plus volatile at most 32": room for n records more
abbrev pub RoomFor : ℕ → Board → Type 0
RoomFor n x = stored_count x + volatile_count x + n ≤ slot_count

-- a record of this kind with this peer and these bytes is valid, whatever its count
abbrev pub Recordable : ℕ → Kind → (peer : ℕ) → List ℕ → Type 0
Recordable pages kind peer bytes = (n : ℕ) → n ≤ last_since → RecordOk pages (record { count = n; kind = kind; peer = peer; bytes = bytes })

-- a board of the bank that is another one than c: whom a record of c may name
pub record Another (b c : ℕ) (k : Bank) : Type 0 where
  pub board : b < length k.boards
  pub other : b ≢ c

-- all three counts of a block are zero
unfoldable pub counts_zero : Form → ℕ → List ℕ → Bool
counts_zero form pages l = eqb (byte_at l (volatile_count_at_in form)) 0 && (eqb (area_count form pages 0 l) 0 && eqb (area_count form pages 1 l) 0)

-- ---- stores

-- the most that a call makes: a flush of 32 records for each of 16 pages, which covers a write fetch's two, and a checkpoint of P + 2 stores
-- (Laws/FewStores)
abbrev pub most_stores : ℕ
most_stores = most_pages * slot_count + most_pages + 2

-- ---- the bytes of a bank

-- every field of every board in range
abbrev pub Fields : Bank → Type 0
Fields k = Each (FieldsOk (length k.directory)) k.boards

-- bytes that are those of what they are read as, with every field in range and as many boards and pages as may be
pub record IsBank (s : List ℕ) : Type 0 where
  pub back : encode (decode s) ≡ s
  pub fields : Fields (decode s)
  pub sizes : SizesOk (length (decode s).boards) (length (decode s).directory)

-- ---- the clauses of a well-formed bank sorted by what they speak of: a board alone, its replay place, a board and the directory

-- what is asked of a board by itself, but for its place
pub record Alone (pages : ℕ) (x : Board) : Type 0 where
  pub fields : FieldsOk pages x
  pub fuse : FuseOk x
  pub room : RoomOk x
  pub replaying : ReplayingOk x
  pub down : DownOk x

-- what a board and the directory say of each other
pub record Agreed (d : List Entry) (b : ℕ) (x : Board) : Type 0 where
  pub rights : x.state ≡ Up → (p : ℕ) → p < length d → (frame_at x.working.frames p).right ≡ right_in (entry_in d p) b
  pub copies : x.state ≢ Up → (p : ℕ) → p < length d → member b (entry_in d p).copies ≡ false

-- all clauses of board b but whom its records name
pub record Fits (d : List Entry) (b : ℕ) (x : Board) : Type 0 where
  pub alone : Alone (length d) x
  pub place : PlaceOk x.state x
  pub agreed : Agreed d b x

-- a replaying board, which may have used the last of its records
pub record InReplay (d : List Entry) (b : ℕ) (x : Board) : Type 0 where
  pub alone : Alone (length d) x
  pub state : x.state ≡ Replaying
  pub place : x.working.place ≤ length x.stable.selected.log
  pub agreed : Agreed d b x

-- a well-formed bank but for board b, of which `Kept` holds instead of what fits; whom records name is asked of every board
pub record WellFormedBut (b : ℕ) (Kept : List Entry → ℕ → Board → Type 0) (k : Bank) : Type 0 where
  pub sizes : SizesOk (length k.boards) (length k.directory)
  pub directory : Each (EntryOk (length k.boards)) k.directory
  pub others : (c : ℕ) → c < length k.boards → c ≢ b → Fits k.directory c (board_at k c)
  pub this : b < length k.boards → Kept k.directory b (board_at k b)
  pub peers : (c : ℕ) → c < length k.boards → PeersOk (length k.boards) c (board_at k c)

-- ---- an access, as far as its tests have passed

-- what the tests on entry leave
pub record Entered (b : ℕ) (a : Access) (k : Bank) : Type 0 where
  pub board : b < length k.boards
  pub pages : (p : ℕ) → names a p ≡ true → p < length k.directory
  pub values : Each (λ v. v.1 < byte_values) (cells_written a)
  pub power : (board_at k b).state ≢ Down
  pub since : (board_at k b).working.since < last_since
  pub number : (board_at k b).working.number < last_number

-- an access of an up board, as far as the codes up to 5, and 10, go
pub record CanAccess (b : ℕ) (a : Access) (k : Bank) : Type 0 where
  pub pages : (p : ℕ) → names a p ≡ true → p < length k.directory
  pub values : Each (λ w. w.1 < byte_values) (cells_written a)
  pub up : (board_at k b).state ≡ Up
  pub since : (board_at k b).working.since < last_since
  pub number : (board_at k b).working.number < last_number

-- the needs of a board added up over the pages that board b fetches
unfoldable pub fetch_needs : CopyOrOwn → Bank → ℕ → List ℕ → ℕ → ℕ
fetch_needs g k b [] c = 0
fetch_needs g k b (p ∷ ps) c = fetch_need g k b (giver g k p) p c + fetch_needs g k b ps c

-- pages are fetched by board b: taker and givers are up boards, the taker gives none, and each board has the room that code 7 asks for
pub record CanFetch (g : CopyOrOwn) (b : ℕ) (ps : List ℕ) (k : Bank) : Type 0 where
  pub pages : Each (λ p. p < length k.directory) ps
  pub taker : (board_at k b).state ≡ Up
  pub givers : Each (λ p. (board_at k (giver g k p)).state ≡ Up) ps
  pub others : Each (λ p. giver g k p ≢ b) ps
  pub room : (c : ℕ) → c < length k.boards → RoomFor (fetch_needs g k b ps c) (board_at k c)

-- what an access needs of its board
pub record Ready (a : Access) (x : Board) : Type 0 where
  pub power : x.state ≢ Down
  pub since : x.working.since < last_since
  pub number : x.working.number < last_number
  pub right : lacking a x.working.frames ≡ false

-- ---- steps of a board that are parts of a call

-- the board that takes a copy with these bytes from board o
unfoldable pub took_copy : (o p : ℕ) → List ℕ → Board → Board
took_copy o p bytes x = with_frame p (record { right = Copy; bytes = bytes }) (on_working (recorded (Got GotCopy p) o bytes) x)

-- the board that takes a page with these bytes
unfoldable pub took_own : ℕ → List ℕ → Board → Board
took_own p bytes x = with_frame p (record { right = Own; bytes = bytes }) x

-- all of a restart but its frames
unfoldable pub restarting : Board → Board
restarting x = on_working (with_place 0) (on_working (with_since 0) (on_working (with_number x.stable.selected.number) (with_state Replaying x)))

-- bytes are written under a right only
abbrev pub Writable : List Frame → List (Cell × ℕ) → Type 0
Writable fs ws = Each (λ w. (w.1 < byte_values) × ((frame_at fs w.0.page).right ≢ None)) ws
