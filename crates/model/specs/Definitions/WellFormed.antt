-- Document 01, "Well formed means", with document 02's F-6 and F-8: the clauses, one definition each, of a bank and their conjunction `WellFormed`;
-- bytes are well formed where they are the bytes of such a bank. What asks for a since or a count in range is said for any form, and by its plain name
-- for today's; what is asked of a record's zero byte, which names a board today, for either rule. Check has the test of bytes, which Laws proves to say
-- the same. Assumes nothing.
use Rattle.std.specs.Prelude.{◌≡◌, ◌≢◌, ℕ, ◌+◌, ◌^◌, ◌≤◌, ◌<◌, Bool, true, false, List, [], length, eqb}
use Rattle.words.specs.Bytes.{Each, Bytes}
use Rattle.types.specs.declared.Right.{Right}
use Rattle.types.specs.declared.Right.TheVariants.{None, Copy, Own}
use Rattle.types.specs.declared.Frame.{Frame}
use Rattle.types.specs.declared.Kind.{Kind}
use Rattle.types.specs.declared.Kind.TheVariants.{Got, Shown, Dropped}
use Rattle.types.specs.declared.Record.{Record}
use Rattle.types.specs.declared.State.{State}
use Rattle.types.specs.declared.State.TheVariants.{Up, Down, Replaying}
use Rattle.model.specs.Definitions.Parts.{zeros, member}
use Rattle.model.specs.Definitions.Layout.{most_boards, most_pages, page_size, slot_count, no_fuse, last_number, byte_values, Form, today}
use Rattle.model.specs.Definitions.Bank.{Entry, Area, Working, Board, Bank, board_at, entry_at, frame_at}
use Rattle.model.specs.Definitions.Codec.{page_of, encode}

-- "every frame as above": "a right and 16 page bytes, all zero under right 0"
pub record FrameOk (f : Frame) : Type 0 where
  pub size : length f.bytes ≡ page_size
  pub bytes : Bytes f.bytes
  pub empty : f.right ≡ None → f.bytes ≡ zeros page_size

unfoldable pub is_got : Kind → Bool
is_got (Got g p) = true
is_got (Shown p) = false
is_got (Dropped p) = false

-- "records below a count valid": page below P, a byte that names a board or is zero (PeersOkIn asks which), and "The 16 bytes are the page for got, else zero."
pub record RecordOkIn (form : Form) (pages : ℕ) (r : Record) : Type 0 where
  pub count : r.count < byte_values ^ form.since_width
  pub page : page_of r.kind < pages
  pub peer : r.peer < byte_values
  pub size : length r.bytes ≡ page_size
  pub bytes : Bytes r.bytes
  pub plain : is_got r.kind ≡ false → r.bytes ≡ zeros page_size

-- 32 slots in all, so "stored at most 32 in either". What stands in the slots at or past a count is no part of a bank: the writer puts zeros there.
pub record LogOkIn (form : Form) (pages : ℕ) (rs : List Record) : Type 0 where
  pub records : Each (RecordOkIn form pages) rs
  pub count : length rs ≤ slot_count

pub record FramesOk (pages : ℕ) (fs : List Frame) : Type 0 where
  pub count : length fs ≡ pages
  pub frames : Each FrameOk fs

pub record AreaOkIn (form : Form) (pages : ℕ) (a : Area) : Type 0 where
  pub number : a.number ≤ last_number
  pub frames : FramesOk pages a.frames
  pub log : LogOkIn form pages a.log

pub record WorkingOkIn (form : Form) (pages : ℕ) (w : Working) : Type 0 where
  pub number : w.number ≤ last_number
  pub since : w.since < byte_values ^ form.since_width
  pub frames : FramesOk pages w.frames
  pub log : LogOkIn form pages w.log

-- "every field in range", of a block
pub record FieldsOkIn (form : Form) (pages : ℕ) (x : Board) : Type 0 where
  pub fuse : x.fuse ≤ no_fuse
  pub working : WorkingOkIn form pages x.working
  pub selected : AreaOkIn form pages x.stable.selected
  pub spare : AreaOkIn form pages x.stable.spare

-- "fuse not 0"
abbrev pub FuseOk : Board → Type 0
FuseOk x = 0 < x.fuse

-- "stored plus volatile at most 32 for the selected area"
abbrev pub RoomOk : Board → Type 0
RoomOk x = length x.stable.selected.log + length x.working.log ≤ slot_count

-- "place 0 unless replaying, and then below the selected stored count"
unfoldable pub PlaceOk : State → Board → Type 0
PlaceOk Up x = x.working.place ≡ 0
PlaceOk Down x = x.working.place ≡ 0
PlaceOk Replaying x = x.working.place < length x.stable.selected.log

-- "a replaying board has no volatile record"
abbrev pub ReplayingOk : Board → Type 0
ReplayingOk x = x.state ≡ Replaying → x.working.log ≡ []

-- right none with zero bytes
abbrev pub IsEmpty : Frame → Type 0
IsEmpty f = (f.right ≡ None) × (f.bytes ≡ zeros page_size)

-- "access number, since, volatile count and frames zero and no fuse"
pub record Blank (x : Board) : Type 0 where
  pub number : x.working.number ≡ 0
  pub since : x.working.since ≡ 0
  pub volatile : x.working.log ≡ []
  pub frames : Each IsEmpty x.working.frames
  pub fuse : x.fuse ≡ no_fuse

-- "a dark board has ..."
abbrev pub DownOk : Board → Type 0
DownOk x = x.state ≡ Down → Blank x

-- the right that a directory entry gives a board
unfoldable pub right_in : Entry → ℕ → Right
right_in e b = elim (eqb e.owner b) [ true ↦ Own | false ↦ elim (member b e.copies) [ true ↦ Copy | false ↦ None ] ]

-- "an up board's rights agree with the directory"
abbrev pub RightsOk : Bank → ℕ → Type 0
RightsOk k b =
    (board_at k b).state ≡ Up → (p : ℕ) → p < length k.directory → (frame_at (board_at k b).working.frames p).right ≡ right_in (entry_at k p) b

-- "a board not up is in no copy-set"
abbrev pub CopiesOk : Bank → ℕ → Type 0
CopiesOk k b = (board_at k b).state ≢ Up → (p : ℕ) → p < length k.directory → member b (entry_at k p).copies ≡ false

pub record BoardOkIn (form : Form) (k : Bank) (b : ℕ) : Type 0 where
  pub fields : FieldsOkIn form (length k.directory) (board_at k b)
  pub fuse : FuseOk (board_at k b)
  pub room : RoomOk (board_at k b)
  pub place : PlaceOk (board_at k b).state (board_at k b)
  pub replaying : ReplayingOk (board_at k b)
  pub down : DownOk (board_at k b)
  pub rights : RightsOk k b
  pub copies : CopiesOk k b

-- ---- whom a record names: a clause of its own, since a block by itself doesn't know its board's number

-- "The zero byte of a record now names a board"; "Well formed now requires this board below N and different from the log's own." (document 02, F-6). Where no
-- record names a board it is document 01's "a zero byte".
unfoldable pub PeerOk : (named : Bool) (boards b : ℕ) → Record → Type 0
PeerOk true boards b r = (r.peer < boards) × (r.peer ≢ b)
PeerOk false boards b r = r.peer ≡ 0

-- of every record below a count in the logs of board b
pub record PeersOkIn (named : Bool) (boards b : ℕ) (x : Board) : Type 0 where
  pub volatile : Each (PeerOk named boards b) x.working.log
  pub selected : Each (PeerOk named boards b) x.stable.selected.log
  pub spare : Each (PeerOk named boards b) x.stable.spare.log

-- ---- the bank

-- the owner is a board; "no copy-set bit at or past N"; "The owner's bit is 0."
pub record EntryOk (boards : ℕ) (e : Entry) : Type 0 where
  pub owner : e.owner < boards
  pub copies : e.copies < 2 ^ boards
  pub owner_bit : member e.owner e.copies ≡ false

-- "A bank has N boards (1 to 8) and P pages (1 to 16)"
pub record SizesOk (n p : ℕ) : Type 0 where
  pub some_board : 0 < n
  pub boards : n ≤ most_boards
  pub some_page : 0 < p
  pub pages : p ≤ most_pages

-- the conjunction, in a form and under a rule for names
pub record WellFormedIn (form : Form) (named : Bool) (k : Bank) : Type 0 where
  pub sizes : SizesOk (length k.boards) (length k.directory)
  pub directory : Each (EntryOk (length k.boards)) k.directory
  pub boards : (b : ℕ) → b < length k.boards → BoardOkIn form k b
  pub peers : (b : ℕ) → b < length k.boards → PeersOkIn named (length k.boards) b (board_at k b)

-- ---- the same in today's form, in which records name boards

abbrev pub RecordOk : ℕ → Record → Type 0
RecordOk = RecordOkIn today

abbrev pub LogOk : ℕ → List Record → Type 0
LogOk = LogOkIn today

abbrev pub AreaOk : ℕ → Area → Type 0
AreaOk = AreaOkIn today

abbrev pub WorkingOk : ℕ → Working → Type 0
WorkingOk = WorkingOkIn today

abbrev pub FieldsOk : ℕ → Board → Type 0
FieldsOk = FieldsOkIn today

abbrev pub BoardOk : Bank → ℕ → Type 0
BoardOk = BoardOkIn today

abbrev pub PeersOk : (boards b : ℕ) → Board → Type 0
PeersOk = PeersOkIn true

abbrev pub WellFormed : Bank → Type 0
WellFormed = WellFormedIn today true

-- bytes are well formed where they are the bytes of a well-formed bank; so "every slot at or past a count" is zero (F-8)
abbrev pub WellFormedBytes : List ℕ → Type 0
WellFormedBytes s = (k : Bank) × WellFormed k × (encode k ≡ s)

-- ---- a state, as the calls ask for it

unfoldable pub is_up : State → Bool
is_up Up = true
is_up Down = false
is_up Replaying = false

unfoldable pub is_down : State → Bool
is_down Up = false
is_down Down = true
is_down Replaying = false

unfoldable pub is_replaying : State → Bool
is_replaying Up = false
is_replaying Down = false
is_replaying Replaying = true
