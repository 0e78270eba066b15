-- Document 01's table "Codes", with document 02's codes 10 and 12 and F-4, in propositions: of each code when it is answered and who stands beside it, in ≤,
-- <, ≡ and "there is", without the tests of Definitions.Calls. Laws.Codes proves that those tests say the same. No proof stands here. Assumes nothing.
use Rattle.std.specs.Prelude.{◌≡◌, ◌≢◌, ◌⊎◌, ℕ, zero, suc, ◌+◌, ◌%◌, ◌≤◌, ◌<◌, true, false, List, [], ◌∷◌, ◌++◌, length, drop}
use Rattle.std.proofs.Math.Option.{none}
use Rattle.types.specs.declared.Right.{Right}
use Rattle.types.specs.declared.Right.TheVariants.{None, Own}
use Rattle.types.specs.declared.Frame.{Frame}
use Rattle.types.specs.declared.CopyOrOwn.{CopyOrOwn}
use Rattle.types.specs.declared.CopyOrOwn.TheVariants.{GotCopy, GotOwn}
use Rattle.types.specs.declared.Kind.TheVariants.{Got}
use Rattle.types.specs.declared.Record.{Record}
use Rattle.types.specs.declared.Answer.{Answer}
use Rattle.types.specs.declared.Answer.TheVariants.{Done, Compared}
use Rattle.types.specs.declared.State.TheVariants.{Up, Down, Replaying}
use Rattle.model.specs.Definitions.Parts.{member}
use Rattle.model.specs.Definitions.Layout.{byte_values, most_boards, most_pages, most_cells, page_size, slot_count, no_fuse, last_since, last_number, bank_size}
use Rattle.model.specs.Definitions.Bank.{Board, Bank, board_at, entry_at, frame_at, on_board}
use Rattle.model.specs.Definitions.Codec.{page_of, decode}
use Rattle.model.specs.Definitions.Check.{well_formed}
use Rattle.model.specs.Definitions.Steps.{Run, start, Access, Read, Write, ReadCells, Cell, cells_asked, cells_read, cells_written, takes}
use Rattle.model.specs.Definitions.Replay.{took_due, end_replay}
use Rattle.model.specs.Definitions.Calls.{Call, Accessing, Checkpointing, Fusing, Restarting, Comparing, call_bank}
use Rattle.model.specs.Clauses.{stored_count, volatile_count}

-- ==== rows, and their order

-- "Code", "When" and "who"
pub record Row : Type 1 where
  pub code : ℕ
  pub when : Type 0
  pub who : ℕ → Type 0

-- "Checked in this order": row i holds, and none before it
unfoldable pub First : List Row → ℕ → Type 0
First [] i = ⊥
First (r ∷ rs) zero = r.when
First (r ∷ rs) (suc i) = (¬ r.when) × First rs i

-- no row holds
unfoldable pub NoRow : List Row → Type 0
NoRow [] = Unit
NoRow (r ∷ rs) = (¬ r.when) × NoRow rs

-- row i's who
unfoldable pub WhoIn : List Row → ℕ → ℕ → Type 0
WhoIn [] i w = ⊥
WhoIn (r ∷ rs) zero w = r.who w
WhoIn (r ∷ rs) (suc i) w = WhoIn rs i w

-- row i's code
unfoldable pub code_in : List Row → ℕ → ℕ
code_in [] i = 0
code_in (r ∷ rs) zero = r.code
code_in (r ∷ rs) (suc i) = code_in rs i

-- one of a list has a property
unfoldable pub Some : {A : Type 0} → (A → Type 0) → List A → Type 0
Some P [] = ⊥
Some P (x ∷ xs) = P x ⊎ Some P xs

-- ==== the calls by their numbers

-- the board that a call names, of two the first
unfoldable pub board_named : Call → ℕ
board_named (Accessing b a) = b
board_named (Checkpointing b) = b
board_named (Fusing b n) = b
board_named (Restarting b) = b
board_named (Comparing b c) = b

-- what a done call answers by its numbers: a value, and "who (0 under code 0)"; of two logs compared a place and the taker (document 02, F-7)
unfoldable pub done_as : Call → (value who : ℕ) → Answer
done_as (Accessing b a) v w = Done v
done_as (Checkpointing b) v w = Done v
done_as (Fusing b n) v w = Done v
done_as (Restarting b) v w = Done v
done_as (Comparing b c) v w = Compared v w

-- what only an access can meet
unfoldable pub OfAccess : (ℕ → Access → Type 0) → Call → Type 0
OfAccess P (Accessing b a) = P b a
OfAccess P (Checkpointing b) = ⊥
OfAccess P (Fusing b n) = ⊥
OfAccess P (Restarting b) = ⊥
OfAccess P (Comparing b c) = ⊥

-- ==== 2: "board ≥ N, page ≥ P, offset ≥ 16, value > 255, fuse out of range"

abbrev pub CellOut : Bank → Cell → Type 0
CellOut k c = (length k.directory ≤ c.page) ⊎ (page_size ≤ c.offset)

unfoldable pub AccessOut : ℕ → Access → Bank → Type 0
AccessOut b a k =
    (length k.boards ≤ b) ⊎ Some (CellOut k) (cells_read a) ⊎ Some (λ w. CellOut k w.0 ⊎ (byte_values ≤ w.1)) (cells_written a)

-- "For the fuse number, code 2 then covers only what is above 65,534" (document 02, F-1)
unfoldable pub NumbersOut : Call → Bank → Type 0
NumbersOut (Accessing b a) k = AccessOut b a k
NumbersOut (Checkpointing b) k = length k.boards ≤ b
NumbersOut (Fusing b n) k = (length k.boards ≤ b) ⊎ (no_fuse ≤ n)
NumbersOut (Restarting b) k = length k.boards ≤ b
NumbersOut (Comparing b c) k = (length k.boards ≤ b) ⊎ (length k.boards ≤ c)

-- ==== 10: "Zero cells, an odd byte, more than 32, or a second buffer of another length give code 10, tested just after 2" (document 02, F-3)

unfoldable pub CellsOut : Access → Type 0
CellsOut (Read p o) = ⊥
CellsOut (Write p o v) = ⊥
CellsOut (ReadCells cells out_length) =
    (length (cells_asked cells) ≡ 0) ⊎ (length cells % 2 ≡ 1) ⊎ (most_cells < length (cells_asked cells)) ⊎ (out_length ≢ length (cells_asked cells))

unfoldable pub AskedOut : Call → Bank → Type 0
AskedOut c k = OfAccess (λ b a. CellsOut a) c

-- ==== 12: "The same board named twice gives code 12, tested after 2" (document 02, F-7)

unfoldable pub SameTwice : Call → Type 0
SameTwice (Accessing b a) = ⊥
SameTwice (Checkpointing b) = ⊥
SameTwice (Fusing b n) = ⊥
SameTwice (Restarting b) = ⊥
SameTwice (Comparing b c) = b ≡ c

-- ==== 3: "dark and not restart; restart and not dark; checkpoint while replaying"; two logs are compared "in every state of the boards" (document 02, F-7)

unfoldable pub StateOut : Call → Bank → Type 0
StateOut (Accessing b a) k = (board_at k b).state ≡ Down
StateOut (Checkpointing b) k = ((board_at k b).state ≡ Down) ⊎ ((board_at k b).state ≡ Replaying)
StateOut (Fusing b n) k = (board_at k b).state ≡ Down
StateOut (Restarting b) k = (board_at k b).state ≢ Down
StateOut (Comparing b c) k = ⊥

-- ==== 4: "since or access number at 4,294,967,295" (document 02, F-2)

abbrev pub CountersEnd : Board → Type 0
CountersEnd x = (x.working.since ≡ last_since) ⊎ (x.working.number ≡ last_number)

unfoldable pub CountersOut : Call → Bank → Type 0
CountersOut c k = OfAccess (λ b a. CountersEnd (board_at k b)) c

-- ==== 5: "replay: a got is due and the access doesn't need it, or the access lacks a right and no fitting got is due"

-- an access writes page p; it names page p
abbrev pub WritesTo : Access → ℕ → Type 0
WritesTo a p = Some (λ w. w.0.page ≡ p) (cells_written a)

abbrev pub Names : Access → ℕ → Type 0
Names a p = Some (λ c. c.page ≡ p) (cells_read a) ⊎ WritesTo a p

-- "local if a read has any right or a write has right own", and this right is too little
unfoldable pub TooLittle : CopyOrOwn → Right → Type 0
TooLittle GotCopy r = r ≡ None
TooLittle GotOwn r = r ≢ Own

-- the access names page p and lacks the right to it
abbrev pub LacksPage : Access → List Frame → ℕ → Type 0
LacksPage a fs p = Names a p × TooLittle (takes a) (frame_at fs p).right

-- no got with this count is next
unfoldable pub NoneDue : ℕ → List Record → Type 0
NoneDue n [] = Unit
NoneDue n (r ∷ rs) = ¬ (((g : CopyOrOwn) × (p : ℕ) × (r.kind ≡ Got g p)) × (r.count ≡ n))

-- "a due got and the count 0 gots right behind it go together" (document 02, F-3): the gots of a list of records that go together, the first with count n,
-- and the records behind them
pub data Together : ℕ → List Record → List Record → Type 0 where
  all : {n : ℕ} {behind : List Record} → NoneDue n behind → Together n [] behind
  got : {n : ℕ} {r : Record} {rs behind : List Record} → (g : CopyOrOwn) × (p : ℕ) × (r.kind ≡ Got g p) → r.count ≡ n → Together 0 rs behind
      → Together n (r ∷ rs) behind

-- "A got record is due when it is next and its count equals since." rs are the gots that are due together, if any, and what is left stands behind them.
pub record Due (x : Board) (rs behind : List Record) : Type 0 where
  pub next : drop x.working.place x.stable.selected.log ≡ rs ++ behind
  pub group : Together x.working.since rs behind

-- "an access that needs it: its page, a read with right none for copy, a write without right own for own"; "It needs them if their pages rise and it lacks
-- each" (F-3); none has a page below n
unfoldable pub NeedsFrom : Access → List Frame → ℕ → List Record → Type 0
NeedsFrom a fs n [] = Unit
NeedsFrom a fs n (r ∷ rs) = (p : ℕ) × (r.kind ≡ Got (takes a) p) × LacksPage a fs p × (n ≤ p) × NeedsFrom a fs (suc p) rs

abbrev pub NeedsGots : Access → List Frame → List Record → Type 0
NeedsGots a fs rs = NeedsFrom a fs 0 rs

-- gots are due that the access doesn't need; or it lacks a page besides theirs, and they are not the last records: "if replay ends with them every page then
-- lacking is fetched live" (F-3)
abbrev pub ReplayOther : Access → Board → Type 0
ReplayOther a x =
    (rs : List Record) × (behind : List Record) × Due x rs behind
    × ((¬ NeedsGots a x.working.frames rs)
    ⊎ ((behind ≢ []) × ((p : ℕ) × (p < length x.working.frames) × LacksPage a x.working.frames p × (¬ Some (λ r. page_of r.kind ≡ p) rs))))

unfoldable pub ReplayOut : Call → Bank → Type 0
ReplayOut c k = OfAccess (λ b a. ((board_at k b).state ≡ Replaying) × ReplayOther a (board_at k b)) c

-- ==== 6 and 7 are of a live access: the bank on which it is judged

-- the end of the replay of board b, inside an access that used the last record
unfoldable pub after_replay : ℕ → Bank → Run
after_replay b k = end_replay b (start (on_board b took_due k))

-- An up board's access is live on the bank as it is. "An access whose got was the last record then goes on live", on what the end of replay left,
-- unless the end's own checkpoint blew the fuse. No other access is live.
pub data LiveOn (b : ℕ) (a : Access) (k : Bank) : Bank → Type 0 where
  up : (board_at k b).state ≡ Up → LiveOn b a k k
  replay_ended : {r : Record} {rs : List Record} → (board_at k b).state ≡ Replaying → Due (board_at k b) (r ∷ rs) []
      → NeedsGots a (board_at k b).working.frames (r ∷ rs) → (after_replay b k).lost ≡ none → LiveOn b a k (after_replay b k).bank

-- what holds of the bank on which the access is live
abbrev pub Live : (Bank → Type 0) → Bank → ℕ → Access → Type 0
Live P k b a = (j : Bank) × LiveOn b a k j × P j

-- ==== 6: "live fetch, owner not up"; of a read or a page of a shelf call "owner not up and copy-set empty" (document 02, F-4)

-- the owner of a page
unfoldable pub owner_of : Bank → ℕ → ℕ
owner_of k p = (entry_at k p).owner

-- nobody can give the page, to a reader and to a writer: "A write still needs the owner." (F-4)
unfoldable pub NobodyGives : CopyOrOwn → Bank → ℕ → Type 0
NobodyGives GotCopy k p = ((board_at k (owner_of k p)).state ≢ Up) × ((entry_at k p).copies ≡ 0)
NobodyGives GotOwn k p = (board_at k (owner_of k p)).state ≢ Up

-- a live access that is not local in page p is a fetch of it
abbrev pub Fetches : ℕ → Access → Bank → ℕ → Type 0
Fetches b a k p = LacksPage a (board_at k b).working.frames p

abbrev pub FromNobody : ℕ → Access → Bank → ℕ → Type 0
FromNobody b a k p = Fetches b a k p × NobodyGives (takes a) k p

abbrev pub SomeMissing : ℕ → Access → Bank → Type 0
SomeMissing b a k = (p : ℕ) × (p < length k.directory) × FromNobody b a k p

unfoldable pub OwnerOut : Call → Bank → Type 0
OwnerOut c k = OfAccess (λ b a. Live (SomeMissing b a) k b a) c

-- "Code 6 names the owner of the lowest lacking page" (F-3) that nobody can give
pub record LowestMissing (b : ℕ) (a : Access) (k : Bank) (w : ℕ) : Type 0 where
  pub page : ℕ
  pub below : page < length k.directory
  pub missing : FromNobody b a k page
  pub lowest : (q : ℕ) → q < page → ¬ FromNobody b a k q
  pub owner : w ≡ owner_of k page

-- ==== 7: "stored + volatile + needed > 32 on some board"

abbrev pub ReadFetch : ℕ → Access → Bank → ℕ → Type 0
ReadFetch b a k p = (takes a ≡ GotCopy) × Fetches b a k p

abbrev pub WriteFetch : ℕ → Access → Bank → ℕ → Type 0
WriteFetch b a k p = (takes a ≡ GotOwn) × Fetches b a k p

abbrev pub OwnWrite : ℕ → Access → Bank → ℕ → Type 0
OwnWrite b a k p = WritesTo a p × (¬ Fetches b a k p)

-- board c holds a copy of the page
abbrev pub HoldsCopy : Bank → ℕ → ℕ → Type 0
HoldsCopy k p c = member c (entry_at k p).copies ≡ true

-- board c gives page p to a reader: "served by the owner if up, otherwise by the lowest-numbered board in the copy-set" (F-4)
pub data GivesToReader (k : Bank) (p c : ℕ) : Type 0 where
  owner_gives : (board_at k (owner_of k p)).state ≡ Up → c ≡ owner_of k p → GivesToReader k p c
  holder_gives : (board_at k (owner_of k p)).state ≢ Up → HoldsCopy k p c → ((d : ℕ) → d < c → ¬ HoldsCopy k p d) → GivesToReader k p c

-- "read fetch: reader 1, owner 1; write fetch: writer 1, owner 2, other holders 1; own write: holders 1": a part of board c in page p that needs n slots;
-- "its need in code 7 moves to the giver" (F-4). A board without a part needs nothing. The writer hasn't the owner's part: who owns a page lacks no right
-- to it.
pub data Needs (b : ℕ) (a : Access) (k : Bank) (c p : ℕ) : ℕ → Type 0 where
  nothing : Needs b a k c p 0
  reader : ReadFetch b a k p → c ≡ b → Needs b a k c p 1
  read_giver : ReadFetch b a k p → GivesToReader k p c → Needs b a k c p 1
  writer : WriteFetch b a k p → c ≡ b → Needs b a k c p 1
  write_owner : WriteFetch b a k p → c ≢ b → c ≡ owner_of k p → Needs b a k c p 2
  other_holder : WriteFetch b a k p → c ≢ b → HoldsCopy k p c → Needs b a k c p 1
  holder : OwnWrite b a k p → HoldsCopy k p c → Needs b a k c p 1

-- "code 7 adds up the needs of all pages" (document 02, F-3): of the n pages from p on
pub data NeedsAll (b : ℕ) (a : Access) (k : Bank) (c : ℕ) : (p n total : ℕ) → Type 0 where
  no_pages : {p : ℕ} → NeedsAll b a k c p 0 0
  one_page : {p n m total : ℕ} → Needs b a k c p m → NeedsAll b a k c (suc p) n total → NeedsAll b a k c p (suc n) (m + total)

abbrev pub Short : ℕ → Access → Bank → ℕ → Type 0
Short b a k c =
    (n : ℕ) × NeedsAll b a k c 0 (length k.directory) n × (slot_count < stored_count (board_at k c) + volatile_count (board_at k c) + n)

abbrev pub SomeShort : ℕ → Access → Bank → Type 0
SomeShort b a k = (c : ℕ) × (c < length k.boards) × Short b a k c

unfoldable pub RoomOut : Call → Bank → Type 0
RoomOut c k = OfAccess (λ b a. Live (SomeShort b a) k b a) c

-- "lowest such board"
pub record LowestShort (b : ℕ) (a : Access) (k : Bank) (c : ℕ) : Type 0 where
  pub below : c < length k.boards
  pub short : Short b a k c
  pub lowest : (d : ℕ) → d < c → ¬ Short b a k d

-- ==== 8: "a fuse blew in this call": a board went down, and not by a fuse of 0

-- board b lost power in call c on bank k
pub record LosesPower (c : Call) (k : Bank) (b : ℕ) : Type 0 where
  pub call : (d : ℕ) → c ≢ Fusing d 0
  pub before : (board_at k b).state ≢ Down
  pub after : (board_at (call_bank c k).run.bank b).state ≡ Down

-- ==== the table

-- codes 2, 10, 12 and 3 to 7, on the bank that well-formed bytes stand for; "who is 0 unless named" (document 02, F-3)
unfoldable pub refusal_rows : Call → Bank → List Row
refusal_rows c k =
    record { code = 2; when = NumbersOut c k; who = λ w. w ≡ 0 }
    ∷ record { code = 10; when = AskedOut c k; who = λ w. w ≡ 0 }
    ∷ record { code = 12; when = SameTwice c; who = λ w. w ≡ 0 }
    ∷ record { code = 3; when = StateOut c k; who = λ w. w ≡ board_named c }
    ∷ record { code = 4; when = CountersOut c k; who = λ w. w ≡ board_named c }
    ∷ record { code = 5; when = ReplayOut c k; who = λ w. w ≡ board_named c }
    ∷ record { code = 6; when = OwnerOut c k; who = λ w. OfAccess (λ b a. Live (λ j. LowestMissing b a j w) k b a) c }
    ∷ record { code = 7; when = RoomOut c k; who = λ w. OfAccess (λ b a. Live (λ j. LowestShort b a j w) k b a) c }
    ∷ []

-- .. and code 8
unfoldable pub bank_rows : Call → Bank → List Row
bank_rows c k = refusal_rows c k ++ (record { code = 8; when = (b : ℕ) × LosesPower c k b; who = λ w. LosesPower c k w } ∷ [])

-- codes 1 to 8, 10 and 12 of a call on any bytes
unfoldable pub table : Call → List ℕ → List Row
table c s = record { code = 1; when = well_formed s ≡ false; who = λ w. w ≡ 0 } ∷ bank_rows c (decode s)

-- ==== "making a bank checks 2 before 1"

-- "N or P out of range"
abbrev pub SizesOut : ℕ → ℕ → Type 0
SizesOut boards pages = (boards ≡ 0) ⊎ (most_boards < boards) ⊎ (pages ≡ 0) ⊎ (most_pages < pages)

-- "making: wrong length"
abbrev pub LengthOut : ℕ → ℕ → List ℕ → Type 0
LengthOut boards pages s = length s ≢ bank_size boards pages
