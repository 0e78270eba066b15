-- Document 01, "Steps", up to the cut, with document 02's F-1, F-3, F-4, F-6 and F-8: what one board or several do to the bank, one micro-step each,
-- and the stores that a power loss can follow. A call in progress is a `Run`: once a fuse blew, every later step passes it on unchanged. Assumes
-- nothing.
use Rattle.std.specs.Prelude.{ℕ, zero, suc, ◌+◌, ◌-◌, Bool, true, false, ◌&&◌, ◌||◌, not, length, replicate, set, get_or, eqb}
use Rattle.std.proofs.Math.Option.{Option, none, some}
use mathlib.Core.List.{List, [], ◌∷◌, ◌++◌, map, foldl}
use Rattle.std.specs.Int.Count.{count_trailing_zeros}
use Rattle.types.specs.declared.Right.{Right}
use Rattle.types.specs.declared.Right.TheVariants.{None, Copy, Own}
use Rattle.types.specs.declared.Frame.{Frame}
use Rattle.types.specs.declared.CopyOrOwn.{CopyOrOwn}
use Rattle.types.specs.declared.CopyOrOwn.TheVariants.{GotCopy, GotOwn}
use Rattle.types.specs.declared.Kind.{Kind}
use Rattle.types.specs.declared.Kind.TheVariants.{Got, Shown, Dropped}
use Rattle.types.specs.declared.Record.{Record}
use Rattle.types.specs.declared.State.TheVariants.{Down}
use Rattle.model.specs.Definitions.Parts.{zeros, each, tabulate, all_below, member, with_member, without_member}
use Rattle.model.specs.Definitions.Layout.{most_boards, page_size, no_fuse}
use Rattle.model.specs.Definitions.Bank.{Entry, Area, Working, Board, Bank, empty_frame, zero_working, board_at, entry_at, frame_at}
use Rattle.model.specs.Definitions.Bank.{with_working, with_stable, with_selected_area, with_area_number, with_area_frames, with_area_log, with_number, with_since}
use Rattle.model.specs.Definitions.Bank.{with_frames, with_log, on_board, on_entry, on_working, on_spare, on_frames}
use Rattle.model.specs.Definitions.WellFormed.{is_up}

-- ==== a call in progress

-- the bank so far, "stable stores made in the call", and the board whose fuse blew, if one did
pub record Run : Type 0 where
  pub bank : Bank
  pub stores : ℕ
  pub lost : Option ℕ

unfoldable pub start : Bank → Run
start k = record { bank = k; stores = 0; lost = none }

-- a step that stores nothing; "Code 8 keeps the steps done up to the cut and does none after."
unfoldable pub step : (Bank → Bank) → Run → Run
step f r = elim r.lost [ some b ↦ r | none ↦ record { bank = f r.bank; stores = r.stores; lost = none } ]

-- "Cut: frames, since, access number, replay place, volatile log and slots become zero, fuse none, state dark, its copy-set bits 0."
unfoldable pub powered_off : Board → Board
powered_off x =
    record {
      state = Down;
      fuse = no_fuse;
      working = zero_working (map (λ f. empty_frame) x.working.frames);
      stable = x.stable;
    }

-- "The directory is battery-kept and survives every cut": only the board's bits go.
unfoldable pub forgotten : ℕ → Entry → Entry
forgotten b e = record { owner = e.owner; copies = without_member b e.copies }

unfoldable pub power_off : ℕ → Bank → Bank
power_off b k = on_board b powered_off (record { directory = map (forgotten b) k.directory; boards = k.boards })

-- "Fuse k .. : cut after its k-th next store."
unfoldable pub with_fuse : ℕ → Board → Board
with_fuse n x = record { state = x.state; fuse = n; working = x.working; stable = x.stable }

-- A fuse set; "fuse 0 cuts the board then and there, with no store" (document 02, F-1).
unfoldable pub fuse_board : ℕ → ℕ → Bank → Bank
fuse_board b zero k = power_off b k
fuse_board b (suc n) k = on_board b (with_fuse (suc n)) k

-- "A store lowers its board's set fuse"
unfoldable pub burnt : Board → Board
burnt x = elim (eqb x.fuse no_fuse) [ true ↦ x | false ↦ with_fuse (x.fuse - 1) x ]

-- One stable store of board b, which does `f` to it; "at 0 the board goes dark right after it". The only step that counts a store.
unfoldable pub store : ℕ → (Board → Board) → Run → Run
store b f r =
    elim r.lost [
      | some c ↦ r
      | none ↦
          let k : Bank = on_board b burnt (on_board b f r.bank) in
          elim (eqb (board_at k b).fuse 0) [
            | true ↦ record { bank = power_off b k; stores = r.stores + 1; lost = some b }
            | false ↦ record { bank = k; stores = r.stores + 1; lost = none }
          ]
    ]

-- A flush and a checkpoint are lists of stores, each a change of its board. Here they are made on the bank, one after the other; in BoardRuns on a board
-- alone.
unfoldable pub store_all : ℕ → List (Board → Board) → Run → Run
store_all b fs r = foldl (λ s f. store b f s) r fs

-- ==== records

-- one record more behind a log's records: it takes the next slot
unfoldable pub appended : Record → List Record → List Record
appended r l = l ++ (r ∷ [])

abbrev pub with_record : Record → Area → Area
with_record r a = with_area_log (appended r a.log) a

-- "Record: takes the board's since as its count, then since becomes 0. It enters the volatile log."; "The zero byte of a record now names a board" (document
-- 02, F-6), the peer
unfoldable pub recorded : Kind → (peer : ℕ) → List ℕ → Working → Working
recorded kind peer bytes w = with_since 0 (with_log (appended (record { count = w.since; kind = kind; peer = peer; bytes = bytes }) w.log) w)

unfoldable pub note : ℕ → Kind → (peer : ℕ) → List ℕ → Bank → Bank
note b kind peer bytes k = on_board b (on_working (recorded kind peer bytes)) k

-- "one record appended to the selected area": the first volatile record r, whose slot becomes zero; rs are the volatile ones behind it.
-- Between two stores of a flush these stand one slot lower than in the bytes; no caller sees that.
unfoldable pub moved_record : Record → List Record → Board → Board
moved_record r rs x =
    with_stable (with_selected_area (with_record r x.stable.selected) x.stable)
    (with_working (with_log rs x.working) x)

-- the next record of a flush
unfoldable pub stored_record : Board → Board
stored_record x = elim x.working.log [ [] ↦ x | r ∷ rs ↦ moved_record r rs x ]

-- "Flush stores the volatile records in order, zeroing their slots.": a store for each
unfoldable pub record_stores : Board → List (Board → Board)
record_stores x = replicate (length x.working.log) stored_record

unfoldable pub flush : ℕ → Run → Run
flush b r = store_all b (record_stores (board_at r.bank b)) r

-- ==== checkpoint

abbrev pub with_area_frame : ℕ → Frame → Area → Area
with_area_frame p f a = with_area_frames (set a.frames p f) a

-- "one area frame": page p's frame goes to the spare area
unfoldable pub stored_frame : ℕ → Board → Board
stored_frame p x = on_spare (with_area_frame p (frame_at x.working.frames p)) x

-- "one area head (number and stored count 0)"; "The store of an area head now also zeroes its 32 slots" (document 02, F-8): no record is left in them
abbrev pub with_head : ℕ → Area → Area
with_head n a = with_area_number n (with_area_log [] a)

unfoldable pub stored_head : Board → Board
stored_head x = on_spare (with_head x.working.number) x

-- "one selector": the spare area becomes the selected one
unfoldable pub stored_selector : Board → Board
stored_selector x = with_stable (record { second = not x.stable.second; selected = x.stable.spare; spare = x.stable.selected }) x

-- "While a checkpoint stores frames and head, the spare area is written, nothing else in the block but the fuse, or what a cut changes."
unfoldable pub spare_stores : ℕ → List (Board → Board)
spare_stores pages = tabulate pages stored_frame ++ (stored_head ∷ [])

-- "Checkpoint: P frames to the spare area in page order, its head, the selector (P + 2 stores)"
unfoldable pub checkpoint_stores : ℕ → List (Board → Board)
checkpoint_stores pages = spare_stores pages ++ (stored_selector ∷ [])

-- "then since is 0 and the volatile log is emptied and zeroed"
unfoldable pub rested_working : Working → Working
rested_working w = with_since 0 (with_log [] w)

-- "Checkpoint: ..; then since is 0 and .."
unfoldable pub checkpoint : ℕ → Run → Run
checkpoint b r = step (on_board b (on_working rested_working)) (store_all b (checkpoint_stores (length r.bank.directory)) r)

-- ==== accesses

-- What an access asks for: one byte read, one byte written, or "up to 32 cells in one call" (document 02, F-3). The bytes of a `ReadCells` are what was lent,
-- well chosen or not, and `outLength` is the length of the second buffer.
pub data Access : Type 0 where
  Read : (page offset : ℕ) → Access
  Write : (page offset value : ℕ) → Access
  ReadCells : (cells : List ℕ) (out_length : ℕ) → Access

-- one byte of the shared memory
pub record Cell : Type 0 where
  pub page : ℕ
  pub offset : ℕ

-- "The cells are asked as page byte and offset byte, in any order, repeats allowed." An odd last byte is no cell.
unfoldable pub cells_asked : List ℕ → List Cell
cells_asked [] = []
cells_asked (p ∷ []) = []
cells_asked (p ∷ o ∷ more) = record { page = p; offset = o } ∷ cells_asked more

-- which cells an access reads, in the asked order
unfoldable pub cells_read : Access → List Cell
cells_read (Read p o) = record { page = p; offset = o } ∷ []
cells_read (Write p o v) = []
cells_read (ReadCells cells out_length) = cells_asked cells

-- which cells an access writes, each with its byte
unfoldable pub cells_written : Access → List (Cell × ℕ)
cells_written (Read p o) = []
cells_written (Write p o v) = (record { page = p; offset = o }, v) ∷ []
cells_written (ReadCells cells out_length) = []

-- whether some cell is of page p
unfoldable pub any_cell : List Cell → ℕ → Bool
any_cell [] p = false
any_cell (c ∷ cs) p = eqb c.page p || any_cell cs p

unfoldable pub any_write : List (Cell × ℕ) → ℕ → Bool
any_write [] p = false
any_write (w ∷ ws) p = eqb w.0.page p || any_write ws p

-- whether an access names page p
unfoldable pub names : Access → ℕ → Bool
names a p = any_cell (cells_read a) p || any_write (cells_written a) p

-- which got record an access that lacks a right takes
unfoldable pub takes : Access → CopyOrOwn
takes (Read p o) = GotCopy
takes (Write p o v) = GotOwn
takes (ReadCells cells out_length) = GotCopy

-- "local if a read has any right or a write has right own": whether a right is too little, of an access that takes a copy and of one that takes ownership
unfoldable pub lacks : CopyOrOwn → Right → Bool
lacks GotCopy None = true
lacks GotCopy Copy = false
lacks GotCopy Own = false
lacks GotOwn None = true
lacks GotOwn Copy = true
lacks GotOwn Own = false

-- whether an access names page p and its right in these frames is too little
unfoldable pub lacks_page : Access → List Frame → ℕ → Bool
lacks_page a fs p = names a p && lacks (takes a) (frame_at fs p).right

-- "each lacking page once, in page order" (F-3)
unfoldable pub lacking_pages : Access → List Frame → List ℕ
lacking_pages a fs = all_below (length fs) (lacks_page a fs)

unfoldable pub cell_byte : List Frame → Cell → ℕ
cell_byte fs c = get_or (frame_at fs c.page).bytes c.offset 0

unfoldable pub with_byte : Cell → ℕ → List Frame → List Frame
with_byte c v fs =
    set fs c.page (record { right = (frame_at fs c.page).right; bytes = set (frame_at fs c.page).bytes c.offset v })

unfoldable pub with_bytes : List (Cell × ℕ) → List Frame → List Frame
with_bytes [] fs = fs
with_bytes (w ∷ ws) fs = with_bytes ws (with_byte w.0 w.1 fs)

-- the bytes that an access reads from these frames, in the order of its cells
unfoldable pub read_from : Access → List Frame → List ℕ
read_from a fs = map (cell_byte fs) (cells_read a)

-- "value (the byte read ..; 0 for the rest)"
unfoldable pub value_of : Access → List Frame → ℕ
value_of (Read p o) fs = cell_byte fs (record { page = p; offset = o })
value_of (Write p o v) fs = 0
value_of (ReadCells cells out_length) fs = 0

-- "The bytes go in the asked order into a second lent buffer" (F-3); a read or a write has none
unfoldable pub given_of : Access → List Frame → List ℕ
given_of (Read p o) fs = []
given_of (Write p o v) fs = []
given_of (ReadCells cells out_length) fs = read_from (ReadCells cells out_length) fs

-- "A done access adds 1 to access number and since"; of cells "The whole call is one access" (F-3)
unfoldable pub accessed : Access → Working → Working
accessed a w = with_number (w.number + 1) (with_since (w.since + 1) (with_frames (with_bytes (cells_written a) w.frames) w))

unfoldable pub access : ℕ → Access → Bank → Bank
access b a k = on_board b (on_working (accessed a)) k

-- ==== fetches

-- a board with another frame of page p, and the frame of a board
unfoldable pub with_frame : ℕ → Frame → Board → Board
with_frame p f x = on_working (on_frames (λ fs. set fs p f)) x

unfoldable pub frame_of : Bank → ℕ → ℕ → Frame
frame_of k b p = frame_at (board_at k b).working.frames p

-- "the lowest-numbered board in the copy-set" (document 02, F-4): "trailing zeros give the lowest holder" (document 01); no board's number where the set is
-- empty
unfoldable pub lowest_holder : Entry → ℕ
lowest_holder e = count_trailing_zeros most_boards e.copies

-- whether a page's owner is up
unfoldable pub owner_up : Bank → ℕ → Bool
owner_up k p = is_up (board_at k (entry_at k p).owner).state

-- who gives a page to a reader: "served by the owner if up, otherwise by the lowest-numbered board in the copy-set"; and to a writer: "A write still needs
-- the owner." (F-4)
unfoldable pub giver : CopyOrOwn → Bank → ℕ → ℕ
giver GotCopy k p = elim (owner_up k p) [ true ↦ (entry_at k p).owner | false ↦ lowest_holder (entry_at k p) ]
giver GotOwn k p = (entry_at k p).owner

-- the giver's part of every fetch: "owner records shown and flushes"; "That giver records shown and flushes as an owner does." (F-4); it names "the taker in a
-- shown" (F-6), board b
unfoldable pub show : (o b p : ℕ) → Run → Run
show o b p r = flush o (step (note o (Shown p) b (zeros page_size)) r)

-- "reader records got copy, gains the copy and its bit"; it names "the giver in a got" (F-6), board o
unfoldable pub give_copy : ℕ → ℕ → ℕ → Bank → Bank
give_copy o b p k =
    let bytes : List ℕ = (frame_of k o p).bytes in
    on_entry p (λ e. record { owner = e.owner; copies = with_member b e.copies })
    (on_board b (with_frame p (record { right = Copy; bytes = bytes })) (note b (Got GotCopy p) o bytes k))

-- "record dropped and lose the right"; it names "the writer in a dropped" (F-6), board w
unfoldable pub dropped : (w p : ℕ) → Board → Board
dropped w p x = with_frame p empty_frame (on_working (recorded (Dropped p) w (zeros page_size)) x)

-- the boards that pass a test do so together
unfoldable pub drop_at : (ℕ → Bool) → (w p : ℕ) → Bank → Bank
drop_at loses w p k =
    record { directory = k.directory; boards = each (λ c x. elim (loses c) [ true ↦ dropped w p x | false ↦ x ]) k.boards }

-- "Own write with copies out: each holder records dropped and loses its copy, the copy-set empties."; the writer is board w
unfoldable pub drop_copies : (w p : ℕ) → Bank → Bank
drop_copies w p k =
    on_entry p (λ e. record { owner = e.owner; copies = 0 }) (drop_at (λ c. member c (entry_at k p).copies) w p k)

-- "then together owner and all copy holders but the writer record dropped and lose the right, the writer gains right own and the page,
-- the directory names the writer, the copy-set empties"
unfoldable pub pass_ownership : ℕ → ℕ → ℕ → Bank → Bank
pass_ownership o w p k =
    on_entry p (λ e. record { owner = w; copies = 0 })
    (on_board w (with_frame p (record { right = Own; bytes = (frame_of k o p).bytes }))
    (drop_at (λ c. not (eqb c w) && (eqb c o || member c (entry_at k p).copies)) w p k))

-- "All givers record and store first, page by page." (F-3), for board b
unfoldable pub show_all : (b : ℕ) → List ℕ → Run → Run
show_all b ps r = foldl (λ s p. show (giver GotCopy s.bank p) b p s) r ps

-- "Only then are the copies taken, together. The got records follow each other, the later ones with count 0." (F-3)
unfoldable pub give_copies : ℕ → List ℕ → Bank → Bank
give_copies b ps k = foldl (λ j p. give_copy (giver GotCopy j p) b p j) k ps

-- "Read fetch: owner records shown and flushes; reader records got copy, gains the copy and its bit.", each page from its giver
unfoldable pub read_fetch : ℕ → List ℕ → Run → Run
read_fetch b ps r = step (give_copies b ps) (show_all b ps r)

-- "Write fetch: owner records shown and flushes; writer records got own and flushes; then together .."
unfoldable pub write_fetch : ℕ → ℕ → Run → Run
write_fetch w p r =
    let o : ℕ = giver GotOwn r.bank p in
    step (pass_ownership o w p) (flush w (step (λ k. note w (Got GotOwn p) o (frame_of k o p).bytes k) (show o w p r)))

-- the fetch that brings copies of pages, or ownership; a write names one page
unfoldable pub fetch : CopyOrOwn → ℕ → List ℕ → Run → Run
fetch GotCopy b ps r = read_fetch b ps r
fetch GotOwn b ps r = foldl (λ s p. write_fetch b p s) r ps
