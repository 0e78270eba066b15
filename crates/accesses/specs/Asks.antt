-- What an access asks for, as the code passes it by value, and what is asked of a bank and of an access before it goes on; that such an access leaves
-- every field in range. Assumes nothing.
use Rattle.std.specs.Prelude.{◌≡◌, ℕ, ◌*◌, ◌<◌, false, List, length, Option, Some, None, IfSome, is_some}
use Rattle.std.proofs.Math.Option.{none}
use Rattle.std.proofs.lemmas.Option.{IfSome_then}
use Rattle.words.specs.Bytes.{Each, each_nil, each_cons}
use Rattle.steps.specs.declared.written.CellWrite.{CellWrite}
use Rattle.accesses.specs.declared.ask.Ask.{Ask}
use Rattle.model.specs.Definitions.Parts.{member}
use Rattle.model.specs.Definitions.Layout.{byte_values, page_size, last_since, last_number}
use Rattle.model.specs.Definitions.Bank.{Board, Bank, board_at, on_working}
use Rattle.model.specs.Definitions.Codec.{decode}
use Rattle.model.specs.Definitions.WellFormed.{FieldsOk, WellFormed}
use Rattle.model.specs.Definitions.Steps.{Access, cells_asked, cells_written, lacks_page, accessed}
use Rattle.model.specs.Definitions.Replay.{lacking, differs, end_replay}
use Rattle.model.specs.Definitions.Calls.{first_given, live_refusals}
use Rattle.model.proofs.Laws.BoardFields.{accessed_fields}
use Rattle.model.proofs.Laws.Keeps.Accesses.{writable}
use Rattle.model.proofs.Laws.Valid.{Writable}
use Rattle.model.specs.Clauses.{CanAccess, Entered}
use Rattle.fields.specs.Cells.{CellIn}
use Rattle.steps.specs.Asked.{Takes, wrote_byte}
use Rattle.copies.specs.Banks.{OfBank}
use Rattle.exchange.specs.Progress.{running}

-- access a is what an ask says, but for the cells that it reads
pub record Stands (pages : ℕ) (a : Access) (q : Ask) : Type 0 where
  pub takes : Takes pages a (is_some q.write) q.named
  pub writes : cells_written a ≡ wrote_byte q.write

-- .. and the pages of a set are those that it lacks
pub record Lacking (pages : ℕ) (a : Access) (q : Ask) (set : ℕ) (k : Bank) : Type 0 where
  pub stands : Stands pages a q
  pub lacks : (p : ℕ) → member p set ≡ lacks_page a (board_at k q.board).working.frames p

-- an access of an up board, as far as the codes up to 5 go ..
pub record Goes (pages : ℕ) (a : Access) (q : Ask) (k : Bank) : Type 0 where
  pub stands : Stands pages a q
  pub can : CanAccess q.board a k

-- .. and up to 7
pub record Passes (pages : ℕ) (a : Access) (q : Ask) (set : ℕ) (k : Bank) : Type 0 where
  pub lacking : Lacking pages a q set k
  pub can : CanAccess q.board a k
  pub passed : first_given (live_refusals q.board a k) ≡ none

-- an access of a replaying board that goes on live: the end of the replay leaves the board up
pub record GoesOn (pages : ℕ) (a : Access) (q : Ask) (k : Bank) : Type 0 where
  pub stands : Stands pages a q
  pub can : (end_replay q.board (running 0 k)).lost ≡ none → CanAccess q.board a (end_replay q.board (running 0 k)).bank

-- an access of a replaying board, as far as the codes up to 5 go
pub record Enters (pages : ℕ) (a : Access) (q : Ask) (k : Bank) : Type 0 where
  pub stands : Stands pages a q
  pub entered : Entered q.board a k
  pub fits : differs a (board_at k q.board) ≡ false

-- a well-formed bank with so many boards and pages, and the number of the board that asks
pub record Asks (boards pages : ℕ) (q : Ask) (s : List ℕ) : Type 0 where
  pub bank : OfBank pages q.board s
  pub count : boards ≡ length (decode s).boards
  pub formed : WellFormed (decode s)

-- cells that are read and a byte that is written, all of them in range, and a buffer with room for what is read
pub record InRange (pages : ℕ) (q : Ask) (asked : List ℕ) (bytes : ℕ) : Type 0 where
  pub cells : Each (CellIn pages) (cells_asked asked)
  pub room : length asked ≡ 2 * bytes
  pub byte : IfSome q.write (λ w. (w.page < pages) × (w.offset < page_size))

pub page_in : {pages : ℕ} {q : Ask} {asked : List ℕ} {bytes : ℕ} → InRange pages q asked bytes → IfSome q.write (λ w. w.page < pages)
page_in {pages} {q} h =
    let P : CellWrite → Type 0 = λ w. (w.page < pages) × (w.offset < page_size) in
    let Q : CellWrite → Type 0 = λ w. w.page < pages in
    IfSome_then q.write {P = P} {Q = Q} h.byte (λ w i. i.0)

-- ---- an access leaves every field in range

-- what is written is a byte, by its type
pub value_small : (write : Option CellWrite) → IfSome write (λ w. w.value < byte_values)
value_small (Some w) = w.small
value_small None = tt

wrote_small : (write : Option CellWrite) → IfSome write (λ w. w.value < byte_values) → Each (λ w. w.1 < byte_values) (wrote_byte write)
wrote_small (Some w) h = each_cons h each_nil
wrote_small None h = each_nil

module _ {pages : ℕ} (a : Access) (q : Ask) (s : Stands pages a q) (v : IfSome q.write (λ w. w.value < byte_values)) where
  pub written_small : Each (λ w. w.1 < byte_values) (cells_written a)
  written_small = rw s.writes (wrote_small q.write v)

  pub stands_writable : {x : Board} → FieldsOk pages x → lacking a x.working.frames ≡ false → Writable x.working.frames (cells_written a)
  stands_writable {x} ok l = writable a x.working.frames l (λ p t. rw ok.working.frames.count (s.takes.below p t)) written_small

  pub performed_fields : {x : Board} → FieldsOk pages x → lacking a x.working.frames ≡ false → x.working.number < last_number
      → x.working.since < last_since → FieldsOk pages (on_working (accessed a) x)
  performed_fields ok l n m = accessed_fields ok a (stands_writable ok l) n m
