-- Document 02's F-6 worked through: whom the records of each log name after a few calls, and banks of the earlier form. Definitions only; the theorem is in
-- Computed. Assumes nothing.
use Rattle.std.specs.Prelude.{ℕ, ◌+◌, ◌*◌, Bool, ◌&&◌, not}
use mathlib.Core.List.{List, [], ◌∷◌, ◌++◌, foldl}
use Rattle.types.specs.declared.CopyOrOwn.TheVariants.{GotCopy, GotOwn}
use Rattle.types.specs.declared.Kind.{Kind}
use Rattle.types.specs.declared.Kind.TheVariants.{Got, Shown, Dropped}
use Rattle.types.specs.declared.Record.{Record}
use Rattle.model.specs.Definitions.Parts.{splice, zeros}
use Rattle.model.specs.Definitions.Layout.{page_size, blocks_at, block_size, area_at, area_count_at, area_slots_at, slots_at, volatile_count_at}
use Rattle.model.specs.Definitions.Bank.{Bank, board_at, fresh, on_board}
use Rattle.model.specs.Definitions.Codec.{mark0, mark1, page_of, encode}
use Rattle.model.specs.Definitions.Check.{well_formed}
use Rattle.model.specs.Definitions.Steps.{Read, Write, ReadCells, note, stored_selector}
use Rattle.model.specs.Definitions.Calls.{Call, Accessing, Checkpointing, Fusing, Restarting, call_bank}
use Rattle.model.specs.Definitions.Older.{stale_well_formed, clean, no_records, adopt}
use Rattle.model.proofs.History.Tests.{same_bytes}
use Rattle.cases.specs.Table.{agrees}
use Rattle.cases.specs.Cells.{with_stored}

-- the mark, page and named board of each record
unfoldable pub names_in : List Record → List ℕ
names_in [] = []
names_in (r ∷ rs) = mark0 r.kind ∷ mark1 r.kind ∷ page_of r.kind ∷ r.peer ∷ names_in rs

-- the same of a board's log, stored and then volatile
unfoldable pub log_names : Bank → ℕ → List ℕ
log_names k b = names_in (board_at k b).stable.selected.log ++ names_in (board_at k b).working.log

-- the bank after these calls
unfoldable pub bank_after : List Call → Bank → Bank
bank_after cs k = foldl (λ j c. (call_bank c j).run.bank) k cs

-- "GC", "GO", "SH" and "DR" of a page, with whom they name
abbrev got_copy : (page peer : ℕ) → List ℕ
got_copy p b = 71 ∷ 67 ∷ p ∷ b ∷ []

abbrev got_own : (page peer : ℕ) → List ℕ
got_own p b = 71 ∷ 79 ∷ p ∷ b ∷ []

abbrev shown : (page peer : ℕ) → List ℕ
shown p b = 83 ∷ 72 ∷ p ∷ b ∷ []

abbrev dropped : (page peer : ℕ) → List ℕ
dropped p b = 68 ∷ 82 ∷ p ∷ b ∷ []

-- Board 0 gives a copy to board 1, which gives it to board 2 while board 0 is down: the got names who gave, not the owner. Board 0 comes back, which empties its
-- log, and writes: both holders name the writer. Board 1 loses its power, and with it the dropped, which was not stored.
unfoldable pub holder_named : Bool
holder_named =
    let k : Bank = bank_after (Accessing 1 (Read 0 0) ∷ Fusing 0 0 ∷ Accessing 2 (Read 0 0) ∷ []) (fresh 3 1) in
    let j : Bank = bank_after (Restarting 0 ∷ Accessing 0 (Write 0 0 5) ∷ []) k in
    let i : Bank = bank_after (Fusing 1 0 ∷ Restarting 1 ∷ []) j in
    same_bytes (log_names k 0) (shown 0 1)
    && (same_bytes (log_names k 1) (got_copy 0 0 ++ shown 0 2)
    && (same_bytes (log_names k 2) (got_copy 0 1)
    && (same_bytes (log_names j 0) []
    && (same_bytes (log_names j 1) (got_copy 0 0 ++ (shown 0 2 ++ dropped 0 0))
    && (same_bytes (log_names j 2) (got_copy 0 1 ++ dropped 0 0) && same_bytes (log_names i 1) (got_copy 0 0 ++ shown 0 2))))))

-- Board 2 writes a page of board 0 of which board 1 holds a copy: the old owner and the holder name the writer, whose got names the old owner.
unfoldable pub writer_named : Bool
writer_named =
    let k : Bank = bank_after (Accessing 1 (Read 0 0) ∷ Accessing 2 (Write 0 0 5) ∷ []) (fresh 3 1) in
    same_bytes (log_names k 0) (shown 0 1 ++ (shown 0 2 ++ dropped 0 2))
    && (same_bytes (log_names k 1) (got_copy 0 0 ++ dropped 0 2) && same_bytes (log_names k 2) (got_own 0 0))

-- one call for pages of two boards: each got names its own giver
unfoldable pub givers_named : Bool
givers_named =
    let k : Bank = bank_after (Accessing 0 (ReadCells (2 ∷ 0 ∷ 1 ∷ 0 ∷ []) 2) ∷ []) (fresh 3 3) in
    same_bytes (log_names k 0) (got_copy 1 1 ++ got_copy 2 2) && (same_bytes (log_names k 1) (shown 1 0) && same_bytes (log_names k 2) (shown 2 0))

-- ---- well formed, but for slots past a count, which these are not about

-- a record of this kind of board 1, in a bank of three boards and two pages: stored in the selected area or in the spare one, or volatile
unfoldable pub stored_with : Kind → (peer : ℕ) → Bool
stored_with kind peer = stale_well_formed (encode (on_board 1 (with_stored peer (kind ∷ [])) (fresh 3 2)))

unfoldable pub spare_with : Kind → (peer : ℕ) → Bool
spare_with kind peer = stale_well_formed (encode (on_board 1 (λ x. stored_selector (with_stored peer (kind ∷ []) x)) (fresh 3 2)))

unfoldable pub volatile_with : Kind → (peer : ℕ) → Bool
volatile_with kind peer = stale_well_formed (encode (note 1 kind peer (zeros page_size) (fresh 3 2)))

-- in each of the three logs the first may be named, and the second not
unfoldable pub parts : Kind → (other bad : ℕ) → Bool
parts kind other bad =
    stored_with kind other
    && (spare_with kind other
    && (volatile_with kind other && (not (stored_with kind bad) && (not (spare_with kind bad) && not (volatile_with kind bad)))))

-- "this board below N and different from the log's own": of every kind; and a record of the only board
unfoldable pub refused_peers : Bool
refused_peers =
    parts (Got GotCopy 1) 0 1
    && (parts (Got GotOwn 1) 2 3
    && (parts (Shown 1) 0 3
    && (parts (Dropped 1) 2 1 && (parts (Shown 1) 2 255 && not (stale_well_formed (encode (on_board 0 (with_stored 0 (Shown 0 ∷ [])) (fresh 1 1))))))))

-- ---- banks of the earlier form

-- of two boards and a page, with the same record in the first slot of each of a board's logs, and these counts
unfoldable pub earlier : (board peer volatile count0 count1 : ℕ) → List ℕ
earlier board peer volatile count0 count1 =
    let at : ℕ = blocks_at 1 + board * block_size 1 in
    let slot : List ℕ = 83 ∷ 72 ∷ 0 ∷ peer ∷ [] in
    let s : List ℕ = encode (fresh 2 1) in
    let t : List ℕ = splice (splice s (at + volatile_count_at) (volatile ∷ [])) (at + slots_at 1) slot in
    let u : List ℕ = splice (splice t (at + area_at 1 0 + area_count_at) (count0 ∷ [])) (at + area_at 1 0 + area_slots_at 1) slot in
    splice (splice u (at + area_at 1 1 + area_count_at) (count1 ∷ [])) (at + area_at 1 1 + area_slots_at 1) slot

-- what a bank of the earlier form is answered
unfoldable pub adopts_as : (code : ℕ) → List ℕ → Bool
adopts_as code s = agrees (code, 0, 0, 0) (adopt s).outcome && same_bytes (adopt s).bytes s

-- "they pass over unchanged when every stored and volatile count is zero; any other gives code 11, tested after 1": a count in the volatile log, in the selected
-- area or in the spare one. A record of board 0 that names nobody is one of that form and none of today's; one that names a board is none of that form, though
-- today's rule may know it.
unfoldable pub adopts : Bool
adopts =
    adopts_as 0 (earlier 1 0 0 0 0)
    && (adopts_as 11 (earlier 1 0 1 0 0)
    && (adopts_as 11 (earlier 1 0 0 1 0)
    && (adopts_as 11 (earlier 1 0 0 0 1)
    && (adopts_as 11 (earlier 0 0 0 0 1)
    && (adopts_as 1 (earlier 0 1 1 0 0) && (adopts_as 1 (earlier 0 1 0 0 1) && (adopts_as 1 (earlier 1 0 33 0 0) && adopts_as 0 (earlier 0 1 0 0 0))))))))

-- What the calls of today say of them: with something past a count they are malformed. But for that, one without records is well formed, and one with
-- records where the board that the byte names is another than the log's own.
unfoldable pub earlier_today : Bool
earlier_today =
    not (well_formed (earlier 1 0 0 0 0))
    && (well_formed (clean (earlier 1 0 0 0 0)).bytes
    && (stale_well_formed (earlier 1 0 1 1 0) && (not (stale_well_formed (earlier 0 0 0 1 0)) && stale_well_formed (earlier 0 1 1 0 0))))

-- two checkpoints of each board with records: the first leaves the records in the spare area
unfoldable pub checkpoints_empty : Bool
checkpoints_empty =
    let k : Bank = bank_after (Accessing 1 (Write 0 0 5) ∷ Checkpointing 0 ∷ Checkpointing 1 ∷ []) (fresh 2 1) in
    not (no_records k) && (not (no_records (bank_after (Checkpointing 0 ∷ []) k)) && no_records (bank_after (Checkpointing 0 ∷ Checkpointing 1 ∷ []) k))

unfoldable pub peers_worked : Bool
peers_worked = holder_named && (writer_named && (givers_named && (refused_peers && (adopts && (earlier_today && checkpoints_empty)))))
