-- Document 02, F-9, worked through: calls that store more than their own events allow, so that the bound is one of a sum; and readings with fewer events, each
-- with calls that go over the bound. Computed in Computed, said over bytes in Readings. Definitions only. Assumes nothing.
use Rattle.std.specs.Prelude.{ℕ, min, ◌+◌, ◌*◌, Bool, true, false, ◌&&◌, List, [], ◌∷◌, eqb, leb, ltb}
use Rattle.types.specs.declared.Answer.{Answer}
use Rattle.model.specs.Definitions.Bank.{Bank, fresh}
use Rattle.model.specs.Definitions.Check.{sizes_allowed}
use Rattle.model.specs.Definitions.Answers.{code}
use Rattle.model.specs.Definitions.Steps.{Read, Write, ReadCells}
use Rattle.model.specs.Definitions.Calls.{Call, Accessing, Checkpointing, Fusing, Restarting, Comparing, call_bank}
use Rattle.model.specs.History.WearStatement.{events_answered, dearest}

-- ---- sums on the bank

unfoldable pub stores_on : List Call → Bank → ℕ
stores_on [] k = 0
stores_on (c ∷ cs) k = (call_bank c k).run.stores + stores_on cs (call_bank c k).run.bank

unfoldable pub counted_on : (Call → Answer → ℕ) → List Call → Bank → ℕ
counted_on f [] k = 0
counted_on f (c ∷ cs) k = f c (call_bank c k).answer + counted_on f cs (call_bank c k).run.bank

-- what each call stores
unfoldable pub stores_each : List Call → Bank → List ℕ
stores_each [] k = []
stores_each (c ∷ cs) k = (call_bank c k).run.stores ∷ stores_each cs (call_bank c k).run.bank

-- whether every call stores no more than its own events allow
unfoldable pub each_within : (boards pages : ℕ) → List Call → Bank → Bool
each_within boards pages [] k = true
each_within boards pages (c ∷ cs) k =
    leb (call_bank c k).run.stores (events_answered pages c (call_bank c k).answer * dearest boards pages)
    && each_within boards pages cs (call_bank c k).run.bank

-- ---- one call

-- Two boards, one page: board 0 writes what board 1 reads, and board 1's gots and droppeds wait. Its first write stores them all, 6 where 3 is the bound.
unfoldable pub flush_at_last : List Call
flush_at_last =
    Accessing 1 (Read 0 0) ∷ Accessing 0 (Write 0 0 1) ∷ Accessing 1 (Read 0 0) ∷ Accessing 0 (Write 0 0 2) ∷ Accessing 1 (Write 0 0 3) ∷ []

-- Two boards, two pages: board 1 loses power with a got as its last record. The read that needs it ends the replay, which the restart paid for, and then
-- fetches: 5 where 4 is the bound.
unfoldable pub end_and_fetch : List Call
end_and_fetch =
    Accessing 1 (Read 0 0) ∷ Fusing 1 1 ∷ Accessing 0 (Read 1 0) ∷ Restarting 1 ∷ Accessing 1 (Read 0 0) ∷ []

-- ---- fewer events

-- how many events a reading sees in a call and its answer, in a bank with so many pages
abbrev pub Reading : Type 0
Reading = (pages : ℕ) → Call → Answer → ℕ

-- a call on several pages counted once
unfoldable pub pages_once : Reading
pages_once pages c x = min 1 (events_answered pages c x)

-- a call that ended in code 8 not counted
unfoldable pub done_alone : Reading
done_alone pages c x = elim (eqb (code x) 8) [ true ↦ 0 | false ↦ events_answered pages c x ]

-- accesses, checkpoints and restarts with other weights: 0 leaves them out
unfoldable pub weighed : (accesses checkpoints restarts : ℕ) → Reading
weighed i j k pages (Accessing b a) x = i * events_answered pages (Accessing b a) x
weighed i j k pages (Checkpointing b) x = j * events_answered pages (Checkpointing b) x
weighed i j k pages (Fusing b n) x = 0
weighed i j k pages (Restarting b) x = k * events_answered pages (Restarting b) x
weighed i j k pages (Comparing b c) x = 0

-- a reading, and calls from a fresh bank that go over its bound
pub record Refuted : Type 0 where
  pub reading : Reading
  pub boards : ℕ
  pub pages : ℕ
  pub calls : List Call

-- the first byte of each of seven pages
unfoldable pub seven_pages : List ℕ
seven_pages = 0 ∷ 0 ∷ 1 ∷ 0 ∷ 2 ∷ 0 ∷ 3 ∷ 0 ∷ 4 ∷ 0 ∷ 5 ∷ 0 ∷ 6 ∷ 0 ∷ []

-- Eight boards, seven pages: board 0 fetches six pages and board 7 then seven, one of them from board 0, which stores its gots: 6 and 13 stores, where 9 are
-- allowed for an event.
unfoldable pub two_shelves : List Call
two_shelves = Accessing 0 (ReadCells seven_pages 7) ∷ Accessing 7 (ReadCells seven_pages 7) ∷ []

unfoldable pub refuted : List Refuted
refuted =
    record { reading = pages_once; boards = 8; pages = 7; calls = two_shelves }
    ∷ record { reading = done_alone; boards = 1; pages = 1; calls = Fusing 0 3 ∷ Checkpointing 0 ∷ [] }
    ∷ record { reading = weighed 0 1 1; boards = 2; pages = 1; calls = Accessing 1 (Read 0 0) ∷ [] }
    ∷ record { reading = weighed 1 0 1; boards = 1; pages = 1; calls = Checkpointing 0 ∷ [] }
    ∷ record { reading = weighed 1 1 0; boards = 1; pages = 1; calls = Fusing 0 0 ∷ Restarting 0 ∷ [] }
    ∷ []

unfoldable pub goes_over : Refuted → Bool
goes_over r =
    sizes_allowed r.boards r.pages
    && ltb (counted_on (r.reading r.pages) r.calls (fresh r.boards r.pages) * dearest r.boards r.pages)
    (stores_on r.calls (fresh r.boards r.pages))
