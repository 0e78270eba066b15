-- Document 02's F-3 worked through: cells read in one call, live and in replay, each call with the answer that the documents give and with the second buffer
-- before and after it. Definitions only; the theorem is in Computed. Assumes nothing.
use Rattle.std.specs.Prelude.{ℕ, ◌+◌, Bool, true, ◌&&◌, List, [], ◌∷◌, ◌++◌, map, length, replicate}
use Rattle.types.specs.declared.CopyOrOwn.TheVariants.{GotCopy, GotOwn}
use Rattle.types.specs.declared.Kind.{Kind}
use Rattle.types.specs.declared.Kind.TheVariants.{Got, Shown}
use Rattle.types.specs.declared.Record.{Record}
use Rattle.model.specs.Definitions.Parts.{zeros, tabulate}
use Rattle.model.specs.Definitions.Layout.{page_size}
use Rattle.model.specs.Definitions.Bank.{Board, Bank, fresh, on_board, with_stable, with_selected_area, with_area_log}
use Rattle.model.specs.Definitions.Codec.{encode}
use Rattle.model.specs.Definitions.Check.{well_formed}
use Rattle.model.specs.Definitions.Steps.{powered_off, Read, Write, ReadCells}
use Rattle.model.specs.Definitions.Calls.{Result, Call, Accessing, Fusing, Restarting, call_bank, Reply, reply_of, buffer_after}
use Rattle.model.proofs.History.Tests.{same_bytes}
use Rattle.cases.specs.Table.{agrees}

-- a call, the second buffer that it is lent, what it answers (code, value, who, stores), and the buffer after it
pub record Glance : Type 0 where
  pub asks : Call
  pub before : List ℕ
  pub prints : ℕ × ℕ × ℕ × ℕ
  pub after : List ℕ

unfoldable pub glances_on : List Glance → Bank → Bool
glances_on [] k = true
glances_on (l ∷ ls) k =
    let t : Result = call_bank l.asks k in
    let y : Reply = reply_of t in
    agrees l.prints y.outcome && (same_bytes (buffer_after y l.before) l.after && glances_on ls t.run.bank)

-- a call that is lent no second buffer
abbrev pub plain : Call → ℕ → ℕ → ℕ → ℕ → Glance
plain c code value who stores = record { asks = c; before = []; prints = (code, value, who, stores); after = [] }

-- 77, 78 and so on
abbrev lent : ℕ → List ℕ
lent n = tabulate n (λ i. 77 + i)

-- board 0 asks for cells with a buffer of this length, which a code that isn't 0 leaves unchanged
abbrev pub leaves : (cells : List ℕ) (out_length code who stores : ℕ) → Glance
leaves cells out_length code who stores =
    record { asks = Accessing 0 (ReadCells cells out_length); before = lent out_length; prints = (code, 0, who, stores); after = lent out_length }

-- board 0 asks for cells, and the buffer becomes these bytes
abbrev pub gives : (cells : List ℕ) (stores : ℕ) (bytes : List ℕ) → Glance
gives cells stores bytes =
    record { asks = Accessing 0 (ReadCells cells (length bytes)); before = lent (length bytes); prints = (0, 0, 0, stores); after = bytes }

-- the cells (2, 3), (1, 0) and (2, 3) again
abbrev thrice : List ℕ
thrice = 2 ∷ 3 ∷ 1 ∷ 0 ∷ 2 ∷ 3 ∷ []

-- the cells (2, 0) and (1, 0)
abbrev twice : List ℕ
twice = 2 ∷ 0 ∷ 1 ∷ 0 ∷ []

-- Two pages fetched from two boards, one of them asked twice; then local; then repeated in replay, where both gots go together. A single read of one of the
-- pages, or a call that lacks one page more, is code 5 there.
unfoldable pub two_pages : List Glance
two_pages =
    plain (Accessing 1 (Write 1 0 7)) 0 0 0 0
    ∷ plain (Accessing 2 (Write 2 3 9)) 0 0 0 0
    ∷ gives thrice 2 (9 ∷ 7 ∷ 9 ∷ [])
    ∷ gives thrice 0 (9 ∷ 7 ∷ 9 ∷ [])
    ∷ plain (Accessing 1 (Read 0 0)) 0 0 0 3
    ∷ plain (Fusing 0 0) 0 0 0 0
    ∷ plain (Accessing 2 (Write 2 3 8)) 0 0 0 0
    ∷ plain (Restarting 0) 0 0 0 0
    ∷ plain (Accessing 0 (Read 1 0)) 5 0 0 0
    ∷ leaves (2 ∷ 3 ∷ 1 ∷ 0 ∷ 4 ∷ 3 ∷ []) 3 5 0 0
    ∷ gives thrice 0 (9 ∷ 7 ∷ 9 ∷ [])
    ∷ gives thrice 7 (9 ∷ 7 ∷ 9 ∷ [])
    ∷ gives thrice 3 (8 ∷ 7 ∷ 8 ∷ [])
    ∷ []

-- "All givers record and store first": the second giver loses power, so no copy is taken, and the reader's log has no got to strand its replay
unfoldable pub giver_lost : List Glance
giver_lost =
    plain (Fusing 2 1) 0 0 0 0
    ∷ leaves (1 ∷ 0 ∷ 2 ∷ 0 ∷ []) 2 8 2 2
    ∷ plain (Accessing 0 (Read 0 0)) 0 0 0 0
    ∷ plain (Accessing 1 (Read 0 0)) 0 0 0 1
    ∷ plain (Fusing 0 0) 0 0 0 0
    ∷ plain (Restarting 0) 0 0 0 0
    ∷ plain (Accessing 0 (Read 0 0)) 0 0 0 5
    ∷ leaves twice 2 6 2 0
    ∷ []

-- "page by page": the first giver loses power, and the second, in whose log nothing stands yet, later makes one store
unfoldable pub first_giver_lost : List Glance
first_giver_lost =
    plain (Fusing 1 1) 0 0 0 0
    ∷ leaves twice 2 8 1 1
    ∷ plain (Accessing 0 (Read 2 0)) 0 0 0 1
    ∷ []

-- The fuse of a replaying board blows at the end's checkpoint, though the access was done: "any code but 0 leaves unchanged" the buffer. After a restart the
-- repeat is done, and fills it.
unfoldable pub end_lost : List Glance
end_lost =
    plain (Accessing 1 (Write 1 0 7)) 0 0 0 0
    ∷ gives twice 2 (0 ∷ 7 ∷ [])
    ∷ plain (Accessing 1 (Read 0 0)) 0 0 0 3
    ∷ plain (Fusing 0 0) 0 0 0 0
    ∷ plain (Restarting 0) 0 0 0 0
    ∷ plain (Fusing 0 1) 0 0 0 0
    ∷ leaves twice 2 8 0 1
    ∷ plain (Restarting 0) 0 0 0 0
    ∷ gives twice 5 (0 ∷ 7 ∷ [])
    ∷ []

-- A fuse blows behind the second got: the gots are the last records. A call that needs one of them alone is code 5. On entering a call that needs both the
-- replay ends, the copies go, and every page then lacking is fetched live, page 4 besides.
unfoldable pub replay_ends : List Glance
replay_ends =
    plain (Accessing 1 (Write 4 1 6)) 0 0 0 0
    ∷ gives (1 ∷ 0 ∷ 2 ∷ 0 ∷ []) 2 (0 ∷ 0 ∷ [])
    ∷ plain (Fusing 0 2) 0 0 0 0
    ∷ plain (Accessing 1 (Read 0 0)) 8 0 0 2
    ∷ plain (Restarting 0) 0 0 0 0
    ∷ leaves (2 ∷ 0 ∷ 4 ∷ 1 ∷ []) 2 5 0 0
    ∷ gives (4 ∷ 1 ∷ 2 ∷ 0 ∷ 1 ∷ 0 ∷ 0 ∷ 0 ∷ []) 10 (6 ∷ 0 ∷ 0 ∷ 0 ∷ [])
    ∷ []

-- "Zero cells, an odd byte, more than 32, or a second buffer of another length give code 10, tested just after 2": a page out of range comes first, also past
-- the 32nd cell; "an odd byte" is no cell. 32 cells are done.
unfoldable pub wrong_lists : List Glance
wrong_lists =
    leaves [] 0 10 0 0
    ∷ leaves (9 ∷ []) 0 10 0 0
    ∷ leaves (0 ∷ 0 ∷ 0 ∷ []) 1 10 0 0
    ∷ leaves (0 ∷ 0 ∷ []) 2 10 0 0
    ∷ leaves (replicate 66 0) 33 10 0 0
    ∷ leaves (replicate 66 0 ++ (3 ∷ 0 ∷ [])) 34 2 0 0
    ∷ leaves (0 ∷ 16 ∷ []) 7 2 0 0
    ∷ plain (Accessing 3 (ReadCells [] 0)) 2 0 0 0
    ∷ gives (replicate 64 0) 0 (replicate 32 0)
    ∷ plain (Fusing 0 0) 0 0 0 0
    ∷ leaves [] 0 10 0 0
    ∷ leaves (0 ∷ 0 ∷ []) 1 3 0 0
    ∷ []

-- ---- on banks made by hand

-- records of these kinds stored in the selected area, each with count 0, which name this board
unfoldable pub with_stored : (peer : ℕ) → List Kind → Board → Board
with_stored peer kinds x =
    let log : List Record = map (λ kind. record { count = 0; kind = kind; peer = peer; bytes = zeros page_size }) kinds in
    with_stable (with_selected_area (with_area_log log x.stable.selected) x.stable) x

-- a well-formed bank, and what it answers
unfoldable pub glances_from : Bank → List Glance → Bool
glances_from k ls = well_formed (encode k) && glances_on ls k

-- "code 7 adds up the needs of all pages": board 1 has room for one record, so it gives one page, asked twice, but not two
unfoldable pub needs_added : Bool
needs_added =
    glances_from (on_board 1 (with_stored 0 (replicate 31 (Shown 1))) (fresh 2 4))
    (leaves (3 ∷ 0 ∷ 1 ∷ 0 ∷ []) 2 7 1 0 ∷ gives (3 ∷ 0 ∷ 3 ∷ 1 ∷ []) 1 (0 ∷ 0 ∷ []) ∷ [])

-- two gots are due at once, and cells that lack the right to both pages are code 5
unfoldable pub differs_with : Kind → Kind → Bool
differs_with one two =
    glances_from (on_board 0 (λ x. with_stored 1 (one ∷ two ∷ []) (powered_off x)) (fresh 3 3)) (plain (Restarting 0) 0 0 0 0 ∷ leaves twice 2 5 0 0 ∷ [])

-- "It needs them if their pages rise and it lacks each": pages that fall, the same page again, and a got of the other kind behind or before
unfoldable pub groups_differ : Bool
groups_differ =
    differs_with (Got GotCopy 2) (Got GotCopy 1)
    && (differs_with (Got GotCopy 1) (Got GotCopy 1)
    && (differs_with (Got GotCopy 1) (Got GotOwn 2) && differs_with (Got GotOwn 1) (Got GotCopy 2)))

unfoldable pub glances : Bool
glances =
    glances_on two_pages (fresh 3 5)
    && (glances_on giver_lost (fresh 3 3)
    && (glances_on first_giver_lost (fresh 3 3)
    && (glances_on end_lost (fresh 3 3)
    && (glances_on replay_ends (fresh 3 5) && (glances_on wrong_lists (fresh 3 3) && (needs_added && groups_differ))))))
