-- The stores of Steps made on one board by itself, without the bank. There are two ways to make one list of stores because a store reaches beyond
-- the block in one thing: the bits that the directory loses where the fuse blew. Assumes nothing.
use Rattle.std.specs.Prelude.{ℕ, ◌+◌, Bool, true, false, eqb}
use mathlib.Core.List.{List, foldl}
use Rattle.types.specs.declared.Kind.{Kind}
use Rattle.model.specs.Definitions.Bank.{Board, on_working}
use Rattle.model.specs.Definitions.Steps.{powered_off, burnt, recorded, record_stores, checkpoint_stores, rested_working}

-- the board so far, its stores, and whether its fuse blew
pub record BoardRun : Type 0 where
  pub board : Board
  pub stores : ℕ
  pub lost : Bool

unfoldable pub start_on : Board → BoardRun
start_on x = record { board = x; stores = 0; lost = false }

-- a board right after a store: its fuse lowered, and without power where that blew
unfoldable pub spent : Board → Board
spent x = elim (eqb (burnt x).fuse 0) [ true ↦ powered_off (burnt x) | false ↦ burnt x ]

-- `step`, `store`, `store_all`, `flush` and `checkpoint` of Steps, on a board
unfoldable pub step_on : (Board → Board) → BoardRun → BoardRun
step_on f r = elim r.lost [ true ↦ r | false ↦ record { board = f r.board; stores = r.stores; lost = false } ]

unfoldable pub store_on : (Board → Board) → BoardRun → BoardRun
store_on f r =
    elim r.lost [
      | true ↦ r
      | false ↦ record { board = spent (f r.board); stores = r.stores + 1; lost = eqb (burnt (f r.board)).fuse 0 }
    ]

unfoldable pub store_all_on : List (Board → Board) → BoardRun → BoardRun
store_all_on fs r = foldl (λ s f. store_on f s) r fs

unfoldable pub flush_on : Board → BoardRun
flush_on x = store_all_on (record_stores x) (start_on x)

-- a record noted, then a flush
unfoldable pub logged_on : Kind → (peer : ℕ) → List ℕ → Board → BoardRun
logged_on kind peer bytes x = flush_on (on_working (recorded kind peer bytes) x)

unfoldable pub checkpoint_on : ℕ → Board → BoardRun
checkpoint_on pages x = step_on (on_working rested_working) (store_all_on (checkpoint_stores pages) (start_on x))
