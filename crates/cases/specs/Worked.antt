-- Worked histories: lists of calls on a fresh bank, for the history's premise and claim. Definitions only. Assumes nothing.
use Rattle.std.specs.Prelude.{ℕ, List, [], ◌∷◌, map}
use Rattle.model.specs.Definitions.Steps.{Read, Write, ReadCells}
use Rattle.model.specs.Definitions.Calls.{Call, Accessing, Checkpointing, Fusing, Restarting}
use Rattle.cases.specs.Table.{Script, Anything, case_a, case_b}

-- calls on a bank made with these numbers of boards and pages
pub record Worked : Type 0 where
  pub boards : ℕ
  pub pages : ℕ
  pub calls : List Call

-- ---- those that keep the premise

unfoldable pub calls_of : Script → List Call
calls_of c = map (λ l. l.asks) c.lines

-- the fuse of board 0 blows at the first store of the checkpoint that ends its replay; the next replay ends well
unfoldable pub fuse_at_replay_end : List Call
fuse_at_replay_end =
    Accessing 0 (Write 0 0 5) ∷ Accessing 1 (Read 0 0) ∷ Fusing 0 0 ∷ Restarting 0 ∷ Fusing 0 1 ∷ Accessing 0 (Write 0 0 5) ∷ Restarting 0
    ∷ Accessing 0 (Write 0 0 5) ∷ Accessing 0 (Read 0 0) ∷ []

-- reads and writes, local and fetched, new and repeated, a checkpoint, and entries that a power loss discards
unfoldable pub every_entry : List Call
every_entry =
    Accessing 0 (Write 0 0 5) ∷ Accessing 0 (Read 0 0) ∷ Accessing 0 (Read 1 0) ∷ Accessing 0 (Write 1 2 6) ∷ Checkpointing 0 ∷ Accessing 0 (Read 1 2)
    ∷ Accessing 0 (Write 0 1 7) ∷ Accessing 1 (Read 0 1) ∷ Accessing 1 (Write 0 1 8) ∷ Fusing 0 0 ∷ Restarting 0 ∷ Accessing 0 (Read 1 2)
    ∷ Accessing 0 (Write 0 1 7) ∷ Accessing 0 (Read 0 1) ∷ Accessing 0 (Write 0 3 9) ∷ Fusing 0 0 ∷ []

-- the fuse of board 0 blows in its flush for board 1, at a record that it had made before: all its entries are discarded
unfoldable pub fuse_in_flush : List Call
fuse_in_flush =
    Accessing 0 (Read 1 0) ∷ Accessing 0 (Write 0 0 5) ∷ Fusing 0 1 ∷ Accessing 1 (Read 0 0) ∷ Restarting 0 ∷ Accessing 0 (Read 1 0)
    ∷ Accessing 1 (Read 0 0) ∷ []

-- the fuse blows at a checkpoint's selector, which has moved the recovery point: no entry is discarded
unfoldable pub fuse_at_selector : List Call
fuse_at_selector = Accessing 0 (Write 0 0 5) ∷ Fusing 0 3 ∷ Checkpointing 0 ∷ Restarting 0 ∷ Accessing 0 (Read 0 0) ∷ []

-- board 1 gives its page to board 0, whose replay ended in the same access
unfoldable pub given_after_replay : List Call
given_after_replay = Accessing 1 (Read 1 0) ∷ Fusing 0 1 ∷ Accessing 0 (Write 1 0 9) ∷ Restarting 0 ∷ Accessing 0 (Write 1 0 4) ∷ []

-- board 1 loses power before its got own is stored: board 0 is still the owner, and comes back with the page
unfoldable pub taker_cut : List Call
taker_cut =
    Accessing 0 (Write 0 0 5) ∷ Accessing 1 (Read 2 0) ∷ Fusing 1 1 ∷ Accessing 1 (Write 0 0 6) ∷ Restarting 1 ∷ Accessing 1 (Read 2 0) ∷ Fusing 0 0
    ∷ Restarting 0 ∷ Accessing 0 (Write 0 0 5) ∷ Accessing 0 (Read 0 0) ∷ Accessing 1 (Read 0 0) ∷ []

-- a replaying board asks for what its log doesn't have, code 5, and then goes on as if it had not; its next write drops the copy that board 1 holds
unfoldable pub refused_in_replay : List Call
refused_in_replay =
    Accessing 0 (Write 0 0 5) ∷ Accessing 1 (Read 0 0) ∷ Fusing 0 0 ∷ Restarting 0 ∷ Accessing 0 (Read 1 0) ∷ Accessing 0 (Write 0 0 5)
    ∷ Accessing 0 (Write 0 0 7) ∷ Accessing 1 (Read 0 0) ∷ []

-- cells of two other boards' pages and of an own one, repeated in their order, then read anew; board 2 has written since
unfoldable pub cells_repeated : List Call
cells_repeated =
    Accessing 1 (Write 1 0 7) ∷ Accessing 2 (Write 2 0 8) ∷ Accessing 0 (Read 0 0) ∷ Accessing 0 (ReadCells (2 ∷ 0 ∷ 1 ∷ 0 ∷ 0 ∷ 0 ∷ 2 ∷ 0 ∷ []) 4)
    ∷ Accessing 0 (Write 0 0 9) ∷ Accessing 1 (Read 0 0) ∷ Accessing 2 (Write 2 0 18) ∷ Fusing 0 0 ∷ Restarting 0 ∷ Accessing 0 (Read 0 0)
    ∷ Accessing 0 (ReadCells (2 ∷ 0 ∷ 1 ∷ 0 ∷ 0 ∷ 0 ∷ 2 ∷ 0 ∷ []) 4) ∷ Accessing 0 (Write 0 0 9)
    ∷ Accessing 0 (ReadCells (2 ∷ 0 ∷ 1 ∷ 0 ∷ 0 ∷ 0 ∷ 2 ∷ 0 ∷ []) 4) ∷ []

-- A holder gives a copy while the owner is down, loses power itself and repeats; the owner comes back, repeats its write and takes both copies back with
-- the next one.
unfoldable pub holder_repeats : List Call
holder_repeats =
    Accessing 0 (Write 0 0 5) ∷ Accessing 1 (Read 0 0) ∷ Fusing 0 0 ∷ Accessing 2 (Read 0 0) ∷ Fusing 1 0 ∷ Restarting 1 ∷ Accessing 1 (Read 0 0)
    ∷ Restarting 0 ∷ Accessing 0 (Write 0 0 5) ∷ Accessing 0 (Write 0 0 6) ∷ Accessing 2 (Read 0 0) ∷ Accessing 1 (Read 0 0) ∷ []

unfoldable pub histories : List Worked
histories =
    record { boards = 2; pages = 1; calls = calls_of case_a }
    ∷ record { boards = 2; pages = 2; calls = calls_of case_b }
    ∷ record { boards = 2; pages = 1; calls = fuse_at_replay_end }
    ∷ record { boards = 2; pages = 2; calls = every_entry }
    ∷ record { boards = 2; pages = 2; calls = fuse_in_flush }
    ∷ record { boards = 2; pages = 1; calls = fuse_at_selector }
    ∷ record { boards = 2; pages = 2; calls = given_after_replay }
    ∷ record { boards = 2; pages = 3; calls = taker_cut }
    ∷ record { boards = 2; pages = 2; calls = refused_in_replay }
    ∷ record { boards = 3; pages = 3; calls = cells_repeated }
    ∷ record { boards = 3; pages = 2; calls = holder_repeats }
    ∷ []

-- ---- those that break it

-- board 0 writes another byte than the one that board 1 has seen, and then reads it back
unfoldable pub other_byte : List Call
other_byte = Accessing 0 (Write 0 0 5) ∷ Accessing 1 (Read 0 0) ∷ Fusing 0 0 ∷ Restarting 0 ∷ Accessing 0 (Write 0 0 7) ∷ Accessing 0 (Read 0 0) ∷ []

-- board 0 writes another byte than before, and its repeated read gives that one; no new entry contradicts one memory
unfoldable pub other_byte_repeated : List Call
other_byte_repeated =
    Accessing 0 (Write 0 0 5) ∷ Accessing 0 (Read 0 0) ∷ Accessing 1 (Read 0 0) ∷ Fusing 0 0 ∷ Restarting 0 ∷ Accessing 0 (Write 0 0 7)
    ∷ Accessing 0 (Read 0 0) ∷ []

-- board 0 asks for the same cells in another order
unfoldable pub other_order : List Call
other_order =
    Accessing 0 (ReadCells (2 ∷ 0 ∷ 1 ∷ 0 ∷ []) 2) ∷ Accessing 1 (Read 0 0) ∷ Fusing 0 0 ∷ Restarting 0 ∷ Accessing 0 (ReadCells (1 ∷ 0 ∷ 2 ∷ 0 ∷ []) 2) ∷ []

-- a read in place of a list of that one cell
unfoldable pub read_for_cells : List Call
read_for_cells = Accessing 0 (ReadCells (1 ∷ 0 ∷ []) 1) ∷ Accessing 1 (Read 0 0) ∷ Fusing 0 0 ∷ Restarting 0 ∷ Accessing 0 (Read 1 0) ∷ []

-- another order answered 8: the fuse of board 0 blows at the end of its replay
unfoldable pub other_order_lost : List Call
other_order_lost =
    Accessing 0 (ReadCells (2 ∷ 0 ∷ 1 ∷ 0 ∷ []) 2) ∷ Accessing 1 (Read 0 0) ∷ Fusing 0 0 ∷ Restarting 0 ∷ Fusing 0 1
    ∷ Accessing 0 (ReadCells (1 ∷ 0 ∷ 2 ∷ 0 ∷ []) 2) ∷ []

-- ---- pages given

-- boards 1 and 2, after three and two accesses, give a page each to board 0
unfoldable pub two_givers : List Call
two_givers =
    Accessing 1 (Read 1 0) ∷ Accessing 1 (Read 1 0) ∷ Accessing 1 (Read 1 0) ∷ Accessing 2 (Read 2 0) ∷ Accessing 2 (Read 2 0)
    ∷ Accessing 0 (ReadCells (2 ∷ 0 ∷ 1 ∷ 0 ∷ []) 2) ∷ []

-- the same, but the fuse of board 2 blows
unfoldable pub giver_cut : List Call
giver_cut =
    Accessing 1 (Read 1 0) ∷ Accessing 1 (Read 1 0) ∷ Accessing 1 (Read 1 0) ∷ Accessing 2 (Read 2 0) ∷ Accessing 2 (Read 2 0) ∷ Fusing 2 1
    ∷ Accessing 0 (ReadCells (2 ∷ 0 ∷ 1 ∷ 0 ∷ []) 2) ∷ []

-- ---- a replay

-- two records of board 0 are due at once: its replay ends with the repeated write, by a checkpoint of five stores
unfoldable pub two_due : Script
two_due =
    record {
      boards = 2;
      pages = 3;
      lines =
          record { asks = Accessing 0 (Write 0 0 5); prints = (0, 0, 0, 0) }
          ∷ record { asks = Accessing 1 (Read 0 0); prints = (0, 5, 0, 1) }
          ∷ record { asks = Accessing 1 (Read 2 0); prints = (0, 0, 0, 1) }
          ∷ record { asks = Fusing 0 0; prints = (0, 0, 0, 0) }
          ∷ record { asks = Restarting 0; prints = (0, 0, 0, 0) }
          ∷ record { asks = Accessing 0 (Write 0 0 5); prints = (0, 0, 0, 5) }
          ∷ [];
      left = Anything;
    }
