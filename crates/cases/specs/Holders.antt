-- Document 02's F-4 worked through: reads while a page's owner is down or replays, each call with the answer that the documents give. Definitions only; the
-- theorem is in Computed. Assumes nothing.
use Rattle.std.specs.Prelude.{Bool, ◌&&◌, List, [], ◌∷◌, replicate}
use Rattle.types.specs.declared.Kind.TheVariants.{Shown}
use Rattle.model.specs.Definitions.Bank.{fresh, on_board}
use Rattle.model.specs.Definitions.Steps.{Read, Write}
use Rattle.model.specs.Definitions.Calls.{Call, Accessing, Checkpointing, Fusing, Restarting}
use Rattle.cases.specs.Table.{Script, Digest}
use Rattle.cases.specs.Cells.{Glance, glances_on, plain, leaves, gives, with_stored, glances_from}

-- Board 1 holds a copy and gives it: it stores its got and the shown. "A write still needs the owner.", also a holder's. The owner comes back, and its write
-- takes back the copy that it didn't give, too.
unfoldable pub holder_gives : List Glance
holder_gives =
    plain (Accessing 1 (Read 0 0)) 0 0 0 1
    ∷ plain (Fusing 0 0) 0 0 0 0
    ∷ plain (Accessing 2 (Read 0 0)) 0 0 0 2
    ∷ plain (Accessing 2 (Write 0 0 5)) 6 0 0 0
    ∷ plain (Accessing 1 (Write 0 0 5)) 6 0 0 0
    ∷ plain (Restarting 0) 0 0 0 3
    ∷ plain (Accessing 0 (Write 0 0 5)) 0 0 0 0
    ∷ plain (Accessing 2 (Read 0 0)) 0 5 0 1
    ∷ []

-- "the owner if up, otherwise ..": a replaying owner isn't up
unfoldable pub owner_replays : List Glance
owner_replays =
    plain (Accessing 0 (Write 0 0 5)) 0 0 0 0
    ∷ plain (Accessing 1 (Read 0 0)) 0 5 0 1
    ∷ plain (Fusing 0 0) 0 0 0 0
    ∷ plain (Restarting 0) 0 0 0 0
    ∷ plain (Accessing 2 (Read 0 0)) 0 5 0 2
    ∷ plain (Accessing 2 (Write 0 0 6)) 6 0 0 0
    ∷ plain (Accessing 0 (Write 0 0 5)) 0 0 0 4
    ∷ []

-- "the lowest-numbered board in the copy-set": board 1 has two records to store, board 2 after its checkpoint one. Then board 2 gives and loses its power at
-- that store, and with the copy-set empty it is code 6.
unfoldable pub lowest_gives : List Glance
lowest_gives =
    plain (Accessing 2 (Read 0 0)) 0 0 0 1
    ∷ plain (Accessing 1 (Read 0 0)) 0 0 0 1
    ∷ plain (Checkpointing 2) 0 0 0 3
    ∷ plain (Fusing 0 0) 0 0 0 0
    ∷ plain (Accessing 3 (Read 0 0)) 0 0 0 2
    ∷ plain (Fusing 1 0) 0 0 0 0
    ∷ plain (Fusing 3 0) 0 0 0 0
    ∷ plain (Restarting 3) 0 0 0 3
    ∷ plain (Fusing 2 1) 0 0 0 0
    ∷ plain (Accessing 3 (Read 0 0)) 8 0 2 1
    ∷ plain (Accessing 3 (Read 0 0)) 6 0 0 0
    ∷ []

-- "a page of a shelf call": board 1 gives its own page 1, and page 2, of which it holds a copy
unfoldable pub both_given : List Glance
both_given =
    plain (Accessing 1 (Read 2 0)) 0 0 0 1
    ∷ plain (Fusing 2 0) 0 0 0 0
    ∷ gives (2 ∷ 0 ∷ 1 ∷ 0 ∷ []) 3 (0 ∷ 0 ∷ [])
    ∷ []

-- the owners of pages 1 and 2 are down, and page 1 can be had from board 3: "Code 6 .. means owner not up and copy-set empty", so it names the owner of page 2
unfoldable pub other_missing : List Glance
other_missing =
    plain (Accessing 3 (Read 1 0)) 0 0 0 1
    ∷ plain (Fusing 1 0) 0 0 0 0
    ∷ plain (Fusing 2 0) 0 0 0 0
    ∷ leaves (2 ∷ 0 ∷ 1 ∷ 0 ∷ []) 2 6 2 0
    ∷ gives (1 ∷ 0 ∷ []) 2 (0 ∷ [])
    ∷ []

-- "its need in code 7 moves to the giver": board 1, with 31 records stored and one more, can't give; board 2, full when it goes down, is asked for nothing
unfoldable pub giver_charged : Bool
giver_charged =
    glances_from (on_board 1 (with_stored 0 (replicate 31 (Shown 1))) (fresh 3 3))
    (plain (Accessing 1 (Read 2 0)) 0 0 0 1 ∷ plain (Fusing 2 0) 0 0 0 0 ∷ plain (Accessing 0 (Read 2 0)) 7 0 1 0 ∷ [])
    && glances_from (on_board 2 (with_stored 0 (replicate 31 (Shown 2))) (fresh 3 3))
    (plain (Accessing 1 (Read 2 0)) 0 0 0 1 ∷ plain (Fusing 2 0) 0 0 0 0 ∷ plain (Accessing 0 (Read 2 0)) 0 0 0 2 ∷ [])

unfoldable pub holders : Bool
holders =
    glances_on holder_gives (fresh 3 1)
    && (glances_on owner_replays (fresh 3 2)
    && (glances_on lowest_gives (fresh 4 1) && (glances_on both_given (fresh 3 3) && (glances_on other_missing (fresh 4 4) && giver_charged))))

-- every byte that a holder's gift leaves, as a digest; the refused write changes none
unfoldable pub holder_gave : Script
holder_gave =
    record {
      boards = 3;
      pages = 1;
      lines =
          record { asks = Accessing 1 (Read 0 0); prints = (0, 0, 0, 1) }
          ∷ record { asks = Fusing 0 0; prints = (0, 0, 0, 0) }
          ∷ record { asks = Accessing 2 (Read 0 0); prints = (0, 0, 0, 2) }
          ∷ record { asks = Accessing 2 (Write 0 0 5); prints = (6, 0, 0, 0) }
          ∷ [];
      left = Digest 0xb0ac5a6cbb413b2f;
    }

-- ---- who gave

-- after one access board 0 gives a page to board 1, which after two gives it to board 2
unfoldable pub passed_on : List Call
passed_on = Accessing 0 (Write 0 0 5) ∷ Accessing 1 (Read 0 0) ∷ Accessing 1 (Read 0 0) ∷ Fusing 0 0 ∷ Accessing 2 (Read 0 0) ∷ []
