-- Document 01's marked cases (*), with the lengths of document 02's F-2, and a case of F-1, as a table: scripts, each call with the answer that the documents
-- give, run on bytes. The theorem is in Marked; Conversions has F-2's own case. Assumes nothing.
use Rattle.std.specs.Prelude.{ℕ, zero, suc, Bool, true, ◌&&◌, List, [], ◌∷◌, eqb}
use Rattle.types.specs.declared.Outcome.{Outcome}
use Rattle.model.specs.Definitions.Parts.{zeros, every}
use Rattle.model.specs.Definitions.Layout.{bank_size}
use Rattle.model.specs.Definitions.Bank.{board_at}
use Rattle.model.specs.Definitions.Codec.{decode}
use Rattle.model.specs.Definitions.Replay.{recovery_point}
use Rattle.model.specs.Definitions.Answers.{code, value, who}
use Rattle.model.specs.Definitions.Steps.{Read, Write}
use Rattle.model.specs.Definitions.Calls.{Call, Accessing, Fusing, Restarting, Reply, call, make}
use Rattle.cases.specs.Digest.{digest}

-- a line of a script and what it prints: code, value, who, stores
pub record Line : Type 0 where
  pub asks : Call
  pub prints : ℕ × ℕ × ℕ × ℕ

-- what is asked of the bytes that a script leaves
pub data Left : Type 0 where
  Anything : Left
  Digest : ℕ → Left
  RecoveryPoint : (board point : ℕ) → Left

-- a script on a bank made with these numbers of boards and pages
pub record Script : Type 0 where
  pub boards : ℕ
  pub pages : ℕ
  pub lines : List Line
  pub left : Left

-- ==== how the table is run

unfoldable pub agrees : ℕ × ℕ × ℕ × ℕ → Outcome → Bool
agrees e o = eqb (code o.answer) e.0 && (eqb (value o.answer) e.1 && (eqb (who o.answer) e.2 && eqb o.stores e.3))

unfoldable pub leaves : Left → List ℕ → Bool
leaves Anything s = true
leaves (Digest d) s = eqb (digest s) d
leaves (RecoveryPoint b n) s = eqb (recovery_point (board_at (decode s) b)) n

unfoldable pub passes_lines : List Line → Left → List ℕ → Bool
passes_lines [] left s = leaves left s
passes_lines (l ∷ ls) left s = let t : Reply = call l.asks s in agrees l.prints t.outcome && passes_lines ls left t.bytes

unfoldable pub passes_made : Script → Reply → Bool
passes_made c t = agrees (0, 0, 0, 0) t.outcome && passes_lines c.lines c.left t.bytes

unfoldable pub passes : Script → Bool
passes c = passes_made c (make c.boards c.pages (zeros (bank_size c.boards c.pages)))

-- ==== the table

-- "Case A, whole input"
unfoldable pub case_a : Script
case_a =
    record {
      boards = 2;
      pages = 1;
      lines =
          record { asks = Accessing 1 (Write 0 3 7); prints = (0, 0, 0, 2) }
          ∷ record { asks = Accessing 0 (Read 0 3); prints = (0, 7, 0, 1) }
          ∷ record { asks = Fusing 0 0; prints = (0, 0, 0, 0) }
          ∷ record { asks = Accessing 1 (Write 0 3 9); prints = (0, 0, 0, 0) }
          ∷ record { asks = Restarting 0; prints = (0, 0, 0, 3) }
          ∷ record { asks = Accessing 0 (Read 0 3); prints = (0, 9, 0, 1) }
          ∷ record { asks = Accessing 0 (Read 1 0); prints = (2, 0, 0, 0) }
          ∷ [];
      left = Digest 0x2e61eb440771ce30;
    }

-- case B up to its cut and restart
unfoldable pub case_bcut : List Line → List Line
case_bcut more =
    record { asks = Accessing 0 (Write 0 0 5); prints = (0, 0, 0, 0) }
    ∷ record { asks = Accessing 0 (Read 1 0); prints = (0, 0, 0, 1) }
    ∷ record { asks = Accessing 0 (Write 0 1 6); prints = (0, 0, 0, 0) }
    ∷ record { asks = Accessing 1 (Read 0 0); prints = (0, 5, 0, 2) }
    ∷ record { asks = Accessing 1 (Write 1 0 9); prints = (0, 0, 0, 0) }
    ∷ record { asks = Fusing 0 0; prints = (0, 0, 0, 0) }
    ∷ record { asks = Restarting 0; prints = (0, 0, 0, 0) }
    ∷ more

-- "The repeated R gives 0, the last W makes 4 stores, the last R gives 9 with 2 stores."
unfoldable pub case_b : Script
case_b =
    record {
      boards = 2;
      pages = 2;
      lines =
          case_bcut
          (record { asks = Accessing 0 (Write 0 0 5); prints = (0, 0, 0, 0) }
          ∷ record { asks = Accessing 0 (Read 1 0); prints = (0, 0, 0, 0) }
          ∷ record { asks = Accessing 0 (Write 0 1 6); prints = (0, 0, 0, 4) }
          ∷ record { asks = Accessing 0 (Read 1 0); prints = (0, 9, 0, 2) }
          ∷ []);
      left = Digest 0xeffed8a6cd10606b;
    }

-- code 2: "N 2 1, R 2 0 0"
unfoldable pub board_out_of_range : Script
board_out_of_range =
    record { boards = 2; pages = 1; lines = record { asks = Accessing 2 (Read 0 0); prints = (2, 0, 0, 0) } ∷ []; left = Anything }

-- code 3: "N 1 1, S 0"
unfoldable pub restart_of_up_board : Script
restart_of_up_board =
    record { boards = 1; pages = 1; lines = record { asks = Restarting 0; prints = (3, 0, 0, 0) } ∷ []; left = Anything }

-- code 5: "case B, after S 0: R 0 1 0"; and case B's "stand point of board 0 is 3"
unfoldable pub replay_differs : Script
replay_differs =
    record {
      boards = 2;
      pages = 2;
      lines = case_bcut (record { asks = Accessing 0 (Read 1 0); prints = (5, 0, 0, 0) } ∷ []);
      left = RecoveryPoint 0 3;
    }

-- code 6: "N 2 1, K 0, R 1 0 0"
unfoldable pub owner_not_up : Script
owner_not_up =
    record {
      boards = 2;
      pages = 1;
      lines = record { asks = Fusing 0 0; prints = (0, 0, 0, 0) } ∷ record { asks = Accessing 1 (Read 0 0); prints = (6, 0, 0, 0) } ∷ [];
      left = Anything;
    }

-- board w writes, then the other, and so on, n times done
unfoldable pub alternating : ℕ → ℕ → ℕ → List Line → List Line
alternating zero w o more = more
alternating (suc n) w o more =
    record { asks = Accessing w (Write 0 0 1); prints = (0, 0, 0, 3) } ∷ alternating n o w more

-- code 7: "N 2 1, 22nd write alternating from board 1"; "21st alternating write done"
unfoldable pub alternating_writes : Script
alternating_writes =
    record {
      boards = 2;
      pages = 1;
      lines =
          record { asks = Accessing 1 (Write 0 0 1); prints = (0, 0, 0, 2) }
          ∷ alternating 20 0 1 (record { asks = Accessing 0 (Write 0 0 1); prints = (7, 0, 0, 0) } ∷ []);
      left = Anything;
    }

-- code 8: "N 2 1, F 0 1, R 1 0 0"
unfoldable pub fuse_blows : Script
fuse_blows =
    record {
      boards = 2;
      pages = 1;
      lines = record { asks = Fusing 0 1; prints = (0, 0, 0, 0) } ∷ record { asks = Accessing 1 (Read 0 0); prints = (8, 0, 0, 1) } ∷ [];
      left = Anything;
    }

-- "offset 15 done"
unfoldable pub last_offset : Script
last_offset =
    record {
      boards = 1;
      pages = 1;
      lines = record { asks = Accessing 0 (Write 0 15 7); prints = (0, 0, 0, 0) } ∷ record { asks = Accessing 0 (Read 0 15); prints = (0, 7, 0, 0) } ∷ [];
      left = Anything;
    }

-- F-1: "fuse 0 cuts the board then and there, with no store. It answers code 0", up or replaying, and a set fuse goes with it; "code 2 then covers only
-- what is above 65,534"
unfoldable pub zero_fuse : Script
zero_fuse =
    record {
      boards = 2;
      pages = 1;
      lines =
          record { asks = Fusing 0 65534; prints = (0, 0, 0, 0) }
          ∷ record { asks = Fusing 0 65535; prints = (2, 0, 0, 0) }
          ∷ record { asks = Fusing 2 0; prints = (2, 0, 0, 0) }
          ∷ record { asks = Accessing 0 (Write 0 0 5); prints = (0, 0, 0, 0) }
          ∷ record { asks = Accessing 1 (Read 0 0); prints = (0, 5, 0, 1) }
          ∷ record { asks = Fusing 0 1; prints = (0, 0, 0, 0) }
          ∷ record { asks = Fusing 0 0; prints = (0, 0, 0, 0) }
          ∷ record { asks = Fusing 0 0; prints = (3, 0, 0, 0) }
          ∷ record { asks = Fusing 1 0; prints = (0, 0, 0, 0) }
          ∷ record { asks = Fusing 1 1; prints = (3, 0, 1, 0) }
          ∷ record { asks = Restarting 0; prints = (0, 0, 0, 0) }
          ∷ record { asks = Fusing 0 0; prints = (0, 0, 0, 0) }
          ∷ record { asks = Restarting 0; prints = (0, 0, 0, 0) }
          ∷ record { asks = Accessing 0 (Write 0 0 5); prints = (0, 0, 0, 3) }
          ∷ [];
      left = RecoveryPoint 0 1;
    }

unfoldable pub scripts : List Script
scripts =
    case_a ∷ case_b ∷ board_out_of_range ∷ restart_of_up_board ∷ replay_differs ∷ owner_not_up ∷ alternating_writes ∷ fuse_blows ∷ last_offset
    ∷ zero_fuse ∷ []

-- "N 1, P 1: 2,385" (document 02, F-2) accepted, 2,384 code 1; code 1: "3 bytes"
unfoldable pub lengths : Bool
lengths =
    agrees (0, 0, 0, 0) (make 1 1 (zeros 2385)).outcome
    && (agrees (1, 0, 0, 0) (make 1 1 (zeros 2384)).outcome && agrees (1, 0, 0, 0) (call (Accessing 0 (Read 0 0)) (zeros 3)).outcome)

unfoldable pub table : Bool
table = lengths && every passes scripts
