-- A board's run of stores made in its block, which is lent from a bank: the bank's run, where the board has its power yet and where it lost it.
-- Assumes nothing.
use Rattle.std.specs.Prelude.{◌≡◌, ℕ, ◌+◌, ◌-◌, Bool, List, ◌++◌, map, length, take, drop, Result, Ok, Err, is_err}
use Rattle.std.proofs.Math.Path.{refl}
use Rattle.std.proofs.Common.{sym, ◌∙◌}
use Rattle.std.proofs.Math.Bool.{true, false}
use Rattle.model.specs.Definitions.Bank.{Board, board_at, on_board}
use Rattle.model.specs.Definitions.Codec.{encode_board, encode, decode}
use Rattle.model.specs.Definitions.WellFormed.{FieldsOk}
use Rattle.model.specs.Definitions.Steps.{forgotten}
use Rattle.model.specs.Definitions.BoardRuns.{BoardRun}
use Rattle.model.proofs.Laws.Boards.{boards_on_board}
use Rattle.steps.specs.Blocks.{board_of}
use Rattle.steps.specs.BankBlocks.{LentBlock, lent_board}
use Rattle.stores.specs.declared.spend.PowerLost.{PowerLost}
use Rattle.stores.specs.Clauses.{is_lost}
use Rattle.stores.specs.Lifted.{lifted, lifted_lost, lifted_going}
use Rattle.copies.specs.Banks.{Holds, OfBank, holds_decode, holds_of, lent_holds}
use Rattle.exchange.specs.Progress.{lost_by, Came}

-- an error is a loss
pub lost_told : (r : Result ℕ PowerLost) → is_lost r ≡ is_err r
lost_told (Ok x) = refl
lost_told (Err e) = refl

module _ {s : List ℕ} {pages b a n : ℕ} (o : OfBank pages b s) (l : LentBlock (decode s) s pages b a n) (run : Board → BoardRun)
    (v : FieldsOk pages (run (board_at (decode s) b)).board) (ys : List ℕ) (kept : length ys ≡ length (take (a + n - a) (drop a s)))
    (e : ys ≡ encode_board (run (board_of pages (take (a + n - a) (drop a s)))).board) where
  -- the bank with the board as its run left it
  pub run_holds : Holds (take a s ++ (ys ++ drop (a + n - a) (drop a s))) (on_board b (λ x. (run (board_at (decode s) b)).board) (decode s))
  run_holds = lent_holds o l (λ x. (run (board_at (decode s) b)).board) ys v kept (e ∙ rw (lent_board l))

  pub run_of : OfBank pages b (take a s ++ (ys ++ drop (a + n - a) (drop a s)))
  unfolding on_board
  run_of =
      let x : Board = (run (board_at (decode s) b)).board in
      holds_of run_holds pages b o.count (rw (boards_on_board b (λ y. x) (decode s)) o.board)

  module _ (stores : ℕ) (t : Bool) (m : stores ≡ (run (board_of pages (take (a + n - a) (drop a s)))).stores)
      (q : t ≡ (run (board_of pages (take (a + n - a) (drop a s)))).lost) where
    -- the board has its power yet
    pub run_going : t ≡ false → (made : ℕ) → Came (take a s ++ (ys ++ drop (a + n - a) (drop a s))) (made + stores) (lost_by b t)
        (lifted b made (decode s) (run (board_at (decode s) b)))
    unfolding lost_by
    run_going z made =
        let r : BoardRun = run (board_at (decode s) b) in
        let lost : r.lost ≡ false = rw (lent_board l) at (sym q ∙ z) in
        rw (lifted_going b made (decode s) r lost, z) (record { bytes = run_holds.bytes; stores = rw (m, lent_board l); lost = refl })

    -- it lost it: its bits are out of the directory
    pub run_lost : t ≡ true → (zs : List ℕ)
        → zs
        ≡ encode (record {
          directory = map (forgotten b) (decode (take a s ++ (ys ++ drop (a + n - a) (drop a s)))).directory;
          boards = (decode (take a s ++ (ys ++ drop (a + n - a) (drop a s)))).boards;
        })
        → (made : ℕ) → Came zs (made + stores) (lost_by b t) (lifted b made (decode s) (run (board_at (decode s) b)))
    unfolding lost_by on_board
    run_lost z zs w made =
        let r : BoardRun = run (board_at (decode s) b) in
        let lost : r.lost ≡ true = rw (lent_board l) at (sym q ∙ z) in
        rw (lifted_lost b made (decode s) r lost, z)
        (record { bytes = w ∙ rw (holds_decode run_holds); stores = rw (m, lent_board l); lost = refl })
