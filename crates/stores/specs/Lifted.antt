-- A board's run lifted to the bank: `store`, `step`, `flush` and `checkpoint` of Definitions, made on a bank, are those of the board's run.
-- Assumes nothing.
use Rattle.std.specs.Prelude.{◌≡◌, ℕ, ◌+◌, ◌<◌, length, eqb}
use Rattle.std.proofs.Math.Path.{refl, sym, ap}
use Rattle.std.proofs.Common.{◌∙◌, eqb-true}
use native.Mathlib.Omega.{arith}
use Rattle.std.proofs.Math.Bool.{true, false}
use Rattle.std.proofs.Math.Option.{none, some}
use mathlib.Core.List.{List, [], ◌∷◌, map}
use Rattle.std.proofs.lemmas.Bool.{eqb-false}
use Rattle.types.specs.declared.Kind.{Kind}
use Rattle.model.specs.Definitions.Parts.{update}
use Rattle.model.specs.Definitions.Bank.{Board, Bank, no_board, board_at, on_board, on_working}
use Rattle.model.specs.Definitions.Steps.{Run, step, forgotten, powered_off, power_off, burnt, store, recorded, store_all, note, record_stores, flush}
use Rattle.model.specs.Definitions.Steps.{checkpoint_stores, rested_working, checkpoint}
use Rattle.model.specs.Definitions.BoardRuns.{BoardRun, start_on, step_on, store_on, store_all_on, flush_on, logged_on, checkpoint_on}
use Rattle.model.proofs.Laws.Logic.{by_bool}
use Rattle.model.proofs.Laws.Lists.{update_set}
use Rattle.model.proofs.Laws.EachFirst.{update_same}
use Rattle.model.proofs.Laws.Boards.{update_update, boards_on_board, board_at_same, on_board_on_board}
use Rattle.model.proofs.Laws.BankSteps.{store_kept, store_cut}
use Rattle.stores.specs.RunLaws.{step_on_lost, step_on_going, store_on_lost, store_on_cut, store_on_kept}

-- the bank's run that a board's run stands for: n stores were made before it
unfoldable pub lifted : ℕ → ℕ → Bank → BoardRun → Run
lifted b n k r =
    elim r.lost [
      | true ↦
          record {
            bank = record { directory = map (forgotten b) k.directory; boards = update b (λ x. r.board) k.boards };
            stores = n + r.stores;
            lost = some b;
          }
      | false ↦ record { bank = on_board b (λ x. r.board) k; stores = n + r.stores; lost = none }
    ]

module _ (b n : ℕ) (k : Bank) where
  pub lifted_lost : (r : BoardRun) → r.lost ≡ true
      → lifted b n k r
      ≡ record {
        bank = record { directory = map (forgotten b) k.directory; boards = update b (λ x. r.board) k.boards };
        stores = n + r.stores;
        lost = some b;
      }
  unfolding lifted
  lifted_lost r t = rw t

  pub lifted_going : (r : BoardRun) → r.lost ≡ false
      → lifted b n k r ≡ record { bank = on_board b (λ x. r.board) k; stores = n + r.stores; lost = none }
  unfolding lifted
  lifted_going r t = rw t

-- power lost at board b, where x stood
off_set : (b : ℕ) (k : Bank) (g : Board → Board) (x : Board)
    → power_off b (on_board b g (on_board b (λ y. x) k))
    ≡ record { directory = map (forgotten b) k.directory; boards = update b (λ y. powered_off (g x)) k.boards }
unfolding power_off on_board
off_set b k g x = rw (update_update b (λ y. x) g k.boards, update_update b (λ y. g x) powered_off k.boards)

module _ (b n : ℕ) (k : Bank) (h : b < length k.boards) where
  abbrev board : BoardRun → Bank
  board r = on_board b (λ x. r.board) k

  abbrev going : BoardRun → Run
  going r = record { bank = board r; stores = n + r.stores; lost = none }

  there : (r : BoardRun) → b < length (board r).boards
  there r = rw (boards_on_board b (λ x. r.board) k) h

  here : (r : BoardRun) → board_at (board r) b ≡ r.board
  here r = board_at_same b (λ x. r.board) k h

  pub step_lifted : (f : Board → Board) (r : BoardRun) → step (on_board b f) (lifted b n k r) ≡ lifted b n k (step_on f r)
  unfolding step
  step_lifted f r =
      by_bool r.lost
      (λ t. rw (step_on_lost f r t, lifted_lost b n k r t))
      (λ t.
      rw (step_on_going f r t, lifted_going b n k r t, lifted_going b n k (record { board = f r.board; stores = r.stores; lost = false }) refl)
      (ap (λ (j : Bank). record { bank = j; stores = n + r.stores; lost = none }) (on_board_on_board b (λ x. r.board) f k)))

  pub store_lifted : (f : Board → Board) (r : BoardRun) → store b f (lifted b n k r) ≡ lifted b n k (store_on f r)
  unfolding store
  store_lifted f r =
      by_bool r.lost
      (λ t. rw (store_on_lost f r t, lifted_lost b n k r t))
      (λ t.
      let g : Board → Board = λ x. burnt (f x) in
      let e : n + r.stores + 1 ≡ n + (r.stores + 1) = omega arith in
      by_bool (eqb (burnt (f r.board)).fuse 0)
      (λ z.
      let cut : BoardRun = record { board = powered_off (g r.board); stores = r.stores + 1; lost = true } in
      rw (store_on_cut f r t z, lifted_going b n k r t, lifted_lost b n k cut refl, ← off_set b k g r.board, ← e)
      (store_cut b f (going r) refl (there r) (rw (here r) (eqb-true (burnt (f r.board)).fuse 0 z))))
      (λ z.
      let kept : BoardRun = record { board = g r.board; stores = r.stores + 1; lost = false } in
      rw (store_on_kept f r t z, lifted_going b n k r t, lifted_going b n k kept refl, ← on_board_on_board b (λ x. r.board) g k, ← e)
      (store_kept b f (going r) refl (there r) (rw (here r) (eqb-false (burnt (f r.board)).fuse 0 z)))))

  -- a run that begins
  pub begun_lifted : record { bank = k; stores = n; lost = none } ≡ lifted b n k (start_on (board_at k b))
  unfolding lifted start_on on_board board_at
  begun_lifted =
      let e : update b (λ x. board_at k b) k.boards ≡ k.boards
      = update_set b (λ x. board_at k b) k.boards no_board h ∙ sym (update_set b (λ x. x) k.boards no_board h) ∙ update_same b k.boards in
      let z : n + 0 ≡ n = omega arith in
      rw (e, z)

  -- stores one after another
  stores_lifted : (fs : List (Board → Board)) (r : BoardRun) → store_all b fs (lifted b n k r) ≡ lifted b n k (store_all_on fs r)
  unfolding store_all store_all_on
  stores_lifted [] r = refl
  stores_lifted (f ∷ fs) r = ap (store_all b fs) (store_lifted f r) ∙ stores_lifted fs (store_on f r)

  -- a flush by a board that stored nothing in this run
  flush_begun : (x : Board) → flush b (lifted b n k (start_on x)) ≡ lifted b n k (flush_on x)
  unfolding flush flush_on start_on
  flush_begun x =
      let e : board_at (lifted b n k (start_on x)).bank b ≡ x = ap (λ (r : Run). board_at r.bank b) (lifted_going b n k (start_on x) refl) ∙ here (start_on x) in
      rw e (stores_lifted (record_stores x) (start_on x))

  pub logged_lifted : (kind : Kind) (peer : ℕ) (bytes : List ℕ)
      → flush b (step (note b kind peer bytes) (record { bank = k; stores = n; lost = none })) ≡ lifted b n k (logged_on kind peer bytes (board_at k b))
  unfolding note logged_on step_on start_on
  logged_lifted kind peer bytes =
      let f : Board → Board = on_working (recorded kind peer bytes) in
      ap (λ (r : Run). flush b (step (on_board b f) r)) begun_lifted ∙ ap (flush b) (step_lifted f (start_on (board_at k b))) ∙ flush_begun (f (board_at k b))

  pub checkpoint_lifted : checkpoint b (record { bank = k; stores = n; lost = none }) ≡ lifted b n k (checkpoint_on (length k.directory) (board_at k b))
  unfolding checkpoint checkpoint_on
  checkpoint_lifted =
      let f : Board → Board = on_working rested_working in
      let fs : List (Board → Board) = checkpoint_stores (length k.directory) in
      let r : BoardRun = start_on (board_at k b) in
      ap (λ (r : Run). step (on_board b f) (store_all b fs r)) begun_lifted
      ∙ ap (step (on_board b f)) (stores_lifted fs r)
      ∙ step_lifted f (store_all_on fs r)
