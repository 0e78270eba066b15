-- One store on a block: what a run that has its power yet comes to when its next step is done to the block and `spend` follows. Assumes nothing.
use Rattle.std.specs.Prelude.{◌≡◌, ℕ, ◌+◌, ◌≤◌, Bool, true, false, List, Result, IsErrAnd}
use Rattle.std.proofs.Math.Path.{refl, ap}
use Rattle.std.proofs.Common.{sym, ◌∙◌}
use Rattle.std.proofs.Math.Dec.{eqb}
use Rattle.std.proofs.lemmas.Result.{err_from_is_err_and}
use Rattle.model.specs.Definitions.Layout.{most_pages}
use Rattle.model.specs.Definitions.Bank.{Board}
use Rattle.model.specs.Definitions.Codec.{encode_board}
use Rattle.model.specs.Definitions.WellFormed.{FieldsOk}
use Rattle.model.specs.Definitions.Steps.{burnt}
use Rattle.model.specs.Definitions.BoardRuns.{BoardRun, spent, step_on, store_on}
use Rattle.steps.specs.Blocks.{IsBlock, board_of}
use Rattle.steps.specs.BlockLaws.{board_written, block_written}
use Rattle.stores.specs.declared.spend.PowerLost.{PowerLost}
use Rattle.stores.specs.Clauses.{stores_made, is_lost}
use Rattle.stores.specs.RunFields.{spent_fields}

-- what is left of a run: the block, how many stores, whether power was lost
abbrev pub Ran : BoardRun → List ℕ → ℕ → Bool → Type 0
Ran r l n t = (l ≡ encode_board r.board) × (n ≡ r.stores) × (t ≡ r.lost)

-- the error of a run that lost its power, passed on by `?`
pub passed_on : (q : BoardRun) {l : List ℕ} {n : ℕ} (r : Result ℕ PowerLost) (e : PowerLost) → IsErrAnd r (λ x. x ≡ e) → e.stores ≡ n → Ran q l n true
    → Ran q l (stores_made r) (is_lost r)
passed_on q r e h m w = let p = err_from_is_err_and r h in rw (p.1, p.2, m) w

-- a run of n stores that has its power yet
abbrev pub going : Board → ℕ → BoardRun
going x n = record { board = x; stores = n; lost = false }

-- what `spend` makes of block m, and what it says
abbrev pub Spent : ℕ → List ℕ → List ℕ → Bool → Type 0
Spent pages m o t = (t ≡ eqb (burnt (board_of pages m)).fuse 0) × (o ≡ encode_board (spent (board_of pages m)))

-- a run that has its power yet: after n stores its board is that of block l
pub record At (pages : ℕ) (r : BoardRun) (l : List ℕ) (n : ℕ) : Type 0 where
  pub block : IsBlock pages l
  pub run : r ≡ going (board_of pages l) n

pub at_ran : {pages : ℕ} {r : BoardRun} {l : List ℕ} {n : ℕ} {t : Bool} → pages ≤ most_pages → FieldsOk pages r.board → Ran r l n t → t ≡ false
    → At pages r l n
at_ran {pages} {r} {l} few ok w z =
    let e : r.board ≡ board_of pages l = sym (board_written r.board few ok w.0) in
    record { block = block_written r.board few ok w.0; run = λ i. record { board = e i; stores = sym w.1 i; lost = (sym w.2 ∙ z) i } }

-- f done to the block gives m
module _ {pages : ℕ} {r : BoardRun} {l : List ℕ} {n : ℕ} (a : At pages r l n) (f : Board → Board) {m : List ℕ} (w : m ≡ encode_board (f (board_of pages l))) where
  -- a step that stores nothing
  pub at_stepped : Ran (step_on f r) m n false
  unfolding step_on
  at_stepped = rw a.run (w, refl, refl)

  -- a store, if f keeps every field in range
  module _ (ok : FieldsOk pages (f (board_of pages l))) where
    pub at_block : IsBlock pages m
    at_block = block_written (f (board_of pages l)) a.block.few ok w

    module _ {o : List ℕ} {t : Bool} (s : Spent pages m o t) where
      ran : Ran (store_on f (going (board_of pages l) n)) o (n + 1) t
      unfolding store_on
      ran =
          let e : board_of pages m ≡ f (board_of pages l) = board_written (f (board_of pages l)) a.block.few ok w in
          (s.1 ∙ ap (λ (x : Board). encode_board (spent x)) e, refl, s.0 ∙ ap (λ (x : Board). eqb (burnt x).fuse 0) e)

      spent_ok : FieldsOk pages (store_on f (going (board_of pages l) n)).board
      unfolding store_on
      spent_ok = spent_fields ok

      -- there is power yet, or it is lost
      pub at_next : t ≡ false → At pages (store_on f r) o (n + 1)
      at_next z = rw a.run (at_ran a.block.few spent_ok ran z)

      pub at_cut : t ≡ true → Ran (store_on f r) o (n + 1) true
      at_cut z = rw a.run (ran.0, ran.1, sym z ∙ ran.2)
