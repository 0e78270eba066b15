-- Laws of a board's run: a lost one is passed on unchanged, and what a store makes of one that is not. Assumes nothing.
use Rattle.std.specs.Prelude.{◌≡◌, refl, ℕ, suc, ◌+◌, ◌-◌, ◌<◌, true, false, List, [], ◌∷◌, replicate, eqb}
use Rattle.std.proofs.Common.{arith}
use Rattle.model.specs.Definitions.Parts.{tabulate_from}
use Rattle.model.specs.Definitions.Bank.{Board}
use Rattle.model.specs.Definitions.Steps.{powered_off, burnt, stored_record, stored_frame}
use Rattle.model.specs.Definitions.BoardRuns.{BoardRun, spent, step_on, store_on, store_all_on}

-- a board right after a store, whose fuse blew or didn't
pub spent_cut : (x : Board) → eqb (burnt x).fuse 0 ≡ true → spent x ≡ powered_off (burnt x)
unfolding spent
spent_cut x z = cc

pub spent_kept : (x : Board) → eqb (burnt x).fuse 0 ≡ false → spent x ≡ burnt x
unfolding spent
spent_kept x z = cc

module _ (f : Board → Board) (r : BoardRun) where
  pub step_on_lost : r.lost ≡ true → step_on f r ≡ r
  unfolding step_on
  step_on_lost t = rw t

  pub step_on_going : r.lost ≡ false → step_on f r ≡ record { board = f r.board; stores = r.stores; lost = false }
  unfolding step_on
  step_on_going t = rw t

  pub store_on_lost : r.lost ≡ true → store_on f r ≡ r
  unfolding store_on
  store_on_lost t = rw t

  -- the fuse blew
  pub store_on_cut : r.lost ≡ false → eqb (burnt (f r.board)).fuse 0 ≡ true
      → store_on f r ≡ record { board = powered_off (burnt (f r.board)); stores = r.stores + 1; lost = true }
  unfolding store_on
  store_on_cut t z = rw (t, z, spent_cut (f r.board) z)

  pub store_on_kept : r.lost ≡ false → eqb (burnt (f r.board)).fuse 0 ≡ false
      → store_on f r ≡ record { board = burnt (f r.board); stores = r.stores + 1; lost = false }
  unfolding store_on
  store_on_kept t z = rw (t, z, spent_kept (f r.board) z)

pub store_all_on_lost : (fs : List (Board → Board)) (r : BoardRun) → r.lost ≡ true → store_all_on fs r ≡ r
unfolding store_all_on
store_all_on_lost [] r t = refl
store_all_on_lost (f ∷ fs) r t = rw (store_on_lost f r t) (store_all_on_lost fs r t)

-- the next of the stores that are left
pub records_next : (n j : ℕ) → j < n → replicate (n - j) stored_record ≡ stored_record ∷ replicate (n - suc j) stored_record
records_next n j h = let e : n - j ≡ suc (n - suc j) = omega arith in rw e

pub frames_next : (n p : ℕ) → p < n → tabulate_from p (n - p) stored_frame ≡ stored_frame p ∷ tabulate_from (suc p) (n - suc p) stored_frame
unfolding tabulate_from
frames_next n p h = let e : n - p ≡ suc (n - suc p) = omega arith in rw e
