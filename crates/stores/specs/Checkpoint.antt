-- A checkpoint on a block: the frames as a loop stores them, then head and selector, and what it comes to wherever power is lost and at the end.
-- Assumes nothing.
use Rattle.std.specs.Prelude.{◌≡◌, refl, ℕ, suc, ◌+◌, ◌-◌, ◌≤◌, ◌<◌, Bool, true, false}
use Rattle.std.proofs.Math.Path.{sym}
use Rattle.std.proofs.Common.{ap, ◌∙◌, add-one}
use native.Mathlib.Omega.{arith}
use mathlib.Core.List.{List, [], ◌∷◌, ◌++◌, foldl-append}
use Rattle.model.specs.Definitions.Parts.{tabulate_from, tabulate}
use Rattle.model.specs.Definitions.Bank.{Board, on_working}
use Rattle.model.specs.Definitions.Codec.{encode_board}
use Rattle.model.specs.Definitions.WellFormed.{FieldsOk}
use Rattle.model.specs.Definitions.Steps.{stored_frame, stored_head, stored_selector, spare_stores, checkpoint_stores, rested_working}
use Rattle.model.specs.Definitions.BoardRuns.{BoardRun, start_on, store_on, store_all_on, checkpoint_on}
use Rattle.model.proofs.Laws.Lists.{foldl_keeps, each_tabulate}
use Rattle.model.proofs.Laws.BoardFields.{stored_frame_fields, stored_head_fields, stored_selector_fields}
use Rattle.steps.specs.Blocks.{IsBlock, board_of}
use Rattle.stores.specs.RunLaws.{step_on_lost, store_on_lost, store_all_on_lost, frames_next}
use Rattle.stores.specs.RunFields.{store_on_fields}
use Rattle.stores.specs.Store.{Ran, going, Spent, At, at_ran, at_stepped, at_block, at_next, at_cut}

-- ---- the frames

-- a checkpoint up to its last frame
abbrev pub frames_run : ℕ → Board → BoardRun
frames_run pages x = store_all_on (tabulate pages stored_frame) (start_on x)

-- after p turns: what is left to store gives what the whole gives
pub record Saving (pages : ℕ) (x : Board) (p : ℕ) (l : List ℕ) : Type 0 where
  pub below : p ≤ pages
  pub block : IsBlock pages l
  pub run : frames_run pages x ≡ store_all_on (tabulate_from p (pages - p) stored_frame) (going (board_of pages l) p)

pub saving_begun : {pages : ℕ} {l : List ℕ} → IsBlock pages l → Saving pages (board_of pages l) 0 l
unfolding tabulate start_on
saving_begun {pages} b = let e : pages - 0 ≡ pages = omega arith in record { below = omega arith; block = b; run = rw e }

module _ {pages : ℕ} {x : Board} {p : ℕ} {l : List ℕ} (v : Saving pages x p l) where
  pub saving_all : pages ≤ p → Ran (frames_run pages x) l pages false
  unfolding tabulate_from store_all_on
  saving_all h =
      let e : p ≡ pages = omega (arith, v.below) in
      let z : pages - p ≡ 0 = omega arith in
      let r : frames_run pages x ≡ going (board_of pages l) p = rw z at v.run in
      rw r (sym v.block.back, sym e, refl)

  here : At pages (going (board_of pages l) p) l p
  here = record { block = v.block; run = refl }

  module _ (h : p < pages) {m : List ℕ} (w : m ≡ encode_board (stored_frame p (board_of pages l))) where
    frame_ok : FieldsOk pages (stored_frame p (board_of pages l))
    frame_ok = stored_frame_fields pages (board_of pages l) v.block.fields p

    pub saving_block : IsBlock pages m
    saving_block = at_block here (stored_frame p) w frame_ok

    module _ {o : List ℕ} {t : Bool} (s : Spent pages m o t) where
      abbrev rest : List (Board → Board)
      rest = tabulate_from (suc p) (pages - suc p) stored_frame

      next : frames_run pages x ≡ store_all_on rest (store_on (stored_frame p) (going (board_of pages l) p))
      unfolding store_all_on
      next = rw (frames_next pages p h) at v.run

      pub saving_next : t ≡ false → Saving pages x (p + 1) o
      saving_next z =
          let a : At pages (store_on (stored_frame p) (going (board_of pages l) p)) o (p + 1) = at_next here (stored_frame p) w frame_ok s z in
          record { below = omega arith; block = a.block; run = rw (add-one p) (next ∙ ap (store_all_on rest) (rw (add-one p) at a.run)) }

      pub saving_cut : t ≡ true → Ran (frames_run pages x) o (p + 1) true
      saving_cut z =
          let r : BoardRun = store_on (stored_frame p) (going (board_of pages l) p) in
          let u : Ran r o (p + 1) true = at_cut here (stored_frame p) w frame_ok s z in
          let e : frames_run pages x ≡ r = next ∙ store_all_on_lost rest r (sym u.2) in
          rw e u

-- ---- the whole

-- head and selector keep every field in range
module _ {pages : ℕ} {r : BoardRun} {l : List ℕ} {n : ℕ} (a : At pages r l n) where
  pub head_ok : FieldsOk pages (stored_head (board_of pages l))
  head_ok = stored_head_fields pages (board_of pages l) a.block.fields

  pub selector_ok : FieldsOk pages (stored_selector (board_of pages l))
  selector_ok = stored_selector_fields pages (board_of pages l) a.block.fields

-- up to its head, and with its selector
abbrev pub head_run : ℕ → Board → BoardRun
head_run pages x = store_on stored_head (frames_run pages x)

abbrev pub selector_run : ℕ → Board → BoardRun
selector_run pages x = store_on stored_selector (head_run pages x)

-- that is all it stores
checkpoint_stores_lem : (pages : ℕ) (x : Board) → store_all_on (checkpoint_stores pages) (start_on x) ≡ selector_run pages x
unfolding checkpoint_stores spare_stores store_all_on
checkpoint_stores_lem pages x =
    foldl-append (λ s f. store_on f s) (start_on x) (tabulate pages stored_frame ++ (stored_head ∷ [])) (stored_selector ∷ [])
    ∙ ap (store_on stored_selector) (foldl-append (λ s f. store_on f s) (start_on x) (tabulate pages stored_frame) (stored_head ∷ []))

module _ {pages : ℕ} {l : List ℕ} (b : IsBlock pages l) where
  module _ {m : List ℕ} {n : ℕ} where
    pub frames_at : {t : Bool} → Ran (frames_run pages (board_of pages l)) m n t → t ≡ false → At pages (frames_run pages (board_of pages l)) m n
    unfolding store_all_on start_on
    frames_at w z =
        at_ran b.few
        (foldl_keeps (λ r. FieldsOk pages r.board) _ (tabulate pages stored_frame)
        (each_tabulate pages stored_frame (λ p. store_on_fields (stored_frame p) (λ x ok. stored_frame_fields pages x ok p)))
        (start_on (board_of pages l)) b.fields)
        w z

    -- where power was lost at one of them, the checkpoint ends
    pub selector_lost : Ran (selector_run pages (board_of pages l)) m n true → Ran (checkpoint_on pages (board_of pages l)) m n true
    unfolding checkpoint_on
    selector_lost w =
        rw (checkpoint_stores_lem pages (board_of pages l), step_on_lost (on_working rested_working) (selector_run pages (board_of pages l)) (sym w.2)) w

    pub head_lost : Ran (head_run pages (board_of pages l)) m n true → Ran (checkpoint_on pages (board_of pages l)) m n true
    head_lost w = selector_lost (rw (store_on_lost stored_selector (head_run pages (board_of pages l)) (sym w.2)) w)

    pub frames_lost : {t : Bool} → Ran (frames_run pages (board_of pages l)) m n t → t ≡ true → Ran (checkpoint_on pages (board_of pages l)) m n t
    frames_lost w z = rw z (head_lost (rw (store_on_lost stored_head (frames_run pages (board_of pages l)) (sym w.2 ∙ z)) (rw z at w)))

    pub checkpoint_ran : At pages (selector_run pages (board_of pages l)) m n → {o : List ℕ} → o ≡ encode_board (on_working rested_working (board_of pages m))
        → Ran (checkpoint_on pages (board_of pages l)) o n false
    unfolding checkpoint_on
    checkpoint_ran a w = rw (checkpoint_stores_lem pages (board_of pages l)) (at_stepped a (on_working rested_working) w)
