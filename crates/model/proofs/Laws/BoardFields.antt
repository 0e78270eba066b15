-- Every field of a board stays in range through what the steps do to it, one law for each part of a board and one for each step.
-- FieldsOk alone is asked of the board, no clause of the bank around it. Assumes nothing.
use Rattle.std.specs.Prelude.{refl, ◌≡◌, ℕ, ◌-◌, ◌<◌, ◌+◌, ◌≤◌, Bool, List, ◌∷◌, length, eqb}
use Rattle.std.proofs.Common.{ap, arith}
use Rattle.std.proofs.Math.ListN.{set}
use Rattle.types.specs.declared.Right.TheVariants.{Copy, Own}
use Rattle.types.specs.declared.Frame.{Frame}
use Rattle.types.specs.declared.CopyOrOwn.TheVariants.{GotCopy}
use Rattle.types.specs.declared.Kind.{Kind}
use Rattle.types.specs.declared.Kind.TheVariants.{Got, Dropped}
use Rattle.types.specs.declared.Record.{Record}
use Rattle.types.specs.declared.State.{State}
use Rattle.types.specs.declared.State.TheVariants.{Up, Replaying}
use Rattle.model.specs.Definitions.Parts.{zeros}
use Rattle.model.specs.Definitions.Layout.{byte_values, page_size, no_fuse, last_since, last_number}
use Rattle.model.specs.Definitions.Bank.{Area, Working, Stable, Board, empty_frame, frame_at, with_state, with_working, with_stable, on_working, on_selected}
use Rattle.model.specs.Definitions.Bank.{on_spare, on_frames}
use Rattle.model.specs.Definitions.Codec.{page_of}
use Rattle.model.specs.Definitions.WellFormed.{FrameOk, is_got, FieldsOk, FramesOk, AreaOk, WorkingOk, RoomOk}
use Rattle.model.specs.Definitions.Steps.{powered_off, burnt, recorded, with_frame, dropped, with_fuse, moved_record, stored_frame, stored_head}
use Rattle.model.specs.Definitions.Steps.{stored_selector}
use Rattle.model.specs.Definitions.Steps.{rested_working, Access, cells_written, accessed, with_area_frame, with_head}
use Rattle.model.specs.Definitions.Replay.{loaded, used, settled}
use Rattle.model.specs.Clauses.{Space, Recordable}
use Rattle.model.proofs.Laws.Logic.{cases}
use Rattle.model.proofs.Laws.Lists.{each_head}
use Rattle.model.proofs.Laws.Fresh.{no_record_ok, zero_working_ok}
use Rattle.model.proofs.Laws.Boards.{took_copy, took_own}
use Rattle.model.proofs.Laws.Valid.{copy_some, own_some, frame_ok_empty, frame_ok_right, frame_ok_at, frames_ok_set, settled_frames_ok, empty_frames_ok}
use Rattle.model.proofs.Laws.Valid.{Writable, frames_ok_with_bytes, log_ok_appended, log_ok_moved, recordable_plain, recordable_got, area_ok_number}
use Rattle.model.proofs.Laws.Valid.{area_ok_frames, area_ok_log, working_ok_number, working_ok_since, working_ok_place, working_ok_frames, working_ok_log}
use Rattle.model.proofs.Laws.Valid.{working_ok_used, area_ok_record}

-- ---- a part changed

module _ {pages : ℕ} {x : Board} (ok : FieldsOk pages x) where
  pub with_state_fields : (s : State) → FieldsOk pages (with_state s x)
  with_state_fields s = record { fuse = ok.fuse; working = ok.working; selected = ok.selected; spare = ok.spare }

  pub with_fuse_fields : (n : ℕ) → n ≤ no_fuse → FieldsOk pages (with_fuse n x)
  unfolding with_fuse
  with_fuse_fields n h = record { fuse = h; working = ok.working; selected = ok.selected; spare = ok.spare }

  pub with_working_fields : {w : Working} → WorkingOk pages w → FieldsOk pages (with_working w x)
  with_working_fields h = record { fuse = ok.fuse; working = h; selected = ok.selected; spare = ok.spare }

  pub with_stable_fields : {t : Stable} → AreaOk pages t.selected → AreaOk pages t.spare → FieldsOk pages (with_stable t x)
  with_stable_fields h k = record { fuse = ok.fuse; working = ok.working; selected = h; spare = k }

  pub on_working_fields : (f : Working → Working) → WorkingOk pages (f x.working) → FieldsOk pages (on_working f x)
  unfolding on_working
  on_working_fields f h = with_working_fields h

  pub on_selected_fields : (f : Area → Area) → AreaOk pages (f x.stable.selected) → FieldsOk pages (on_selected f x)
  unfolding on_selected
  on_selected_fields f h = with_stable_fields h ok.spare

  pub on_spare_fields : (f : Area → Area) → AreaOk pages (f x.stable.spare) → FieldsOk pages (on_spare f x)
  unfolding on_spare
  on_spare_fields f h = with_stable_fields ok.selected h

  -- ---- power, fuse

  pub burnt_fields : FieldsOk pages (burnt x)
  unfolding burnt
  burnt_fields = cases (FieldsOk pages) (eqb x.fuse no_fuse) (λ t. ok) (λ t. with_fuse_fields (x.fuse - 1) (omega (arith, ok.fuse)))

  pub powered_off_fields : FieldsOk pages (powered_off x)
  unfolding powered_off
  powered_off_fields =
      record {
        fuse = omega arith;
        working = zero_working_ok (empty_frames_ok x.working.frames ok.working.frames);
        selected = ok.selected;
        spare = ok.spare;
      }

  -- ---- records

  pub recorded_fields : (kind : Kind) (peer : ℕ) (bytes : List ℕ) → Recordable pages kind peer bytes → Space x → FieldsOk pages (on_working (recorded kind peer bytes) x)
  unfolding recorded
  recorded_fields kind peer bytes v h =
      on_working_fields (recorded kind peer bytes)
      (working_ok_since (working_ok_log ok.working (log_ok_appended ok.working.log (v x.working.since (omega (arith, ok.working.since))) h)) 0
      (omega arith))

  -- ---- frames

  pub with_frame_fields : (p : ℕ) (f : Frame) → FrameOk f → FieldsOk pages (with_frame p f x)
  unfolding with_frame on_frames
  with_frame_fields p f v =
      on_working_fields (on_frames (λ fs. set fs p f)) (working_ok_frames ok.working (frames_ok_set x.working.frames p f ok.working.frames v))

  pub accessed_fields : (a : Access) → Writable x.working.frames (cells_written a) → x.working.number < last_number
      → x.working.since < last_since → FieldsOk pages (on_working (accessed a) x)
  unfolding accessed
  accessed_fields a w n s =
      let frames : WorkingOk pages _ = working_ok_frames ok.working (frames_ok_with_bytes (cells_written a) x.working.frames ok.working.frames w) in
      on_working_fields (accessed a) (working_ok_number (working_ok_since frames (x.working.since + 1) (omega arith)) (x.working.number + 1) (omega arith))

  -- ---- replay

  pub used_fields : (fs : List Frame) → FramesOk pages fs → FieldsOk pages (on_working (used fs) x)
  used_fields fs h = on_working_fields (used fs) (working_ok_used ok.working h)

pub settled_fields : {pages : ℕ} {x : Board} → FieldsOk pages x → (owned : ℕ → Bool) → FieldsOk pages (settled owned x)
unfolding settled
settled_fields {x} ok owned =
    with_working_fields (with_state_fields ok Up)
    (working_ok_place (working_ok_frames ok.working (settled_frames_ok owned x.working.frames ok.working.frames)) 0)

-- ---- flush, restart and checkpoint

pub moved_record_fields : {pages : ℕ} {x : Board} → FieldsOk pages x → (r : Record) (rs : List Record) → x.working.log ≡ r ∷ rs → RoomOk x
    → FieldsOk pages (moved_record r rs x)
unfolding moved_record
moved_record_fields {x} ok r rs e room =
    let n : length x.working.log ≡ length (r ∷ rs) = ap length e in
    with_stable_fields (with_working_fields ok (working_ok_log ok.working (log_ok_moved r rs e ok.working.log)))
    (area_ok_record ok.selected (each_head (rw e at ok.working.log.records)) (omega arith)) ok.spare

module _ (pages : ℕ) (x : Board) (ok : FieldsOk pages x) where
  pub loaded_fields : FieldsOk pages (loaded x)
  unfolding loaded
  loaded_fields =
      let frames : WorkingOk pages _ = working_ok_place (working_ok_frames ok.working ok.selected.frames) 0 in
      with_working_fields (with_state_fields ok Replaying)
      (working_ok_number (working_ok_since frames 0 (omega arith)) x.stable.selected.number ok.selected.number)

  pub rested_fields : FieldsOk pages (on_working rested_working x)
  unfolding rested_working
  rested_fields = on_working_fields ok rested_working (working_ok_since (working_ok_log ok.working (no_record_ok pages)) 0 (omega arith))

  pub stored_frame_fields : (p : ℕ) → FieldsOk pages (stored_frame p x)
  unfolding stored_frame
  stored_frame_fields p =
      let f : Frame = frame_at x.working.frames p in
      on_spare_fields ok (with_area_frame p f)
      (area_ok_frames ok.spare (frames_ok_set x.stable.spare.frames p f ok.spare.frames (frame_ok_at x.working.frames p ok.working.frames)))

  pub stored_head_fields : FieldsOk pages (stored_head x)
  unfolding stored_head
  stored_head_fields =
      on_spare_fields ok (with_head x.working.number)
      (area_ok_number (area_ok_log ok.spare (no_record_ok pages)) x.working.number ok.working.number)

  pub stored_selector_fields : FieldsOk pages (stored_selector x)
  unfolding stored_selector
  stored_selector_fields = with_stable_fields ok ok.spare ok.selected

-- ---- fetches

-- a board that loses its right to page p
pub dropped_fields : {pages : ℕ} {x : Board} → FieldsOk pages x → (w p : ℕ) → p < pages → w < byte_values → Space x → FieldsOk pages (dropped w p x)
unfolding dropped page_of is_got
dropped_fields ok w p h i s =
    with_frame_fields (recorded_fields ok (Dropped p) w (zeros page_size) (recordable_plain (Dropped p) refl h i) s) p empty_frame frame_ok_empty

-- a board that takes a page with the bytes of a frame, as a copy or as its own
pub took_copy_fields : {pages : ℕ} {x : Board} → FieldsOk pages x → (o p : ℕ) (f : Frame) → FrameOk f → p < pages → o < byte_values → Space x
    → FieldsOk pages (took_copy o p f.bytes x)
unfolding took_copy
took_copy_fields ok o p f v h i s =
    with_frame_fields (recorded_fields ok (Got GotCopy p) o f.bytes (recordable_got GotCopy v h i) s) p
    (record { right = Copy; bytes = f.bytes }) (frame_ok_right Copy copy_some v)

pub took_own_fields : {pages : ℕ} {x : Board} → FieldsOk pages x → (p : ℕ) (f : Frame) → FrameOk f → FieldsOk pages (took_own p f.bytes x)
unfolding took_own
took_own_fields ok p f v = with_frame_fields ok p (record { right = Own; bytes = f.bytes }) (frame_ok_right Own own_some v)
