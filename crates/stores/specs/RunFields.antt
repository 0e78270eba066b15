-- Every field of a board stays in range through a run of its stores, wherever the run ends. Assumes nothing.
use Rattle.std.specs.Prelude.{◌≡◌, ℕ, ◌≤◌, List, [], ◌∷◌, length, eqb}
use Rattle.std.proofs.Math.Path.{refl}
use Rattle.std.proofs.Common.{ap, arith, length-append}
use Rattle.types.specs.declared.Kind.{Kind}
use Rattle.types.specs.declared.Record.{Record}
use Rattle.model.specs.Definitions.Layout.{most_pages}
use Rattle.model.specs.Definitions.Bank.{Board, on_working}
use Rattle.model.specs.Definitions.Steps.{powered_off, burnt, appended, recorded, stored_record, record_stores, stored_frame, stored_head, stored_selector}
use Rattle.model.specs.Definitions.Steps.{checkpoint_stores, rested_working}
use Rattle.model.specs.Definitions.BoardRuns.{BoardRun, start_on, spent, store_on, store_all_on, flush_on, logged_on, checkpoint_on}
use Rattle.model.specs.Definitions.WellFormed.{FieldsOk, RoomOk}
use Rattle.model.proofs.Laws.Logic.{by_bool, cases}
use Rattle.model.proofs.Laws.Lists.{foldl_keeps}
use Rattle.model.proofs.Laws.Boards.{stored_record_cases}
use Rattle.model.proofs.Laws.Runs.{each_record_stores, each_checkpoint_stores}
use Rattle.model.proofs.Laws.Runs.Stores.{burnt_working, burnt_stable, flushed_stored_record}
use Rattle.model.proofs.Laws.BlockFlush.{stored_records, stored_records_fields}
use Rattle.model.proofs.Laws.BoardFields.{recorded_fields, burnt_fields, powered_off_fields, stored_frame_fields, stored_head_fields, stored_selector_fields}
use Rattle.model.proofs.Laws.BoardFields.{rested_fields}
use Rattle.model.specs.Clauses.{RoomFor, Recordable, records_of}
use Rattle.stores.specs.RunLaws.{step_on_lost, step_on_going}

module _ {pages : ℕ} where
  pub spent_fields : {x : Board} → FieldsOk pages x → FieldsOk pages (spent x)
  unfolding spent
  spent_fields {x} ok = cases (FieldsOk pages) (eqb (burnt x).fuse 0) (λ t. powered_off_fields (burnt_fields ok)) (λ t. burnt_fields ok)

  -- a store that keeps the fields
  pub store_on_fields : (f : Board → Board) → ((x : Board) → FieldsOk pages x → FieldsOk pages (f x)) → (r : BoardRun)
      → FieldsOk pages r.board → FieldsOk pages (store_on f r).board
  unfolding store_on
  store_on_fields f h r ok = by_bool r.lost (λ t. rw t ok) (λ t. rw t (spent_fields (h r.board ok)))

  pub checkpoint_on_fields : (n : ℕ) (x : Board) → pages ≤ most_pages → FieldsOk pages x → FieldsOk pages (checkpoint_on n x).board
  unfolding checkpoint_on start_on store_all_on
  checkpoint_on_fields n x few ok =
      let r : BoardRun = store_all_on (checkpoint_stores n) (start_on x) in
      let v : FieldsOk pages r.board =
      foldl_keeps (λ s. FieldsOk pages s.board) _ (checkpoint_stores n)
      (each_checkpoint_stores
      (λ p. store_on_fields (stored_frame p) (λ y o. stored_frame_fields pages y o p))
      (store_on_fields stored_head (λ y o. stored_head_fields pages y o))
      (store_on_fields stored_selector (stored_selector_fields pages))
      n)
      (start_on x) ok in
      by_bool r.lost
      (λ t. rw (step_on_lost (on_working rested_working) r t) v)
      (λ t. rw (step_on_going (on_working rested_working) r t) (rested_fields pages r.board v))

-- room for a record is taken by it
pub recorded_room : (kind : Kind) (peer : ℕ) (bytes : List ℕ) (x : Board) → RoomFor 1 x → RoomOk (on_working (recorded kind peer bytes) x)
unfolding on_working recorded appended
recorded_room kind peer bytes x h =
    let r : Record = record { count = x.working.since; kind = kind; peer = peer; bytes = bytes } in
    rw (length-append x.working.log (r ∷ [])) (omega arith)

-- stored and volatile together stay as many
room_stored_record : (x : Board) → RoomOk x → RoomOk (stored_record x)
unfolding records_of
room_stored_record x h =
    let e : records_of (stored_record x) ≡ records_of x = (flushed_stored_record x).records in
    omega (
      arith,
      ap length e,
      length-append (stored_record x).stable.selected.log (stored_record x).working.log,
      length-append x.stable.selected.log x.working.log,
    )

module _ {pages : ℕ} where
  room_spent : (x : Board) → FieldsOk pages x → RoomOk x → RoomOk (spent x)
  unfolding spent powered_off
  room_spent x ok h =
      cases RoomOk (eqb (burnt x).fuse 0)
      (λ t. rw (burnt_stable x) (omega (arith, ok.selected.log.count)))
      (λ t. rw (burnt_working x, burnt_stable x) h)

  stored_record_fields : (x : Board) → FieldsOk pages x → RoomOk x → FieldsOk pages (stored_record x)
  unfolding stored_records
  stored_record_fields x ok h =
      stored_record_cases (λ y. y ≡ stored_record x → FieldsOk pages y) x
      (λ e q. ok)
      (λ r rs e q. rw q (stored_records_fields pages x ok h 1 (rw e (omega arith))))
      refl

  flush_on_fields : (x : Board) → FieldsOk pages x → RoomOk x → FieldsOk pages (flush_on x).board
  unfolding flush_on start_on store_all_on store_on
  flush_on_fields x ok h =
      (foldl_keeps (λ r. FieldsOk pages r.board × RoomOk r.board) (λ r f. store_on f r) (record_stores x)
      (each_record_stores
      (λ r q.
      let y : Board = stored_record r.board in
      let v : FieldsOk pages y = stored_record_fields r.board q.0 q.1 in
      by_bool r.lost (λ t. rw t q) (λ t. rw t (spent_fields v, room_spent y v (room_stored_record r.board q.1))))
      x)
      (start_on x) (ok, h)).0

  pub logged_on_fields : (kind : Kind) (peer : ℕ) (bytes : List ℕ) (x : Board) → FieldsOk pages x → RoomFor 1 x → Recordable pages kind peer bytes
      → FieldsOk pages (logged_on kind peer bytes x).board
  unfolding logged_on
  logged_on_fields kind peer bytes x ok h v =
      flush_on_fields (on_working (recorded kind peer bytes) x) (recorded_fields ok kind peer bytes v (omega arith)) (recorded_room kind peer bytes x h)
