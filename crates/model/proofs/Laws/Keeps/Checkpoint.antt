-- The stores of a checkpoint, and what follows its selector, keep a bank well formed. Assumes nothing.
use Rattle.std.specs.Prelude.{refl, ◌≢◌, ℕ, ◌+◌, ◌≤◌, List, length}
use Rattle.std.proofs.Common.{arith}
use Rattle.types.specs.declared.State.TheVariants.{Replaying}
use Rattle.model.specs.Definitions.Layout.{most_pages, slot_count}
use Rattle.model.specs.Definitions.Bank.{Entry, Area, Board, on_working, on_spare}
use Rattle.model.specs.Definitions.WellFormed.{FieldsOk, Blank}
use Rattle.model.specs.Definitions.Steps.{stored_frame, stored_head, stored_selector, rested_working}
use Rattle.model.proofs.Laws.Keeps.Clauses.{place_idle, blank_same, fits_kept}
use Rattle.model.specs.Clauses.{Fits}
use Rattle.model.proofs.Laws.BoardFields.{stored_frame_fields, stored_head_fields, stored_selector_fields, rested_fields}

-- ---- the parts of a checkpoint

-- any valid area may stand in the spare one
on_spare_fits : (d : List Entry) (b : ℕ) (f : Area → Area) (x : Board) → Fits d b x → FieldsOk (length d) (on_spare f x) → Fits d b (on_spare f x)
unfolding on_spare
on_spare_fits d b f x h s =
    fits_kept x (on_spare f x) h
    (record {
      fields = s;
      fuse = h.alone.fuse;
      room = h.alone.room;
      replaying = h.alone.replaying;
      down = λ e. blank_same x (on_spare f x) (h.alone.down e) refl refl;
    })
    refl refl refl (omega arith)

-- a frame of the working memory is valid at any page
pub stored_frame_fits : (d : List Entry) (b p : ℕ) (x : Board) → Fits d b x → Fits d b (stored_frame p x)
unfolding stored_frame
stored_frame_fits d b p x h = on_spare_fits d b _ x h (stored_frame_fields (length d) x h.alone.fields p)

pub stored_head_fits : (d : List Entry) (b : ℕ) (x : Board) → length d ≤ most_pages → Fits d b x → Fits d b (stored_head x)
unfolding stored_head
stored_head_fits d b x m h = on_spare_fits d b _ x h (stored_head_fields (length d) x h.alone.fields)

-- the two areas change places: the records of the spare one must leave room for the volatile ones, and no replay may go by the selected one
pub stored_selector_fits : (d : List Entry) (b : ℕ) (x : Board) → Fits d b x → x.state ≢ Replaying
    → length x.stable.spare.log + length x.working.log ≤ slot_count → Fits d b (stored_selector x)
unfolding stored_selector
stored_selector_fits d b x h u m =
    record {
      alone =
          record {
            fields = stored_selector_fields (length d) x h.alone.fields;
            fuse = h.alone.fuse;
            room = m;
            replaying = λ e. absurd (u e);
            down = λ e. blank_same x (stored_selector x) (h.alone.down e) refl refl;
          };
      place = place_idle x.state x (stored_selector x) u h.place refl;
      agreed = record { rights = h.agreed.rights; copies = h.agreed.copies };
    }

-- "then since is 0 and the volatile log is emptied and zeroed"
pub rested_fits : (d : List Entry) (b : ℕ) (x : Board) → Fits d b x → Fits d b (on_working rested_working x)
unfolding on_working rested_working
rested_fits d b x h =
    fits_kept x (on_working rested_working x) h
    (record {
      fields = rested_fields (length d) x h.alone.fields;
      fuse = h.alone.fuse;
      room = omega (arith, h.alone.room);
      replaying = λ e. refl;
      down = λ e.
          let v : Blank x = h.alone.down e in
          record { number = v.number; since = refl; volatile = refl; frames = v.frames; fuse = v.fuse };
    })
    refl refl refl (omega arith)
