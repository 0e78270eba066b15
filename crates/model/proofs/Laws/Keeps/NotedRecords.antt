-- A record noted in the volatile log, and the first volatile record moved to the selected area. Assumes nothing.
use Rattle.std.specs.Prelude.{◌≡◌, refl, ℕ, suc, List, [], ◌∷◌, ◌++◌, length}
use Rattle.std.proofs.Common.{ap, length-append, arith}
use Rattle.types.specs.declared.Kind.{Kind}
use Rattle.types.specs.declared.Record.{Record}
use Rattle.types.specs.declared.State.TheVariants.{Up}
use Rattle.model.specs.Definitions.Bank.{Entry, Board, Bank, board_at, on_working}
use Rattle.model.specs.Definitions.WellFormed.{WellFormed}
use Rattle.model.specs.Definitions.Steps.{appended, recorded, note, moved_record, stored_record}
use Rattle.model.specs.Clauses.{Recordable, RoomFor, Another, Fits}
use Rattle.model.proofs.Laws.Boards.{stored_record_cases}
use Rattle.model.proofs.Laws.Keeps.Clauses.{on_board_keeps, fits_kept, alone_up}
use Rattle.model.proofs.Laws.Keeps.Peers.{recorded_peers}
use Rattle.model.proofs.Laws.BoardFields.{recorded_fields, moved_record_fields}

-- ---- a record noted

-- nothing that the place or the directory is compared with changes
pub recorded_fits : (d : List Entry) (b : ℕ) (kind : Kind) (peer : ℕ) (bytes : List ℕ) (x : Board) → Fits d b x → x.state ≡ Up → RoomFor 1 x
    → Recordable (length d) kind peer bytes → Fits d b (on_working (recorded kind peer bytes) x)
unfolding on_working recorded appended
recorded_fits d b kind peer bytes x h u m v =
    fits_kept x (on_working (recorded kind peer bytes) x) h
    (alone_up u (recorded_fields h.alone.fields kind peer bytes v (omega arith)) h.alone.fuse
    (rw (length-append x.working.log (record { count = x.working.since; kind = kind; peer = peer; bytes = bytes } ∷ [])) (omega arith)))
    refl refl refl (omega arith)

-- "Record: ..", by an up board with room for one more, of another board
pub note_keeps : (b : ℕ) (kind : Kind) (peer : ℕ) (bytes : List ℕ) (k : Bank) → WellFormed k → (board_at k b).state ≡ Up → RoomFor 1 (board_at k b)
    → Recordable (length k.directory) kind peer bytes → Another peer b k → WellFormed (note b kind peer bytes k)
unfolding note
note_keeps b kind peer bytes k w u m v o =
    on_board_keeps b (on_working (recorded kind peer bytes)) k w (λ l h. recorded_fits k.directory b kind peer bytes (board_at k b) h u m v)
    (recorded_peers peer o.board o.other kind bytes)

-- ---- a record stored

-- stored and volatile together stay as many
moved_record_fits : (d : List Entry) (b : ℕ) (r : Record) (rs : List Record) (x : Board) → x.working.log ≡ r ∷ rs → Fits d b x
    → Fits d b (moved_record r rs x)
unfolding moved_record appended
moved_record_fits d b r rs x e h =
    let n : length x.working.log ≡ suc (length rs) = ap length e in
    let m : length (x.stable.selected.log ++ (r ∷ [])) ≡ _ = length-append x.stable.selected.log (r ∷ []) in
    fits_kept x (moved_record r rs x) h
    (record {
      fields = moved_record_fields h.alone.fields r rs e h.alone.room;
      fuse = h.alone.fuse;
      room = rw m (omega (arith, h.alone.room));
      replaying = λ s. absurd (omega (arith, ap length (h.alone.replaying s)));
      down = λ s. absurd (omega (arith, ap length (h.alone.down s).volatile));
    })
    refl refl refl (rw m (omega arith))

-- without a volatile record nothing is stored
pub stored_record_fits : (d : List Entry) (b : ℕ) (x : Board) → Fits d b x → Fits d b (stored_record x)
stored_record_fits d b x h = stored_record_cases (Fits d b) x (λ e. h) (λ r rs e. moved_record_fits d b r rs x e h)
