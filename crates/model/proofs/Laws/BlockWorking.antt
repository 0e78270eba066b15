-- Steps of a board's working part as writes into its block: a record noted, an access, a checkpoint's end, a power loss, and what a flush leaves.
-- Restart and replay are in BlockReplay. Assumes nothing.
use Rattle.std.specs.Prelude.{◌≡◌, refl, ℕ, suc, ◌+◌, ◌*◌, ◌≤◌, ◌<◌, get_or, drop}
use Rattle.std.proofs.Math.Path.{sym}
use Rattle.std.proofs.Common.{ap, ◌∙◌, arith, add-zero, length-append, drop-cons, eq-eqb}
use mathlib.Core.List.{List, [], ◌∷◌, map}
use Rattle.std.proofs.Math.ListN.{length}
use Rattle.words.specs.LittleEndian.{bytes_of}
use Rattle.types.specs.declared.Frame.{Frame}
use Rattle.types.specs.declared.Kind.{Kind}
use Rattle.types.specs.declared.Record.{Record}
use Rattle.types.specs.declared.State.TheVariants.{Down}
use Rattle.model.specs.Definitions.Parts.{splice, zeros, encode_all}
use Rattle.model.specs.Definitions.Layout.{slot_count, no_fuse, frame_size, slot_size, slots_size, fuse_size, number_size, since_size, state_at, fuse_at, number_at}
use Rattle.model.specs.Definitions.Layout.{since_at, place_at, volatile_count_at, frames_at, slots_at, today}
use Rattle.model.specs.Definitions.Bank.{Board, empty_frame, with_state, with_number, with_since, with_place, with_log, on_working, on_frames}
use Rattle.model.specs.Definitions.Codec.{right_byte, encode_frame, encode_record, encode_log, state_byte, encode_board}
use Rattle.model.specs.Definitions.Steps.{powered_off, with_fuse, burnt, appended, recorded, moved_record, stored_record, rested_working, Read, cells_written}
use Rattle.model.specs.Definitions.Steps.{with_bytes, accessed}
use Rattle.model.specs.Definitions.WellFormed.{RecordOk, LogOk, FramesOk, FieldsOk}
use Rattle.model.proofs.Laws.Parts.{length_splice, splice_all, splice_apart, index_in}
use Rattle.model.proofs.Laws.Codec.{length_encode_record, length_encode_log, records_in}
use Rattle.model.proofs.Laws.CodecAt.{encode_appended, encode_no_record, encode_flushed}
use Rattle.model.proofs.Laws.Zeros.{zeros_length, zeros_append, zeros_next}
use Rattle.model.proofs.Laws.BlockFields.{write_state, write_fuse, write_number, write_since, write_place, write_log, write_all_frames}
use Rattle.model.proofs.Laws.BlockFields.{fixed_inside, slots_inside}
use Rattle.model.proofs.Laws.Valid.{empty_frames_ok}

-- ---- empty frames

pub encode_empty_frame : encode_frame empty_frame ≡ zeros frame_size
unfolding encode_frame empty_frame right_byte zeros
encode_empty_frame = refl

encode_empty_frames : (fs : List Frame) → encode_all encode_frame (map (λ f. empty_frame) fs) ≡ zeros (length fs * frame_size)
unfolding encode_all zeros
encode_empty_frames [] = refl
encode_empty_frames (f ∷ fs) =
    let e : suc (length fs) * frame_size ≡ frame_size + length fs * frame_size = omega arith in
    rw (encode_empty_frame, encode_empty_frames fs, zeros_append frame_size (length fs * frame_size), e)

-- ---- a record noted

-- "takes the board's since as its count"
abbrev pub noted : Kind → (peer : ℕ) → List ℕ → Board → Record
noted kind peer bytes x = record { count = x.working.since; kind = kind; peer = peer; bytes = bytes }

-- "It enters the volatile log", then since becomes 0: the slot behind the last record, the count, since
abbrev pub record_written : ℕ → Record → Board → List ℕ
record_written pages r x =
    splice
    (splice (splice (encode_board x) (slots_at pages + length x.working.log * slot_size) (encode_record r))
    volatile_count_at ((length x.working.log + 1) ∷ []))
    since_at (bytes_of since_size 0)

module _ (pages : ℕ) (x : Board) (ok : FieldsOk pages x) (kind : Kind) (peer : ℕ) (bytes : List ℕ) (v : RecordOk pages (noted kind peer bytes x))
    (room : length x.working.log < slot_count) where
  pub recorded_bytes : record_written pages (noted kind peer bytes x) x ≡ encode_board (on_working (recorded kind peer bytes) x)
  unfolding on_working recorded appended
  recorded_bytes =
      let g : List Record = x.working.log in
      let r : Record = noted kind peer bytes x in
      let n : length (encode_record r) ≡ slot_size = length_encode_record today r v.size in
      let c : length g + 1 ≡ length (appended r g) = sym (length-append g (r ∷ [])) in
      let m : length (encode_log g) ≡ slots_size = length_encode_log pages g ok.working.log in
      rw (
        c,
        ← splice_apart (encode_board x) volatile_count_at (slots_at pages + length g * slot_size) (length (appended r g) ∷ []) (encode_record r)
            (omega arith) (omega (arith, slots_inside pages x ok.working.frames m, index_in slot_size slot_count (length g) room)),
        write_log pages x (appended r g) (length g * slot_size) (encode_record r) ok.working.frames m (omega arith)
            (sym (encode_appended pages r g v ok.working.log.records room)),
      )
      (write_since (on_working (with_log (appended r g)) x) 0)

-- ---- an access: the two counters

abbrev pub counters_written : Board → List ℕ
counters_written x =
    splice (splice (encode_board x) number_at (bytes_of number_size (x.working.number + 1))) since_at (bytes_of since_size (x.working.since + 1))

unfoldable counted : Board → Board
counted x = on_working (with_since (x.working.since + 1)) (on_working (with_number (x.working.number + 1)) x)

counted_bytes : (x : Board) → counters_written x ≡ encode_board (counted x)
unfolding on_working counted
counted_bytes x =
    rw (write_number x (x.working.number + 1)) (write_since (on_working (with_number (x.working.number + 1)) x) (x.working.since + 1))

pub accessed_read : (x : Board) (p o : ℕ) → counters_written x ≡ encode_board (on_working (accessed (Read p o)) x)
unfolding on_working accessed with_bytes cells_written counted
accessed_read x p o = counted_bytes x

-- ---- a checkpoint's end: since 0, count 0, all volatile slots zero

-- all slots zero, and the count
write_no_record : (pages : ℕ) (x : Board) → FramesOk pages x.working.frames → LogOk pages x.working.log
    → splice (splice (encode_board x) volatile_count_at (0 ∷ [])) (slots_at pages) (zeros slots_size) ≡ encode_board (on_working (with_log []) x)
write_no_record pages x fs ok =
    let n : length (encode_log x.working.log) ≡ slots_size = length_encode_log pages x.working.log ok in
    let m : length (zeros slots_size) ≡ slots_size = zeros_length slots_size in
    rw add-zero at
    (write_log pages x [] 0 (zeros slots_size) fs n (omega arith) (splice_all (encode_log x.working.log) (zeros slots_size) (n ∙ sym m) ∙ sym encode_no_record))

module _ (pages : ℕ) (x : Board) (ok : FieldsOk pages x) where
  pub rested_bytes : splice (splice (splice (encode_board x) since_at (bytes_of since_size 0)) volatile_count_at (0 ∷ [])) (slots_at pages) (zeros slots_size)
      ≡ encode_board (on_working rested_working x)
  unfolding on_working rested_working
  rested_bytes = rw (write_since x 0) (write_no_record pages (on_working (with_since 0) x) ok.working.frames ok.working.log)

-- ---- a power loss

-- frames and slots stand side by side: zero both in one run, behind the count
write_zero_run : (pages : ℕ) (x : Board) → FramesOk pages x.working.frames → LogOk pages x.working.log
    → splice (splice (encode_board x) volatile_count_at (0 ∷ [])) frames_at (zeros (pages * frame_size + slots_size))
    ≡ encode_board (on_working (with_log []) (on_working (on_frames (map (λ f. empty_frame))) x))
unfolding on_working on_frames
write_zero_run pages x fs ok =
    let es : List Frame = map (λ f. empty_frame) x.working.frames in
    let y : Board = on_working (on_frames (λ gs. es)) x in
    let l : List ℕ = encode_board x in
    let e : encode_all encode_frame es ≡ zeros (pages * frame_size) = encode_empty_frames x.working.frames ∙ ap (λ (k : ℕ). zeros (k * frame_size)) fs.count
    in
    let m : length (zeros (pages * frame_size)) ≡ pages * frame_size = zeros_length (pages * frame_size) in
    let n : frames_at ≤ length l = fixed_inside x in
    let frames : splice l frames_at (zeros (pages * frame_size)) ≡ encode_board y = rw e at (write_all_frames pages x es fs (rw e m)) in
    rw (
      ← zeros_next (splice l volatile_count_at (0 ∷ [])) frames_at (slots_at pages) (pages * frame_size) slots_size refl
          (rw (length_splice l volatile_count_at (0 ∷ []) (omega arith)) n),
      splice_apart l volatile_count_at frames_at (0 ∷ []) (zeros (pages * frame_size)) (omega arith) n,
      frames,
    )
    (write_no_record pages y (empty_frames_ok x.working.frames fs) ok)

-- the state and the fuse
abbrev pub switched_off : Board → List ℕ
switched_off x = splice (splice (encode_board x) state_at (state_byte Down ∷ [])) fuse_at (bytes_of fuse_size no_fuse)

-- and the access number, since, the place and the count
abbrev pub fixed_cleared : Board → List ℕ
fixed_cleared x =
    splice (splice (splice (splice (switched_off x) number_at (bytes_of number_size 0)) since_at (bytes_of since_size 0)) place_at (0 ∷ []))
    volatile_count_at (0 ∷ [])

module _ (pages : ℕ) (x : Board) (ok : FieldsOk pages x) where
  pub powered_off_bytes : splice (fixed_cleared x) frames_at (zeros (pages * frame_size + slots_size)) ≡ encode_board (powered_off x)
  unfolding on_working on_frames with_fuse powered_off
  powered_off_bytes =
      let a : Board = with_fuse no_fuse (with_state Down x) in
      let b : Board = on_working (with_place 0) (on_working (with_since 0) (on_working (with_number 0) a)) in
      rw (
        write_state x Down,
        write_fuse (with_state Down x) no_fuse,
        write_number a 0,
        write_since (on_working (with_number 0) a) 0,
        write_place (on_working (with_since 0) (on_working (with_number 0) a)) 0,
      )
      (write_zero_run pages b ok.working.frames ok.working.log)

-- ---- a store: a set fuse is lowered, and one that is none stays

pub burnt_none : (x : Board) → x.fuse ≡ no_fuse → burnt x ≡ x
unfolding burnt
burnt_none x e = cc (eq-eqb x.fuse no_fuse e)

-- ---- a flush: slots are zeroed and the count is set once, behind the last store

-- the next store: record j of g, taken off a log of which j records are gone
pub next_record : (g : List Record) (j : ℕ) (d : Record) (y : Board) → y.working.log ≡ drop j g → j < length g
    → stored_record y ≡ moved_record (get_or g j d) (drop (suc j) g) y
unfolding stored_record
next_record g j d y e h = ap (λ (l : List Record). elim l [ [] ↦ y | q ∷ qs ↦ moved_record q qs y ]) (e ∙ drop-cons g j d h)

-- a power loss between two stores: how the volatile slots look makes no difference
pub powered_off_log : (g : List Record) (y : Board) → powered_off (on_working (with_log g) y) ≡ powered_off y
unfolding powered_off on_working
powered_off_log g y = refl

-- the slots of all volatile records zero, the count 0
pub flushed_bytes : (pages : ℕ) (x : Board) → FramesOk pages x.working.frames → LogOk pages x.working.log
    → splice (splice (encode_board x) volatile_count_at (0 ∷ [])) (slots_at pages) (zeros (length x.working.log * slot_size))
    ≡ encode_board (on_working (with_log []) x)
flushed_bytes pages x fs ok =
    let n : ℕ = length x.working.log * slot_size in
    let m : n ≤ slots_size = records_in ok in
    let w : length (zeros n) ≡ n = zeros_length n in
    rw add-zero at
    (write_log pages x [] 0 (zeros n) fs (length_encode_log pages x.working.log ok) (omega arith) (encode_flushed pages x.working.log ok))
