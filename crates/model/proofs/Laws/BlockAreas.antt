-- An area by itself: its fields read off its bytes, and that a record appended, a frame or the head written is one or two splices of them.
-- Assumes nothing.
use Rattle.std.specs.Prelude.{◌≡◌, refl, ℕ, ◌+◌, ◌*◌, ◌≤◌, ◌<◌, List, [], ◌∷◌, ◌++◌, get_or}
use Rattle.std.proofs.Math.Path.{sym}
use Rattle.std.proofs.Common.{◌∙◌, arith, append_assoc}
use Rattle.std.proofs.Math.Nat.{add-zero}
use Rattle.std.proofs.Math.ListN.{length, length-append}
use Rattle.words.specs.LittleEndian.{bytes_of, number_of}
use Rattle.words.specs.LittleEndianLaws.{length_bytes_of, number_of_bytes_of}
use Rattle.types.specs.declared.Frame.{Frame}
use Rattle.types.specs.declared.Record.{Record}
use Rattle.model.specs.Definitions.Parts.{part, splice, zeros, encode_all}
use Rattle.model.specs.Definitions.Layout.{slot_count, number_size, frame_size, slot_size, slots_size, area_number_at, area_count_at, area_frames_at, area_slots_at}
use Rattle.model.specs.Definitions.Bank.{Area, frame_at}
use Rattle.model.specs.Definitions.Codec.{encode_frame, decode_frame, encode_record, decode_record, encode_log, encode_area, encode_area_in}
use Rattle.model.specs.Definitions.WellFormed.{FrameOk, RecordOk, AreaOk}
use Rattle.model.specs.Definitions.Steps.{appended, with_record, with_area_frame, with_head}
use Rattle.model.proofs.Laws.Parts.{splice_front, splice_all, splice_at, splice_amid, splice_behind, index_in}
use Rattle.model.proofs.Laws.Zeros.{zeros_length}
use Rattle.model.proofs.Laws.Codec.{length_encode_log, area_number, area_frames, area_slots, length_encode_frames, decode_encode_frames}
use Rattle.model.proofs.Laws.Codec.{length_encode_frame, decode_encode_log}
use Rattle.model.proofs.Laws.CodecAt.{frame_read_at, record_read_at, encode_appended, encode_no_record, encode_set_frame}

-- ---- an area: its fields read

module _ (pages : ℕ) (a : Area) (ok : AreaOk pages a) where
  pub area_number_read : number_of (part (encode_area a) area_number_at number_size) ≡ a.number
  area_number_read = rw (area_number pages a ok) (number_of_bytes_of number_size a.number (omega (arith, ok.number)))

  pub area_frame_read : (p : ℕ) → p < pages → decode_frame (part (encode_area a) (area_frames_at + p * frame_size) frame_size) ≡ frame_at a.frames p
  area_frame_read p h =
      sym (frame_read_at pages (encode_area a) area_frames_at p h) ∙ rw (area_frames pages a ok, decode_encode_frames pages a.frames ok.frames)

  pub area_record_read : (i : ℕ) (d : Record) → i < length a.log
      → decode_record (part (encode_area a) (area_slots_at pages + i * slot_size) slot_size) ≡ get_or a.log i d
  area_record_read i d h =
      sym (record_read_at (length a.log) (encode_area a) (area_slots_at pages) i d ok.log.count h)
      ∙ rw (area_slots pages a ok, decode_encode_log pages a.log ok.log)

-- ---- an area: a record appended, a frame or the head written

-- number, count, frames, slots: the bytes of an area, whatever stands in each
abbrev laid : ℕ → ℕ → List ℕ → List ℕ → List ℕ
laid n c f q = bytes_of number_size n ++ (c ∷ (f ++ q))

abbrev headed : ℕ → ℕ → List ℕ
headed n c = bytes_of number_size n ++ (c ∷ [])

laid_split : (n c : ℕ) (f q : List ℕ) → laid n c f q ≡ headed n c ++ (f ++ q)
laid_split n c f q = rw append_assoc

length_headed : (n c : ℕ) → length (headed n c) ≡ area_frames_at
length_headed n c = simp (length-append, length_bytes_of)

module _ (n c : ℕ) (f q : List ℕ) where
  count_written : (d : ℕ) → splice (laid n c f q) area_count_at (d ∷ []) ≡ laid n d f q
  count_written d = splice_at (bytes_of number_size n) (c ∷ []) (d ∷ []) (f ++ q) area_count_at (length_bytes_of number_size n) refl

  head_written : (m d : ℕ) → splice (laid n c f q) area_number_at (headed m d) ≡ laid m d f q
  head_written m d =
      rw (laid_split n c f q, laid_split m d f q) (splice_front (headed n c) (headed m d) (f ++ q) (length_headed n c ∙ sym (length_headed m d)))

  frames_written : (i : ℕ) (v : List ℕ) → i + length v ≤ length f → splice (laid n c f q) (area_frames_at + i) v ≡ laid n c (splice f i v) q
  frames_written i v h =
      rw (laid_split n c f q, laid_split n c (splice f i v) q) (splice_amid (headed n c) f q (area_frames_at + i) i v (rw (length_headed n c)) h)

  slots_written : (pages i : ℕ) (v : List ℕ) → length f ≡ pages * frame_size → splice (laid n c f q) (area_slots_at pages + i) v ≡ laid n c f (splice q i v)
  slots_written pages i v e =
      rw (laid_split n c f q, laid_split n c f (splice q i v))
      (splice_behind (headed n c) f q (area_slots_at pages + i) i v (omega (arith, length_headed n c)))

module _ (pages : ℕ) (a : Area) (ok : AreaOk pages a) where
  abbrev bytes : List ℕ
  bytes = encode_all encode_frame a.frames

  abbrev n : ℕ
  n = length a.log

  length_bytes : length bytes ≡ pages * frame_size
  length_bytes = length_encode_frames pages a.frames ok.frames

  -- the record in the slot at the count, and the count one more
  pub write_area_record : (r : Record) → RecordOk pages r → length a.log < slot_count
      → splice (splice (encode_area a) (area_slots_at pages + length a.log * slot_size) (encode_record r)) area_count_at
      ((length a.log + 1) ∷ [])
      ≡ encode_area (with_record r a)
  unfolding encode_area_in appended
  write_area_record r v h =
      rw (
        slots_written a.number n bytes (encode_log a.log) pages (n * slot_size) (encode_record r) length_bytes,
        count_written a.number n bytes (splice (encode_log a.log) (n * slot_size) (encode_record r)) (n + 1),
        length-append a.log (r ∷ []),
        encode_appended pages r a.log v ok.log.records h,
      )

  pub write_area_frame : (p : ℕ) (f : Frame) → FrameOk f → p < pages
      → splice (encode_area a) (area_frames_at + p * frame_size) (encode_frame f) ≡ encode_area (with_area_frame p f a)
  unfolding encode_area_in
  write_area_frame p f v h =
      let m : p * frame_size + frame_size ≤ pages * frame_size = index_in frame_size pages p h in
      let w : length (encode_frame f) ≡ frame_size = length_encode_frame f v.size in
      rw (
        frames_written a.number n bytes (encode_log a.log) (p * frame_size) (encode_frame f) (omega (arith, length_bytes)),
        encode_set_frame pages a.frames p f ok.frames v h,
      )

  -- number and count, and all slots zero
  pub write_area_head : (m : ℕ) → splice (splice (encode_area a) area_number_at (bytes_of number_size m ++ (0 ∷ []))) (area_slots_at pages) (zeros slots_size)
      ≡ encode_area (with_head m a)
  unfolding encode_area_in
  write_area_head m =
      let w : length (encode_log a.log) ≡ length (zeros slots_size) = length_encode_log pages a.log ok.log ∙ sym (zeros_length slots_size) in
      rw (
        head_written a.number n bytes (encode_log a.log) m 0,
        ← add-zero (area_slots_at pages),
        slots_written m 0 bytes (encode_log a.log) pages 0 (zeros slots_size) length_bytes,
        splice_all (encode_log a.log) (zeros slots_size) w,
        encode_no_record,
      )
