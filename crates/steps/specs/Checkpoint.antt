-- What the writes of a checkpoint leave in a block: the spare area changed through its own part. Assumes nothing.
use Rattle.std.specs.Prelude.{◌≡◌, ℕ, ◌+◌, ◌*◌, ◌≤◌, ◌<◌, Bool, true, not, List, [], ◌∷◌, length, eqb}
use Rattle.std.proofs.Common.{◌∙◌, arith}
use Rattle.words.specs.LittleEndian.{bytes_of, number_of}
use Rattle.types.specs.declared.Frame.{Frame}
use Rattle.model.specs.Definitions.Parts.{part, splice, byte_at, zeros}
use Rattle.model.specs.Definitions.Layout.{number_size, since_size, frame_size, slots_size, area_frames_at, area_size, area_at, selector_at, number_at}
use Rattle.model.specs.Definitions.Layout.{since_at, volatile_count_at, frames_at, slots_at}
use Rattle.model.specs.Definitions.Bank.{Board, frame_at, on_working}
use Rattle.model.specs.Definitions.Codec.{encode_frame, decode_frame, selector_byte, encode_board}
use Rattle.model.specs.Definitions.Steps.{stored_frame, stored_head, stored_selector, rested_working}
use Rattle.model.specs.Definitions.WellFormed.{FieldsOk, FrameOk}
use Rattle.model.proofs.Laws.Parts.{splice_within, index_in}
use Rattle.model.proofs.Laws.Codec.{length_encode_frame}
use Rattle.model.proofs.Laws.CodecBank.{length_encode_board}
use Rattle.model.proofs.Laws.BlockFields.{read_frame, read_number}
use Rattle.model.proofs.Laws.BlockStable.{area_in, selector_read, stored_frame_bytes, stored_head_bytes, stored_selector_bytes}
use Rattle.model.proofs.Laws.BlockWorking.{rested_bytes}
use Rattle.model.proofs.Laws.Valid.{frame_ok_at}
use Rattle.format.specs.Areas.{spare_at, with_part, with_spare, head_stored}

module _ (pages : ℕ) (l : List ℕ) (x : Board) (ok : FieldsOk pages x) (e : encode_board x ≡ l) where
  -- a splice in the spare area, lent as its own part
  spare_splice : (b : ℕ) (v : List ℕ) → b + length v ≤ area_size pages
      → with_spare pages (λ a. splice a b v) l ≡ splice (encode_board x) (area_at pages (selector_byte (not x.stable.second)) + b) v
  unfolding with_part spare_at
  spare_splice b v h =
      rw (← e, selector_read pages x ok)
      (splice_within (encode_board x) (area_at pages (selector_byte (not x.stable.second))) (area_size pages) b v h
      (rw (length_encode_board pages x ok) (area_in pages (not x.stable.second))))

  pub store_frame_bytes : (p : ℕ) (f : Frame) → p < pages → f ≡ decode_frame (part l (frames_at + p * frame_size) frame_size)
      → with_spare pages (λ a. splice a (area_frames_at + p * frame_size) (encode_frame f)) l ≡ encode_board (stored_frame p x)
  store_frame_bytes p f h q =
      let g : Frame = frame_at x.working.frames p in
      let s : f ≡ g = q ∙ rw (← e) (read_frame pages x ok p h) in
      let v : FrameOk g = frame_ok_at x.working.frames p ok.working.frames in
      let m : p * frame_size + frame_size ≤ pages * frame_size = index_in frame_size pages p h in
      let n : length (encode_frame g) ≡ frame_size = length_encode_frame g v.size in
      rw s (spare_splice (area_frames_at + p * frame_size) (encode_frame g) (omega arith) ∙ stored_frame_bytes pages x ok p h)

  pub store_head_bytes : (n : ℕ) → n ≡ number_of (part l number_at number_size)
      → with_spare pages (head_stored pages n) l ≡ encode_board (stored_head x)
  unfolding with_part spare_at
  store_head_bytes n q =
      let s : n ≡ x.working.number = q ∙ rw (← e) (read_number pages x ok) in
      rw (s, ← e, selector_read pages x ok) (stored_head_bytes pages x ok)

  pub store_selector_bytes : (s : Bool) → s ≡ eqb (byte_at l selector_at) (selector_byte true)
      → splice l selector_at (selector_byte (not s) ∷ []) ≡ encode_board (stored_selector x)
  store_selector_bytes s q =
      let r : s ≡ x.stable.second = q ∙ rw (← e) (selector_read pages x ok) in
      rw (← e, r) (stored_selector_bytes pages x ok)

  pub rest_bytes : splice (splice (splice l since_at (bytes_of since_size 0)) volatile_count_at (0 ∷ [])) (slots_at pages) (zeros slots_size)
      ≡ encode_board (on_working rested_working x)
  rest_bytes = rw (← e) (rested_bytes pages x ok)
