-- What a restart writes in a block: its head, and each frame from the selected area. Assumes nothing.
use Rattle.std.specs.Prelude.{◌≡◌, ℕ, ◌+◌, ◌*◌, ◌<◌, List, [], ◌∷◌}
use Rattle.std.proofs.Common.{ap, ◌∙◌}
use Rattle.words.specs.LittleEndian.{bytes_of, number_of}
use Rattle.types.specs.declared.Frame.{Frame}
use Rattle.types.specs.declared.State.TheVariants.{Replaying}
use Rattle.model.specs.Definitions.Parts.{part, splice}
use Rattle.model.specs.Definitions.Layout.{number_size, since_size, frame_size, state_at, number_at, since_at, place_at, frames_at, area_number_at, area_frames_at}
use Rattle.model.specs.Definitions.Bank.{frame_at, on_working, on_frames}
use Rattle.model.specs.Definitions.Codec.{encode_frame, decode_frame, state_byte, encode_board}
use Rattle.model.specs.Definitions.Steps.{with_frame}
use Rattle.model.specs.Definitions.Replay.{loaded}
use Rattle.model.proofs.Laws.BlockReplay.{restarting, restarting_loaded, restarting_bytes, restarting_fields}
use Rattle.model.proofs.Laws.Valid.{frame_ok_at}
use Rattle.format.specs.Areas.{selected_part}
use Rattle.steps.specs.Blocks.{IsBlock, board_of}
use Rattle.steps.specs.Access.{frame_written}
use Rattle.steps.specs.Selected.{stored_number, stored_frame}
use Rattle.steps.specs.BlockLaws.{board_written, block_written}

module _ {pages : ℕ} {l : List ℕ} (b : IsBlock pages l) where
  pub head_loaded : (n : ℕ) → n ≡ number_of (part (selected_part pages l) area_number_at number_size)
      → splice
      (splice (splice (splice l state_at (state_byte Replaying ∷ [])) number_at (bytes_of number_size n)) since_at (bytes_of since_size 0))
      place_at (0 ∷ [])
      ≡ encode_board (restarting (board_of pages l))
  head_loaded n e =
      let f : n ≡ (board_of pages l).stable.selected.number = e ∙ stored_number b in
      rw f (rw b.back at (restarting_bytes (board_of pages l)))

  pub frame_loaded : (p : ℕ) (f : Frame) → p < pages → f ≡ decode_frame (part (selected_part pages l) (area_frames_at + p * frame_size) frame_size)
      → splice l (frames_at + p * frame_size) (encode_frame f)
      ≡ encode_board (with_frame p (frame_at (board_of pages l).stable.selected.frames p) (board_of pages l))
  frame_loaded p f h e =
      let fs : List Frame = (board_of pages l).stable.selected.frames in
      let g : f ≡ frame_at fs p = e ∙ stored_frame b p h in
      rw g (frame_written b p (frame_at fs p) h (frame_ok_at fs p b.fields.selected.frames).size)

  module _ (m : List ℕ) (e : m ≡ encode_board (restarting (board_of pages l))) where
    pub restart_block : IsBlock pages m
    restart_block = block_written (restarting (board_of pages l)) b.few (restarting_fields pages (board_of pages l) b.fields) e

    -- the frames of the selected area in the restarted board
    pub restart_loaded : encode_board (on_working (on_frames (λ fs. (board_of pages m).stable.selected.frames)) (board_of pages m))
        ≡ encode_board (loaded (board_of pages l))
    unfolding restarting on_working
    restart_loaded =
        rw (board_written (restarting (board_of pages l)) b.few (restarting_fields pages (board_of pages l) b.fields) e)
        (ap encode_board (restarting_loaded (board_of pages l)))
