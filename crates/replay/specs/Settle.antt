-- What the end of replay writes in a block: each page's frame by the directory, the state and the place. Assumes nothing.
use Rattle.std.specs.Prelude.{◌≡◌, ℕ, ◌+◌, ◌*◌, ◌<◌, Bool, true, false, List, [], ◌∷◌, length}
use Rattle.std.proofs.Common.{sym, ◌∙◌, arith}
use Rattle.types.specs.declared.Frame.{Frame}
use Rattle.types.specs.declared.State.TheVariants.{Up}
use Rattle.model.specs.Definitions.Parts.{part, splice, each}
use Rattle.model.specs.Definitions.Layout.{page_size, frame_size, state_at, place_at, frames_at}
use Rattle.model.specs.Definitions.Bank.{Board, frame_at, with_state, on_working, on_frames}
use Rattle.model.specs.Definitions.Codec.{encode_frame, decode_frame, state_byte, encode_board}
use Rattle.model.specs.Definitions.WellFormed.{FramesOk}
use Rattle.model.specs.Definitions.Steps.{with_frame}
use Rattle.model.specs.Definitions.Replay.{settled_frame, settled}
use Rattle.model.proofs.Laws.Boards.{frame_at_each}
use Rattle.model.proofs.Laws.BlockFields.{write_state, write_place, read_frame}
use Rattle.model.proofs.Laws.BlockReplay.{replacing, replacing_here}
use Rattle.model.proofs.Laws.Valid.{frame_ok_empty, frame_ok_at, settled_frames_ok}
use Rattle.steps.specs.Blocks.{IsBlock, board_of}
use Rattle.steps.specs.Access.{frame_written}
use Rattle.replay.specs.Replaced.{replaced_board}

settled_size : (own : Bool) (f : Frame) → length f.bytes ≡ page_size → length (settled_frame own f).bytes ≡ page_size
unfolding settled_frame
settled_size true f e = e
settled_size false f e = frame_ok_empty.size

module _ {pages : ℕ} {l : List ℕ} (b : IsBlock pages l) where
  pub frame_settled : (p : ℕ) (own : Bool) (f g : Frame) → p < pages → f ≡ decode_frame (part l (frames_at + p * frame_size) frame_size) → g ≡ settled_frame own f
      → splice l (frames_at + p * frame_size) (encode_frame g)
      ≡ encode_board (with_frame p (settled_frame own (frame_at (board_of pages l).working.frames p)) (board_of pages l))
  frame_settled p own f g h e s =
      let x : Board = board_of pages l in
      let old : Frame = frame_at x.working.frames p in
      let i : f ≡ old = e ∙ (rw b.back at (read_frame pages x b.fields p h)) in
      rw (s, i) (frame_written b p (settled_frame own old) h (settled_size own old (frame_ok_at x.working.frames p b.fields.working.frames).size))

  module _ (owned : ℕ → Bool) where
    -- the frames as the end leaves them
    abbrev settling : List Frame
    settling = each (λ p f. settled_frame (owned p) f) (board_of pages l).working.frames

    pub settling_ok : FramesOk pages (each (λ p f. settled_frame (owned p) f) (board_of pages l).working.frames)
    settling_ok = settled_frames_ok owned (board_of pages l).working.frames b.fields.working.frames

    -- each page's frame waits for its turn
    pub settling_next : (p : ℕ) (m : List ℕ) (own : Bool) → p < pages → own ≡ owned p
        → m ≡ encode_board (replacing p (each (λ q f. settled_frame (owned q) f) (board_of pages l).working.frames) (board_of pages l))
        → settled_frame own (frame_at (board_of pages m).working.frames p) ≡ frame_at
        (each (λ q f. settled_frame (owned q) f) (board_of pages l).working.frames) p
    settling_next p m own h t e =
        let fs : List Frame = (board_of pages l).working.frames in
        rw (
          t,
          replaced_board b settling settling_ok p m e (omega arith),
          replacing_here pages (board_of pages l) settling b.fields.working.frames settling_ok p h,
        )
        (sym (frame_at_each p (λ q f. settled_frame (owned q) f) fs (omega (arith, b.fields.working.frames.count))))

    pub settle_written : (m : List ℕ)
        → m ≡ encode_board (on_working (on_frames (each (λ p f. settled_frame (owned p) f))) (board_of pages l))
        → splice (splice m state_at (state_byte Up ∷ [])) place_at (0 ∷ []) ≡ encode_board (settled owned (board_of pages l))
    unfolding settled on_working on_frames
    settle_written m e =
        let y : Board = on_working (on_frames (each (λ p f. settled_frame (owned p) f))) (board_of pages l) in
        rw (e, write_state y Up) (write_place (with_state Up y) 0)
