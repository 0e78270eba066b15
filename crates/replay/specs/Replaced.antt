-- Frames replaced page by page, as a loop does it: a restart loads them, the end of replay settles them. Assumes nothing.
use Rattle.std.specs.Prelude.{◌≡◌, ℕ, ◌+◌, ◌≤◌, ◌<◌, List}
use Rattle.std.proofs.Common.{sym, ap, ◌∙◌, arith, add-one}
use Rattle.types.specs.declared.Frame.{Frame}
use Rattle.model.specs.Definitions.Bank.{Board, on_working, on_frames, frame_at}
use Rattle.model.specs.Definitions.Codec.{encode_board}
use Rattle.model.specs.Definitions.WellFormed.{FramesOk, FieldsOk}
use Rattle.model.specs.Definitions.Steps.{with_frame}
use Rattle.model.proofs.Laws.BlockReplay.{replacing, replacing_none, replacing_all, replacing_fields, replacing_next}
use Rattle.steps.specs.Blocks.{IsBlock, board_of}
use Rattle.steps.specs.BlockLaws.{board_written, block_written}

module _ {pages : ℕ} {l : List ℕ} (b : IsBlock pages l) (gs : List Frame) (new : FramesOk pages gs) where
  abbrev start : Board
  start = board_of pages l

  pub replaced_none : l ≡ encode_board (replacing 0 gs (board_of pages l))
  replaced_none = sym b.back ∙ ap encode_board (sym (replacing_none pages start gs b.fields.working.frames new))

  module _ (p : ℕ) (m : List ℕ) (e : m ≡ encode_board (replacing p gs (board_of pages l))) where
    module _ (h : p ≤ pages) where
      abbrev ok : FieldsOk pages (replacing p gs start)
      ok = replacing_fields pages start gs b.fields.working.frames new b.fields p h

      pub replaced_block : IsBlock pages m
      replaced_block = block_written (replacing p gs start) b.few ok e

      pub replaced_board : board_of pages m ≡ replacing p gs (board_of pages l)
      replaced_board = board_written (replacing p gs start) b.few ok e

      -- all of them
      pub replaced_last : pages ≤ p → m ≡ encode_board (on_working (on_frames (λ fs. gs)) (board_of pages l))
      replaced_last k =
          let q : p ≡ pages = omega arith in
          rw q at e ∙ ap encode_board (replacing_all pages start gs b.fields.working.frames new)

    -- one more
    pub replaced_more : (f : Frame) (n : List ℕ) → p < pages → n ≡ encode_board (with_frame p f (board_of pages m)) → f ≡ frame_at gs p
        → n ≡ encode_board (replacing (p + 1) gs (board_of pages l))
    replaced_more f n h g i =
        rw (add-one p) (g ∙ rw (replaced_board (omega arith)) (ap encode_board (replacing_next pages start gs b.fields.working.frames new p h f i)))
