-- A block after one record: it is a block, and a frame written in it is written beside the record. Assumes nothing.
use Rattle.std.specs.Prelude.{◌≡◌, ℕ, List}
use Rattle.std.proofs.Common.{◌∙◌}
use Rattle.types.specs.declared.Frame.{Frame}
use Rattle.types.specs.declared.Kind.{Kind}
use Rattle.model.specs.Definitions.Bank.{on_working}
use Rattle.model.specs.Definitions.Codec.{encode_board}
use Rattle.model.specs.Definitions.Steps.{recorded, with_frame}
use Rattle.model.proofs.Laws.BoardFields.{recorded_fields}
use Rattle.model.specs.Clauses.{Space, Recordable}
use Rattle.steps.specs.Blocks.{IsBlock, board_of}
use Rattle.steps.specs.BlockLaws.{board_written, block_written}

module _ {pages : ℕ} {l m : List ℕ} (kind : Kind) (peer : ℕ) (bytes : List ℕ) (b : IsBlock pages l) (s : Space (board_of pages l)) (v : Recordable pages kind peer bytes)
    (e : m ≡ encode_board (on_working (recorded kind peer bytes) (board_of pages l))) where
  pub recorded_block : IsBlock pages m
  recorded_block = block_written _ b.few (recorded_fields b.fields kind peer bytes v s) e

  pub recorded_frame : (p : ℕ) (f : Frame) (n : List ℕ) → n ≡ encode_board (with_frame p f (board_of pages m))
      → n ≡ encode_board (with_frame p f (on_working (recorded kind peer bytes) (board_of pages l)))
  recorded_frame p f n g = g ∙ rw (board_written _ b.few (recorded_fields b.fields kind peer bytes v s) e)
