-- Laws of blocks: their length, and that what a step leaves is the block of the stepped board. Assumes nothing.
use Rattle.std.specs.Prelude.{◌≡◌, ℕ, ◌≤◌, List, length}
use Rattle.std.proofs.Common.{sym, ap}
use Rattle.model.specs.Definitions.Layout.{most_pages, block_size}
use Rattle.model.specs.Definitions.Bank.{Board}
use Rattle.model.specs.Definitions.Codec.{encode_board}
use Rattle.model.specs.Definitions.WellFormed.{FieldsOk}
use Rattle.model.proofs.Laws.CodecBank.{decode_encode_board, length_encode_board}
use Rattle.steps.specs.Blocks.{IsBlock, board_of}

pub block_length : {pages : ℕ} {l : List ℕ} → IsBlock pages l → length l ≡ block_size pages
block_length {pages} {l} b = rw b.back at (length_encode_board pages (board_of pages l) b.fields)

pub is_block_encode : (pages : ℕ) (x : Board) → pages ≤ most_pages → FieldsOk pages x → IsBlock pages (encode_board x)
is_block_encode pages x h ok =
    let e : board_of pages (encode_board x) ≡ x = decode_encode_board pages x ok in
    record { few = h; fields = rw e ok; back = ap encode_board e }

module _ {pages : ℕ} {l : List ℕ} (y : Board) (few : pages ≤ most_pages) (ok : FieldsOk pages y) (e : l ≡ encode_board y) where
  -- what a step leaves stands for the stepped board
  pub board_written : board_of pages l ≡ y
  board_written = rw e (decode_encode_board pages y ok)

  -- so the next step may follow
  pub block_written : IsBlock pages l
  block_written = record { few = few; fields = rw board_written ok; back = rw board_written (sym e) }
