-- A board's block lent from the bytes of a bank: that it is a block, and what the bank is when the block comes back changed. For any step of one
-- board. Assumes nothing.
use Rattle.std.specs.Prelude.{◌≡◌, ℕ, ◌+◌, ◌*◌, ◌-◌, ◌≤◌, ◌<◌, List, ◌++◌, length, take, drop}
use Rattle.std.proofs.Common.{sym, ◌∙◌}
use native.Mathlib.Omega.{arith}
use Rattle.model.specs.Definitions.Parts.{part, byte_at}
use Rattle.model.specs.Definitions.Layout.{most_pages, state_at, frames_at, blocks_at, block_size, bank_size}
use Rattle.model.specs.Definitions.Bank.{Board, Bank, board_at, on_board}
use Rattle.model.specs.Definitions.Codec.{state_of, encode_board, encode}
use Rattle.model.specs.Definitions.WellFormed.{FieldsOk}
use Rattle.model.proofs.Laws.CodecBank.{state_of_state_byte, decode_encode_board, length_encode}
use Rattle.model.proofs.Laws.Parts.{index_in}
use Rattle.model.proofs.Laws.BlockFields.{read_state}
use Rattle.model.proofs.Laws.BankSteps.{fields_at, block_part, encode_board_lem}
use Rattle.model.specs.Clauses.{Fields}
use Rattle.fields.proofs.Lent.{lent_written}
use Rattle.steps.specs.Blocks.{IsBlock, board_of}
use Rattle.steps.specs.BlockLaws.{block_length, is_block_encode}

-- `&mut s[a..a + n]` is the block of board b in the bytes of a bank
pub record LentBlock (k : Bank) (s : List ℕ) (pages b a n : ℕ) : Type 0 where
  pub bytes : s ≡ encode k
  pub fields : Fields k
  pub few : pages ≤ most_pages
  pub count : pages ≡ length k.directory
  pub board : b < length k.boards
  pub place : a ≡ blocks_at pages + b * block_size pages
  pub size : n ≡ block_size pages

module _ {k : Bank} {s : List ℕ} {pages b a n : ℕ} (l : LentBlock k s pages b a n) where
  pub lent_in : a + n ≤ length s
  lent_in =
      let m : b * block_size pages + block_size pages ≤ length k.boards * block_size pages = index_in (block_size pages) (length k.boards) b l.board in
      let e : length s ≡ bank_size (length k.boards) pages = rw (l.bytes, l.count) (length_encode k l.fields) in
      omega (arith, l.place, l.size)

  pub lent_fields : FieldsOk pages (board_at k b)
  lent_fields = rw l.count (fields_at k l.fields b l.board)

  block_bytes : part s a n ≡ encode_board (board_at k b)
  block_bytes = rw (l.size, l.place, l.bytes, l.count) (block_part k l.fields b l.board)

  -- what the callee is lent
  lent_bytes : take (a + n - a) (drop a s) ≡ encode_board (board_at k b)
  unfolding part
  lent_bytes = let e : a + n - a ≡ n = omega arith in rw e block_bytes

  pub lent_block : IsBlock pages (take (a + n - a) (drop a s))
  lent_block = rw lent_bytes (is_block_encode pages (board_at k b) l.few lent_fields)

  pub lent_board : board_of pages (take (a + n - a) (drop a s)) ≡ board_at k b
  lent_board = rw lent_bytes (decode_encode_board pages (board_at k b) lent_fields)

  pub lent_length : frames_at ≤ length (take (a + n - a) (drop a s))
  lent_length = rw (block_length lent_block) (omega arith)

  pub lent_state : state_of (byte_at (take (a + n - a) (drop a s)) state_at) ≡ (board_at k b).state
  lent_state = rw (lent_bytes, read_state pages (board_at k b) lent_fields) (state_of_state_byte (board_at k b).state)

  -- the callee did a step of the board: so did the bank
  pub lent_step : (f : Board → Board) (ys : List ℕ) → FieldsOk pages (f (board_at k b)) → length ys ≡ length (take (a + n - a) (drop a s))
      → ys ≡ encode_board (f (board_of pages (take (a + n - a) (drop a s))))
      → take a s ++ (ys ++ drop (a + n - a) (drop a s)) ≡ encode (on_board b f k)
  lent_step f ys v kept e =
      lent_written s ys a n (λ x. encode_board (f (board_of pages x))) lent_in kept e
      ∙ rw (block_bytes, decode_encode_board pages (board_at k b) lent_fields)
      (rw (l.place, l.bytes, l.count) (sym (encode_board_lem k l.fields b f l.board (rw l.count at v))))
