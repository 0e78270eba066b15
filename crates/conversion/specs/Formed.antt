-- What is known of the bytes of a bank that a caller has tested, in any form: numbers of boards and pages, length, and each board's block. Assumes nothing.
use Rattle.std.specs.Prelude.{◌≡◌, ℕ, ◌≤◌, ◌<◌, Bool, true, List, length}
use Rattle.words.specs.Bytes.{Bytes}
use Rattle.model.specs.Definitions.Parts.{byte_at}
use Rattle.model.specs.Definitions.Layout.{Form, most_boards, most_pages, boards_at, pages_at, block_size_in, bank_size_in}
use Rattle.model.specs.Definitions.Check.{block_of_in, formed_in}
use Rattle.model.proofs.Laws.CodecBack.{Readable}
use Rattle.model.proofs.Laws.CodecBankBack.{BytesOk, bytes_ok, length_block_of, bytes_block_of, block_readable}

-- they are well formed, with these numbers of boards and pages
pub record FormedBank (form : Form) (named : Bool) (n p : ℕ) (s : List ℕ) : Type 0 where
  pub formed : formed_in form named s ≡ true
  pub boards : n ≡ byte_at s boards_at
  pub pages : p ≡ byte_at s pages_at

module _ {form : Form} {named : Bool} {n p : ℕ} {s : List ℕ} (o : FormedBank form named n p s) where
  pub known : BytesOk form named s
  known = bytes_ok s o.formed

  pub few_pages : p ≤ most_pages
  few_pages = rw o.pages known.head.pages

  pub few_boards : n ≤ most_boards
  few_boards = rw o.boards known.head.boards

  pub size : length s ≡ bank_size_in form n p
  size = rw (o.boards, o.pages) known.head.size

  -- a board's block
  module _ (b : ℕ) (h : b < n) where
    pub listed : b < byte_at s boards_at
    listed = rw (← o.boards) h

    pub block_length : length (block_of_in form p s b) ≡ block_size_in form p
    block_length = rw o.pages (length_block_of s known b listed)

    pub block_bytes : Bytes (block_of_in form p s b)
    block_bytes = rw o.pages (bytes_block_of s known b)

    pub block_reads : Readable form p (block_of_in form p s b)
    block_reads = rw o.pages (block_readable s known b listed)
