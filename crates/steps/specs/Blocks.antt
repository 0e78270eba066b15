-- Words of the steps' contracts: a block, the board that it stands for, and what a flush does to a board. No law stands here.
-- Assumes nothing.
use Rattle.std.specs.Prelude.{◌≡◌, ℕ, ◌≤◌, List, []}
use Rattle.types.specs.declared.Record.{Record}
use Rattle.model.specs.Definitions.Layout.{most_pages}
use Rattle.model.specs.Definitions.Bank.{Board, with_log, on_working, on_selected}
use Rattle.model.specs.Definitions.Codec.{encode_board, decode_board}
use Rattle.model.specs.Definitions.WellFormed.{FieldsOk}
use Rattle.model.specs.Definitions.Steps.{with_record}

-- the board that a block stands for
abbrev pub board_of : ℕ → List ℕ → Board
board_of pages l = decode_board pages l

-- the encoding of a board whose fields are in range
pub record IsBlock (pages : ℕ) (l : List ℕ) : Type 0 where
  pub few : pages ≤ most_pages
  pub fields : FieldsOk pages (decode_board pages l)
  pub back : encode_board (decode_board pages l) ≡ l

-- "one record appended to the selected area", nothing else changed
abbrev pub with_stored : Record → Board → Board
with_stored r x = on_selected (with_record r) x

-- the end of a flush: no record is volatile any more
unfoldable pub flush_ended : Board → Board
flush_ended x = on_working (with_log []) x
