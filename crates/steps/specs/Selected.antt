-- The selected area read off a block: its number, stored count, frames and records. Assumes nothing.
use Rattle.std.specs.Prelude.{◌≡◌, ℕ, ◌+◌, ◌*◌, ◌≤◌, ◌<◌, true, List, get_or}
use Rattle.std.proofs.Math.Dec.{eqb}
use Rattle.words.specs.LittleEndian.{number_of}
use Rattle.types.specs.declared.Record.{Record}
use Rattle.model.specs.Definitions.Parts.{part, byte_at}
use Rattle.model.specs.Definitions.Layout.{slot_count, number_size, frame_size, slot_size, selector_at, area_number_at, area_count_at, area_frames_at, area_slots_at, area_at}
use Rattle.model.specs.Definitions.Bank.{frame_at}
use Rattle.model.specs.Definitions.Codec.{decode_frame, decode_record, encode_area, selector_byte}
use Rattle.model.specs.Clauses.{stored_count}
use Rattle.model.proofs.Laws.Codec.{area_count_lem}
use Rattle.model.proofs.Laws.BlockAreas.{area_number_read, area_frame_read, area_record_read}
use Rattle.model.proofs.Laws.BlockStable.{selector_read, selected_part_lem}
use Rattle.format.specs.Areas.{selected_at, selected_part}
use Rattle.steps.specs.Blocks.{IsBlock, board_of}

module _ {pages : ℕ} {l : List ℕ} (b : IsBlock pages l) where
  pub selected_place : selected_at pages l ≡ area_at pages (selector_byte (board_of pages l).stable.second)
  unfolding selected_at
  selected_place =
      let s : eqb (byte_at l selector_at) (selector_byte true) ≡ (board_of pages l).stable.second
      = rw b.back at (selector_read pages (board_of pages l) b.fields) in
      rw s

  selected_bytes : selected_part pages l ≡ encode_area (board_of pages l).stable.selected
  selected_bytes = rw selected_place (rw b.back at (selected_part_lem pages (board_of pages l) b.fields))

  pub stored_number : number_of (part (selected_part pages l) area_number_at number_size) ≡ (board_of pages l).stable.selected.number
  stored_number = rw selected_bytes (area_number_read pages (board_of pages l).stable.selected b.fields.selected)

  pub stored_count_lem : byte_at (selected_part pages l) area_count_at ≡ stored_count (board_of pages l)
  stored_count_lem = rw selected_bytes (area_count_lem pages (board_of pages l).stable.selected b.fields.selected)

  pub stored_most : stored_count (board_of pages l) ≤ slot_count
  stored_most = b.fields.selected.log.count

  pub stored_frame : (p : ℕ) → p < pages
      → decode_frame (part (selected_part pages l) (area_frames_at + p * frame_size) frame_size) ≡ frame_at (board_of pages l).stable.selected.frames p
  stored_frame p h = rw selected_bytes (area_frame_read pages (board_of pages l).stable.selected b.fields.selected p h)

  pub stored_record : (i : ℕ) (d : Record) → i < stored_count (board_of pages l)
      → decode_record (part (selected_part pages l) (area_slots_at pages + i * slot_size) slot_size) ≡ get_or (board_of pages l).stable.selected.log i d
  stored_record i d h = rw selected_bytes (area_record_read pages (board_of pages l).stable.selected b.fields.selected i d h)
