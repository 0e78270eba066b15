-- Document 01, "Bytes of a bank", with document 02's F-2 and F-6: every width, offset and limit of the format, named once. Everything else cites these names.
-- What stands behind a field that grew is said for any form (`In`), and by its plain name for today's. docs/FORMAT.md draws them. Assumes nothing.
use Rattle.std.specs.Prelude.{ℕ, ◌+◌, ◌*◌}

-- ---- limits

-- "A bank has N boards (1 to 8) and P pages (1 to 16) of 16 bytes."
abbrev pub most_boards : ℕ
most_boards = 8

abbrev pub most_pages : ℕ
most_pages = 16

-- "The front display wants up to 32 cells in one call." (document 02, F-3)
abbrev pub most_cells : ℕ
most_cells = 32

abbrev pub page_size : ℕ
page_size = 16

-- "32 volatile slots", and as many in each area
abbrev pub slot_count : ℕ
slot_count = 32

-- "fuse u16 (stores left, 65,535 none)"
abbrev pub no_fuse : ℕ
no_fuse = 65535

-- "since or access number at 4,294,967,295" (document 02, F-2): the last value of each counter
abbrev pub last_since : ℕ
last_since = 4294967295

abbrev pub last_number : ℕ
last_number = 4294967295

-- a byte has 256 values
abbrev pub byte_values : ℕ
byte_values = 256

-- ---- widths of fields

abbrev pub fuse_size : ℕ
fuse_size = 2

abbrev pub number_size : ℕ
number_size = 4

-- What a form of a bank may choose: the width of since, and of a record's count, which takes its value.
pub record Form : Type 0 where
  pub since_width : ℕ

abbrev pub form_of : ℕ → Form
form_of width = record { since_width = width }

-- "The since field and each record's count grow from two bytes to four." (document 02, F-2)
abbrev pub today : Form
today = form_of 4

abbrev pub since_size : ℕ
since_size = today.since_width

-- ---- "Head: bytes 66, 75, then N, P."

abbrev pub head_mark0 : ℕ
head_mark0 = 66

abbrev pub head_mark1 : ℕ
head_mark1 = 75

abbrev pub head_mark0_at : ℕ
head_mark0_at = 0

abbrev pub head_mark1_at : ℕ
head_mark1_at = 1

abbrev pub boards_at : ℕ
boards_at = 2

abbrev pub pages_at : ℕ
pages_at = 3

abbrev pub head_size : ℕ
head_size = 4

-- ---- "Directory, per page: owner; copy-set"

abbrev pub owner_at : ℕ
owner_at = 0

abbrev pub copies_at : ℕ
copies_at = 1

abbrev pub entry_size : ℕ
entry_size = 2

-- ---- "A frame is a right .. and 16 page bytes"

abbrev pub right_at : ℕ
right_at = 0

abbrev pub frame_bytes_at : ℕ
frame_bytes_at = 1

abbrev pub frame_size : ℕ
frame_size = frame_bytes_at + page_size

-- ---- "A slot is ..: a two-byte mark, page, a zero byte, count .., 16 bytes."; "A record is then 24 bytes" (document 02, F-2); "The zero byte of a record now
-- names a board" (F-6)

abbrev pub mark0_at : ℕ
mark0_at = 0

abbrev pub mark1_at : ℕ
mark1_at = 1

abbrev pub slot_page_at : ℕ
slot_page_at = 2

abbrev pub slot_peer_at : ℕ
slot_peer_at = 3

abbrev pub record_count_at : ℕ
record_count_at = 4

module _ (form : Form) where
  abbrev pub slot_bytes_at_in : ℕ
  slot_bytes_at_in = record_count_at + form.since_width

  abbrev pub slot_size_in : ℕ
  slot_size_in = slot_bytes_at_in + page_size

  abbrev pub slots_size_in : ℕ
  slots_size_in = slot_count * slot_size_in

-- "Marks: "GC" got copy, "GO" got own, "SH" shown, "DR" dropped": the letters
abbrev pub letter_g : ℕ
letter_g = 71

abbrev pub letter_c : ℕ
letter_c = 67

abbrev pub letter_o : ℕ
letter_o = 79

abbrev pub letter_s : ℕ
letter_s = 83

abbrev pub letter_h : ℕ
letter_h = 72

abbrev pub letter_d : ℕ
letter_d = 68

abbrev pub letter_r : ℕ
letter_r = 82

-- ---- "An area: access number u32, stored count u8, P frames, 32 slots."

abbrev pub area_number_at : ℕ
area_number_at = 0

abbrev pub area_count_at : ℕ
area_count_at = area_number_at + number_size

abbrev pub area_frames_at : ℕ
area_frames_at = area_count_at + 1

abbrev pub area_slots_at : ℕ → ℕ
area_slots_at pages = area_frames_at + pages * frame_size

abbrev pub area_size_in : Form → ℕ → ℕ
area_size_in form pages = area_slots_at pages + slots_size_in form

-- ---- a block: "state, selector, fuse u16, access number u32, since .., replay place u8, volatile count u8, P frames, 32 volatile slots, two areas"

abbrev pub state_at : ℕ
state_at = 0

abbrev pub selector_at : ℕ
selector_at = state_at + 1

abbrev pub fuse_at : ℕ
fuse_at = selector_at + 1

abbrev pub number_at : ℕ
number_at = fuse_at + fuse_size

abbrev pub since_at : ℕ
since_at = number_at + number_size

module _ (form : Form) where
  abbrev pub place_at_in : ℕ
  place_at_in = since_at + form.since_width

  abbrev pub volatile_count_at_in : ℕ
  volatile_count_at_in = place_at_in + 1

  abbrev pub frames_at_in : ℕ
  frames_at_in = volatile_count_at_in + 1

  abbrev pub slots_at_in : ℕ → ℕ
  slots_at_in pages = frames_at_in + pages * frame_size

  -- the place of area 0 or 1
  abbrev pub area_at_in : ℕ → ℕ → ℕ
  area_at_in pages area = slots_at_in pages + slots_size_in form + area * area_size_in form pages

  abbrev pub block_size_in : ℕ → ℕ
  block_size_in pages = area_at_in pages 2

-- ---- the bank

abbrev pub blocks_at : ℕ → ℕ
blocks_at pages = head_size + pages * entry_size

abbrev pub bank_size_in : Form → ℕ → ℕ → ℕ
bank_size_in form boards pages = blocks_at pages + boards * block_size_in form pages

-- ---- the same of today's form

abbrev pub slot_bytes_at : ℕ
slot_bytes_at = slot_bytes_at_in today

abbrev pub slot_size : ℕ
slot_size = slot_size_in today

abbrev pub slots_size : ℕ
slots_size = slots_size_in today

abbrev pub area_size : ℕ → ℕ
area_size = area_size_in today

abbrev pub place_at : ℕ
place_at = place_at_in today

abbrev pub volatile_count_at : ℕ
volatile_count_at = volatile_count_at_in today

abbrev pub frames_at : ℕ
frames_at = frames_at_in today

abbrev pub slots_at : ℕ → ℕ
slots_at = slots_at_in today

abbrev pub area_at : ℕ → ℕ → ℕ
area_at = area_at_in today

-- "a block 2328 + 51P" (document 02, F-2)
abbrev pub block_size : ℕ → ℕ
block_size = block_size_in today

-- "Document 01's lengths move along": 4 + 2P + N(2328 + 51P)
abbrev pub bank_size : ℕ → ℕ → ℕ
bank_size = bank_size_in today
