-- Words of this crate's contracts: the test of Definitions/Check in the pieces that the code makes of it. Search and Order prove that they are the whole.
-- Assumes nothing.
use Rattle.std.specs.Prelude.{◌≡◌, ℕ, ◌+◌, ◌*◌, Bool, true, ◌&&◌, not, List, eqb, leb}
use Rattle.std.specs.Int.Bits.{bit_or}
use Rattle.words.specs.LittleEndian.{number_of}
use Rattle.types.specs.declared.State.{State}
use Rattle.types.specs.declared.State.TheVariants.{Up, Down, Replaying}
use Rattle.model.specs.Definitions.Parts.{part, byte_at, every_below, member}
use Rattle.model.specs.Definitions.Layout.{slot_count, no_fuse, fuse_size, number_size, entry_size, frame_size, area_frames_at, area_slots_at, state_at, selector_at}
use Rattle.model.specs.Definitions.Layout.{fuse_at, number_at, since_at, Form, slot_size_in, place_at_in, volatile_count_at_in, frames_at_in, slots_at_in, area_at_in}
use Rattle.types.specs.Bytes.{state_byte, state_of}
use Rattle.model.specs.Definitions.Codec.{decode_entry, decode_frame, selector_byte}
use Rattle.model.specs.Definitions.Check.{is_zero, frame_valid, frames_valid, page_agrees, area_count, counts_valid, selected_count, state_valid, pages_agree}
use Rattle.model.specs.Definitions.Check.{slot_valid, slot_peer_valid}
use Rattle.validity.specs.declared.bank.Log.{Log}
use Rattle.validity.specs.declared.bank.Log.TheVariants.{First, Second, Volatile}

-- a word: two numbers side by side
abbrev pub word_size : ℕ
word_size = 2 * number_size

-- the bits of a page, of its two words joined
unfoldable pub page_bits : List ℕ → ℕ
page_bits l = bit_or (number_of (part l 0 word_size)) (number_of (part l word_size word_size))

-- a board is in no copy-set of the directory
unfoldable pub holds_none : ℕ → List ℕ → ℕ → Bool
holds_none pages directory b = every_below pages (λ p. not (member b (decode_entry (part directory (p * entry_size) entry_size)).copies))

-- a set has the boards that hold a copy of some page, and no other
abbrev pub Holders : ℕ → List ℕ → ℕ → Type 0
Holders pages directory set = (b : ℕ) → not (member b set) ≡ holds_none pages directory b

-- a frame of an up board: its right is the directory's, and it is valid
unfoldable pub frame_agrees : List ℕ → List ℕ → ℕ → Bool
frame_agrees entry frame b = page_agrees true (decode_frame frame).right (decode_entry entry) b && frame_valid frame

-- a block's logs by number: those of areas 0 and 1, and the volatile one
abbrev pub volatile_log : ℕ
volatile_log = 2

abbrev pub logs : ℕ
logs = volatile_log + 1

abbrev pub log_number : Log → ℕ
log_number First = 0
log_number Second = 1
log_number Volatile = volatile_log

module _ (form : Form) where
  -- the frames of both areas
  unfoldable pub stored_frames_valid : ℕ → List ℕ → Bool
  stored_frames_valid pages l =
      frames_valid pages (area_at_in form pages 0 + area_frames_at) l && frames_valid pages (area_at_in form pages 1 + area_frames_at) l

  -- those of one page
  abbrev pub stored_page_valid : ℕ → List ℕ → ℕ → Bool
  stored_page_valid pages l p =
      frame_valid (part l (area_at_in form pages 0 + area_frames_at + p * frame_size) frame_size)
      && frame_valid (part l (area_at_in form pages 1 + area_frames_at + p * frame_size) frame_size)

  -- fields_valid but for the frames
  unfoldable pub fixed_fields_valid : ℕ → List ℕ → Bool
  fixed_fields_valid pages l =
      leb (byte_at l state_at) (state_byte Replaying) && (leb (byte_at l selector_at) (selector_byte true) && counts_valid form pages l)

  -- is_blank but for the frames
  unfoldable pub blank_fields : List ℕ → Bool
  blank_fields l =
      eqb (number_of (part l number_at number_size)) 0
      && (eqb (number_of (part l since_at form.since_width)) 0
      && (eqb (byte_at l (volatile_count_at_in form)) 0 && eqb (number_of (part l fuse_at fuse_size)) no_fuse))

  -- state_valid and board_valid with that in isBlank's place
  unfoldable pub state_fields_valid : State → ℕ → List ℕ → Bool
  state_fields_valid Up pages l = state_valid form Up pages l
  state_fields_valid Down pages l = eqb (byte_at l (place_at_in form)) 0 && blank_fields l
  state_fields_valid Replaying pages l = state_valid form Replaying pages l

  unfoldable pub board_fields_valid : ℕ → List ℕ → Bool
  board_fields_valid pages l =
      not (eqb (number_of (part l fuse_at fuse_size)) 0)
      && (leb (selected_count form pages l + byte_at l (volatile_count_at_in form)) slot_count && state_fields_valid (state_of (byte_at l state_at)) pages l)

  -- a board's own frames: a down board's are zero
  unfoldable pub own_frames_valid : State → ℕ → List ℕ → Bool
  own_frames_valid Up pages l = frames_valid pages (frames_at_in form) l
  own_frames_valid Down pages l = is_zero (part l (frames_at_in form) (pages * frame_size))
  own_frames_valid Replaying pages l = frames_valid pages (frames_at_in form) l

  -- all frames, and what board and directory say of each other
  unfoldable pub frames_fit : State → ℕ → List ℕ → List ℕ → ℕ → Bool
  frames_fit t pages directory l b = stored_frames_valid pages l && (own_frames_valid t pages l && pages_agree form pages directory l b)

  -- the same of an up board, and of a down one but for the directory: a page of all three lists of frames at a time
  abbrev pub own_page_agrees : List ℕ → List ℕ → ℕ → ℕ → Bool
  own_page_agrees directory l b p = frame_agrees (part directory (p * entry_size) entry_size) (part l (frames_at_in form + p * frame_size) frame_size) b

  unfoldable pub frames_agree : ℕ → List ℕ → List ℕ → ℕ → Bool
  frames_agree pages directory l b = every_below pages (λ p. own_page_agrees directory l b p && stored_page_valid pages l p)

  abbrev pub own_page_zero : List ℕ → ℕ → Bool
  own_page_zero l p = is_zero (part l (frames_at_in form + p * frame_size) frame_size)

  unfoldable pub down_frames_valid : ℕ → List ℕ → Bool
  down_frames_valid pages l = every_below pages (λ p. own_page_zero l p && stored_page_valid pages l p)

  -- how many records a log holds, where its slots stand, and whether the record of an index, and all of them, pass a test
  unfoldable pub log_count : ℕ → List ℕ → Log → ℕ
  log_count pages l First = area_count form pages 0 l
  log_count pages l Second = area_count form pages 1 l
  log_count pages l Volatile = byte_at l (volatile_count_at_in form)

  unfoldable pub log_slots_at : ℕ → Log → ℕ
  log_slots_at pages First = area_at_in form pages 0 + area_slots_at pages
  log_slots_at pages Second = area_at_in form pages 1 + area_slots_at pages
  log_slots_at pages Volatile = slots_at_in form pages

  unfoldable pub record_passes_in : (List ℕ → Bool) → ℕ → List ℕ → Log → ℕ → Bool
  record_passes_in test pages l log i = test (part l (log_slots_at pages log + i * slot_size_in form) (slot_size_in form))

  unfoldable pub log_passes : (List ℕ → Bool) → ℕ → List ℕ → Log → Bool
  log_passes test pages l log = every_below (log_count pages l log) (record_passes_in test pages l log)

  -- the test of a record of board b: its slot, and whom it names
  unfoldable pub record_valid : (named : Bool) (boards pages b : ℕ) → List ℕ → Bool
  record_valid named boards pages b slot = slot_valid form pages slot && slot_peer_valid named boards b slot
