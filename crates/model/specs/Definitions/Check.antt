-- Document 01, "Well formed means", with document 02's F-6 and F-8, as a test of bytes: the head, the directory, every block but its records, the
-- records, whom they name, then the slots behind them; in any form, which what depends on one takes first. Laws/WellFormedTest proves that exactly
-- the bytes of a well-formed bank pass. Assumes nothing.
use Rattle.std.specs.Prelude.{ℕ, ◌+◌, ◌-◌, ◌*◌, ◌^◌, Bool, true, false, ◌&&◌, ◌||◌, not, List, length, eqb, ltb, leb}
use Rattle.words.specs.LittleEndian.{number_of}
use Rattle.types.specs.declared.Right.{Right}
use Rattle.types.specs.declared.Right.TheVariants.{None, Own}
use Rattle.types.specs.declared.State.{State}
use Rattle.types.specs.declared.State.TheVariants.{Up, Down, Replaying}
use Rattle.model.specs.Definitions.Parts.{part, byte_at, every, every_below, member}
use Rattle.model.specs.Definitions.Layout.{byte_values, letter_g, letter_c, letter_o, letter_s, letter_h, letter_d, letter_r, right_at, frame_bytes_at, mark0_at}
use Rattle.model.specs.Definitions.Layout.{mark1_at, most_boards, most_pages, page_size, slot_count, no_fuse, fuse_size, number_size, head_mark0, head_mark1}
use Rattle.model.specs.Definitions.Layout.{head_mark0_at, head_mark1_at, head_size, boards_at, pages_at, entry_size, frame_size, slot_page_at, slot_peer_at}
use Rattle.model.specs.Definitions.Layout.{area_frames_at, area_count_at, area_slots_at, state_at, selector_at, fuse_at, number_at, since_at, blocks_at, today}
use Rattle.model.specs.Definitions.Layout.{slot_bytes_at_in, slot_size_in, slots_size_in, place_at_in, volatile_count_at_in, frames_at_in, slots_at_in, area_at_in}
use Rattle.model.specs.Definitions.Layout.{block_size_in}
use Rattle.model.specs.Definitions.Layout.{bank_size_in, Form}
use Rattle.model.specs.Definitions.Bank.{Entry}
use Rattle.model.specs.Definitions.Codec.{decode_entry, right_byte, decode_frame, state_byte, state_of, selector_byte}
use Rattle.model.specs.Definitions.WellFormed.{right_in}

unfoldable pub is_zero : List ℕ → Bool
is_zero l = every (λ b. eqb b 0) l

-- ---- the sizes

-- "A bank has N boards (1 to 8) and P pages (1 to 16)"
abbrev pub sizes_allowed : ℕ → ℕ → Bool
sizes_allowed boards pages = ltb 0 boards && (leb boards most_boards && (ltb 0 pages && leb pages most_pages))

-- ---- the directory

-- the owner is a board; "no copy-set bit at or past N"; "The owner's bit is 0."
unfoldable pub entry_valid : ℕ → Entry → Bool
entry_valid boards e = ltb e.owner boards && (ltb e.copies (2 ^ boards) && not (member e.owner e.copies))

unfoldable pub directory_valid : ℕ → ℕ → List ℕ → Bool
directory_valid boards pages l = every_below pages (λ p. entry_valid boards (decode_entry (part l (p * entry_size) entry_size)))

-- ---- a frame, and the frames of all pages

-- "a right (0 none, 1 copy, 2 own) and 16 page bytes, all zero under right 0"
unfoldable pub frame_valid : List ℕ → Bool
frame_valid l =
    leb (byte_at l right_at) (right_byte Own) && (not (eqb (byte_at l right_at) (right_byte None)) || is_zero (part l frame_bytes_at page_size))

-- the frames of all pages, from a place on
unfoldable pub frames_valid : ℕ → ℕ → List ℕ → Bool
frames_valid pages a l = every_below pages (λ p. frame_valid (part l (a + p * frame_size) frame_size))

-- ---- a block: what a board and the directory say of each other

unfoldable pub same_right : Right → Right → Bool
same_right r q = eqb (right_byte r) (right_byte q)

-- "an up board's rights agree with the directory"; "a board not up is in no copy-set": of one page
unfoldable pub page_agrees : Bool → Right → Entry → ℕ → Bool
page_agrees up r e b = elim up [ true ↦ same_right r (right_in e b) | false ↦ not (member b e.copies) ]

-- ---- "records below a count valid"

-- "GC" and "GO", a got's mark; "SH" and "DR", a mark without page bytes
unfoldable pub got_mark : ℕ → ℕ → Bool
got_mark m0 m1 = eqb m0 letter_g && (eqb m1 letter_c || eqb m1 letter_o)

unfoldable pub bare_mark : ℕ → ℕ → Bool
bare_mark m0 m1 = (eqb m0 letter_s && eqb m1 letter_h) || (eqb m0 letter_d && eqb m1 letter_r)

-- "The 16 bytes are the page for got, else zero."
unfoldable pub mark_fits : ℕ → ℕ → Bool → Bool
mark_fits m0 m1 zero = got_mark m0 m1 || (zero && bare_mark m0 m1)

-- "this board below N and different from the log's own" (document 02, F-6); where no record names a board "a zero byte"
unfoldable pub peer_allowed : (named : Bool) (boards b : ℕ) → ℕ → Bool
peer_allowed true boards b peer = ltb peer boards && not (eqb peer b)
peer_allowed false boards b peer = eqb peer 0

-- whether a slot in a log of board b names a board that it may
unfoldable pub slot_peer_valid : (named : Bool) (boards b : ℕ) → List ℕ → Bool
slot_peer_valid named boards b l = peer_allowed named boards b (byte_at l slot_peer_at)

unfoldable pub directory_of : ℕ → List ℕ → List ℕ
directory_of pages s = part s head_size (pages * entry_size)

-- ==== what depends on a form

module _ (form : Form) where
  -- ---- "that length", and the head

  unfoldable pub head_valid : List ℕ → Bool
  head_valid s =
      let boards : ℕ = byte_at s boards_at in
      let pages : ℕ = byte_at s pages_at in
      eqb (byte_at s head_mark0_at) head_mark0
      && (eqb (byte_at s head_mark1_at) head_mark1
      && (sizes_allowed boards pages && eqb (length s) (bank_size_in form boards pages)))

  -- ---- a block: "every field in range" and "every frame as above". A number in whole bytes is in range by itself.

  -- how many records area 0 or 1 holds
  unfoldable pub area_count : ℕ → ℕ → List ℕ → ℕ
  area_count pages area l = byte_at l (area_at_in form pages area + area_count_at)

  -- "stored at most 32 in either", and at most as many volatile ones
  unfoldable pub counts_valid : ℕ → List ℕ → Bool
  counts_valid pages l =
      leb (byte_at l (volatile_count_at_in form)) slot_count && (leb (area_count pages 0 l) slot_count && leb (area_count pages 1 l) slot_count)

  -- the working frames, and those of both areas
  unfoldable pub all_frames_valid : ℕ → List ℕ → Bool
  all_frames_valid pages l =
      frames_valid pages (frames_at_in form) l
      && (frames_valid pages (area_at_in form pages 0 + area_frames_at) l && frames_valid pages (area_at_in form pages 1 + area_frames_at) l)

  unfoldable pub fields_valid : ℕ → List ℕ → Bool
  fields_valid pages l =
      leb (byte_at l state_at) (state_byte Replaying)
      && (leb (byte_at l selector_at) (selector_byte true) && (counts_valid pages l && all_frames_valid pages l))

  -- ---- a block: what a board says of itself

  -- how many records the selected area holds
  unfoldable pub selected_count : ℕ → List ℕ → ℕ
  selected_count pages l = area_count pages (selector_byte (eqb (byte_at l selector_at) (selector_byte true))) l

  -- "access number, since, volatile count and frames zero and no fuse"
  unfoldable pub is_blank : ℕ → List ℕ → Bool
  is_blank pages l =
      eqb (number_of (part l number_at number_size)) 0
      && (eqb (number_of (part l since_at form.since_width)) 0
      && (eqb (byte_at l (volatile_count_at_in form)) 0
      && (is_zero (part l (frames_at_in form) (pages * frame_size)) && eqb (number_of (part l fuse_at fuse_size)) no_fuse)))

  -- "place 0 unless replaying, and then below the selected stored count; a replaying board has no volatile record; a dark board has .."
  unfoldable pub state_valid : State → ℕ → List ℕ → Bool
  state_valid Up pages l = eqb (byte_at l (place_at_in form)) 0
  state_valid Down pages l = eqb (byte_at l (place_at_in form)) 0 && is_blank pages l
  state_valid Replaying pages l = ltb (byte_at l (place_at_in form)) (selected_count pages l) && eqb (byte_at l (volatile_count_at_in form)) 0

  -- "fuse not 0", "stored plus volatile at most 32 for the selected area", and what the state asks
  unfoldable pub board_valid : ℕ → List ℕ → Bool
  board_valid pages l =
      not (eqb (number_of (part l fuse_at fuse_size)) 0)
      && (leb (selected_count pages l + byte_at l (volatile_count_at_in form)) slot_count && state_valid (state_of (byte_at l state_at)) pages l)

  unfoldable pub page_agrees_at : List ℕ → List ℕ → ℕ → ℕ → Bool
  page_agrees_at directory l b p =
      page_agrees
      (eqb (byte_at l state_at) (state_byte Up))
      (decode_frame (part l (frames_at_in form + p * frame_size) frame_size)).right
      (decode_entry (part directory (p * entry_size) entry_size))
      b

  unfoldable pub pages_agree : ℕ → List ℕ → List ℕ → ℕ → Bool
  pages_agree pages directory l b = every_below pages (page_agrees_at directory l b)

  -- all of a block but its records
  unfoldable pub block_fits : ℕ → List ℕ → List ℕ → ℕ → Bool
  block_fits pages directory l b = fields_valid pages l && (board_valid pages l && pages_agree pages directory l b)

  -- "a two-byte mark, page, .., count .., 16 bytes"
  unfoldable pub slot_valid : ℕ → List ℕ → Bool
  slot_valid pages l =
      mark_fits (byte_at l mark0_at) (byte_at l mark1_at) (is_zero (part l (slot_bytes_at_in form) page_size)) && ltb (byte_at l slot_page_at) pages

  -- ---- a test of every record of a block

  -- where the slots of area 0 or 1 start in a block
  abbrev pub area_log_at : (pages area : ℕ) → ℕ
  area_log_at pages area = area_at_in form pages area + area_slots_at pages

  -- of the slot of an index in the log that starts at a place; a slot at or past a count is asked nothing here
  unfoldable pub record_passes : (List ℕ → Bool) → ℕ → ℕ → List ℕ → ℕ → Bool
  record_passes test a count l i = elim (ltb i count) [ true ↦ test (part l (a + i * slot_size_in form) (slot_size_in form)) | false ↦ true ]

  unfoldable pub stored_passes : (List ℕ → Bool) → ℕ → ℕ → List ℕ → ℕ → Bool
  stored_passes test pages area l i = record_passes test (area_log_at pages area) (area_count pages area l) l i

  -- of the slots of an index in all three logs
  unfoldable pub slots_pass : (List ℕ → Bool) → ℕ → List ℕ → ℕ → Bool
  slots_pass test pages l i =
      record_passes test (slots_at_in form pages) (byte_at l (volatile_count_at_in form)) l i && (stored_passes test pages 0 l i && stored_passes test pages 1 l i)

  unfoldable pub records_pass : (List ℕ → Bool) → ℕ → List ℕ → Bool
  records_pass test pages l = every_below slot_count (slots_pass test pages l)

  -- ---- the whole

  -- "A board's block is handed on as its own part of the buffer."
  unfoldable pub block_of_in : ℕ → List ℕ → ℕ → List ℕ
  block_of_in pages s b = part s (blocks_at pages + b * block_size_in form pages) (block_size_in form pages)

  unfoldable pub blocks_fit : ℕ → ℕ → List ℕ → Bool
  blocks_fit boards pages s = every_below boards (λ b. block_fits pages (directory_of pages s) (block_of_in pages s b) b)

  -- "The search for a malformed slot, board by board and slot by slot, ends at the first": its place shows in no answer.
  unfoldable pub logs_valid : ℕ → ℕ → List ℕ → Bool
  logs_valid boards pages s = every_below boards (λ b. records_pass (slot_valid pages) pages (block_of_in pages s b))

  unfoldable pub peers_valid : (named : Bool) → ℕ → ℕ → List ℕ → Bool
  peers_valid named boards pages s = every_below boards (λ b. records_pass (slot_peer_valid named boards b) pages (block_of_in pages s b))

  -- all that is asked of a bank's bytes but what F-8 asks of the slots at or past a count: "may hold anything" (document 01)
  unfoldable pub formed_in : (named : Bool) → List ℕ → Bool
  formed_in named s =
      let boards : ℕ = byte_at s boards_at in
      let pages : ℕ = byte_at s pages_at in
      elim (head_valid s) [
        | false ↦ false
        | true ↦
            every (λ b. ltb b byte_values) s
            && (directory_valid boards pages (directory_of pages s)
            && (blocks_fit boards pages s && (logs_valid boards pages s && peers_valid named boards pages s)))
      ]

  -- ---- "every slot at or past a count to be zero" (document 02, F-8)

  -- in the log of so many records whose 32 slots start at a place
  unfoldable pub rest_zero : (at count : ℕ) → List ℕ → Bool
  rest_zero a count l = is_zero (part l (a + count * slot_size_in form) (slots_size_in form - count * slot_size_in form))

  -- in all three logs of a block
  unfoldable pub block_clean : ℕ → List ℕ → Bool
  block_clean pages l =
      rest_zero (slots_at_in form pages) (byte_at l (volatile_count_at_in form)) l
      && (rest_zero (area_log_at pages 0) (area_count pages 0 l) l && rest_zero (area_log_at pages 1) (area_count pages 1 l) l)

  unfoldable pub slots_clean : List ℕ → Bool
  slots_clean s = let pages : ℕ = byte_at s pages_at in every_below (byte_at s boards_at) (λ b. block_clean pages (block_of_in pages s b))

  -- ---- all of it

  unfoldable pub well_formed_in : (named : Bool) → List ℕ → Bool
  well_formed_in named s = formed_in named s && slots_clean s

-- ==== the same of today's form, in which records name boards

abbrev pub well_formed : List ℕ → Bool
well_formed = well_formed_in today true
