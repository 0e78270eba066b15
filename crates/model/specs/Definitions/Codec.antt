-- Document 01, "Bytes of a bank", with document 02's F-2, F-6 and F-8: what each part looks like as bytes, and what bytes are read as, in any form and
-- in today's. Each reader takes exactly its part. Readers are total; bytes that no writer makes are told apart by WellFormed. Assumes nothing.
use Rattle.std.specs.Prelude.{ℕ, zero, suc, ◌*◌, ◌-◌, Bool, true, false, List, [], ◌∷◌, ◌++◌, length, drop, eqb}
use Rattle.words.specs.LittleEndian.{bytes_of, number_of}
unfoldable pub use Rattle.types.specs.Bytes.{right_byte, right_of, state_byte, state_of}
use Rattle.types.specs.declared.Frame.{Frame}
use Rattle.types.specs.declared.CopyOrOwn.TheVariants.{GotCopy, GotOwn}
use Rattle.types.specs.declared.Kind.{Kind}
use Rattle.types.specs.declared.Kind.TheVariants.{Got, Shown, Dropped}
use Rattle.types.specs.declared.Record.{Record}
use Rattle.model.specs.Definitions.Parts.{part, byte_at, zeros, encode_all, decode_all}
use Rattle.model.specs.Definitions.Layout.{page_size, entry_size, frame_size, slot_size_in, slots_size_in, owner_at, copies_at, right_at, frame_bytes_at, mark0_at}
use Rattle.model.specs.Definitions.Layout.{mark1_at, slot_page_at, slot_peer_at, slot_bytes_at_in, letter_g, letter_c, letter_o, letter_s, letter_h, letter_d}
use Rattle.model.specs.Definitions.Layout.{letter_r, fuse_size}
use Rattle.model.specs.Definitions.Layout.{number_size, Form, today, state_at, selector_at, fuse_at, number_at, since_at, place_at_in, volatile_count_at_in}
use Rattle.model.specs.Definitions.Layout.{frames_at_in, slots_at_in, area_at_in, area_size_in, area_number_at, area_count_at, area_frames_at, area_slots_at}
use Rattle.model.specs.Definitions.Layout.{block_size_in, head_mark0, head_mark1, head_size, boards_at, pages_at, blocks_at, record_count_at}
use Rattle.model.specs.Definitions.Bank.{Entry, Area, Stable, Board, Bank}

-- ---- "Directory, per page: owner; copy-set"

unfoldable pub encode_entry : Entry → List ℕ
encode_entry e = e.owner ∷ e.copies ∷ []

unfoldable pub decode_entry : List ℕ → Entry
decode_entry l = record { owner = byte_at l owner_at; copies = byte_at l copies_at }

-- ---- "A frame is a right (0 none, 1 copy, 2 own) and 16 page bytes"; right_byte and right_of stand with the type

unfoldable pub encode_frame : Frame → List ℕ
encode_frame f = right_byte f.right ∷ f.bytes

unfoldable pub decode_frame : List ℕ → Frame
decode_frame l = record { right = right_of (byte_at l right_at); bytes = part l frame_bytes_at page_size }

-- ---- "Marks: "GC" got copy, "GO" got own, "SH" shown, "DR" dropped."

unfoldable pub mark0 : Kind → ℕ
mark0 (Got g p) = letter_g
mark0 (Shown p) = letter_s
mark0 (Dropped p) = letter_d

unfoldable pub mark1 : Kind → ℕ
mark1 (Got GotCopy p) = letter_c
mark1 (Got GotOwn p) = letter_o
mark1 (Shown p) = letter_h
mark1 (Dropped p) = letter_r

unfoldable pub page_of : Kind → ℕ
page_of (Got g p) = p
page_of (Shown p) = p
page_of (Dropped p) = p

-- the kind that a mark and a page stand for
unfoldable pub kind_of : ℕ → ℕ → ℕ → Kind
kind_of m0 m1 p =
    elim (eqb m0 letter_g) [
      | true ↦ elim (eqb m1 letter_c) [ true ↦ Got GotCopy p | false ↦ Got GotOwn p ]
      | false ↦ elim (eqb m0 letter_s) [ true ↦ Shown p | false ↦ Dropped p ]
    ]

-- frames, page by page
unfoldable pub decode_frames : ℕ → List ℕ → List Frame
decode_frames pages l = decode_all decode_frame frame_size pages l

-- ---- "state (0 up, 1 dark, 2 replaying), selector (0 or 1)"; state_byte and state_of stand with the type

unfoldable pub selector_byte : Bool → ℕ
selector_byte false = 0
selector_byte true = 1

-- the area that the selector names, and the other
unfoldable pub decode_stable : Bool → Area → Area → Stable
decode_stable second area0 area1 =
    elim second [
      | false ↦ record { second = false; selected = area0; spare = area1 }
      | true ↦ record { second = true; selected = area1; spare = area0 }
    ]

-- ==== what holds a since or a count, in any form

module _ (form : Form) where
  -- "A slot is ..: a two-byte mark, page, a zero byte, count .., 16 bytes."; "The zero byte of a record now names a board" (document 02, F-6). Where
  -- records name nobody it is zero, which well-formedness asks for.
  unfoldable pub encode_record_in : Record → List ℕ
  encode_record_in r =
      mark0 r.kind ∷ mark1 r.kind ∷ page_of r.kind ∷ r.peer ∷ (bytes_of form.since_width r.count ++ r.bytes)

  unfoldable pub decode_record_in : List ℕ → Record
  decode_record_in l =
      record {
        count = number_of (part l record_count_at form.since_width);
        kind = kind_of (byte_at l mark0_at) (byte_at l mark1_at) (byte_at l slot_page_at);
        peer = byte_at l slot_peer_at;
        bytes = part l (slot_bytes_at_in form) page_size;
      }

  -- ---- a log, in 32 slots: its records; "every slot at or past a count to be zero" (document 02, F-8). A reader looks at none of these.

  unfoldable pub encode_log_in : List Record → List ℕ
  encode_log_in rs = encode_all encode_record_in rs ++ zeros (slots_size_in form - length rs * slot_size_in form)

  unfoldable pub decode_log_in : ℕ → List ℕ → List Record
  decode_log_in count l = decode_all decode_record_in (slot_size_in form) count l

  -- ---- "An area: access number u32, stored count u8, P frames, 32 slots."

  unfoldable pub encode_area_in : Area → List ℕ
  encode_area_in a = bytes_of number_size a.number ++ length a.log ∷ (encode_all encode_frame a.frames ++ encode_log_in a.log)

  unfoldable pub decode_area_in : ℕ → List ℕ → Area
  decode_area_in pages l =
      record {
        number = number_of (part l area_number_at number_size);
        frames = decode_frames pages (part l area_frames_at (pages * frame_size));
        log = decode_log_in (byte_at l area_count_at) (part l (area_slots_at pages) (slots_size_in form));
      }

  -- ---- a block: "state .., selector .., fuse u16, access number u32, since .., replay place u8, volatile count u8, P frames, 32 volatile slots,
  -- two areas"

  -- the fixed fields of a block, up to its frames
  unfoldable pub encode_fixed_in : Board → List ℕ
  encode_fixed_in x =
      state_byte x.state ∷ selector_byte x.stable.second
      ∷ (bytes_of fuse_size x.fuse
      ++ (bytes_of number_size x.working.number
      ++ (bytes_of form.since_width x.working.since ++ x.working.place ∷ length x.working.log ∷ [])))

  -- area 0, then area 1
  unfoldable pub encode_stable_in : Stable → List ℕ
  encode_stable_in t =
      elim t.second [
        | false ↦ encode_area_in t.selected ++ encode_area_in t.spare
        | true ↦ encode_area_in t.spare ++ encode_area_in t.selected
      ]

  unfoldable pub encode_board_in : Board → List ℕ
  encode_board_in x =
      encode_fixed_in x ++ (encode_all encode_frame x.working.frames ++ (encode_log_in x.working.log ++ encode_stable_in x.stable))

  unfoldable pub decode_board_in : ℕ → List ℕ → Board
  decode_board_in pages l =
      record {
        state = state_of (byte_at l state_at);
        fuse = number_of (part l fuse_at fuse_size);
        working =
            record {
              number = number_of (part l number_at number_size);
              since = number_of (part l since_at form.since_width);
              place = byte_at l (place_at_in form);
              frames = decode_frames pages (part l (frames_at_in form) (pages * frame_size));
              log = decode_log_in (byte_at l (volatile_count_at_in form)) (part l (slots_at_in form pages) (slots_size_in form));
            };
        stable =
            decode_stable
            (eqb (byte_at l selector_at) (selector_byte true))
            (decode_area_in pages (part l (area_at_in form pages 0) (area_size_in form pages)))
            (decode_area_in pages (part l (area_at_in form pages 1) (area_size_in form pages)));
      }

  -- ---- the bank: "Head: bytes 66, 75, then N, P", the directory, N blocks

  unfoldable pub encode_in : Bank → List ℕ
  encode_in k =
      head_mark0 ∷ head_mark1 ∷ length k.boards ∷ length k.directory
      ∷ (encode_all encode_entry k.directory ++ encode_all encode_board_in k.boards)

  unfoldable pub decode_in : List ℕ → Bank
  decode_in s =
      let pages : ℕ = byte_at s pages_at in
      record {
        directory = decode_all decode_entry entry_size pages (part s head_size (pages * entry_size));
        boards = decode_all (decode_board_in pages) (block_size_in form pages) (byte_at s boards_at) (drop (blocks_at pages) s);
      }

-- ==== the same in today's form

abbrev pub encode_record : Record → List ℕ
encode_record = encode_record_in today

abbrev pub decode_record : List ℕ → Record
decode_record = decode_record_in today

abbrev pub encode_log : List Record → List ℕ
encode_log = encode_log_in today

abbrev pub decode_log : ℕ → List ℕ → List Record
decode_log = decode_log_in today

abbrev pub encode_area : Area → List ℕ
encode_area = encode_area_in today

abbrev pub encode_fixed : Board → List ℕ
encode_fixed = encode_fixed_in today

abbrev pub encode_stable : Stable → List ℕ
encode_stable = encode_stable_in today

abbrev pub encode_board : Board → List ℕ
encode_board = encode_board_in today

abbrev pub decode_board : ℕ → List ℕ → Board
decode_board = decode_board_in today

abbrev pub encode : Bank → List ℕ
encode = encode_in today

abbrev pub decode : List ℕ → Bank
decode = decode_in today
