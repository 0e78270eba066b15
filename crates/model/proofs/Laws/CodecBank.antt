-- What was written reads back, of a block and of the bank: lengths, where each field stands, and that reading gives the board or the
-- bank again. Assumes nothing.
use Rattle.std.specs.Prelude.{◌≡◌, Bool, true, false, List, [], ◌∷◌, ◌++◌, drop, eqb}
use Rattle.std.proofs.Math.Path.{refl}
use Rattle.std.proofs.Common.{◌∙◌, arith}
use Prim.Native.Nat.{ℕ, ◌+◌, ◌*◌, ◌≤◌, ◌<◌}
use Rattle.std.proofs.Math.ListN.{length, length-append}
use Rattle.std.proofs.Math.Seq.{drop_at}
use Rattle.words.specs.Bytes.{Each}
use Rattle.words.specs.LittleEndian.{bytes_of}
use Rattle.words.specs.LittleEndianLaws.{length_bytes_of, number_of_bytes_of}
use Rattle.types.specs.declared.State.{State}
use Rattle.types.specs.declared.State.TheVariants.{Up, Down, Replaying}
use Rattle.model.specs.Definitions.Parts.{part, byte_at, encode_all}
use Rattle.model.specs.Definitions.Layout.{entry_size, frame_size, fuse_size, number_size, state_at, selector_at, fuse_at, number_at, since_at, head_mark0}
use Rattle.model.specs.Definitions.Layout.{head_mark1, head_size, boards_at, pages_at, blocks_at, slots_size_in, area_size_in, place_at_in, volatile_count_at_in}
use Rattle.model.specs.Definitions.Layout.{frames_at_in, slots_at_in, area_at_in, block_size_in, bank_size_in, Form}
use Rattle.model.specs.Definitions.Bank.{Entry, Area, Stable, Board, Bank}
use Rattle.model.specs.Definitions.Codec.{encode_entry, decode_entry, encode_frame, state_byte, state_of, selector_byte, decode_stable, encode_log_in}
use Rattle.model.specs.Definitions.Codec.{encode_area_in, encode_fixed_in, encode_stable_in, encode_board_in, decode_board_in, encode_in, decode_in}
use Rattle.model.specs.Definitions.WellFormed.{AreaOkIn, FieldsOkIn}
use Rattle.model.proofs.Laws.Logic.{cases, by_bool}
use Rattle.model.proofs.Laws.Lists.{each_imp}
use Rattle.model.proofs.Laws.Parts.{each_all, part_append_left, part_append_right, part_front, part_at, part_end, byte_at_append_left, byte_at_append_right}
use Rattle.model.proofs.Laws.Parts.{length_encode_all, decode_all_encode_all_all}
use Rattle.model.proofs.Laws.Codec.{length_encode_entry, decode_encode_entry, length_encode_frames, decode_encode_frames, length_encode_log, decode_encode_log}
use Rattle.model.proofs.Laws.Codec.{length_encode_area, decode_encode_area}

-- ---- the two areas of a block, by their place

unfoldable pub area0 : Stable → Area
area0 t = elim t.second [ false ↦ t.selected | true ↦ t.spare ]

unfoldable pub area1 : Stable → Area
area1 t = elim t.second [ false ↦ t.spare | true ↦ t.selected ]

pub encode_stable_split : (form : Form) (t : Stable) → encode_stable_in form t ≡ encode_area_in form (area0 t) ++ encode_area_in form (area1 t)
unfolding encode_stable_in area0 area1
encode_stable_split form t = by_bool t.second (λ e. rw e) (λ e. rw e)

pub decode_areas : (t : Stable) → decode_stable t.second (area0 t) (area1 t) ≡ t
unfolding decode_stable area0 area1
decode_areas t = by_bool t.second (λ e. rw e) (λ e. rw e)

-- ---- a block: the fixed fields

pub state_of_state_byte : (s : State) → state_of (state_byte s) ≡ s
unfolding state_of state_byte
state_of_state_byte Up = refl
state_of_state_byte Down = refl
state_of_state_byte Replaying = refl

pub eqb_selector_byte : (b : Bool) → eqb (selector_byte b) (selector_byte true) ≡ b
unfolding selector_byte
eqb_selector_byte true = refl
eqb_selector_byte false = refl

module _ (x : Board) where
  -- the bytes before the fuse
  abbrev pub switches : List ℕ
  switches = state_byte x.state ∷ selector_byte x.stable.second ∷ []

module _ (form : Form) (x : Board) where
  pub length_encode_fixed : length (encode_fixed_in form x) ≡ frames_at_in form
  unfolding encode_fixed_in
  length_encode_fixed = simp (length-append, length_bytes_of) (omega arith)

  pub fixed_state : byte_at (encode_fixed_in form x) state_at ≡ state_byte x.state
  unfolding encode_fixed_in byte_at
  fixed_state = refl

  pub fixed_selector : byte_at (encode_fixed_in form x) selector_at ≡ selector_byte x.stable.second
  unfolding encode_fixed_in byte_at
  fixed_selector = refl

  pub fixed_fuse : part (encode_fixed_in form x) fuse_at fuse_size ≡ bytes_of fuse_size x.fuse
  unfolding encode_fixed_in
  fixed_fuse = part_at (switches x) (bytes_of fuse_size x.fuse) _ fuse_at fuse_size refl (length_bytes_of fuse_size x.fuse)

  pub fixed_number : part (encode_fixed_in form x) number_at number_size ≡ bytes_of number_size x.working.number
  unfolding encode_fixed_in
  fixed_number =
      part_append_right (switches x) _ number_at fuse_size number_size refl
      ∙ part_at (bytes_of fuse_size x.fuse) (bytes_of number_size x.working.number) _ fuse_size number_size
      (length_bytes_of fuse_size x.fuse) (length_bytes_of number_size x.working.number)

  pub fixed_since : part (encode_fixed_in form x) since_at form.since_width ≡ bytes_of form.since_width x.working.since
  unfolding encode_fixed_in
  fixed_since =
      part_append_right (switches x) _ since_at (fuse_size + number_size) form.since_width refl
      ∙ part_append_right (bytes_of fuse_size x.fuse) _ (fuse_size + number_size) number_size form.since_width (rw length_bytes_of)
      ∙ part_at (bytes_of number_size x.working.number) (bytes_of form.since_width x.working.since) _ number_size form.since_width
      (length_bytes_of number_size x.working.number) (length_bytes_of form.since_width x.working.since)

  -- the last two bytes
  fixed_last : (a i : ℕ) → place_at_in form + i ≡ a
      → byte_at (encode_fixed_in form x) a ≡ byte_at (x.working.place ∷ length x.working.log ∷ []) i
  unfolding encode_fixed_in
  fixed_last a i e =
      byte_at_append_right (switches x) _ a (fuse_size + (number_size + (form.since_width + i))) (omega arith)
      ∙ byte_at_append_right (bytes_of fuse_size x.fuse) _ (fuse_size + (number_size + (form.since_width + i))) (number_size + (form.since_width + i))
      (rw length_bytes_of)
      ∙ byte_at_append_right (bytes_of number_size x.working.number) _ (number_size + (form.since_width + i)) (form.since_width + i) (rw length_bytes_of)
      ∙ byte_at_append_right (bytes_of form.since_width x.working.since) _ (form.since_width + i) i (rw length_bytes_of)

  pub fixed_place : byte_at (encode_fixed_in form x) (place_at_in form) ≡ x.working.place
  unfolding byte_at
  fixed_place = fixed_last (place_at_in form) 0 (omega arith)

  pub fixed_volatile : byte_at (encode_fixed_in form x) (volatile_count_at_in form) ≡ length x.working.log
  unfolding byte_at
  fixed_volatile = fixed_last (volatile_count_at_in form) 1 (omega arith)

-- ---- a block: where its fields stand

-- the bytes of the frames, of the volatile slots and of the two areas
abbrev frames_of : Board → List ℕ
frames_of x = encode_all encode_frame x.working.frames

abbrev slots_of : Form → Board → List ℕ
slots_of form x = encode_log_in form x.working.log

abbrev areas_of : Form → Board → List ℕ
areas_of form x = encode_area_in form (area0 x.stable) ++ encode_area_in form (area1 x.stable)

pub encode_board_split : (form : Form) (x : Board) → encode_board_in form x ≡ encode_fixed_in form x ++ (frames_of x ++ (slots_of form x ++ areas_of form x))
unfolding encode_board_in
encode_board_split form x = rw (encode_stable_split form)

module _ {form : Form} (pages : ℕ) (x : Board) (ok : FieldsOkIn form pages x) where
  length_frames : length (frames_of x) ≡ pages * frame_size
  length_frames = length_encode_frames pages x.working.frames ok.working.frames

  length_slots : length (slots_of form x) ≡ slots_size_in form
  length_slots = length_encode_log pages x.working.log ok.working.log

  pub area0_ok : AreaOkIn form pages (area0 x.stable)
  unfolding area0
  area0_ok = cases (AreaOkIn form pages) x.stable.second (λ e. ok.spare) (λ e. ok.selected)

  pub area1_ok : AreaOkIn form pages (area1 x.stable)
  unfolding area1
  area1_ok = cases (AreaOkIn form pages) x.stable.second (λ e. ok.selected) (λ e. ok.spare)

  length_area0 : length (encode_area_in form (area0 x.stable)) ≡ area_size_in form pages
  length_area0 = length_encode_area pages (area0 x.stable) area0_ok

  length_area1 : length (encode_area_in form (area1 x.stable)) ≡ area_size_in form pages
  length_area1 = length_encode_area pages (area1 x.stable) area1_ok

  pub length_encode_board : length (encode_board_in form x) ≡ block_size_in form pages
  length_encode_board =
      rw (encode_board_split form x)
      (simp (length-append, length_encode_fixed form x, length_frames, length_slots, length_area0, length_area1) (omega arith))

  pub board_fixed : (a n : ℕ) → a + n ≤ frames_at_in form → part (encode_board_in form x) a n ≡ part (encode_fixed_in form x) a n
  board_fixed a n h = rw (encode_board_split form x) (part_append_left (encode_fixed_in form x) _ a n (rw (length_encode_fixed form x) h))

  pub board_byte : (i : ℕ) → i < frames_at_in form → byte_at (encode_board_in form x) i ≡ byte_at (encode_fixed_in form x) i
  board_byte i h = rw (encode_board_split form x) (byte_at_append_left (encode_fixed_in form x) _ i (rw (length_encode_fixed form x) h))

  pub board_frames : part (encode_board_in form x) (frames_at_in form) (pages * frame_size) ≡ encode_all encode_frame x.working.frames
  board_frames =
      rw (encode_board_split form x) (part_at (encode_fixed_in form x) (frames_of x) _ (frames_at_in form) (pages * frame_size)
      (length_encode_fixed form x) length_frames)

  pub board_slots : part (encode_board_in form x) (slots_at_in form pages) (slots_size_in form) ≡ encode_log_in form x.working.log
  board_slots =
      rw (encode_board_split form x)
      (part_append_right (encode_fixed_in form x) _ (slots_at_in form pages) (pages * frame_size) (slots_size_in form) (rw (length_encode_fixed form x))
      ∙ part_at (frames_of x) (slots_of form x) _ (pages * frame_size) (slots_size_in form) length_frames length_slots)

  board_areas : (a b n : ℕ) → slots_at_in form pages + slots_size_in form + b ≡ a → part (encode_board_in form x) a n ≡ part (areas_of form x) b n
  board_areas a b n e =
      rw (encode_board_split form x)
      (part_append_right (encode_fixed_in form x) _ a (pages * frame_size + (slots_size_in form + b)) n (rw (length_encode_fixed form x) (omega arith))
      ∙ part_append_right (frames_of x) _ (pages * frame_size + (slots_size_in form + b)) (slots_size_in form + b) n (rw length_frames)
      ∙ part_append_right (slots_of form x) (areas_of form x) (slots_size_in form + b) b n (rw length_slots))

  pub board_area0 : part (encode_board_in form x) (area_at_in form pages 0) (area_size_in form pages) ≡ encode_area_in form (area0 x.stable)
  board_area0 =
      board_areas (area_at_in form pages 0) 0 (area_size_in form pages) (omega arith)
      ∙ part_front (encode_area_in form (area0 x.stable)) _ (area_size_in form pages) length_area0

  pub board_area1 : part (encode_board_in form x) (area_at_in form pages 1) (area_size_in form pages) ≡ encode_area_in form (area1 x.stable)
  board_area1 =
      board_areas (area_at_in form pages 1) (area_size_in form pages) (area_size_in form pages) (omega arith)
      ∙ part_end (encode_area_in form (area0 x.stable)) (encode_area_in form (area1 x.stable)) (area_size_in form pages)
      (area_size_in form pages) length_area0 length_area1

  -- ---- a block reads back

  working_back : (decode_board_in form pages (encode_board_in form x)).working ≡ x.working
  unfolding decode_board_in
  working_back =
      let y : Board = decode_board_in form pages (encode_board_in form x) in
      let n : y.working.number ≡ x.working.number
      = rw (board_fixed number_at number_size (omega arith), fixed_number form x)
      (number_of_bytes_of number_size x.working.number (omega (arith, ok.working.number))) in
      let s : y.working.since ≡ x.working.since
      = rw (board_fixed since_at form.since_width (omega arith), fixed_since form x)
      (number_of_bytes_of form.since_width x.working.since (omega (arith, ok.working.since))) in
      let p : y.working.place ≡ x.working.place = board_byte (place_at_in form) (omega arith) ∙ fixed_place form x in
      let f : y.working.frames ≡ x.working.frames = rw board_frames (decode_encode_frames pages x.working.frames ok.working.frames) in
      let g : y.working.log ≡ x.working.log
      = rw (board_byte (volatile_count_at_in form) (omega arith), fixed_volatile form x, board_slots)
      (decode_encode_log pages x.working.log ok.working.log) in
      λ i. record { number = n i; since = s i; place = p i; frames = f i; log = g i }

  stable_back : (decode_board_in form pages (encode_board_in form x)).stable ≡ x.stable
  unfolding decode_board_in
  stable_back =
      rw (board_byte selector_at (omega arith), fixed_selector form x, eqb_selector_byte x.stable.second, board_area0, board_area1)
      (rw (decode_encode_area pages (area0 x.stable) area0_ok, decode_encode_area pages (area1 x.stable) area1_ok) (decode_areas x.stable))

  pub decode_encode_board : decode_board_in form pages (encode_board_in form x) ≡ x
  unfolding decode_board_in
  decode_encode_board =
      let s : (decode_board_in form pages (encode_board_in form x)).state ≡ x.state
      = rw (board_byte state_at (omega arith), fixed_state form x) (state_of_state_byte x.state) in
      let f : (decode_board_in form pages (encode_board_in form x)).fuse ≡ x.fuse
      = rw (board_fixed fuse_at fuse_size (omega arith), fixed_fuse form x) (number_of_bytes_of fuse_size x.fuse (omega (arith, ok.fuse))) in
      λ i. record { state = s i; fuse = f i; working = working_back i; stable = stable_back i }

-- ---- the bank

pub length_encode_entries : (es : List Entry) → length (encode_all encode_entry es) ≡ length es * entry_size
length_encode_entries es = length_encode_all encode_entry entry_size es (each_all es length_encode_entry)

module _ (k : Bank) where
  -- the bytes before the directory
  abbrev pub bank_head : List ℕ
  bank_head = head_mark0 ∷ head_mark1 ∷ length k.boards ∷ length k.directory ∷ []

module _ (form : Form) (k : Bank) where
  pub bank_boards : byte_at (encode_in form k) boards_at ≡ length k.boards
  unfolding encode_in byte_at
  bank_boards = refl

  pub bank_pages : byte_at (encode_in form k) pages_at ≡ length k.directory
  unfolding encode_in byte_at
  bank_pages = refl

  pub bank_directory : part (encode_in form k) head_size (length k.directory * entry_size) ≡ encode_all encode_entry k.directory
  unfolding encode_in
  bank_directory =
      part_at (bank_head k) (encode_all encode_entry k.directory) _ head_size (length k.directory * entry_size) refl
      (length_encode_entries k.directory)

  pub bank_blocks : drop (blocks_at (length k.directory)) (encode_in form k) ≡ encode_all (encode_board_in form) k.boards
  unfolding encode_in
  bank_blocks =
      let e : length (encode_all encode_entry k.directory) ≡ length k.directory * entry_size = length_encode_entries k.directory in
      drop_at (bank_head k ++ encode_all encode_entry k.directory) (encode_all (encode_board_in form) k.boards) (blocks_at (length k.directory))
      (omega arith)

module _ {form : Form} (k : Bank) (ok : Each (FieldsOkIn form (length k.directory)) k.boards) where
  pub length_encode_boards : length (encode_all (encode_board_in form) k.boards) ≡ length k.boards * block_size_in form (length k.directory)
  length_encode_boards =
      length_encode_all (encode_board_in form) (block_size_in form (length k.directory)) k.boards
      (each_imp k.boards (length_encode_board (length k.directory)) ok)

  pub length_encode : length (encode_in form k) ≡ bank_size_in form (length k.boards) (length k.directory)
  unfolding encode_in
  length_encode =
      rw (
        length-append (encode_all encode_entry k.directory) (encode_all (encode_board_in form) k.boards),
        length_encode_entries
            k.directory,
        length_encode_boards,
      )
      (omega arith)

  pub decode_encode : decode_in form (encode_in form k) ≡ k
  unfolding decode_in
  decode_encode =
      let pages : ℕ = length k.directory in
      let d : (decode_in form (encode_in form k)).directory ≡ k.directory
      = rw (bank_pages form k, bank_directory form k)
      (decode_all_encode_all_all encode_entry decode_entry entry_size pages k.directory
      (each_all k.directory (λ e. (length_encode_entry e, decode_encode_entry e))) refl) in
      let b : (decode_in form (encode_in form k)).boards ≡ k.boards
      = rw (bank_pages form k, bank_boards form k, bank_blocks form k)
      (decode_all_encode_all_all (encode_board_in form) (decode_board_in form pages) (block_size_in form pages) (length k.boards) k.boards
      (each_imp k.boards (λ x h. (length_encode_board pages x h, decode_encode_board pages x h)) ok) refl) in
      λ i. record { directory = d i; boards = b i }
