-- The stable part of a block: where the selected area, the spare area and the selector stand in the bytes of a board, and that each stable store is
-- one or two splices of them. Assumes nothing.
use Rattle.std.specs.Prelude.{◌≡◌, ℕ, ◌+◌, ◌*◌, ◌≤◌, ◌<◌, Bool, length, eqb}
use Rattle.std.proofs.Math.Path.{refl, sym}
use Rattle.std.proofs.Common.{ap, ◌∙◌, arith, length-append}
use Rattle.std.proofs.Math.Nat.{zero-mul, one-mul}
use Rattle.std.proofs.Math.Bool.{true, false, not}
use mathlib.Core.List.{List, [], ◌∷◌, ◌++◌, append_assoc, append-nil}
use Rattle.words.specs.LittleEndian.{bytes_of}
use Rattle.types.specs.declared.Frame.{Frame}
use Rattle.types.specs.declared.Record.{Record}
use Rattle.model.specs.Definitions.Parts.{part, splice, byte_at, zeros, encode_all}
use Rattle.model.specs.Definitions.Layout.{slot_count, number_size, frame_size, slot_size, slots_size, area_number_at, area_count_at, area_frames_at, area_slots_at}
use Rattle.model.specs.Definitions.Layout.{area_size, selector_at, slots_at, area_at, block_size, today}
use Rattle.model.specs.Definitions.Bank.{Area, Stable, Board, frame_at, on_selected, on_spare}
use Rattle.model.specs.Definitions.Codec.{encode_frame, encode_record, encode_log, encode_area, state_byte, selector_byte, encode_fixed, encode_stable}
use Rattle.model.specs.Definitions.Codec.{encode_board, encode_fixed_in, encode_stable_in, encode_board_in}
use Rattle.model.specs.Definitions.WellFormed.{FrameOk, RecordOk, FieldsOk, WorkingOk}
use Rattle.model.specs.Definitions.Steps.{stored_frame, stored_head, stored_selector, with_record, with_area_frame, with_head}
use Rattle.model.proofs.Laws.Parts.{length_part, part_append_right, part_front, part_end, length_splice, part_splice, splice_append_right, splice_front}
use Rattle.model.proofs.Laws.Parts.{splice_at, splice_within, splice_again, index_in}
use Rattle.model.proofs.Laws.Codec.{length_encode_area, length_encode_frames, length_encode_frame, length_encode_record}
use Rattle.model.proofs.Laws.Codec.{length_encode_log}
use Rattle.model.proofs.Laws.CodecBank.{length_encode_fixed, length_encode_board, eqb_selector_byte}
use Rattle.model.proofs.Laws.BlockFields.{read_selector}
use Rattle.model.proofs.Laws.BlockAreas.{write_area_record, write_area_frame, write_area_head}
use Rattle.model.proofs.Laws.Valid.{frame_ok_at, area_ok_number, area_ok_log, area_ok_record}
use Rattle.model.proofs.Laws.Fresh.{no_record_ok}
use Rattle.model.proofs.Laws.BoardFields.{on_selected_fields}

-- ---- a part changed by two splices and put back

module _ {A : Type 0} (l : List A) (a n b : ℕ) (v : List A) (c : ℕ) (w : List A) where
  pub splice_within_twice : b + length v ≤ n → c + length w ≤ n → a + n ≤ length l
      → splice l a (splice (splice (part l a n) b v) c w) ≡ splice (splice l (a + b) v) (a + c) w
  splice_within_twice h k m =
      let u : List A = splice (part l a n) b v in
      let e : length (part l a n) ≡ n = length_part l a n m in
      let f : length u ≡ n = length_splice (part l a n) b v (omega arith) ∙ e in
      let g : length (splice u c w) ≡ n = length_splice u c w (omega arith) ∙ f in
      let i : length (splice l a u) ≡ length l = length_splice l a u (omega arith) in
      rw (← splice_within l a n b v h m, ← splice_within (splice l a u) a n c w k (omega arith), part_splice l a n u f (omega arith))
      (sym (splice_again l a u (splice u c w) (f ∙ sym g) (omega arith)))

-- ---- the two areas, side by side

-- either area lies in the block
pub area_in : (pages : ℕ) (second : Bool) → area_at pages (selector_byte second) + area_size pages ≤ block_size pages
unfolding selector_byte
area_in pages true = omega arith
area_in pages false = omega arith

-- the areas change places in the record, not in the bytes
swapped_areas : (second : Bool) (a s : Area)
    → encode_stable (record { second = not second; selected = s; spare = a }) ≡ encode_stable (record { second = second; selected = a; spare = s })
unfolding encode_stable_in
swapped_areas true a s = refl
swapped_areas false a s = refl

module _ (pages : ℕ) (a s : Area) (wide : length (encode_area a) ≡ area_size pages) (wide' : length (encode_area s) ≡ area_size pages) where
  selected_in : (second : Bool)
      → part (encode_stable (record { second = second; selected = a; spare = s })) (selector_byte second * area_size pages) (area_size pages) ≡ encode_area a
  unfolding encode_stable_in selector_byte
  selected_in true = rw one-mul (part_end (encode_area s) (encode_area a) (area_size pages) (area_size pages) wide' wide)
  selected_in false = rw zero-mul (part_front (encode_area a) (encode_area s) (area_size pages) wide)

  selected_spliced : (second : Bool) (b : Area) → length (encode_area b) ≡ area_size pages
      → splice (encode_stable (record { second = second; selected = a; spare = s })) (selector_byte second * area_size pages) (encode_area b)
      ≡ encode_stable (record { second = second; selected = b; spare = s })
  unfolding encode_stable_in selector_byte
  selected_spliced true b e =
      rw one-mul (simp append-nil at (splice_at (encode_area s) (encode_area a) (encode_area b) [] (area_size pages) wide' (wide ∙ sym e)))
  selected_spliced false b e = rw zero-mul (splice_front (encode_area a) (encode_area b) (encode_area s) (wide ∙ sym e))

-- ---- a block: what stands before the areas, and the areas

abbrev before : Board → List ℕ
before x = encode_fixed x ++ (encode_all encode_frame x.working.frames ++ encode_log x.working.log)

before_areas : (x : Board) → encode_board x ≡ before x ++ encode_stable x.stable
unfolding encode_board_in
before_areas x = simp append_assoc

module _ (pages : ℕ) (x : Board) (ok : FieldsOk pages x) where
  abbrev l : List ℕ
  l = encode_board x

  abbrev selected_place : ℕ
  selected_place = area_at pages (selector_byte x.stable.second)

  abbrev spare_place : ℕ
  spare_place = area_at pages (selector_byte (not x.stable.second))

  length_before : length (before x) ≡ slots_at pages + slots_size
  length_before =
      let w : WorkingOk pages x.working = ok.working in
      simp (length-append, length_encode_fixed, length_encode_frames pages x.working.frames w.frames, length_encode_log pages x.working.log w.log)
      (omega arith)

  wide_selected : length (encode_area x.stable.selected) ≡ area_size pages
  wide_selected = length_encode_area pages x.stable.selected ok.selected

  wide_spare : length (encode_area x.stable.spare) ≡ area_size pages
  wide_spare = length_encode_area pages x.stable.spare ok.spare

  -- the test that a reader of the block makes
  pub selector_read : eqb (byte_at (encode_board x) selector_at) (selector_byte true) ≡ x.stable.second
  selector_read = rw (read_selector pages x ok) (eqb_selector_byte x.stable.second)

  -- either of the two areas, and what stands in its place
  module _ (second : Bool) (a s : Area) (wide : length (encode_area a) ≡ area_size pages) (wide' : length (encode_area s) ≡ area_size pages)
      (e : encode_stable x.stable ≡ encode_stable (record { second = second; selected = a; spare = s })) where
    area_read : part (encode_board x) (area_at pages (selector_byte second)) (area_size pages) ≡ encode_area a
    area_read =
        rw (before_areas x, e)
        (part_append_right (before x) _ (area_at pages (selector_byte second)) (selector_byte second * area_size pages) (area_size pages) (rw length_before)
        ∙ selected_in pages a s wide wide' second)

    area_spliced : (b : Area) → length (encode_area b) ≡ area_size pages
        → splice (encode_board x) (area_at pages (selector_byte second)) (encode_area b)
        ≡ before x ++ encode_stable (record { second = second; selected = b; spare = s })
    area_spliced b w =
        rw (before_areas x, e)
        (splice_append_right (before x) _ (area_at pages (selector_byte second)) (selector_byte second * area_size pages) (encode_area b) (rw length_before)
        ∙ ap (λ (r : List ℕ). before x ++ r) (selected_spliced pages a s wide wide' second b w))

  abbrev t : Stable
  t = x.stable

  pub selected_part_lem : part (encode_board x) (area_at pages (selector_byte x.stable.second)) (area_size pages) ≡ encode_area x.stable.selected
  selected_part_lem = area_read t.second t.selected t.spare wide_selected wide_spare refl

  pub spare_part : part (encode_board x) (area_at pages (selector_byte (not x.stable.second))) (area_size pages) ≡ encode_area x.stable.spare
  spare_part = area_read (not t.second) t.spare t.selected wide_spare wide_selected (sym (swapped_areas t.second t.selected t.spare))

  -- an area changed is one splice
  pub write_selected : (f : Area → Area) → length (encode_area (f x.stable.selected)) ≡ area_size pages
      → splice (encode_board x) (area_at pages (selector_byte x.stable.second)) (encode_area (f x.stable.selected))
      ≡ encode_board (on_selected f x)
  unfolding on_selected encode_fixed_in
  write_selected f w =
      rw (before_areas (on_selected f x)) (area_spliced t.second t.selected t.spare wide_selected wide_spare refl (f t.selected) w)

  pub write_spare : (f : Area → Area) → length (encode_area (f x.stable.spare)) ≡ area_size pages
      → splice (encode_board x) (area_at pages (selector_byte (not x.stable.second))) (encode_area (f x.stable.spare))
      ≡ encode_board (on_spare f x)
  unfolding on_spare encode_fixed_in
  write_spare f w =
      let e : encode_stable t ≡ encode_stable (record { second = not t.second; selected = t.spare; spare = t.selected }) =
      sym (swapped_areas t.second t.selected t.spare) in
      rw (before_areas (on_spare f x), ← swapped_areas t.second t.selected (f t.spare))
      (area_spliced (not t.second) t.spare t.selected wide_spare wide_selected e (f t.spare) w)

  -- the same where the area is taken as its own part of the block and changed there
  pub write_selected_part : (f : Area → Area) (g : List ℕ → List ℕ) → g (encode_area x.stable.selected) ≡ encode_area (f x.stable.selected)
      → length (encode_area (f x.stable.selected)) ≡ area_size pages
      → splice (encode_board x) (area_at pages (selector_byte x.stable.second))
      (g (part (encode_board x) (area_at pages (selector_byte x.stable.second)) (area_size pages)))
      ≡ encode_board (on_selected f x)
  write_selected_part f g e w = rw (selected_part_lem, e) (write_selected f w)

  pub write_spare_part : (f : Area → Area) (g : List ℕ → List ℕ) → g (encode_area x.stable.spare) ≡ encode_area (f x.stable.spare)
      → length (encode_area (f x.stable.spare)) ≡ area_size pages
      → splice (encode_board x) (area_at pages (selector_byte (not x.stable.second)))
      (g (part (encode_board x) (area_at pages (selector_byte (not x.stable.second))) (area_size pages)))
      ≡ encode_board (on_spare f x)
  write_spare_part f g e w = rw (spare_part, e) (write_spare f w)

  fits_in : (second : Bool) → area_at pages (selector_byte second) + area_size pages ≤ length (encode_board x)
  fits_in second = rw (length_encode_board pages x ok) (area_in pages second)

  -- ---- the stores: each through the area's own part of the block, and as splices of the block

  -- one splice inside the spare area
  module _ (f : Area → Area) (b : ℕ) (v : List ℕ) (h : b + length v ≤ area_size pages)
      (e : splice (encode_area x.stable.spare) b v ≡ encode_area (f x.stable.spare)) where
    in_spare_part : splice l spare_place (splice (part l spare_place (area_size pages)) b v) ≡ encode_board (on_spare f x)
    in_spare_part =
        write_spare_part f (λ r. splice r b v) e
        (ap length (sym e) ∙ length_splice (encode_area t.spare) b v (omega (arith, wide_spare)) ∙ wide_spare)

    in_spare : splice l (spare_place + b) v ≡ encode_board (on_spare f x)
    in_spare = sym (splice_within l spare_place (area_size pages) b v h (fits_in (not t.second))) ∙ in_spare_part

  -- "one area frame": page p's frame goes to the spare area
  module _ (p : ℕ) (h : p < pages) where
    abbrev frame : Frame
    frame = frame_at x.working.frames p

    frame_ok : FrameOk frame
    frame_ok = frame_ok_at x.working.frames p ok.working.frames

    frame_in : area_frames_at + p * frame_size + length (encode_frame frame) ≤ area_size pages
    frame_in =
        let m : p * frame_size + frame_size ≤ pages * frame_size = index_in frame_size pages p h in
        let w : length (encode_frame frame) ≡ frame_size = length_encode_frame frame frame_ok.size in
        omega arith

    frame_written : splice (encode_area t.spare) (area_frames_at + p * frame_size) (encode_frame frame) ≡ encode_area (with_area_frame p frame t.spare)
    frame_written = write_area_frame pages t.spare ok.spare p frame frame_ok h

    pub stored_frame_bytes : splice (encode_board x) (area_at pages (selector_byte (not x.stable.second)) + (area_frames_at + p * frame_size))
        (encode_frame (frame_at x.working.frames p))
        ≡ encode_board (stored_frame p x)
    unfolding stored_frame
    stored_frame_bytes = in_spare (with_area_frame p frame) (area_frames_at + p * frame_size) (encode_frame frame) frame_in frame_written

  -- "one area head (number and stored count 0)", and its 32 slots (document 02, F-8)
  abbrev head : Area
  head = with_head x.working.number t.spare

  pub stored_head_bytes : splice (encode_board x) (area_at pages (selector_byte (not x.stable.second)))
      (splice
      (splice (part (encode_board x) (area_at pages (selector_byte (not x.stable.second))) (area_size pages)) area_number_at
      (bytes_of number_size x.working.number ++ (0 ∷ [])))
      (area_slots_at pages) (zeros slots_size))
      ≡ encode_board (stored_head x)
  unfolding stored_head
  stored_head_bytes =
      write_spare_part (with_head x.working.number)
      (λ s. splice (splice s area_number_at (bytes_of number_size x.working.number ++ (0 ∷ []))) (area_slots_at pages) (zeros slots_size))
      (write_area_head pages t.spare ok.spare x.working.number)
      (length_encode_area pages head (area_ok_number (area_ok_log ok.spare (no_record_ok pages)) x.working.number ok.working.number))

  -- "one selector": the areas stay where they are
  pub stored_selector_bytes : splice (encode_board x) selector_at (selector_byte (not x.stable.second) ∷ []) ≡ encode_board (stored_selector x)
  unfolding stored_selector encode_board_in encode_fixed_in
  stored_selector_bytes =
      rw (swapped_areas t.second t.selected t.spare)
      (splice_at (state_byte x.state ∷ []) (selector_byte t.second ∷ []) (selector_byte (not t.second) ∷ []) _ selector_at refl refl)

  -- "one record appended to the selected area": the record in the slot at the stored count, and the count one more
  module _ (r : Record) (v : RecordOk pages r) (h : length x.stable.selected.log < slot_count) where
    abbrev stored : ℕ
    stored = length t.selected.log

    pub with_record_part : splice (encode_board x) (area_at pages (selector_byte x.stable.second))
        (splice
        (splice (part (encode_board x) (area_at pages (selector_byte x.stable.second)) (area_size pages))
        (area_slots_at pages + length x.stable.selected.log * slot_size) (encode_record r))
        area_count_at ((length x.stable.selected.log + 1) ∷ []))
        ≡ encode_board (on_selected (with_record r) x)
    with_record_part =
        write_selected_part (with_record r) (λ s. splice (splice s (area_slots_at pages + stored * slot_size) (encode_record r)) area_count_at ((stored + 1) ∷ []))
        (write_area_record pages t.selected ok.selected r v h)
        (length_encode_area pages (with_record r t.selected) (area_ok_record ok.selected v h))

    pub with_record_bytes : splice
        (splice (encode_board x) (area_at pages (selector_byte x.stable.second) + (area_slots_at pages + length x.stable.selected.log * slot_size))
        (encode_record r))
        (area_at pages (selector_byte x.stable.second) + area_count_at) ((length x.stable.selected.log + 1) ∷ [])
        ≡ encode_board (on_selected (with_record r) x)
    with_record_bytes =
        let w : length (encode_record r) ≡ slot_size = length_encode_record today r v.size in
        let m : stored * slot_size + slot_size ≤ slots_size = index_in slot_size slot_count stored h in
        sym
        (splice_within_twice l selected_place (area_size pages) (area_slots_at pages + stored * slot_size) (encode_record r) area_count_at ((stored + 1) ∷ [])
        (omega arith) (omega arith) (fits_in t.second))
        ∙ with_record_part

  pub with_record_fields : (r : Record) → RecordOk pages r → length x.stable.selected.log < slot_count
      → FieldsOk pages (on_selected (with_record r) x)
  with_record_fields r v h = on_selected_fields ok (with_record r) (area_ok_record ok.selected v h)
