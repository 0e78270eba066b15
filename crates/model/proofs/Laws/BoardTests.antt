-- Each test of a block in Definitions.Check says exactly its clauses of the board that the block is read as: what can be read at all, what the board
-- says of itself, and what it and the directory say of each other. Assumes nothing.
use Rattle.std.proofs.Math.Path.{◌≡◌}
use Rattle.std.specs.Prelude.{refl, ◌≢◌, Bool, true, false, ◌&&◌, take, drop, eqb, ltb, leb}
use Rattle.std.proofs.Common.{◌∙◌, suc-mul, arith, take-append-drop, length-drop, length-take-le, take_all, eqb-true}
use Prim.Native.Nat.{ℕ, zero, suc, ◌+◌, ◌*◌, ◌≤◌, ◌<◌}
use mathlib.Core.List.{List, [], ◌∷◌}
use Rattle.std.proofs.Math.ListN.{length}
use Rattle.words.specs.Bytes.{Each, each_nil, each_cons}
use Rattle.words.specs.LittleEndian.{number_of}
use Rattle.types.specs.declared.State.{State}
use Rattle.types.specs.declared.State.TheVariants.{Up, Down, Replaying}
use Rattle.model.specs.Definitions.Parts.{part, byte_at, every, member, decode_all}
use Rattle.model.specs.Definitions.Layout.{page_size, slot_count, no_fuse, entry_size, frame_size, fuse_size, number_size, state_at, selector_at, fuse_at}
use Rattle.model.specs.Definitions.Layout.{number_at, since_at, area_count_at, area_frames_at, area_slots_at, slot_size_in, slots_size_in, area_size_in, place_at_in}
use Rattle.model.specs.Definitions.Layout.{volatile_count_at_in, frames_at_in, slots_at_in, area_at_in, Form}
use Rattle.model.specs.Definitions.Bank.{Entry, Bank, board_at, entry_at, frame_at}
use Rattle.model.specs.Definitions.Codec.{right_byte, decode_entry, decode_frame, decode_frames, state_byte, state_of, selector_byte, decode_stable}
use Rattle.model.specs.Definitions.Codec.{decode_area_in, decode_board_in}
use Rattle.model.specs.Definitions.WellFormed.{FuseOk, RoomOk, PlaceOk, ReplayingOk, IsEmpty, Blank, DownOk, right_in, FieldsOkIn, BoardOkIn}
use Rattle.model.specs.Definitions.Check.{is_zero, area_count, counts_valid, frames_valid, all_frames_valid, fields_valid, selected_count, is_blank, state_valid}
use Rattle.model.specs.Definitions.Check.{board_valid, page_agrees, page_agrees_at, pages_agree, slot_valid, record_passes, stored_passes, slots_pass, records_pass}
use Rattle.model.proofs.Laws.Lists.{each_head, each_tail}
use Rattle.model.proofs.Laws.Parts.{length_part, part_part, byte_at_part, index_in}
use Rattle.model.proofs.Laws.CodecBack.{FramesPass, LogPasses, AreaPasses, Readable, length_decode_log}
use Rattle.model.proofs.Laws.CodecAt.{frame_read_at}
use Rattle.model.proofs.Laws.Tests.{Says, says_and, says_if, says_when, says_below, says_eq, says_lt, says_le, says_not, says_pos, zero_append, says_zero}
use Rattle.model.proofs.Laws.Tests.{says_same_right, says_right_none, says_none}

-- ---- what can be read: fields in range, frames and records

says_frames : (pages a : ℕ) (l : List ℕ) → Says (frames_valid pages a l) (FramesPass pages (part l a (pages * frame_size)))
unfolding frames_valid
says_frames pages a l =
    says_below pages _
    (λ p h. rw (part_part l a (pages * frame_size) (p * frame_size) frame_size (index_in frame_size pages p h)) (λ t. t, λ t. t))

pub says_record : (form : Form) (test : List ℕ → Bool) (a count : ℕ) (l : List ℕ) (i : ℕ) → i < slot_count
    → Says (record_passes form test a count l i) (i < count → test (part (part l a (slots_size_in form)) (i * slot_size_in form) (slot_size_in form)) ≡ true)
unfolding record_passes
says_record form test a count l i h =
    rw (part_part l a (slots_size_in form) (i * slot_size_in form) (slot_size_in form) (index_in (slot_size_in form) slot_count i h)) (says_when _ (says_lt i count))

-- an area is its part of the block
module _ (form : Form) (pages area : ℕ) (l : List ℕ) where
  abbrev own : List ℕ
  own = part l (area_at_in form pages area) (area_size_in form pages)

  frames_place : part own area_frames_at (pages * frame_size) ≡ part l (area_at_in form pages area + area_frames_at) (pages * frame_size)
  frames_place = part_part l (area_at_in form pages area) (area_size_in form pages) area_frames_at (pages * frame_size) (omega arith)

  pub count_place : byte_at own area_count_at ≡ area_count form pages area l
  unfolding area_count
  count_place = byte_at_part l (area_at_in form pages area) (area_size_in form pages) area_count_at (omega arith)

  pub slots_place : part own (area_slots_at pages) (slots_size_in form) ≡ part l (area_at_in form pages area + area_slots_at pages) (slots_size_in form)
  slots_place = part_part l (area_at_in form pages area) (area_size_in form pages) (area_slots_at pages) (slots_size_in form) (omega arith)

  area_of_parts : FramesPass pages (part l (area_at_in form pages area + area_frames_at) (pages * frame_size))
      → LogPasses form pages (area_count form pages area l) (part l (area_at_in form pages area + area_slots_at pages) (slots_size_in form))
      → AreaPasses form pages own
  area_of_parts f g = record { frames = rw frames_place f; log = rw (count_place, slots_place) g }

  frames_of_area : AreaPasses form pages own → FramesPass pages (part l (area_at_in form pages area + area_frames_at) (pages * frame_size))
  frames_of_area r = rw frames_place at r.frames

  log_of_area : AreaPasses form pages own → LogPasses form pages (area_count form pages area l)
      (part l (area_at_in form pages area + area_slots_at pages) (slots_size_in form))
  log_of_area r = rw (count_place, slots_place) at r.log

pub says_readable : {form : Form} (pages : ℕ) (l : List ℕ) → Says (fields_valid form pages l && records_pass form (slot_valid form pages) pages l) (Readable form pages l)
unfolding fields_valid counts_valid all_frames_valid records_pass slots_pass stored_passes
says_readable {form} pages l =
    let v : ℕ = byte_at l (volatile_count_at_in form) in
    let stored : ℕ → ℕ = λ area. area_count form pages area l in
    let start : ℕ → ℕ = λ area. area_at_in form pages area + area_slots_at pages in
    let fields =
    says_and (says_le (byte_at l state_at) (state_byte Replaying))
    (says_and (says_le (byte_at l selector_at) (selector_byte true))
    (says_and
    (says_and (says_le v slot_count) (says_and (says_le (stored 0) slot_count) (says_le (stored 1) slot_count)))
    (says_and (says_frames pages (frames_at_in form) l)
    (says_and (says_frames pages (area_at_in form pages 0 + area_frames_at) l) (says_frames pages (area_at_in form pages 1 + area_frames_at) l))))) in
    let valid : List ℕ → Bool = slot_valid form pages in
    let records =
    says_below slot_count (slots_pass form valid pages l)
    (λ i h.
    says_and (says_record form valid (slots_at_in form pages) v l i h)
    (says_and (says_record form valid (start 0) (stored 0) l i h) (says_record form valid (start 1) (stored 1) l i h))) in
    let all = says_and fields records in (
      λ t.
          let q = all.0 t in
          let c = q.0.1.1.0 in
          let f = q.0.1.1.1 in
          record {
            state = q.0.0;
            selector = q.0.1.0;
            frames = f.0;
            log = record { few = c.0; slots = λ i h. (q.1 i (omega (arith, c.0))).0 h };
            area0 = area_of_parts form pages 0 l f.1.0 (record { few = c.1.0; slots = λ i h. (q.1 i (omega (arith, c.1.0))).1.0 h });
            area1 = area_of_parts form pages 1 l f.1.1 (record { few = c.1.1; slots = λ i h. (q.1 i (omega (arith, c.1.1))).1.1 h });
          },
      λ r.
          let g : LogPasses form pages (stored 0) (part l (start 0) (slots_size_in form)) = log_of_area form pages 0 l r.area0 in
          let h : LogPasses form pages (stored 1) (part l (start 1) (slots_size_in form)) = log_of_area form pages 1 l r.area1 in
          all.1 (
            (
              r.state,
              (
                r.selector,
                (
                  (r.log.few, (g.few, h.few)),
                  (r.frames, (frames_of_area form pages 0 l r.area0, frames_of_area form pages 1 l r.area1)),
                ),
              ),
            ),
            λ i m. (λ k. r.log.slots i k, (λ k. g.slots i k, λ k. h.slots i k)),
          ),
    )

-- ---- what a board says of itself

-- an empty frame is zero in all its bytes
says_empty : (l : List ℕ) → length l ≡ frame_size → Says (is_zero l) (IsEmpty (decode_frame l))
unfolding decode_frame right_byte is_zero every part byte_at
says_empty [] e = absurd (omega arith)
says_empty (x ∷ xs) e = rw (take_all page_size xs (omega arith)) (says_and (says_right_none x) (says_zero xs page_size (omega arith)))

says_empties : (pages : ℕ) (l : List ℕ) → length l ≡ pages * frame_size → Says (is_zero l) (Each IsEmpty (decode_frames pages l))
unfolding decode_frames decode_all is_zero every
says_empties zero [] e = (λ h. each_nil, λ h. refl)
says_empties zero (x ∷ l) e = absurd (omega arith)
says_empties (suc n) l e =
    let f : suc n * frame_size ≡ n * frame_size + frame_size = suc-mul n frame_size in
    let split : is_zero l ≡ (is_zero (take frame_size l) && is_zero (drop frame_size l))
    = rw (take-append-drop frame_size l) at (zero_append (take frame_size l) (drop frame_size l)) in
    let both =
    says_and
    (says_empty (take frame_size l) (length-take-le frame_size l (omega arith)))
    (says_empties n (drop frame_size l) (rw (length-drop frame_size l) (omega arith))) in
    rw split (λ h. each_cons (both.0 h).0 (both.0 h).1, λ h. both.1 (each_head h, each_tail h))

-- a count is the number of records that were read
pub counted_area : (form : Form) (pages area : ℕ) (l : List ℕ)
    → length (decode_area_in form pages (part l (area_at_in form pages area) (area_size_in form pages))).log ≡ area_count form pages area l
unfolding decode_area_in
counted_area form pages area l =
    length_decode_log form _ (part (part l (area_at_in form pages area) (area_size_in form pages)) (area_slots_at pages) (slots_size_in form))
    ∙ count_place form pages area l

counted_stable : (form : Form) (pages : ℕ) (l : List ℕ) (second : Bool)
    → length
    (decode_stable second
    (decode_area_in form pages (part l (area_at_in form pages 0) (area_size_in form pages)))
    (decode_area_in form pages (part l (area_at_in form pages 1) (area_size_in form pages)))).selected.log
    ≡ area_count form pages (selector_byte second) l
unfolding decode_stable selector_byte
counted_stable form pages l false = counted_area form pages 0 l
counted_stable form pages l true = counted_area form pages 1 l

module _ (form : Form) (pages : ℕ) (l : List ℕ) where
  pub counted_volatile : length (decode_board_in form pages l).working.log ≡ byte_at l (volatile_count_at_in form)
  unfolding decode_board_in
  counted_volatile = length_decode_log form (byte_at l (volatile_count_at_in form)) (part l (slots_at_in form pages) (slots_size_in form))

  counted_selected : length (decode_board_in form pages l).stable.selected.log ≡ selected_count form pages l
  unfolding decode_board_in selected_count
  counted_selected = counted_stable form pages l (eqb (byte_at l selector_at) (selector_byte true))

  says_volatile : Says (eqb (byte_at l (volatile_count_at_in form)) 0) ((decode_board_in form pages l).working.log ≡ [])
  says_volatile = rw (← counted_volatile) (says_none (decode_board_in form pages l).working.log)

  says_blank : frames_at_in form + pages * frame_size ≤ length l → Says (is_blank form pages l) (Blank (decode_board_in form pages l))
  unfolding is_blank decode_board_in
  says_blank h =
      let frames : List ℕ = part l (frames_at_in form) (pages * frame_size) in
      let all =
      says_and
      (says_eq (number_of (part l number_at number_size)) 0)
      (says_and
      (says_eq (number_of (part l since_at form.since_width)) 0)
      (says_and
      says_volatile
      (says_and
      (says_empties pages frames (length_part l (frames_at_in form) (pages * frame_size) h))
      (says_eq (number_of (part l fuse_at fuse_size)) no_fuse)))) in (
        λ t.
            let q = all.0 t in
            record { number = q.0; since = q.1.0; volatile = q.1.1.0; frames = q.1.1.1.0; fuse = q.1.1.1.1 },
        λ k. all.1 (k.number, (k.since, (k.volatile, (k.frames, k.fuse)))),
      )

  -- what each state asks; of another state there is nothing to ask
  says_state : frames_at_in form + pages * frame_size ≤ length l → (t : State) → (decode_board_in form pages l).state ≡ t
      → Says (state_valid form t pages l) (PlaceOk t (decode_board_in form pages l)
      × (ReplayingOk (decode_board_in form pages l) × DownOk (decode_board_in form pages l)))
  unfolding state_valid PlaceOk decode_board_in
  says_state h Up e =
      let place = says_eq (byte_at l (place_at_in form)) 0 in
      (λ t. (place.0 t, (λ r. cc, λ d. let f : ◌≡◌ {A = ℕ} 0 1 = cc in absurd (omega arith))), λ k. place.1 k.0)
  says_state h Down e =
      let all = says_and (says_eq (byte_at l (place_at_in form)) 0) (says_blank h) in
      (λ t. ((all.0 t).0, (λ r. cc, λ d. (all.0 t).1)), λ k. all.1 (k.0, k.1.1 e))
  says_state h Replaying e =
      let place : Says (ltb (byte_at l (place_at_in form)) (selected_count form pages l))
      (byte_at l (place_at_in form) < length (decode_board_in form pages l).stable.selected.log)
      = rw counted_selected (says_lt (byte_at l (place_at_in form)) (selected_count form pages l)) in
      let all = says_and place says_volatile in
      (λ t. ((all.0 t).0, (λ r. (all.0 t).1, λ d. let f : ◌≡◌ {A = ℕ} 0 1 = cc in absurd (omega arith))), λ k. all.1 (k.0, k.1.0 e))

  -- all that a board says of itself
  says_board : frames_at_in form + pages * frame_size ≤ length l
      → Says (board_valid form pages l)
      (FuseOk (decode_board_in form pages l)
      × (RoomOk (decode_board_in form pages l)
      × (PlaceOk (decode_board_in form pages l).state (decode_board_in form pages l)
      × (ReplayingOk (decode_board_in form pages l) × DownOk (decode_board_in form pages l)))))
  unfolding board_valid decode_board_in
  says_board h =
      let room : Says (leb (selected_count form pages l + byte_at l (volatile_count_at_in form)) slot_count) (RoomOk (decode_board_in form pages l))
      = rw (counted_selected, counted_volatile) (says_le (selected_count form pages l + byte_at l (volatile_count_at_in form)) slot_count) in
      says_and (says_pos (number_of (part l fuse_at fuse_size))) (says_and room (says_state h (state_of (byte_at l state_at)) refl))

-- ---- what a board and the directory say of each other

says_up_byte : (n : ℕ) → Says (eqb n (state_byte Up)) (state_of n ≡ Up)
unfolding state_of state_byte
says_up_byte zero = (λ h. refl, λ h. refl)
says_up_byte (suc zero) = (λ h. cc, λ h. cc)
says_up_byte (suc (suc n)) = (λ h. let e : suc (suc n) ≡ 0 = eqb-true (suc (suc n)) 0 h in absurd (omega arith), λ h. cc)

-- page by page: the right of an up board, no copy of another
says_page : (form : Form) (directory l : List ℕ) (b p : ℕ)
    → Says (page_agrees_at form directory l b p)
    ((state_of (byte_at l state_at) ≡ Up
    → (decode_frame (part l (frames_at_in form + p * frame_size) frame_size)).right ≡ right_in (decode_entry (part directory (p * entry_size) entry_size)) b)
    × (state_of (byte_at l state_at) ≢ Up → member b (decode_entry (part directory (p * entry_size) entry_size)).copies ≡ false))
unfolding page_agrees_at page_agrees
says_page form directory l b p =
    let e : Entry = decode_entry (part directory (p * entry_size) entry_size) in
    says_if
    (eqb (byte_at l state_at) (state_byte Up))
    (says_up_byte (byte_at l state_at))
    (says_same_right (decode_frame (part l (frames_at_in form + p * frame_size) frame_size)).right (right_in e b))
    (says_not (member b e.copies))

-- where the fields are in range, the tests of a block say that its board is well formed
pub says_coherent : {form : Form} (k : Bank) (b pages : ℕ) (directory l : List ℕ) → length k.directory ≡ pages → board_at k b ≡ decode_board_in form pages l
    → ((p : ℕ) → p < pages → entry_at k p ≡ decode_entry (part directory (p * entry_size) entry_size))
    → FieldsOkIn form pages (decode_board_in form pages l) → frames_at_in form + pages * frame_size ≤ length l
    → Says (board_valid form pages l && pages_agree form pages directory l b) (BoardOkIn form k b)
unfolding pages_agree decode_board_in
says_coherent {form} k b pages directory l e x entries ok h =
    let all = says_and (says_board form pages l h) (says_below pages (page_agrees_at form directory l b) (λ p m. says_page form directory l b p)) in
    let right : (p : ℕ) → p < pages → (frame_at (board_at k b).working.frames p).right ≡ (decode_frame (part l (frames_at_in form + p * frame_size) frame_size)).right
    = λ p m. rw (x, frame_read_at pages l (frames_at_in form) p m) in (
      λ t.
          let q = all.0 t in
          record {
            fields = rw (e, x) ok;
            fuse = rw x q.0.0;
            room = rw x q.0.1.0;
            place = rw x q.0.1.1.0;
            replaying = rw x q.0.1.1.1.0;
            down = rw x q.0.1.1.1.1;
            rights = λ u p m. let n : p < pages = rw e at m in rw (right p n, entries p n) ((q.1 p n).0 (rw x at u));
            copies = λ u p m. let n : p < pages = rw e at m in rw (entries p n) ((q.1 p n).1 (rw x at u));
          },
      λ o.
          all.1 (
            (rw x at o.fuse, (rw x at o.room, (rw x at o.place, (rw x at o.replaying, rw x at o.down)))),
            λ p n.
                let m : p < length k.directory = rw e n in (
                  λ u. rw (right p n, entries p n) at (o.rights (rw x u) p m),
                  λ u. rw (entries p n) at (o.copies (rw x u) p m),
                ),
          ),
    )
