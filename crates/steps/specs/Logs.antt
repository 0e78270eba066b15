-- The two logs of a board on its block: how many records they have, and what each step's writes leave in the bytes. What a flush comes to is in Flush.
-- Assumes nothing.
use Rattle.std.specs.Prelude.{◌≡◌, ℕ, ◌+◌, ◌*◌, ◌-◌, ◌≤◌, ◌<◌, true, List, [], ◌∷◌, length, eqb, leb}
use Rattle.std.proofs.Common.{sym, ◌∙◌, arith, le-leb, leb-true, leb-false}
use Rattle.std.proofs.lemmas.Bool.{lt-leb}
use Rattle.words.specs.LittleEndian.{bytes_of, number_of}
use Rattle.types.specs.declared.Kind.{Kind}
use Rattle.types.specs.declared.Record.{Record}
use Rattle.model.specs.Definitions.Parts.{part, splice, byte_at, zeros}
use Rattle.model.specs.Definitions.Layout.{slot_count, slot_size, slots_size, since_size, since_at, volatile_count_at, slots_at, selector_at, area_count_at, area_slots_at}
use Rattle.model.specs.Definitions.Layout.{area_size, block_size, today}
use Rattle.model.specs.Definitions.Bank.{Board, on_working}
use Rattle.model.specs.Definitions.Codec.{encode_record, decode_record, selector_byte, encode_board, decode_log_in, decode_board_in}
use Rattle.model.specs.Definitions.Steps.{recorded}
use Rattle.model.specs.Definitions.WellFormed.{RecordOk, FieldsOk}
use Rattle.model.proofs.Laws.Logic.{by_bool}
use Rattle.model.proofs.Laws.Parts.{length_splice, splice_within, byte_at_splice_left, index_in, length_decode_all}
use Rattle.model.proofs.Laws.Codec.{length_encode_record}
use Rattle.model.specs.Clauses.{stored_count, volatile_count, Recordable}
use Rattle.model.proofs.Laws.BlockFields.{read_since}
use Rattle.model.proofs.Laws.BlockStable.{area_in, with_record_bytes}
use Rattle.model.proofs.Laws.BlockWorking.{recorded_bytes, flushed_bytes}
use Rattle.format.specs.Areas.{selected_at, with_part, with_selected}
use Rattle.steps.specs.Blocks.{IsBlock, board_of, with_stored, flush_ended}
use Rattle.steps.specs.BlockLaws.{block_length}
use Rattle.steps.specs.Selected.{selected_place}

-- ---- what is read

-- the volatile count stands at the same place for any number of pages
pub volatile_read : (pages : ℕ) (l : List ℕ) → byte_at l volatile_count_at ≡ volatile_count (board_of pages l)
unfolding decode_board_in decode_log_in
volatile_read pages l = sym (length_decode_all decode_record slot_size (byte_at l volatile_count_at) (part l (slots_at pages) slots_size))

-- whether so many more fit, as the code asks it
pub fits_left : (k used n : ℕ) → used ≤ n → leb k (n - used) ≡ leb (used + k) n
fits_left k used n h =
    by_bool (leb k (n - used))
    (λ t. t ∙ sym (le-leb (used + k) n (omega (arith, leb-true k (n - used) t))))
    (λ t. t ∙ sym (lt-leb (used + k) n (omega (arith, leb-false k (n - used) t))))

-- ---- what is written

selected_in : (pages : ℕ) (l : List ℕ) → selected_at pages l + area_size pages ≤ block_size pages
unfolding selected_at
selected_in pages l = area_in pages (eqb (byte_at l selector_at) (selector_byte true))

module _ (pages : ℕ) (l : List ℕ) (n : length l ≡ block_size pages) (b : ℕ) (v : List ℕ) (h : b + length v ≤ area_size pages) where
  -- a splice in the selected area, lent as its own part
  selected_splice : with_selected pages (λ a. splice a b v) l ≡ splice l (selected_at pages l + b) v
  unfolding with_part
  selected_splice = splice_within l (selected_at pages l) (area_size pages) b v h (rw n (selected_in pages l))

  -- it leaves the length and the selector
  selected_length : length (splice l (selected_at pages l + b) v) ≡ block_size pages
  selected_length = length_splice l (selected_at pages l + b) v (omega (arith, selected_in pages l)) ∙ n

  selected_stays : selected_at pages (splice l (selected_at pages l + b) v) ≡ selected_at pages l
  unfolding selected_at
  selected_stays =
      let m : selected_at pages l + area_size pages ≤ block_size pages = selected_in pages l in
      rw (byte_at_splice_left l (selected_at pages l + b) v selector_at (omega arith) (omega arith))

module _ {pages : ℕ} {l : List ℕ} (block : IsBlock pages l) where
  abbrev x : Board
  x = board_of pages l

  abbrev ok : FieldsOk pages x
  ok = block.fields

  -- a record noted: its slot, the count, since
  pub record_bytes : (kind : Kind) (peer : ℕ) (bytes : List ℕ) (count at : ℕ) → count ≡ number_of (part l since_at since_size) → at ≡ volatile_count (board_of pages l)
      → Recordable pages kind peer bytes → at < slot_count
      → splice
      (splice (splice l (slots_at pages + at * slot_size) (encode_record (record { count = count; kind = kind; peer = peer; bytes = bytes }))) volatile_count_at ((at + 1) ∷ []))
      since_at (bytes_of since_size 0)
      ≡ encode_board (on_working (recorded kind peer bytes) (board_of pages l))
  record_bytes kind peer bytes count at p q v h =
      let s : count ≡ x.working.since = p ∙ (rw block.back at (read_since pages x ok)) in
      rw (s, q) (rw block.back at (recorded_bytes pages x ok kind peer bytes (v x.working.since (omega (arith, ok.working.since))) (omega arith)))

  -- a record stored: its slot of the selected area, the stored count
  pub append_bytes : (r : Record) (at : ℕ) → at ≡ stored_count (board_of pages l) → RecordOk pages r → at < slot_count
      → with_selected pages (λ a. splice a area_count_at ((at + 1) ∷ []))
      (with_selected pages (λ a. splice a (area_slots_at pages + at * slot_size) (encode_record r)) l)
      ≡ encode_board (with_stored r (board_of pages l))
  append_bytes r at q v h =
      let n : length l ≡ block_size pages = block_length block in
      let w : length (encode_record r) ≡ slot_size = length_encode_record today r v.size in
      let i : at * slot_size + slot_size ≤ slots_size = index_in slot_size slot_count at h in
      let b : ℕ = area_slots_at pages + at * slot_size in
      let m : List ℕ = splice l (selected_at pages l + b) (encode_record r) in
      rw (
        selected_splice pages l n b (encode_record r) (omega arith),
        selected_splice pages m (selected_length pages l n b (encode_record r) (omega arith)) area_count_at ((at + 1) ∷ []) (omega arith),
        selected_stays pages l n b (encode_record r) (omega arith),
        selected_place block,
        q,
      )
      (rw block.back at (with_record_bytes pages x ok r v (omega arith)))

  -- a flush ended: the count, the slots of its records
  pub end_bytes : (n : ℕ) → n ≡ volatile_count (board_of pages l)
      → splice (splice l volatile_count_at (0 ∷ [])) (slots_at pages) (zeros (n * slot_size)) ≡ encode_board (flush_ended (board_of pages l))
  unfolding flush_ended
  end_bytes n q =
      rw q (rw block.back at (flushed_bytes pages x ok.working.frames ok.working.log))
