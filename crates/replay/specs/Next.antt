-- A stored record of a replaying board: read at its place, ready or not, and valid where it is ready. Assumes nothing.
use Rattle.std.specs.Prelude.{◌≡◌, refl, ℕ, suc, ◌+◌, ◌*◌, ◌≤◌, ◌<◌, true, false, List, [], ◌∷◌, length, drop, get_or, eqb, leb, Option, Some, None}
use Rattle.std.proofs.Common.{ap, ◌∙◌, arith, length-drop, drop_of_length-le, drop-cons, eq-eqb, ne_eqb}
use Rattle.std.specs.Bool.{then_some}
use Rattle.words.specs.Bytes.{Each}
use Rattle.words.specs.LittleEndian.{number_of}
use Rattle.types.specs.declared.Record.{Record}
use Rattle.model.specs.Definitions.Parts.{part, byte_at}
use Rattle.model.specs.Definitions.Layout.{since_size, slot_size, since_at, place_at, area_count_at, area_slots_at}
use Rattle.model.specs.Definitions.Bank.{Board}
use Rattle.model.specs.Definitions.Codec.{decode_record, decode_board_in}
use Rattle.model.specs.Clauses.{stored_count}
use Rattle.model.specs.Definitions.WellFormed.{RecordOk, FieldsOk}
use Rattle.model.specs.Definitions.Replay.{records_left, replay_over}
use Rattle.model.proofs.Laws.Logic.{by_bool}
use Rattle.model.proofs.Laws.Lists.{each_head, each_drop}
use Rattle.format.specs.Areas.{selected_part}
use Rattle.steps.specs.Selected.{stored_count_lem, stored_record}
use Rattle.steps.specs.Blocks.{IsBlock, board_of}
use Rattle.replay.specs.Clauses.{ready_in, ready}

pub by_option : {X B : Type 0} (o : Option B) → (o ≡ None → X) → ((x : B) → o ≡ Some x → X) → X
by_option None g h = g refl
by_option (Some x) g h = h x refl

-- ---- the record that is ready

-- no record is left behind a place
pub ready_past : (l : List Record) (p since : ℕ) → length l ≤ p → ready_in (drop p l) since ≡ None
unfolding ready_in
ready_past l p since h = rw (drop_of_length-le l {i = p} h)

-- the record at a place
ready_here : (l : List Record) (p since : ℕ) (r : Record) → p < length l → r ≡ get_or l p r
    → ready_in (drop p l) since ≡ then_some (eqb r.count since) r
unfolding ready_in
ready_here l p since r h e =
    let s : ready_in (drop p l) since ≡ elim (eqb r.count since) [ true ↦ Some r | false ↦ None ] = rw (drop-cons l p r h, ← e) in
    s ∙ by_bool (eqb r.count since) (λ t. rw t) (λ t. rw t)

module _ {pages : ℕ} {l : List ℕ} (b : IsBlock pages l) where
  -- "when no record is left", by the count and the place that are read
  pub over_read : (n p : ℕ) → n ≡ byte_at (selected_part pages l) area_count_at → p ≡ byte_at l place_at → leb n p ≡ replay_over (board_of pages l)
  unfolding replay_over decode_board_in
  over_read n p e f = rw (e, f, stored_count_lem b)

  -- the record that is read at a place: its count equals since, or doesn't
  module _ (p s : ℕ) (r : Record) (h : p < stored_count (board_of pages l))
      (g : r ≡ decode_record (part (selected_part pages l) (area_slots_at pages + p * slot_size) slot_size)) where
    pub read_at : ready_in (drop p (board_of pages l).stable.selected.log) s ≡ then_some (eqb r.count s) r
    read_at = ready_here (board_of pages l).stable.selected.log p s r h (g ∙ stored_record b p r h)

    pub ready_read : r.count ≡ s → ready_in (drop p (board_of pages l).stable.selected.log) s ≡ Some r
    ready_read t = rw (eq-eqb r.count s t) at read_at

    pub unready_read : (r.count ≡ s → ⊥) → ready_in (drop p (board_of pages l).stable.selected.log) s ≡ None
    unready_read t = rw (ne_eqb r.count s t) at read_at

-- the place and the since that are read
pub place_read : (pages : ℕ) (l : List ℕ) (p : ℕ) → p ≡ byte_at l place_at → p ≡ (board_of pages l).working.place
unfolding decode_board_in
place_read pages l p e = e

pub since_read : (pages : ℕ) (l : List ℕ) (s : ℕ) → s ≡ number_of (part l since_at since_size) → s ≡ (board_of pages l).working.since
unfolding decode_board_in
since_read pages l s e = e

-- a record that is ready is the first of those left
pub record Ready (l : List Record) (since : ℕ) (r : Record) : Type 0 where
  pub first : l ≡ r ∷ drop 1 l
  pub equal : eqb r.count since ≡ true

pub ready_in_some : (l : List Record) (since : ℕ) (r : Record) → ready_in l since ≡ Some r → Ready l since r
unfolding ready_in
ready_in_some [] since r h = cc
ready_in_some (q ∷ qs) since r h =
    by_bool (eqb q.count since)
    (λ t. let e : q ≡ r = cc in record { first = rw e; equal = rw (← e) t })
    (λ t. cc)

-- so there is one at the place, and it is valid
pub valid_at : {pages : ℕ} (l : List Record) (p since : ℕ) (r : Record) → Each (RecordOk pages) l → ready_in (drop p l) since ≡ Some r
    → (p < length l) × RecordOk pages r
valid_at l p since r ok h =
    let s : Ready (drop p l) since r = ready_in_some (drop p l) since r h in
    let n : length (drop p l) ≡ suc (length (drop 1 (drop p l))) = ap length s.first in
    (omega (arith, length-drop p l), each_head (rw s.first at (each_drop p l ok)))

pub ready_valid : {pages : ℕ} (x : Board) (r : Record) → FieldsOk pages x → ready x ≡ Some r
    → (x.working.place < length x.stable.selected.log) × RecordOk pages r
unfolding ready records_left
ready_valid x r ok h = valid_at x.stable.selected.log x.working.place x.working.since r ok.selected.log.records h
