-- A flush on a block, as a loop makes it: what each turn needs and leaves, and what the flush comes to where power is lost and at the end.
-- Assumes nothing.
use Rattle.std.specs.Prelude.{◌≡◌, Bool, false, length, get_or}
use Rattle.std.proofs.Math.Path.{refl, sym, ap}
use Rattle.std.proofs.Common.{◌∙◌, add-one}
use Prim.Native.Nat.{ℕ, suc, ◌+◌, ◌*◌, ◌-◌, ◌≤◌, ◌<◌}
use native.Mathlib.Omega.{arith}
use Rattle.std.proofs.Math.Bool.{true}
use mathlib.Core.List.{List}
use Rattle.std.proofs.Math.ListN.{replicate}
use Rattle.std.proofs.Math.Dec.{eqb}
use Rattle.types.specs.declared.Kind.{Kind}
use Rattle.types.specs.declared.Record.{Record}
use Rattle.model.specs.Definitions.Parts.{part}
use Rattle.model.specs.Definitions.Layout.{slot_count, slot_size, slots_at}
use Rattle.model.specs.Definitions.Bank.{Working, Board, on_working}
use Rattle.model.specs.Definitions.Codec.{decode_record, encode_board}
use Rattle.model.specs.Definitions.WellFormed.{RecordOk, FieldsOk, RoomOk}
use Rattle.model.specs.Definitions.Steps.{powered_off, burnt, recorded, stored_record, record_stores}
use Rattle.model.specs.Definitions.BoardRuns.{BoardRun, start_on, spent, store_on, store_all_on, flush_on, logged_on}
use Rattle.model.proofs.Laws.Lists.{each_get_d}
use Rattle.model.proofs.Laws.BlockFields.{read_record}
use Rattle.model.proofs.Laws.BlockStable.{with_record_fields}
use Rattle.model.proofs.Laws.BlockFlush.{stored_burnt}
use Rattle.model.proofs.Laws.BoardFields.{recorded_fields}
use Rattle.model.specs.Clauses.{RoomFor, Recordable, volatile_count, stored_count}
use Rattle.steps.specs.Blocks.{IsBlock, board_of, with_stored, flush_ended}
use Rattle.steps.specs.BlockLaws.{block_length, board_written, block_written}
use Rattle.steps.specs.Flush.{flush_turns, flush_turns_none, flush_turns_off, flush_turns_fuse, flush_turns_next, flush_turns_ended, flush_turns_working}
use Rattle.steps.specs.Flush.{flush_turns_stored, flush_turns_fields}
use Rattle.stores.specs.RunLaws.{spent_cut, spent_kept, store_on_cut, store_on_kept, store_all_on_lost, records_next}
use Rattle.stores.specs.RunFields.{recorded_room}
use Rattle.stores.specs.Store.{Ran, going, Spent}

-- after j turns: the bytes have the volatile log of before, and what is left to store gives what the whole gives
pub record Flushing (pages : ℕ) (l : List ℕ) (n j : ℕ) (m : List ℕ) : Type 0 where
  pub block : IsBlock pages l
  pub room : RoomOk (board_of pages l)
  pub count : n ≡ volatile_count (board_of pages l)
  pub below : j ≤ n
  pub bytes : m ≡ encode_board (flush_turns j (board_of pages l))
  pub run : flush_on (board_of pages l) ≡ store_all_on (replicate (n - j) stored_record) (going (stored_burnt j (board_of pages l)) j)

pub flushing_begun : {pages : ℕ} {l : List ℕ} {n : ℕ} → IsBlock pages l → RoomOk (board_of pages l) → n ≡ volatile_count (board_of pages l)
    → Flushing pages l n 0 l
unfolding flush_on record_stores start_on stored_burnt
flushing_begun {pages} {l} {n} b room count =
    let x : Board = board_of pages l in
    let e : n - 0 ≡ volatile_count x = omega arith in
    record { block = b; room = room; count = count; below = omega arith; bytes = rw (flush_turns_none x) (sym b.back); run = rw e }

module _ {pages : ℕ} {l : List ℕ} {n j : ℕ} {m : List ℕ} (v : Flushing pages l n j m) where
  abbrev x : Board
  x = board_of pages l

  abbrev b : IsBlock pages l
  b = v.block

  few : j ≤ volatile_count x
  few = omega (arith, v.below, v.count)

  turns_ok : FieldsOk pages (flush_turns j x)
  turns_ok = flush_turns_fields x b.fields.fuse j few pages b.fields v.room

  board : board_of pages m ≡ flush_turns j x
  board = board_written (flush_turns j x) b.few turns_ok v.bytes

  pub flushing_block : IsBlock pages m
  flushing_block = block_written (flush_turns j x) b.few turns_ok v.bytes

  pub flushing_length : length m ≡ length l
  flushing_length = block_length flushing_block ∙ sym (block_length b)

  -- no more than fit in the selected area
  pub flushing_few : n ≤ slot_count
  flushing_few = omega (arith, v.count, v.room)

  -- the volatile records are as they were
  volatile : (board_of pages m).working ≡ x.working
  volatile = ap (λ (y : Board). y.working) board ∙ flush_turns_working x b.fields.fuse j few

  pub flushing_count : n ≡ volatile_count (board_of pages m)
  flushing_count = v.count ∙ ap (λ (y : Working). length y.log) (sym volatile)

  pub flushing_all : n ≤ j → {o : List ℕ} → o ≡ encode_board (flush_ended (board_of pages m)) → Ran (flush_on (board_of pages l)) o n false
  unfolding store_all_on
  flushing_all h {o} w =
      let e : j ≡ n = omega (arith, v.below) in
      let z : n - j ≡ 0 = omega arith in
      let r : flush_on x ≡ going (stored_burnt j x) j = rw z at v.run in
      rw r (w ∙ ap encode_board (ap flush_ended board ∙ rw e (flush_turns_ended x b.fields.fuse n v.count)), sym e, refl)

  module _ (h : j < n) where
    -- the slot of the next record lies in the block
    pub flushing_in : slots_at pages + j * slot_size + slot_size ≤ length m
    flushing_in = omega (arith, flushing_few, block_length flushing_block)

    -- and a slot of the selected area is free for it
    pub flushing_room : stored_count (board_of pages m) < slot_count
    flushing_room = rw board (omega (arith, v.room, v.count, flush_turns_stored x b.fields.fuse j few))

    module _ {r : Record} (read : r ≡ decode_record (part m (slots_at pages + j * slot_size) slot_size)) where
      next_read : r ≡ get_or x.working.log j r
      next_read =
          let i : j < volatile_count (board_of pages m) = omega (arith, flushing_count) in
          read
          ∙ ap (λ (y : List ℕ). decode_record (part y (slots_at pages + j * slot_size) slot_size)) (sym flushing_block.back)
          ∙ read_record pages (board_of pages m) flushing_block.fields j r i
          ∙ ap (λ (y : Working). get_or y.log j r) volatile

      pub flushing_ok : RecordOk pages r
      flushing_ok = rw next_read (each_get_d x.working.log j r b.fields.working.log.records (omega (arith, v.count)))

      module _ {a : List ℕ} (w : a ≡ encode_board (with_stored r (board_of pages m))) where
        appended_ok : FieldsOk pages (with_stored r (board_of pages m))
        appended_ok = with_record_fields pages (board_of pages m) flushing_block.fields r flushing_ok flushing_room

        pub appended_block : IsBlock pages a
        appended_block = block_written (with_stored r (board_of pages m)) b.few appended_ok w

        -- the fuse lowered, the turn is done
        turned : burnt (board_of pages a) ≡ flush_turns (suc j) x
        turned =
            let e : with_stored r (board_of pages m) ≡ with_stored (get_or x.working.log j r) (flush_turns j x)
            = ap (λ (y : Board). with_stored r y) board ∙ ap (λ (q : Record). with_stored q (flush_turns j x)) next_read in
            ap burnt (board_written (with_stored r (board_of pages m)) b.few appended_ok w ∙ e)
            ∙ flush_turns_next x b.fields.fuse j r (omega (arith, v.count))

        module _ {o : List ℕ} {t : Bool} (s : Spent pages a o t) where
          blown : eqb (burnt (stored_record (stored_burnt j x))).fuse 0 ≡ t
          unfolding stored_burnt
          blown = ap (λ (f : ℕ). eqb f 0) (sym (flush_turns_fuse (suc j) x)) ∙ ap (λ (y : Board). eqb y.fuse 0) (sym turned) ∙ sym s.0

          next_run : flush_on x ≡ store_all_on (replicate (n - suc j) stored_record) (store_on stored_record (going (stored_burnt j x) j))
          unfolding store_all_on
          next_run = rw (records_next n j h) at v.run

          pub flushing_next : t ≡ false → Flushing pages l n (j + 1) o
          unfolding stored_burnt
          flushing_next z =
              let k : store_on stored_record (going (stored_burnt j x) j) ≡ going (stored_burnt (suc j) x) (j + 1)
              = store_on_kept stored_record (going (stored_burnt j x) j) refl (blown ∙ z) in
              let e : flush_on x ≡ store_all_on (replicate (n - suc j) stored_record) (going (stored_burnt (suc j) x) (suc j))
              = rw (add-one j) at (next_run ∙ ap (store_all_on (replicate (n - suc j) stored_record)) k) in
              record {
                block = b;
                room = v.room;
                count = v.count;
                below = omega arith;
                bytes = rw (add-one j) (s.1 ∙ ap encode_board (spent_kept (board_of pages a) (sym s.0 ∙ z) ∙ turned));
                run = rw (add-one j) e;
              }

          pub flushing_cut : t ≡ true → Ran (flush_on (board_of pages l)) o (j + 1) true
          unfolding stored_burnt
          flushing_cut z =
              let r : BoardRun = record { board = powered_off (stored_burnt (suc j) x); stores = j + 1; lost = true } in
              let k : store_on stored_record (going (stored_burnt j x) j) ≡ r = store_on_cut stored_record (going (stored_burnt j x) j) refl (blown ∙ z) in
              let fs : List (Board → Board) = replicate (n - suc j) stored_record in
              let e : flush_on x ≡ r = next_run ∙ ap (store_all_on fs) k ∙ store_all_on_lost fs r refl in
              let q : spent (board_of pages a) ≡ powered_off (stored_burnt (suc j) x)
              = spent_cut (board_of pages a) (sym s.0 ∙ z) ∙ ap powered_off turned ∙ flush_turns_off (suc j) x in
              rw e (s.1 ∙ ap encode_board q, refl, refl)

-- ---- a record noted, then the flush

module _ {pages : ℕ} {l : List ℕ} (b : IsBlock pages l) (kind : Kind) (peer : ℕ) (bytes : List ℕ) (room : RoomFor 1 (board_of pages l))
    (v : Recordable pages kind peer bytes) {m : List ℕ} (w : m ≡ encode_board (on_working (recorded kind peer bytes) (board_of pages l))) where
  noted_ok : FieldsOk pages (on_working (recorded kind peer bytes) (board_of pages l))
  noted_ok = recorded_fields b.fields kind peer bytes v (omega arith)

  noted : board_of pages m ≡ on_working (recorded kind peer bytes) (board_of pages l)
  noted = board_written (on_working (recorded kind peer bytes) (board_of pages l)) b.few noted_ok w

  pub noted_block : IsBlock pages m
  noted_block = block_written (on_working (recorded kind peer bytes) (board_of pages l)) b.few noted_ok w

  pub noted_room : RoomOk (board_of pages m)
  noted_room = rw noted (recorded_room kind peer bytes (board_of pages l) room)

  pub logged_ran : {o : List ℕ} {n : ℕ} {t : Bool} → Ran (flush_on (board_of pages m)) o n t → Ran (logged_on kind peer bytes (board_of pages l)) o n t
  unfolding logged_on
  logged_ran u = rw noted at u
