-- A flush as a loop over the block makes it: in each turn a record is appended and the fuse lowered, and behind the last the volatile log is emptied.
-- It comes to what Definitions say store by store, at the end and wherever power is lost. Assumes nothing.
use Rattle.std.specs.Prelude.{◌≡◌, refl, get_or, eqb}
use Rattle.std.proofs.Math.Path.{sym, ap}
use Rattle.std.proofs.Common.{◌∙◌, arith}
use Prim.Native.Nat.{ℕ, suc, ◌+◌, ◌≤◌, ◌<◌}
use mathlib.Core.List.{List, []}
use Rattle.std.proofs.Math.ListN.{drop}
use Rattle.std.proofs.Math.Seq.{drop-length}
use Rattle.types.specs.declared.Record.{Record}
use Rattle.model.specs.Definitions.Layout.{no_fuse}
use Rattle.model.specs.Definitions.Bank.{Board, with_log, on_working, on_selected}
use Rattle.model.specs.Definitions.WellFormed.{FieldsOk, RoomOk}
use Rattle.model.specs.Definitions.Steps.{powered_off, with_fuse, burnt, moved_record, stored_record}
use Rattle.model.specs.Clauses.{stored_count, volatile_count}
use Rattle.model.proofs.Laws.Logic.{by_bool, by_eq}
use Rattle.model.proofs.Laws.BlockWorking.{next_record, powered_off_log}
use Rattle.model.proofs.Laws.BlockFlush.{flushing, flushing_count, flushing_fields, working_stored_records, fuse_after, fuse_after_none, fuse_after_set, stored_burnt}
use Rattle.model.proofs.Laws.BlockFlush.{stored_burnt_parts, stored_burnt_log}
use Rattle.model.proofs.Laws.BoardFields.{with_fuse_fields}
use Rattle.steps.specs.Blocks.{with_stored, flush_ended}

-- the board after j turns: that of j stores, the fuse lowered after each, with the volatile log of before the flush
unfoldable pub flush_turns : ℕ → Board → Board
flush_turns j x = on_working (with_log x.working.log) (stored_burnt j x)

pub flush_turns_none : (x : Board) → flush_turns 0 x ≡ x
unfolding flush_turns on_working stored_burnt
flush_turns_none x = refl

-- a power loss after any turn
pub flush_turns_off : (j : ℕ) (x : Board) → powered_off (flush_turns j x) ≡ powered_off (stored_burnt j x)
unfolding flush_turns
flush_turns_off j x = powered_off_log x.working.log (stored_burnt j x)

pub flush_turns_fuse : (j : ℕ) (x : Board) → (flush_turns j x).fuse ≡ (stored_burnt j x).fuse
unfolding flush_turns on_working
flush_turns_fuse j x = refl

burnt_log : (g : List Record) (x : Board) → on_working (with_log g) (burnt x) ≡ burnt (on_working (with_log g) x)
unfolding burnt on_working with_fuse
burnt_log g x = by_bool (eqb x.fuse no_fuse) (λ t. cc) (λ t. cc)

module _ (x : Board) (low : x.fuse ≤ no_fuse) where
  log_after : (j : ℕ) → j ≤ volatile_count x → (stored_burnt j x).working.log ≡ drop j x.working.log
  unfolding with_fuse
  log_after j h = ap (λ (y : Board). y.working.log) (stored_burnt_parts j x low) ∙ ap (λ w. w.log) (working_stored_records j x h)

  -- one turn
  pub flush_turns_next : (j : ℕ) (d : Record) → j < volatile_count x
      → burnt (with_stored (get_or x.working.log j d) (flush_turns j x)) ≡ flush_turns (suc j) x
  unfolding flush_turns stored_burnt on_selected on_working moved_record
  flush_turns_next j d h =
      let g : List Record = x.working.log in
      let y : Board = stored_burnt j x in
      ap (λ (z : Board). burnt (on_working (with_log g) z)) (sym (next_record g j d y (log_after j (omega arith)) h)) ∙ sym (burnt_log g (stored_record y))

  -- the end: n stores, the fuse lowered after each
  pub flush_turns_ended : (n : ℕ) → n ≡ volatile_count x → flush_ended (flush_turns n x) ≡ stored_burnt n x
  unfolding flush_ended flush_turns on_working
  flush_turns_ended n e =
      let none : drop n x.working.log ≡ [] = rw e (drop-length x.working.log) in
      ap (λ (l : List Record). on_working (with_log l) (stored_burnt n x)) (sym none ∙ sym (log_after n (omega arith)))

  -- what a turn reads: the volatile records as at first, the stored count j more
  module _ (j : ℕ) (h : j ≤ volatile_count x) where
    pub flush_turns_working : (flush_turns j x).working ≡ x.working
    unfolding flush_turns flushing on_selected with_fuse
    flush_turns_working = ap (λ (y : Board). y.working) (stored_burnt_log j x low h)

    pub flush_turns_stored : stored_count (flush_turns j x) ≡ stored_count x + j
    unfolding flush_turns with_fuse
    flush_turns_stored = ap stored_count (stored_burnt_log j x low h) ∙ flushing_count j x h

    pub flush_turns_fields : (pages : ℕ) → FieldsOk pages x → RoomOk x → FieldsOk pages (flush_turns j x)
    unfolding flush_turns
    flush_turns_fields pages ok room =
        let f : ℕ = x.fuse in
        let m : fuse_after j f ≤ no_fuse = by_eq f no_fuse (λ e. rw (e, fuse_after_none) (omega arith)) (λ n. rw (fuse_after_set j f n) (omega arith)) in
        rw (stored_burnt_log j x low h) (with_fuse_fields (flushing_fields pages x ok room j) (fuse_after j f) m)
