-- The invariant over a call in progress: what holds while the run goes on, and what holds once a board lost power in it; what a power loss asks for; a record
-- stored and a page shown keep it. Assumes nothing.
use Rattle.std.specs.Prelude.{◌≡◌, refl, ◌≢◌, ℕ, ◌<◌, false, length}
use Rattle.std.proofs.Common.{sym, arith}
use Rattle.std.proofs.Math.Path.{ap}
use Rattle.std.proofs.Math.Option.{Option, none, some}
use mathlib.Core.List.{List, []}
use Rattle.std.proofs.Math.ListN.{drop, drop_of_length-le}
use Rattle.words.specs.Bytes.{Each}
use Rattle.types.specs.declared.Kind.TheVariants.{Shown}
use Rattle.types.specs.declared.State.TheVariants.{Up}
use Rattle.model.specs.Definitions.Parts.{zeros}
use Rattle.model.specs.Definitions.Layout.{page_size}
use Rattle.model.specs.Definitions.Bank.{Entry, Board, Bank, board_at, on_board, on_working}
use Rattle.model.specs.Definitions.Codec.{page_of}
use Rattle.model.specs.Definitions.WellFormed.{is_got, WellFormed}
use Rattle.model.specs.Definitions.Steps.{Run, step, power_off, burnt, recorded, note, stored_record}
use Rattle.model.specs.Definitions.Replay.{count_sum, recovery_point}
use Rattle.model.proofs.Laws.Boards.{stored_record_cases, boards_on_board, directory_on_board, board_at_same, board_at_other, board_at_power_off_same}
use Rattle.model.proofs.Laws.Runs.{lost_not, step_cases}
use Rattle.model.proofs.Laws.Runs.Stores.{burnt_state, burnt_working, burnt_stable}
use Rattle.model.proofs.Laws.Keeps.Clauses.{fits, up_below, on_board_keeps}
use Rattle.model.specs.Clauses.{Fits, RoomFor, Another}
use Rattle.model.proofs.Laws.Keeps.NotedRecords.{note_keeps, stored_record_fits}
use Rattle.model.proofs.Laws.Keeps.Stores.{power_off_keeps}
use Rattle.model.proofs.Laws.Keeps.Peers.{stored_record_peers}
use Rattle.model.proofs.Laws.Keeps.Rights.{board_byte}
use Rattle.model.specs.History.Statement.{HistoryEntry, History, of_board, zero_memory, OneMemory}
use Rattle.history.specs.Rerun.{Rebuilt, trace, final, rebuilt, unstable_entries, volatile_trace}
use Rattle.history.specs.Invariant.{unstable_write, settled_as, BoardInvariant, Invariant, nobody}
use Rattle.history.specs.View.{SameView}
use Rattle.history.specs.Lift.{on_board_invariant}
use Rattle.history.specs.PowerLoss.{StableHolds, stable_part, lost_at, power_off_invariant, recovery_lost}
use Rattle.history.specs.LoggedRecords.{explained_up, shown_holds, moved_holds}
use Rattle.history.specs.Unstable.{unstable_write_none}
use Rattle.model.proofs.Laws.Valid.{recordable_plain}

-- ==== a run and its history

-- While the run goes on `I` holds of its bank; once board c lost power the invariant holds, with c's unstable entries discarded.
pub record RunMeets (I : Bank → Type 0) (h : History) (r : Run) : Type 0 where
  pub going : r.lost ≡ none → I r.bank
  pub lost : (c : ℕ) → r.lost ≡ some c → Invariant nobody r.bank (lost_at c (recovery_point (board_at r.bank c)) h)

-- what is ahead is ahead of board b alone
abbrev pub OnlyAhead : (ℕ → Option Rebuilt) → ℕ → Type 0
OnlyAhead g b = (c : ℕ) → c ≢ b → g c ≡ none

pub nobody_ahead : (b : ℕ) → OnlyAhead nobody b
unfolding nobody
nobody_ahead b c n = refl

-- a step that stores nothing
pub step_meets : {I J : Bank → Type 0} {h : History} (f : Bank → Bank) (r : Run) → RunMeets I h r
    → (r.lost ≡ none → I r.bank → J (f r.bank)) → RunMeets J h (step f r)
step_meets {I} {J} {h} f r q j =
    step_cases (RunMeets J h) f r
    (λ c e. record { going = λ n. lost_not n e; lost = q.lost })
    (λ n. record { going = λ m. j n (q.going n); lost = λ c e. lost_not refl e })

-- ==== a power loss

-- what a power loss of board b asks of a bank: of b itself only what is stable
pub record MayLosePower (b : ℕ) (k : Bank) (h : History) : Type 0 where
  pub below : b < length k.boards
  pub formed : WellFormed k
  pub memory : OneMemory zero_memory h.entries
  pub known : Each (λ e. e.board < length k.boards) h.entries
  pub others : (c : ℕ) → c < length k.boards → c ≢ b → BoardInvariant k.directory h none c (board_at k c)
  pub this : StableHolds k.directory h b (board_at k b)

pub may_lose : {g : ℕ → Option Rebuilt} {h : History} (b : ℕ) (k : Bank) → Invariant g k h → b < length k.boards → OnlyAhead g b
    → MayLosePower b k h
may_lose b k q l a =
    record {
      below = l;
      formed = q.formed;
      memory = q.memory;
      known = q.known;
      others = λ c i n. rw (← a c n) (q.boards c i);
      this = stable_part (q.boards b l);
    }

-- after a change of board b alone
pub on_board_may_lose : {g : ℕ → Option Rebuilt} {h : History} (b : ℕ) (f : Board → Board) (k : Bank) → Invariant g k h → b < length k.boards
    → OnlyAhead g b → WellFormed (on_board b f k) → StableHolds k.directory h b (f (board_at k b)) → MayLosePower b (on_board b f k) h
on_board_may_lose b f k q l a w t =
    record {
      below = rw (boards_on_board b f k) l;
      formed = w;
      memory = q.memory;
      known = rw (boards_on_board b f k) q.known;
      others = λ c i n. rw (board_at_other b f k c n, directory_on_board b f k, ← a c n) (q.boards c (rw (boards_on_board b f k) at i));
      this = rw (board_at_same b f k l, directory_on_board b f k) t;
    }

-- a power loss of board b, whatever it was doing
pub loses_power_lem : (b : ℕ) (k : Bank) (h : History) → MayLosePower b k h
    → Invariant nobody (power_off b k) (lost_at b (recovery_point (board_at (power_off b k) b)) h)
loses_power_lem b k h m =
    rw (board_at_power_off_same b k m.below, recovery_lost (board_at k b))
    (power_off_invariant b k h m.below (power_off_keeps b k m.formed) m.memory m.known m.others m.this)

-- the invariant doesn't see the fuse
pub burnt_view : (x : Board) → SameView x (burnt x)
burnt_view x = record { state = sym (burnt_state x); working = sym (burnt_working x); selected = cc (burnt_stable x) }

-- ==== a board that made all of its entries stable

module _ {d : List Entry} {h : History} {g : Option Rebuilt} {b : ℕ} {x : Board} (q : BoardInvariant d h g b x) (u : x.state ≡ Up)
    (v : x.working.log ≡ []) (z : x.working.since ≡ 0) where
  pub all_stable : recovery_point x ≡ length (of_board b h.entries)
  unfolding count_sum
  all_stable = omega (arith, (explained_up q u).rest, ap count_sum v)

  -- what its stable memory rebuilds is what its frames show, or what is ahead of them
  pub all_rebuilt : rebuilt x (of_board b h.entries) ≡ settled_as g x
  unfolding volatile_trace unstable_entries trace final
  all_rebuilt =
      let es : List HistoryEntry = of_board b h.entries in
      let n : drop (recovery_point x) es ≡ [] = drop_of_length-le es {i = recovery_point x} (omega (arith, all_stable)) in
      let t : trace x.working.log (drop (recovery_point x) es) ≡ [] = cc in
      let f : final (rebuilt x es) (trace x.working.log (drop (recovery_point x) es)) ≡ settled_as g x = (explained_up q u).ends in
      cc

-- no write of it can be taken back
pub none_unstable : (b : ℕ) (h : History) (x : Board) (p : ℕ) → recovery_point x ≡ length (of_board b h.entries)
    → unstable_write b (recovery_point x) p h.entries ≡ false
none_unstable b h x p e = unstable_write_none b (recovery_point x) p h.entries (omega (arith, e))

-- ==== a record stored

-- the next record of a flush, if there is one
stored_record_holds : {d : List Entry} {h : History} {g : Option Rebuilt} {b : ℕ} (x : Board) → BoardInvariant d h g b x → x.state ≡ Up
    → length x.stable.selected.frames ≡ length d → BoardInvariant d h g b (stored_record x)
stored_record_holds {d} {h} {g} {b} x q u s =
    stored_record_cases (λ y. stored_record x ≡ y → BoardInvariant d h g b y) x
    (λ e i. q)
    (λ r rs e i. rw i at (moved_holds q u s r rs e))
    refl

-- a record stored by an up board, at any time
pub stored_record_invariant : {g : ℕ → Option Rebuilt} {h : History} (b : ℕ) (k : Bank) → Invariant g k h → (board_at k b).state ≡ Up
    → Invariant g (on_board b stored_record k) h
stored_record_invariant b k q u =
    let f : Fits k.directory b (board_at k b) = fits q.formed b (up_below k b u) in
    on_board_invariant b stored_record k q
    (on_board_keeps b stored_record k q.formed (λ l m. stored_record_fits k.directory b (board_at k b) m)
    (stored_record_peers (board_at k b)))
    (λ c n. refl)
    (λ l t. stored_record_holds (board_at k b) t u f.alone.fields.selected.frames.count)

-- ==== a page shown

pub shown_invariant : {h : History} (o b p : ℕ) (k : Bank) → Invariant nobody k h → (board_at k o).state ≡ Up → RoomFor 1 (board_at k o)
    → p < length k.directory → Another b o k → Invariant nobody (note o (Shown p) b (zeros page_size) k) h
unfolding note nobody is_got page_of
shown_invariant o b p k q u m l v =
    on_board_invariant o (on_working (recorded (Shown p) b (zeros page_size))) k q
    (note_keeps o (Shown p) b (zeros page_size) k q.formed u m (recordable_plain (Shown p) refl l (board_byte q.formed b v.board)) v)
    (λ c n. refl)
    (λ i t. shown_holds p b (zeros page_size) t u)
