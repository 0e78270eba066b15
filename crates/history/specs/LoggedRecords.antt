-- Records keep the invariant: an owner's frame holds the page's memory, a shown record is logged, the oldest volatile record is stored.
-- Assumes nothing.
use Rattle.std.specs.Prelude.{◌≡◌, true}
use Rattle.std.proofs.Math.Path.{refl, ap}
use Rattle.std.proofs.Common.{sym, subst, ◌∙◌}
use Prim.Native.Nat.{ℕ, ◌+◌, ◌-◌, ◌≤◌, ◌<◌}
use native.Mathlib.Omega.{arith}
use Rattle.std.proofs.Math.Option.{Option, none, some}
use mathlib.Core.List.{List, [], ◌∷◌}
use Rattle.std.proofs.Math.ListN.{length, take, drop, length-drop}
use Rattle.std.proofs.Math.Seq.{take_all}
use Rattle.words.specs.Bytes.{Each, each_nil, each_cons}
use Rattle.types.specs.declared.Right.TheVariants.{Own}
use Rattle.types.specs.declared.Frame.{Frame}
use Rattle.types.specs.declared.Kind.{Kind}
use Rattle.types.specs.declared.Kind.TheVariants.{Shown}
use Rattle.types.specs.declared.Record.{Record}
use Rattle.types.specs.declared.State.{State}
use Rattle.types.specs.declared.State.TheVariants.{Up}
use Rattle.model.specs.Definitions.Bank.{Entry, Board, frame_at, on_working, entry_in}
use Rattle.model.specs.Definitions.Codec.{page_of}
use Rattle.model.specs.Definitions.Steps.{recorded, appended, moved_record, stored_record}
use Rattle.model.specs.Definitions.Replay.{recovery_point}
use Rattle.model.proofs.Laws.Logic.{by_option}
use Rattle.model.proofs.Laws.Lists.{each_imp, each_append, each_tail}
use Rattle.model.specs.History.Statement.{HistoryEntry, History, of_board, discard, Memory, zero_memory}
use Rattle.history.specs.Rerun.{Rebuilt, Logged, logged, next, Joins, Accepts, MayLog, rebuilt, unstable_entries}
use Rattle.history.specs.Invariant.{memory_after, CountsAgree, VolatileExplains, settled_as, Explains, is_shown, BoardInvariant}
use Rattle.history.specs.Entries.{discard_all}
use Rattle.history.specs.Unstable.{exclusive_lower, unstable_write_lower}
use Rattle.history.specs.Memory.{memory_after_tail}
use Rattle.history.specs.Logging.{recovery_point_same, rebuilt_same, stable_same, on_working_area, volatile_page, recorded_volatile, new_record}
use Rattle.history.specs.Logging.{stored_moved, stored_point, stored_page, stored_enough, stored_stable, stored_volatile}

-- an up board's log explains the frames that it shows, or what is ahead of them
pub explained_up : {d : List Entry} {h : History} {g : Option Rebuilt} {b : ℕ} {x : Board} → BoardInvariant d h g b x → x.state ≡ Up
    → VolatileExplains x (of_board b h.entries) (settled_as g x)
unfolding Explains
explained_up {h = h} {g = g} {b = b} {x = x} q u =
    subst (λ (s : State). Explains s g x (of_board b h.entries)) u q.explained

pub counts_up : {d : List Entry} {h : History} {g : Option Rebuilt} {b : ℕ} {x : Board} → BoardInvariant d h g b x → x.state ≡ Up
    → (h.cursor b ≡ length (of_board b h.entries)) × (x.working.number ≡ length (of_board b h.entries))
unfolding CountsAgree
counts_up {h = h} {b = b} {x = x} q u =
    subst (λ (s : State). CountsAgree s x (of_board b h.entries) (h.cursor b)) u q.counts

-- and back
pub up_explained : (g : Option Rebuilt) (x : Board) (es : List HistoryEntry) → x.state ≡ Up → VolatileExplains x es (settled_as g x)
    → Explains x.state g x es
unfolding Explains
up_explained g x es u v = subst (λ (s : State). Explains s g x es) (sym u) v

pub up_counts : (x : Board) (es : List HistoryEntry) (c : ℕ) → x.state ≡ Up → (c ≡ length es) × (x.working.number ≡ length es)
    → CountsAgree x.state x es c
unfolding CountsAgree
up_counts x es c u v = subst (λ (s : State). CountsAgree s x es c) (sym u) v

module _ {d : List Entry} {h : History} {g : Option Rebuilt} {b : ℕ} {x : Board} (q : BoardInvariant d h g b x) (u : x.state ≡ Up)
    (p : ℕ) (j : p < length d) (s : length x.stable.selected.frames ≡ length d) (o : (entry_in d p).owner ≡ b) where
  -- no volatile record but a shown is on a page that the board owns
  shown_only : Each (λ r. page_of r.kind ≡ p → is_shown r.kind ≡ true) x.working.log
  shown_only = each_imp x.working.log (λ r f e. f (rw e o)) q.volatile

  settled_frame : frame_at (settled_as g x).frames p ≡ frame_at x.working.frames p
  unfolding settled_as
  settled_frame = by_option g (λ e. rw e) (λ t e. rw e (q.ahead p t j u e o))

  -- an up owner's frame is own, with the page's memory
  pub owner_frame : frame_at x.working.frames p ≡ record { right = Own; bytes = memory_after zero_memory h.entries p }
  unfolding unstable_entries
  owner_frame =
      let es : List HistoryEntry = of_board b h.entries in
      let n : ℕ = recovery_point x in
      let m : Memory = memory_after zero_memory (discard b n h.entries) in
      let f : frame_at (rebuilt x es).frames p ≡ record { right = Own; bytes = m p } = q.owned p j o in
      let a : frame_at (settled_as g x).frames p ≡ record { right = (frame_at (rebuilt x es).frames p).right; bytes = memory_after m (drop n es) p } =
      volatile_page x es (settled_as g x) (explained_up q u) m p (rw s j) shown_only (cc) in
      let t : memory_after zero_memory (discard b (length es) h.entries) p ≡ memory_after m (take (length es - n) (drop n es)) p =
      memory_after_tail b n (length es) p h.entries zero_memory q.stable.reached (q.exclusive p) in
      let k : take (length es - n) (drop n es) ≡ drop n es = take_all (length es - n) (drop n es) (simp length-drop (omega arith)) in
      let z : discard b (length es) h.entries ≡ h.entries = discard_all b (length es) h.entries (omega arith) in
      cc (settled_frame)

-- ==== a record is logged

module _ {d : List Entry} {h : History} {g g' : Option Rebuilt} {b : ℕ} {x : Board} (q : BoardInvariant d h g b x) (u : x.state ≡ Up)
    (kind : Kind) (peer : ℕ) (bytes : List ℕ) where
  -- The record is one that the board may log now, a shown if it owns the page; `g'` is what is ahead then.
  pub recorded_holds : Accepts (settled_as g x) (Logged (new_record kind peer bytes x.working))
      → ((entry_in d (page_of kind)).owner ≡ b → is_shown kind ≡ true)
      → settled_as g' (on_working (recorded kind peer bytes) x) ≡ next (Logged (new_record kind peer bytes x.working)) (settled_as g x)
      → ((p : ℕ) (t : Rebuilt) → p < length d → g' ≡ some t → (entry_in d p).owner ≡ b → frame_at t.frames p ≡ frame_at x.working.frames p)
      → BoardInvariant d h g' b (on_working (recorded kind peer bytes) x)
  unfolding on_working recorded appended
  recorded_holds a s e ahead =
      let y : Board = on_working (recorded kind peer bytes) x in
      let es : List HistoryEntry = of_board b h.entries in
      let same : rebuilt y es ≡ rebuilt x es = rebuilt_same x y (on_working_area (recorded kind peer bytes) x) es es refl in
      let point : recovery_point y ≡ recovery_point x = recovery_point_same x y (on_working_area (recorded kind peer bytes) x) in
      record {
        counts = up_counts y es (h.cursor b) u (counts_up q u);
        stable = stable_same x y (on_working_area (recorded kind peer bytes) x) es es refl q.stable.reached q.stable;
        explained = up_explained g' y es u (rw e (recorded_volatile x es (settled_as g x) (explained_up q u) kind peer bytes a));
        ahead = λ p t j v w o. ahead p t j w o;
        copies = q.copies;
        owned = λ p j o. rw (same, point) (q.owned p j o);
        exclusive = λ p. rw point (q.exclusive p);
        unstable = λ p j v. q.unstable p j (rw point at v);
        volatile = each_append x.working.log (new_record kind peer bytes x.working ∷ []) q.volatile (each_cons s each_nil);
      }

-- a shown is logged where nothing is ahead
pub shown_holds : {d : List Entry} {h : History} {b : ℕ} {x : Board} (p o : ℕ) (bytes : List ℕ) → BoardInvariant d h none b x → x.state ≡ Up
    → BoardInvariant d h none b (on_working (recorded (Shown p) o bytes) x)
unfolding settled_as Accepts Joins MayLog next logged on_working recorded is_shown
shown_holds p o bytes q u =
    recorded_holds q u (Shown p) o bytes (tt, tt) (λ i. refl) refl (λ r t j w. let z : ◌≡◌ {A = ℕ} 0 1 = cc in absurd (omega arith))

-- ==== the oldest volatile record is stored

module _ {d : List Entry} {h : History} {g : Option Rebuilt} {b : ℕ} {x : Board} (q : BoardInvariant d h g b x) (u : x.state ≡ Up)
    (s : length x.stable.selected.frames ≡ length d) (r : Record) (rs : List Record) (head : x.working.log ≡ r ∷ rs) where
  stored_state : (stored_record x).state ≡ Up
  unfolding moved_record
  stored_state = rw (stored_moved x r rs head) u

  stored_working : ((stored_record x).working.number ≡ x.working.number) × ((stored_record x).working.frames ≡ x.working.frames)
  unfolding moved_record
  stored_working = (rw (stored_moved x r rs head), rw (stored_moved x r rs head))

  settled_same : settled_as g (stored_record x) ≡ settled_as g x
  unfolding settled_as
  settled_same = by_option g (λ e. rw (e, stored_working.1)) (λ t e. rw e)

  stored_behind : (stored_record x).working.log ≡ rs
  unfolding moved_record
  stored_behind = rw (stored_moved x r rs head)

  -- the recovery point rises, and what it passes was the board's own
  pub moved_holds : BoardInvariant d h g b (stored_record x)
  unfolding unstable_entries
  moved_holds =
      let y : Board = stored_record x in
      let es : List HistoryEntry = of_board b h.entries in
      let v : VolatileExplains x es (settled_as g x) = explained_up q u in
      let enough : recovery_point x + r.count ≤ length es = stored_enough x r rs head es (settled_as g x) v in
      let point : recovery_point y ≡ recovery_point x + r.count = stored_point x r rs head in
      let up : recovery_point x ≤ recovery_point y = omega arith in
      record {
        counts = up_counts y es (h.cursor b) stored_state (rw stored_working.0 (counts_up q u));
        stable = stored_stable x r rs head es (settled_as g x) v q.stable;
        explained = up_explained g y es stored_state (rw settled_same (stored_volatile x r rs head es (settled_as g x) v));
        ahead = λ p t j w e o. q.ahead p t j u e o ∙ ap (λ (fs : List Frame). frame_at fs p) (sym stored_working.1);
        copies = λ p j m. rw stored_working.1 (q.copies p j m);
        owned = λ p j o.
            let m : Memory = memory_after zero_memory (discard b (recovery_point x) h.entries) in
            let f : frame_at (rebuilt x es).frames p ≡ record { right = Own; bytes = m p } = q.owned p j o in
            let a : frame_at (rebuilt y es).frames p
            ≡ record { right = (frame_at (rebuilt x es).frames p).right; bytes = memory_after m (take r.count (drop (recovery_point x) es)) p } =
            stored_page x r rs head es enough m p (rw s j) (shown_only q u p j s o) (cc) in
            let t : memory_after zero_memory (discard b (recovery_point y) h.entries) p
            ≡ memory_after m (take (recovery_point y - recovery_point x) (drop (recovery_point x) es)) p =
            memory_after_tail b (recovery_point x) (recovery_point y) p h.entries zero_memory up (q.exclusive p) in
            let c : recovery_point y - recovery_point x ≡ r.count = omega arith in
            cc;
        exclusive = λ p. exclusive_lower b (recovery_point x) (recovery_point y) p h.entries up (q.exclusive p);
        unstable = λ p j w. q.unstable p j (unstable_write_lower b (recovery_point x) (recovery_point y) p h.entries up w);
        volatile = rw stored_behind (each_tail (rw head at q.volatile));
      }
