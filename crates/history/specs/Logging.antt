-- What a step of one board's log does to its traces: the oldest volatile record stored, a record logged, an access made.
-- Of one board and its own entries. Assumes nothing.
use Rattle.std.specs.Prelude.{◌≡◌, refl, ℕ, ◌+◌, ◌-◌, ◌≤◌, ◌<◌, true}
use Rattle.std.proofs.Math.Path.{sym, ap}
use Rattle.std.proofs.Common.{◌∙◌, drop_of_length-le, length-take-le}
use native.Mathlib.Omega.{arith}
use mathlib.Core.List.{List, [], ◌∷◌, ◌++◌, map, append_assoc}
use Rattle.std.proofs.Math.ListN.{length, take, drop, length-append, length-drop}
use Rattle.std.proofs.lemmas.List.{take-append-le, drop-append-le}
use Rattle.std.proofs.Math.Seq.{drop-drop, take-add}
use Rattle.words.specs.Bytes.{Each}
use Rattle.types.specs.declared.Kind.{Kind}
use Rattle.types.specs.declared.Record.{Record}
use Rattle.model.specs.Definitions.Bank.{Working, Board, frame_at, on_working}
use Rattle.model.specs.Definitions.Codec.{page_of}
use Rattle.model.specs.Definitions.Steps.{Access, accessed, appended, recorded, moved_record, stored_record}
use Rattle.model.specs.Definitions.Replay.{count_sum, recovery_point}
use Rattle.model.proofs.Laws.Lists.{each_head}
use Rattle.model.specs.History.Statement.{HistoryEntry, Memory}
use Rattle.history.specs.Rerun.{Rebuilt, TraceItem, Made, Logged, trace, next, Accepts, final, Accepted, checkpointed, stable_entries, unstable_entries}
use Rattle.history.specs.Rerun.{stable_trace, rebuilt, volatile_trace}
use Rattle.history.specs.Invariant.{memory_after, is_shown, StableExplains, VolatileExplains}
use Rattle.history.specs.Traces.{take_drop, final_append, final_one, accepted_append, accepted_one, accepted_left, accepted_right, count_sum_one}
use Rattle.history.specs.Traces.{trace_entry, trace_record, trace_stored, made_of_stored}
use Rattle.history.specs.Pages.{length_final, Leaves, leaves_stored, frame_at_final, frame_at_trace}

-- ==== what the traces depend on

pub stable_entries_first : (x : Board) (es : List HistoryEntry) → stable_entries x es ≡ drop x.stable.selected.number (take (recovery_point x) es)
unfolding stable_entries recovery_point
stable_entries_first x es = take_drop (count_sum x.stable.selected.log) x.stable.selected.number es

-- the stable memory explains with the selected area and with the entries up to the recovery point
module _ (x y : Board) (area : y.stable.selected ≡ x.stable.selected) where
  pub recovery_point_same : recovery_point y ≡ recovery_point x
  unfolding recovery_point
  recovery_point_same = rw area

  module _ (es fs : List HistoryEntry) (same : take (recovery_point x) fs ≡ take (recovery_point x) es) where
    pub stable_trace_same : stable_trace y fs ≡ stable_trace x es
    unfolding stable_trace
    stable_trace_same = rw (stable_entries_first y fs, stable_entries_first x es, recovery_point_same, same, area)

    pub rebuilt_same : rebuilt y fs ≡ rebuilt x es
    unfolding rebuilt checkpointed
    rebuilt_same = rw (stable_trace_same, area)

    pub stable_same : recovery_point x ≤ length fs → StableExplains x es → StableExplains y fs
    unfolding checkpointed
    stable_same h s =
        record { reached = rw recovery_point_same h; accepted = rw (stable_trace_same, area) s.accepted }

-- the volatile log explains with its records and since besides
pub volatile_same : (x y : Board) (es : List HistoryEntry) (t : Rebuilt) → y.stable.selected ≡ x.stable.selected
    → y.working.log ≡ x.working.log → y.working.since ≡ x.working.since
    → VolatileExplains x es t → VolatileExplains y es t
unfolding volatile_trace unstable_entries
volatile_same x y es t area records since v =
    let p : recovery_point y ≡ recovery_point x = recovery_point_same x y area in
    let b : rebuilt y es ≡ rebuilt x es = rebuilt_same x y area es es refl in
    record {
      accepted = rw (b, p, records) v.accepted;
      ends = rw (b, p, records) v.ends;
      rest = rw (p, records, since) v.rest;
    }

pub length_rebuilt : (x : Board) (es : List HistoryEntry) → length (rebuilt x es).frames ≡ length x.stable.selected.frames
unfolding rebuilt checkpointed
length_rebuilt x es = length_final (checkpointed x) (stable_trace x es)

-- ==== the oldest volatile record is stored

-- a record with its entries, of the entries that are left
unfoldable pub stored_items : Record → List HistoryEntry → List TraceItem
stored_items r es = map Made (take r.count es) ++ (Logged r ∷ [])

module _ (x : Board) (r : Record) (rs : List Record) (head : x.working.log ≡ r ∷ rs) where
  pub stored_moved : stored_record x ≡ moved_record r rs x
  unfolding stored_record
  stored_moved = rw head

  pub stored_records : (stored_record x).working.log ≡ rs
  unfolding moved_record
  stored_records = rw stored_moved

  pub stored_since : (stored_record x).working.since ≡ x.working.since
  unfolding moved_record
  stored_since = rw stored_moved

  pub stored_number : (stored_record x).stable.selected.number ≡ x.stable.selected.number
  unfolding moved_record
  stored_number = rw stored_moved

  pub stored_frames : (stored_record x).stable.selected.frames ≡ x.stable.selected.frames
  unfolding moved_record
  stored_frames = rw stored_moved

  pub stored_log : (stored_record x).stable.selected.log ≡ x.stable.selected.log ++ (r ∷ [])
  unfolding moved_record appended
  stored_log = rw stored_moved

  stored_counts : count_sum x.working.log ≡ r.count + count_sum rs
  unfolding count_sum
  stored_counts = ap count_sum head

  pub stored_point : recovery_point (stored_record x) ≡ recovery_point x + r.count
  unfolding recovery_point
  stored_point = rw (stored_number, stored_log, count_sum_one x.stable.selected.log r) (omega arith)

  module _ (es : List HistoryEntry) where
    pub stored_unstable : unstable_entries (stored_record x) es ≡ drop r.count (unstable_entries x es)
    unfolding unstable_entries
    stored_unstable = rw (stored_point, drop-drop r.count (recovery_point x) es)

    pub stored_volatile_trace : volatile_trace x es ≡ stored_items r (unstable_entries x es) ++ volatile_trace (stored_record x) es
    unfolding volatile_trace stored_items trace
    stored_volatile_trace =
        let us : List HistoryEntry = unstable_entries x es in
        rw (stored_unstable, stored_records)
        (ap (λ (qs : List Record). trace qs us) head
        ∙ sym (append_assoc (map Made (take r.count us)) (Logged r ∷ []) (trace rs (drop r.count us))))

    module _ (enough : recovery_point x + r.count ≤ length es) where
      pub stored_stable_trace : stable_trace (stored_record x) es ≡ stable_trace x es ++ stored_items r (unstable_entries x es)
      unfolding stable_trace stored_items stable_entries recovery_point unstable_entries
      stored_stable_trace =
          let qs : List Record = x.stable.selected.log in
          let ds : List HistoryEntry = drop x.stable.selected.number es in
          let n : length ds ≡ length es - x.stable.selected.number = length-drop x.stable.selected.number es in
          let l : count_sum qs ≤ length ds = omega arith in
          let u : drop (count_sum qs) ds ≡ unstable_entries x es = drop-drop (count_sum qs) x.stable.selected.number es in
          let k : r.count ≤ length (drop (count_sum qs) ds) = rw (length-drop (count_sum qs) ds) (omega arith) in
          let e : trace (qs ++ (r ∷ [])) (take (count_sum qs) ds ++ take r.count (drop (count_sum qs) ds))
          ≡ trace qs (take (count_sum qs) ds) ++ stored_items r (drop (count_sum qs) ds) =
          trace_stored qs r (take (count_sum qs) ds) (drop (count_sum qs) ds) (sym (length-take-le (count_sum qs) ds l)) k in
          rw (stored_number, stored_log, count_sum_one qs r, take-add (count_sum qs) r.count ds)
          (e ∙ ap (λ (us : List HistoryEntry). trace qs (take (count_sum qs) ds) ++ stored_items r us) u)

      pub stored_rebuilt : rebuilt (stored_record x) es ≡ final (rebuilt x es) (stored_items r (unstable_entries x es))
      unfolding rebuilt checkpointed
      stored_rebuilt =
          rw (stored_stable_trace, stored_frames)
          (final_append (checkpointed x) (stable_trace x es) (stored_items r (unstable_entries x es)))

      -- a page that no volatile record but a shown touches: the memory takes the record's entries
      pub stored_page : (m : Memory) (p : ℕ) → p < length x.stable.selected.frames
          → Each (λ q. page_of q.kind ≡ p → is_shown q.kind ≡ true) x.working.log
          → m p ≡ (frame_at (rebuilt x es).frames p).bytes
          → frame_at (rebuilt (stored_record x) es).frames p
          ≡ record { right = (frame_at (rebuilt x es).frames p).right; bytes = memory_after m (take r.count (unstable_entries x es)) p }
      unfolding stored_items
      stored_page m p h l a =
          let us : List HistoryEntry = take r.count (unstable_entries x es) in
          let k : p < length (rebuilt x es).frames = rw (length_rebuilt x es) h in
          let ls : Each (λ q. page_of q.kind ≡ p → is_shown q.kind ≡ true) (r ∷ rs) = rw head at l in
          let i : Each (Leaves p) (map Made us ++ (Logged r ∷ [])) = leaves_stored p us r (each_head ls) in
          rw (stored_rebuilt, frame_at_final (rebuilt x es) (map Made us ++ (Logged r ∷ [])) m p k i a, made_of_stored us r)

    module _ (t : Rebuilt) (v : VolatileExplains x es t) where
      -- its entries are there
      pub stored_enough : recovery_point x + r.count ≤ length es
      stored_enough = omega (arith, stored_counts, v.rest)

      stored_accepted : Accepted (rebuilt x es) (stored_items r (unstable_entries x es) ++ volatile_trace (stored_record x) es)
      stored_accepted = rw stored_volatile_trace at v.accepted

      pub stored_stable : StableExplains x es → StableExplains (stored_record x) es
      unfolding rebuilt checkpointed
      stored_stable s =
          let is : List TraceItem = stored_items r (unstable_entries x es) in
          let a : Accepted (rebuilt x es) is = accepted_left (rebuilt x es) is (volatile_trace (stored_record x) es) stored_accepted in
          record {
            reached = rw stored_point stored_enough;
            accepted = rw (stored_stable_trace stored_enough, stored_frames) (accepted_append (checkpointed x) (stable_trace x es) is s.accepted a);
          }

      pub stored_volatile : VolatileExplains (stored_record x) es t
      stored_volatile =
          let is : List TraceItem = stored_items r (unstable_entries x es) in
          let js : List TraceItem = volatile_trace (stored_record x) es in
          record {
            accepted = rw (stored_rebuilt stored_enough) (accepted_right (rebuilt x es) is js stored_accepted);
            ends = rw (stored_rebuilt stored_enough, ← final_append (rebuilt x es) is js, ← stored_volatile_trace) v.ends;
            rest = rw (stored_point, stored_records, stored_since) (omega (arith, stored_counts, v.rest));
          }

-- ==== an up board makes an entry, or logs a record

-- the record that a board logs
abbrev pub new_record : Kind → (peer : ℕ) → List ℕ → Working → Record
new_record k o bs w = record { count = w.since; kind = k; peer = o; bytes = bs }

-- the working part changes: the area stays
pub on_working_area : (f : Working → Working) (x : Board) → (on_working f x).stable.selected ≡ x.stable.selected
unfolding on_working
on_working_area f x = refl

module _ (f : Working → Working) (x : Board) (es fs : List HistoryEntry) (reached : recovery_point x ≤ length es) where
  pub more_rebuilt : rebuilt (on_working f x) (es ++ fs) ≡ rebuilt x es
  more_rebuilt = rebuilt_same x (on_working f x) (on_working_area f x) es (es ++ fs) (take-append-le (recovery_point x) es fs reached)

  pub more_stable : StableExplains x es → StableExplains (on_working f x) (es ++ fs)
  more_stable s =
      stable_same x (on_working f x) (on_working_area f x) es (es ++ fs)
      (take-append-le (recovery_point x) es fs reached)
      (omega (arith, length-append es fs))
      s

module _ (x : Board) (es : List HistoryEntry) (t : Rebuilt) (v : VolatileExplains x es t) where
  pub volatile_reached : recovery_point x ≤ length es
  volatile_reached = omega (arith, v.rest)

  pub unstable_length : length (unstable_entries x es) ≡ count_sum x.working.log + x.working.since
  unfolding unstable_entries
  unstable_length = rw (length-drop (recovery_point x) es) (omega (arith, v.rest))

  -- a page that no volatile record but a shown touches
  pub volatile_page : (m : Memory) (p : ℕ) → p < length x.stable.selected.frames
      → Each (λ r. page_of r.kind ≡ p → is_shown r.kind ≡ true) x.working.log
      → m p ≡ (frame_at (rebuilt x es).frames p).bytes
      → frame_at t.frames p ≡ record { right = (frame_at (rebuilt x es).frames p).right; bytes = memory_after m (unstable_entries x es) p }
  unfolding volatile_trace
  volatile_page m p h l a =
      let k : p < length (rebuilt x es).frames = rw (length_rebuilt x es) h in
      rw (← v.ends) (frame_at_trace (rebuilt x es) x.working.log (unstable_entries x es) m p k l a)

  -- one item more
  volatile_one : (y : Board) (fs : List HistoryEntry) (i : TraceItem) → rebuilt y fs ≡ rebuilt x es
      → volatile_trace y fs ≡ volatile_trace x es ++ (i ∷ [])
      → recovery_point y + count_sum y.working.log + y.working.since ≡ length fs → Accepts t i
      → VolatileExplains y fs (next i t)
  volatile_one y fs i b m n h =
      let g : Accepts (final (rebuilt x es) (volatile_trace x es)) i = rw v.ends h in
      record {
        accepted = rw (b, m) (accepted_one (rebuilt x es) (volatile_trace x es) i v.accepted g);
        ends = rw (b, m, final_one (rebuilt x es) (volatile_trace x es) i, v.ends);
        rest = n;
      }

  accessed_trace : (a : Access) (e : HistoryEntry) → volatile_trace (on_working (accessed a) x) (es ++ (e ∷ [])) ≡ volatile_trace x es ++ (Made e ∷ [])
  unfolding volatile_trace unstable_entries on_working accessed recovery_point
  accessed_trace a e =
      rw (drop-append-le (recovery_point x) es (e ∷ []) volatile_reached)
      (trace_entry x.working.log (unstable_entries x es) e (omega (arith, unstable_length)))

  pub accessed_volatile : (a : Access) (e : HistoryEntry) → Accepts t (Made e)
      → VolatileExplains (on_working (accessed a) x) (es ++ (e ∷ [])) (next (Made e) t)
  unfolding on_working accessed recovery_point
  accessed_volatile a e h =
      volatile_one (on_working (accessed a) x) (es ++ (e ∷ [])) (Made e)
      (more_rebuilt (accessed a) x es (e ∷ []) volatile_reached)
      (accessed_trace a e)
      (omega (arith, v.rest, length-append es (e ∷ [])))
      h

  module _ (k : Kind) (o : ℕ) (bs : List ℕ) where
    recorded_trace : volatile_trace (on_working (recorded k o bs) x) es ≡ volatile_trace x es ++ (Logged (new_record k o bs x.working) ∷ [])
    unfolding volatile_trace unstable_entries on_working recorded appended recovery_point
    recorded_trace = trace_record x.working.log (new_record k o bs x.working) (unstable_entries x es) (sym unstable_length)

    pub recorded_volatile : Accepts t (Logged (new_record k o bs x.working))
        → VolatileExplains (on_working (recorded k o bs) x) es (next (Logged (new_record k o bs x.working)) t)
    unfolding on_working recorded appended recovery_point
    recorded_volatile h =
        volatile_one (on_working (recorded k o bs) x) es (Logged (new_record k o bs x.working))
        (rebuilt_same x (on_working (recorded k o bs) x) (on_working_area (recorded k o bs) x) es es refl)
        recorded_trace
        (omega (arith, v.rest, count_sum_one x.working.log (new_record k o bs x.working)))
        h

-- ==== nothing volatile

-- no entry past the recovery point and no volatile record: the log explains what the stable memory rebuilds
pub nothing_volatile : (x : Board) (es : List HistoryEntry) → recovery_point x ≡ length es → x.working.log ≡ []
    → x.working.since ≡ 0 → VolatileExplains x es (rebuilt x es)
unfolding Accepted final trace count_sum volatile_trace unstable_entries
nothing_volatile x es all records since =
    let d : drop (recovery_point x) es ≡ [] = drop_of_length-le es {i = recovery_point x} (omega arith) in
    let c : count_sum x.working.log ≡ 0 = ap count_sum records in
    record { accepted = rw (d, records) tt; ends = rw (d, records); rest = omega arith }

-- a checkpoint: no stored record either, and the area's number is the number of entries
module _ (x : Board) (es : List HistoryEntry) (stored : x.stable.selected.log ≡ [])
    (all : x.stable.selected.number ≡ length es) where
  pub checkpoint_point : recovery_point x ≡ length es
  unfolding recovery_point count_sum
  checkpoint_point = rw stored (omega arith)

  checkpoint_trace : stable_trace x es ≡ []
  unfolding stable_trace stable_entries count_sum trace
  checkpoint_trace = rw stored

  pub checkpoint_rebuilt : rebuilt x es ≡ checkpointed x
  unfolding rebuilt final
  checkpoint_rebuilt = rw checkpoint_trace

  pub checkpoint_stable : StableExplains x es
  unfolding Accepted
  checkpoint_stable = record { reached = omega (arith, checkpoint_point); accepted = rw checkpoint_trace tt }

  pub checkpoint_volatile : x.working.log ≡ [] → x.working.since ≡ 0 → VolatileExplains x es (checkpointed x)
  checkpoint_volatile records since = rw (← checkpoint_rebuilt) (nothing_volatile x es checkpoint_point records since)
