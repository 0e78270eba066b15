-- A replay between its steps: what is left to do leads to what the stable memory rebuilds, and each step does the head of it.
-- Of one board and its own entries. Assumes nothing.
use Rattle.std.specs.Prelude.{◌≡◌, ◌≢◌, ◌⊎◌, ℕ, suc, ◌+◌, ◌≤◌, ◌<◌, true, false, length, take, set, eqb}
use Rattle.std.proofs.Math.Path.{refl, sym, ap}
use Rattle.std.proofs.Common.{◌∙◌, inl, inr, length-drop, drop-drop, take_all, eqb-true, leb-true, leb-false, le-leb}
use Rattle.std.proofs.Math.Numerals.{add-one}
use native.Mathlib.Omega.{arith}
use Rattle.std.proofs.Math.Option.{some}
use mathlib.Core.List.{List, [], ◌∷◌}
use Rattle.std.proofs.Math.ListN.{drop, get_elem?, drop_of_length-le}
use Rattle.std.proofs.lemmas.Bool.{eqb-false}
use Rattle.types.specs.declared.CopyOrOwn.{CopyOrOwn}
use Rattle.types.specs.declared.Frame.{Frame}
use Rattle.types.specs.declared.Kind.TheVariants.{Got, Shown, Dropped}
use Rattle.types.specs.declared.Record.{Record}
use Rattle.model.specs.Definitions.Bank.{Working, Board, empty_frame, on_working}
use Rattle.model.specs.Definitions.WellFormed.{is_got}
use Rattle.model.specs.Definitions.Steps.{Access, accessed}
use Rattle.model.specs.Definitions.Replay.{loaded, records_left, used, use_up, used_up, replay_over, count_sum, recovery_point}
use Rattle.model.proofs.Laws.Logic.{clash, by_bool}
use Rattle.model.specs.History.Statement.{HistoryEntry}
use Rattle.history.specs.Rerun.{Rebuilt, TraceItem, Made, Logged, trace_since, logged, next, Accepts, final, Accepted, checkpointed, stable_trace}
use Rattle.history.specs.Rerun.{stable_entries, rebuilt, trace_left}
use Rattle.history.specs.Invariant.{StableExplains, NextWaits, ReplayExplains}
use Rattle.history.specs.Traces.{drop_next, next_exists, trace_since_zero, trace_since_record, trace_since_entry}
use Rattle.history.specs.Logging.{recovery_point_same, rebuilt_same}
use Rattle.model.proofs.Laws.Codes.Tests.{by_kind}

-- ==== where a replay stands

-- `ps` are the gots that have been used and that the access in progress is about to take
abbrev pub replay_state : List Record → Board → Rebuilt
replay_state ps x = record { frames = x.working.frames; pending = ps }

-- since is not past the next record
unfoldable pub SinceFits : List Record → ℕ → Type 0
SinceFits [] since = since ≡ 0
SinceFits (r ∷ rs) since = since ≤ r.count

-- ReplayExplains, also between the steps of a call: the next record may be one that is about to be used, or none
pub record Replays (ps : List Record) (x : Board) (es : List HistoryEntry) : Type 0 where
  pub accepted : Accepted (replay_state ps x) (trace_left x es)
  pub ends : final (replay_state ps x) (trace_left x es) ≡ rebuilt x es
  pub rest : x.working.number + count_sum (records_left x) ≡ recovery_point x + x.working.since
  pub fits : SinceFits (records_left x) x.working.since

waits_fits : (rs : List Record) (since : ℕ) → NextWaits rs since → SinceFits rs since
unfolding SinceFits NextWaits
waits_fits [] since w = absurd w
waits_fits (r ∷ rs) since (inl h) = omega arith
waits_fits (r ∷ rs) since (inr h) = omega (arith, h.0)

pub explains_replays : (x : Board) (es : List HistoryEntry) → ReplayExplains x es → Replays [] x es
explains_replays x es e =
    record { accepted = e.accepted; ends = e.ends; rest = e.rest; fits = waits_fits (records_left x) x.working.since e.waits }

pub replays_explains : (x : Board) (es : List HistoryEntry) → Replays [] x es
    → NextWaits (records_left x) x.working.since → ReplayExplains x es
replays_explains x es e w = record { accepted = e.accepted; ends = e.ends; waits = w; rest = e.rest }

-- one item done: it was the head of what was left
module _ (ps : List Record) (x : Board) (es : List HistoryEntry) (v : Replays ps x es) (i : TraceItem) (is : List TraceItem)
    (todo : trace_left x es ≡ i ∷ is) where
  todo_accepted : Accepted (replay_state ps x) (i ∷ is)
  todo_accepted = rw todo at v.accepted

  next_accepts : Accepts (replay_state ps x) i
  unfolding Accepted
  next_accepts = todo_accepted.0

  did_next : (qs : List Record) (y : Board) → y.stable.selected ≡ x.stable.selected → next i (replay_state ps x) ≡ replay_state qs y
      → trace_left y es ≡ is → y.working.number + count_sum (records_left y) ≡ recovery_point x + y.working.since
      → SinceFits (records_left y) y.working.since → Replays qs y es
  unfolding Accepted final
  did_next qs y area did left rest fits =
      let a : Accepted (next i (replay_state ps x)) is = todo_accepted.1 in
      let f : final (next i (replay_state ps x)) is ≡ rebuilt x es = rw todo at v.ends in
      record {
        accepted = rw left (rw did at a);
        ends = rw (left, rebuilt_same x y area es es refl) (rw did at f);
        rest = rw (recovery_point_same x y area) rest;
        fits = fits;
      }

-- ==== the next record

fits_zero : (rs : List Record) → SinceFits rs 0
unfolding SinceFits
fits_zero [] = refl
fits_zero (r ∷ rs) = omega arith

module _ (x : Board) (r : Record) (rs : List Record) (head : records_left x ≡ r ∷ rs) where
  pub left_counts : count_sum (records_left x) ≡ r.count + count_sum rs
  unfolding count_sum
  left_counts = ap count_sum head

  pub left_fits : SinceFits (records_left x) x.working.since → x.working.since ≤ r.count
  unfolding SinceFits
  left_fits h = rw head at h

  pub used_left : (fs : List Frame) → records_left (on_working (used fs) x) ≡ rs
  unfolding records_left on_working used
  used_left fs =
      let qs : List Record = x.stable.selected.log in
      sym (drop-drop 1 x.working.place qs) ∙ ap (λ (ls : List Record). drop 1 ls) head

  accessed_left : (a : Access) → records_left (on_working (accessed a) x) ≡ r ∷ rs
  unfolding records_left on_working accessed
  accessed_left a = head

  accessed_fits : (a : Access) → x.working.since < r.count → SinceFits (r ∷ rs) (on_working (accessed a) x).working.since
  unfolding SinceFits on_working accessed
  accessed_fits a h = omega arith

  module _ (ps : List Record) (es : List HistoryEntry) (v : Replays ps x es) where
    -- it is due: the head of what is left
    module _ (now : r.count ≡ x.working.since) where
      record_next : trace_left x es ≡ Logged r ∷ trace_since 0 rs (drop x.working.number es)
      unfolding trace_left
      record_next = rw head (trace_since_record x.working.since r rs (drop x.working.number es) now)

      pub record_accepts : Accepts (replay_state ps x) (Logged r)
      record_accepts = next_accepts ps x es v (Logged r) (trace_since 0 rs (drop x.working.number es)) record_next

      pub used_replays : (t : Rebuilt) → next (Logged r) (replay_state ps x) ≡ t → Replays t.pending (on_working (used t.frames) x) es
      unfolding on_working used trace_left
      used_replays t e =
          let y : Board = on_working (used t.frames) x in
          let is : List TraceItem = trace_since 0 rs (drop x.working.number es) in
          did_next ps x es v (Logged r) is record_next t.pending y refl e
          (rw (used_left t.frames))
          (rw (used_left t.frames) (omega (arith, v.rest, left_counts)))
          (rw (used_left t.frames) (fits_zero rs))

    -- it is not: the next entry is
    module _ (later : x.working.since < r.count) (e : HistoryEntry) (named : get_elem? es x.working.number ≡ some e) where
      entry_next : trace_left x es ≡ Made e ∷ trace_since (suc x.working.since) (r ∷ rs) (drop (suc x.working.number) es)
      unfolding trace_left
      entry_next =
          rw (head, drop_next es x.working.number e named)
          (trace_since_entry x.working.since r rs e (drop (suc x.working.number) es) later)

      pub entry_accepts : Accepts (replay_state ps x) (Made e)
      entry_accepts = next_accepts ps x es v (Made e) (trace_since (suc x.working.since) (r ∷ rs) (drop (suc x.working.number) es)) entry_next

      pub accessed_replays : (a : Access) → e.access ≡ a → Replays [] (on_working (accessed a) x) es
      unfolding on_working accessed trace_left next
      accessed_replays a same =
          let y : Board = on_working (accessed a) x in
          let is : List TraceItem = trace_since (suc x.working.since) (r ∷ rs) (drop (suc x.working.number) es) in
          let l : records_left y ≡ r ∷ rs = accessed_left a in
          did_next ps x es v (Made e) is entry_next [] y refl
          (rw same)
          (rw (l, add-one x.working.since, add-one x.working.number))
          (omega (arith, v.rest, ap count_sum (l ∙ sym head)))
          (rw l (accessed_fits a later))

-- ==== records used up

use_up_none : (w : Working) → use_up [] w ≡ w
unfolding use_up
use_up_none w = refl

module _ (r : Record) (rs : List Record) (w : Working) where
  use_up_later : eqb r.count w.since ≡ false → use_up (r ∷ rs) w ≡ w
  unfolding use_up
  use_up_later h = cc

  use_up_got : (g : CopyOrOwn) (p : ℕ) → eqb r.count w.since ≡ true → r.kind ≡ Got g p → use_up (r ∷ rs) w ≡ w
  unfolding use_up
  use_up_got g p h k = cc

  use_up_shown : (p : ℕ) → eqb r.count w.since ≡ true → r.kind ≡ Shown p → use_up (r ∷ rs) w ≡ use_up rs (used w.frames w)
  unfolding use_up
  use_up_shown p h k = cc

  use_up_dropped : (p : ℕ) → eqb r.count w.since ≡ true → r.kind ≡ Dropped p
      → use_up (r ∷ rs) w ≡ use_up rs (used (set w.frames p empty_frame) w)
  unfolding use_up
  use_up_dropped p h k = cc

-- what one use keeps, all keep: the number and the volatile log
use_up_keeps : {X : Type 0} (f : Working → X) → ((fs : List Frame) (w : Working) → f (used fs w) ≡ f w) → (rs : List Record) (w : Working)
    → f (use_up rs w) ≡ f w
use_up_keeps f h [] w = ap f (use_up_none w)
use_up_keeps f h (r ∷ rs) w =
    by_bool (eqb r.count w.since)
    (λ t.
    by_kind r.kind
    (λ g p k. ap f (use_up_got r rs w g p t k))
    (λ p k. ap f (use_up_shown r rs w p t k) ∙ use_up_keeps f h rs (used w.frames w) ∙ h w.frames w)
    (λ p k.
    let fs : List Frame = set w.frames p empty_frame in
    ap f (use_up_dropped r rs w p t k) ∙ use_up_keeps f h rs (used fs w) ∙ h fs w))
    (λ t. ap f (use_up_later r rs w t))

module _ (x : Board) where
  pub used_up_number : (used_up x).working.number ≡ x.working.number
  unfolding used_up on_working used
  used_up_number = use_up_keeps (λ (w : Working). w.number) (λ fs w. refl) (records_left x) x.working

  pub used_up_log : (used_up x).working.log ≡ x.working.log
  unfolding used_up on_working used
  used_up_log = use_up_keeps (λ (w : Working). w.log) (λ fs w. refl) (records_left x) x.working

  pub used_up_stable : (used_up x).stable ≡ x.stable
  unfolding used_up on_working
  used_up_stable = refl

-- a replay that waits for an access, or that has no record left
pub record AllUsed (x : Board) (es : List HistoryEntry) : Type 0 where
  pub replays : Replays [] x es
  pub waits : NextWaits (records_left x) x.working.since ⊎ (records_left x ≡ [])

next_shown : (r : Record) (p : ℕ) (t : Rebuilt) → r.kind ≡ Shown p → next (Logged r) t ≡ t
unfolding next logged
next_shown r p t k = cc

next_dropped : (r : Record) (p : ℕ) (t : Rebuilt) → r.kind ≡ Dropped p
    → next (Logged r) t ≡ record { frames = set t.frames p empty_frame; pending = t.pending }
unfolding next logged
next_dropped r p t k = cc

waits_later : (r : Record) (rs : List Record) (since : ℕ) → since ≤ r.count → eqb r.count since ≡ false → NextWaits (r ∷ rs) since
unfolding NextWaits
waits_later r rs since h t = let ne : r.count ≢ since = eqb-false r.count since t in inl (omega arith)

waits_got : (r : Record) (rs : List Record) (since : ℕ) (g : CopyOrOwn) (p : ℕ) → eqb r.count since ≡ true → r.kind ≡ Got g p
    → NextWaits (r ∷ rs) since
unfolding NextWaits is_got
waits_got r rs since g p t k = inr (sym (eqb-true r.count since t), cc)

use_up_all_used : (rs : List Record) (x : Board) (es : List HistoryEntry) → records_left x ≡ rs → Replays [] x es
    → AllUsed (on_working (use_up rs) x) es
unfolding on_working
use_up_all_used [] x es left v = rw (use_up_none x.working) (record { replays = v; waits = inr left })
use_up_all_used (r ∷ rs) x es left v =
    let w : Working = x.working in
    by_bool (eqb r.count w.since)
    (λ t.
    let now : r.count ≡ w.since = eqb-true r.count w.since t in
    by_kind r.kind
    (λ g p k. rw (use_up_got r rs w g p t k) (record { replays = v; waits = inl (rw left (waits_got r rs w.since g p t k)) }))
    (λ p k.
    rw (use_up_shown r rs w p t k)
    (use_up_all_used rs (on_working (used w.frames) x) es
    (used_left x r rs left w.frames)
    (used_replays x r rs left [] es v now (replay_state [] x) (next_shown r p (replay_state [] x) k))))
    (λ p k.
    let fs : List Frame = set w.frames p empty_frame in
    rw (use_up_dropped r rs w p t k)
    (use_up_all_used rs (on_working (used fs) x) es
    (used_left x r rs left fs)
    (used_replays x r rs left [] es v now (record { frames = fs; pending = [] }) (next_dropped r p (replay_state [] x) k)))))
    (λ t.
    rw (use_up_later r rs w t)
    (record { replays = v; waits = inl (rw left (waits_later r rs w.since (left_fits x r rs left v.fits) t)) }))

pub used_up_all_used : (x : Board) (es : List HistoryEntry) → Replays [] x es → AllUsed (used_up x) es
unfolding used_up
used_up_all_used x es v = use_up_all_used (records_left x) x es refl v

-- ==== its start

loaded_trace : (x : Board) (es : List HistoryEntry) → length es ≡ recovery_point x → trace_left (loaded x) es ≡ stable_trace x es
unfolding loaded trace_left records_left stable_trace stable_entries recovery_point
loaded_trace x es all =
    let rs : List Record = x.stable.selected.log in
    let ds : List HistoryEntry = drop x.stable.selected.number es in
    let t : take (count_sum rs) ds ≡ ds = take_all (count_sum rs) ds (omega (arith, length-drop x.stable.selected.number es)) in
    rw t (trace_since_zero rs ds)

loaded_rest : (x : Board) → (loaded x).working.number + count_sum (records_left (loaded x)) ≡ recovery_point (loaded x) + (loaded x).working.since
unfolding loaded records_left recovery_point
loaded_rest x = omega arith

-- a restarted board has all the stored records left, from the checkpoint
pub loaded_replays : (x : Board) (es : List HistoryEntry) → length es ≡ recovery_point x → StableExplains x es → Replays [] (loaded x) es
unfolding loaded checkpointed rebuilt
loaded_replays x es all s =
    let t : trace_left (loaded x) es ≡ stable_trace x es = loaded_trace x es all in
    record {
      accepted = rw t s.accepted;
      ends = rw t (sym (rebuilt_same x (loaded x) refl es es refl));
      rest = loaded_rest x;
      fits = fits_zero (records_left (loaded x));
    }

pub restarted_all_used : (x : Board) (es : List HistoryEntry) → length es ≡ recovery_point x → StableExplains x es → AllUsed (used_up (loaded x)) es
restarted_all_used x es all s = used_up_all_used (loaded x) es (loaded_replays x es all s)

-- ==== its end

pub over_left : (x : Board) → replay_over x ≡ true → records_left x ≡ []
unfolding replay_over records_left
over_left x h =
    let rs : List Record = x.stable.selected.log in
    drop_of_length-le rs {i = x.working.place} (leb-true (length rs) x.working.place h)

-- some record is left
pub going_left : (x : Board) → replay_over x ≡ false → (r : Record) × (rs : List Record) × (records_left x ≡ r ∷ rs)
unfolding replay_over records_left
going_left x h =
    let rs : List Record = x.stable.selected.log in
    let n : (r : Record) × (get_elem? rs x.working.place ≡ some r) = next_exists rs x.working.place (leb-false (length rs) x.working.place h) in
    (n.0, drop (suc x.working.place) rs, drop_next rs x.working.place n.0 n.1)

pub left_over : (x : Board) → records_left x ≡ [] → replay_over x ≡ true
unfolding replay_over records_left
left_over x h =
    let rs : List Record = x.stable.selected.log in
    let e : length (drop x.working.place rs) ≡ 0 = ap length h in
    le-leb (length rs) x.working.place (omega (arith, length-drop x.working.place rs))

-- a replay that goes on waits
pub all_used_explains : (x : Board) (es : List HistoryEntry) → AllUsed x es → replay_over x ≡ false → ReplayExplains x es
all_used_explains x es s going =
    elim s.waits [
      | inl w ↦ replays_explains x es s.replays w
      | inr l ↦ clash (left_over x l) going
    ]

-- nothing is left: the frames, with a got that the last access is about to take, are what the stable memory rebuilds
module _ (ps : List Record) (x : Board) (es : List HistoryEntry) (v : Replays ps x es) (none_left : records_left x ≡ []) where
  pub over_since : x.working.since ≡ 0
  unfolding SinceFits
  over_since = rw none_left at v.fits

  pub over_number : x.working.number ≡ recovery_point x
  unfolding count_sum
  over_number = let c : count_sum (records_left x) ≡ 0 = ap count_sum none_left in omega (arith, over_since, v.rest)

  pub over_trace : length es ≡ recovery_point x → trace_left x es ≡ []
  unfolding trace_left trace_since
  over_trace all =
      let d : drop x.working.number es ≡ [] = drop_of_length-le es {i = x.working.number} (omega (arith, over_number)) in
      rw (none_left, d)

  pub over_rebuilt : length es ≡ recovery_point x → replay_state ps x ≡ rebuilt x es
  unfolding final
  over_rebuilt all = rw (over_trace all) at v.ends
