-- A replaying board's access: it takes the got that is due, if one is, and then it repeats the next entry, or finds the replay over.
-- Of one board and its own entries. Assumes nothing.
use Rattle.std.specs.Prelude.{◌≡◌, ◌≢◌, ◌⊎◌, ℕ, ◌+◌, ◌<◌, true, false, length, eqb}
use Rattle.std.proofs.Math.Path.{refl, sym, ap, subst}
use Rattle.std.proofs.Common.{◌∙◌, inl, inr, arith, eqb-true, eq-eqb}
use Rattle.std.proofs.Math.Option.{some}
use mathlib.Core.List.{List, [], ◌∷◌, ◌++◌, map, append-nil, append_assoc}
use Rattle.std.proofs.Math.ListN.{set, get_elem?}
use Rattle.types.specs.declared.CopyOrOwn.{CopyOrOwn}
use Rattle.types.specs.declared.Frame.{Frame}
use Rattle.types.specs.declared.Kind.TheVariants.{Got}
use Rattle.types.specs.declared.Record.{Record}
use Rattle.model.specs.Definitions.Bank.{Working, Board, on_working}
use Rattle.model.specs.Definitions.Codec.{page_of}
use Rattle.model.specs.Definitions.WellFormed.{is_got}
use Rattle.model.specs.Definitions.Steps.{Access, cells_read, cell_byte, accessed}
use Rattle.model.specs.Definitions.Replay.{records_left, used, gots_due, due, lacking, right_got, took_got, took_gots, took_due, replay_over}
use Rattle.model.specs.Definitions.Replay.{replayed, count_sum, recovery_point}
use Rattle.model.proofs.Laws.Logic.{clash, by_bool, by_eq}
use Rattle.model.specs.History.Statement.{HistoryEntry}
use Rattle.history.specs.Rerun.{Rebuilt, Made, Logged, logged, next, Joins, Accepts, rebuilt}
use Rattle.history.specs.Invariant.{NextWaits, ReplayExplains}
use Rattle.history.specs.Logging.{rebuilt_same, recovery_point_same}
use Rattle.history.specs.Replaying.{Replays, replay_state, explains_replays, left_counts, left_fits, used_left, record_accepts, used_replays}
use Rattle.history.specs.Replaying.{entry_accepts, accessed_replays, used_up_number, used_up_log, used_up_stable, AllUsed, used_up_all_used, over_left}
use Rattle.history.specs.Replaying.{going_left, over_since, over_number, over_rebuilt}
use Rattle.model.proofs.Laws.Codes.Tests.{by_kind}
use Rattle.model.proofs.Laws.Codes.Order.{never}

-- ==== the gots that are due

-- none is due: a replay that waits, waits for an entry
pub gots_due_none : (r : Record) (rs : List Record) (since : ℕ) → gots_due (r ∷ rs) since ≡ [] → NextWaits (r ∷ rs) since → since < r.count
unfolding NextWaits gots_due is_got
gots_due_none r rs since h (inl l) = l
gots_due_none r rs since h (inr w) =
    by_kind r.kind
    (λ g p k. let z : ◌≡◌ {A = ℕ} 0 1 = cc (eq-eqb r.count since (sym w.0)) in absurd (omega arith))
    (λ p k. let z : ◌≡◌ {A = ℕ} 0 1 = cc w.1 in absurd (omega arith))
    (λ p k. let z : ◌≡◌ {A = ℕ} 0 1 = cc w.1 in absurd (omega arith))

-- the first record of a list, by what becomes of it: it is not due and no got goes, or it is a got that goes with those behind it
pub gots_due_cases : {X : Type 0} (r : Record) (rs : List Record) (since : ℕ)
    → (gots_due (r ∷ rs) since ≡ [] → (r.count ≡ since → is_got r.kind ≡ false) → X)
    → ((g : CopyOrOwn) (p : ℕ) → r.kind ≡ Got g p → r.count ≡ since → gots_due (r ∷ rs) since ≡ r ∷ gots_due rs 0 → X)
    → X
unfolding gots_due is_got
gots_due_cases r rs since f h =
    by_bool (eqb r.count since)
    (λ t.
    by_kind r.kind
    (λ g p k. h g p k (eqb-true r.count since t) (cc))
    (λ p k. f (cc) (λ e. cc))
    (λ p k. f (cc) (λ e. cc)))
    (λ t. f (cc) (λ e. clash (eq-eqb r.count since e) t))

-- ==== the gots taken

next_got : (r : Record) (g : CopyOrOwn) (p : ℕ) (t : Rebuilt) → r.kind ≡ Got g p
    → next (Logged r) t
    ≡ record { frames = set t.frames (page_of r.kind) (record { right = right_got r.kind; bytes = r.bytes }); pending = t.pending ++ (r ∷ []) }
unfolding next logged page_of
next_got r g p t k = cc

-- a list of gots taken, one after the other, by a board
abbrev pub taken_by : List Record → Board → Board
taken_by ds x = on_working (took_gots ds) x

took_gots_keeps : {X : Type 0} (f : Working → X) → ((fs : List Frame) (w : Working) → f (used fs w) ≡ f w) → (ds : List Record) (w : Working)
    → f (took_gots ds w) ≡ f w
unfolding took_gots took_got
took_gots_keeps f h [] w = refl
took_gots_keeps f h (d ∷ ds) w = took_gots_keeps f h ds (took_got d w) ∙ h _ w

-- the number, the stable part and the volatile log stay
module _ (x : Board) where
  pub took_number : (took_due x).working.number ≡ x.working.number
  unfolding took_due on_working used
  took_number = took_gots_keeps (λ (w : Working). w.number) (λ fs w. refl) (due x) x.working

  pub took_stable : (took_due x).stable ≡ x.stable
  unfolding took_due on_working
  took_stable = refl

  pub took_log : (took_due x).working.log ≡ x.working.log
  unfolding took_due on_working used
  took_log = took_gots_keeps (λ (w : Working). w.log) (λ fs w. refl) (due x) x.working

  module _ (a : Access) where
    -- and so after the access, but for its number
    pub replayed_number : (replayed a (took_due x)).working.number ≡ x.working.number + 1
    unfolding replayed on_working accessed
    replayed_number = used_up_number (on_working (accessed a) (took_due x)) ∙ ap (λ (n : ℕ). n + 1) took_number

    pub replayed_stable : (replayed a (took_due x)).stable ≡ x.stable
    unfolding replayed on_working
    replayed_stable = used_up_stable (on_working (accessed a) (took_due x)) ∙ took_stable

    pub replayed_log : (replayed a (took_due x)).working.log ≡ x.working.log
    unfolding replayed on_working accessed
    replayed_log = used_up_log (on_working (accessed a) (took_due x)) ∙ took_log

-- no got goes: nothing changes
pub took_none : (x : Board) (ds : List Record) → ds ≡ [] → taken_by ds x ≡ x
unfolding on_working took_gots
took_none x ds e = rw e

pub took_first_lem : (x : Board) (ds es : List Record) (r : Record) → ds ≡ r ∷ es → taken_by ds x ≡ taken_by es (on_working (took_got r) x)
unfolding on_working took_gots
took_first_lem x ds es r e = rw e

pub due_nothing : (since : ℕ) → gots_due [] since ≡ []
unfolding gots_due
due_nothing since = refl

pub left_got : (r : Record) (rs : List Record) (x : Board) → records_left x ≡ r ∷ rs → records_left (on_working (took_got r) x) ≡ rs
unfolding took_got used on_working
left_got r rs x left = used_left x r rs left _

-- an entry comes before the next record, if one is left
abbrev pub EntryNext : Board → Type 0
EntryNext x = (r : Record) (rs : List Record) → records_left x ≡ r ∷ rs → x.working.since < r.count

-- what one due got that is used keeps, all that go together keep
took_all : (P : Board → Type 0)
    → ((x : Board) (r : Record) (rs : List Record) (g : CopyOrOwn) (p : ℕ) → records_left x ≡ r ∷ rs → r.count ≡ x.working.since → r.kind ≡ Got g p
    → P x → P (on_working (took_got r) x))
    → (qs : List Record) (x : Board) → records_left x ≡ qs → P x → P (taken_by (gots_due qs x.working.since) x)
unfolding took_got used on_working
took_all P f [] x left h = rw (due_nothing x.working.since, took_none x [] refl) h
took_all P f (r ∷ rs) x left h =
    gots_due_cases r rs x.working.since
    (λ e late. rw (e, took_none x [] refl) h)
    (λ g p k now e.
    rw (e, took_first_lem x (r ∷ gots_due rs 0) (gots_due rs 0) r refl)
    (took_all P f rs (on_working (took_got r) x) (left_got r rs x left) (f x r rs g p left now k h)))

pub took_induct : (P : Board → Type 0)
    → ((x : Board) (r : Record) (rs : List Record) (g : CopyOrOwn) (p : ℕ) → records_left x ≡ r ∷ rs → r.count ≡ x.working.since → r.kind ≡ Got g p
    → P x → P (on_working (took_got r) x))
    → (x : Board) → P x → P (took_due x)
unfolding took_due due
took_induct P f x h = took_all P f (records_left x) x refl h

-- The gots at the head of what is left are taken: `ps` are those that the access in progress has already taken.
joins_got : (q : Record) (ps : List Record) → ps ≢ [] → Joins q ps → is_got q.kind ≡ true
unfolding Joins is_got
joins_got q [] n j = absurd (n refl)
joins_got q (p ∷ ps) n j = rw j.1

snoc_some : (ps : List Record) (q : Record) → (ps ++ (q ∷ [])) ≢ []
snoc_some [] q e = never (cc)
snoc_some (p ∷ ps) q e = never (cc)

module _ (es : List HistoryEntry) where
  -- one got used
  used_got : (r : Record) (rs ps : List Record) (x : Board) → records_left x ≡ r ∷ rs → Replays ps x es → (g : CopyOrOwn) (p : ℕ)
      → r.kind ≡ Got g p → r.count ≡ x.working.since → Replays (ps ++ (r ∷ [])) (on_working (took_got r) x) es
  unfolding took_got on_working
  used_got r rs ps x left v g p k now =
      let fs : List Frame = set x.working.frames (page_of r.kind) (record { right = right_got r.kind; bytes = r.bytes }) in
      used_replays x r rs left ps es v now (record { frames = fs; pending = ps ++ (r ∷ []) }) (next_got r g p (replay_state ps x) k)

  took_from : (qs ps : List Record) (x : Board) → records_left x ≡ qs → Replays ps x es
      → Replays (ps ++ gots_due qs x.working.since) (taken_by (gots_due qs x.working.since) x) es
  unfolding took_got used on_working
  took_from [] ps x left v = rw (due_nothing x.working.since, append-nil ps, took_none x [] refl) v
  took_from (r ∷ rs) ps x left v =
      gots_due_cases r rs x.working.since
      (λ e late. rw (e, append-nil ps, took_none x [] refl) v)
      (λ g p k now e.
      rw (e, took_first_lem x (r ∷ gots_due rs 0) (gots_due rs 0) r refl, ← append_assoc ps (r ∷ []) (gots_due rs 0))
      (took_from rs (ps ++ (r ∷ [])) (on_working (took_got r) x) (left_got r rs x left) (used_got r rs ps x left v g p k now)))

  pub took_replays : (x : Board) → Replays [] x es → Replays (due x) (took_due x) es
  unfolding due took_due
  took_replays x v = took_from (records_left x) [] x refl v

  -- a record that is no got and that is due joins nothing, and a replay that waits doesn't wait for it
  still_later : (q : Record) (qs ps : List Record) (x : Board) → records_left x ≡ q ∷ qs → Replays ps x es
      → (ps ≢ []) ⊎ NextWaits (q ∷ qs) x.working.since → (q.count ≡ x.working.since → is_got q.kind ≡ false) → x.working.since < q.count
  unfolding NextWaits Accepts
  still_later q qs ps x left v (inr (inl l)) late = l
  still_later q qs ps x left v (inr (inr g)) late = clash g.1 (late (sym g.0))
  still_later q qs ps x left v (inl n) late =
      by_eq q.count x.working.since
      (λ e.
      let a : Accepts (replay_state ps x) (Logged q) = record_accepts x q qs left ps es v e in
      clash (joins_got q ps n a.0) (late e))
      (λ ne. omega (arith, ne, left_fits x q qs left v.fits))

  -- where a record is left behind them, an entry comes before it
  later_from : (qs ps : List Record) (x : Board) → records_left x ≡ qs → Replays ps x es → (ps ≢ []) ⊎ NextWaits qs x.working.since
      → EntryNext (taken_by (gots_due qs x.working.since) x)
  unfolding took_got used on_working
  later_from [] ps x left v w = rw (due_nothing x.working.since, took_none x [] refl) (λ r rs l. let z : [] ≡ r ∷ rs = sym left ∙ l in never (cc))
  later_from (q ∷ qs) ps x left v w =
      gots_due_cases q qs x.working.since
      (λ e late.
      subst EntryNext (sym (took_none x _ e))
      (λ r rs l.
      let here : q ∷ qs ≡ r ∷ rs = sym left ∙ l in
      let head : q ≡ r = cc in
      rw (← head) (still_later q qs ps x left v w late)))
      (λ g p k now e.
      subst EntryNext (sym (took_first_lem x _ (gots_due qs 0) q e))
      (later_from qs (ps ++ (q ∷ [])) (on_working (took_got q) x) (left_got q qs x left) (used_got q qs ps x left v g p k now) (inl (snoc_some ps q))))

  pub took_later : (x : Board) → ReplayExplains x es → EntryNext (took_due x)
  unfolding due took_due
  took_later x v = later_from (records_left x) [] x refl (explains_replays x es v) (inr v.waits)

-- ==== the access itself

-- the got was the last record: the replay is over, and the access is a new one
pub record TookLast (x : Board) (es : List HistoryEntry) : Type 0 where
  pub number : x.working.number ≡ length es
  pub since : (took_due x).working.since ≡ 0
  pub state : replay_state (due x) (took_due x) ≡ rebuilt x es

-- it repeats entry e: with the right that it needs and the bytes that it read
pub record Repeated (a : Access) (x : Board) (es : List HistoryEntry) (e : HistoryEntry) : Type 0 where
  pub right : lacking a (took_due x).working.frames ≡ false
  pub bytes : e.bytes_read ≡ map (cell_byte (took_due x).working.frames) (cells_read a)
  pub after : AllUsed (replayed a (took_due x)) es

module _ (x : Board) (es : List HistoryEntry) (v : ReplayExplains x es)
    (all : length es ≡ recovery_point x) where
  took_area : (took_due x).stable.selected ≡ x.stable.selected
  took_area = rw (took_stable x)

  took_point : recovery_point (took_due x) ≡ recovery_point x
  took_point = recovery_point_same x (took_due x) took_area

  took_state : Replays (due x) (took_due x) es
  took_state = took_replays es x (explains_replays x es v)

  pub took_last : replay_over (took_due x) ≡ true → TookLast x es
  took_last over =
      let y : Board = took_due x in
      let l : records_left y ≡ [] = over_left y over in
      let b : replay_state (due x) y ≡ rebuilt y es = over_rebuilt (due x) y es took_state l (all ∙ sym took_point) in
      record {
        number = sym (took_number x) ∙ over_number (due x) y es took_state l ∙ took_point ∙ sym all;
        since = over_since (due x) y es took_state l;
        state = b ∙ rebuilt_same x y took_area es es refl;
      }

  pub took_below : replay_over (took_due x) ≡ false → x.working.number < length es
  took_below going =
      let y : Board = took_due x in
      let g : (r : Record) × (rs : List Record) × (records_left y ≡ r ∷ rs) = going_left y going in
      let c : count_sum (records_left y) ≡ g.0.count + count_sum g.1 = left_counts y g.0 g.1 g.2 in
      let l : y.working.since < g.0.count = took_later es x v g.0 g.1 g.2 in
      omega (arith, took_state.rest, took_point, took_number x)

  pub repeated : (a : Access) → replay_over (took_due x) ≡ false → (e : HistoryEntry) → get_elem? es x.working.number ≡ some e → e.access ≡ a
      → Repeated a x es e
  unfolding Accepts replayed
  repeated a going e named same =
      let y : Board = took_due x in
      let ps : List Record = due x in
      let g : (r : Record) × (rs : List Record) × (records_left y ≡ r ∷ rs) = going_left y going in
      let l : y.working.since < g.0.count = took_later es x v g.0 g.1 g.2 in
      let n : get_elem? es y.working.number ≡ some e = rw (took_number x) named in
      let k : Accepts (replay_state ps y) (Made e) = entry_accepts y g.0 g.1 g.2 ps es took_state l e n in
      record {
        right = rw same at k.1;
        bytes = rw same at k.2;
        after = used_up_all_used (on_working (accessed a) y) es (accessed_replays y g.0 g.1 g.2 ps es took_state l e n a same);
      }
