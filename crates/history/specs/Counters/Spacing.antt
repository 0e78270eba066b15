-- The order of a board's records: gots that go together are followed by the access that they were for, so a record behind them has counted at least that one;
-- and a replay waits for its next record. Each step of a board keeps this, but for the steps between a got and its access. Assumes nothing.
use Rattle.std.specs.Prelude.{◌≡◌, refl, ◌≢◌, ◌⊎◌, ℕ, zero, suc, ◌+◌, ◌≤◌, ◌<◌, Bool, true, false, drop}
use Rattle.std.proofs.Common.{sym, ◌∙◌, subst, inl, inr, arith}
use mathlib.Core.List.{List, [], ◌∷◌, ◌++◌, append_assoc, append-nil}
use Rattle.types.specs.declared.CopyOrOwn.{CopyOrOwn}
use Rattle.types.specs.declared.Kind.{Kind}
use Rattle.types.specs.declared.Kind.TheVariants.{Got}
use Rattle.types.specs.declared.Record.{Record}
use Rattle.types.specs.declared.State.TheVariants.{Up, Replaying}
use Rattle.model.specs.Definitions.Bank.{Board, on_working}
use Rattle.model.specs.Definitions.WellFormed.{is_got}
use Rattle.model.specs.Definitions.Steps.{powered_off, appended, recorded, stored_record, stored_selector, rested_working, Access, accessed}
use Rattle.model.specs.Definitions.Replay.{loaded, records_left, used, use_up, used_up, gots_due, due, took_got, took_due, replayed}
use Rattle.model.proofs.Laws.Logic.{by_eq, clash}
use Rattle.model.proofs.Laws.Codes.Order.{never}
use Rattle.model.proofs.Laws.Runs.Stores.{Flushed, flushed_stored_record}
use Rattle.model.proofs.Laws.Keeps.Clauses.{up_not_down, up_not_replaying, down_not_replaying}
use Rattle.history.specs.Invariant.{NextWaits}
use Rattle.model.specs.History.RecoveryStatement.{SameCounters}
use Rattle.model.specs.Clauses.{records_of}
use Rattle.history.specs.Replaying.{used_left, used_up_log}
use Rattle.history.specs.Repeating.{taken_by, EntryNext, gots_due_cases, due_nothing, took_none, took_first_lem, left_got, took_stable, took_log}
use Rattle.history.specs.Counters.{use_up_cases, quiet_left}

-- ==== records

-- the count of the first record, or what is counted behind the last
unfoldable pub next_count : List Record → ℕ → ℕ
next_count [] n = n
next_count (r ∷ rs) n = r.count

-- whether a got is next
unfoldable pub next_got : List Record → Bool
next_got [] = false
next_got (r ∷ rs) = is_got r.kind

-- behind every got stands a got, or at least one access is counted; n is counted behind the last record
unfoldable pub Spaced : List Record → ℕ → Type 0
Spaced [] n = Unit
Spaced (r ∷ rs) n = (is_got r.kind ≡ true → (next_got rs ≡ true) ⊎ (0 < next_count rs n)) × Spaced rs n

next_count_more : (rs : List Record) (m n : ℕ) → (0 < m → 0 < n) → 0 < next_count rs m → 0 < next_count rs n
unfolding next_count
next_count_more [] m n f h = f h
next_count_more (r ∷ rs) m n f h = h

pub spaced_more : (rs : List Record) (m n : ℕ) → (0 < m → 0 < n) → Spaced rs m → Spaced rs n
unfolding Spaced
spaced_more [] m n f h = tt
spaced_more (r ∷ rs) m n f h =
    (λ g. elim (h.0 g) [ inl i ↦ inl i | inr i ↦ inr (next_count_more rs m n f i) ], spaced_more rs m n f h.1)

next_count_one : (rs : List Record) (r : Record) (n : ℕ) → next_count (rs ++ (r ∷ [])) n ≡ next_count rs r.count
unfolding next_count
next_count_one [] r n = refl
next_count_one (q ∷ rs) r n = refl

next_got_one : (rs : List Record) (r : Record) → next_got rs ≡ true → next_got (rs ++ (r ∷ [])) ≡ true
unfolding next_got
next_got_one [] r h = clash h refl
next_got_one (q ∷ rs) r h = h

-- one record more
pub spaced_one : (rs : List Record) (r : Record) (n : ℕ) → Spaced rs r.count → (is_got r.kind ≡ true → 0 < n) → Spaced (rs ++ (r ∷ [])) n
unfolding Spaced next_count
spaced_one [] r n h g = (λ i. inr (g i), tt)
spaced_one (q ∷ rs) r n h g =
    (λ i. elim (h.0 i) [ inl j ↦ inl (next_got_one rs r j) | inr j ↦ inr (rw (next_count_one rs r n) j) ], spaced_one rs r n h.1 g)

-- a got more, whatever its count: those before it end in a got, or what is counted behind them is counted by it
next_either : (rs : List Record) (r : Record) (m : ℕ) → is_got r.kind ≡ true → (next_got rs ≡ true) ⊎ (0 < next_count rs m)
    → (next_got (rs ++ (r ∷ [])) ≡ true) ⊎ (0 < next_count (rs ++ (r ∷ [])) 1)
unfolding next_got next_count
next_either [] r m g h = inl g
next_either (q ∷ rs) r m g h = h

pub spaced_got : (rs : List Record) (r : Record) (m : ℕ) → Spaced rs m → is_got r.kind ≡ true → Spaced (rs ++ (r ∷ [])) 1
unfolding Spaced next_count
spaced_got [] r m h g = (λ i. inr (omega arith), tt)
spaced_got (q ∷ rs) r m h g = (λ i. next_either rs r m g (h.0 i), spaced_got rs r m h.1 g)

next_left : (xs ys : List Record) (n : ℕ) → (next_got (xs ++ ys) ≡ true) ⊎ (0 < next_count (xs ++ ys) n) → (next_got xs ≡ true) ⊎ (0 < next_count xs 1)
unfolding next_got next_count
next_left [] ys n h = inr (omega arith)
next_left (x ∷ xs) ys n h = h

-- the first records of a list, with the last of them left open
pub spaced_left : (xs ys : List Record) (n : ℕ) → Spaced (xs ++ ys) n → Spaced xs 1
unfolding Spaced
spaced_left [] ys n h = tt
spaced_left (x ∷ xs) ys n h = (λ g. next_left xs ys n (h.0 g), spaced_left xs ys n h.1)

pub spaced_drop : (k : ℕ) (rs : List Record) (n : ℕ) → Spaced rs n → Spaced (drop k rs) n
unfolding Spaced
spaced_drop zero rs n h = h
spaced_drop (suc k) [] n h = h
spaced_drop (suc k) (r ∷ rs) n h = spaced_drop k rs n h.1

-- ==== a board

-- `Pending` says that an access is still to come: between a got and its access, and where a replay is over but not ended
pub record Orderly (Pending : Type 0) (x : Board) : Type 0 where
  pub spaced : Spaced (records_of x) 1
  pub up : (Pending → ⊥) → x.state ≡ Up → Spaced (records_of x) x.working.since
  pub waits : (Pending → ⊥) → x.state ≡ Replaying → NextWaits (records_left x) x.working.since

-- less is asked where more is pending
pub orderly_less : {P Q : Type 0} {x : Board} → (P → Q) → Orderly P x → Orderly Q x
orderly_less f h = record { spaced = h.spaced; up = λ n. h.up (λ p. n (f p)); waits = λ n. h.waits (λ p. n (f p)) }

-- an up board
up_orderly : {P : Type 0} {x : Board} → x.state ≡ Up → Spaced (records_of x) 1 → ((P → ⊥) → Spaced (records_of x) x.working.since) → Orderly P x
up_orderly u s f = record { spaced = s; up = λ n i. f n; waits = λ n i. up_not_replaying u i }

-- a record made where no access is pending; after a got one is
module _ (kind : Kind) (peer : ℕ) (bytes : List ℕ) (x : Board) (u : x.state ≡ Up) (h : Orderly ⊥ x) where
  recorded_spaced : (n : ℕ) → (is_got kind ≡ true → 0 < n) → Spaced (records_of (on_working (recorded kind peer bytes) x)) n
  unfolding records_of on_working recorded appended
  recorded_spaced n g =
      let r : Record = record { count = x.working.since; kind = kind; peer = peer; bytes = bytes } in
      rw (← append_assoc x.stable.selected.log x.working.log (r ∷ [])) (spaced_one (records_of x) r n (h.up (λ p. p) u) g)

  pub recorded_orderly : {P : Type 0} → is_got kind ≡ false → Orderly P (on_working (recorded kind peer bytes) x)
  unfolding on_working recorded
  recorded_orderly g = up_orderly u (recorded_spaced 1 (λ i. omega arith)) (λ n. recorded_spaced 0 (λ i. clash i g))

-- a got made where an access is pending joins the gots before it
pub joined_pending : {P Q : Type 0} (kind : Kind) (peer : ℕ) (bytes : List ℕ) (x : Board) → x.state ≡ Up → is_got kind ≡ true → Q → Orderly P x
    → Orderly Q (on_working (recorded kind peer bytes) x)
unfolding records_of on_working recorded appended
joined_pending kind peer bytes x u g q h =
    let r : Record = record { count = x.working.since; kind = kind; peer = peer; bytes = bytes } in
    let s : Spaced (records_of x ++ (r ∷ [])) 1 = spaced_got (records_of x) r 1 h.spaced g in
    up_orderly u
    (rw (← append_assoc x.stable.selected.log x.working.log (r ∷ [])) s)
    (λ n. absurd (n q))

-- a record stored stays in its place among the board's records
pub stored_record_orderly : {P : Type 0} (x : Board) → x.state ≡ Up → Orderly P x → Orderly P (stored_record x)
stored_record_orderly x u h =
    let f : Flushed x (stored_record x) = flushed_stored_record x in
    up_orderly (f.state ∙ u) (rw f.records h.spaced) (λ n. rw (f.records, f.since) (h.up n u))

-- a checkpoint leaves no record
pub selected_orderly : {P : Type 0} (x : Board) → x.state ≡ Up → x.stable.spare.log ≡ [] → Orderly P (on_working rested_working (stored_selector x))
unfolding records_of on_working rested_working stored_selector Spaced
selected_orderly x u r = up_orderly u (rw r tt) (λ n. rw r tt)

-- a power loss leaves the stored ones
pub powered_off_orderly : {P Q : Type 0} (x : Board) → Orderly P x → Orderly Q (powered_off x)
unfolding records_of powered_off
powered_off_orderly x h =
    let rs : List Record = x.stable.selected.log in
    record {
      spaced = rw (append-nil rs) (spaced_left rs x.working.log 1 h.spaced);
      up = λ n i. up_not_down i refl;
      waits = λ n i. down_not_replaying refl i;
    }

-- an access ends what was pending
pub accessed_orderly : {P Q : Type 0} (a : Access) (x : Board) → x.state ≡ Up → Orderly P x → Orderly Q (on_working (accessed a) x)
unfolding records_of on_working accessed
accessed_orderly a x u h =
    up_orderly u h.spaced (λ n. spaced_more (records_of x) 1 (x.working.since + 1) (λ i. omega arith) h.spaced)

-- the records stay
pub same_pending : {P Q : Type 0} {x y : Board} → records_of y ≡ records_of x → Q → Orderly P x → Orderly Q y
same_pending e q h = record { spaced = rw e h.spaced; up = λ n. absurd (n q); waits = λ n. absurd (n q) }

pub quiet_orderly : {P : Type 0} {x y : Board} → SameCounters x y → Orderly P x → Orderly P y
unfolding records_of
quiet_orderly {P} {x} {y} s h =
    let e : records_of y ≡ records_of x = rw (s.selected, s.volatile) in
    record {
      spaced = rw e h.spaced;
      up = λ n i. rw (e, s.since) (h.up n (sym s.state ∙ i));
      waits = λ n i. rw (quiet_left s, s.since) (h.waits n (sym s.state ∙ i));
    }

-- ==== a replay

-- since is not past the next record
abbrev NotPast : Board → Type 0
NotPast x = (r : Record) (rs : List Record) → records_left x ≡ r ∷ rs → x.working.since ≤ r.count

-- where a record is left, the replay waits for it
abbrev Waiting : Board → Type 0
Waiting x = records_left x ≢ [] → NextWaits (records_left x) x.working.since

waiting_idle : (r : Record) (rs : List Record) (since : ℕ) → since ≤ r.count
    → (r.count ≢ since) ⊎ ((r.count ≡ since) × (is_got r.kind ≡ true)) → NextWaits (r ∷ rs) since
unfolding NextWaits
waiting_idle r rs since h (inl n) = inl (omega arith)
waiting_idle r rs since h (inr g) = inr (sym g.0, g.1)

use_up_waits : (rs : List Record) (x : Board) → records_left x ≡ rs → NotPast x → Waiting (on_working (use_up rs) x)
unfolding on_working use_up used
use_up_waits [] x left f = λ n. absurd (n left)
use_up_waits (r ∷ rs) x left f =
    use_up_cases (λ v. Waiting (record { state = x.state; fuse = x.fuse; working = v; stable = x.stable })) r rs x.working
    (λ h n. rw left (waiting_idle r rs x.working.since (f r rs left) h))
    (λ fs now. use_up_waits rs (on_working (used fs) x) (used_left x r rs left fs) (λ q qs e. omega arith))

used_up_waits : (x : Board) → NotPast x → Waiting (used_up x)
unfolding used_up
used_up_waits x f = use_up_waits (records_left x) x refl f

-- a board whose records are used up
used_up_orderly : (x : Board) → x.state ≡ Replaying → Spaced (records_of x) 1 → NotPast x → Orderly (records_left (used_up x) ≡ []) (used_up x)
unfolding records_of used_up on_working
used_up_orderly x u s f =
    record {
      spaced = rw (used_up_log x) s;
      up = λ n i. up_not_replaying i u;
      waits = λ n i. used_up_waits x f n;
    }

-- after a restart
pub restarted_orderly : {P : Type 0} (x : Board) → Orderly P x → Orderly (records_left (used_up (loaded x)) ≡ []) (used_up (loaded x))
unfolding records_of loaded
restarted_orderly x h = used_up_orderly (loaded x) refl h.spaced (λ r rs e. omega arith)

pub left_spaced : {P : Type 0} (x : Board) → Orderly P x → Spaced (records_left x) 1
unfolding records_of records_left
left_spaced x h =
    let rs : List Record = x.stable.selected.log in
    spaced_drop x.working.place rs 1 (spaced_left rs x.working.log 1 h.spaced)

got_is : (q : Record) (g : CopyOrOwn) (p : ℕ) → q.kind ≡ Got g p → is_got q.kind ≡ true
unfolding is_got
got_is q g p k = rw k

-- what comes before the records that are left: a got that was just taken, behind which a got stands or an access is counted; or a replay that waits
pub data Before (qs : List Record) (since : ℕ) : Type 0 where
  just_took : since ≡ 0 → (next_got qs ≡ true) ⊎ (0 < next_count qs 1) → Before qs since
  waited : NextWaits qs since → Before qs since

-- a record that doesn't go with the gots before it, or that a replay waits for
waits_ahead : (q : Record) (qs : List Record) (since : ℕ) → (q.count ≡ since → is_got q.kind ≡ false) → Before (q ∷ qs) since → since < q.count
unfolding NextWaits next_got next_count
waits_ahead q qs since late (just_took z (inl g)) = by_eq q.count since (λ e. clash g (late e)) (λ ne. omega arith)
waits_ahead q qs since late (just_took z (inr n)) = omega arith
waits_ahead q qs since late (waited (inl l)) = l
waits_ahead q qs since late (waited (inr g)) = clash g.1 (late (sym g.0))

-- where the due gots are taken, if any were, an access comes before the next record
ahead_from : (qs : List Record) (x : Board) → records_left x ≡ qs → Spaced qs 1 → Before qs x.working.since
    → EntryNext (taken_by (gots_due qs x.working.since) x)
unfolding took_got used on_working Spaced
ahead_from [] x left s before = rw (due_nothing x.working.since, took_none x [] refl) (λ r rs l. let z : [] ≡ r ∷ rs = sym left ∙ l in never (cc))
ahead_from (q ∷ qs) x left s before =
    gots_due_cases q qs x.working.since
    (λ e late.
    subst EntryNext (sym (took_none x _ e))
    (λ r rs l.
    let here : q ∷ qs ≡ r ∷ rs = sym left ∙ l in
    let head : q ≡ r = cc in
    rw (← head) (waits_ahead q qs x.working.since late before)))
    (λ g p k now e.
    subst EntryNext (sym (took_first_lem x _ (gots_due qs 0) q e))
    (ahead_from qs (on_working (took_got q) x) (left_got q qs x left) s.1 (just_took refl (s.0 (got_is q g p k)))))

took_ahead : (x : Board) → x.state ≡ Replaying → Orderly ⊥ x → EntryNext (took_due x)
unfolding due took_due
took_ahead x u h = ahead_from (records_left x) x refl (left_spaced x h) (waited (h.waits (λ p. p) u))

-- the access that follows: the records that it makes due are used up
pub replayed_orderly : (a : Access) (x : Board) → x.state ≡ Replaying → Orderly ⊥ x → (took_due x).state ≡ Replaying
    → Orderly (records_left (replayed a (took_due x)) ≡ []) (replayed a (took_due x))
unfolding replayed records_of on_working accessed records_left
replayed_orderly a x u h v =
    used_up_orderly (on_working (accessed a) (took_due x)) v
    (rw (took_stable x, took_log x) h.spaced)
    (λ r rs e. omega (arith, took_ahead x u h r rs e))
