-- A replay counts: while it goes on accesses are missing, or the last record is a got that is due; and it ends where none is missing. Of one board, from its
-- counters and the order of its records. Assumes nothing.
use Rattle.std.specs.Prelude.{◌≡◌, refl, ◌≢◌, ℕ, zero, suc, ◌+◌, ◌≤◌, true, drop, set, eqb}
use Rattle.std.proofs.Math.Path.{sym, ap}
use Rattle.std.proofs.Common.{◌∙◌, inl, inr, arith, drop_of_length-le}
use Rattle.std.proofs.Math.Bool.{false}
use mathlib.Core.List.{List, [], ◌∷◌, append-nil}
use Rattle.types.specs.declared.Frame.{Frame}
use Rattle.types.specs.declared.Record.{Record}
use Rattle.types.specs.declared.State.TheVariants.{Down, Replaying}
use Rattle.model.specs.Definitions.Bank.{Working, Stable, Board, empty_frame, on_working}
use Rattle.model.specs.Definitions.WellFormed.{is_got}
use Rattle.model.specs.Definitions.Steps.{Access, accessed}
use Rattle.model.specs.Definitions.Replay.{loaded, records_left, used, use_up, used_up, took_due, replay_over, replayed, count_sum, recovery_point}
use Rattle.model.proofs.Laws.Logic.{by_bool}
use Rattle.model.specs.Laws.Codes.Statement.{Together, all, got, Due}
use Rattle.model.proofs.Laws.Codes.Order.{never}
use Rattle.history.specs.Invariant.{NextWaits}
use Rattle.model.specs.History.RecoveryStatement.{Took, Replayed, Loaded}
use Rattle.history.specs.Logging.{recovery_point_same}
use Rattle.model.proofs.Laws.Codes.Tests.{by_kind}
use Rattle.history.specs.Replaying.{left_counts, used_left, used_up_number, over_left, going_left}
use Rattle.history.specs.Repeating.{took_stable, replayed_number, replayed_stable}
use Rattle.history.specs.Counters.{Balanced, change_balanced}
use Rattle.history.specs.Counters.Spacing.{next_count, next_got, Spaced, left_spaced}
use Rattle.model.proofs.Laws.Boards.{took_due_state}
use Rattle.history.specs.Recovery.{CountedBoard, replay_over_lem}
use Rattle.model.specs.History.ReplayEndsStatement.{last_is_got, ends_in_got}

-- ==== the last record

last_rest : (r q : Record) (rs : List Record) → last_is_got (r ∷ q ∷ rs) ≡ last_is_got (q ∷ rs)
unfolding last_is_got
last_rest r q rs = refl

-- it is the last of those that are left, if some are
last_drop : (n : ℕ) (rs : List Record) (r : Record) (qs : List Record) → drop n rs ≡ r ∷ qs → last_is_got rs ≡ last_is_got (r ∷ qs)
last_drop zero rs r qs e = ap last_is_got e
last_drop (suc n) [] r qs e = let z : ◌≡◌ {A = ℕ} 0 1 = cc in absurd (omega arith)
last_drop (suc n) (p ∷ []) r qs e = let z : ◌≡◌ {A = ℕ} 0 1 = cc (drop_of_length-le {A = Record} [] {i = n} (omega arith)) in absurd (omega arith)
last_drop (suc n) (p ∷ q ∷ rs) r qs e = last_rest p q rs ∙ last_drop n (q ∷ rs) r qs e

module _ (x : Board) (r : Record) (rs : List Record) (left : records_left x ≡ r ∷ rs) where
  left_ends : ends_in_got x ≡ last_is_got (r ∷ rs)
  unfolding ends_in_got records_left
  left_ends = last_drop x.working.place x.stable.selected.log r rs left

-- ==== while it goes on

-- gots without an access between them: the last record is a got
gots_last : (r : Record) (rs : List Record) → Spaced (r ∷ rs) 1 → is_got r.kind ≡ true → count_sum rs ≡ 0 → last_is_got (r ∷ rs) ≡ true
unfolding Spaced next_count next_got last_is_got count_sum
gots_last r [] s g z = g
gots_last r (q ∷ qs) s g z =
    elim (s.0 g) [
      | inl n ↦ gots_last q qs s.1 n (omega arith)
      | inr n ↦ absurd (omega arith)
    ]

-- accesses are missing, or one that needs the last record
pub record Standing (x : Board) : Type 0 where
  pub below : x.working.number ≤ recovery_point x
  pub last : x.working.number ≡ recovery_point x → ends_in_got x ≡ true

standing_due : (x : Board) (r : Record) (rs : List Record) → CountedBoard x → x.state ≡ Replaying → records_left x ≡ r ∷ rs → x.working.since ≡ r.count
    → is_got r.kind ≡ true → Standing x
standing_due x r rs h u left now isgot =
    record {
      below = omega (arith, h.balanced.replaying u, left_counts x r rs left);
      last = λ e.
          left_ends x r rs left
          ∙ gots_last r rs (rw left at (left_spaced x h.orderly)) isgot (omega (arith, e, h.balanced.replaying u, left_counts x r rs left));
    }

standing_of : (x : Board) (rs : List Record) → CountedBoard x → x.state ≡ Replaying → records_left x ≡ rs → NextWaits rs x.working.since → Standing x
unfolding NextWaits
standing_of x [] h u left w = absurd w
standing_of x (r ∷ rs) h u left (inl l) =
    record {
      below = omega (arith, h.balanced.replaying u, left_counts x r rs left);
      last = λ e. absurd (omega (arith, h.balanced.replaying u, left_counts x r rs left));
    }
standing_of x (r ∷ rs) h u left (inr g) = standing_due x r rs h u left g.0 g.1

pub standing : (x : Board) → CountedBoard x → x.state ≡ Replaying → Standing x
standing x h u = standing_of x (records_left x) h u refl (h.orderly.waits (λ p. p) u)

-- gots that go together count nothing but what came before the first
together_counts : (n : ℕ) (rs : List Record) → Together n rs [] → rs ≢ [] → (count_sum rs ≡ n) × (last_is_got rs ≡ true)
unfolding count_sum last_is_got is_got
together_counts n [] (all d) some = absurd (some refl)
together_counts n (r ∷ []) (got i c t) some = (omega (arith, c), rw i.2)
together_counts n (r ∷ q ∷ rs) (got i c t) some =
    let z : (count_sum (q ∷ rs) ≡ 0) × (last_is_got (q ∷ rs) ≡ true) = together_counts 0 (q ∷ rs) t (λ e. never (cc)) in
    (omega (arith, c, z.0), z.1)

-- the last records are gots that are due: no access is missing but the one that needs them
pub due_last : (x : Board) (r : Record) (rs : List Record) → CountedBoard x → x.state ≡ Replaying → Due x (r ∷ rs) []
    → (x.working.number ≡ recovery_point x) × (ends_in_got x ≡ true)
unfolding records_left
due_last x r rs h u d =
    let left : records_left x ≡ r ∷ rs = d.next ∙ append-nil (r ∷ rs) in
    let z : (count_sum (r ∷ rs) ≡ x.working.since) × (last_is_got (r ∷ rs) ≡ true) =
    together_counts x.working.since (r ∷ rs) d.group (λ e. never (cc)) in
    (omega (arith, h.balanced.replaying u, ap count_sum left, z.0), left_ends x r rs left ∙ z.1)

-- ==== where no record is left

last_cons : (r : Record) (rs : List Record) → is_got r.kind ≡ false → last_is_got rs ≡ false → last_is_got (r ∷ rs) ≡ false
unfolding last_is_got
last_cons r [] g h = g
last_cons r (q ∷ rs) g h = h

-- what is used up is no got
use_up_last : (rs : List Record) (x : Board) → records_left x ≡ rs → records_left (on_working (use_up rs) x) ≡ [] → last_is_got rs ≡ false
unfolding last_is_got use_up is_got on_working records_left
use_up_last [] x left e = refl
use_up_last (r ∷ rs) x left e =
    let w : Working = x.working in
    let left_with : Working → List Record = λ v. drop v.place x.stable.selected.log in
    let next : (fs : List Frame) → use_up (r ∷ rs) w ≡ use_up rs (used fs w) → is_got r.kind ≡ false → last_is_got (r ∷ rs) ≡ false =
    λ fs u g. last_cons r rs g (use_up_last rs (on_working (used fs) x) (used_left x r rs left fs) (ap left_with (sym u) ∙ e)) in
    let stays : use_up (r ∷ rs) w ≡ w → last_is_got (r ∷ rs) ≡ false =
    λ u. let z : ◌≡◌ {A = ℕ} 0 1 = cc (sym left ∙ ap left_with (sym u) ∙ e) in absurd (omega arith) in
    by_bool (eqb r.count w.since)
    (λ t.
    by_kind r.kind
    (λ g p k. stays (cc))
    (λ p k. next w.frames (cc) (cc))
    (λ p k. next (set w.frames p empty_frame) (cc) (cc)))
    (λ t. stays (cc))

used_up_last : (x : Board) → replay_over (used_up x) ≡ true → last_is_got (records_left x) ≡ false
unfolding used_up
used_up_last x o = use_up_last (records_left x) x refl (over_left (used_up x) o)

-- ---- after an access

module _ (a : Access) (x : Board) (h : CountedBoard x) (u : x.state ≡ Replaying) (going : replay_over (took_due x) ≡ false)
    (over : replay_over (replayed a (took_due x)) ≡ true) where
  abbrev y : Board
  y = took_due x

  -- none is missing any more
  pub over_number : x.working.number + 1 ≡ recovery_point x
  unfolding replayed used_up on_working
  over_number =
      let v : y.state ≡ Replaying = took_due_state x ∙ u in
      let z : Board = replayed a y in
      let b : Balanced z = change_balanced (Replayed a v going refl) (change_balanced (Took u refl) h.balanced) in
      let p : recovery_point z ≡ recovery_point x = recovery_point_same x z (ap (λ (t : Stable). t.selected) (replayed_stable x a)) in
      sym (replayed_number x a) ∙ replay_over_lem z b v over ∙ p

  pub over_ends : ends_in_got x ≡ false
  unfolding ends_in_got replayed on_working accessed records_left
  over_ends =
      let g : (r : Record) × (rs : List Record) × (records_left y ≡ r ∷ rs) = going_left y going in
      let l : last_is_got (records_left y) ≡ false = used_up_last (on_working (accessed a) y) over in
      ap (λ (t : Stable). last_is_got t.selected.log) (sym (took_stable x))
      ∙ left_ends y g.0 g.1 g.2 ∙ ap last_is_got (sym g.2) ∙ l

-- ---- after a restart that uses up all records

pub restart_over : (x : Board) → CountedBoard x → x.state ≡ Down → replay_over (used_up (loaded x)) ≡ true
    → (x.stable.selected.number ≡ recovery_point x) × (ends_in_got x ≡ false)
unfolding ends_in_got used_up loaded on_working records_left
restart_over x h u o =
    let z : Board = used_up (loaded x) in
    let b : Balanced z = change_balanced (Loaded u refl) h.balanced in
    (sym (used_up_number (loaded x)) ∙ replay_over_lem z b refl o ∙ recovery_point_same x z refl, used_up_last (loaded x) o)
