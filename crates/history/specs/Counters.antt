-- What a board's counters say of each other, and that every change of RecoveryStatement keeps it: the access number is the recovery point and what was
-- counted after it. It needs neither the history nor its premise. Assumes nothing.
pub mod Spacing
pub mod BoardsInProgress
pub mod Steps
pub mod Moves
use Rattle.std.specs.Prelude.{◌≡◌, refl, ◌≢◌, ◌⊎◌, ℕ, ◌+◌, Bool, true, false, List, [], ◌∷◌, length, set, eqb}
use Rattle.std.proofs.Common.{sym, ap, subst, ◌∙◌, inl, inr, arith, eqb-true}
use Rattle.std.proofs.lemmas.Bool.{eqb-false}
use Rattle.types.specs.declared.Frame.{Frame}
use Rattle.types.specs.declared.Kind.{Kind}
use Rattle.types.specs.declared.Record.{Record}
use Rattle.types.specs.declared.State.TheVariants.{Up, Down, Replaying}
use Rattle.model.specs.Definitions.Bank.{Working, Board, empty_frame, on_working}
use Rattle.model.specs.Definitions.WellFormed.{is_got}
use Rattle.model.specs.Definitions.Steps.{powered_off, appended, recorded, moved_record, stored_record, stored_selector, rested_working, Access, accessed}
use Rattle.model.specs.Definitions.Replay.{loaded, records_left, used, use_up, used_up, took_got, took_due, replay_over, settled, replayed, count_sum}
use Rattle.model.specs.Definitions.Replay.{recovery_point}
use Rattle.model.proofs.Laws.Logic.{by_bool}
use Rattle.model.proofs.Laws.Boards.{stored_record_cases}
use Rattle.model.proofs.Laws.Keeps.Clauses.{up_not_down, up_not_replaying, down_not_replaying}
use Rattle.model.specs.History.RecoveryStatement.{SameCounters, Change, Made, Stored, Selected, Lost, Accessed, Loaded, Took, Replayed, Settled, Quiet}
use Rattle.history.specs.Traces.{count_sum_one}
use Rattle.history.specs.Replaying.{left_counts, used_left, used_up_number, used_up_log, over_left, going_left}
use Rattle.history.specs.Repeating.{took_induct}
use Rattle.model.proofs.Laws.Codes.Tests.{by_kind}

-- ==== the counters of a board

-- Up: what was made since the recovery point is in the volatile log or counted by since. Replaying: what is left to repeat leads to the recovery point.
pub record Balanced (x : Board) : Type 0 where
  pub up : x.state ≡ Up → x.working.number ≡ recovery_point x + count_sum x.working.log + x.working.since
  pub replaying : x.state ≡ Replaying → x.working.number + count_sum (records_left x) ≡ recovery_point x + x.working.since
  -- a replay with no record left, before its end
  pub over : x.state ≡ Replaying → records_left x ≡ [] → x.working.since ≡ 0
  -- a board that is not up has no volatile record
  pub idle : x.state ≢ Up → x.working.log ≡ []

-- a board that is up
up_balanced : {x : Board} → x.state ≡ Up → x.working.number ≡ recovery_point x + count_sum x.working.log + x.working.since → Balanced x
up_balanced u e =
    record { up = λ i. e; replaying = λ i. up_not_replaying u i; over = λ i. up_not_replaying u i; idle = λ n. absurd (n u) }

-- ---- records used up

-- board y is x with records used up
record Using (x y : Board) : Type 0 where
  counts : count_sum (records_left y) + x.working.since ≡ count_sum (records_left x) + y.working.since
  over : (records_left x ≡ [] → x.working.since ≡ 0) → records_left y ≡ [] → y.working.since ≡ 0

using_refl : (x : Board) → Using x x
using_refl x = record { counts = refl; over = λ h. h }

-- the next record is used, whatever it does to the frames, and then others
used_using : (x : Board) (r : Record) (rs : List Record) (fs : List Frame) (y : Board) → records_left x ≡ r ∷ rs → r.count ≡ x.working.since
    → Using (on_working (used fs) x) y → Using x y
unfolding on_working used
used_using x r rs fs y left now h =
    record {
      counts = omega (arith, h.counts, left_counts x r rs left, ap count_sum (used_left x r rs left fs));
      over = λ e. h.over (λ i. refl);
    }

-- the next record is used if its count is since and it is no got
pub use_up_cases : (P : Working → Type 0) (r : Record) (rs : List Record) (w : Working)
    → ((r.count ≢ w.since) ⊎ ((r.count ≡ w.since) × (is_got r.kind ≡ true)) → P w)
    → ((fs : List Frame) → r.count ≡ w.since → P (use_up rs (used fs w))) → P (use_up (r ∷ rs) w)
unfolding use_up is_got
use_up_cases P r rs w idle go =
    by_bool (eqb r.count w.since)
    (λ t.
    let now : r.count ≡ w.since = eqb-true r.count w.since t in
    by_kind r.kind
    (λ g p k. let e : w ≡ use_up (r ∷ rs) w = cc in subst P e (idle (inr (now, cc))))
    (λ p k. let e : use_up rs (used w.frames w) ≡ use_up (r ∷ rs) w = cc in subst P e (go w.frames now))
    (λ p k.
    let fs : List Frame = set w.frames p empty_frame in
    let e : use_up rs (used fs w) ≡ use_up (r ∷ rs) w = cc in
    subst P e (go fs now)))
    (λ t. let e : w ≡ use_up (r ∷ rs) w = cc in subst P e (idle (inl (eqb-false r.count w.since t))))

use_up_using : (rs : List Record) (x : Board) → records_left x ≡ rs → Using x (on_working (use_up rs) x)
unfolding on_working use_up
use_up_using [] x left = using_refl x
use_up_using (r ∷ rs) x left =
    use_up_cases (λ v. Using x (record { state = x.state; fuse = x.fuse; working = v; stable = x.stable })) r rs x.working
    (λ h. using_refl x)
    (λ fs now. used_using x r rs fs _ left now (use_up_using rs (on_working (used fs) x) (used_left x r rs left fs)))

used_up_using : (x : Board) → Using x (used_up x)
unfolding used_up
used_up_using x = use_up_using (records_left x) x refl

-- ---- each change

recorded_balanced : (kind : Kind) (peer : ℕ) (bytes : List ℕ) (x : Board) → x.state ≡ Up → Balanced x → Balanced (on_working (recorded kind peer bytes) x)
unfolding on_working recorded appended recovery_point
recorded_balanced kind peer bytes x u h =
    up_balanced u (omega (arith, h.up u, count_sum_one x.working.log (record { count = x.working.since; kind = kind; peer = peer; bytes = bytes })))

stored_record_balanced : (x : Board) → x.state ≡ Up → Balanced x → Balanced (stored_record x)
unfolding moved_record appended recovery_point count_sum
stored_record_balanced x u h =
    stored_record_cases Balanced x
    (λ e. h)
    (λ r rs e. up_balanced u (omega (arith, h.up u, ap count_sum e, count_sum_one x.stable.selected.log r)))

-- whatever was counted before
selected_balanced : (x : Board) → x.state ≡ Up → x.stable.spare.number ≡ x.working.number → x.stable.spare.log ≡ []
    → Balanced (on_working rested_working (stored_selector x))
unfolding on_working rested_working stored_selector recovery_point count_sum
selected_balanced x u n r = up_balanced u (omega (arith, ap count_sum r))

powered_off_balanced : (x : Board) → Balanced (powered_off x)
unfolding powered_off
powered_off_balanced x =
    record { up = λ i. up_not_down i refl; replaying = λ i. down_not_replaying refl i; over = λ i. down_not_replaying refl i; idle = λ n. refl }

accessed_balanced : (a : Access) (x : Board) → x.state ≡ Up → Balanced x → Balanced (on_working (accessed a) x)
unfolding on_working accessed recovery_point
accessed_balanced a x u h = up_balanced u (omega (arith, h.up u))

loaded_balanced : (x : Board) → x.state ≡ Down → Balanced x → Balanced (loaded x)
unfolding loaded records_left recovery_point
loaded_balanced x u h =
    record {
      up = λ i. up_not_replaying i refl;
      replaying = λ i. omega arith;
      over = λ i e. refl;
      idle = λ n. h.idle (λ i. up_not_down i u);
    }

-- one record used by a replaying board
used_balanced : (x : Board) (r : Record) (rs : List Record) (fs : List Frame) → x.state ≡ Replaying → records_left x ≡ r ∷ rs
    → r.count ≡ x.working.since → Balanced x → Balanced (on_working (used fs) x)
unfolding on_working used recovery_point
used_balanced x r rs fs u left now h =
    record {
      up = λ i. up_not_replaying i u;
      replaying = λ i. omega (arith, h.replaying u, left_counts x r rs left, ap count_sum (used_left x r rs left fs));
      over = λ i e. refl;
      idle = h.idle;
    }

-- all that are due used
used_up_balanced : (x : Board) → x.state ≡ Replaying → Balanced x → Balanced (used_up x)
unfolding used_up on_working recovery_point
used_up_balanced x u h =
    let s : Using x (used_up x) = used_up_using x in
    record {
      up = λ i. up_not_replaying i u;
      replaying = λ i. omega (arith, h.replaying u, s.counts, used_up_number x);
      over = λ i. s.over (h.over u);
      idle = λ n. rw (used_up_log x) (h.idle n);
    }

restarted_balanced : (x : Board) → x.state ≡ Down → Balanced x → Balanced (used_up (loaded x))
unfolding loaded
restarted_balanced x u h = used_up_balanced (loaded x) refl (loaded_balanced x u h)

took_due_balanced : (x : Board) → x.state ≡ Replaying → Balanced x → Balanced (took_due x)
unfolding took_got on_working
took_due_balanced x u h =
    (took_induct (λ y. (y.state ≡ Replaying) × Balanced y)
    (λ y r rs g p left now k q. (q.0, used_balanced y r rs _ q.0 left now q.1))
    x (u, h)).1

replayed_balanced : (a : Access) (x : Board) → x.state ≡ Replaying → replay_over x ≡ false → Balanced x → Balanced (replayed a x)
unfolding replayed on_working accessed records_left recovery_point
replayed_balanced a x u o h =
    let g : (r : Record) × (rs : List Record) × (records_left x ≡ r ∷ rs) = going_left x o in
    used_up_balanced (on_working (accessed a) x) u
    (record {
      up = λ i. up_not_replaying i u;
      replaying = λ i. omega (arith, h.replaying u);
      over = λ i e. absurd (omega (arith, ap length (sym g.2 ∙ e)));
      idle = h.idle;
    })

settled_balanced : (owned : ℕ → Bool) (x : Board) → x.state ≡ Replaying → replay_over x ≡ true → Balanced x → Balanced (settled owned x)
unfolding settled recovery_point count_sum
settled_balanced owned x u o h =
    let l : records_left x ≡ [] = over_left x o in
    up_balanced refl (omega (arith, h.replaying u, h.over u l, ap count_sum l, ap count_sum (h.idle (λ i. up_not_replaying i u))))

pub quiet_left : {x y : Board} → SameCounters x y → records_left y ≡ records_left x
unfolding records_left
quiet_left s = rw (s.place, s.selected)

quiet_balanced : {x y : Board} → SameCounters x y → Balanced x → Balanced y
unfolding recovery_point
quiet_balanced {x} {y} s h =
    record {
      up = λ i. rw (s.number, s.since, s.volatile, s.selected) (h.up (sym s.state ∙ i));
      replaying = λ i. rw (quiet_left s, s.number, s.since, s.selected) (h.replaying (sym s.state ∙ i));
      over = λ i e. s.since ∙ h.over (sym s.state ∙ i) (sym (quiet_left s) ∙ e);
      idle = λ n. s.volatile ∙ h.idle (λ i. n (s.state ∙ i));
    }

pub change_balanced : {x y : Board} → Change x y → Balanced x → Balanced y
change_balanced {x} (Made kind peer bytes u e) h = rw e (recorded_balanced kind peer bytes x u h)
change_balanced {x} (Stored u e) h = rw e (stored_record_balanced x u h)
change_balanced {x} (Selected u n r e) h = rw e (selected_balanced x u n r)
change_balanced {x} (Lost e) h = rw e (powered_off_balanced x)
change_balanced {x} (Accessed a u e) h = rw e (accessed_balanced a x u h)
change_balanced {x} (Loaded u e) h = rw e (restarted_balanced x u h)
change_balanced {x} (Took u e) h = rw e (took_due_balanced x u h)
change_balanced {x} (Replayed a u o e) h = rw e (replayed_balanced a x u o h)
change_balanced {x} (Settled owned u o e) h = rw e (settled_balanced owned x u o h)
change_balanced (Quiet s) h = quiet_balanced s h
