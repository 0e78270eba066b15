-- Only an access raises a since, that of its own board, by one: whatever bounds every board's since bounds it after any step but that. So under a largest
-- since no since is above it, whatever is called. Assumes nothing.
use Rattle.std.proofs.Math.Path.{refl}
use Rattle.std.specs.Prelude.{◌≢◌, true, false, List, [], ◌∷◌, set, eqb}
use Prim.Native.Nat.{ℕ, ◌-◌, ◌≤◌, ◌<◌}
use native.Mathlib.Omega.{arith}
use Rattle.std.proofs.lemmas.Bool.{eqb-false}
use Rattle.std.proofs.Common.{eq-eqb, ne_eqb}
use Rattle.types.specs.declared.Frame.{Frame}
use Rattle.types.specs.declared.Kind.TheVariants.{Shown}
use Rattle.types.specs.declared.Record.{Record}
use Rattle.model.specs.Definitions.Parts.{zeros}
use Rattle.model.specs.Definitions.Layout.{page_size}
use Rattle.model.specs.Definitions.Bank.{Working, Board, Bank, no_board, empty_frame, board_at, on_working, on_spare}
use Rattle.model.specs.Definitions.Bank.{on_frames}
use Rattle.model.specs.Definitions.WellFormed.{is_replaying}
use Rattle.model.specs.Definitions.Steps.{Run, start, step, powered_off, with_fuse, burnt, recorded, note}
use Rattle.model.specs.Definitions.Steps.{stored_record}
use Rattle.model.specs.Definitions.Steps.{moved_record, flush, stored_frame, stored_head, stored_selector}
use Rattle.model.specs.Definitions.Steps.{rested_working, Access, accessed, show}
use Rattle.model.specs.Definitions.Steps.{dropped, with_frame}
use Rattle.model.specs.Definitions.Replay.{loaded, used, use_up, used_up, restarted, took_due, settled, replayed}
use Rattle.model.specs.Definitions.Calls.{Result, counters_full}
use Rattle.model.specs.Definitions.Calls.{live, replaying, refusals_within, access_within}
use Rattle.model.specs.Definitions.Calls.{Call, call_within}
use Rattle.model.proofs.Laws.Logic.{cases, by_eq}
use Rattle.model.proofs.Laws.Boards.{stored_record_cases}
use Rattle.model.proofs.Laws.Runs.{each_record_stores}
use Rattle.model.proofs.Laws.Codes.Tests.{by_kind}
use Rattle.model.proofs.Laws.Keeps.Live.{first_of_none}
use Rattle.model.proofs.Laws.Keeps.Rights.{or_none}
use Rattle.model.proofs.Laws.Keeps.Replay.{took_due_took}
use Rattle.model.specs.Laws.Codes.Statement.{board_named}
use Rattle.model.proofs.Laws.EveryBoard.{Boards, KeepsOn, every_on_board, every_step, every_store_all, Lasts, every_unless, every_live, every_replaying}
use Rattle.model.proofs.Laws.EveryBoard.{every_call}

-- ---- changes of a board that don't raise its since

abbrev pub Quiet : (Board → Board) → Type 0
Quiet f = (x : Board) → (f x).working.since ≤ x.working.since

quiet_stored_record : Quiet stored_record
unfolding moved_record
quiet_stored_record x = stored_record_cases (λ y. y.working.since ≤ x.working.since) x (λ e. omega arith) (λ r rs e. omega arith)

quiet_burnt : Quiet burnt
unfolding burnt with_fuse
quiet_burnt x = cases (λ (y : Board). y.working.since ≤ x.working.since) (eqb x.fuse _) (λ t. omega arith) (λ t. omega arith)

quiet_stored_frame : (p : ℕ) → Quiet (stored_frame p)
unfolding stored_frame on_spare
quiet_stored_frame p x = omega arith

quiet_stored_head : Quiet stored_head
unfolding stored_head on_spare
quiet_stored_head x = omega arith

quiet_stored_selector : Quiet stored_selector
unfolding stored_selector
quiet_stored_selector x = omega arith

quiet_use_up : (rs : List Record) (w : Working) → (use_up rs w).since ≤ w.since
unfolding use_up used
quiet_use_up [] w = omega arith
quiet_use_up (r ∷ rs) w =
    cases (λ (v : Working). v.since ≤ w.since) (eqb r.count w.since)
    (λ t.
    by_kind r.kind
    (λ g p e. rw e (omega arith))
    (λ p e. rw e (omega (arith, quiet_use_up rs (used w.frames w))))
    (λ p e. rw e (omega (arith, quiet_use_up rs (used (set w.frames p empty_frame) w)))))
    (λ t. omega arith)

quiet_used_up : Quiet used_up
unfolding used_up on_working
quiet_used_up x = quiet_use_up _ x.working

quiet_restarted : Quiet restarted
unfolding loaded
quiet_restarted x = omega (arith, quiet_used_up (loaded x))

quiet_took_due : Quiet took_due
quiet_took_due x = (took_due_took x).since

quiet_with_frame : (p : ℕ) (f : Frame) → Quiet (with_frame p f)
unfolding with_frame on_working on_frames
quiet_with_frame p f x = omega arith

-- ---- every board's since is within a bound

-- of board c
abbrev pub SinceWithin : (ℕ → ℕ) → ℕ → Board → Type 0
SinceWithin bound c x = x.working.since ≤ bound c

module _ (bound : ℕ → ℕ) where
  quiet_keeps : (c : ℕ) (f : Board → Board) → Quiet f → KeepsOn (SinceWithin bound) c f
  quiet_keeps c f q x h = omega (arith, q x)

  -- a record takes the since with it
  note_within : (d : ℕ) (o p : ℕ) (r : Run) → Boards (SinceWithin bound) r.bank → Boards (SinceWithin bound) (show o d p r).bank
  unfolding show flush note on_working recorded powered_off
  note_within d o p r h =
      let Q : ℕ → Board → Type 0 = SinceWithin bound in
      let s : Run = step (note o (Shown p) d (zeros page_size)) r in
      every_store_all Q o (quiet_keeps o burnt quiet_burnt) (quiet_keeps o powered_off (λ x. omega arith)) _ s
      (each_record_stores (quiet_keeps o stored_record quiet_stored_record) (board_at s.bank o))
      (every_step Q _ r h (every_on_board Q o (on_working (recorded (Shown p) d (zeros page_size))) r.bank (λ x e. omega arith) h))

  pub since_lasts : (d : ℕ) → Lasts d (SinceWithin bound)
  unfolding no_board powered_off dropped with_frame on_frames on_working recorded rested_working settled with_fuse
  since_lasts d =
      record {
        absent = λ c. omega arith;
        off = λ c x h. omega arith;
        gives = note_within d;
        drops = λ c p x h. omega arith;
        lowers = quiet_keeps d burnt quiet_burnt;
        got = λ g p o bytes x h. omega arith;
        frame = λ p f. quiet_keeps d (with_frame p f) (quiet_with_frame p f);
        stores_record = quiet_keeps d stored_record quiet_stored_record;
        stores_frame = λ p. quiet_keeps d (stored_frame p) (quiet_stored_frame p);
        stores_head = quiet_keeps d stored_head quiet_stored_head;
        stores_selector = quiet_keeps d stored_selector quiet_stored_selector;
        rests = λ x h. omega arith;
        settles = λ owned x h. omega arith;
        restarts = quiet_keeps d restarted quiet_restarted;
        fuses = λ n x h. omega arith;
      }

-- ---- the calls

-- the same bound for every board, and one less for board b
abbrev Same : ℕ → ℕ → Board → Type 0
Same m = SinceWithin (λ c. m)

abbrev pub AtMost : ℕ → Bank → Type 0
AtMost m = Boards (Same m)

unfoldable lowered : ℕ → ℕ → ℕ → ℕ
lowered m b c = elim (eqb c b) [ true ↦ m - 1 | false ↦ m ]

module _ (m b : ℕ) (some : 0 < m) where
  abbrev Lower : ℕ → Board → Type 0
  Lower = SinceWithin (lowered m b)

  to_lower : (k : Bank) → AtMost m k → (board_at k b).working.since ≢ m → Boards Lower k
  unfolding lowered
  to_lower k h n c =
      by_eq c b
      (λ e. let s : (board_at k c).working.since ≢ m = rw e n in rw (eq-eqb c b e, lowered) (omega (arith, h c, s)))
      (λ ne. rw (ne_eqb c b ne, lowered) (h c))

  from_lower : (c : ℕ) (x : Board) → Lower c x → Same m c x
  unfolding lowered
  from_lower c x h =
      by_eq c b
      (λ e. let s : x.working.since ≤ m - 1 = rw (eq-eqb c b e, lowered) at h in omega arith)
      (λ ne. rw (ne_eqb c b ne, lowered) at h)

  -- the accessing board
  counts : (a : Access) (x : Board) → Lower b x → Same m b (on_working (accessed a) x)
  unfolding lowered on_working accessed
  counts a x h = let s : x.working.since ≤ m - 1 = rw (eq-eqb b b refl, lowered) at h in omega arith

  at_most_going : (a : Access) (k : Bank) → Boards Lower k
      → (let t : Result = elim (is_replaying (board_at k b).state) [ true ↦ replaying b a k | false ↦ live b a (start k) ] in AtMost m t.run.bank)
  unfolding replayed start
  at_most_going a k w =
      let q : Lasts b Lower = since_lasts (lowered m b) b in
      let r : Lasts b (Same m) = since_lasts (λ c. m) b in
      cases (λ (t : Result). AtMost m t.run.bank) (is_replaying (board_at k b).state)
      (λ t.
      every_replaying b Lower (Same m) q r from_lower a (counts a) (quiet_keeps (lowered m b) b took_due quiet_took_due)
      (λ x h. omega (arith, quiet_used_up (on_working (accessed a) x), counts a x h)) k w)
      (λ t. every_live b Lower (Same m) q r from_lower a (counts a) (start k) w)

at_most_access : (m b : ℕ) (a : Access) (k : Bank) → AtMost m k → AtMost m (access_within m b a k).run.bank
unfolding access_within refusals_within counters_full start
at_most_access m b a k h =
    every_unless (Same m) (refusals_within m b a k) (start k) _ h
    (λ e.
    let four = first_of_none _ _ _ (first_of_none _ _ _ (first_of_none _ _ _ (first_of_none _ _ _ e).rest).rest).rest in
    let free : (board_at k b).working.since ≢ m = eqb-false (board_at k b).working.since m (or_none _ _ four.here).0 in
    let some : 0 < m = omega (arith, h b, free) in
    at_most_going m b some a k (to_lower m b some k h free))

-- Under a largest since no since is above it after any call, if none was before
pub call_at_most : (m : ℕ) (c : Call) (k : Bank) → AtMost m k → AtMost m (call_within m c k).run.bank
call_at_most m c k h = every_call (Same m) k h m c (since_lasts (λ c. m) (board_named c)) (λ a. at_most_access m (board_named c) a k h)
