-- The calls of a replaying board, and its restart, in two well-formed banks of the same sizes in which it looks the same: the same answers and stores, and
-- it looks the same after them. Assumes nothing.
use Rattle.std.specs.Prelude.{◌≡◌, refl, Bool, false, ◌&&◌, not}
use Rattle.std.proofs.Math.Path.{sym, ap}
use Rattle.std.proofs.Common.{◌∙◌}
use Prim.Native.Nat.{ℕ, zero, suc, ◌<◌}
use Rattle.std.proofs.Math.Bool.{true}
use Rattle.std.proofs.Math.Option.{none, some}
use mathlib.Core.List.{List, []}
use Rattle.std.proofs.Math.ListN.{length}
use Rattle.std.proofs.Math.Dec.{ltb}
use borrow.Author.Tests.{ltb-true, not-false}
use Rattle.types.specs.declared.State.TheVariants.{Down}
use Rattle.types.specs.declared.Answer.{Answer}
use Rattle.model.specs.Definitions.Layout.{no_fuse}
use Rattle.model.specs.Definitions.Bank.{Area, Working, Board, Bank, board_at, entry_at, on_board}
use Rattle.model.specs.Definitions.WellFormed.{is_up, is_down, is_replaying, WellFormed}
use Rattle.model.specs.Definitions.Steps.{Run, start, with_fuse, fuse_board, Access}
use Rattle.model.specs.Definitions.Replay.{loaded, used_up, took_due, replay_over, end_if_over, replayed}
use Rattle.model.specs.Definitions.Calls.{Result, first_given, unless, finished, access_in_range, counters_full, refusals_within, access_refusals, access_within}
use Rattle.model.specs.Definitions.Calls.{access_bank, checkpoint_bank, fuse_bank, restart_bank}
use Rattle.model.proofs.Laws.Logic.{by_bool, by_option, clash, and_left}
use Rattle.model.proofs.Laws.Boards.{boards_on_board, board_at_same}
use Rattle.model.proofs.Laws.Runs.{lost_not, SameSizes}
use Rattle.model.specs.Laws.Codes.Statement.{after_replay, LiveOn, up, replay_ended}
use Rattle.model.proofs.Laws.Tests.{Says}
use Rattle.model.proofs.Laws.Codes.Order.{fails}
use Rattle.model.proofs.Laws.Codes.Tests.{replay_other, LastDue, last_due}
use Rattle.model.proofs.Laws.Keeps.Clauses.{replaying_place, fits, up_not_replaying, down_not_replaying, is_up_up, is_down_down, is_replaying_replaying}
use Rattle.model.proofs.Laws.Keeps.Live.{NoneOf, first_of_none}
use Rattle.model.proofs.Laws.Keeps.Entered.{taken_in_replay, replayed_keeps}
use Rattle.history.specs.ReplayAccess.{unless_refused, unless_goes, finished_lost, finished_done, took_in, repeated_in, access_lost, access_repeated}
use Rattle.history.specs.ReplayAccess.{ended_idle, over_idle, entered_at, replaying_at, fitting_at, restarted_in, restarted_in_replay, restart_idle}
use Rattle.model.specs.History.AloneStatement.{goes_on_live, SameOwned}
use Rattle.history.specs.AloneBoards.{differs_same, over_same, took_same, replayed_same, restarted_same, with_fuse_same}
use Rattle.history.specs.AloneRuns.{SameAt, below_same, on_board_same, power_off_same, SameRun, start_same, step_same, end_replay_same, end_if_over_same}

-- ==== results

pub record SameResult (b : ℕ) (t u : Result) : Type 0 where
  pub answer : t.answer ≡ u.answer
  pub given : t.given ≡ u.given
  pub run : SameRun b t.run u.run

unless_same : {b : ℕ} (tests tests' : List (Bool × Answer)) (r s : Run) (go go' : Result) → tests ≡ tests' → SameRun b r s
    → (first_given tests ≡ none → SameResult b go go') → SameResult b (unless tests r go) (unless tests' s go')
unless_same tests tests' r s go go' e h g =
    by_option (first_given tests)
    (λ n. rw (unless_goes tests r go n, unless_goes tests' s go' (ap first_given (sym e) ∙ n)) (g n))
    (λ x m. rw (unless_refused tests r go m, unless_refused tests' s go' (ap first_given (sym e) ∙ m)) (record { answer = refl; given = refl; run = h }))

finished_same : {b : ℕ} (v : ℕ) (given : List ℕ) (r s : Run) → SameRun b r s → SameResult b (finished v given r) (finished v given s)
finished_same v given r s h =
    by_option r.lost
    (λ n. rw (finished_done v given r n, finished_done v given s (sym h.lost ∙ n)) (record { answer = refl; given = refl; run = h }))
    (λ c e. rw (finished_lost v given r e, finished_lost v given s (sym h.lost ∙ e)) (record { answer = refl; given = refl; run = h }))

-- ==== an access

in_range_same : (b : ℕ) (a : Access) (k j : Bank) → SameSizes k j → access_in_range b a k ≡ access_in_range b a j
unfolding access_in_range
in_range_same b a k j s = rw (s.boards, s.pages)

-- the tests on entry look at the sizes and at what is seen of the board
refusals_same : (b : ℕ) (a : Access) (k j : Bank) → SameAt b k j → access_refusals b a k ≡ access_refusals b a j
unfolding refusals_within counters_full
refusals_same b a k j s =
    cc (in_range_same b a k j s.sizes, differs_same s.board a, s.board.state, s.board.working)

-- ---- whether it goes on live, as equations

live_refused : (b : ℕ) (a : Access) (k : Bank) {x : Answer} → first_given (access_refusals b a k) ≡ some x → goes_on_live b a k ≡ none
unfolding goes_on_live
live_refused b a k e = cc

module _ (b : ℕ) (a : Access) (k : Bank) (e : first_given (access_refusals b a k) ≡ none) where
  live_going : replay_over (board_at (took_in b k) b) ≡ false → goes_on_live b a k ≡ none
  unfolding goes_on_live
  live_going o = cc

  live_lost : replay_over (board_at (took_in b k) b) ≡ true → {c : ℕ} → (after_replay b k).lost ≡ some c → goes_on_live b a k ≡ none
  unfolding goes_on_live
  live_lost o l = cc

  live_on : replay_over (board_at (took_in b k) b) ≡ true → (after_replay b k).lost ≡ none → goes_on_live b a k ≡ some (after_replay b k)
  unfolding goes_on_live
  live_on o l = cc

-- an access goes on live exactly where the table of codes says that it is live, after a replay
module _ (b : ℕ) (a : Access) (k : Bank) (w : WellFormed k) (t : is_replaying (board_at k b).state ≡ true) where
  -- gots that it needs are due, and are the last records
  last_says : (e : first_given (access_refusals b a k) ≡ none) → Says (replay_over (board_at (took_in b k) b)) (LastDue a (board_at k b))
  last_says e =
      let x : Board = board_at k b in
      let l : b < length k.boards = (entered_at b a k e t w).board in
      rw (board_at_same b took_due k l)
      (last_due a x (replaying_place x.state x (replaying_at b a k e t w) (fits w b l).place) (fails (replay_other a x) (fitting_at b a k e t w)))

  pub goes_live : (r : Run) → goes_on_live b a k ≡ some r → LiveOn b a k r.bank
  goes_live r g =
      by_option (first_given (access_refusals b a k))
      (λ e.
      by_bool (replay_over (board_at (took_in b k) b))
      (λ o.
      by_option (after_replay b k).lost
      (λ n.
      let d : LastDue a (board_at k b) = (last_says e).0 o in
      let same : after_replay b k ≡ r = cc (live_on b a k e o n) in
      rw same at (replay_ended (replaying_at b a k e t w) d.2 d.3 n))
      (λ c l. lost_not (live_lost b a k e o l) g))
      (λ o. lost_not (live_going b a k e o) g))
      (λ x e. lost_not (live_refused b a k e) g)

  pub live_goes : {j : Bank} → LiveOn b a k j → first_given (access_refusals b a k) ≡ none → (r : Run) × (goes_on_live b a k ≡ some r) × (r.bank ≡ j)
  unfolding is_replaying
  live_goes (up u) e = clash t (ap is_replaying u)
  live_goes (replay_ended {r} {rs} u d n l) e = (after_replay b k, live_on b a k e ((last_says e).1 (r, rs, d, n)) l, refl)

-- ---- what it gives

-- the directories stay
owned_on_board : (b : ℕ) (f g : Board → Board) (k j : Bank) → SameOwned b k j → SameOwned b (on_board b f k) (on_board b g j)
unfolding entry_at on_board
owned_on_board b f g k j h = h

pub data SameAccess (b : ℕ) (a : Access) (k j : Bank) : Type 0 where
  answered : goes_on_live b a k ≡ none → goes_on_live b a j ≡ none → SameResult b (access_bank b a k) (access_bank b a j) → SameAccess b a k j
  goes_on : (r s : Run) → goes_on_live b a k ≡ some r → goes_on_live b a j ≡ some s → SameRun b r s → SameAccess b a k j

module _ (b : ℕ) (a : Access) (k j : Bank) (s : SameAt b k j) (w : WellFormed k) (v : WellFormed j) (t : is_replaying (board_at k b).state ≡ true)
    (owned : is_replaying (board_at (access_bank b a k).run.bank b).state ≡ false → is_replaying (board_at (access_bank b a j).run.bank b).state ≡ false
    → SameOwned b k j) where
  also : is_replaying (board_at j b).state ≡ true
  also = ap is_replaying (sym s.board.state) ∙ t

  refused_same : {x : Answer} → first_given (access_refusals b a k) ≡ some x → SameAccess b a k j
  unfolding access_within
  refused_same e =
      let f : first_given (access_refusals b a j) ≡ some _ = ap first_given (sym (refusals_same b a k j s)) ∙ e in
      answered (live_refused b a k e) (live_refused b a j f)
      (rw (unless_refused (access_refusals b a k) (start k) _ e, unless_refused (access_refusals b a j) (start j) _ f)
      (record { answer = refl; given = refl; run = start_same s }))

  module _ (e : first_given (access_refusals b a k) ≡ none) where
    e' : first_given (access_refusals b a j) ≡ none
    e' = ap first_given (sym (refusals_same b a k j s)) ∙ e

    below : b < length k.boards
    below = (entered_at b a k e t w).board

    took : SameAt b (took_in b k) (took_in b j)
    took = on_board_same b k j below s took_due took_due (took_same s.board)

    below_took : b < length (took_in b k).boards
    below_took = rw (boards_on_board b took_due k) below

    over : replay_over (board_at (took_in b k) b) ≡ replay_over (board_at (took_in b j) b)
    over = over_same took.board

    ended_same : replay_over (board_at (took_in b k) b) ≡ true → SameAccess b a k j
    unfolding after_replay
    ended_same o =
        let o' : replay_over (board_at (took_in b j) b) ≡ true = sym over ∙ o in
        let h : SameOwned b k j = owned (ended_idle b a k e t w o) (ended_idle b a j e' also v o') in
        let r : SameRun b (after_replay b k) (after_replay b j) =
        end_replay_same b (took_in b k) (took_in b j) below_took took
        (taken_in_replay b a k w (entered_at b a k e t w) (replaying_at b a k e t w) (fitting_at b a k e t w))
        (taken_in_replay b a j v (entered_at b a j e' also v) (replaying_at b a j e' also v) (fitting_at b a j e' also v))
        (owned_on_board b took_due took_due k j h) in
        by_option (after_replay b k).lost
        (λ n. goes_on (after_replay b k) (after_replay b j) (live_on b a k e o n) (live_on b a j e' o' (sym r.lost ∙ n)) r)
        (λ c l.
        let l' : (after_replay b j).lost ≡ some c = sym r.lost ∙ l in
        answered (live_lost b a k e o l) (live_lost b a j e' o' l')
        (rw (access_lost b a k e t o l, access_lost b a j e' also o' l') (record { answer = refl; given = refl; run = r })))

    repeated_same : replay_over (board_at (took_in b k) b) ≡ false → SameAccess b a k j
    repeated_same o =
        let o' : replay_over (board_at (took_in b j) b) ≡ false = sym over ∙ o in
        let m : SameAt b (repeated_in b a k) (repeated_in b a j) =
        on_board_same b (took_in b k) (took_in b j) below_took took (replayed a) (replayed a) (replayed_same took.board a) in
        let r : SameRun b (end_if_over b (start (repeated_in b a k))) (end_if_over b (start (repeated_in b a j))) =
        end_if_over_same b (repeated_in b a k) (repeated_in b a j) (rw (boards_on_board b (replayed a) (took_in b k)) below_took) m
        (replayed_keeps b a k w (entered_at b a k e t w) (replaying_at b a k e t w) (fitting_at b a k e t w) (rw (board_at_same b took_due k below) at o))
        (replayed_keeps b a j v (entered_at b a j e' also v) (replaying_at b a j e' also v) (fitting_at b a j e' also v)
        (rw (board_at_same b took_due j (below_same b k j below s)) at o'))
        (λ u.
        owned_on_board b (replayed a) (replayed a) (took_in b k) (took_in b j)
        (owned_on_board b took_due took_due k j
        (owned (over_idle b a k e t w o u) (over_idle b a j e' also v o' (sym (over_same m.board) ∙ u))))) in
        let fs : (board_at (took_in b k) b).working.frames ≡ (board_at (took_in b j) b).working.frames = ap (λ (w : Working). w.frames) took.board.working in
        answered (live_going b a k e o) (live_going b a j e' o')
        (rw (access_repeated b a k e t o, access_repeated b a j e' also o', fs) (finished_same _ _ _ _ r))

  pub access_same : SameAccess b a k j
  access_same =
      by_option (first_given (access_refusals b a k))
      (λ e. by_bool (replay_over (board_at (took_in b k) b)) (ended_same e) (repeated_same e))
      (λ x e. refused_same e)

-- ==== the other calls

module _ (b : ℕ) (k j : Bank) (s : SameAt b k j) where
  boards_same : ltb b (length k.boards) ≡ ltb b (length j.boards)
  boards_same = ap (ltb b) (sym s.sizes.boards)

  -- "checkpoint while replaying" and "restart and not dark" are refused
  pub checkpoint_refused : is_replaying (board_at k b).state ≡ true → SameResult b (checkpoint_bank b k) (checkpoint_bank b j)
  unfolding checkpoint_bank
  checkpoint_refused t =
      unless_same _ _ (start k) (start j) _ _ (cc (boards_same, s.board.state)) (start_same s)
      (λ e.
      let two : NoneOf (not (is_up (board_at k b).state)) [] = first_of_none _ _ _ (first_of_none _ _ _ e).rest in
      up_not_replaying (is_up_up (board_at k b).state (not-false _ two.here)) (is_replaying_replaying (board_at k b).state t))

  pub restart_refused : is_replaying (board_at k b).state ≡ true → SameResult b (restart_bank b k) (restart_bank b j)
  unfolding restart_bank
  restart_refused t =
      unless_same _ _ (start k) (start j) _ _ (cc (boards_same, s.board.state)) (start_same s)
      (λ e.
      let two : NoneOf (not (is_down (board_at k b).state)) [] = first_of_none _ _ _ (first_of_none _ _ _ e).rest in
      down_not_replaying (is_down_down (board_at k b).state (not-false _ two.here)) (is_replaying_replaying (board_at k b).state t))

  fuse_board_same : (n : ℕ) → b < length k.boards → SameAt b (fuse_board b n k) (fuse_board b n j)
  unfolding fuse_board
  fuse_board_same zero l = power_off_same b k j l s
  fuse_board_same (suc n) l = on_board_same b k j l s (with_fuse (suc n)) (with_fuse (suc n)) (with_fuse_same s.board (suc n))

  pub fuse_same : (n : ℕ) → SameResult b (fuse_bank b n k) (fuse_bank b n j)
  unfolding fuse_bank start
  fuse_same n =
      unless_same _ _ (start k) (start j) _ _ (cc (boards_same, s.board.state)) (start_same s)
      (λ e.
      let range : (ltb b (length k.boards) && ltb n no_fuse) ≡ true = not-false _ (first_of_none _ _ _ e).here in
      let l : b < length k.boards = ltb-true b (length k.boards) (and_left (ltb b (length k.boards)) _ range) in
      finished_same 0 [] _ _ (step_same (start k) (start j) (start_same s) (fuse_board b n) (fuse_board b n) (λ m. fuse_board_same n l)))

  -- a restart may end the replay at once
  pub restart_same : WellFormed k → WellFormed j
      → (is_replaying (board_at (restart_bank b k).run.bank b).state ≡ false → is_replaying (board_at (restart_bank b j).run.bank b).state ≡ false
      → SameOwned b k j)
      → SameResult b (restart_bank b k) (restart_bank b j)
  unfolding restart_bank
  restart_same w v owned =
      unless_same _ _ (start k) (start j) _ _ (cc (boards_same, s.board.state)) (start_same s)
      (λ e.
      let awake : Board → Board = λ x. used_up (loaded x) in
      let two : NoneOf (not (is_down (board_at k b).state)) [] = first_of_none _ _ _ (first_of_none _ _ _ e).rest in
      let l : b < length k.boards = ltb-true b (length k.boards) (not-false _ (first_of_none _ _ _ e).here) in
      let l' : b < length j.boards = below_same b k j l s in
      let down : (board_at k b).state ≡ Down = is_down_down (board_at k b).state (not-false _ two.here) in
      let down' : (board_at j b).state ≡ Down = sym s.board.state ∙ down in
      let m : SameAt b (restarted_in b k) (restarted_in b j) = on_board_same b k j l s awake awake (restarted_same s.board) in
      rw (ap (λ (a : Area). a.number) s.board.selected)
      (finished_same (board_at j b).stable.selected.number [] (end_if_over b (start (restarted_in b k))) (end_if_over b (start (restarted_in b j)))
      (end_if_over_same b (restarted_in b k) (restarted_in b j) (rw (boards_on_board b awake k) l) m
      (restarted_in_replay b k l down w)
      (restarted_in_replay b j l' down' v)
      (λ o.
      owned_on_board b awake awake k j
      (owned (restart_idle b k l down w o) (restart_idle b j l' down' v (sym (over_same m.board) ∙ o)))))))
