-- An access of a replaying board after the tests on entry, as equations: the replay ends before it, or it repeats an access and the replay ends after it or
-- goes on; and when the board is not replaying any more. Assumes nothing.
use Rattle.std.specs.Prelude.{◌≡◌, ℕ, ◌<◌, Bool, true, false, List, []}
use Rattle.std.proofs.Math.Path.{ap}
use Rattle.std.proofs.Math.Option.{none, some}
use Rattle.std.proofs.Math.ListN.{length}
use Rattle.std.proofs.Common.{lt-ltb}
use Rattle.types.specs.declared.State.TheVariants.{Down, Replaying}
use Rattle.types.specs.declared.Answer.{Answer}
use Rattle.types.specs.declared.Answer.TheVariants.{Done, PowerLost}
use Rattle.model.specs.Definitions.Bank.{Bank, board_at, on_board}
use Rattle.model.specs.Definitions.WellFormed.{is_down, is_replaying, WellFormed}
use Rattle.model.specs.Definitions.Steps.{Run, start, Access, value_of, given_of}
use Rattle.model.specs.Definitions.Replay.{loaded, used_up, differs, took_due, replay_over, end_replay, end_if_over, replayed}
use Rattle.model.specs.Definitions.Calls.{Result, first_given, unless, finished, live, live_after_end, replaying, access_refusals, access_within, access_bank}
use Rattle.model.specs.Definitions.Calls.{restart_bank}
use Rattle.model.proofs.Laws.Logic.{by_option}
use Rattle.model.proofs.Laws.Boards.{boards_on_board}
use Rattle.model.specs.Laws.Codes.Statement.{after_replay}
use Rattle.model.proofs.Laws.Keeps.Clauses.{but, on_board_but, is_replaying_replaying}
use Rattle.model.specs.Clauses.{Fits, InReplay, WellFormedBut, Entered}
use Rattle.model.proofs.Laws.Keeps.Replay.{loaded_in_replay, used_up_in_replay}
use Rattle.model.proofs.Laws.Keeps.Entered.{board_taken, entered, fitting, below_taken, taken_in_replay, replayed_keeps, live_can}
use Rattle.model.proofs.Laws.Keeps.Peers.{loaded_peers, used_up_peers}
use Rattle.model.proofs.Laws.Moves.Calls.{ended_formed}
use Rattle.history.specs.Bystanders.{end_replay_idle, live_idle}
use Rattle.model.proofs.Laws.Runs.{finished_run}

-- ==== when no record is left

pub if_over : (b : ℕ) (r : Run) → replay_over (board_at r.bank b) ≡ true → end_if_over b r ≡ end_replay b r
unfolding end_if_over
if_over b r t = cc

pub if_going : (b : ℕ) (r : Run) → replay_over (board_at r.bank b) ≡ false → end_if_over b r ≡ r
unfolding end_if_over
if_going b r t = cc

-- a call is refused or goes on, as equations
pub unless_refused : (tests : List (Bool × Answer)) (r : Run) (go : Result) {x : Answer} → first_given tests ≡ some x
    → unless tests r go ≡ record { answer = x; run = r; given = [] }
unfolding unless
unless_refused tests r go e = cc

pub unless_goes : (tests : List (Bool × Answer)) (r : Run) (go : Result) → first_given tests ≡ none → unless tests r go ≡ go
unfolding unless
unless_goes tests r go e = cc

-- the answer of a call that ran to its end, or lost power
pub finished_lost : (v : ℕ) (given : List ℕ) (r : Run) {c : ℕ} → r.lost ≡ some c → finished v given r ≡ record { answer = PowerLost c; run = r; given = [] }
unfolding finished
finished_lost v given r e = cc

pub finished_done : (v : ℕ) (given : List ℕ) (r : Run) → r.lost ≡ none → finished v given r ≡ record { answer = Done v; run = r; given = given }
unfolding finished
finished_done v given r e = cc

-- ==== the access

-- the bank in which the due gots were taken, and the one in which the access was repeated besides
abbrev pub took_in : ℕ → Bank → Bank
took_in b k = on_board b took_due k

abbrev pub repeated_in : ℕ → Access → Bank → Bank
repeated_in b a k = on_board b (replayed a) (on_board b took_due k)

module _ (b : ℕ) (a : Access) (k : Bank) (e : first_given (access_refusals b a k) ≡ none) (t : is_replaying (board_at k b).state ≡ true) where
  -- the due got was the last record, and the end of replay blew the fuse
  pub access_lost : replay_over (board_at (took_in b k) b) ≡ true → {c : ℕ} → (after_replay b k).lost ≡ some c
      → access_bank b a k ≡ record { answer = PowerLost c; run = after_replay b k; given = [] }
  unfolding access_within unless replaying live_after_end after_replay
  access_lost o l = cc

  -- or it goes on live
  access_live : replay_over (board_at (took_in b k) b) ≡ true → (after_replay b k).lost ≡ none → access_bank b a k ≡ live b a (after_replay b k)
  unfolding access_within unless replaying live_after_end after_replay
  access_live o l = cc

  -- the access is repeated
  pub access_repeated : replay_over (board_at (took_in b k) b) ≡ false
      → access_bank b a k
      ≡ finished (value_of a (board_at (took_in b k) b).working.frames) (given_of a (board_at (took_in b k) b).working.frames)
      (end_if_over b (start (repeated_in b a k)))
  unfolding access_within unless replaying
  access_repeated o = cc

  -- ---- the board after it

  module _ (w : WellFormed k) where
    abbrev pub entered_at : Entered b a k
    entered_at = entered b a k w e

    abbrev pub replaying_at : (board_at k b).state ≡ Replaying
    replaying_at = is_replaying_replaying (board_at k b).state t

    abbrev pub fitting_at : differs a (board_at k b) ≡ false
    fitting_at = fitting b a k w e t

    after_idle : is_replaying (board_at (after_replay b k).bank b).state ≡ false
    unfolding after_replay
    after_idle = end_replay_idle b (took_in b k) (below_taken b a k w entered_at replaying_at fitting_at) (taken_in_replay b a k w entered_at replaying_at fitting_at)

    -- the end of replay came before the access
    pub ended_idle : replay_over (board_at (took_in b k) b) ≡ true → is_replaying (board_at (access_bank b a k).run.bank b).state ≡ false
    unfolding after_replay
    ended_idle o =
        by_option (after_replay b k).lost
        (λ n.
        rw (access_live o n)
        (live_idle b a (after_replay b k) (ended_formed b k w a entered_at replaying_at fitting_at o) n (live_can b a k w entered_at replaying_at fitting_at n)))
        (λ c l. rw (access_lost o l) after_idle)

    -- it came after the access
    pub over_idle : replay_over (board_at (took_in b k) b) ≡ false → replay_over (board_at (repeated_in b a k) b) ≡ true
        → is_replaying (board_at (access_bank b a k).run.bank b).state ≡ false
    unfolding start
    over_idle o u =
        let l : b < length (repeated_in b a k).boards = rw (boards_on_board b (replayed a) (took_in b k)) (below_taken b a k w entered_at replaying_at fitting_at)
        in
        rw (access_repeated o, finished_run _ _ (end_if_over b (start (repeated_in b a k))), if_over b (start (repeated_in b a k)) u)
        (end_replay_idle b (repeated_in b a k) l
        (replayed_keeps b a k w entered_at replaying_at fitting_at (rw (board_taken b a k w entered_at replaying_at fitting_at) at o)))

-- ==== a restart

-- the bank in which the selected area was loaded, and the records that are due used up
abbrev pub restarted_in : ℕ → Bank → Bank
restarted_in b k = on_board b (λ x. used_up (loaded x)) k

module _ (b : ℕ) (k : Bank) (l : b < length k.boards) (down : (board_at k b).state ≡ Down) where
  pub restart_goes : restart_bank b k ≡ finished (board_at k b).stable.selected.number [] (end_if_over b (start (restarted_in b k)))
  unfolding restart_bank unless first_given is_down
  restart_goes = cc (lt-ltb b (length k.boards) l, ap is_down down)

  pub restarted_in_replay : WellFormed k → WellFormedBut b InReplay (restarted_in b k)
  restarted_in_replay w =
      on_board_but b (λ x. used_up (loaded x)) k (but {Kept = Fits} w (λ f. f))
      (λ i f. used_up_in_replay k.directory b (loaded (board_at k b)) (loaded_in_replay k.directory b (board_at k b) f down))
      (λ m. used_up_peers (loaded (board_at k b)) (loaded_peers (board_at k b) m))

  -- it ended the replay at once
  pub restart_idle : WellFormed k → replay_over (board_at (restarted_in b k) b) ≡ true → is_replaying (board_at (restart_bank b k).run.bank b).state ≡ false
  unfolding start
  restart_idle w o =
      rw (restart_goes, finished_run _ _ (end_if_over b (start (restarted_in b k))), if_over b (start (restarted_in b k)) o)
      (end_replay_idle b (restarted_in b k) (rw (boards_on_board b (λ x. used_up (loaded x)) k) l) (restarted_in_replay w))
