-- What any call does to a replaying board: it goes on, one more access counted if it was done; or it is cut; or its replay ends, where the count says.
-- Assumes nothing.
use Rattle.std.specs.Prelude.{◌≡◌, ◌≢◌, ◌⊎◌, Bool, ◌&&◌, not, eqb}
use Rattle.std.proofs.Math.Path.{refl, sym, ap}
use Rattle.std.proofs.Common.{subst, ◌∙◌}
use Rattle.std.proofs.Math.Logic.{inl, inr, ⊎_elim}
use Prim.Native.Nat.{ℕ, zero, suc, ◌+◌, ◌<◌}
use native.Mathlib.Omega.{arith}
use Rattle.std.proofs.Math.Bool.{true, false}
use Rattle.std.proofs.Math.Option.{none, some}
use mathlib.Core.List.{List, [], ◌∷◌}
use Rattle.std.proofs.Math.ListN.{length}
use Rattle.std.proofs.Math.Dec.{ltb}
use borrow.Author.Tests.{eq-eqb, ne_eqb, ltb-true, not-false}
use Rattle.words.specs.Bytes.{each_nil, each_cons}
use Rattle.types.specs.declared.Record.{Record}
use Rattle.types.specs.declared.State.TheVariants.{Up, Down, Replaying}
use Rattle.types.specs.declared.Answer.{Answer}
use Rattle.types.specs.declared.Answer.TheVariants.{Done, PowerLost}
use Rattle.model.specs.Definitions.Bank.{Working, Stable, Board, Bank, board_at, on_board, on_working}
use Rattle.model.specs.Definitions.WellFormed.{is_up, is_down, is_replaying, WellFormed}
use Rattle.model.specs.Definitions.Steps.{Run, start, step, powered_off, with_fuse, fuse_board, checkpoint, Access, value_of, given_of}
use Rattle.model.specs.Definitions.Replay.{loaded, used_up, took_due, replay_over, settled, end_replay, end_if_over, replayed, recovery_point}
use Rattle.model.specs.Definitions.Answers.{code}
use Rattle.model.specs.Definitions.Calls.{Result, first_given, unless, finished, refusals_within, access_refusals, access_within, checkpoint_bank, fuse_bank}
use Rattle.model.specs.Definitions.Calls.{restart_bank, Call, Accessing, Checkpointing, Fusing, Restarting, Comparing, call_bank}
use Rattle.model.proofs.Laws.Logic.{by_bool, by_option, by_eq, cases_option, clash, and_left}
use Rattle.model.specs.Laws.Codes.Statement.{board_named, Due, NeedsGots}
use Rattle.model.proofs.Laws.Keeps.Clauses.{up_not_replaying, down_not_replaying, replaying_place, fits, is_up_up, is_down_down}
use Rattle.model.proofs.Laws.Boards.{took_due_state, boards_on_board, board_at_same, board_at_power_off_same}
use Rattle.model.proofs.Laws.Keeps.Live.{first_in, NoneOf, first_of_none}
use Rattle.model.specs.Definitions.Layout.{no_fuse}
use Rattle.model.proofs.Laws.Runs.{end_replay_self, finished_run}
use Rattle.model.proofs.Laws.Runs.Stores.{end_replay_changed}
use Rattle.model.proofs.Laws.Codes.Order.{never, fails}
use Rattle.model.proofs.Laws.Codes.Cases.{compare_cases}
use Rattle.model.proofs.Laws.Codes.Losses.{loses_power_lem}
use Rattle.model.proofs.Laws.Codes.Tests.{replay_other, LastDue, last_due}
use Rattle.model.specs.History.Statement.{access_of}
use Rattle.history.specs.Replaying.{used_up_number}
use Rattle.history.specs.Repeating.{replayed_number, replayed_stable}
use Rattle.history.specs.Recovery.{CountedBoard, Counted}
use Rattle.history.specs.Bystanders.{call_leaves}
use Rattle.history.specs.ReplayAccess.{unless_refused, finished_lost, finished_done, if_over, if_going, took_in, repeated_in, access_repeated, ended_idle}
use Rattle.history.specs.ReplayAccess.{over_idle, entered_at, fitting_at, restarted_in, restart_goes}
use Rattle.history.specs.ReplayCounts.{due_last, over_number, over_ends, restart_over}
use Rattle.model.specs.History.ReplayEndsStatement.{ends_in_got, is_access_of, done_by, RefusedOnEntry}

-- ==== the count

-- a call of another board, a call that is no access, and an access that is refused count nothing
not_of : (b : ℕ) (c : Call) (x : Answer) → is_access_of b (access_of c) ≡ false → done_by b c x ≡ 0
unfolding done_by
not_of b c x e = cc

not_done : (b : ℕ) (c : Call) (x : Answer) → eqb (code x) 0 ≡ false → done_by b c x ≡ 0
unfolding done_by
not_done b c x e = by_bool (is_access_of b (access_of c)) (λ t. cc) (λ t. cc)

pub done_one : (b : ℕ) (c : Call) (a : Access) (v : ℕ) → access_of c ≡ some (b, a) → done_by b c (Done v) ≡ 1
unfolding done_by is_access_of code
done_one b c a v e = cc (eq-eqb b b refl)

not_named : (b : ℕ) (c : Call) (a : Access) → is_access_of b (access_of c) ≡ false → access_of c ≡ some (b, a) → ⊥
unfolding is_access_of
not_named b c a n e = clash (cc (eq-eqb b b refl)) n

other_access : (b : ℕ) (c : Call) → board_named c ≢ b → is_access_of b (access_of c) ≡ false
unfolding board_named access_of is_access_of
other_access b (Accessing d a) n = ne_eqb d b n
other_access b (Checkpointing d) n = refl
other_access b (Fusing d m) n = refl
other_access b (Restarting d) n = refl
other_access b (Comparing d e) n = refl

-- ==== what a call does

-- board b goes on replaying, one more access counted if one was done
pub record GoesOn (b : ℕ) (c : Call) (k : Bank) : Type 0 where
  pub state : (board_at (call_bank c k).run.bank b).state ≡ Replaying
  pub number : (board_at (call_bank c k).run.bank b).working.number ≡ (board_at k b).working.number + done_by b c (call_bank c k).answer
  pub selected : (board_at (call_bank c k).run.bank b).stable.selected ≡ (board_at k b).stable.selected

-- call c is no access of board b, or one that is refused on entry
abbrev NotEntered : ℕ → Call → Bank → Type 0
NotEntered b c k = (a : Access) → access_of c ≡ some (b, a) → RefusedOnEntry (call_bank c k).answer

-- board b is replaying in bank k
pub data After (b : ℕ) (c : Call) (k : Bank) : Type 0 where
  waits : GoesOn b c k → ((a : Access) → access_of c ≡ some (b, a) → RefusedOnEntry (call_bank c k).answer) → After b c k
  one_more : (a : Access) (v : ℕ) → access_of c ≡ some (b, a) → (call_bank c k).answer ≡ Done v → GoesOn b c k → After b c k
  is_cut : (board_at (call_bank c k).run.bank b).state ≡ Down → After b c k
  ends_exactly : (a : Access) (v : ℕ) → access_of c ≡ some (b, a) → (call_bank c k).answer ≡ Done v
      → (board_at k b).working.number + 1 ≡ recovery_point (board_at k b) → ends_in_got (board_at k b) ≡ false
      → is_replaying (board_at (call_bank c k).run.bank b).state ≡ false → After b c k
  ends_entering : (a : Access) (r : Record) (rs : List Record) → access_of c ≡ some (b, a) → Due (board_at k b) (r ∷ rs) []
      → NeedsGots a (board_at k b).working.frames (r ∷ rs) → (board_at k b).working.number ≡ recovery_point (board_at k b) → ends_in_got (board_at k b) ≡ true
      → is_replaying (board_at (call_bank c k).run.bank b).state ≡ false → After b c k

-- nothing of the board changes but its fuse
record Unmoved (b : ℕ) (k j : Bank) : Type 0 where
  state : (board_at j b).state ≡ (board_at k b).state
  working : (board_at j b).working ≡ (board_at k b).working
  stable : (board_at j b).stable ≡ (board_at k b).stable

unmoved : (b : ℕ) (k j : Bank) → board_at j b ≡ board_at k b → Unmoved b k j
unmoved b k j e = record { state = rw e; working = rw e; stable = rw e }

same_after : (b : ℕ) (c : Call) (k : Bank) → (board_at k b).state ≡ Replaying → done_by b c (call_bank c k).answer ≡ 0
    → NotEntered b c k → Unmoved b k (call_bank c k).run.bank → After b c k
same_after b c k rep d n s =
    waits
    (record {
      state = s.state ∙ rep;
      number = ap (λ (v : Working). v.number) s.working ∙ omega (arith, d);
      selected = ap (λ (v : Stable). v.selected) s.stable;
    })
    n

-- a call that is no access of the board
plain_same : (b : ℕ) (c : Call) (k : Bank) → (board_at k b).state ≡ Replaying → is_access_of b (access_of c) ≡ false → Unmoved b k (call_bank c k).run.bank
    → After b c k
plain_same b c k rep n s = same_after b c k rep (not_of b c (call_bank c k).answer n) (λ a e. absurd (not_named b c a n e)) s

other_after : (b : ℕ) (c : Call) (k : Bank) → WellFormed k → (board_at k b).state ≡ Replaying → board_named c ≢ b → After b c k
other_after b c k w rep n =
    plain_same b c k rep (other_access b c n) (unmoved b k (call_bank c k).run.bank (call_leaves c b k w n (λ u. up_not_replaying u rep)))

-- ---- an access of the board

module _ (b : ℕ) (a : Access) (k : Bank) (w : WellFormed k) (h : Counted k) (rep : (board_at k b).state ≡ Replaying) where
  abbrev x : Board
  x = board_at k b

  abbrev c : Call
  c = Accessing b a

  replays : is_replaying x.state ≡ true
  unfolding is_replaying
  replays = ap is_replaying rep

  -- refused on entry
  refused_code : (y : Answer) → first_given (access_refusals b a k) ≡ some y → RefusedOnEntry y
  unfolding refusals_within code
  refused_code y e =
      first_in RefusedOnEntry (access_refusals b a k) y
      (each_cons (inl (omega arith, omega arith))
      (each_cons (inr refl)
      (each_cons (inl (omega arith, omega arith)) (each_cons (inl (omega arith, omega arith)) (each_cons (inl (omega arith, omega arith)) each_nil)))))
      e

  -- it is not done
  refused_not : (y : Answer) → RefusedOnEntry y → code y ≢ 0
  refused_not y (inl z) n = absurd (omega (arith, z.0))
  refused_not y (inr z) n = absurd (omega arith)

  refused_after : (y : Answer) → first_given (access_refusals b a k) ≡ some y → After b c k
  unfolding call_bank access_within start
  refused_after y e =
      let q : call_bank c k ≡ record { answer = y; run = start k; given = [] } = unless_refused (access_refusals b a k) (start k) _ e in
      let z : RefusedOnEntry y = refused_code y e in
      same_after b c k rep (rw q (not_done b c y (ne_eqb (code y) 0 (refused_not y z)))) (λ d i. rw q z)
      (unmoved b k (call_bank c k).run.bank (ap (λ (t : Result). board_at t.run.bank b) q))

  module _ (e : first_given (access_refusals b a k) ≡ none) where
    below : b < length k.boards
    below = (entered_at b a k e replays w).board

    counted : CountedBoard x
    counted = h b below

    took_board : board_at (took_in b k) b ≡ took_due x
    took_board = board_at_same b took_due k below

    repeated_board : board_at (repeated_in b a k) b ≡ replayed a (took_due x)
    repeated_board =
        board_at_same b (replayed a) (took_in b k) (rw (boards_on_board b took_due k) below) ∙ ap (replayed a) took_board

    -- the due gots were the last records
    entered_after : replay_over (board_at (took_in b k) b) ≡ true → After b c k
    unfolding call_bank access_of
    entered_after o =
        let place : x.working.place < length x.stable.selected.log =
        replaying_place x.state x rep (fits w b below).place in
        let d : LastDue a x =
        (last_due a x place (fails (replay_other a x) (fitting_at b a k e replays w))).0 (rw took_board at o) in
        let l : (x.working.number ≡ recovery_point x) × (ends_in_got x ≡ true) = due_last x d.0 d.1 counted rep d.2 in
        ends_entering a d.0 d.1 refl d.2 d.3 l.0 l.1 (ended_idle b a k e replays w o)

    -- the access is repeated
    module _ (o : replay_over (board_at (took_in b k) b) ≡ false) where
      abbrev value : ℕ
      value = value_of a (board_at (took_in b k) b).working.frames

      abbrev given : List ℕ
      given = given_of a (board_at (took_in b k) b).working.frames

      abbrev run : Run
      run = end_if_over b (start (repeated_in b a k))

      gave : call_bank c k ≡ finished value given run
      unfolding call_bank
      gave = access_repeated b a k e replays o

      -- and its replay ends
      over_after : replay_over (board_at (repeated_in b a k) b) ≡ true → After b c k
      unfolding call_bank access_of start
      over_after u =
          let o' : replay_over (took_due x) ≡ false = rw took_board at o in
          let u' : replay_over (replayed a (took_due x)) ≡ true = rw repeated_board at u in
          by_option run.lost
          (λ n.
          ends_exactly a value refl (ap (λ (t : Result). t.answer) (gave ∙ finished_done value given run n))
          (over_number a x counted rep o' u') (over_ends a x counted rep o' u')
          (over_idle b a k e replays w o u))
          (λ d l.
          let self : d ≡ b =
          end_replay_self b (start (repeated_in b a k)) d refl (ap (λ (t : Run). t.lost) (sym (if_over b (start (repeated_in b a k)) u)) ∙ l) in
          let lost : (call_bank c k).answer ≡ PowerLost d = ap (λ (t : Result). t.answer) (gave ∙ finished_lost value given run l) in
          is_cut (subst (λ (d : ℕ). (board_at (call_bank c k).run.bank d).state ≡ Down) self ((loses_power_lem c k w d).0 lost).after))

      -- or it goes on
      going_after : replay_over (board_at (repeated_in b a k) b) ≡ false → After b c k
      unfolding access_of start replayed used_up on_working
      going_after u =
          let q : call_bank c k ≡ record { answer = Done value; run = start (repeated_in b a k); given = given } =
          gave ∙ ap (finished value given) (if_going b (start (repeated_in b a k)) u) ∙ finished_done value given (start (repeated_in b a k)) refl in
          let y : board_at (call_bank c k).run.bank b ≡ replayed a (took_due x) = ap (λ (t : Result). board_at t.run.bank b) q ∙ repeated_board in
          let d : done_by b c (call_bank c k).answer ≡ 1 = ap (λ (t : Result). done_by b c t.answer) q ∙ done_one b c a value refl in
          one_more a value refl (ap (λ (t : Result). t.answer) q)
          (record {
            state = ap (λ (z : Board). z.state) y ∙ took_due_state x ∙ rep;
            number = ap (λ (z : Board). z.working.number) y ∙ replayed_number x a ∙ ap (λ (m : ℕ). x.working.number + m) (sym d);
            selected = ap (λ (z : Board). z.stable.selected) y ∙ ap (λ (z : Stable). z.selected) (replayed_stable x a);
          })

      repeated_after : After b c k
      repeated_after = by_bool (replay_over (board_at (repeated_in b a k) b)) over_after going_after

  access_after : After b c k
  access_after =
      by_option (first_given (access_refusals b a k))
      (λ e. by_bool (replay_over (board_at (took_in b k) b)) (entered_after e) (repeated_after e))
      refused_after

-- ---- the other calls of the board

module _ (b : ℕ) (k : Bank) (rep : (board_at k b).state ≡ Replaying) where
  -- a call that is refused leaves the bank
  plain_after : (P : Bank → Type 0) (tests : List (Bool × Answer)) (v : ℕ) (r : Run) → P k → (first_given tests ≡ none → P r.bank)
      → P (unless tests (start k) (finished v [] r)).run.bank
  unfolding unless start
  plain_after P tests v r p q =
      cases_option (λ (t : Result). P t.run.bank) (first_given tests) (λ e. rw (finished_run v [] r) (q e)) (λ y e. p)

  stays : Unmoved b k k
  stays = unmoved b k k refl

  checkpoint_after : After b (Checkpointing b) k
  unfolding call_bank checkpoint_bank access_of is_access_of
  checkpoint_after =
      plain_same b (Checkpointing b) k rep refl
      (plain_after (Unmoved b k) _ 0 (checkpoint b (start k)) stays
      (λ e.
      let two : NoneOf (not (is_up (board_at k b).state)) [] = first_of_none _ _ _ (first_of_none _ _ _ e).rest in
      up_not_replaying (is_up_up (board_at k b).state (not-false _ two.here)) rep))

  restart_after : After b (Restarting b) k
  unfolding call_bank restart_bank access_of is_access_of
  restart_after =
      plain_same b (Restarting b) k rep refl
      (plain_after (Unmoved b k) _ _ (end_if_over b (start (restarted_in b k))) stays
      (λ e.
      let two : NoneOf (not (is_down (board_at k b).state)) [] = first_of_none _ _ _ (first_of_none _ _ _ e).rest in
      down_not_replaying (is_down_down (board_at k b).state (not-false _ two.here)) rep))

  compare_after : (c : ℕ) → After b (Comparing b c) k
  unfolding call_bank access_of is_access_of start
  compare_after c =
      plain_same b (Comparing b c) k rep refl
      (compare_cases (λ (t : Result). Unmoved b k t.run.bank) b c k (λ x h i. stays) (λ i d. stays))

  fuse_board_leaves : (n : ℕ) → b < length k.boards → Unmoved b k (fuse_board b n k) ⊎ ((board_at (fuse_board b n k) b).state ≡ Down)
  unfolding fuse_board with_fuse powered_off
  fuse_board_leaves zero l = inr (ap (λ (y : Board). y.state) (board_at_power_off_same b k l))
  fuse_board_leaves (suc n) l =
      let y : board_at (on_board b (with_fuse (suc n)) k) b ≡ with_fuse (suc n) (board_at k b) = board_at_same b (with_fuse (suc n)) k l in
      inl (record { state = rw y; working = rw y; stable = rw y })

  fuse_after : (n : ℕ) → After b (Fusing b n) k
  unfolding call_bank fuse_bank access_of is_access_of step start
  fuse_after n =
      ⊎_elim
      (plain_same b (Fusing b n) k rep refl)
      is_cut
      (plain_after (λ j. Unmoved b k j ⊎ ((board_at j b).state ≡ Down)) _ 0 (step (fuse_board b n) (start k)) (inl stays)
      (λ e.
      let range : (ltb b (length k.boards) && ltb n no_fuse) ≡ true = not-false _ (first_of_none _ _ _ e).here in
      fuse_board_leaves n (ltb-true b (length k.boards) (and_left (ltb b (length k.boards)) _ range))))

-- ---- any call

own_after : (c : Call) (k : Bank) → WellFormed k → Counted k → (board_at k (board_named c)).state ≡ Replaying → After (board_named c) c k
unfolding board_named
own_after (Accessing b a) k w h rep = access_after b a k w h rep
own_after (Checkpointing b) k w h rep = checkpoint_after b k rep
own_after (Fusing b n) k w h rep = fuse_after b k rep n
own_after (Restarting b) k w h rep = restart_after b k rep
own_after (Comparing b c) k w h rep = compare_after b k rep c

pub call_after : (b : ℕ) (c : Call) (k : Bank) → WellFormed k → Counted k → (board_at k b).state ≡ Replaying → After b c k
call_after b c k w h rep =
    by_eq (board_named c) b
    (λ e. subst (λ (d : ℕ). (board_at k d).state ≡ Replaying → After d c k) e (own_after c k w h) rep)
    (λ n. other_after b c k w rep n)

-- ==== a restart

-- board b was down in bank k, and its restart was done
pub data Restarted (b : ℕ) (k : Bank) : Type 0 where
  ends_at_once : (board_at (call_bank (Restarting b) k).run.bank b).state ≡ Up → (board_at k b).stable.selected.number ≡ recovery_point (board_at k b)
      → ends_in_got (board_at k b) ≡ false → Restarted b k
  begins : (board_at (call_bank (Restarting b) k).run.bank b).state ≡ Replaying
      → (board_at (call_bank (Restarting b) k).run.bank b).working.number ≡ (board_at k b).stable.selected.number
      → (board_at (call_bank (Restarting b) k).run.bank b).stable.selected ≡ (board_at k b).stable.selected → Restarted b k

-- what the tests on entry left
restart_entered : (b : ℕ) (k : Bank) (v : ℕ) → (restart_bank b k).answer ≡ Done v → (b < length k.boards) × ((board_at k b).state ≡ Down)
unfolding restart_bank unless first_given
restart_entered b k v e =
    by_bool (ltb b (length k.boards))
    (λ l.
    by_bool (is_down (board_at k b).state)
    (λ d. (ltb-true b (length k.boards) l, is_down_down (board_at k b).state d))
    (λ d. never (cc)))
    (λ l. never (cc))

module _ (b : ℕ) (k : Bank) (l : b < length k.boards) (down : (board_at k b).state ≡ Down) (h : Counted k) where
  abbrev number : ℕ
  number = (board_at k b).stable.selected.number

  awake_board : board_at (restarted_in b k) b ≡ used_up (loaded (board_at k b))
  awake_board = board_at_same b (λ x. used_up (loaded x)) k l

  over_restarted : (v : ℕ) → (call_bank (Restarting b) k).answer ≡ Done v → replay_over (board_at (restarted_in b k) b) ≡ true → Restarted b k
  unfolding call_bank start settled
  over_restarted v done o =
      let r : Run = end_replay b (start (restarted_in b k)) in
      let m : b < length (restarted_in b k).boards = rw (boards_on_board b (λ x. used_up (loaded x)) k) l in
      let e : restart_bank b k ≡ finished number [] r = restart_goes b k l down ∙ ap (finished number []) (if_over b (start (restarted_in b k)) o) in
      let c : (number ≡ recovery_point (board_at k b)) × (ends_in_got (board_at k b) ≡ false) =
      restart_over (board_at k b) (h b l) down (rw awake_board at o) in
      by_option r.lost
      (λ n.
      ends_at_once
      (ap (λ (t : Result). (board_at t.run.bank b).state) (e ∙ finished_done number [] r n)
      ∙ ((end_replay_changed b (start (restarted_in b k)) n).this m).state)
      c.0
      c.1)
      (λ d n. let z : PowerLost d ≡ Done v = sym (ap (λ (t : Result). t.answer) (e ∙ finished_lost number [] r n)) ∙ done in never (cc))

  going_restarted : replay_over (board_at (restarted_in b k) b) ≡ false → Restarted b k
  unfolding call_bank start used_up loaded on_working
  going_restarted o =
      let e : restart_bank b k ≡ record { answer = Done number; run = start (restarted_in b k); given = [] } =
      restart_goes b k l down ∙ ap (finished number []) (if_going b (start (restarted_in b k)) o) ∙ finished_done number [] (start (restarted_in b k)) refl in
      let y : board_at (restart_bank b k).run.bank b ≡ used_up (loaded (board_at k b)) = ap (λ (t : Result). board_at t.run.bank b) e ∙ awake_board in
      begins
      (ap (λ (z : Board). z.state) y)
      (ap (λ (z : Board). z.working.number) y ∙ used_up_number (loaded (board_at k b)))
      (ap (λ (z : Board). z.stable.selected) y)

pub restarted : (b : ℕ) (k : Bank) (v : ℕ) → Counted k → (call_bank (Restarting b) k).answer ≡ Done v → Restarted b k
unfolding call_bank
restarted b k v h done =
    let (l, down) = restart_entered b k v done in
    by_bool (replay_over (board_at (restarted_in b k) b)) (over_restarted b k l down h v done) (going_restarted b k l down h)
