-- Codes 2 to 7, 10 and 12 of every call on a well-formed bank: the answer is that of the first row of the table that holds, and a call that no row refuses is
-- done or lost power. Assumes nothing.
use Rattle.std.specs.Prelude.{◌≡◌, refl, ◌≢◌, ◌⊎◌, ℕ, ◌≤◌, ◌<◌, Bool, true, false, ◌&&◌, not, length, eqb, ltb}
use Rattle.std.proofs.Common.{inl, inr, lt_of_not-le}
use Rattle.std.proofs.Math.Option.{none}
use mathlib.Core.List.{List, [], ◌∷◌}
use Rattle.types.specs.declared.Frame.{Frame}
use Rattle.types.specs.declared.State.{State}
use Rattle.types.specs.declared.State.TheVariants.{Up, Down, Replaying}
use Rattle.types.specs.declared.Answer.{Answer}
use Rattle.types.specs.declared.Answer.TheVariants.{OutOfRange, WrongState, CountersFull, ReplayDiffers, OwnerNotUp, LogFull, PowerLost, WrongCells}
use Rattle.types.specs.declared.Answer.TheVariants.{SameBoard}
use Rattle.model.specs.Definitions.Layout.{most_boards, no_fuse, last_since}
use Rattle.model.specs.Definitions.Bank.{Board, Bank, board_at, entry_at, on_board}
use Rattle.model.specs.Definitions.WellFormed.{WellFormed, PlaceOk, is_up, is_down, is_replaying}
use Rattle.model.specs.Definitions.Answers.{code, value, who}
use Rattle.model.specs.Definitions.Steps.{Run, start, step, fuse_board, checkpoint, Access, value_of, given_of, access}
use Rattle.model.specs.Definitions.Replay.{loaded, used_up, differs, took_due, replay_over, end_if_over, replayed}
use Rattle.model.specs.Definitions.Calls.{Result, unless, finished, short_board, is_some, number_in, page_missing, live_refusals, prepared, performed, live}
use Rattle.model.specs.Definitions.Calls.{live_after_end, replaying, access_in_range, wrong_cells, counters_full, refusals_within, access_within, access_bank}
use Rattle.model.specs.Definitions.Calls.{checkpoint_bank, fuse_bank, restart_bank, Call, Accessing, Checkpointing, Fusing, Restarting, call_bank}
use Rattle.model.specs.Definitions.Calls.{compare_bank, Comparing}
use Rattle.model.specs.Definitions.Logs.{compared_logs}
use Rattle.model.proofs.Laws.Logic.{cases, cases_option}
use Rattle.model.proofs.Laws.Boards.{board_at_same, boards_on_board}
use Rattle.model.proofs.Laws.Runs.{follows_end_replay}
use Rattle.model.specs.Laws.Codes.Statement.{Row, OfAccess, board_named, AccessOut, NumbersOut, CellsOut, AskedOut, StateOut, CountersEnd, CountersOut}
use Rattle.model.specs.Laws.Codes.Statement.{ReplayOther, ReplayOut, after_replay, LiveOn, up, replay_ended, Live, SomeMissing, OwnerOut, LowestMissing}
use Rattle.model.specs.Laws.Codes.Statement.{SomeShort, RoomOut, LowestShort, SameTwice, refusal_rows}
use Rattle.model.proofs.Laws.Tests.{Says, says_and, says_down, says_eq, says_replaying}
use Rattle.model.proofs.Laws.Codes.Order.{never, fails, says_absurd, says_iff, says_no, says_not_and, says_not_lt, Judged, judged_nil}
use Rattle.model.proofs.Laws.Codes.Order.{judged_past, judged_test, judged_go}
use Rattle.model.proofs.Laws.Codes.Tests.{access_out, cells_out, counters_end, replay_other, LastDue, last_due}
use Rattle.model.proofs.Laws.Codes.Cases.{compared_cases}
use Rattle.model.proofs.Laws.Codes.Needs.{some_missing, lowest_missing, some_short, lowest_short}

-- what is answered where nothing is refused: done, or "a fuse blew"
abbrev pub Ran : Answer → Type 0
Ran x = (code x ≡ 0) ⊎ (code x ≡ 8)

finished_ran : (v : ℕ) (given : List ℕ) (r : Run) → Ran (finished v given r).answer
unfolding finished code
finished_ran v given r = cases_option (λ (t : Result). Ran t.answer) r.lost (λ n. inl refl) (λ b e. inr refl)

-- ==== 6 and 7: a live access

performed_ran : (b : ℕ) (a : Access) (r : Run) → Ran (performed b a r).answer
unfolding performed
performed_ran b a r =
    let fs : List Frame = (board_at r.bank b).working.frames in
    finished_ran (value_of a fs) (given_of a fs) (step (access b a) r)

-- the rows 6 and 7 of an access
live_rows : ℕ → Access → Bank → List Row
live_rows b a k =
    record { code = 6; when = Live (SomeMissing b a) k b a; who = λ w. Live (λ j. LowestMissing b a j w) k b a }
    ∷ record { code = 7; when = Live (SomeShort b a) k b a; who = λ w. Live (λ j. LowestShort b a j w) k b a }
    ∷ []

-- the bank j at hand is the one on which the access is live
record JudgedOn (b : ℕ) (a : Access) (k j : Bank) : Type 0 where
  live : LiveOn b a k j
  only : (i : Bank) → LiveOn b a k i → i ≡ j
  boards : length j.boards ≤ most_boards

-- what a test decides of that bank it decides of the access
says_live : (b : ℕ) (a : Access) (k j : Bank) {t : Bool} (P : Bank → Type 0) → JudgedOn b a k j → Says t (P j) → Says t (Live P k b a)
says_live b a k j P on d =
    says_iff (λ p. (j, on.live, p)) (λ u. let e : u.0 ≡ j = on.only u.0 u.1 in rw e at u.2) d

live_judged : (b : ℕ) (a : Access) (k : Bank) (r : Run) → JudgedOn b a k r.bank → Judged Ran (live_rows b a k) (live b a r).answer
unfolding live live_refusals live_rows code who value
live_judged b a k r on =
    let j : Bank = r.bank in
    let missing : Answer = OwnerNotUp (entry_at j (number_in (page_missing b a j))).owner in
    let full : Answer = LogFull (number_in (short_board b a j)) in
    let go : Result = performed b a (prepared b a r) in
    judged_test (is_some (page_missing b a j)) missing ((is_some (short_board b a j), full) ∷ []) r go
    (record {
      says = says_live b a k j (SomeMissing b a) on (some_missing b a j);
      code = refl;
      who = λ t. (j, on.live, lowest_missing b a j t);
      value = refl;
    })
    (λ n6.
    judged_test (is_some (short_board b a j)) full [] r go
    (record {
      says = says_live b a k j (SomeShort b a) on (some_short b a j on.boards);
      code = refl;
      who = λ t. (j, on.live, lowest_short b a j on.boards t);
      value = refl;
    })
    (λ n7. judged_go r go (judged_nil (performed_ran b a (prepared b a r)))))

-- an access that is not live meets neither
not_live : (b : ℕ) (a : Access) (k : Bank) (x : Answer) → ((j : Bank) → ¬ LiveOn b a k j) → Ran x → Judged Ran (live_rows b a k) x
unfolding live_rows
not_live b a k x n q = judged_past _ (λ u. n u.0 u.1) (judged_past _ (λ u. n u.0 u.1) (judged_nil q))

judged_on_up : (b : ℕ) (a : Access) (k : Bank) → length k.boards ≤ most_boards → (board_at k b).state ≡ Up → JudgedOn b a k k
judged_on_up b a k n e = record { live = up e; only = only; boards = n }
  where
    only : (i : Bank) → LiveOn b a k i → i ≡ k
    only i (up f) = refl
    only i (replay_ended f d n l) = never (cc)

-- ==== an access of a replaying board

module _ (b : ℕ) (a : Access) (k : Bank) (boards : length k.boards ≤ most_boards) (s : (board_at k b).state ≡ Replaying) where
  -- it is live on nothing but what the end of its replay left
  live_replayed : (i : Bank) → LiveOn b a k i
      → LastDue a (board_at k b) × ((after_replay b k).lost ≡ none) × (i ≡ (after_replay b k).bank)
  live_replayed i (up f) = never (cc)
  live_replayed i (replay_ended {r} {rs} f d n l) = ((r, rs, d, n), l, refl)

  ended_boards : length (after_replay b k).bank.boards ≤ most_boards
  unfolding after_replay start
  ended_boards = rw ((follows_end_replay b (start (on_board b took_due k))).sizes.boards, boards_on_board b took_due k) boards

  judged_on_replayed : LastDue a (board_at k b) → (after_replay b k).lost ≡ none → JudgedOn b a k (after_replay b k).bank
  judged_on_replayed d l = record { live = replay_ended s d.2 d.3 l; only = λ i o. (live_replayed i o).2; boards = ended_boards }

  replaying_judged : b < length k.boards → (board_at k b).working.place < length (board_at k b).stable.selected.log
      → ¬ ReplayOther a (board_at k b) → Judged Ran (live_rows b a k) (replaying b a k).answer
  unfolding replaying live_after_end after_replay code
  replaying_judged h p n =
      let taken : Bank = on_board b took_due k in
      let fs : List Frame = (board_at taken b).working.frames in
      let e : board_at taken b ≡ took_due (board_at k b) = board_at_same b took_due k h in
      let d : Says (replay_over (board_at taken b)) (LastDue a (board_at k b)) = rw e (last_due a (board_at k b) p n) in
      cases (λ (t : Result). Judged Ran (live_rows b a k) t.answer) (replay_over (board_at taken b))
      (λ t.
      cases_option (λ (t : Result). Judged Ran (live_rows b a k) t.answer) (after_replay b k).lost
      (λ l. live_judged b a k (after_replay b k) (judged_on_replayed (d.0 t) l))
      (λ c l. not_live b a k (PowerLost c) (λ j o. let m : (after_replay b k).lost ≡ none = (live_replayed j o).1 in never (cc)) (inr refl)))
      (λ t.
      not_live b a k _ (λ j o. fails d t (live_replayed j o).0)
      (finished_ran (value_of a fs) (given_of a fs) (end_if_over b (start (on_board b (replayed a) taken)))))

-- ==== 2 to 7 and 10: an access

access_rows : ℕ → Access → Bank → List Row
access_rows b a k =
    record { code = 2; when = AccessOut b a k; who = λ w. w ≡ 0 }
    ∷ record { code = 10; when = CellsOut a; who = λ w. w ≡ 0 }
    ∷ record { code = 12; when = ⊥; who = λ w. w ≡ 0 }
    ∷ record { code = 3; when = (board_at k b).state ≡ Down; who = λ w. w ≡ b }
    ∷ record { code = 4; when = CountersEnd (board_at k b); who = λ w. w ≡ b }
    ∷ record { code = 5; when = ((board_at k b).state ≡ Replaying) × ReplayOther a (board_at k b); who = λ w. w ≡ b }
    ∷ live_rows b a k

-- the board of an access in range is there
in_range : (b : ℕ) (a : Access) (k : Bank) → ¬ AccessOut b a k → b < length k.boards
unfolding AccessOut
in_range b a k n = lt_of_not-le (λ h. n (inl h))

replaying_place : (k : Bank) (b : ℕ) → WellFormed k → b < length k.boards → (board_at k b).state ≡ Replaying
    → (board_at k b).working.place < length (board_at k b).stable.selected.log
unfolding PlaceOk
replaying_place k b w h e = rw e at (w.boards b h).place

is_up_lem : (s : State) → s ≢ Down → s ≢ Replaying → s ≡ Up
is_up_lem Up d r = refl
is_up_lem Down d r = absurd (d refl)
is_up_lem Replaying d r = absurd (r refl)

access_judged : (b : ℕ) (a : Access) (k : Bank) → WellFormed k → Judged Ran (access_rows b a k) (access_bank b a k).answer
unfolding access_within refusals_within access_rows start code who value
access_judged b a k w =
    let x : Board = board_at k b in
    let go : Result = elim (is_replaying x.state) [ true ↦ replaying b a k | false ↦ live b a (start k) ] in
    let t5 : Bool × Answer = (is_replaying x.state && differs a x, ReplayDiffers b) in
    let t4 : Bool × Answer = (counters_full last_since x, CountersFull b) in
    let t3 : Bool × Answer = (is_down x.state, WrongState b) in
    judged_test (not (access_in_range b a k)) OutOfRange ((wrong_cells a, WrongCells) ∷ t3 ∷ t4 ∷ t5 ∷ []) (start k) go
    (record { says = access_out b a k; code = refl; who = λ t. refl; value = refl })
    (λ n2.
    judged_test (wrong_cells a) WrongCells (t3 ∷ t4 ∷ t5 ∷ []) (start k) go
    (record { says = cells_out a; code = refl; who = λ t. refl; value = refl })
    (λ n10.
    judged_past _ (λ u. u)
    (judged_test (is_down x.state) (WrongState b) (t4 ∷ t5 ∷ []) (start k) go
    (record { says = says_down x.state; code = refl; who = λ t. refl; value = refl })
    (λ n3.
    judged_test (counters_full last_since x) (CountersFull b) (t5 ∷ []) (start k) go
    (record { says = counters_end x; code = refl; who = λ t. refl; value = refl })
    (λ n4.
    judged_test (is_replaying x.state && differs a x) (ReplayDiffers b) [] (start k) go
    (record {
      says = says_and (says_replaying x.state) (replay_other a x);
      code = refl;
      who = λ t. refl;
      value = refl;
    })
    (λ n5.
    judged_go (start k) go
    (cases (λ (t : Result). Judged Ran (live_rows b a k) t.answer) (is_replaying x.state)
    (λ t.
    let s : x.state ≡ Replaying = (says_replaying x.state).0 t in
    let h : b < length k.boards = in_range b a k n2 in
    replaying_judged b a k w.sizes.boards s h (replaying_place k b w h s) (λ o. n5 (s, o)))
    (λ t. live_judged b a k (start k) (judged_on_up b a k w.sizes.boards (is_up_lem x.state n3 (fails (says_replaying x.state) t)))))))))))

-- ==== 2 and 3: the other calls

-- "dark .. ; checkpoint while replaying"
not_up : (s : State) → Says (not (is_up s)) ((s ≡ Down) ⊎ (s ≡ Replaying))
unfolding is_up
not_up Up = says_absurd (λ u. elim u [ inl e ↦ never (cc) | inr e ↦ never (cc) ])
not_up Down = (λ t. inl refl, λ u. refl)
not_up Replaying = (λ t. inr refl, λ u. refl)

-- the two tests that every other call makes, and then it runs
plain_judged : (c : Call) (k : Bank) (out wrong : Bool) (v : ℕ) (r : Run) → ((P : ℕ → Access → Type 0) → ¬ OfAccess P c) → (¬ SameTwice c)
    → Says out (NumbersOut c k) → Says wrong (StateOut c k)
    → Judged Ran (refusal_rows c k) (unless ((out, OutOfRange) ∷ (wrong, WrongState (board_named c)) ∷ []) (start k) (finished v [] r)).answer
unfolding refusal_rows AskedOut CountersOut ReplayOut OwnerOut RoomOut code who value
plain_judged c k out wrong v r other once d2 d3 =
    judged_test out OutOfRange ((wrong, WrongState (board_named c)) ∷ []) (start k) (finished v [] r)
    (record { says = d2; code = refl; who = λ t. refl; value = refl })
    (λ n2.
    judged_past _ (other _)
    (judged_past _ once
    (judged_test wrong (WrongState (board_named c)) [] (start k) (finished v [] r)
    (record { says = d3; code = refl; who = λ t. refl; value = refl })
    (λ n3.
    judged_go (start k) (finished v [] r)
    (judged_past _ (other _) (judged_past _ (other _) (judged_past _ (other _) (judged_past _ (other _) (judged_nil (finished_ran v [] r))))))))))

-- ==== 2 and 12: two logs held against each other

compare_judged : (b c : ℕ) (k : Bank) → Judged Ran (refusal_rows (Comparing b c) k) (compare_bank b c k).answer
unfolding compare_bank refusal_rows OfAccess NumbersOut AskedOut SameTwice StateOut CountersOut ReplayOut OwnerOut RoomOut code who value
compare_judged b c k =
    let go : Result = record { answer = compared_logs b c k; run = start k; given = [] } in
    judged_test (not (ltb b (length k.boards) && ltb c (length k.boards))) OutOfRange ((eqb b c, SameBoard) ∷ []) (start k) go
    (record {
      says =
          says_not_and (ltb b (length k.boards)) (ltb c (length k.boards))
          (says_not_lt b (length k.boards)) (says_not_lt c (length k.boards));
      code = refl;
      who = λ t. refl;
      value = refl;
    })
    (λ n2.
    judged_past _ (λ u. u)
    (judged_test (eqb b c) SameBoard [] (start k) go
    (record { says = says_eq b c; code = refl; who = λ t. refl; value = refl })
    (λ n12.
    judged_go (start k) go
    (judged_past _ (λ u. u)
    (judged_past _ (λ u. u)
    (judged_past _ (λ u. u)
    (judged_past _ (λ u. u) (judged_past _ (λ u. u) (judged_nil (compared_cases Ran (λ i d. inl refl) b c k))))))))))

pub rows_judged : (c : Call) (k : Bank) → WellFormed k → Judged Ran (refusal_rows c k) (call_bank c k).answer
unfolding call_bank refusal_rows OfAccess NumbersOut AskedOut SameTwice StateOut CountersOut ReplayOut OwnerOut RoomOut board_named access_rows live_rows
    checkpoint_bank fuse_bank restart_bank
rows_judged (Accessing b a) k w = access_judged b a k w
rows_judged (Checkpointing b) k w =
    plain_judged (Checkpointing b) k (not (ltb b (length k.boards))) (not (is_up (board_at k b).state)) 0 (checkpoint b (start k))
    (λ P u. u) (λ u. u) (says_not_lt b (length k.boards)) (not_up (board_at k b).state)
rows_judged (Fusing b n) k w =
    plain_judged (Fusing b n) k
    (not (ltb b (length k.boards) && ltb n no_fuse)) (is_down (board_at k b).state) 0 (step (fuse_board b n) (start k))
    (λ P u. u) (λ u. u)
    (says_not_and (ltb b (length k.boards)) (ltb n no_fuse) (says_not_lt b (length k.boards)) (says_not_lt n no_fuse))
    (says_down (board_at k b).state)
rows_judged (Restarting b) k w =
    plain_judged (Restarting b) k
    (not (ltb b (length k.boards))) (not (is_down (board_at k b).state))
    (board_at k b).stable.selected.number (end_if_over b (start (on_board b (λ x. used_up (loaded x)) k)))
    (λ P u. u) (λ u. u)
    (says_not_lt b (length k.boards))
    (says_no (is_down (board_at k b).state) (says_down (board_at k b).state))
rows_judged (Comparing b c) k w = compare_judged b c k
