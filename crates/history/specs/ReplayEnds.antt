-- A replay ends after exactly as many accesses as its area's records count, or on entering the next one that needs the last record: the claim of
-- ReplayEndsStatement, of every system that calls reach from a fresh bank under the premise. Assumes nothing.
use Rattle.std.specs.Prelude.{◌≡◌, ◌≢◌, ◌↔◌, ◌⊎◌, ℕ, ◌+◌, ◌<◌, true, false, length}
use Rattle.std.proofs.Math.Path.{refl, sym, ap}
use Rattle.std.proofs.Common.{subst, ◌∙◌, lt-ltb, le-ltb}
use Rattle.std.proofs.Math.Logic.{inl, inr, ⊎_elim}
use native.Mathlib.Omega.{arith}
use Rattle.std.proofs.Math.Option.{some}
use mathlib.Core.List.{List, [], ◌∷◌}
use Rattle.types.specs.declared.State.{State}
use Rattle.types.specs.declared.State.TheVariants.{Up, Down, Replaying}
use Rattle.types.specs.declared.Answer.TheVariants.{Done}
use Rattle.model.specs.Definitions.Bank.{Area, Board, Bank, no_board, board_at}
use Rattle.model.specs.Definitions.Codec.{decode}
use Rattle.model.specs.Definitions.WellFormed.{SizesOk, is_replaying}
use Rattle.model.specs.Definitions.Steps.{Access}
use Rattle.model.specs.Definitions.Replay.{recovery_point}
use Rattle.model.specs.Definitions.Calls.{Call, Restarting, call_bank}
use Rattle.model.proofs.Laws.Logic.{clash, by_eq, by_state}
use Rattle.model.proofs.Laws.Boards.{board_at_out, by_board}
use Rattle.model.proofs.Laws.Runs.{lost_not}
use Rattle.model.proofs.Laws.Keeps.Clauses.{up_not_down, up_not_replaying, down_not_replaying}
use Rattle.model.specs.History.Statement.{History, of_board, entry_count, repeats, System, access_of, after, Premises, after_seen, PremiseSeen, PremisesSeen}
use Rattle.model.specs.History.Statement.{run_of}
use Rattle.history.specs.Invariant.{CountsAgree, Invariant, nobody}
use Rattle.history.specs.Logging.{recovery_point_same}
use Rattle.history.specs.Recovery.{CountedBoard, call_counted}
use Rattle.history.specs.Reached.{Stands, answer_is, bank_is, stands_after, stands_all, stands_reached}
use Rattle.model.specs.History.ReplayEndsStatement.{replay_length, last_is_got, ends_in_got, board_in, answer_in, after_all, done_by, done_in, RefusedOnEntry}
use Rattle.model.specs.History.ReplayEndsStatement.{StaysReplaying, Reached, Ends, exactly, entering, EndsAsSaid}
use Rattle.history.specs.ReplayCounts.{Standing, standing}
use Rattle.history.specs.ReplayCalls.{done_one, GoesOn, After, waits, one_more, is_cut, ends_exactly, ends_entering, call_after, Restarted, ends_at_once}
use Rattle.history.specs.ReplayCalls.{begins, restarted}

-- ==== the count

-- a call after which the board still replays
still : {b : ℕ} {c : Call} {k : Bank} → (board_at (call_bank c k).run.bank b).state ≡ Replaying → After b c k → GoesOn b c k
unfolding is_replaying
still u (waits g n) = g
still u (one_more a v n d g) = g
still u (is_cut d) = down_not_replaying d u
still u (ends_exactly a v n d m e f) = clash (ap is_replaying u) f
still u (ends_entering a r rs n d x m e f) = clash (ap is_replaying u) f

stays_first : (b : ℕ) (cs : List Call) (t : System) → StaysReplaying b cs t → (board_in b t).state ≡ Replaying
unfolding StaysReplaying
stays_first b [] t s = s
stays_first b (c ∷ cs) t s = s.0

-- where a replay stands after calls during which it went on
record Stood (b : ℕ) (cs : List Call) (t : System) : Type 0 where
  state : (board_in b (after_all cs t)).state ≡ Replaying
  number : (board_in b (after_all cs t)).working.number ≡ (board_in b t).working.number + done_in b cs t
  selected : (board_in b (after_all cs t)).stable.selected ≡ (board_in b t).stable.selected

stood : (b : ℕ) (cs : List Call) (t : System) → Stands t → Premises cs t → StaysReplaying b cs t → Stood b cs t
unfolding StaysReplaying Premises PremisesSeen run_of after_seen after_all done_in
stood b [] t s p r = record { state = r; number = omega arith; selected = refl }
stood b (c ∷ cs) t s p r =
    let rest : Stood b cs (after c t) = stood b cs (after c t) (stands_after t s c p.0) p.1 r.1 in
    let e : decode (after c t).bytes ≡ (call_bank c (decode t.bytes)).run.bank = bank_is t s c in
    let g : GoesOn b c (decode t.bytes) =
    still (rw e at (stays_first b cs (after c t) r.1))
    (call_after b c (decode t.bytes) s.invariant.formed s.counted r.0) in
    let n : (board_in b (after c t)).working.number ≡ (board_in b t).working.number + done_by b c (answer_in c t) = rw (e, answer_is t s c) g.number in
    record {
      state = rest.state;
      number = omega (arith, rest.number);
      selected = rest.selected ∙ rw e g.selected;
    }

-- ==== what the history says of it

replaying_below : (k : Bank) (b : ℕ) → (board_at k b).state ≡ Replaying → b < length k.boards
unfolding no_board
replaying_below k b u = by_board k b (λ l. l) (λ l. down_not_replaying (ap (λ (x : Board). x.state) (board_at_out k b l)) u)

-- the cursor is the access number, and the entries are those up to the recovery point
cursor_is : (b : ℕ) (k : Bank) {h : History} → Invariant nobody k h → (board_at k b).state ≡ Replaying
    → (h.cursor b ≡ (board_at k b).working.number) × (entry_count b h ≡ recovery_point (board_at k b))
unfolding CountsAgree entry_count
cursor_is b k {h} q u =
    subst (λ (s : State). CountsAgree s (board_at k b) (of_board b h.entries) (h.cursor b)) u (q.boards b (replaying_below k b u)).counts

repeats_below : (b : ℕ) (k : Bank) {h : History} → Invariant nobody k h → (board_at k b).state ≡ Replaying
    → (board_at k b).working.number < recovery_point (board_at k b) → repeats b h ≡ true
unfolding repeats
repeats_below b k {h} q u l = let c = cursor_is b k q u in lt-ltb (h.cursor b) (entry_count b h) (omega (arith, c.0, c.1))

repeats_none : (b : ℕ) (k : Bank) {h : History} → Invariant nobody k h → (board_at k b).state ≡ Replaying
    → (board_at k b).working.number ≡ recovery_point (board_at k b) → repeats b h ≡ false
unfolding repeats
repeats_none b k {h} q u l = let c = cursor_is b k q u in le-ltb (h.cursor b) (entry_count b h) (omega (arith, c.0, c.1))

-- ==== the claim

module _ (b : ℕ) (t : System) (s : Stands t) (v : ℕ) (done : answer_in (Restarting b) t ≡ Done v) where
  abbrev x : Board
  x = board_in b t

  abbrev from : System
  from = after (Restarting b) t

  stands_from : Stands from
  unfolding PremiseSeen access_of
  stands_from = stands_after t s (Restarting b) (λ d a e n m r i. lost_not refl n)

  first : Restarted b (decode t.bytes)
  first = restarted b (decode t.bytes) v s.counted (sym (answer_is t s (Restarting b)) ∙ done)

  bank_from : decode from.bytes ≡ (call_bank (Restarting b) (decode t.bytes)).run.bank
  bank_from = bank_is t s (Restarting b)

  -- after calls during which it went on, `y` is the board
  module _ (cs : List Call) (p : Premises cs from) (r : StaysReplaying b cs from) where
    abbrev now : System
    now = after_all cs from

    abbrev y : Board
    y = board_in b now

    abbrev m : ℕ
    m = done_in b cs from

    stands_now : Stands now
    stands_now = stands_all cs from stands_from p

    place : Stood b cs from
    place = stood b cs from stands_from p r

    began : ((board_in b from).working.number ≡ x.stable.selected.number) × ((board_in b from).stable.selected ≡ x.stable.selected)
    began =
        let u : (board_at (call_bank (Restarting b) (decode t.bytes)).run.bank b).state ≡ Replaying = rw bank_from at (stays_first b cs from r) in
        elim first [
          | ends_at_once w n g ↦ up_not_replaying w u
          | begins w n g ↦ (rw bank_from n, rw bank_from g)
        ]

    number_now : y.working.number ≡ x.stable.selected.number + m
    number_now = omega (arith, place.number, began.0)

    selected_now : y.stable.selected ≡ x.stable.selected
    selected_now = place.selected ∙ began.1

    point_now : recovery_point y ≡ recovery_point x
    point_now = recovery_point_same x y selected_now

    ends_now : ends_in_got y ≡ ends_in_got x
    unfolding ends_in_got
    ends_now = ap (λ (a : Area). last_is_got a.log) selected_now

    counted_now : CountedBoard y
    counted_now = stands_now.counted b (replaying_below (decode now.bytes) b place.state)

    going_now : (m < replay_length x) ⊎ ((m ≡ replay_length x) × (ends_in_got x ≡ true))
    unfolding replay_length
    going_now =
        let d : Standing y = standing y counted_now place.state in
        by_eq y.working.number (recovery_point y)
        (λ e. inr (omega (arith, number_now, point_now), sym ends_now ∙ d.last e))
        (λ n. inl (omega (arith, number_now, point_now, d.below)))

    -- the next call
    module _ (c : Call) where
      abbrev k : Bank
      k = decode now.bytes

      abbrev next : Bank
      next = (call_bank c (decode now.bytes)).run.bank

      next_is : decode (after c now).bytes ≡ (call_bank c (decode now.bytes)).run.bank
      next_is = bank_is now stands_now c

      answer_now : answer_in c now ≡ (call_bank c (decode now.bytes)).answer
      answer_now = answer_is now stands_now c

      does : After b c (decode now.bytes)
      does = call_after b c (decode now.bytes) stands_now.invariant.formed stands_now.counted place.state

      ended_now : (board_in b (after c now)).state ≡ Up → Ends b x m c now
      unfolding replay_length is_replaying
      ended_now u =
          let w : (board_at next b).state ≡ Up = rw next_is at u in
          elim does [
            | waits g n ↦ up_not_replaying w g.state
            | one_more a z n d g ↦ up_not_replaying w g.state
            | is_cut d ↦ up_not_down w d
            | ends_exactly a z n d e f o ↦
                exactly a z n (answer_now ∙ d) (sym ends_now ∙ f) (omega (arith, number_now, point_now))
                (repeats_below b k stands_now.invariant place.state (omega arith))
            | ends_entering a z zs n d i e f o ↦
                entering a z zs n (sym ends_now ∙ f) (omega (arith, number_now, point_now)) d i
                (repeats_none b k stands_now.invariant place.state e)
          ]

      -- a replay that goes on stands where its count says
      next_standing : (g : GoesOn b c (decode now.bytes)) → Standing (board_at next b)
      next_standing g =
          standing (board_at next b) (call_counted c k stands_now.invariant.formed stands_now.counted b (replaying_below next b g.state)) g.state

      next_point : (g : GoesOn b c (decode now.bytes)) → recovery_point (board_at next b) ≡ recovery_point y
      next_point g = recovery_point_same y (board_at next b) g.selected

      exact_now : ends_in_got x ≡ false → (board_in b (after c now)).state ≢ Down
          → ((board_in b (after c now)).state ≡ Up) ↔ (m + done_by b c (answer_in c now) ≡ replay_length x)
      unfolding replay_length ends_in_got
      exact_now plain on = (
        λ u.
            elim (ended_now u) [
              | exactly a z n d f e i ↦ rw (d, done_one b c a z n) e
              | entering a r rs n f e d i j ↦ clash f plain
            ],
        λ e.
            by_state (board_in b (after c now)).state
            (λ u. u)
            (λ u. absurd (on u))
            (λ u.
            let g : GoesOn b c (decode now.bytes) = still (rw next_is at u) does in
            let z : (board_at next b).working.number ≡ recovery_point (board_at next b) =
            omega (arith, g.number, number_now, point_now, next_point g, ap (done_by b c) answer_now, (next_standing g).below) in
            clash
            (sym (ap (λ (a : Area). last_is_got a.log) (g.selected ∙ selected_now)) ∙ (next_standing g).last z)
            plain),
      )

      -- one more would be too many
      no_more : (a : Access) (z : ℕ) → y.working.number ≡ recovery_point y → access_of c ≡ some (b, a) → (call_bank c (decode now.bytes)).answer ≡ Done z
          → GoesOn b c (decode now.bytes) → ⊥
      no_more a z full named d g =
          let i : done_by b c (call_bank c (decode now.bytes)).answer ≡ 1 = rw d (done_one b c a z named) in
          omega (arith, (next_standing g).below, next_point g, i, g.number)

      entered_now : (a : Access) → m ≡ replay_length x → access_of c ≡ some (b, a) → ¬ RefusedOnEntry (answer_in c now)
          → (board_in b (after c now)).state ≢ Replaying
      unfolding replay_length is_replaying
      entered_now a e named free u =
          let w : (board_at next b).state ≡ Replaying = rw next_is at u in
          let full : y.working.number ≡ recovery_point y = omega (arith, number_now, point_now, (standing y counted_now place.state).below) in
          elim does [
            | waits g n ↦ free (rw answer_now (n a named))
            | one_more d z n i g ↦ no_more d z full n i g
            | is_cut d ↦ down_not_replaying d w
            | ends_exactly d z n i f g o ↦ clash (ap is_replaying w) o
            | ends_entering d z zs n i f g j o ↦ clash (ap is_replaying w) o
          ]

  -- ---- at once

  no_premises : Premises [] from
  unfolding Premises PremisesSeen run_of after_seen
  no_premises = tt

  none_done : done_in b [] from ≡ 0
  unfolding done_in
  none_done = refl

  at_once_lem : ((board_in b from).state ≡ Up) ↔ ((replay_length x ≡ 0) × (ends_in_got x ≡ false))
  unfolding replay_length StaysReplaying
  at_once_lem = (
    λ u.
        let w : (board_at (call_bank (Restarting b) (decode t.bytes)).run.bank b).state ≡ Up = rw bank_from at u in
        elim first [
          | ends_at_once z n g ↦ (omega arith, g)
          | begins z n g ↦ up_not_replaying w z
        ],
    λ h.
        elim first [
          | ends_at_once z n g ↦ rw bank_from z
          | begins z n g ↦
              let r : (board_in b from).state ≡ Replaying = rw bank_from z in
              ⊎_elim
              (λ l. absurd (omega (arith, none_done, h.0)))
              (λ e. clash e.1 h.1)
              (going_now [] no_premises r)
        ],
  )

  said : EndsAsSaid b t
  said =
      record {
        at_once = at_once_lem;
        going = λ cs r. going_now cs r.premises r.stays;
        exact = λ cs c r. exact_now cs r.premises r.stays c;
        entered = λ cs c a r. entered_now cs r.premises r.stays c a;
        ended = λ cs c r. ended_now cs r.premises r.stays c;
      }

-- "this holds in banks reached from a fresh one under demand 3's premise"
pub replay_ends : (n p : ℕ) → SizesOk n p → (t : System) → Reached n p t → (b v : ℕ) → answer_in (Restarting b) t ≡ Done v → EndsAsSaid b t
replay_ends n p sizes t r b v done = said b t (stands_reached sizes r) v done
