-- A step of the replay of a board that is not up: the replay goes on, or it ends and waits for its checkpoint. Assumes nothing.
use Rattle.std.specs.Prelude.{◌≡◌, ◌≢◌, ℕ, ◌<◌, Bool, true, false, List, [], eqb}
use Rattle.std.proofs.Math.Path.{refl}
use Rattle.std.proofs.Common.{sym, ap, ◌∙◌}
use Rattle.std.proofs.Math.Option.{none, some}
use Rattle.std.proofs.Math.ListN.{length}
use borrow.Author.Tests.{eq-eqb}
use Rattle.types.specs.declared.State.TheVariants.{Up, Replaying}
use Rattle.model.specs.Definitions.Bank.{Board, Bank, board_at, entry_at, on_board, entry_in}
use Rattle.model.specs.Definitions.WellFormed.{WellFormed}
use Rattle.model.specs.Definitions.Replay.{recovery_point, records_left, took_due, replay_over, settled, settled_frame, settle}
use Rattle.model.proofs.Laws.Logic.{clash}
use Rattle.model.proofs.Laws.Boards.{frame_at_each, board_at_same, on_board_on_board}
use Rattle.model.proofs.Laws.Keeps.Clauses.{fits}
use Rattle.model.specs.Clauses.{Fits}
use Rattle.model.specs.History.Statement.{HistoryEntry, History, of_board}
use Rattle.history.specs.Rerun.{Rebuilt, rebuilt}
use Rattle.history.specs.Invariant.{BoardInvariant, Invariant, nobody, only_of}
use Rattle.history.specs.Logging.{recovery_point_same, rebuilt_same, length_rebuilt}
use Rattle.history.specs.Rights.{only_of_same, only_of_other}
use Rattle.history.specs.Replaying.{AllUsed, replay_state, over_left, over_since, over_number, over_rebuilt, all_used_explains}
use Rattle.history.specs.Repeating.{TookLast, took_stable, took_log, took_number}
use Rattle.history.specs.Restarts.{moved, replaying_holds, settled_holds, on_board_moved}

-- Board b, not up, after a step `f` of its replay that left its stable part and its volatile log.
module _ (b : ℕ) (f : Board → Board) (k : Bank) {h : History} (q : Invariant nobody k h) (i : b < length k.boards)
    (down : (board_at k b).state ≢ Up) (area : (f (board_at k b)).stable ≡ (board_at k b).stable) (quiet : (f (board_at k b)).working.log ≡ [])
    (all : length (of_board b h.entries) ≡ recovery_point (board_at k b)) where
  abbrev x : Board
  x = board_at k b

  abbrev es : List HistoryEntry
  es = of_board b h.entries

  here : BoardInvariant k.directory h none b x
  unfolding nobody
  here = q.boards b i

  clauses : Fits k.directory b x
  clauses = fits q.formed b i

  -- the pages that the directory gives the board
  abbrev owned : ℕ → Bool
  owned p = eqb (entry_at k p).owner b

  settled_bank : settle b (on_board b f k) ≡ on_board b (λ y. settled owned (f y)) k
  unfolding settle entry_at on_board
  settled_bank = on_board_on_board b f (settled owned) k

  settled_now : (c : ℕ) → (f x).working.since ≡ 0 → c ≡ length es → (f x).working.number ≡ length es → (f x).working.frames ≡ (rebuilt x es).frames
      → BoardInvariant k.directory (moved b c h) (some (rebuilt x es)) b (settled owned (f x))
  unfolding settled entry_at settled_frame
  settled_now c since cursor number frames =
      settled_holds here clauses down (settled owned (f x)) area c refl quiet since cursor number all
      (λ p l o.
      let n : p < length (f x).working.frames = rw (frames, length_rebuilt x es, clauses.alone.fields.selected.frames.count) l in
      cc (frame_at_each p (λ p g. settled_frame (owned p) g) (f x).working.frames n, eq-eqb (entry_in k.directory p).owner b o, frames))

  -- its frames are what its stable memory rebuilds, and the pages of others go
  settled_invariant : (c : ℕ) → WellFormed (settle b (on_board b f k)) → (f x).working.since ≡ 0 → c ≡ length es → (f x).working.number ≡ length es
      → (f x).working.frames ≡ (rebuilt x es).frames → Invariant (only_of b (rebuilt x es)) (settle b (on_board b f k)) (moved b c h)
  unfolding nobody
  settled_invariant c v since cursor number frames =
      let t : Rebuilt = rebuilt x es in
      rw settled_bank
      (on_board_moved b c (λ y. settled owned (f y)) k q (rw settled_bank at v) (λ d n. only_of_other b t d n)
      (λ l r. rw (only_of_same b t) (settled_now c since cursor number frames)))

  -- ---- goes on, or ends

  module _ (state : (f x).state ≡ Replaying) (used : AllUsed (f x) es) where
    same_selected : (f x).stable.selected ≡ x.stable.selected
    same_selected = rw area

    goes_on : replay_over (f x) ≡ false → WellFormed (on_board b f k) → Invariant nobody (on_board b f k) (moved b (f x).working.number h)
    unfolding nobody
    goes_on o v =
        on_board_moved b (f x).working.number f k q v (λ c n. refl)
        (λ l r. replaying_holds here clauses down (f x) area (f x).working.number state quiet refl all (all_used_explains (f x) es used o))

    ends : WellFormed (settle b (on_board b f k)) → replay_over (f x) ≡ true
        → Invariant (only_of b (rebuilt x es)) (settle b (on_board b f k)) (moved b (f x).working.number h)
    ends v o =
        let left : records_left (f x) ≡ [] = over_left (f x) o in
        let all' : length es ≡ recovery_point (f x) = all ∙ sym (recovery_point_same x (f x) same_selected) in
        let number : (f x).working.number ≡ length es = over_number [] (f x) es used.replays left ∙ sym all' in
        let frames : replay_state [] (f x) ≡ rebuilt x es =
        over_rebuilt [] (f x) es used.replays left all' ∙ rebuilt_same x (f x) same_selected es es refl in
        settled_invariant (f x).working.number v (over_since [] (f x) es used.replays left) number number (ap (λ (t : Rebuilt). t.frames) frames)

-- ---- what a step of a replay left, in words of the bank after it

-- Bank j, after a step of board d's replay; `c` is the cursor that goes with it. If records are left the replay goes on, else it may be settled.
pub record ReplayStep (d : ℕ) (h : History) (c : ℕ) (j : Bank) : Type 0 where
  pub goes : replay_over (board_at j d) ≡ false → WellFormed j → Invariant nobody j (moved d c h)
  pub ends : replay_over (board_at j d) ≡ true → WellFormed (settle d j) → (t : Rebuilt) × Invariant (only_of d t) (settle d j) (moved d c h)

-- the records that were due are used up
pub used_step : (d : ℕ) (f : Board → Board) (k : Bank) {h : History} → Invariant nobody k h → d < length k.boards → (board_at k d).state ≢ Up
    → (f (board_at k d)).stable ≡ (board_at k d).stable → (f (board_at k d)).working.log ≡ []
    → length (of_board d h.entries) ≡ recovery_point (board_at k d) → (f (board_at k d)).state ≡ Replaying → AllUsed (f (board_at k d)) (of_board d h.entries)
    → ReplayStep d h (f (board_at k d)).working.number (on_board d f k)
used_step d f k {h} q i down area quiet all state used =
    let now : board_at (on_board d f k) d ≡ f (board_at k d) = board_at_same d f k i in
    record {
      goes = λ o v. goes_on d f k q i down area quiet all state used (rw now at o) v;
      ends = λ o v. (rebuilt (board_at k d) (of_board d h.entries), ends d f k q i down area quiet all state used v (rw now at o));
    }

-- the last gots were taken: the replay is over
pub last_step : (d : ℕ) (k : Bank) {h : History} → Invariant nobody k h → d < length k.boards → (board_at k d).state ≢ Up
    → (board_at k d).working.log ≡ [] → length (of_board d h.entries) ≡ recovery_point (board_at k d) → replay_over (took_due (board_at k d)) ≡ true
    → h.cursor d ≡ (board_at k d).working.number → TookLast (board_at k d) (of_board d h.entries) → ReplayStep d h (h.cursor d) (on_board d took_due k)
last_step d k {h} q i down quiet all over cursor last =
    let x : Board = board_at k d in
    let now : board_at (on_board d took_due k) d ≡ took_due x = board_at_same d took_due k i in
    record {
      goes = λ o v. clash (rw now over) o;
      ends = λ o v. (
        rebuilt x (of_board d h.entries),
        settled_invariant d took_due k q i down (took_stable x) ((took_log x) ∙ quiet) all (h.cursor d) v
            last.since (cursor ∙ last.number) (took_number x ∙ last.number) (ap (λ (t : Rebuilt). t.frames) last.state),
      );
    }
