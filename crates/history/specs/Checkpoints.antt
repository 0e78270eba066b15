-- A checkpoint keeps the invariant: its frames and head go to the spare area, which the invariant doesn't see; its selector makes every entry stable.
-- Assumes nothing.
use Rattle.std.proofs.Math.Path.{◌≡◌, sym, ap}
use Rattle.std.specs.Prelude.{refl, ℕ, ◌<◌, length}
use Rattle.std.proofs.Common.{subst, ◌∙◌, arith}
use Rattle.std.proofs.Math.Option.{Option, none}
use mathlib.Core.List.{List, []}
use Rattle.words.specs.Bytes.{each_nil}
use Rattle.types.specs.declared.Frame.{Frame}
use Rattle.types.specs.declared.State.TheVariants.{Up}
use Rattle.model.specs.Definitions.Bank.{Entry, Area, Working, Stable, Board, Bank, board_at, frame_at, on_board, on_working, on_spare}
use Rattle.model.specs.Definitions.WellFormed.{WellFormed}
use Rattle.model.specs.Definitions.Steps.{stored_frame, stored_head, burnt, stored_selector, rested_working}
use Rattle.model.specs.Definitions.Replay.{count_sum, recovery_point}
use Rattle.model.proofs.Laws.Logic.{clash}
use Rattle.model.proofs.Laws.Boards.{on_board_on_board}
use Rattle.model.proofs.Laws.Runs.Stores.{burnt_state, burnt_working, burnt_stable}
use Rattle.model.proofs.Laws.Keeps.Clauses.{fits, up_below, up_not_replaying, on_board_keeps}
use Rattle.model.proofs.Laws.Keeps.Checkpoint.{stored_selector_fits, rested_fits}
use Rattle.model.proofs.Laws.Keeps.Peers.{stored_selector_peers, rested_peers}
use Rattle.model.specs.History.Statement.{HistoryEntry, History, of_board, discard}
use Rattle.model.specs.Moves.{Saved}
use Rattle.history.specs.Rerun.{Rebuilt, checkpointed, rebuilt}
use Rattle.history.specs.Invariant.{settled_as, VolatileExplains, BoardInvariant, Invariant, nobody}
use Rattle.history.specs.Entries.{discard_all}
use Rattle.history.specs.Unstable.{exclusive_short}
use Rattle.history.specs.View.{SameView, view_holds}
use Rattle.history.specs.Lift.{on_board_invariant}
use Rattle.history.specs.Logging.{checkpoint_rebuilt, checkpoint_stable, checkpoint_volatile}
use Rattle.history.specs.PowerLoss.{StableHolds}
use Rattle.history.specs.LoggedRecords.{counts_up, up_counts, up_explained, owner_frame}
use Rattle.history.specs.CallsInProgress.{OnlyAhead, MayLosePower, on_board_may_lose, none_unstable}

-- ==== the selector

-- Board y is x after its selector was stored, whatever its fuse is; x may show less than its log explains, as after a replay.
module _ {d : List Entry} {h : History} {g : Option Rebuilt} {b : ℕ} {x : Board} (q : BoardInvariant d h g b x) (u : x.state ≡ Up)
    (size : length x.stable.selected.frames ≡ length d) (s : Saved x) (y : Board) (area : y.stable.selected ≡ x.stable.spare) where
  abbrev es : List HistoryEntry
  es = of_board b h.entries

  selected_number : y.stable.selected.number ≡ length es
  selected_number = ap (λ (a : Area). a.number) area ∙ s.number ∙ (counts_up q u).1

  selected_records : y.stable.selected.log ≡ []
  selected_records = ap (λ (a : Area). a.log) area ∙ s.records

  selected_frames : y.stable.selected.frames ≡ x.working.frames
  selected_frames = ap (λ (a : Area). a.frames) area ∙ s.frames

  selected_rebuilt : (rebuilt y es).frames ≡ x.working.frames
  unfolding checkpointed
  selected_rebuilt = cc (checkpoint_rebuilt y es selected_records selected_number, selected_frames)

  selected_point : recovery_point y ≡ length es
  unfolding recovery_point count_sum
  selected_point = omega (arith, selected_number, ap count_sum selected_records)

  -- what a power loss right after the selector needs
  pub selected_stable : StableHolds d h b y
  selected_stable =
      record {
        stable = checkpoint_stable y es selected_records selected_number;
        owned = λ p j o.
            let z : discard b (recovery_point y) h.entries ≡ h.entries = discard_all b (recovery_point y) h.entries (omega (arith, selected_point)) in
            cc (owner_frame q u p j size o, selected_rebuilt);
        exclusive = λ p. exclusive_short b (recovery_point y) p h.entries (omega (arith, selected_point));
        unstable = λ p j w. clash w (none_unstable b h y p selected_point);
      }

  -- and with the volatile log emptied nothing is ahead any more
  pub selected_holds : y.state ≡ Up → y.working ≡ rested_working x.working → BoardInvariant d h none b y
  unfolding settled_as checkpointed rested_working
  selected_holds v w =
      record {
        counts = up_counts y es (h.cursor b) v ((counts_up q u).0, ap (λ (t : Working). t.number) w ∙ (counts_up q u).1);
        stable = selected_stable.stable;
        explained =
            up_explained none y es v
            (subst (λ (fs : List Frame). VolatileExplains y es (record { frames = fs; pending = [] }))
            (selected_frames ∙ sym (ap (λ (t : Working). t.frames) w))
            (checkpoint_volatile y es selected_records selected_number (ap (λ (t : Working). t.log) w) (ap (λ (t : Working). t.since) w)));
        ahead = λ p t j i e. let z : ◌≡◌ {A = ℕ} 0 1 = cc in absurd (omega arith);
        copies = λ p j m. ap (λ (t : Working). (frame_at t.frames p).bytes) w ∙ q.copies p j m;
        owned = selected_stable.owned;
        exclusive = selected_stable.exclusive;
        unstable = selected_stable.unstable;
        volatile = rw (ap (λ (t : Working). t.log) w) each_nil;
      }

-- ==== the stores before the selector

-- the invariant doesn't see the spare area
spare_view : (f : Area → Area) (x : Board) → SameView x (on_spare f x)
unfolding on_spare
spare_view f x = record { state = refl; working = refl; selected = refl }

pub frame_view : (p : ℕ) (x : Board) → SameView x (stored_frame p x)
unfolding stored_frame
frame_view p x = spare_view _ x

pub head_view : (x : Board) → SameView x (stored_head x)
unfolding stored_head
head_view x = spare_view _ x

-- a store that the invariant doesn't see
pub spare_invariant : {g : ℕ → Option Rebuilt} {h : History} (b : ℕ) (f : Board → Board) (k : Bank) → Invariant g k h
    → ((x : Board) → SameView x (f x)) → WellFormed (on_board b f k) → Invariant g (on_board b f k) h
spare_invariant b f k q v w = on_board_invariant b f k q w (λ c m. refl) (λ i t. view_holds (board_at k b) (f (board_at k b)) (v (board_at k b)) t)

-- ==== the selector's store, and the step after it

module _ {g : ℕ → Option Rebuilt} {h : History} (b : ℕ) (a : OnlyAhead g b) (k : Bank) (q : Invariant g k h) (u : (board_at k b).state ≡ Up)
    (s : Saved (board_at k b)) where
  below : b < length k.boards
  below = up_below k b u

  size : length (board_at k b).stable.selected.frames ≡ length k.directory
  size = (fits q.formed b below).alone.fields.selected.frames.count

  pub selector_keeps : WellFormed (on_board b stored_selector k)
  selector_keeps =
      on_board_keeps b stored_selector k q.formed
      (λ l m.
      stored_selector_fits k.directory b (board_at k b) m (λ e. up_not_replaying u e)
      (omega (arith, ap length s.records, m.alone.fields.working.log.count)))
      (stored_selector_peers (board_at k b))

  -- the board may lose power right after the store
  pub selector_may_lose : MayLosePower b (on_board b stored_selector k) h
  unfolding stored_selector
  selector_may_lose =
      let x : Board = board_at k b in
      on_board_may_lose b stored_selector k q below a selector_keeps (selected_stable (q.boards b below) u size s (stored_selector x) refl)

  -- or go on
  pub selector_rests : WellFormed (on_board b burnt (on_board b stored_selector k))
      → Invariant nobody (on_board b (on_working rested_working) (on_board b burnt (on_board b stored_selector k))) h
  unfolding nobody on_working stored_selector
  selector_rests w =
      let x : Board = board_at k b in
      let j : Bank = on_board b burnt (on_board b stored_selector k) in
      let f : Board → Board = λ z. on_working rested_working (burnt (stored_selector z)) in
      let e : on_board b (on_working rested_working) j ≡ on_board b f k =
      ap (on_board b (on_working rested_working)) (on_board_on_board b stored_selector burnt k)
      ∙ on_board_on_board b (λ z. burnt (stored_selector z)) (on_working rested_working) k in
      let v : WellFormed (on_board b (on_working rested_working) j) =
      on_board_keeps b (on_working rested_working) j w (λ l m. rested_fits j.directory b (board_at j b) m)
      (rested_peers (board_at j b)) in
      rw e
      (on_board_invariant b f k q (rw e at v) (λ c n. sym (a c n))
      (λ l t. selected_holds t u size s (f x) (ap (λ (i : Stable). i.selected) (burnt_stable (stored_selector x))) (burnt_state (stored_selector x) ∙ u)
      (ap rested_working (burnt_working (stored_selector x)))))
