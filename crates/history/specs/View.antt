-- The invariant looks at a board's state, working memory and selected area, and at nothing else: not at its fuse, its spare area or its selector. What changes
-- only those keeps it. Assumes nothing.
use Rattle.std.specs.Prelude.{◌≡◌, ℕ, List}
use Rattle.std.proofs.Math.Path.{refl}
use Rattle.std.proofs.Common.{ap, ◌∙◌}
use Rattle.std.proofs.Math.Option.{Option, none, some}
use Rattle.types.specs.declared.State.{State}
use Rattle.types.specs.declared.State.TheVariants.{Up, Down, Replaying}
use Rattle.model.specs.Definitions.Bank.{Entry, Working, Board, frame_at}
use Rattle.model.specs.Definitions.Replay.{recovery_point, records_left}
use Rattle.model.specs.History.Statement.{HistoryEntry, History, of_board}
use Rattle.history.specs.Rerun.{Rebuilt, checkpointed, stable_entries, unstable_entries, stable_trace, rebuilt, volatile_trace, trace_left}
use Rattle.history.specs.Invariant.{CountsAgree, StableExplains, settled_as, Explains, BoardInvariant}

-- what the invariant sees of a board is the same
pub record SameView (x y : Board) : Type 0 where
  pub state : x.state ≡ y.state
  pub working : x.working ≡ y.working
  pub selected : x.stable.selected ≡ y.stable.selected

module _ (x y : Board) (v : SameView x y) where
  view_recovery : recovery_point x ≡ recovery_point y
  unfolding recovery_point
  view_recovery = cc

  view_stable_trace : (es : List HistoryEntry) → stable_trace x es ≡ stable_trace y es
  unfolding stable_trace stable_entries
  view_stable_trace es = cc

  view_checkpointed : checkpointed x ≡ checkpointed y
  unfolding checkpointed
  view_checkpointed = cc

  view_rebuilt : (es : List HistoryEntry) → rebuilt x es ≡ rebuilt y es
  unfolding rebuilt
  view_rebuilt es = cc (view_checkpointed, view_stable_trace es)

  view_volatile_trace : (es : List HistoryEntry) → volatile_trace x es ≡ volatile_trace y es
  unfolding volatile_trace unstable_entries
  view_volatile_trace es = cc (view_recovery)

  view_left : records_left x ≡ records_left y
  unfolding records_left
  view_left = cc

  view_trace_left : (es : List HistoryEntry) → trace_left x es ≡ trace_left y es
  unfolding trace_left
  view_trace_left es = cc (view_left)

  view_counts : (s : State) (es : List HistoryEntry) (c : ℕ) → CountsAgree s x es c → CountsAgree s y es c
  unfolding CountsAgree
  view_counts Up es c q = (q.0, cc q.1)
  view_counts Down es c q = q ∙ view_recovery
  view_counts Replaying es c q = (cc q.0, q.1 ∙ view_recovery)

  view_stable : (es : List HistoryEntry) → StableExplains x es → StableExplains y es
  view_stable es q =
      record {
        reached = rw view_recovery at q.reached;
        accepted = rw (view_checkpointed, view_stable_trace es) at q.accepted;
      }

  view_settled : (g : Option Rebuilt) → settled_as g x ≡ settled_as g y
  unfolding settled_as
  view_settled none = cc
  view_settled (some t) = refl

  view_explains : (s : State) (g : Option Rebuilt) (es : List HistoryEntry) → Explains s g x es → Explains s g y es
  unfolding Explains
  view_explains Up g es q =
      record {
        accepted = rw (view_rebuilt es, view_volatile_trace es) at q.accepted;
        ends = cc (q.ends, view_rebuilt es, view_volatile_trace es, view_settled g);
        rest = cc (q.rest, view_recovery);
      }
  view_explains Down g es q = q
  view_explains Replaying g es q =
      record {
        accepted = rw (view_trace_left es, v.working) at q.accepted;
        ends = cc (q.ends, view_trace_left es, view_rebuilt es);
        waits = rw (view_left, v.working) at q.waits;
        rest = cc (q.rest, view_left, view_recovery);
      }

  -- what changes nothing that the invariant sees keeps it
  pub view_holds : {d : List Entry} {h : History} {g : Option Rebuilt} {b : ℕ} → BoardInvariant d h g b x → BoardInvariant d h g b y
  view_holds {d} {h} {g} {b} q =
      record {
        counts = rw v.state at (view_counts x.state (of_board b h.entries) (h.cursor b) q.counts);
        stable = view_stable (of_board b h.entries) q.stable;
        explained = rw v.state at (view_explains x.state g (of_board b h.entries) q.explained);
        ahead = λ p t j u e o. q.ahead p t j (v.state ∙ u) e o ∙ ap (λ (w : Working). frame_at w.frames p) v.working;
        copies = λ p j m. cc (q.copies p j m, v.working);
        owned = λ p j o. cc (q.owned p j o, view_recovery, view_rebuilt (of_board b h.entries));
        exclusive = λ p. rw view_recovery at (q.exclusive p);
        unstable = λ p j u. q.unstable p j (rw view_recovery u);
        volatile = rw v.working at q.volatile;
      }
