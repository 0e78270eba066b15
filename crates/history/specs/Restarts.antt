-- Restart and replay keep the invariant: a replaying board follows its own log and entries, reads no other board and changes no history.
-- At the end its frames are what its stable memory rebuilds, and the pages of others go. Assumes nothing.
use Rattle.std.proofs.Math.Path.{◌≡◌, sym, subst}
use Rattle.std.specs.Prelude.{refl, ◌≢◌, ◌⊎◌, ℕ, ◌<◌, length}
use Rattle.std.proofs.Common.{◌∙◌, ⊎_elim, arith}
use Rattle.std.proofs.Math.Option.{Option, none, some}
use mathlib.Core.List.{List, []}
use Rattle.words.specs.Bytes.{each_nil}
use Rattle.types.specs.declared.Right.TheVariants.{Own}
use Rattle.types.specs.declared.State.{State}
use Rattle.types.specs.declared.State.TheVariants.{Up, Down, Replaying}
use Rattle.model.specs.Definitions.Bank.{Entry, Board, Bank, board_at, frame_at, on_board, entry_in}
use Rattle.model.specs.Definitions.WellFormed.{WellFormed}
use Rattle.model.specs.Definitions.Replay.{recovery_point}
use Rattle.model.proofs.Laws.Logic.{by_eq, clash}
use Rattle.model.proofs.Laws.Boards.{boards_on_board, directory_on_board, board_at_same, board_at_other}
use Rattle.model.specs.Clauses.{Fits}
use Rattle.model.specs.History.Statement.{HistoryEntry, History, of_board, with_number_of}
use Rattle.history.specs.Rerun.{Rebuilt, rebuilt}
use Rattle.history.specs.Invariant.{CountsAgree, StableExplains, ReplayExplains, settled_as, Explains, BoardInvariant, Invariant}
use Rattle.history.specs.Logging.{recovery_point_same, rebuilt_same, stable_same, nothing_volatile}
use Rattle.history.specs.LoggedRecords.{up_explained, up_counts}
use Rattle.history.specs.Accesses.{cursor_same, cursor_other}

-- ==== cursors

-- the history with another cursor of board b
unfoldable pub moved : ℕ → ℕ → History → History
moved b n h = record { entries = h.entries; cursor = with_number_of b n h.cursor }

-- the cursor of another board is not looked at
pub moved_other : {d : List Entry} {h : History} {g : Option Rebuilt} {c : ℕ} {y : Board} (b n : ℕ) → c ≢ b → BoardInvariant d h g c y
    → BoardInvariant d (moved b n h) g c y
unfolding moved
moved_other {h = h} {c = c} b n ne q =
    record {
      counts = rw (cursor_other b n h.cursor c ne) q.counts;
      stable = q.stable;
      explained = q.explained;
      ahead = q.ahead;
      copies = q.copies;
      owned = q.owned;
      exclusive = q.exclusive;
      unstable = q.unstable;
      volatile = q.volatile;
    }

-- ==== a board that is not up, after a step that leaves its stable part

module _ {d : List Entry} {h : History} {g : Option Rebuilt} {b : ℕ} {x : Board} (q : BoardInvariant d h g b x) (w : Fits d b x) (n : x.state ≢ Up)
    (y : Board) (area : y.stable ≡ x.stable) where
  same_area : y.stable.selected ≡ x.stable.selected
  same_area = rw area

  same_point : recovery_point y ≡ recovery_point x
  same_point = recovery_point_same x y same_area

  same_rebuilt : rebuilt y (of_board b h.entries) ≡ rebuilt x (of_board b h.entries)
  same_rebuilt = rebuilt_same x y same_area (of_board b h.entries) (of_board b h.entries) refl

  same_stable : StableExplains y (of_board b h.entries)
  same_stable = stable_same x y same_area (of_board b h.entries) (of_board b h.entries) refl q.stable.reached q.stable

  -- it goes on replaying
  pub replaying_holds : (c : ℕ) → y.state ≡ Replaying → y.working.log ≡ []
      → c ≡ y.working.number → length (of_board b h.entries) ≡ recovery_point x
      → ReplayExplains y (of_board b h.entries)
      → BoardInvariant d (moved b c h) none b y
  unfolding moved CountsAgree Explains
  replaying_holds c s v e l r =
      let es : List HistoryEntry = of_board b h.entries in
      record {
        counts = rw (cursor_same b c h.cursor) (subst (λ (t : State). CountsAgree t y es c) (sym s) (e, l ∙ sym same_point));
        stable = same_stable;
        explained = subst (λ (t : State). Explains t none y es) (sym s) r;
        ahead = λ p t j u f. let z : ◌≡◌ {A = ℕ} 0 1 = cc in absurd (omega arith);
        copies = λ p j m. clash m (w.agreed.copies n p j);
        owned = λ p j o. rw (same_rebuilt, same_point) (q.owned p j o);
        exclusive = λ p. rw same_point (q.exclusive p);
        unstable = λ p j u. q.unstable p j (rw same_point at u);
        volatile = rw v each_nil;
      }

  -- it is up again, with the frames of its replay but for the pages of others; what is ahead of these is what its stable memory rebuilds
  pub settled_holds : (c : ℕ) → y.state ≡ Up → y.working.log ≡ [] → y.working.since ≡ 0
      → c ≡ length (of_board b h.entries) → y.working.number ≡ length (of_board b h.entries)
      → length (of_board b h.entries) ≡ recovery_point x
      → ((p : ℕ) → p < length d → (entry_in d p).owner ≡ b
      → frame_at y.working.frames p ≡ record { right = Own; bytes = (frame_at (rebuilt x (of_board b h.entries)).frames p).bytes })
      → BoardInvariant d (moved b c h) (some (rebuilt x (of_board b h.entries))) b y
  unfolding moved settled_as
  settled_holds c s v z e a l f =
      let es : List HistoryEntry = of_board b h.entries in
      record {
        counts = rw (cursor_same b c h.cursor) (up_counts y es c s (e, a));
        stable = same_stable;
        explained = up_explained (some (rebuilt x es)) y es s (rw same_rebuilt at (nothing_volatile y es (same_point ∙ sym l) v z));
        ahead = λ p t j u g o.
            let r : rebuilt x es ≡ t = cc in
            cc (f p j o, q.owned p j o);
        copies = λ p j m. clash m (w.agreed.copies n p j);
        owned = λ p j o. rw (same_rebuilt, same_point) (q.owned p j o);
        exclusive = λ p. rw same_point (q.exclusive p);
        unstable = λ p j u. q.unstable p j (rw same_point at u);
        volatile = rw v each_nil;
      }

-- ==== the bank

-- board b changes alone, and its cursor with it
pub on_board_moved : (b n : ℕ) (f : Board → Board) (k : Bank) {g g' : ℕ → Option Rebuilt} {h : History} → Invariant g k h
    → WellFormed (on_board b f k) → ((c : ℕ) → c ≢ b → g' c ≡ g c)
    → (b < length k.boards → BoardInvariant k.directory h (g b) b (board_at k b) → BoardInvariant k.directory (moved b n h) (g' b) b (f (board_at k b)))
    → Invariant g' (on_board b f k) (moved b n h)
unfolding moved
on_board_moved b n f k {g} {g'} {h} q w same this =
    record {
      formed = w;
      memory = q.memory;
      known = rw (boards_on_board b f k) q.known;
      boards = λ c i.
          let j : c < length k.boards = rw (boards_on_board b f k) at i in
          subst (λ (d : List Entry). BoardInvariant d (moved b n h) (g' c) c (board_at (on_board b f k) c)) (sym (directory_on_board b f k))
          (by_eq c b
          (λ e. rw e (rw (board_at_same b f k (rw e at j)) (this (rw e at j) (q.boards b (rw e at j)))))
          (λ ne. rw (board_at_other b f k c ne, same c ne) (moved_other b n ne (q.boards c j))));
    }

down_counts : (x : Board) (es : List HistoryEntry) (c c' : ℕ) → x.state ≡ Down → CountsAgree x.state x es c → CountsAgree x.state x es c'
unfolding CountsAgree
down_counts x es c c' e q =
    subst (λ (s : State). CountsAgree s x es c') (sym e) (subst (λ (s : State). CountsAgree s x es c) e q)

-- another cursor of each board, which is the same or a down board's, of whose cursor nothing is asked
pub cursors_invariant : (k : Bank) (h : History) (cursor : ℕ → ℕ) {g : ℕ → Option Rebuilt} → Invariant g k h
    → ((c : ℕ) → c < length k.boards → (cursor c ≡ h.cursor c) ⊎ ((board_at k c).state ≡ Down))
    → Invariant g k (record { entries = h.entries; cursor = cursor })
cursors_invariant k h cursor {g} q same =
    record {
      formed = q.formed;
      memory = q.memory;
      known = q.known;
      boards = λ c j.
          let r : BoardInvariant k.directory h (g c) c (board_at k c) = q.boards c j in
          record {
            counts =
                ⊎_elim
                (λ e. rw e r.counts)
                (λ e. down_counts (board_at k c) (of_board c h.entries) (h.cursor c) (cursor c) e r.counts)
                (same c j);
            stable = r.stable;
            explained = r.explained;
            ahead = r.ahead;
            copies = r.copies;
            owned = r.owned;
            exclusive = r.exclusive;
            unstable = r.unstable;
            volatile = r.volatile;
          };
    }
