-- A got own logged and a page passed on keep the invariant: the taker's stable memory explains the page before the directory names the taker.
-- Assumes nothing.
use Rattle.std.specs.Prelude.{◌≡◌, ◌≢◌, ℕ, ◌<◌, true, ◌||◌, set, eqb}
use Rattle.std.proofs.Math.Path.{refl, ap}
use Rattle.std.proofs.Common.{sym, ◌∙◌, arith, eqb-true}
use Rattle.std.proofs.Math.Bool.{false}
use Rattle.std.proofs.Math.Option.{none, some}
use mathlib.Core.List.{List, [], ◌∷◌}
use Rattle.std.proofs.Math.ListN.{length}
use Rattle.words.specs.Bytes.{Each, each_nil}
use Rattle.types.specs.declared.Right.TheVariants.{Own}
use Rattle.types.specs.declared.Frame.{Frame}
use Rattle.types.specs.declared.CopyOrOwn.TheVariants.{GotOwn}
use Rattle.types.specs.declared.Kind.TheVariants.{Got}
use Rattle.types.specs.declared.State.TheVariants.{Up}
use Rattle.model.specs.Definitions.Parts.{update, member}
use Rattle.model.specs.Definitions.Bank.{Entry, Board, Bank, board_at, entry_at, frame_at, on_board, on_entry, on_working, on_frames, entry_in}
use Rattle.model.specs.Definitions.Codec.{page_of}
use Rattle.model.specs.Definitions.WellFormed.{WellFormed}
use Rattle.model.specs.Definitions.Steps.{recorded, note, with_frame, frame_of, drop_at, pass_ownership}
use Rattle.model.specs.Definitions.Replay.{count_sum, recovery_point, right_got}
use Rattle.model.proofs.Laws.Logic.{by_bool, by_eq, cases, clash}
use Rattle.model.proofs.Laws.Lists.{each_imp}
use Rattle.model.proofs.Laws.Sets.{member_none}
use Rattle.model.proofs.Laws.Boards.{frame_at_same, dropped_if, owned_by, took_own, boards_pass_ownership, board_at_pass_ownership_same, board_at_pass_ownership_other}
use Rattle.model.proofs.Laws.Keeps.Clauses.{fits, up_below}
use Rattle.model.proofs.Laws.Keeps.Rights.{not_owner, holder_up}
use Rattle.model.specs.History.Statement.{HistoryEntry, History, of_board, zero_memory}
use Rattle.history.specs.Rerun.{Rebuilt, logged, next, LacksFor, MayLog, Joins, Accepts, rebuilt}
use Rattle.history.specs.Invariant.{memory_after, unstable_write, is_shown, settled_as, BoardInvariant, Invariant, nobody, only_of}
use Rattle.history.specs.Lift.{on_board_invariant}
use Rattle.history.specs.Memory.{memory_after_discard}
use Rattle.history.specs.Logging.{new_record, recovery_point_same, rebuilt_same}
use Rattle.history.specs.LoggedRecords.{explained_up, owner_frame}
use Rattle.history.specs.CallsInProgress.{all_rebuilt}
use Rattle.history.specs.Rights.{kept_on, entry_holds, framed_holds, lost_holds, quiet_unowned, quiet_page, got_holds, only_of_same, only_of_other}
use Rattle.history.specs.Rights.{entry_invariant}

-- ---- the writer logs its got

-- what the writer's log explains then: the page is its own there, before the directory says so
abbrev pub writer_ahead : (w p o : ℕ) → List ℕ → Bank → Rebuilt
writer_ahead w p o bytes k =
    record {
      frames = set (board_at k w).working.frames p (record { right = Own; bytes = bytes });
      pending = new_record (Got GotOwn p) o bytes (board_at k w).working ∷ [];
    }

-- "writer records got own": an up board without the right own
pub got_own_invariant : (w p o : ℕ) (bytes : List ℕ) (k : Bank) {h : History} → Invariant nobody k h → (board_at k w).state ≡ Up → p < length k.directory
    → (frame_of k w p).right ≢ Own
    → WellFormed (note w (Got GotOwn p) o bytes k)
    → Invariant (only_of w (writer_ahead w p o bytes k)) (note w (Got GotOwn p) o bytes k) h
unfolding note nobody entry_at frame_of Accepts Joins MayLog LacksFor settled_as next logged right_got
got_own_invariant w p o bytes k q u l lacks formed =
    on_board_invariant w (on_working (recorded (Got GotOwn p) o bytes)) k q formed (only_of_other w (writer_ahead w p o bytes k))
    (λ i r.
    rw (only_of_same w (writer_ahead w p o bytes k))
    (got_holds r u GotOwn p o bytes (tt, lacks) (not_owner q.formed w p u l lacks)))

-- ---- the page passes

module _ {d : List Entry} {h : History} {t : Rebuilt} {b : ℕ} {x : Board} (q : BoardInvariant d h (some t) b x) (u : x.state ≡ Up) (p : ℕ)
    (bytes : List ℕ) where
  -- The taker: its log explains the page as its own, with the page's memory, and its stable memory alone does too.
  taker_holds : p < length d → length x.working.frames ≡ length d → (entry_in d p).owner ≢ b
      → bytes ≡ memory_after zero_memory h.entries p
      → frame_at t.frames p ≡ record { right = Own; bytes = bytes }
      → frame_at (rebuilt x (of_board b h.entries)).frames p ≡ record { right = Own; bytes = bytes }
      → Each (λ r. page_of r.kind ≡ p → is_shown r.kind ≡ true) x.working.log
      → BoardInvariant (update p (owned_by b) d) h (some t) b (took_own p bytes x)
  unfolding took_own owned_by with_frame on_working on_frames
  taker_holds l s other memory explained stable shown =
      let f : Frame = record { right = Own; bytes = bytes } in
      let y : Board = with_frame p f x in
      let es : List HistoryEntry = of_board b h.entries in
      let here : frame_at (set x.working.frames p f) p ≡ f = frame_at_same x.working.frames p f (rw s l) in
      let same : rebuilt y es ≡ rebuilt x es = rebuilt_same x y refl es es refl in
      let point : recovery_point y ≡ recovery_point x = recovery_point_same x y refl in
      let quiet : unstable_write b (recovery_point x) p h.entries ≡ false = quiet_unowned q p l other in
      let r : BoardInvariant d h (some t) b y = framed_holds q u p f l s (λ o. absurd (other o)) (λ m. memory) in
      entry_holds r p l (owned_by b)
      (record {
        ahead = λ i v e o. cc;
        copies = λ m. clash m (member_none b);
        owned = λ o. cc (memory_after_discard b (recovery_point x) p h.entries zero_memory quiet);
        unstable = λ v. clash (rw point at v) quiet;
        volatile = each_imp x.working.log (λ i e n o. e n) shown;
      })

module _ (o w p : ℕ) (k : Bank) where
  pass_ownership_directory : (pass_ownership o w p k).directory ≡ update p (owned_by w) k.directory
  unfolding pass_ownership owned_by on_entry on_board drop_at
  pass_ownership_directory = refl

  -- the writer's frames after the step, before its access, show the got that its log ends with
  pub taker_frames : w < length k.boards
      → (board_at (pass_ownership o w p k) w).working.frames ≡ set (board_at k w).working.frames p (record { right = Own; bytes = (frame_of k o p).bytes })
  unfolding took_own with_frame on_working on_frames
  taker_frames i = rw (board_at_pass_ownership_same o w p k i)

  pub taker_since : w < length k.boards → (board_at (pass_ownership o w p k) w).working.since ≡ (board_at k w).working.since
  unfolding took_own with_frame on_working on_frames
  taker_since i = rw (board_at_pass_ownership_same o w p k i)

  -- "then together owner and all copy holders but the writer record dropped and lose the right, the writer gains right own and the page": two up boards.
  -- The owner has no unstable write on the page; the writer's log is stored whole, with all its entries, and explains the owner's bytes.
  pub pass_ownership_invariant : (t : Rebuilt) {h : History} → Invariant (only_of w t) k h → p < length k.directory → (entry_at k p).owner ≡ o → o ≢ w
      → (board_at k o).state ≡ Up → (board_at k w).state ≡ Up
      → unstable_write o (recovery_point (board_at k o)) p h.entries ≡ false
      → (board_at k w).working.log ≡ []
      → recovery_point (board_at k w) ≡ length (of_board w h.entries)
      → frame_at t.frames p ≡ record { right = Own; bytes = (frame_of k o p).bytes }
      → WellFormed (pass_ownership o w p k)
      → Invariant (only_of w t) (pass_ownership o w p k) h
  unfolding entry_at frame_of dropped_if owned_by settled_as count_sum
  pass_ownership_invariant t {h} q l own two up u quiet empty point explained formed =
      let i : w < length k.boards = up_below k w u in
      let j : o < length k.boards = up_below k o up in
      let still : (c : ℕ) → c < length k.boards → unstable_write c (recovery_point (board_at k c)) p h.entries ≡ false =
      quiet_page k q p l (rw own quiet) in
      let x : BoardInvariant k.directory h (some t) w (board_at k w) = rw (only_of_same w t) at (q.boards w i) in
      let y : BoardInvariant k.directory h none o (board_at k o) = rw (only_of_other w t o two) at (q.boards o j) in
      let since : (board_at k w).working.since ≡ 0 = omega (arith, (explained_up x u).rest, ap count_sum empty) in
      let f : frame_of k o p ≡ record { right = Own; bytes = memory_after zero_memory h.entries p } =
      owner_frame y up p l (fits q.formed o j).alone.fields.selected.frames.count own in
      entry_invariant p (owned_by w) k (pass_ownership o w p k) q formed (boards_pass_ownership o w p k) pass_ownership_directory
      (λ c m r.
      by_eq c w
      (λ e.
      rw (e, board_at_pass_ownership_same o w p k i, only_of_same w t)
      (taker_holds x u p (frame_of k o p).bytes l (fits q.formed w i).alone.fields.working.frames.count (λ s. two (sym own ∙ s))
      (ap (λ (a : Frame). a.bytes) f) explained
      (rw (all_rebuilt x u empty since) explained) (rw empty each_nil)))
      (λ n.
      let z : BoardInvariant k.directory h none c (board_at k c) = rw (only_of_other w t c n) at r in
      rw (board_at_pass_ownership_other o w p k c m n, only_of_other w t c n)
      (cases (BoardInvariant (update p (owned_by w) k.directory) h none c) (eqb c o || member c (entry_at k p).copies)
      (λ s.
      lost_holds w p (owned_by w) z
      (by_bool (eqb c o) (λ a. rw (eqb-true c o a) up) (λ a. holder_up q.formed c p m l (rw a at s)))
      l (fits q.formed c m).alone.fields.working.frames.count (λ a. n (sym a)) (member_none c) (still c m))
      (λ s.
      entry_holds z p l (owned_by w)
      (kept_on z p l (owned_by w (entry_in k.directory p)) (λ a. absurd (n (sym a))) (λ a. clash a (member_none c)) (λ a. clash a (still c m)))))))
