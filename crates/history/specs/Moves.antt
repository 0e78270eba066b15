-- The invariant over the moves of a call: what holds in each phase, that every move keeps it, and what a repeated access reads. So every call keeps the
-- invariant, with the event that its answer feeds to the history. Assumes nothing.
use Rattle.std.proofs.Math.Path.{◌≡◌, refl, sym, ap}
use Rattle.std.proofs.Common.{◌∙◌, subst, inr, arith, le-ltb, lt-ltb, eqb-true}
use Rattle.std.specs.Prelude.{◌≢◌, ◌⊎◌, true, false, set, eqb}
use Rattle.std.proofs.Math.Logic.{inl}
use Prim.Native.Nat.{ℕ, ◌+◌, ◌<◌}
use Rattle.std.proofs.Math.Option.{Option, none, some}
use mathlib.Core.List.{List, [], ◌∷◌, ◌++◌, map, map-append}
use Rattle.std.proofs.Math.ListN.{length, get_elem?}
use Rattle.std.proofs.Math.Decide.{dec_lt}
use Rattle.std.proofs.lemmas.Bool.{not-false}
use Rattle.words.specs.Bytes.{Each, each_nil, each_cons}
use Rattle.types.specs.declared.Right.TheVariants.{None, Own}
use Rattle.types.specs.declared.Frame.{Frame}
use Rattle.types.specs.declared.CopyOrOwn.TheVariants.{GotCopy, GotOwn}
use Rattle.types.specs.declared.Kind.{Kind}
use Rattle.types.specs.declared.Kind.TheVariants.{Got}
use Rattle.types.specs.declared.Record.{Record}
use Rattle.types.specs.declared.State.{State}
use Rattle.types.specs.declared.State.TheVariants.{Up, Down, Replaying}
use Rattle.types.specs.declared.Answer.TheVariants.{Done}
use Rattle.model.specs.Definitions.Bank.{Entry, Working, on_spare, Board, Bank, board_at, entry_at, on_board, on_working, on_frames, entry_in}
use Rattle.model.specs.Definitions.Codec.{page_of}
use Rattle.model.specs.Definitions.WellFormed.{WellFormed}
use Rattle.model.specs.Definitions.Steps.{Run, start, step, powered_off, power_off, burnt, with_fuse, store, recorded, note, moved_record, stored_record}
use Rattle.model.specs.Definitions.Steps.{stored_frame, stored_head, stored_selector, rested_working, Access, Read, Write, ReadCells, cells_written, any_write}
use Rattle.model.specs.Definitions.Steps.{names, takes, read_from, access, with_frame, frame_of, give_copy}
use Rattle.model.specs.Definitions.Replay.{recovery_point, loaded, used_up, differs, took_due, replay_over, replayed, settle}
use Rattle.model.specs.Definitions.Calls.{Call, call_bank, page_written, copies_out, lacking_of}
use Rattle.model.specs.Clauses.{Entered, CanAccess}
use Rattle.model.specs.Moves.{Move, does, Phase, Begun, Noted, Fetched, Replays, Settled, Finished, MayStore, anyone, taker, ender, Selects, checkpoints}
use Rattle.model.specs.Moves.{resumes, closes, MayPerform, local, taken, Secure, Guard, notes_shown, notes_got, stores_record, stores_frame, stores_head}
use Rattle.model.specs.Moves.{stores_selector, gives_copy, passes_ownership, drops_copies, performs, loses_power, sets_fuse, loads, repeats_access, takes_last}
use Rattle.model.specs.Moves.{settles, Moves, TakesCopy, first, behind, Gives}
use Rattle.model.proofs.Laws.Logic.{by_option, by_eq}
use Rattle.model.proofs.Laws.Boards.{on_board_out, board_at_same, board_at_other, boards_on_board, on_board_on_board, board_at_power_off_same, power_off_on_board}
use Rattle.model.proofs.Laws.Boards.{frame_at_same, took_due_state, replayed_state, took_copy, board_at_give_copy_same}
use Rattle.model.proofs.Laws.Runs.{lost_not, step_cases, store_cases}
use Rattle.model.proofs.Laws.Runs.Stores.{burnt_working, flushed_stored_record}
use Rattle.model.proofs.Laws.Keeps.Clauses.{fits, on_board_keeps, up_below, up_not_down, up_not_replaying}
use Rattle.model.proofs.Laws.Keeps.Rights.{right_from}
use Rattle.model.proofs.Laws.Keeps.Stores.{store_keeps, powered_off_burnt}
use Rattle.model.proofs.Laws.Keeps.Checkpoint.{stored_frame_fits, stored_head_fits}
use Rattle.model.proofs.Laws.Keeps.Peers.{stored_frame_peers, stored_head_peers}
use Rattle.model.proofs.Laws.Moves.Formed.{FormedIn, FormedRun, formed_begun, selects_stores, run_formed, induct_formed}
use Rattle.model.proofs.Laws.Moves.Calls.{feeds, call_moves}
use Rattle.model.proofs.Laws.Codes.Ends.{power_lost}
use Rattle.model.proofs.Laws.Lists.{each_head, each_tail, each_append}
use Rattle.model.proofs.Laws.Codes.Order.{never}
use Rattle.model.specs.Laws.Codes.Statement.{board_named}
use Rattle.model.specs.Definitions.Answers.{code}
use Rattle.model.specs.History.Statement.{HistoryEntry, History, of_board, entry_count, repeats, with_number_of, with_entry, next_entry, Event, Accessed}
use Rattle.model.specs.History.Statement.{Restarted, LostPower, Nothing, event_of, fed, access_of}
use Rattle.model.specs.History.Banks.{history_after}
use Rattle.history.specs.Rerun.{Rebuilt, Serves, Joins}
use Rattle.history.specs.Invariant.{CountsAgree, Explains, ReplayExplains, BoardInvariant, Invariant, writes_page, unstable_write, settled_as, nobody}
use Rattle.history.specs.Invariant.{only_of}
use Rattle.history.specs.View.{SameView, view_holds}
use Rattle.history.specs.Lift.{on_board_invariant}
use Rattle.history.specs.PowerLoss.{lost_at}
use Rattle.history.specs.Traces.{next_exists, next_none}
use Rattle.history.specs.Unstable.{writes_own}
use Rattle.history.specs.Rights.{quiet_held, quiet_page, only_of_same, only_of_other}
use Rattle.history.specs.Copies.{reader_ahead, give_copy_invariant, drop_copies_invariant}
use Rattle.history.specs.Ownership.{writer_ahead, got_own_invariant, taker_frames, taker_since, pass_ownership_invariant}
use Rattle.history.specs.Logging.{new_record}
use Rattle.history.specs.Replaying.{restarted_all_used, used_up_number, used_up_log}
use Rattle.history.specs.Repeating.{Repeated, took_last, took_below, repeated, replayed_number, replayed_stable, replayed_log}
use Rattle.history.specs.LoggedRecords.{counts_up}
use Rattle.history.specs.Accesses.{entry_of, grown, cursor_same, cursor_other, right_frame, MayAccess, access_invariant}
use Rattle.history.specs.Restarts.{moved, cursors_invariant}
use Rattle.history.specs.CallsInProgress.{RunMeets, OnlyAhead, nobody_ahead, step_meets, MayLosePower, may_lose, loses_power_lem, burnt_view, all_stable}
use Rattle.history.specs.CallsInProgress.{none_unstable, stored_record_invariant, shown_invariant}
use Rattle.history.specs.Checkpoints.{frame_view, head_view, spare_invariant, selector_may_lose, selector_rests}
use Rattle.history.specs.Endings.{ReplayStep, used_step, last_step}

-- ==== the phases

-- "each repeated read answered 0 gave its line's byte", of what a call feeds to the history
unfoldable pub Agrees : Event → History → Type 0
Agrees (Accessed b a bytes) h = (e : HistoryEntry) → next_entry b h ≡ some e → e.bytes_read ≡ bytes
Agrees (Restarted b v) h = Unit
Agrees (LostPower b) h = Unit
Agrees Nothing h = Unit

-- the event sets board d's cursor, and does nothing else that the invariant sees
pub record SetsCursor (d : ℕ) (h : History) (e : Event) : Type 0 where
  pub cursor : ℕ
  pub feeds : (j : Bank) → Invariant nobody j (moved d cursor h) → Invariant nobody j (fed e j h)
  pub agrees : Agrees e h

-- What holds in a call of board d with history h: the caller's log may be ahead of its frames by `t`.
module _ (d : ℕ) (h : History) where
  pub record GotNoted (o p : ℕ) (k : Bank) : Type 0 where
    pub ahead : Rebuilt
    pub holds : Invariant (only_of d ahead) k h
    pub frames : ahead.frames ≡ set (board_at k d).working.frames p (record { right = Own; bytes = (frame_of k o p).bytes })
    pub got : Record
    pub kind : got.kind ≡ Got GotOwn p
    pub pending : ahead.pending ≡ got ∷ []

  -- the gots of the pages fetched are pending, in their order, and no access was counted since
  pub record PagesFetched (a : Access) (ps : List ℕ) (k : Bank) : Type 0 where
    pub ahead : Rebuilt
    pub holds : Invariant (only_of d ahead) k h
    pub frames : ahead.frames ≡ (board_at k d).working.frames
    pub pending : Each (λ r. Serves a r.kind) ahead.pending
    pub pages : map (λ (r : Record). page_of r.kind) ahead.pending ≡ ps
    pub since : (board_at k d).working.since ≡ 0

  pub record ReplayGoes (e : Event) (k : Bank) : Type 0 where
    pub sets : SetsCursor d h e
    pub step : ReplayStep d h sets.cursor k

  pub record ReplayEnded (e : Event) (k : Bank) : Type 0 where
    pub sets : SetsCursor d h e
    pub ahead : Rebuilt
    pub holds : Invariant (only_of d ahead) k (moved d sets.cursor h)

  pub record CallOver (e : Event) (k : Bank) : Type 0 where
    pub holds : Invariant nobody k (fed e k h)
    pub agrees : Agrees e h

  unfoldable pub HoldsIn : Phase → Bank → Type 0
  HoldsIn Begun k = Invariant nobody k h
  HoldsIn (Noted o p) k = GotNoted o p k
  HoldsIn (Fetched a os ps) k = PagesFetched a ps k
  HoldsIn (Replays e) k = ReplayGoes e k
  HoldsIn (Settled e) k = ReplayEnded e k
  HoldsIn (Finished e o) k = CallOver e k

-- ==== stores

-- no frame of the working memories changed
abbrev SameFrames : Bank → Bank → Type 0
SameFrames k j = (c : ℕ) → (board_at j c).working.frames ≡ (board_at k c).working.frames

-- What a store of board b finds in its phase: the invariant with what is ahead of b alone; if b loses power nothing of the call is left.
record Opened (d : ℕ) (h : History) (b : ℕ) (φ : Phase) (k : Bank) : Type 0 where
  ahead : ℕ → Option Rebuilt
  past : History
  holds : Invariant ahead k past
  only : OnlyAhead ahead b
  again : (j : Bank) → SameFrames k j → Invariant ahead j past → HoldsIn d h φ j
  lost : (n : ℕ) (j : Bank) → (board_at j b).state ≡ Down → Invariant nobody j (lost_at b n past) → Invariant nobody j (lost_at b n h)

opens : {d b : ℕ} {h : History} {φ : Phase} (k : Bank) → MayStore d b φ → HoldsIn d h φ k → Opened d h b φ k
unfolding HoldsIn frame_of lost_at moved
opens {d} {b} {h} k anyone q =
    record { ahead = nobody; past = h; holds = q; only = nobody_ahead b; again = λ j s i. i; lost = λ n j u i. i }
opens {d} {b} {h} k (taker {o} {p}) q =
    record {
      ahead = only_of d q.ahead;
      past = h;
      holds = q.holds;
      only = only_of_other d q.ahead;
      again = λ j s i.
          record { ahead = q.ahead; holds = i; frames = rw (s d, s o) q.frames; got = q.got; kind = q.kind; pending = q.pending };
      lost = λ n j u i. i;
    }
opens {d} {b} {h} k (ender {e}) q =
    record {
      ahead = only_of d q.ahead;
      past = moved d q.sets.cursor h;
      holds = q.holds;
      only = only_of_other d q.ahead;
      again = λ j s i. record { sets = q.sets; ahead = q.ahead; holds = i };
      lost = λ n j u i.
          cursors_invariant j (lost_at d n (moved d q.sets.cursor h)) h.cursor i
          (λ c l. by_eq c d (λ s. inr (rw s u)) (λ s. inl (sym (cursor_other d q.sets.cursor h.cursor c s))));
    }

-- Any store, where the invariant may wait for the step after it: if the fuse blows what is stable is enough, else `J` is handed on.
store_meets : {d : ℕ} {h : History} {φ : Phase} (b : ℕ) (f : Board → Board) (s : Run) → s.lost ≡ none → WellFormed s.bank → (o : Opened d h b φ s.bank)
    → MayLosePower b (on_board b f s.bank) o.past → {J : Bank → Type 0}
    → (WellFormed (on_board b burnt (on_board b f s.bank)) → J (on_board b burnt (on_board b f s.bank)))
    → RunMeets J h (store b f s)
unfolding powered_off
store_meets {h = h} b f s n w o m {J} j =
    let k : Bank = on_board b f s.bank in
    let down : (board_at (power_off b k) b).state ≡ Down = ap (λ (x : Board). x.state) (board_at_power_off_same b k m.below) in
    store_cases (λ u. WellFormed u.bank → RunMeets J h u) b f s
    (λ c e. lost_not n e)
    (λ _ z v.
    record {
      going = λ e. lost_not e refl;
      lost = λ c e.
          let i : b ≡ c = cc in
          rw (← i, power_off_on_board b k burnt powered_off_burnt)
          (o.lost (recovery_point (board_at (power_off b k) b)) (power_off b k) down (loses_power_lem b k o.past m));
    })
    (λ _ z v. record { going = λ e. j v; lost = λ c e. lost_not refl e })
    (store_keeps b f s w (λ e. m.formed))

-- a store that keeps the invariant and the frames
stored_meets : {d : ℕ} {h : History} {φ : Phase} (b : ℕ) (f : Board → Board) (s : Run) → s.lost ≡ none → WellFormed s.bank → b < length s.bank.boards
    → ((x : Board) → (f x).working.frames ≡ x.working.frames) → (o : Opened d h b φ s.bank) → Invariant o.ahead (on_board b f s.bank) o.past
    → RunMeets (HoldsIn d h φ) h (store b f s)
stored_meets {d} {h} {φ} b f s n w l same o i =
    let k : Bank = on_board b f s.bank in
    let l' : b < length k.boards = rw (boards_on_board b f s.bank) l in
    store_meets b f s n w o (may_lose b k i l' o.only)
    (λ v.
    o.again (on_board b burnt k)
    (λ c.
    by_eq c b
    (λ e.
    rw (e, board_at_same b burnt k l', board_at_same b f s.bank l)
    (ap (λ (x : Working). x.frames) (burnt_working (f (board_at s.bank b))) ∙ same (board_at s.bank b)))
    (λ m. rw (board_at_other b burnt k c m, board_at_other b f s.bank c m)))
    (on_board_invariant b burnt k i v (λ c m. refl) (λ m t. view_holds (board_at k b) (burnt (board_at k b)) (burnt_view (board_at k b)) t)))

-- ==== accesses

-- a board that repeats nothing makes a new entry
fed_new : (b : ℕ) (a : Access) (k : Bank) (fs : List Frame) (h : History) → h.cursor b ≡ length (of_board b h.entries)
    → fed (Accessed b a (read_from a fs)) k h ≡ grown b (entry_of b a fs) h
unfolding fed grown entry_of with_entry repeats entry_count
fed_new b a k fs h e = cc (le-ltb (h.cursor b) (length (of_board b h.entries)) (omega arith))

-- a board whose cursor is at its end repeats nothing
no_entry : {X : Type 0} (b : ℕ) (h : History) (e : HistoryEntry) → next_entry b h ≡ some e → h.cursor b ≡ length (of_board b h.entries) → X
unfolding next_entry
no_entry b h e n c =
    let z : get_elem? (of_board b h.entries) (h.cursor b) ≡ none = next_none (of_board b h.entries) (h.cursor b) (omega arith) in
    let y : ◌≡◌ {A = ℕ} 0 1 = cc in
    absurd (omega arith)

-- where no copy is out, none is of a page that is written
no_copies : (a : Access) (k : Bank) (e : HistoryEntry) (p : ℕ) → copies_out a k ≡ false → e.access ≡ a → writes_page e p ≡ true
    → (entry_in k.directory p).copies ≡ 0
unfolding copies_out entry_at writes_page any_write cells_written page_written
no_copies (Read q o) k e p n s w = let z : ◌≡◌ {A = ℕ} 0 1 = cc in absurd (omega arith)
no_copies (Write q o v) k e p n s w =
    let y : page_written (Write q o v) ≡ p = (writes_own (Write q o v) p (rw s at w)).1 in
    ap (λ (i : ℕ). (entry_in k.directory i).copies) (sym y) ∙ eqb-true (entry_at k q).copies 0 (not-false (eqb (entry_at k q).copies 0) n)
no_copies (ReadCells cells out_length) k e p n s w = let z : ◌≡◌ {A = ℕ} 0 1 = cc in absurd (omega arith)

performed_over : {g : ℕ → Option Rebuilt} {h : History} (d : ℕ) (a : Access) (k : Bank) → Invariant g k h → OnlyAhead g d → d < length k.boards
    → MayAccess k.directory (g d) d a (board_at k d) → WellFormed (access d a k)
    → CallOver d h (Accessed d a (read_from a (board_at k d).working.frames)) (access d a k)
unfolding nobody Agrees
performed_over {g} {h} d a k q only l m w =
    let fs : List Frame = (board_at k d).working.frames in
    let at_end : h.cursor d ≡ length (of_board d h.entries) = (counts_up (q.boards d l) m.up).0 in
    record {
      holds = rw (fed_new d a (access d a k) fs h at_end) (access_invariant d a k q l m w (λ c n. sym (only c n)) refl);
      agrees = λ e n. no_entry d h e n at_end;
    }

begins_over : {d : ℕ} {a : Access} {gave : List ℕ} {φ : Phase} {h : History} (k : Bank) → MayPerform a gave φ → HoldsIn d h φ k
    → CanAccess d a k → lacking_of d a k ≡ false → copies_out a k ≡ false → WellFormed (access d a k)
    → CallOver d h (Accessed d a (read_from a (board_at k d).working.frames)) (access d a k)
unfolding HoldsIn lacking_of settled_as nobody Serves
begins_over {d} {a} k local q can has out w =
    performed_over d a k q (nobody_ahead d) (up_below k d can.up)
    (record { up = can.up; pages = can.pages; has = has; alone = λ e p s t. no_copies a k e p out s t; shows = refl; fits = each_nil })
    w
begins_over {d} {a} k taken q can has out w =
    performed_over d a k q.holds (only_of_other d q.ahead) (up_below k d can.up)
    (rw (only_of_same d q.ahead)
    (record {
      up = can.up;
      pages = can.pages;
      has = has;
      alone = λ e p s t. no_copies a k e p out s t;
      shows = q.frames;
      fits = q.pending;
    }))
    w

-- ==== fetches

-- a board that has stored all that it counted can't lose a write
secure_point : {g : ℕ → Option Rebuilt} {h : History} (o : ℕ) (k : Bank) → Invariant g k h → Secure (board_at k o)
    → recovery_point (board_at k o) ≡ length (of_board o h.entries)
secure_point o k q s = all_stable (q.boards o (up_below k o s.up)) s.up s.volatile s.since

-- On a page that a board may give no write is unstable: an owner that gives has stored all that it counted, and while a copy is out there is none.
giver_quiet : (k : Bank) {g : ℕ → Option Rebuilt} {h : History} (o p : ℕ) → Invariant g k h → p < length k.directory → (frame_of k o p).right ≢ None
    → Secure (board_at k o) → (c : ℕ) → c < length k.boards → unstable_write c (recovery_point (board_at k c)) p h.entries ≡ false
unfolding frame_of entry_at
giver_quiet k {h = h} o p q l r s c i =
    elim (right_from (entry_at k p) o (λ e. r ((q.formed.boards o (up_below k o s.up)).rights s.up p l ∙ e))) [
      | inl own ↦ quiet_page k q p l (rw own (none_unstable o h (board_at k o) p (secure_point o k q s))) c i
      | inr held ↦ quiet_held (q.boards c i) p l o held
    ]

note_frames : (b : ℕ) (kind : Kind) (peer : ℕ) (bytes : List ℕ) (k : Bank) → SameFrames k (note b kind peer bytes k)
unfolding note on_working recorded
note_frames b kind peer bytes k c =
    by_eq c b
    (λ e.
    elim (dec_lt b (length k.boards)) [
      | yes l ↦ rw (e, board_at_same b (on_working (recorded kind peer bytes)) k l)
      | no n ↦ rw (on_board_out b (on_working (recorded kind peer bytes)) k (omega arith))
    ])
    (λ n. rw (board_at_other b (on_working (recorded kind peer bytes)) k c n))

-- ==== replays

-- what holds of a down or a replaying board's numbers of entries
counts_down : {d : List Entry} {h : History} {b : ℕ} {x : Board} → BoardInvariant d h none b x → x.state ≡ Down
    → length (of_board b h.entries) ≡ recovery_point x
unfolding CountsAgree
counts_down {h = h} {b = b} {x = x} q u = subst (λ (s : State). CountsAgree s x (of_board b h.entries) (h.cursor b)) u q.counts

counts_replaying : {d : List Entry} {h : History} {b : ℕ} {x : Board} → BoardInvariant d h none b x → x.state ≡ Replaying
    → (h.cursor b ≡ x.working.number) × (length (of_board b h.entries) ≡ recovery_point x)
unfolding CountsAgree
counts_replaying {h = h} {b = b} {x = x} q u = subst (λ (s : State). CountsAgree s x (of_board b h.entries) (h.cursor b)) u q.counts

explained_replaying : {d : List Entry} {h : History} {b : ℕ} {x : Board} → BoardInvariant d h none b x → x.state ≡ Replaying
    → ReplayExplains x (of_board b h.entries)
unfolding Explains
explained_replaying {h = h} {b = b} {x = x} q u = subst (λ (s : State). Explains s none x (of_board b h.entries)) u q.explained

-- a restart
loaded_goes : (d : ℕ) (k : Bank) {h : History} → Invariant nobody k h → d < length k.boards → (board_at k d).state ≡ Down
    → ReplayGoes d h (Restarted d (board_at k d).stable.selected.number) (on_board d (λ x. used_up (loaded x)) k)
unfolding used_up loaded on_working nobody fed moved Agrees
loaded_goes d k {h} q i down =
    let x : Board = board_at k d in
    let all : length (of_board d h.entries) ≡ recovery_point x = counts_down (q.boards d i) down in
    record {
      sets =
          record {
            cursor = (used_up (loaded x)).working.number;
            feeds = λ j v. rw (used_up_number (loaded x)) at v;
            agrees = tt;
          };
      step =
          used_step d (λ y. used_up (loaded y)) k q i (λ u. up_not_down u down) refl
          ((used_up_log (loaded x)) ∙ ((fits q.formed d i).alone.down down).volatile) all refl
          (restarted_all_used x (of_board d h.entries) all (q.boards d i).stable);
    }

cursor_again : (b : ℕ) (h : History) (c : ℕ) → with_number_of b (h.cursor b) h.cursor c ≡ h.cursor c
cursor_again b h c = by_eq c b (λ e. rw e (cursor_same b (h.cursor b) h.cursor)) (λ n. cursor_other b (h.cursor b) h.cursor c n)

module _ (d : ℕ) (a : Access) (k : Bank) {h : History} (q : Invariant nobody k h) (i : Entered d a k) (rep : (board_at k d).state ≡ Replaying)
    (fit : differs a (board_at k d) ≡ false) where
  abbrev x : Board
  x = board_at k d

  abbrev es : List HistoryEntry
  es = of_board d h.entries

  here : BoardInvariant k.directory h none d x
  unfolding nobody
  here = q.boards d i.board

  counts : (h.cursor d ≡ x.working.number) × (length es ≡ recovery_point x)
  counts = counts_replaying here rep

  explains : ReplayExplains x es
  explains = explained_replaying here rep

  quiet : x.working.log ≡ []
  quiet = (fits q.formed d i.board).alone.replaying rep

  not_up : x.state ≢ Up
  not_up u = up_not_replaying u rep

  -- the due got was the last record: nothing is fed to the history yet
  last_goes : replay_over (took_due x) ≡ true → ReplayGoes d h Nothing (on_board d took_due k)
  unfolding fed moved Agrees
  last_goes o =
      record {
        sets =
            record {
              cursor = h.cursor d;
              feeds = λ j v. cursors_invariant j (moved d (h.cursor d) h) h.cursor v (λ c l. inl (sym (cursor_again d h c)));
              agrees = tt;
            };
        step = last_step d k q i.board not_up quiet counts.1 o counts.0 (took_last x es explains counts.1 o);
      }

  -- the replay goes on: the access repeats its next entry
  module _ (o : replay_over (took_due x) ≡ false) (premise : (e : HistoryEntry) → next_entry d h ≡ some e → e.access ≡ a) where
    below : h.cursor d < length es
    below = rw counts.0 (took_below x es explains counts.1 o)

    again : (e : HistoryEntry) → next_entry d h ≡ some e → Repeated a x es e
    unfolding next_entry
    again e n = repeated x es explains counts.1 a o e (rw counts.0 at n) (premise e n)

    -- it is no new entry
    fed_again : (bytes : List ℕ) (j : Bank) → fed (Accessed d a bytes) j h ≡ moved d (replayed a (took_due x)).working.number h
    unfolding fed with_entry moved repeats entry_count
    fed_again bytes j =
        let n : (replayed a (took_due x)).working.number ≡ h.cursor d + 1 = replayed_number x a ∙ ap (λ (m : ℕ). m + 1) (sym counts.0) in
        cc (lt-ltb (h.cursor d) (length es) below, n)

    repeated_goes : ReplayGoes d h (Accessed d a (read_from a (took_due x).working.frames)) (on_board d (replayed a) (on_board d took_due k))
    unfolding Agrees next_entry read_from
    repeated_goes =
        let next : (e : HistoryEntry) × (get_elem? es (h.cursor d) ≡ some e) = next_exists es (h.cursor d) below in
        record {
          sets =
              record {
                cursor = (replayed a (took_due x)).working.number;
                feeds = λ j v. rw (fed_again (read_from a (took_due x).working.frames) j) v;
                agrees = λ e n. (again e n).bytes;
              };
          step =
              rw (on_board_on_board d took_due (replayed a) k)
              (used_step d (λ y. replayed a (took_due y)) k q i.board not_up (replayed_stable x a)
              ((replayed_log x a) ∙ quiet) counts.1
              (replayed_state a (took_due x) ∙ took_due_state x ∙ rep) (again next.0 next.1).after);
        }

-- ==== each move

-- a step that stores nothing, and the well-formed bank that it leaves
step_now : {d : ℕ} {ψ : Phase} (f : Bank → Bank) (s : Run) → s.lost ≡ none → FormedRun d ψ (step f s) → FormedIn d ψ (f s.bank)
step_now {d} {ψ} f s n = step_cases (λ u. FormedRun d ψ u → FormedIn d ψ (f s.bank)) f s (λ c e. lost_not n e) (λ e h. h.going refl)

-- a fuse is not looked at
fuse_view : (n : ℕ) (x : Board) → SameView x (with_fuse n x)
unfolding with_fuse
fuse_view n x = record { state = refl; working = refl; selected = refl }

-- what a checkpoint or the end of a replay leaves
selected_holds_in : {d b : ℕ} {φ ψ : Phase} (h : History) (k : Bank) (x : Selects d b φ ψ) (q : HoldsIn d h φ k) (j : Bank)
    → Invariant nobody j (opens k (selects_stores x) q).past → HoldsIn d h ψ j
unfolding HoldsIn opens selects_stores fed
selected_holds_in h k checkpoints q j i = i
selected_holds_in h k resumes q j i = q.sets.feeds j i
selected_holds_in h k closes q j i = record { holds = q.sets.feeds j i; agrees = q.sets.agrees }

-- what a copy finds in its phase: the gots that are pending, if any, are of lower pages
record Copying (d : ℕ) (h : History) (a : Access) (p : ℕ) (k : Bank) : Type 0 where
  ahead : ℕ → Option Rebuilt
  holds : Invariant ahead k h
  only : OnlyAhead ahead d
  shows : (settled_as (ahead d) (board_at k d)).frames ≡ (board_at k d).working.frames
  pending : Each (λ r. Serves a r.kind) (settled_as (ahead d) (board_at k d)).pending
  lower : Each (λ (r : Record). page_of r.kind < p) (settled_as (ahead d) (board_at k d)).pending
  since : (settled_as (ahead d) (board_at k d)).pending ≢ [] → (board_at k d).working.since ≡ 0

lower_pages : (p : ℕ) (rs : List Record) (ps : List ℕ) → map (λ (r : Record). page_of r.kind) rs ≡ ps → Each (λ q. q < p) ps
    → Each (λ (r : Record). page_of r.kind < p) rs
lower_pages p [] ps e l = each_nil
lower_pages p (r ∷ rs) [] e l = never (cc)
lower_pages p (r ∷ rs) (q ∷ ps) e l =
    let i : page_of r.kind ≡ q = cc in
    let here : page_of r.kind < p = rw i (each_head l) in
    each_cons here (lower_pages p rs ps (cc) (each_tail l))

copying : {d : ℕ} {h : History} {a : Access} {o p : ℕ} {φ ψ : Phase} (k : Bank) → TakesCopy a o p φ ψ → HoldsIn d h φ k → Copying d h a p k
unfolding HoldsIn settled_as nobody
copying {d} k first q =
    record {
      ahead = nobody;
      holds = q;
      only = nobody_ahead d;
      shows = refl;
      pending = each_nil;
      lower = each_nil;
      since = λ n. absurd (n refl);
    }
copying {d} {p = p} k (behind {os} {ps} l) q =
    record {
      ahead = only_of d q.ahead;
      holds = q.holds;
      only = only_of_other d q.ahead;
      shows = rw (only_of_same d q.ahead) q.frames;
      pending = rw (only_of_same d q.ahead) q.pending;
      lower = rw (only_of_same d q.ahead) (lower_pages p q.ahead.pending ps q.pages l);
      since = λ n. q.since;
    }

-- the got joins what is pending
copy_joins : {d : ℕ} {h : History} {a : Access} {p : ℕ} (k : Bank) (o : ℕ) (bytes : List ℕ) → Copying d h a p k → (ps : List Record)
    → Each (λ (r : Record). page_of r.kind < p) ps → (ps ≢ [] → (board_at k d).working.since ≡ 0)
    → Joins (new_record (Got GotCopy p) o bytes (board_at k d).working) ps
unfolding Joins page_of
copy_joins k o bytes c [] lower since = tt
copy_joins k o bytes c (q ∷ qs) lower since = (since (λ e. never (cc)), refl, lower)

takes_now : {d o p : ℕ} {a : Access} {φ ψ : Phase} → TakesCopy a o p φ ψ → (f : Bank → Bank) (s : Run) → s.lost ≡ none → FormedRun d ψ (step f s)
    → WellFormed (f s.bank)
unfolding FormedIn
takes_now first f s n v = step_now f s n v
takes_now (behind l) f s n v = step_now f s n v

-- the copy is taken: its got is pending behind the others
module _ {d : ℕ} (h : History) (a : Access) (o p : ℕ) (k : Bank) (copy : takes a ≡ GotCopy) (named : names a p ≡ true) (g : Gives o d p k)
    (u : (board_at k d).state ≡ Up) (none_yet : (frame_of k d p).right ≡ None) (formed : WellFormed (give_copy o d p k)) where
  copied : (c : Copying d h a p k) (ps : List ℕ) → map (λ (r : Record). page_of r.kind) (settled_as (c.ahead d) (board_at k d)).pending ≡ ps
      → PagesFetched d h a (ps ++ (p ∷ [])) (give_copy o d p k)
  unfolding Serves page_of took_copy with_frame on_working on_frames recorded frame_of
  copied c ps e =
      let qs : List Record = (settled_as (c.ahead d) (board_at k d)).pending in
      let bytes : List ℕ = (frame_of k o p).bytes in
      let own : Record = new_record (Got GotCopy p) o bytes (board_at k d).working in
      let i : o < length k.boards = up_below k o g.secure.up in
      record {
        ahead = reader_ahead o d p k qs;
        holds =
            give_copy_invariant o d p k c.holds c.only u g.page none_yet c.shows (copy_joins k o bytes c qs c.lower c.since)
            (right_frame (c.holds.boards o i) (fits c.holds.formed o i) g.secure.up p g.page g.right)
            (giver_quiet k o p c.holds g.page g.right g.secure)
            formed;
        frames = refl;
        pending = each_append qs (own ∷ []) c.pending (each_cons (named, sym copy) each_nil);
        pages = map-append (λ (r : Record). page_of r.kind) qs (own ∷ []) ∙ ap (λ (rs : List ℕ). rs ++ (p ∷ [])) e;
        since = rw (board_at_give_copy_same o d p k (up_below k d u)) refl;
      }

  copied_holds : {φ ψ : Phase} → TakesCopy a o p φ ψ → HoldsIn d h φ k → HoldsIn d h ψ (give_copy o d p k)
  unfolding HoldsIn settled_as nobody copying
  copied_holds first q = copied (copying {a = a} {o = o} {p = p} k first q) [] refl
  copied_holds (behind {os} {ps} l) q =
      copied (copying {a = a} {o = o} {p = p} k (behind {os = os} {ps = ps} l) q) ps (rw (only_of_same d q.ahead) q.pages)

waits_holds : {d : ℕ} {h : History} (e : Event) (s : Run) → replay_over (board_at s.bank d) ≡ false → FormedRun d (Finished e []) s
    → RunMeets (HoldsIn d h (Replays e)) h s → RunMeets (HoldsIn d h (Finished e [])) h s
unfolding HoldsIn FormedIn
waits_holds {d} {h} e s o v q =
    record {
      going = λ m.
          let i : ReplayGoes d h e s.bank = q.going m in
          record { holds = i.sets.feeds s.bank (i.step.goes o (v.going m)); agrees = i.sets.agrees };
      lost = q.lost;
    }

module _ (d : ℕ) (h : History) {Again : Access → Type 0} (premise : (a : Access) → Again a → (e : HistoryEntry) → next_entry d h ≡ some e → e.access ≡ a) where
  move_holds : {χ : Phase} (s : Run) {ψ : Phase} (m : Move) → s.lost ≡ none → Guard d Again s.bank m χ ψ → FormedRun d χ s → FormedRun d ψ (does m s)
      → RunMeets (HoldsIn d h χ) h s → RunMeets (HoldsIn d h ψ) h (does m s)
  unfolding does HoldsIn FormedIn settle nobody fed lost_at frame_of stored_frame stored_head moved_record on_spare Agrees Serves page_of
  move_holds s _ n (notes_shown b p u m l x) w v q = step_meets _ s q (λ e i. shown_invariant b d p s.bank i u m l x)
  move_holds s _ n (notes_got o p u m l r x) w v q =
      let k : Bank = s.bank in
      let bytes : List ℕ = (frame_of k o p).bytes in
      step_meets _ s q
      (λ e i.
      record {
        ahead = writer_ahead d p o bytes k;
        holds = got_own_invariant d p o bytes k i u l r (step_now _ s n v);
        frames = rw (note_frames d (Got GotOwn p) o bytes k d, note_frames d (Got GotOwn p) o bytes k o);
        got = new_record (Got GotOwn p) o bytes (board_at k d).working;
        kind = refl;
        pending = refl;
      })
  move_holds s _ n (stores_record b o u) w v q =
      let x : Opened d h b _ s.bank = opens s.bank o (q.going n) in
      stored_meets b stored_record s n (run_formed o w) (up_below s.bank b u) (λ y. (flushed_stored_record y).frames) x
      (stored_record_invariant b s.bank x.holds u)
  move_holds s _ n (stores_frame b p o u) w v q =
      let x : Opened d h b _ s.bank = opens s.bank o (q.going n) in
      let k : Bank = s.bank in
      stored_meets b (stored_frame p) s n (run_formed o w) (up_below k b u) (λ y. refl) x
      (spare_invariant b (stored_frame p) k x.holds (frame_view p)
      (on_board_keeps b (stored_frame p) k (run_formed o w) (λ l f. stored_frame_fits k.directory b p (board_at k b) f)
      (stored_frame_peers p (board_at k b))))
  move_holds s _ n (stores_head b o u) w v q =
      let x : Opened d h b _ s.bank = opens s.bank o (q.going n) in
      let k : Bank = s.bank in
      let formed : WellFormed k = run_formed o w in
      stored_meets b stored_head s n formed (up_below k b u) (λ y. refl) x
      (spare_invariant b stored_head k x.holds head_view
      (on_board_keeps b stored_head k formed (λ l f. stored_head_fits k.directory b (board_at k b) formed.sizes.pages f)
      (stored_head_peers (board_at k b))))
  move_holds s _ n (stores_selector b z u saved) w v q =
      let k : Bank = s.bank in
      let o : MayStore d b _ = selects_stores z in
      let x : Opened d h b _ k = opens k o (q.going n) in
      step_meets (on_board b (on_working rested_working)) (store b stored_selector s)
      (store_meets b stored_selector s n (run_formed o w) x (selector_may_lose b x.only k x.holds u saved)
      {J = λ j. Invariant nobody (on_board b (on_working rested_working) j) x.past}
      (λ f. selector_rests b x.only k x.holds u saved f))
      (λ e i. selected_holds_in h k z (q.going n) (on_board b (on_working rested_working) (store b stored_selector s).bank) i)
  move_holds s _ n (gives_copy a o p x c y g u m r) w v q =
      step_meets _ s q (λ e i. copied_holds h a o p s.bank c y g u r (takes_now x _ s n v) x i)
  move_holds s _ n (passes_ownership a o p c z g own y m) w v q =
      let k : Bank = s.bank in
      step_meets _ s q
      (λ e i.
      let l : d < length k.boards = up_below k d y.up in
      let there : p < length (board_at k d).working.frames = rw (fits i.holds.formed d l).alone.fields.working.frames.count g.page in
      let serves : Serves a i.got.kind = rw i.kind (z, sym c) in
      record {
        ahead = i.ahead;
        holds =
            pass_ownership_invariant o d p k i.ahead i.holds g.page own g.other g.secure.up y.up
            (none_unstable o h (board_at k o) p (secure_point o k i.holds g.secure))
            y.volatile
            (secure_point d k i.holds y)
            (rw i.frames (frame_at_same (board_at k d).working.frames p (record { right = Own; bytes = (frame_of k o p).bytes }) there))
            (step_now _ s n v);
        frames = i.frames ∙ sym (taker_frames o d p k l);
        pending = rw i.pending (each_cons serves each_nil);
        pages = rw (i.pending, i.kind);
        since = taker_since o d p k l ∙ y.since;
      })
  move_holds s _ n (drops_copies p l own m) w v q =
      step_meets _ s q (λ e i. drop_copies_invariant d p s.bank i l (λ c t. refl) (step_now _ s n v))
  move_holds s _ n (performs a z can has out) w v q =
      step_meets _ s q (λ e i. begins_over s.bank z i can has out (step_now _ s n v))
  move_holds s _ n (loses_power l) w v q =
      step_meets _ s q (λ e i. record { holds = loses_power_lem d s.bank h (may_lose d s.bank i l (nobody_ahead d)); agrees = tt })
  move_holds s _ n (sets_fuse m p low high) w v q =
      let k : Bank = s.bank in
      step_meets _ s q
      (λ e i.
      on_board_invariant d (with_fuse m) k i (step_now _ s n v) (λ c ne. refl)
      (λ l r. view_holds (board_at k d) (with_fuse m (board_at k d)) (fuse_view m (board_at k d)) r))
  move_holds s _ n (loads l down) w v q = step_meets _ s q (λ e i. loaded_goes d s.bank i l down)
  move_holds s _ n (repeats_access a z i rep same over) w v q = step_meets _ s q (λ e f. repeated_goes d a s.bank f i rep same over (premise a z))
  move_holds s _ n (takes_last a i rep same over) w v q = step_meets _ s q (λ e f. last_goes d a s.bank f i rep same over)
  move_holds s _ n (settles l rep over) w v q =
      step_meets _ s q
      (λ e i.
      let t : (t : Rebuilt) × Invariant (only_of d t) _ _ = i.step.ends over (step_now _ s n v) in
      record { sets = i.sets; ahead = t.0; holds = t.1 })

  moves_hold : {χ : Phase} {r s : Run} → Moves d Again Begun r χ s → r.lost ≡ none → Invariant nobody r.bank h → RunMeets (HoldsIn d h χ) h s
  unfolding HoldsIn fed Agrees
  moves_hold {r = r} t n q =
      induct_formed (λ χ s. RunMeets (HoldsIn d h χ) h s)
      (λ χ ψ s m e a w v. move_holds s m e a w v)
      (λ e s n o v. waits_holds e s o v)
      (λ s i. record { going = λ n. record { holds = i.going n; agrees = tt }; lost = i.lost })
      (λ χ ψ s c e i. record { going = λ m. lost_not m e; lost = i.lost })
      t (formed_begun d r q.formed) (record { going = λ m. q; lost = λ c e. lost_not n e })

-- ==== calls

-- the premise, said of the bank
abbrev pub PremiseOn : Call → Bank → History → Type 0
PremiseOn c k h =
    (b : ℕ) (a : Access) (e : HistoryEntry)
    → access_of c ≡ some (b, a)
    → (code (call_bank c k).answer ≡ 0) ⊎ (code (call_bank c k).answer ≡ 8)
    → (board_at k b).state ≡ Replaying
    → next_entry b h ≡ some e
    → e.access ≡ a

module _ (c : Call) (k : Bank) {h : History} (q : Invariant nobody k h) (premise : PremiseOn c k h) where
  call_meets : RunMeets (HoldsIn (board_named c) h (feeds c k (call_bank c k).answer (call_bank c k).given)) h (call_bank c k).run
  unfolding start
  call_meets = moves_hold (board_named c) h (λ a z e n. premise (board_named c) a e z.0 z.1 z.2 n) (call_moves c k q.formed) refl q

  pub call_invariant : Invariant nobody (call_bank c k).run.bank (history_after c k h)
  unfolding history_after HoldsIn fed event_of lost_at
  call_invariant =
      by_option (call_bank c k).run.lost
      (λ n. (call_meets.going n).holds)
      (λ b e. rw ((power_lost c k b).1 e) (call_meets.lost b e))

  -- a call that is done: a repeated access gave the bytes of its entry
  pub call_repeats : (v : ℕ) → (call_bank c k).answer ≡ Done v → Agrees (event_of c (Done v) (call_bank c k).given) h
  unfolding HoldsIn
  call_repeats v d =
      by_option (call_bank c k).run.lost
      (λ n. rw d at (call_meets.going n).agrees)
      (λ b e. let z : ◌≡◌ {A = ℕ} 0 1 = cc ((power_lost c k b).1 e) in absurd (omega arith))
