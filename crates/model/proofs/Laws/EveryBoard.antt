-- What holds of every board holds after a call of board d, if each change that the steps of the call make to a board keeps it. One law for any property of
-- boards. Assumes nothing.
use Rattle.std.specs.Prelude.{◌≡◌, Bool, length}
use Prim.Native.Nat.{ℕ, zero, suc}
use Rattle.std.proofs.Math.Option.{none}
use mathlib.Core.List.{List, [], ◌∷◌}
use Rattle.words.specs.Bytes.{Each, each_nil, each_cons}
use Rattle.types.specs.declared.Frame.{Frame}
use Rattle.types.specs.declared.CopyOrOwn.{CopyOrOwn}
use Rattle.types.specs.declared.CopyOrOwn.TheVariants.{GotCopy, GotOwn}
use Rattle.types.specs.declared.Kind.TheVariants.{Got}
use Rattle.types.specs.declared.Answer.{Answer}
use Rattle.model.specs.Definitions.Parts.{member}
use Rattle.model.specs.Definitions.Bank.{Entry, Board, Bank, no_board, board_at, entry_at, on_board, on_entry, on_working}
use Rattle.model.specs.Definitions.Steps.{Run, start, step, powered_off, power_off, with_fuse, fuse_board, burnt, store, store_all, recorded, note}
use Rattle.model.specs.Definitions.Steps.{stored_record, flush}
use Rattle.model.specs.Definitions.Steps.{stored_frame, stored_head, stored_selector, checkpoint_stores, rested_working, checkpoint, Access, takes, accessed}
use Rattle.model.specs.Definitions.Steps.{access, frame_of, giver, show, give_copy, dropped, with_frame, drop_at, drop_copies, pass_ownership, show_all}
use Rattle.model.specs.Definitions.Steps.{give_copies, read_fetch, write_fetch, fetch}
use Rattle.model.specs.Definitions.Replay.{restarted, took_due, replay_over, settled, settle, end_replay, end_if_over, replayed}
use Rattle.model.specs.Definitions.Calls.{Result, first_given, unless, finished, page_written, copies_out, lacking_of, pages_lacking, live_refusals, prepared}
use Rattle.model.specs.Definitions.Calls.{performed, live, live_after_end, replaying, access_within, checkpoint_bank, fuse_bank, restart_bank, compare_bank}
use Rattle.model.specs.Definitions.Calls.{Call}
use Rattle.model.specs.Definitions.Calls.{Accessing, Checkpointing, Fusing, Restarting, Comparing, call_within}
use Rattle.model.specs.Laws.Codes.Statement.{board_named}
use Rattle.model.proofs.Laws.Logic.{cases, cases_option, by_eq}
use Rattle.model.proofs.Laws.Boards.{board_at_out, by_board, board_at_same, board_at_other, on_board_out, board_at_on_entry, boards_drop_at, dropped_if}
use Rattle.model.proofs.Laws.Boards.{board_at_drop_at}
use Rattle.model.proofs.Laws.Runs.{step_cases, store_cases, finished_run, each_record_stores, each_checkpoint_stores}

-- ---- a property of boards, by their numbers

module _ (Q : ℕ → Board → Type 0) where
  -- every board of a bank has it
  abbrev pub Boards : Bank → Type 0
  Boards k = (c : ℕ) → Q c (board_at k c)

  -- a change of board b that keeps it
  abbrev pub KeepsOn : ℕ → (Board → Board) → Type 0
  KeepsOn b f = (x : Board) → Q b x → Q b (f x)

  -- one board changed
  pub every_changed : (b : ℕ) (f : Board → Board) (k : Bank) → Boards k → Q b (f (board_at k b)) → Boards (on_board b f k)
  every_changed b f k h n c =
      by_eq c b
      (λ e.
      rw e
      (by_board k b
      (λ l. rw (board_at_same b f k l) n)
      (λ out. rw (on_board_out b f k out) (h b))))
      (λ ne. rw (board_at_other b f k c ne) (h c))

  pub every_on_board : (b : ℕ) (f : Board → Board) (k : Bank) → KeepsOn b f → Boards k → Boards (on_board b f k)
  every_on_board b f k q h = every_changed b f k h (q (board_at k b) (h b))

  every_on_entry : (p : ℕ) (f : Entry → Entry) (k : Bank) → Boards k → Boards (on_entry p f k)
  every_on_entry p f k h c = rw (board_at_on_entry p f k c) (h c)

  every_power_off : (b : ℕ) (k : Bank) → KeepsOn b powered_off → Boards k → Boards (power_off b k)
  unfolding power_off board_at
  every_power_off b k q h = every_on_board b powered_off _ q h

  -- ---- runs

  pub every_step : (f : Bank → Bank) (r : Run) → Boards r.bank → Boards (f r.bank) → Boards (step f r).bank
  every_step f r h g = step_cases (λ s. Boards s.bank) f r (λ c e. h) (λ e. g)

  module _ (b : ℕ) (lowers : KeepsOn b burnt) (off : KeepsOn b powered_off) where
    every_store : (f : Board → Board) (r : Run) → KeepsOn b f → Boards r.bank → Boards (store b f r).bank
    every_store f r q h =
        let k : Bank = on_board b burnt (on_board b f r.bank) in
        let w : Boards k = every_on_board b burnt _ lowers (every_on_board b f r.bank q h) in
        store_cases (λ s. Boards s.bank) b f r (λ c e. h) (λ e z. every_power_off b k off w) (λ e z. w)

    pub every_store_all : (fs : List (Board → Board)) (r : Run) → Each (KeepsOn b) fs → Boards r.bank → Boards (store_all b fs r).bank
    unfolding store_all
    every_store_all [] r each_nil h = h
    every_store_all (f ∷ fs) r (each_cons q qs) h = every_store_all fs (store b f r) qs (every_store f r q h)

-- ---- a call of board d

-- What the steps of a call of board d do to boards keeps the property: to its own, to a giver, to one that drops a page, to one that loses its power.
pub record Lasts (d : ℕ) (Q : ℕ → Board → Type 0) : Type 0 where
  pub absent : (c : ℕ) → Q c no_board
  pub off : (c : ℕ) → KeepsOn Q c powered_off
  pub gives : (o p : ℕ) (r : Run) → Boards Q r.bank → Boards Q (show o d p r).bank
  pub drops : (c p : ℕ) → KeepsOn Q c (dropped d p)
  pub lowers : KeepsOn Q d burnt
  pub got : (g : CopyOrOwn) (p o : ℕ) (bytes : List ℕ) → KeepsOn Q d (on_working (recorded (Got g p) o bytes))
  pub frame : (p : ℕ) (f : Frame) → KeepsOn Q d (with_frame p f)
  pub stores_record : KeepsOn Q d stored_record
  pub stores_frame : (p : ℕ) → KeepsOn Q d (stored_frame p)
  pub stores_head : KeepsOn Q d stored_head
  pub stores_selector : KeepsOn Q d stored_selector
  pub rests : KeepsOn Q d (on_working rested_working)
  pub settles : (owned : ℕ → Bool) → KeepsOn Q d (settled owned)
  pub restarts : KeepsOn Q d restarted
  pub fuses : (n : ℕ) → KeepsOn Q d (with_fuse n)

module _ (d : ℕ) (Q : ℕ → Board → Type 0) (q : Lasts d Q) where
  every_stores : (fs : List (Board → Board)) (r : Run) → Each (KeepsOn Q d) fs → Boards Q r.bank → Boards Q (store_all d fs r).bank
  every_stores fs r = every_store_all Q d q.lowers (q.off d) fs r

  every_flush : (r : Run) → Boards Q r.bank → Boards Q (flush d r).bank
  unfolding flush
  every_flush r h = every_stores _ r (each_record_stores q.stores_record (board_at r.bank d)) h

  every_checkpoint : (r : Run) → Boards Q r.bank → Boards Q (checkpoint d r).bank
  unfolding checkpoint
  every_checkpoint r h =
      let s : Run = store_all d (checkpoint_stores (length r.bank.directory)) r in
      let w : Boards Q s.bank = every_stores _ r (each_checkpoint_stores q.stores_frame q.stores_head q.stores_selector _) h in
      every_step Q _ s w (every_on_board Q d (on_working rested_working) s.bank q.rests w)

  -- ---- fetches

  every_got : (g : CopyOrOwn) (p o : ℕ) (bytes : List ℕ) (k : Bank) → Boards Q k → Boards Q (note d (Got g p) o bytes k)
  unfolding note
  every_got g p o bytes k h = every_on_board Q d _ k (q.got g p o bytes) h

  every_dropped : (loses : ℕ → Bool) (p : ℕ) (k : Bank) → Boards Q k → Boards Q (drop_at loses d p k)
  unfolding dropped_if
  every_dropped loses p k h c =
      by_board k c
      (λ l. rw (board_at_drop_at loses d p k c l) (cases (λ (x : Board). Q c x) (loses c) (λ t. q.drops c p _ (h c)) (λ t. h c)))
      (λ out. rw (board_at_out (drop_at loses d p k) c (rw (boards_drop_at loses d p k) out)) (q.absent c))

  every_give_copy : (o p : ℕ) (k : Bank) → Boards Q k → Boards Q (give_copy o d p k)
  unfolding give_copy
  every_give_copy o p k h =
      every_on_entry Q p _ _ (every_on_board Q d (with_frame p _) _ (q.frame p _) (every_got GotCopy p o (frame_of k o p).bytes k h))

  every_drop_copies : (p : ℕ) (k : Bank) → Boards Q k → Boards Q (drop_copies d p k)
  unfolding drop_copies
  every_drop_copies p k h = every_on_entry Q p _ _ (every_dropped (λ c. member c (entry_at k p).copies) p k h)

  every_pass_ownership : (o p : ℕ) (k : Bank) → Boards Q k → Boards Q (pass_ownership o d p k)
  unfolding pass_ownership
  every_pass_ownership o p k h = every_on_entry Q p _ _ (every_on_board Q d (with_frame p _) _ (q.frame p _) (every_dropped _ p k h))

  every_show_all : (ps : List ℕ) (r : Run) → Boards Q r.bank → Boards Q (show_all d ps r).bank
  unfolding show_all
  every_show_all [] r h = h
  every_show_all (p ∷ ps) r h = let o : ℕ = giver GotCopy r.bank p in every_show_all ps (show o d p r) (q.gives o p r h)

  every_give_copies : (ps : List ℕ) (k : Bank) → Boards Q k → Boards Q (give_copies d ps k)
  unfolding give_copies
  every_give_copies [] k h = h
  every_give_copies (p ∷ ps) k h = let o : ℕ = giver GotCopy k p in every_give_copies ps (give_copy o d p k) (every_give_copy o p k h)

  every_write_fetch : (p : ℕ) (r : Run) → Boards Q r.bank → Boards Q (write_fetch d p r).bank
  unfolding write_fetch
  every_write_fetch p r h =
      let o : ℕ = giver GotOwn r.bank p in
      let s : Run = show o d p r in
      let w : Boards Q s.bank = q.gives o p r h in
      let t : Run = step (λ k. note d (Got GotOwn p) o (frame_of k o p).bytes k) s in
      let v : Boards Q (flush d t).bank =
      every_flush t (every_step Q _ s w (every_got GotOwn p o (frame_of s.bank o p).bytes s.bank w)) in
      every_step Q _ (flush d t) v (every_pass_ownership o p _ v)

  every_fetch : (g : CopyOrOwn) (ps : List ℕ) (r : Run) → Boards Q r.bank → Boards Q (fetch g d ps r).bank
  unfolding fetch read_fetch
  every_fetch GotCopy ps r h =
      let w : Boards Q (show_all d ps r).bank = every_show_all ps r h in
      every_step Q (give_copies d ps) (show_all d ps r) w (every_give_copies ps _ w)
  every_fetch GotOwn [] r h = h
  every_fetch GotOwn (p ∷ ps) r h = every_fetch GotOwn ps (write_fetch d p r) (every_write_fetch p r h)

  every_prepared : (a : Access) (r : Run) → Boards Q r.bank → Boards Q (prepared d a r).bank
  unfolding prepared
  every_prepared a r h =
      cases (λ (s : Run). Boards Q s.bank) (lacking_of d a r.bank)
      (λ t. every_fetch (takes a) (pages_lacking d a r.bank) r h)
      (λ t.
      cases (λ (s : Run). Boards Q s.bank) (copies_out a r.bank)
      (λ u. every_step Q _ r h (every_drop_copies (page_written a) r.bank h))
      (λ u. h))

  -- ---- a replay's end

  every_end_replay : (r : Run) → Boards Q r.bank → Boards Q (end_replay d r).bank
  unfolding end_replay settle
  every_end_replay r h = every_checkpoint _ (every_step Q _ r h (every_on_board Q d _ r.bank (q.settles _) h))

  every_end_if_over : (r : Run) → Boards Q r.bank → Boards Q (end_if_over d r).bank
  unfolding end_if_over
  every_end_if_over r h = cases (λ (s : Run). Boards Q s.bank) (replay_over (board_at r.bank d)) (λ t. every_end_replay r h) (λ t. h)

-- ---- the results of calls

module _ (Q : ℕ → Board → Type 0) where
  pub every_unless : (tests : List (Bool × Answer)) (r : Run) (go : Result) → Boards Q r.bank → (first_given tests ≡ none → Boards Q go.run.bank)
      → Boards Q (unless tests r go).run.bank
  unfolding unless
  every_unless tests r go h g = cases_option (λ (t : Result). Boards Q t.run.bank) (first_given tests) g (λ a e. h)

  every_finished : (v : ℕ) (given : List ℕ) (r : Run) → Boards Q r.bank → Boards Q (finished v given r).run.bank
  every_finished v given r h = rw (finished_run v given r) h

-- ---- an access: Q holds until it is made, and R from then on

module _ (d : ℕ) (Q R : ℕ → Board → Type 0) (q : Lasts d Q) (r : Lasts d R) (later : (c : ℕ) (x : Board) → Q c x → R c x) (a : Access)
    (counts : (x : Board) → Q d x → R d (on_working (accessed a) x)) where
  every_performed : (s : Run) → Boards Q s.bank → Boards R (performed d a s).run.bank
  unfolding performed access
  every_performed s h =
      let l : Boards R s.bank = λ c. later c _ (h c) in
      every_finished R _ _ (step (access d a) s)
      (every_step R (access d a) s l (every_changed R d (on_working (accessed a)) s.bank l (counts _ (h d))))

  pub every_live : (s : Run) → Boards Q s.bank → Boards R (live d a s).run.bank
  unfolding live
  every_live s h =
      every_unless R (live_refusals d a s.bank) s _ (λ c. later c _ (h c)) (λ e. every_performed (prepared d a s) (every_prepared d Q q a s h))

  pub every_replaying : KeepsOn Q d took_due → ((x : Board) → Q d x → R d (replayed a x)) → (k : Bank) → Boards Q k → Boards R (replaying d a k).run.bank
  unfolding replaying live_after_end start
  every_replaying took repeats k h =
      let taken : Bank = on_board d took_due k in
      let w : Boards Q taken = every_on_board Q d took_due k took h in
      let ended : Run = end_replay d (start taken) in
      let v : Boards Q ended.bank = every_end_replay d Q q (start taken) w in
      cases (λ (t : Result). Boards R t.run.bank) (replay_over (board_at taken d))
      (λ t. cases_option (λ (t : Result). Boards R t.run.bank) ended.lost (λ n. every_live ended v) (λ c e. λ b. later b _ (v b)))
      (λ t.
      every_finished R _ _ (end_if_over d (start (on_board d (replayed a) taken)))
      (every_end_if_over d R r (start (on_board d (replayed a) taken))
      (every_changed R d (replayed a) taken (λ c. later c _ (w c)) (repeats _ (w d)))))

-- ---- a call

-- Of every other call than an access nothing more is asked.
module _ (Q : ℕ → Board → Type 0) (k : Bank) (h : Boards Q k) where
  every_fuse : (d : ℕ) → Lasts d Q → (n : ℕ) → Boards Q (fuse_board d n k)
  unfolding fuse_board
  every_fuse d q zero = every_power_off Q d k (q.off d) h
  every_fuse d q (suc n) = every_on_board Q d (with_fuse (suc n)) k (q.fuses (suc n)) h

  pub every_call : (largest : ℕ) (c : Call) → Lasts (board_named c) Q → ((a : Access) → Boards Q (access_within largest (board_named c) a k).run.bank)
      → Boards Q (call_within largest c k).run.bank
  unfolding call_within board_named checkpoint_bank fuse_bank restart_bank compare_bank start
  every_call largest (Accessing b a) q accesses = accesses a
  every_call largest (Checkpointing b) q accesses =
      every_unless Q _ (start k) _ h (λ e. every_finished Q 0 [] (checkpoint b (start k)) (every_checkpoint b Q q (start k) h))
  every_call largest (Fusing b n) q accesses =
      every_unless Q _ (start k) _ h
      (λ e. every_finished Q 0 [] (step (fuse_board b n) (start k)) (every_step Q (fuse_board b n) (start k) h (every_fuse b q n)))
  every_call largest (Restarting b) q accesses =
      let j : Bank = on_board b restarted k in
      every_unless Q _ (start k) _ h
      (λ e. every_finished Q _ _ (end_if_over b (start j)) (every_end_if_over b Q q (start j) (every_on_board Q b restarted k q.restarts h)))
  every_call largest (Comparing b c) q accesses = every_unless Q _ (start k) _ h (λ e. h)
