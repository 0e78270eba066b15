-- What a bank owes: the stores that its events so far have paid for and that are still to come (document 02, F-9). A volatile record is one, for the flush that
-- stores it; a copy that is out is one, for the dropped of its holder; a board that replays owes the checkpoint that ends its replay. A step takes its stores
-- from that, or adds to it what its event pays for. Assumes nothing.
use Rattle.std.specs.Prelude.{◌≡◌, ◌&&◌, ◌||◌, replicate, get_or, ltb}
use Rattle.std.proofs.Math.Path.{refl, sym, ap}
use Rattle.std.proofs.Common.{◌∙◌}
use Prim.Native.Nat.{ℕ, zero, suc, ◌+◌, ◌*◌, ◌≤◌, ◌<◌}
use Rattle.std.proofs.Math.Nat.{suc-mul}
use native.Mathlib.Omega.{arith}
use Rattle.std.proofs.Math.Bool.{Bool, true, false, not}
use Rattle.std.proofs.Math.Option.{none}
use mathlib.Core.List.{List, [], ◌∷◌, map}
use Rattle.std.proofs.Math.ListN.{length, length-append, get_or-eq_default}
use Rattle.std.proofs.Math.Dec.{eqb}
use borrow.Author.Tests.{ne_eqb, ltb-true, ltb-false}
use Rattle.words.specs.Bytes.{Each, each_nil, each_cons}
use Rattle.types.specs.declared.State.TheVariants.{Replaying}
use Rattle.types.specs.declared.Right.TheVariants.{Copy, Own}
use Rattle.types.specs.declared.Frame.{Frame}
use Rattle.types.specs.declared.CopyOrOwn.{CopyOrOwn}
use Rattle.types.specs.declared.CopyOrOwn.TheVariants.{GotCopy, GotOwn}
use Rattle.types.specs.declared.Kind.{Kind}
use Rattle.types.specs.declared.Kind.TheVariants.{Got, Shown, Dropped}
use Rattle.model.specs.Definitions.Parts.{zeros, update, each_from, each, sum_over, all_from, all_below, member, with_member, without_member}
use Rattle.model.specs.Definitions.Layout.{page_size}
use Rattle.model.specs.Definitions.Bank.{Entry, Working, Board, Bank, empty_frame, no_board, board_at, entry_at, on_board, on_entry, on_working, on_spare}
use Rattle.model.specs.Definitions.Bank.{on_frames, no_entry}
use Rattle.model.specs.Definitions.WellFormed.{is_replaying}
use Rattle.model.specs.Definitions.Steps.{Run, step, powered_off, forgotten, power_off, burnt, store, store_all, recorded, appended, note, moved_record}
use Rattle.model.specs.Definitions.Steps.{stored_record, record_stores, with_fuse, Access, accessed}
use Rattle.model.specs.Definitions.Steps.{flush, stored_frame, stored_head, stored_selector, checkpoint_stores, rested_working, checkpoint, frame_of, giver}
use Rattle.model.specs.Definitions.Steps.{show}
use Rattle.model.specs.Definitions.Steps.{with_frame, give_copy, dropped, drop_at, drop_copies, pass_ownership, show_all, give_copies, read_fetch, write_fetch}
use Rattle.model.specs.Definitions.Steps.{fetch}
use Rattle.model.specs.Definitions.Replay.{settled, settle, end_replay, end_if_over, replay_over, records_left, due, took_due, used_up, loaded, restarted}
use Rattle.model.specs.Definitions.Replay.{replayed}
use Rattle.model.specs.History.WearStatement.{page_cost}
use Rattle.model.proofs.Laws.Logic.{cases, by_bool, by_option, by_eq, clash, and_right}
use Rattle.model.proofs.Laws.Sets.{member_none, member_with_other, member_without_same, member_without_other}
use Rattle.model.proofs.Laws.Below.{none_all_below, all_below_fewer, all_below_but}
use Rattle.model.proofs.Laws.Boards.{update_out, by_board, board_at_out, on_board_out, stored_record_cases}
use Rattle.model.proofs.Laws.Runs.{step_cases, store_cases, step_going, step_stores, length_checkpoint_stores, each_checkpoint_stores, follows_step}
use Rattle.model.proofs.Laws.Runs.{follows_store_all, follows_show, follows_note_flush, follows_write_fetch, changed_store, sizes_on_board}
use Rattle.model.proofs.Laws.Runs.Stores.{burnt_state, burnt_working}
use Rattle.model.proofs.Laws.Keeps.Peers.{use_up_log, took_gots_log}

-- ---- sums over lists

module _ {A : Type 0} (weigh : A → ℕ) where
  -- one element changed, which adds c and takes m
  sum_update : (i : ℕ) (f : A → A) (xs : List A) (d : A) (m c : ℕ) → i < length xs
      → weigh (f (get_or xs i d)) + m ≤ weigh (get_or xs i d) + c → sum_over weigh (update i f xs) + m ≤ sum_over weigh xs + c
  unfolding update sum_over
  sum_update i f [] d m c l h = absurd (omega (arith, l))
  sum_update zero f (x ∷ xs) d m c l h = omega (arith, h)
  sum_update (suc i) f (x ∷ xs) d m c l h = omega (arith, sum_update i f xs d m c (omega (arith, l)) h)

  sum_map : (f : A → A) (xs : List A) → ((x : A) → weigh (f x) ≤ weigh x) → sum_over weigh (map f xs) ≤ sum_over weigh xs
  unfolding sum_over
  sum_map f [] h = omega arith
  sum_map f (x ∷ xs) h = omega (arith, h x, sum_map f xs h)

  pub sum_few : (m : ℕ) (d : A) (xs : List A) → ((i : ℕ) → i < length xs → weigh (get_or xs i d) ≤ m) → sum_over weigh xs ≤ length xs * m
  unfolding sum_over
  sum_few m d [] h = omega arith
  sum_few m d (x ∷ xs) h = omega (arith, h 0 (omega arith), sum_few m d xs (λ i l. h (suc i) (omega (arith, l))), suc-mul (length xs) m)

-- ---- what is owed

-- `ending` is what the end of a replay stores
unfoldable pub board_owes : (ending : ℕ) → Board → ℕ
board_owes ending x = length x.working.log + elim (is_replaying x.state) [ true ↦ ending | false ↦ 0 ]

-- how many boards hold a copy of a page
unfoldable pub copies_owe : (boards : ℕ) → Entry → ℕ
copies_owe boards d = length (all_below boards (λ c. member c d.copies))

abbrev pub owed : (ending boards : ℕ) → Bank → ℕ
owed ending boards k = sum_over (board_owes ending) k.boards + sum_over (copies_owe boards) k.directory

module _ (e n : ℕ) where
  -- ---- one board changed

  on_board_owes : (b : ℕ) (f : Board → Board) (k : Bank) (m c : ℕ) → b < length k.boards
      → board_owes e (f (board_at k b)) + m ≤ board_owes e (board_at k b) + c → owed e n (on_board b f k) + m ≤ owed e n k + c
  unfolding on_board board_at
  on_board_owes b f k m c l h = omega (arith, sum_update (board_owes e) b f k.boards no_board m c l h)

  -- a change that adds at most c, whatever the board
  abbrev Adds : ℕ → (Board → Board) → Type 0
  Adds c f = (x : Board) → board_owes e (f x) ≤ board_owes e x + c

  pub on_board_adds : (b : ℕ) (f : Board → Board) (k : Bank) (c : ℕ) → Adds c f → owed e n (on_board b f k) ≤ owed e n k + c
  on_board_adds b f k c h =
      by_board k b
      (λ l. omega (arith, on_board_owes b f k 0 c l (omega (arith, h (board_at k b)))))
      (λ l. rw (on_board_out b f k l) (omega arith))

  -- ---- one page's entry changed

  pub no_copies : (d : Entry) → d.copies ≡ 0 → copies_owe n d ≡ 0
  unfolding copies_owe
  no_copies d z = ap length (none_all_below (λ c. member c d.copies) n (λ j l. rw z (member_none j)))

  on_entry_owes : (p : ℕ) (f : Entry → Entry) (k : Bank) (m c : ℕ) → copies_owe n (f (entry_at k p)) + m ≤ copies_owe n (entry_at k p) + c
      → owed e n (on_entry p f k) + m ≤ owed e n k + c
  unfolding on_entry entry_at
  on_entry_owes p f k m c h =
      by_bool (ltb p (length k.directory))
      (λ t. omega (arith, sum_update (copies_owe n) p f k.directory no_entry m c (ltb-true p _ t) h))
      (λ t.
      let out : length k.directory ≤ p = ltb-false p (length k.directory) t in
      let none_there : copies_owe n (entry_at k p) ≡ 0 = no_copies _ (ap (λ (d : Entry). d.copies) (get_or-eq_default k.directory no_entry {n = p} out)) in
      rw (update_out p f k.directory out) (omega (arith, h, none_there)))

  -- a copy more
  copies_with : (b : ℕ) (d : Entry) → copies_owe n (record { owner = d.owner; copies = with_member b d.copies }) ≤ copies_owe n d + 1
  unfolding copies_owe
  copies_with b d =
      all_below_but (λ c. member c (with_member b d.copies)) (λ c. member c d.copies) b (λ j ne t. sym (member_with_other b j d.copies ne) ∙ t) n

  -- a board forgotten
  copies_without : (b : ℕ) (d : Entry) → copies_owe n (forgotten b d) ≤ copies_owe n d
  unfolding copies_owe forgotten
  copies_without b d =
      all_below_fewer (λ c. member c (without_member b d.copies)) (λ c. member c d.copies)
      (λ j t.
      by_eq j b
      (λ e. clash t (rw e (member_without_same b d.copies)))
      (λ ne. sym (member_without_other b j d.copies ne) ∙ t))
      n

  -- ---- what the steps do to a board

  -- whatever leaves state and volatile log as they were
  adds_none : (x y : Board) → y.state ≡ x.state → y.working.log ≡ x.working.log → board_owes e y ≤ board_owes e x + 0
  unfolding board_owes
  adds_none x y s l = rw (s, l) (omega arith)

  adds_powered_off : Adds 0 powered_off
  unfolding board_owes powered_off is_replaying
  adds_powered_off x = omega arith

  adds_burnt : Adds 0 burnt
  adds_burnt x = adds_none x (burnt x) (burnt_state x) (ap (λ (w : Working). w.log) (burnt_working x))

  adds_recorded : (kind : Kind) (peer : ℕ) (bytes : List ℕ) → Adds 1 (on_working (recorded kind peer bytes))
  unfolding board_owes on_working recorded appended
  adds_recorded kind peer bytes x =
      omega (arith, length-append x.working.log (record { count = x.working.since; kind = kind; peer = peer; bytes = bytes } ∷ []))

  -- a record stored is a record less
  takes_stored_record : (x : Board) → 0 < length x.working.log → board_owes e (stored_record x) + 1 ≤ board_owes e x
  unfolding board_owes moved_record
  takes_stored_record x some =
      stored_record_cases (λ y. board_owes e y + 1 ≤ board_owes e x) x
      (λ n. absurd (omega (arith, some, ap length n)))
      (λ r rs n. omega (arith, ap length n))

  length_stored_record : (x : Board) → length x.working.log ≤ length (stored_record x).working.log + 1
  unfolding moved_record
  length_stored_record x =
      stored_record_cases (λ y. length x.working.log ≤ length y.working.log + 1) x (λ n. omega arith) (λ r rs n. omega (arith, ap length n))

  adds_with_frame : (p : ℕ) (f : Frame) → Adds 0 (with_frame p f)
  unfolding with_frame on_working on_frames
  adds_with_frame p f x = adds_none x (with_frame p f x) refl refl

  adds_dropped : (w p : ℕ) → Adds 1 (dropped w p)
  unfolding dropped
  adds_dropped w p x =
      omega (arith, adds_with_frame p empty_frame (on_working (recorded (Dropped p) w (zeros page_size)) x), adds_recorded (Dropped p) w (zeros page_size) x)

  -- ---- boards that drop a page together

  each_owes : (loses : ℕ → Bool) (w p i : ℕ) (xs : List Board)
      → sum_over (board_owes e) (each_from i (λ c x. elim (loses c) [ true ↦ dropped w p x | false ↦ x ]) xs)
      ≤ sum_over (board_owes e) xs + length (all_from i (length xs) loses)
  unfolding each_from all_from sum_over
  each_owes loses w p i [] = omega arith
  each_owes loses w p i (x ∷ xs) =
      let f : ℕ → Board → Board = λ c y. elim (loses c) [ true ↦ dropped w p y | false ↦ y ] in
      let more : sum_over (board_owes e) (each_from (suc i) f xs) ≤ sum_over (board_owes e) xs + length (all_from (suc i) (length xs) loses) =
      each_owes loses w p (suc i) xs in
      by_bool (loses i)
      (λ t. rw t (omega (arith, more, adds_dropped w p x)))
      (λ t. rw t (omega (arith, more)))

  -- each that loses the page owes a record more
  drop_at_owes : (loses : ℕ → Bool) (w p : ℕ) (k : Bank) → length k.boards ≡ n → owed e n (drop_at loses w p k) ≤ owed e n k + length (all_below n loses)
  unfolding drop_at each all_below
  drop_at_owes loses w p k z = omega (arith, rw z at (each_owes loses w p 0 k.boards))

  -- the copies go, which were owed
  emptied_owes : (p : ℕ) (f : Entry → Entry) (k : Bank) → ((d : Entry) → (f d).copies ≡ 0)
      → owed e n (on_entry p f k) + copies_owe n (entry_at k p) ≤ owed e n k + 0
  emptied_owes p f k none_left = on_entry_owes p f k _ 0 (omega (arith, no_copies (f (entry_at k p)) (none_left (entry_at k p))))

  pub drop_copies_owes : (w p : ℕ) (k : Bank) → length k.boards ≡ n → owed e n (drop_copies w p k) ≤ owed e n k + 0
  unfolding drop_copies drop_at entry_at copies_owe
  drop_copies_owes w p k z =
      let holds : ℕ → Bool = λ c. member c (entry_at k p).copies in
      omega (
        arith,
        drop_at_owes holds w p k z,
        emptied_owes p (λ d. record { owner = d.owner; copies = 0 }) (drop_at holds w p k) (λ d. refl),
      )

  -- "owner and all copy holders but the writer record dropped": the owner's is new
  pass_ownership_owes : (o w p : ℕ) (k : Bank) → length k.boards ≡ n → owed e n (pass_ownership o w p k) ≤ owed e n k + 1
  unfolding pass_ownership drop_at entry_at copies_owe on_board
  pass_ownership_owes o w p k z =
      let holds : ℕ → Bool = λ c. member c (entry_at k p).copies in
      let loses : ℕ → Bool = λ c. not (eqb c w) && (eqb c o || holds c) in
      let owns : Board → Board = with_frame p (record { right = Own; bytes = (frame_of k o p).bytes }) in
      let few : length (all_below n loses) ≤ length (all_below n holds) + 1 =
      all_below_but loses holds o (λ j ne t. let u : (eqb j o || holds j) ≡ true = and_right (not (eqb j w)) _ t in rw (ne_eqb j o ne) at u) n in
      omega (
        arith,
        few,
        drop_at_owes loses w p k z,
        on_board_adds w owns (drop_at loses w p k) 0 (adds_with_frame p (record { right = Own; bytes = (frame_of k o p).bytes })),
        emptied_owes p (λ d. record { owner = w; copies = 0 }) (on_board w owns (drop_at loses w p k)) (λ d. refl),
      )

  -- a got, and a copy out
  give_copy_owes : (o b p : ℕ) (k : Bank) → owed e n (give_copy o b p k) ≤ owed e n k + 2
  unfolding give_copy note
  give_copy_owes o b p k =
      let bytes : List ℕ = (frame_of k o p).bytes in
      let noted : Bank = on_board b (on_working (recorded (Got GotCopy p) o bytes)) k in
      let holds : Board → Board = with_frame p (record { right = Copy; bytes = bytes }) in
      let held : Bank = on_board b holds noted in
      omega (
        arith,
        on_entry_owes p (λ d. record { owner = d.owner; copies = with_member b d.copies }) held 0 1 (omega (arith, copies_with b (entry_at held p))),
        on_board_adds b holds noted 0 (adds_with_frame p (record { right = Copy; bytes = bytes })),
        on_board_adds b (on_working (recorded (Got GotCopy p) o bytes)) k 1 (adds_recorded (Got GotCopy p) o bytes),
      )

  give_copies_owes : (b : ℕ) (ps : List ℕ) (k : Bank) → owed e n (give_copies b ps k) ≤ owed e n k + length ps * 2
  unfolding give_copies
  give_copies_owes b [] k = omega arith
  give_copies_owes b (p ∷ ps) k =
      let o : ℕ = giver GotCopy k p in
      omega (arith, give_copies_owes b ps (give_copy o b p k), give_copy_owes o b p k)

  pub power_off_owes : (b : ℕ) (k : Bank) → owed e n (power_off b k) ≤ owed e n k
  unfolding power_off
  power_off_owes b k =
      let forgets : Bank = record { directory = map (forgotten b) k.directory; boards = k.boards } in
      omega (arith, on_board_adds b powered_off forgets 0 adds_powered_off, sum_map (copies_owe n) (forgotten b) k.directory (copies_without b))

  -- ---- a call in progress

  -- what a run stores, and owes at its end, beyond what was owed before
  abbrev pub Spends : (most : ℕ) → Run → Run → Type 0
  Spends most r s = s.stores + owed e n s.bank ≤ r.stores + owed e n r.bank + most

  pub step_spends : (f : Bank → Bank) (r : Run) (c : ℕ) → owed e n (f r.bank) ≤ owed e n r.bank + c → Spends c r (step f r)
  step_spends f r c h = step_cases (Spends c r) f r (λ d l. omega arith) (λ n. omega (arith, h))

  store_spends : (b : ℕ) (f : Board → Board) (r : Run) (c : ℕ) → owed e n (on_board b f r.bank) + 1 ≤ owed e n r.bank + c → Spends c r (store b f r)
  store_spends b f r c h =
      let k : Bank = on_board b burnt (on_board b f r.bank) in
      let same : owed e n k ≤ owed e n (on_board b f r.bank) + 0 = on_board_adds b burnt (on_board b f r.bank) 0 adds_burnt in
      store_cases (Spends c r) b f r (λ d l. omega arith) (λ n z. omega (arith, h, same, power_off_owes b k)) (λ n z. omega (arith, h, same))

  -- ---- a checkpoint: a store each

  store_all_spends : (b : ℕ) (fs : List (Board → Board)) (r : Run) → Each (Adds 0) fs → Spends (length fs) r (store_all b fs r)
  unfolding store_all
  store_all_spends b [] r each_nil = omega arith
  store_all_spends b (f ∷ fs) r (each_cons q qs) =
      omega (arith, store_spends b f r 1 (omega (arith, on_board_adds b f r.bank 0 q)), store_all_spends b fs (store b f r) qs)

  adds_rested : Adds 0 (on_working rested_working)
  unfolding board_owes on_working rested_working
  adds_rested x = omega arith

  pub checkpoint_spends : (b : ℕ) (r : Run) → Spends (length r.bank.directory + 2) r (checkpoint b r)
  unfolding checkpoint stored_frame stored_head stored_selector on_spare
  checkpoint_spends b r =
      let fs : List (Board → Board) = checkpoint_stores (length r.bank.directory) in
      let s : Run = store_all b fs r in
      let quiet : Each (Adds 0) fs =
      each_checkpoint_stores {P = Adds 0}
      (λ p x. adds_none x (stored_frame p x) refl refl) (λ x. adds_none x (stored_head x) refl refl) (λ x. adds_none x (stored_selector x) refl refl) _ in
      omega (
        arith,
        store_all_spends b fs r quiet,
        length_checkpoint_stores (length r.bank.directory),
        step_spends (on_board b (on_working rested_working)) s 0 (on_board_adds b (on_working rested_working) s.bank 0 adds_rested),
      )

  -- ---- a flush: each store is of a record that was owed

  flushed_spends : (n b : ℕ) (r : Run) → (r.lost ≡ none → n ≤ length (board_at r.bank b).working.log)
      → Spends 0 r (store_all b (replicate n stored_record) r)
  unfolding store_all no_board
  flushed_spends zero b r h = omega arith
  flushed_spends (suc n) b r h =
      by_option r.lost
      (λ going.
      let x : Board = board_at r.bank b in
      let s : Run = store b stored_record r in
      let some : suc n ≤ length x.working.log = h going in
      let none_there : length no_board.working.log ≡ 0 = refl in
      let here : b < length r.bank.boards =
      by_board r.bank b (λ l. l) (λ l. absurd (omega (arith, some, ap (λ (y : Board). length y.working.log) (board_at_out r.bank b l), none_there))) in
      let paid : Spends 0 r s =
      store_spends b stored_record r 0 (on_board_owes b stored_record r.bank 1 0 here (omega (arith, takes_stored_record x (omega (arith, some))))) in
      let left : s.lost ≡ none → n ≤ length (board_at s.bank b).working.log =
      λ on.
      let y : board_at s.bank b ≡ burnt (stored_record x) = (changed_store b {R = λ u v. v ≡ burnt (stored_record u)} stored_record r on refl).this here in
      rw (y, burnt_working (stored_record x)) (omega (arith, some, length_stored_record x)) in
      omega (arith, paid, flushed_spends n b s left))
      (λ c l. rw ((follows_store_all b (replicate (suc n) stored_record) r).lost c l) (omega arith))

  flush_spends : (b : ℕ) (r : Run) → Spends 0 r (flush b r)
  unfolding flush record_stores
  flush_spends b r = flushed_spends (length (board_at r.bank b).working.log) b r (λ n. omega arith)

  -- ---- a fetch

  noted_spends : (b : ℕ) (kind : Kind) (peer : ℕ) (bytes : Bank → List ℕ) (r : Run) → Spends 1 r (flush b (step (λ k. note b kind peer (bytes k) k) r))
  unfolding note
  noted_spends b kind peer bytes r =
      let f : Bank → Bank = λ k. on_board b (on_working (recorded kind peer (bytes k))) k in
      omega (arith, step_spends f r 1 (on_board_adds b _ r.bank 1 (adds_recorded kind peer (bytes r.bank))), flush_spends b (step f r))

  show_spends : (o b p : ℕ) (r : Run) → Spends 1 r (show o b p r)
  unfolding show
  show_spends o b p r = noted_spends o (Shown p) b (λ k. zeros page_size) r

  show_all_spends : (b : ℕ) (ps : List ℕ) (r : Run) → Spends (length ps) r (show_all b ps r)
  unfolding show_all
  show_all_spends b [] r = omega arith
  show_all_spends b (p ∷ ps) r =
      let o : ℕ = giver GotCopy r.bank p in
      omega (arith, show_spends o b p r, show_all_spends b ps (show o b p r))

  -- a shown, a got and a copy out for each page
  read_fetch_spends : (b : ℕ) (ps : List ℕ) (r : Run) → Spends (length ps * page_cost) r (read_fetch b ps r)
  unfolding read_fetch
  read_fetch_spends b ps r =
      let s : Run = show_all b ps r in
      omega (arith, show_all_spends b ps r, step_spends (give_copies b ps) s (length ps * 2) (give_copies_owes b ps s.bank))

  -- a shown, a got, and the old owner's dropped
  write_fetch_spends : (w p : ℕ) (r : Run) → length r.bank.boards ≡ n → Spends page_cost r (write_fetch w p r)
  unfolding write_fetch
  write_fetch_spends w p r z =
      let o : ℕ = giver GotOwn r.bank p in
      let gave : Run = show o w p r in
      let bytes : Bank → List ℕ = λ k. (frame_of k o p).bytes in
      let got : Run = flush w (step (λ k. note w (Got GotOwn p) o (bytes k) k) gave) in
      let same : length got.bank.boards ≡ n =
      (follows_note_flush w (Got GotOwn p) o bytes gave).sizes.boards ∙ ((follows_show o w p r).sizes.boards ∙ z) in
      omega (
        arith,
        show_spends o w p r,
        noted_spends w (Got GotOwn p) o bytes gave,
        step_spends (pass_ownership o w p) got 1 (pass_ownership_owes o w p got.bank same),
      )

  pub fetch_spends : (g : CopyOrOwn) (b : ℕ) (ps : List ℕ) (r : Run) → length r.bank.boards ≡ n → Spends (length ps * page_cost) r (fetch g b ps r)
  unfolding fetch
  fetch_spends GotCopy b ps r z = read_fetch_spends b ps r
  fetch_spends GotOwn b [] r z = omega arith
  fetch_spends GotOwn b (p ∷ ps) r z =
      let s : Run = write_fetch b p r in
      omega (arith, write_fetch_spends b p r z, fetch_spends GotOwn b ps s ((follows_write_fetch b p r).sizes.boards ∙ z))

  -- ---- the end of a replay: its checkpoint was owed

  settled_owes : (owned : ℕ → Bool) (x : Board) → x.state ≡ Replaying → board_owes e (settled owned x) + e ≤ board_owes e x
  unfolding board_owes settled is_replaying
  settled_owes owned x s = rw (s, is_replaying) (omega arith)

  module _ (b : ℕ) (r : Run) (on : r.lost ≡ none) (l : b < length r.bank.boards) (s : (board_at r.bank b).state ≡ Replaying)
      (enough : length r.bank.directory + 2 ≤ e) where
    pub end_replay_spends : Spends 0 r (end_replay b r)
    unfolding end_replay settle
    end_replay_spends =
        let owned : ℕ → Bool = λ p. eqb (entry_at r.bank p).owner b in
        let f : Board → Board = settled owned in
        let g : Bank → Bank = λ k. on_board b (settled (λ p. eqb (entry_at k p).owner b)) k in
        let pages : length (step g r).bank.directory ≡ length r.bank.directory = (follows_step g r (sizes_on_board b f r.bank)).sizes.pages in
        let left : owed e n (step g r).bank + e ≤ owed e n r.bank + 0 =
        rw (step_going g r on) (on_board_owes b f r.bank e 0 l (omega (arith, settled_owes owned (board_at r.bank b) s))) in
        omega (arith, enough, pages, left, step_stores g r, checkpoint_spends b (step g r))

    pub end_if_over_spends : Spends 0 r (end_if_over b r)
    unfolding end_if_over
    end_if_over_spends = cases (Spends 0 r) (replay_over (board_at r.bank b)) (λ t. end_replay_spends) (λ t. omega arith)

  -- ---- other changes of a call's own board

  pub adds_accessed : (a : Access) → Adds 0 (on_working (accessed a))
  unfolding on_working accessed
  adds_accessed a x = adds_none x (on_working (accessed a) x) refl refl

  pub adds_took_due : Adds 0 took_due
  unfolding took_due on_working
  adds_took_due x = adds_none x (took_due x) refl (took_gots_log (due x) x.working)

  pub adds_replayed : (a : Access) → Adds 0 (replayed a)
  unfolding replayed used_up on_working accessed
  adds_replayed a x = adds_none x (replayed a x) refl (use_up_log (records_left (on_working (accessed a) x)) (on_working (accessed a) x).working)

  -- a restart owes the end of its replay
  pub adds_restarted : Adds e restarted
  unfolding board_owes used_up loaded on_working is_replaying
  adds_restarted x = omega (arith, ap length (use_up_log (records_left (loaded x)) (loaded x).working))

  pub adds_with_fuse : (n : ℕ) → Adds 0 (with_fuse n)
  unfolding with_fuse
  adds_with_fuse n x = adds_none x (with_fuse n x) refl refl
