-- No call makes more stores than a flush of 32 records for each of 16 pages, which covers a write fetch's two, and a checkpoint of P + 2 stores.
-- Assumes nothing.
use Rattle.std.specs.Prelude.{◌≡◌, ℕ, ◌+◌, ◌*◌, ◌≤◌, ◌<◌, Bool, false}
use Rattle.std.proofs.Math.Path.{refl}
use Rattle.std.proofs.Common.{ap, ◌∙◌, arith, length-append}
use Rattle.std.proofs.Math.Option.{none}
use mathlib.Core.List.{List, [], ◌∷◌}
use Rattle.std.proofs.Math.ListN.{length}
use Rattle.types.specs.declared.Frame.{Frame}
use Rattle.types.specs.declared.CopyOrOwn.{CopyOrOwn}
use Rattle.types.specs.declared.CopyOrOwn.TheVariants.{GotCopy, GotOwn}
use Rattle.types.specs.declared.Kind.{Kind}
use Rattle.types.specs.declared.Kind.TheVariants.{Got, Shown}
use Rattle.types.specs.declared.Answer.{Answer}
use Rattle.model.specs.Definitions.Parts.{zeros}
use Rattle.model.specs.Definitions.Layout.{most_pages, page_size, slot_count}
use Rattle.model.specs.Definitions.Bank.{Board, Bank, board_at, on_board, on_working}
use Rattle.model.specs.Definitions.Codec.{decode}
use Rattle.model.specs.Definitions.WellFormed.{is_replaying, WellFormed}
use Rattle.model.specs.Definitions.Check.{well_formed}
use Rattle.types.specs.declared.State.TheVariants.{Replaying}
use Rattle.model.specs.Definitions.Steps.{Run, start, recorded, appended, Access, takes, access, frame_of, pass_ownership}
use Rattle.model.specs.Definitions.Steps.{drop_copies, fuse_board, step, store, store_all, note, record_stores, flush, checkpoint_stores}
use Rattle.model.specs.Definitions.Steps.{rested_working, checkpoint, show, giver, show_all, give_copies, read_fetch, write_fetch, fetch}
use Rattle.model.specs.Definitions.Replay.{settle, loaded, used_up, differs, took_due, replayed, replay_over, end_replay, end_if_over}
use Rattle.model.specs.Definitions.Calls.{Result, first_given, unless, finished, page_written, copies_out, lacking_of, pages_lacking, live_refusals, prepared}
use Rattle.model.specs.Definitions.Calls.{performed, live, live_after_end, replaying, access_refusals, access_within, access_bank, checkpoint_bank, fuse_bank}
use Rattle.model.specs.Definitions.Calls.{restart_bank, Call, Accessing, Checkpointing, Fusing, Restarting, Comparing, call_bank, Reply, refused}
use Rattle.model.specs.Definitions.Calls.{reply_of, call}
use Rattle.model.proofs.Laws.Logic.{by_option, cases, cases_option}
use Rattle.model.proofs.Laws.Codes.Cases.{compare_cases}
use Rattle.model.proofs.Laws.Lists.{each_head}
use Rattle.model.proofs.Laws.Below.{lacking_pages_few}
use Rattle.model.proofs.Laws.Runs.{store_cases, step_going, follows_step, follows_note_flush, follows_show, follows_show_all, sizes_on_board, step_stores}
use Rattle.model.proofs.Laws.Runs.{length_record_stores, length_checkpoint_stores, finished_run}
use Rattle.model.proofs.Laws.Boards.{board_at_same}
use Rattle.model.specs.Clauses.{RoomFor, CanAccess, CanFetch, Entered, most_stores}
use Rattle.model.proofs.Laws.Keeps.Live.{frames_count, lacking_own, can_fetch}
use Rattle.model.proofs.Laws.Keeps.Entered.{entered_live, below_taken, taken_in_replay, live_can, entered, fitting}
use Rattle.model.proofs.Laws.Keeps.Clauses.{up_below, is_replaying_replaying}
use Rattle.model.proofs.Laws.WellFormedTest.{well_formed_sound}
use Rattle.model.proofs.Laws.Keeps.Fetches.{room_owner, room_taker, writer_same}
use Rattle.model.proofs.Laws.Keeps.Copies.{room_giver, shown_can}
use Rattle.model.proofs.Laws.Moves.Stores.{end_replay_keeps}

-- ---- a run

store_few : (b : ℕ) (f : Board → Board) (r : Run) → (store b f r).stores ≤ r.stores + 1
store_few b f r = store_cases (λ s. s.stores ≤ r.stores + 1) b f r (λ c e. omega arith) (λ e z. omega arith) (λ e z. omega arith)

store_all_few : (b : ℕ) (fs : List (Board → Board)) (r : Run) → (store_all b fs r).stores ≤ r.stores + length fs
unfolding store_all
store_all_few b [] r = omega arith
store_all_few b (f ∷ fs) r = omega (arith, store_all_few b fs (store b f r), store_few b f r)

checkpoint_few : (b : ℕ) (r : Run) → (checkpoint b r).stores ≤ r.stores + (length r.bank.directory + 2)
unfolding checkpoint
checkpoint_few b r =
    let fs : List (Board → Board) = checkpoint_stores (length r.bank.directory) in
    rw (step_stores (on_board b (on_working rested_working)) (store_all b fs r))
    (omega (arith, store_all_few b fs r, length_checkpoint_stores (length r.bank.directory)))

-- ---- a fetch: a flush for each page, or two for one

-- a record noted where there is room for it, and flushed: as many stores as the board has volatile records then
noted_few : (b : ℕ) (kind : Kind) (peer : ℕ) (bytes : Bank → List ℕ) (r : Run) → (r.lost ≡ none → RoomFor 1 (board_at r.bank b)) → b < length r.bank.boards
    → (flush b (step (λ k. note b kind peer (bytes k) k) r)).stores ≤ r.stores + slot_count
unfolding flush note on_working recorded appended
noted_few b kind peer bytes r m l =
    let f : Bank → Bank = λ k. note b kind peer (bytes k) k in
    let g : Board → Board = on_working (recorded kind peer (bytes r.bank)) in
    by_option r.lost
    (λ n.
    let y : Board = board_at (step f r).bank b in
    let e : length y.working.log ≡ length (board_at r.bank b).working.log + 1 =
    ap (λ (k : Bank). length (board_at k b).working.log) (step_going f r n)
    ∙ ap (λ (x : Board). length x.working.log) (board_at_same b g r.bank l)
    ∙ length-append (board_at r.bank b).working.log _ in
    omega (arith, m n, e, store_all_few b (record_stores y) (step f r), length_record_stores y, step_stores f r))
    (λ c e. rw ((follows_note_flush b kind peer bytes r).lost c e) (omega arith))

-- "owner records shown and flushes"
show_few : (o b p : ℕ) (r : Run) → RoomFor 1 (board_at r.bank o) → o < length r.bank.boards → (show o b p r).stores ≤ r.stores + slot_count
unfolding show
show_few o b p r m l = noted_few o (Shown p) b (λ k. zeros page_size) r (λ n. m) l

-- "All givers record and store first, page by page."
show_all_few : (b : ℕ) (ps : List ℕ) (r : Run) → CanFetch GotCopy b ps r.bank → (show_all b ps r).stores ≤ r.stores + length ps * slot_count
unfolding show_all
show_all_few b [] r can = omega arith
show_all_few b (p ∷ ps) r can =
    let o : ℕ = giver GotCopy r.bank p in
    let s : Run = show o b p r in
    let few : s.stores ≤ r.stores + slot_count = show_few o b p r (room_giver b p ps r.bank can) (up_below r.bank o (each_head can.givers)) in
    by_option s.lost
    (λ n. omega (arith, few, show_all_few b ps s (shown_can b p ps r can n)))
    (λ c e. rw ((follows_show_all b ps s).lost c e) (omega arith))

write_fetch_few : (b p : ℕ) (r : Run) → WellFormed r.bank → CanFetch GotOwn b (p ∷ []) r.bank → (write_fetch b p r).stores ≤ r.stores + 2 * slot_count
unfolding write_fetch
write_fetch_few b p r w c =
    let o : ℕ = giver GotOwn r.bank p in
    let gave : Run = show o b p r in
    let bytes : Bank → List ℕ = λ k. (frame_of k o p).bytes in
    let m : RoomFor 1 (board_at r.bank o) = omega (arith, room_owner b p r w c) in
    let l : b < length gave.bank.boards = rw (follows_show o b p r).sizes.boards (up_below r.bank b c.taker) in
    omega (
      arith,
      show_few o b p r m (up_below r.bank o (each_head c.givers)),
      noted_few b (Got GotOwn p) o bytes gave (λ n. rw (writer_same b p r w c n) (room_taker b p r w c)) l,
      step_stores (pass_ownership o b p) (flush b (step (λ k. note b (Got GotOwn p) o (bytes k) k) gave)),
    )

-- who takes ownership takes one page
fetch_few : (g : CopyOrOwn) (b : ℕ) (ps : List ℕ) (r : Run) → WellFormed r.bank → CanFetch g b ps r.bank → length ps ≤ most_pages
    → (g ≡ GotOwn → length ps ≤ 1) → (fetch g b ps r).stores ≤ r.stores + most_pages * slot_count
unfolding fetch read_fetch
fetch_few GotCopy b ps r w c few one = omega (arith, few, show_all_few b ps r c, step_stores (give_copies b ps) (show_all b ps r))
fetch_few GotOwn b [] r w c few one = omega arith
fetch_few GotOwn b (p ∷ []) r w c few one = omega (arith, write_fetch_few b p r w c)
fetch_few GotOwn b (p ∷ q ∷ ps) r w c few one = absurd (omega (arith, one refl))

-- ---- an access

unless_few : (tests : List (Bool × Answer)) (r : Run) (go : Result) (n : ℕ) → r.stores ≤ n → (first_given tests ≡ none → go.run.stores ≤ n)
    → (unless tests r go).run.stores ≤ n
unfolding unless
unless_few tests r go n h g = cases_option (λ (t : Result). t.run.stores ≤ n) (first_given tests) g (λ a e. h)

finished_few : (v : ℕ) (given : List ℕ) (r : Run) (n : ℕ) → r.stores ≤ n → (finished v given r).run.stores ≤ n
finished_few v given r n h = rw (finished_run v given r) h

live_few : (b : ℕ) (a : Access) (r : Run) → WellFormed r.bank → CanAccess b a r.bank → (live b a r).run.stores ≤ r.stores + most_pages * slot_count
unfolding live performed prepared pages_lacking lacking_of
live_few b a r w can =
    let n : ℕ = r.stores + most_pages * slot_count in
    let fs : List Frame = (board_at r.bank b).working.frames in
    let ps : List ℕ = pages_lacking b a r.bank in
    let few : length ps ≤ most_pages = omega (arith, lacking_pages_few a fs, frames_count b a r.bank w can, w.sizes.pages) in
    let P : Run → Type 0 = λ s. (performed b a s).run.stores ≤ n in
    let done : (s : Run) → s.stores ≤ n → P s = λ s h. finished_few _ _ (step (access b a) s) n (rw (step_stores (access b a) s) h) in
    unless_few (live_refusals b a r.bank) r _ n (omega arith)
    (λ e.
    cases P (lacking_of b a r.bank)
    (λ t. done _ (fetch_few (takes a) b ps r w (can_fetch b a r.bank w can e) few (λ g. omega (arith, ap length (lacking_own a fs g t)))))
    (λ t.
    cases P (copies_out a r.bank)
    (λ o. done _ (omega (arith, step_stores (drop_copies b (page_written a)) r)))
    (λ o. done r (omega arith))))

-- ---- a replay's end: one checkpoint

end_few : (b : ℕ) (r : Run) → (end_replay b r).stores ≤ r.stores + (length r.bank.directory + 2)
unfolding end_replay settle
end_few b r =
    let f : Bank → Bank = settle b in
    let e : length (step f r).bank.directory ≡ length r.bank.directory = (follows_step f r (sizes_on_board b _ r.bank)).sizes.pages in
    omega (arith, checkpoint_few b (step f r), step_stores f r)

end_if_over_few : (b : ℕ) (r : Run) → (end_if_over b r).stores ≤ r.stores + (length r.bank.directory + 2)
unfolding end_if_over
end_if_over_few b r =
    cases (λ (s : Run). s.stores ≤ r.stores + (length r.bank.directory + 2)) (replay_over (board_at r.bank b)) (λ t. end_few b r) (λ t. omega arith)

-- ---- the calls

-- a change of one board leaves as many pages
on_board_few : (b : ℕ) (f : Board → Board) (k : Bank) → WellFormed k → length (on_board b f k).directory ≤ most_pages
on_board_few b f k w = rw (sizes_on_board b f k).pages w.sizes.pages

module _ (b : ℕ) (a : Access) (k : Bank) (w : WellFormed k) (i : Entered b a k)
    (rep : (board_at k b).state ≡ Replaying) (same : differs a (board_at k b) ≡ false) where
  ended_few : (live_after_end b a (end_replay b (start (on_board b took_due k)))).run.stores ≤ most_stores
  unfolding live_after_end start
  ended_few =
      let taken : Bank = on_board b took_due k in
      let r : Run = end_replay b (start taken) in
      let v : WellFormed r.bank = end_replay_keeps b (start taken) refl (below_taken b a k w i rep same) (taken_in_replay b a k w i rep same) in
      let few : r.stores ≤ length taken.directory + 2 = omega (arith, end_few b (start taken)) in
      let pages : length taken.directory ≤ most_pages = on_board_few b took_due k w in
      cases_option (λ (t : Result). t.run.stores ≤ most_stores) r.lost
      (λ n. omega (arith, live_few b a r v (live_can b a k w i rep same n)))
      (λ c e. omega arith)

  replaying_few : (replaying b a k).run.stores ≤ most_stores
  unfolding replaying start
  replaying_few =
      let taken : Bank = on_board b took_due k in
      let j : Bank = on_board b (replayed a) taken in
      let pages : length j.directory ≤ most_pages = rw (sizes_on_board b (replayed a) taken).pages (on_board_few b took_due k w) in
      cases (λ (t : Result). t.run.stores ≤ most_stores) (replay_over (board_at taken b))
      (λ t. ended_few)
      (λ t. finished_few _ _ (end_if_over b (start j)) most_stores (omega (arith, end_if_over_few b (start j))))

module _ (b : ℕ) (k : Bank) (w : WellFormed k) where
  access_few : (a : Access) → (access_bank b a k).run.stores ≤ most_stores
  unfolding access_within start
  access_few a =
      unless_few (access_refusals b a k) (start k) _ most_stores (omega arith)
      (λ e.
      let i : Entered b a k = entered b a k w e in
      cases (λ (t : Result). t.run.stores ≤ most_stores) (is_replaying (board_at k b).state)
      (λ t. replaying_few b a k w i (is_replaying_replaying (board_at k b).state t) (fitting b a k w e t))
      (λ t. omega (arith, live_few b a (start k) w (entered_live b a k i t))))

  checkpoint_bank_few : (checkpoint_bank b k).run.stores ≤ most_stores
  unfolding checkpoint_bank start
  checkpoint_bank_few =
      unless_few _ (start k) _ most_stores (omega arith)
      (λ e. finished_few 0 [] (checkpoint b (start k)) most_stores (omega (arith, checkpoint_few b (start k), w.sizes.pages)))

  fuse_bank_few : (n : ℕ) → (fuse_bank b n k).run.stores ≤ most_stores
  unfolding fuse_bank start
  fuse_bank_few n =
      unless_few _ (start k) _ most_stores (omega arith)
      (λ e. finished_few 0 [] (step (fuse_board b n) (start k)) most_stores (omega (arith, step_stores (fuse_board b n) (start k))))

  restart_bank_few : (restart_bank b k).run.stores ≤ most_stores
  unfolding restart_bank start
  restart_bank_few =
      let j : Bank = on_board b (λ x. used_up (loaded x)) k in
      unless_few _ (start k) _ most_stores (omega arith)
      (λ e. finished_few _ _ (end_if_over b (start j)) most_stores (omega (arith, end_if_over_few b (start j), on_board_few b (λ x. used_up (loaded x)) k w)))

bank_few : (c : Call) (k : Bank) → WellFormed k → (call_bank c k).run.stores ≤ most_stores
unfolding call_bank start
bank_few (Accessing b a) k w = access_few b k w a
bank_few (Checkpointing b) k w = checkpoint_bank_few b k w
bank_few (Fusing b n) k w = fuse_bank_few b k w n
bank_few (Restarting b) k w = restart_bank_few b k w
bank_few (Comparing b c) k w = compare_cases (λ (t : Result). t.run.stores ≤ most_stores) b c k (λ x h i. omega arith) (λ i d. omega arith)

-- every call, on any bytes
pub call_few : (c : Call) (s : List ℕ) → (call c s).outcome.stores ≤ most_stores
unfolding call refused reply_of
call_few c s =
    cases (λ (y : Reply). y.outcome.stores ≤ most_stores) (well_formed s)
    (λ t. bank_few c (decode s) (well_formed_sound s t))
    (λ t. omega arith)
