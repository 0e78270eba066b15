-- What each call costs (document 02, F-9): on any well-formed bank its stores, and what the bank then owes (Owed), are at most what the bank owed before and
-- what the call costs. Assumes nothing.
use Rattle.std.specs.Prelude.{◌≡◌, Bool, false, length}
use Rattle.std.proofs.Math.Path.{refl, ap}
use Rattle.std.proofs.Common.{◌∙◌}
use Prim.Native.Nat.{ℕ, zero, suc, ◌+◌, ◌*◌, ◌≤◌, ◌<◌}
use native.Mathlib.Omega.{arith}
use Rattle.std.proofs.Math.Option.{none}
use mathlib.Core.List.{List, []}
use borrow.Author.Tests.{ltb-true, not-false}
use Rattle.types.specs.declared.Frame.{Frame}
use Rattle.types.specs.declared.Answer.{Answer}
use Rattle.types.specs.declared.State.TheVariants.{Replaying}
use Rattle.model.specs.Definitions.Parts.{all_below}
use Rattle.model.specs.Definitions.Bank.{Board, Bank, board_at, on_board, on_working}
use Rattle.model.specs.Definitions.WellFormed.{is_replaying, WellFormed}
use Rattle.model.specs.Definitions.Answers.{code}
use Rattle.model.specs.Definitions.Steps.{Run, start, step, power_off, fuse_board, with_fuse, Access, names, takes, lacks_page, lacking_pages, accessed}
use Rattle.model.specs.Definitions.Steps.{access, drop_copies}
use Rattle.model.specs.Definitions.Replay.{loaded, used_up, restarted, differs, took_due, replay_over, end_replay, end_if_over, replayed}
use Rattle.model.specs.Definitions.Calls.{Result, first_given, unless, finished, page_written, copies_out, lacking_of, pages_lacking, live_refusals, prepared}
use Rattle.model.specs.Definitions.Calls.{performed, live, live_after_end, replaying, access_refusals, access_within, access_bank, checkpoint_bank, fuse_bank}
use Rattle.model.specs.Definitions.Calls.{restart_bank, compare_bank, Call, Accessing, Checkpointing, Fusing, Restarting, Comparing, call_bank}
use Rattle.model.specs.Clauses.{CanAccess, Entered}
use Rattle.model.specs.History.WearStatement.{is_event, if_event, page_cost, cost_asked, cost_answered}
use Rattle.model.proofs.Laws.Logic.{cases, cases_option}
use Rattle.model.proofs.Laws.Below.{all_below_fewer, passes_names}
use Rattle.model.proofs.Laws.Boards.{board_at_same, boards_on_board, took_due_state, replayed_state}
use Rattle.model.proofs.Laws.Runs.{SameSizes, sizes_trans, sizes_on_board, follows_end_replay}
use Rattle.model.proofs.Laws.Owed.{owed, Spends, on_board_adds, drop_copies_owes, power_off_owes, step_spends, checkpoint_spends, fetch_spends}
use Rattle.model.proofs.Laws.Owed.{end_replay_spends, end_if_over_spends, adds_accessed, adds_took_due, adds_replayed, adds_restarted, adds_with_fuse}
use Rattle.model.proofs.Laws.Keeps.Live.{frames_count, first_of_none}
use Rattle.model.proofs.Laws.Keeps.Entered.{entered_live, below_taken, taken_in_replay, live_can, entered, fitting}
use Rattle.model.proofs.Laws.Keeps.Clauses.{is_replaying_replaying}
use Rattle.model.proofs.Laws.Moves.{moves_follow}
use Rattle.model.proofs.Laws.Moves.Calls.{call_moves, call_keeps}
use Rattle.model.proofs.Laws.Moves.Stores.{end_replay_keeps}

module _ (e n : ℕ) where
  -- a result's stores, and what its bank owes
  abbrev Within : (most : ℕ) → Run → Result → Type 0
  Within most r t = t.run.stores + owed e n t.run.bank ≤ r.stores + owed e n r.bank + if_event t.answer most

  unless_within : (tests : List (Bool × Answer)) (r : Run) (go : Result) (m : ℕ) → (first_given tests ≡ none → Within m r go) → Within m r (unless tests r go)
  unfolding unless
  unless_within tests r go m h = cases_option (Within m r) (first_given tests) h (λ a z. omega arith)

  finished_within : (v : ℕ) (given : List ℕ) (r s : Run) (m : ℕ) → Spends e n m r s → Within m r (finished v given s)
  unfolding finished if_event is_event code
  finished_within v given r s m h = cases_option (Within m r) s.lost (λ z. h) (λ b z. h)

  -- ---- an access of an up board

  module _ (b : ℕ) (a : Access) (r : Run) (v : WellFormed r.bank) (can : CanAccess b a r.bank)
      (p : ℕ) (boards : length r.bank.boards ≡ n) (pages : length r.bank.directory ≡ p) where
    abbrev cost : ℕ
    cost = length (all_below p (names a)) * page_cost

    -- only what is named is fetched
    lacking_named : length (pages_lacking b a r.bank) ≤ length (all_below p (names a))
    unfolding pages_lacking lacking_pages
    lacking_named =
        let fs : List Frame = (board_at r.bank b).working.frames in
        rw (frames_count b a r.bank v can ∙ pages) (all_below_fewer (lacks_page a fs) (names a) (passes_names a fs) p)

    prepared_spends : Spends e n cost r (prepared b a r)
    unfolding prepared
    prepared_spends =
        cases (Spends e n cost r) (lacking_of b a r.bank)
        (λ t. omega (arith, lacking_named, fetch_spends e n (takes a) b (pages_lacking b a r.bank) r boards))
        (λ t.
        cases (Spends e n cost r) (copies_out a r.bank)
        (λ out. omega (arith, step_spends e n (drop_copies b (page_written a)) r 0 (drop_copies_owes e n b (page_written a) r.bank boards)))
        (λ out. omega arith))

    live_within : Within cost r (live b a r)
    unfolding live performed access
    live_within =
        let s : Run = prepared b a r in
        unless_within (live_refusals b a r.bank) r _ cost
        (λ z.
        finished_within _ _ r (step (access b a) s) cost
        (omega (arith, prepared_spends, step_spends e n (access b a) s 0 (on_board_adds e n b (on_working (accessed a)) s.bank 0 (adds_accessed e n a)))))

-- ---- the calls on a well-formed bank

module _ (b : ℕ) (k : Bank) (w : WellFormed k) where
  abbrev boards_of : ℕ
  boards_of = length k.boards

  abbrev pages_of : ℕ
  pages_of = length k.directory

  -- what the end of a replay stores in this bank
  abbrev ending : ℕ
  ending = pages_of + 2

  module _ (a : Access) where
    abbrev costs : ℕ
    costs = length (all_below pages_of (names a)) * page_cost

    module _ (i : Entered b a k) (rep : (board_at k b).state ≡ Replaying) (same : differs a (board_at k b) ≡ false) where
      abbrev taken : Bank
      taken = on_board b took_due k

      taken_replays : (board_at taken b).state ≡ Replaying
      taken_replays = ap (λ (x : Board). x.state) (board_at_same b took_due k i.board) ∙ (took_due_state (board_at k b) ∙ rep)

      taken_owes : owed ending boards_of taken ≤ owed ending boards_of k + 0
      taken_owes = on_board_adds ending boards_of b took_due k 0 (adds_took_due ending boards_of)

      below : b < length taken.boards
      below = below_taken b a k w i rep same

      -- the replay's end was owed, and the access goes on live
      ended_within : Within ending boards_of costs (start k) (live_after_end b a (end_replay b (start taken)))
      unfolding live_after_end start
      ended_within =
          let r : Run = end_replay b (start taken) in
          let z : SameSizes k r.bank = sizes_trans (sizes_on_board b took_due k) (follows_end_replay b (start taken)).sizes in
          let v : WellFormed r.bank = end_replay_keeps b (start taken) refl below (taken_in_replay b a k w i rep same) in
          let paid : Spends ending boards_of 0 (start taken) r =
          end_replay_spends ending boards_of b (start taken) refl below taken_replays (omega (arith, (sizes_on_board b took_due k).pages)) in
          cases_option (Within ending boards_of costs (start k)) r.lost
          (λ n.
          omega (
            arith,
            paid,
            taken_owes,
            live_within ending boards_of b a r v (live_can b a k w i rep same n) pages_of z.boards z.pages,
          ))
          (λ c l. omega (arith, paid, taken_owes))

      replaying_within : Within ending boards_of costs (start k) (replaying b a k)
      unfolding replaying start
      replaying_within =
          let j : Bank = on_board b (replayed a) taken in
          let z : SameSizes k j = sizes_trans (sizes_on_board b took_due k) (sizes_on_board b (replayed a) taken) in
          let state : (board_at j b).state ≡ Replaying =
          ap (λ (x : Board). x.state) (board_at_same b (replayed a) taken below) ∙ (replayed_state a (board_at taken b) ∙ taken_replays) in
          let owes : owed ending boards_of j ≤ owed ending boards_of taken + 0 =
          on_board_adds ending boards_of b (replayed a) taken 0 (adds_replayed ending boards_of a) in
          let paid : Spends ending boards_of 0 (start j) (end_if_over b (start j)) =
          end_if_over_spends ending boards_of b (start j) refl (rw (boards_on_board b (replayed a) taken) below) state (omega (arith, z.pages)) in
          cases (Within ending boards_of costs (start k)) (replay_over (board_at taken b))
          (λ t. ended_within)
          (λ t. finished_within ending boards_of _ _ (start k) (end_if_over b (start j)) costs (omega (arith, paid, owes, taken_owes)))

    access_within_lem : Within ending boards_of costs (start k) (access_bank b a k)
    unfolding access_within start
    access_within_lem =
        unless_within ending boards_of (access_refusals b a k) (start k) _ costs
        (λ z.
        let i : Entered b a k = entered b a k w z in
        cases (Within ending boards_of costs (start k)) (is_replaying (board_at k b).state)
        (λ t. replaying_within i (is_replaying_replaying (board_at k b).state t) (fitting b a k w z t))
        (λ t. live_within ending boards_of b a (start k) w (entered_live b a k i t) pages_of refl refl))

  checkpoint_within : Within ending boards_of ending (start k) (checkpoint_bank b k)
  unfolding checkpoint_bank start
  checkpoint_within =
      unless_within ending boards_of _ (start k) _ ending
      (λ z. finished_within ending boards_of 0 [] (start k) _ ending (omega (arith, checkpoint_spends ending boards_of b (start k))))

  fuse_board_spends : (n : ℕ) → Spends ending boards_of 0 (start k) (step (fuse_board b n) (start k))
  unfolding fuse_board start
  fuse_board_spends zero = step_spends ending boards_of (power_off b) (start k) 0 (omega (arith, power_off_owes ending boards_of b k))
  fuse_board_spends (suc n) =
      let f : Board → Board = with_fuse (suc n) in
      step_spends ending boards_of (on_board b f) (start k) 0 (on_board_adds ending boards_of b f k 0 (adds_with_fuse ending boards_of (suc n)))

  fuse_within : (n : ℕ) → Within ending boards_of 0 (start k) (fuse_bank b n k)
  unfolding fuse_bank
  fuse_within n =
      unless_within ending boards_of _ (start k) _ 0
      (λ z. finished_within ending boards_of 0 [] (start k) (step (fuse_board b n) (start k)) 0 (fuse_board_spends n))

  -- a restart pays for the end of the replay that it begins
  restart_within : Within ending boards_of ending (start k) (restart_bank b k)
  unfolding restart_bank start loaded used_up on_working
  restart_within =
      unless_within ending boards_of _ (start k) _ ending
      (λ z.
      let l : b < boards_of = ltb-true b boards_of (not-false _ (first_of_none _ _ _ z).here) in
      let j : Bank = on_board b restarted k in
      let owes : owed ending boards_of j ≤ owed ending boards_of k + ending =
      on_board_adds ending boards_of b restarted k ending (adds_restarted ending boards_of) in
      let paid : Spends ending boards_of 0 (start j) (end_if_over b (start j)) =
      end_if_over_spends ending boards_of b (start j) refl (rw (boards_on_board b restarted k) l) (rw (board_at_same b restarted k l) refl)
      (omega (arith, (sizes_on_board b restarted k).pages)) in
      finished_within ending boards_of _ _ (start k) (end_if_over b (start j)) ending (omega (arith, owes, paid)))

  compare_within : (c : ℕ) → Within ending boards_of 0 (start k) (compare_bank b c k)
  unfolding compare_bank
  compare_within c = unless_within ending boards_of _ (start k) _ 0 (λ z. omega arith)

call_within : (c : Call) (k : Bank) → WellFormed k
    → Within (length k.directory + 2) (length k.boards) (cost_asked (length k.directory) c) (start k) (call_bank c k)
unfolding call_bank cost_asked
call_within (Accessing b a) k w = access_within_lem b k w a
call_within (Checkpointing b) k w = checkpoint_within b k w
call_within (Fusing b n) k w = fuse_within b k w n
call_within (Restarting b) k w = restart_within b k w
call_within (Comparing b c) k w = compare_within b k w c

module _ (n p : ℕ) where
  -- a bank of these sizes that calls may find
  pub record Sized (k : Bank) : Type 0 where
    pub formed : WellFormed k
    pub boards : length k.boards ≡ n
    pub pages : length k.directory ≡ p

  pub sized_after : (c : Call) (k : Bank) → Sized k → Sized (call_bank c k).run.bank
  unfolding start
  sized_after c k z =
      let same : SameSizes k (call_bank c k).run.bank = (moves_follow (call_moves c k z.formed)).sizes in
      record { formed = call_keeps c k z.formed; boards = same.boards ∙ z.boards; pages = same.pages ∙ z.pages }

  -- what a call stores, and the bank owes behind it, is no more than it owed before and what the call costs
  pub call_wears : (c : Call) (k : Bank) → Sized k
      → (call_bank c k).run.stores + owed (p + 2) n (call_bank c k).run.bank ≤ owed (p + 2) n k + cost_answered p c (call_bank c k).answer
  unfolding cost_answered start
  call_wears c k z = omega (arith, rw (z.boards, z.pages) at (call_within c k z.formed))
