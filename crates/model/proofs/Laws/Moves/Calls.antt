-- Every call of a well-formed bank is a list of moves, cut off after the store that blew a fuse; so it leaves a well-formed bank. Assumes nothing.
use Rattle.std.specs.Prelude.{◌≡◌, ◌≢◌, ◌⊎◌, Bool, false, ◌&&◌}
use Rattle.std.proofs.Math.Path.{refl, sym, ap}
use Rattle.std.proofs.Common.{◌∙◌, inl, inr, arith}
use Prim.Native.Nat.{ℕ, zero, suc, ◌<◌}
use Rattle.std.proofs.Math.Bool.{true}
use Rattle.std.proofs.Math.Option.{none, some}
use mathlib.Core.List.{List, [], ◌∷◌, map}
use Rattle.std.proofs.Math.ListN.{length}
use Rattle.std.proofs.Math.Dec.{eqb, ltb}
use borrow.Author.Tests.{ltb-true, not-false}
use Rattle.types.specs.declared.Frame.{Frame}
use Rattle.types.specs.declared.CopyOrOwn.{CopyOrOwn}
use Rattle.types.specs.declared.CopyOrOwn.TheVariants.{GotCopy, GotOwn}
use Rattle.types.specs.declared.Kind.TheVariants.{Got}
use Rattle.types.specs.declared.State.TheVariants.{Up, Down, Replaying}
use Rattle.types.specs.declared.Answer.{Answer}
use Rattle.types.specs.declared.Answer.TheVariants.{Done}
use Rattle.words.specs.Bytes.{Each, each_nil, each_cons}
use Rattle.model.specs.Definitions.Layout.{no_fuse}
use Rattle.model.specs.Definitions.Bank.{Entry, Board, Bank, board_at, entry_at, frame_at, on_board, on_working}
use Rattle.model.specs.Definitions.WellFormed.{WellFormed, is_up, is_replaying}
use Rattle.model.specs.Definitions.Steps.{Run, start, step, fuse_board, checkpoint, Access, Read, Write, ReadCells, cells_read, cells_written}
use Rattle.model.specs.Definitions.Steps.{takes, lacks, lacking_pages, read_from, value_of, given_of, access}
use Rattle.model.specs.Definitions.Steps.{frame_of, note, flush, giver, show, drop_copies, pass_ownership, write_fetch, fetch}
use Rattle.model.specs.Definitions.Replay.{settle, loaded, used_up, differs, took_due, replay_over, settled, end_replay, end_if_over, replayed}
use Rattle.model.specs.Definitions.Calls.{Result, first_given, unless, finished, page_written, copies_out, lacking_of, pages_lacking, live_refusals, prepared}
use Rattle.model.specs.Definitions.Calls.{performed, live, live_after_end, replaying, refusals_within, access_refusals, access_within, access_bank}
use Rattle.model.specs.Definitions.Calls.{checkpoint_bank, fuse_bank, restart_bank, Call, Accessing, Reply, refused, reply_of, call, Checkpointing, Fusing}
use Rattle.model.specs.Definitions.Calls.{Restarting, compare_bank, Comparing, call_bank}
use Rattle.model.specs.Definitions.Answers.{code}
use Rattle.model.specs.Definitions.Codec.{decode}
use Rattle.model.specs.Definitions.Check.{well_formed}
use Rattle.model.proofs.Laws.WellFormedTest.{well_formed_sound, well_formed_complete}
use Rattle.model.specs.History.Statement.{Event, Accessed, Nothing, event_of, done_event, bytes_seen, access_of, live_bank, givers_in, gave_in}
use Rattle.model.specs.Clauses.{CanAccess, CanFetch, Entered}
use Rattle.model.specs.Moves.{DropCopies, Perform, LosePower, SetFuse, Load, Repeat, TakeLast, Settle, does, Phase, Begun, Fetched, Replays, Settled}
use Rattle.model.specs.Moves.{Finished, Selects, checkpoints, resumes, closes, ends, anyone, MayPerform, local, taken, drops_copies, performs, loses_power}
use Rattle.model.specs.Moves.{sets_fuse, loads, repeats_access, takes_last, settles, Moves, still, waits, cut_off}
use Rattle.model.proofs.Laws.Logic.{cases, cases_option, and_left, and_right}
use Rattle.model.proofs.Laws.Boards.{dropped_if, without_copies, boards_on_board, board_at_same, board_at_drop_copies, entry_at_drop_copies_same}
use Rattle.model.proofs.Laws.Boards.{entry_at_pass_ownership_same, directory_drop_copies, took_due_state, replayed_state}
use Rattle.model.proofs.Laws.Runs.{step_done, step_none, step_going, follows_fetch, follows_step, SameSizes, sizes_same, sizes_drop_copies}
use Rattle.model.specs.Laws.Codes.Statement.{board_named}
use Rattle.model.proofs.Laws.Codes.Cases.{compared_cases}
use Rattle.model.proofs.Laws.Keeps.Clauses.{up_below, is_up_up, is_down_down, is_down_not, is_replaying_replaying}
use Rattle.model.proofs.Laws.Lists.{each_imp}
use Rattle.model.proofs.Laws.Below.{Lacks, lacking_none, lacking_pages_lack, lacking_pages_rise}
use Rattle.model.proofs.Laws.Keeps.Fetches.{page_there, owner_up, room_owner, Taken, gave_none, gave_changed, got_changed, owner_other}
use Rattle.model.proofs.Laws.Keeps.Live.{first_of_none, first_in, can_fetch, can_drop}
use Rattle.model.proofs.Laws.Keeps.Live.{writer_none, writer_owns, writes_own, own_writes, named_written, lacking_some, lacking_own, taken_has}
use Rattle.model.proofs.Laws.Keeps.Live.{fetched_taken}
use Rattle.model.proofs.Laws.Keeps.Givers.{copy_none}
use Rattle.model.proofs.Laws.Keeps.Entered.{entered_live, entered, fitting, board_taken, below_taken, live_can}
use Rattle.model.proofs.Laws.Moves.{moves_do}
use Rattle.model.proofs.Laws.Moves.Formed.{FormedIn, FormedRun, run_formed, formed_begun, fetched_formed, finished_formed, moves_formed}
use Rattle.model.proofs.Laws.Moves.Stores.{checkpoint_moves, show_moves}
use Rattle.model.proofs.Laws.Moves.Fetches.{read_fetch_moves, write_fetch_moves, taker_other}

-- ---- rights

-- where the written page's copy-set is empty no copy is out
none_out : (a : Access) (k : Bank) → (entry_at k (page_written a)).copies ≡ 0 → copies_out a k ≡ false
unfolding copies_out page_written cells_written
none_out (Read p o) k e = refl
none_out (Write p o v) k e = rw e
none_out (ReadCells cells out_length) k e = refl

-- no copy is out for who takes copies
pub copy_out : (a : Access) (k : Bank) → takes a ≡ GotCopy → copies_out a k ≡ false
unfolding takes copies_out cells_written
copy_out (Read p o) k e = refl
copy_out (Write p o v) k e = let z : ◌≡◌ {A = ℕ} 0 1 = cc in absurd (omega arith)
copy_out (ReadCells cells out_length) k e = refl

-- a done access answers and gives the bytes that it read
pub bytes_seen_lem : (a : Access) (fs : List Frame) → bytes_seen a (value_of a fs) (given_of a fs) ≡ read_from a fs
unfolding bytes_seen value_of given_of read_from cells_read
bytes_seen_lem (Read p o) fs = refl
bytes_seen_lem (Write p o v) fs = refl
bytes_seen_lem (ReadCells cells out_length) fs = refl

-- ---- results

-- the phase in which a call of bank k with this answer is over: what it feeds to the history
abbrev pub feeds : Call → Bank → Answer → List ℕ → Phase
feeds c k x given = Finished (event_of c x given) (gave_in (event_of c x given) k)

-- the run of result t of call c is moves, from run r in phase φ to what its answer feeds
abbrev MadeBy : ℕ → (Access → Type 0) → Phase → Run → Call → Bank → Result → Type 0
MadeBy b Again φ r c k t = Moves b Again φ r (feeds c k t.answer t.given) t.run

-- a call that ran to its end, or lost power
finished_moves : {b : ℕ} {Again : Access → Type 0} {φ : Phase} {r : Run} (c : Call) (k : Bank) (v : ℕ) (given : List ℕ) (s : Run)
    → Moves b Again φ r (feeds c k (Done v) given) s → MadeBy b Again φ r c k (finished v given s)
unfolding finished
finished_moves {b} {Again} {φ} {r} c k v given s t = cases_option (MadeBy b Again φ r c k) s.lost (λ n. t) (λ d e. cut_off t e)

-- a call that refuses feeds nothing
unless_moves : {b : ℕ} {Again : Access → Type 0} {φ : Phase} {r : Run} (c : Call) (k : Bank) (tests : List (Bool × Answer)) (s : Run) (go : Result)
    → Each (λ t. event_of c t.1 [] ≡ Nothing) tests → Moves b Again φ r Begun s → (first_given tests ≡ none → MadeBy b Again φ r c k go)
    → MadeBy b Again φ r c k (unless tests s go)
unfolding unless gave_in
unless_moves {b} {Again} {φ} {r} c k tests s go quiet t f =
    cases_option (MadeBy b Again φ r c k) (first_given tests) f
    (λ a e. rw (first_in (λ x. event_of c x [] ≡ Nothing) tests a quiet e) (ends t))

-- ---- an access

-- A call of bank k that is done feeds access a of board b, and who gives b a page for it can be read in bank `now`, where the access goes on live.
pub record Makes (c : Call) (k : Bank) (b : ℕ) (a : Access) (now : Bank) : Type 0 where
  pub event : (v : ℕ) (given : List ℕ) → event_of c (Done v) given ≡ Accessed b a (bytes_seen a v given)
  pub gave : givers_in b a (live_bank b a k) ≡ givers_in b a (some now)

-- an access of a board that isn't replaying gives what it gives in the bank as it is
pub makes_now : (b : ℕ) (a : Access) (k : Bank) → is_replaying (board_at k b).state ≡ false → Makes (Accessing b a) k b a k
unfolding event_of done_event live_bank
makes_now b a k t = let live : live_bank b a k ≡ some k = cc in record { event = λ v given. refl; gave = ap (givers_in b a) live }

-- the access itself
performed_moves : {Again : Access → Type 0} {φ χ : Phase} {r : Run} {c : Call} {k now : Bank} (b : ℕ) (a : Access) (s : Run) → Makes c k b a now
    → MayPerform a (givers_in b a (some now)) χ → Moves b Again φ r χ s
    → (s.lost ≡ none → CanAccess b a s.bank) → (s.lost ≡ none → lacking_of b a s.bank ≡ false) → (s.lost ≡ none → copies_out a s.bank ≡ false)
    → MadeBy b Again φ r c k (performed b a s)
unfolding performed does gave_in
performed_moves {c = c} {k = k} b a s makes i t can has out =
    let fs : List Frame = (board_at s.bank b).working.frames in
    finished_moves c k (value_of a fs) (given_of a fs) (step (access b a) s)
    (rw (makes.event (value_of a fs) (given_of a fs), bytes_seen_lem a fs, makes.gave)
    (moves_do (Perform b a) t (λ e. performs a i (can e) (has e) (out e))))

module _ (b : ℕ) (s : Run) (formed : WellFormed s.bank) where
  module _ (a : Access) (can : CanAccess b a s.bank) (passed : first_given (live_refusals b a s.bank) ≡ none) where
    abbrev fs : List Frame
    fs = (board_at s.bank b).working.frames

    abbrev ps : List ℕ
    ps = pages_lacking b a s.bank

    fetch_as : {Again : Access → Type 0} {φ : Phase} {r : Run} (g : CopyOrOwn) (qs : List ℕ) → takes a ≡ g → pages_lacking b a s.bank ≡ qs
        → lacking_of b a s.bank ≡ true → Moves b Again φ r Begun s
        → Moves b Again φ r (Fetched a (map (giver g s.bank) qs) qs) (fetch g b qs s)
    unfolding fetch pages_lacking lacking_of frame_of
    fetch_as GotCopy qs e i lack t =
        let (p, rest, found) = lacking_some a fs lack in
        let j : qs ≡ p ∷ rest = sym i ∙ found in
        let c : CanFetch GotCopy b (p ∷ rest) s.bank = rw (e, found) at (can_fetch b a s.bank formed can passed) in
        let each : Each (Lacks a fs) (p ∷ rest) = rw found at (lacking_pages_lack a fs) in
        rw j
        (read_fetch_moves a e p rest s formed c
        (each_imp (p ∷ rest) (λ q l. copy_none _ (ap (λ (g : CopyOrOwn). lacks g (frame_at fs q).right) (sym e) ∙ l.right)) each)
        (each_imp (p ∷ rest) (λ q l. l.named) each)
        (rw found at (lacking_pages_rise a fs))
        t)
    fetch_as GotOwn qs e i lack t =
        let p : ℕ = page_written a in
        let one : lacking_pages a fs ≡ p ∷ [] = lacking_own a fs e lack in
        let j : qs ≡ p ∷ [] = sym i ∙ one in
        let c : CanFetch GotOwn b (p ∷ []) s.bank = rw (e, one) at (can_fetch b a s.bank formed can passed) in
        rw j
        (write_fetch_moves b p s formed a e (named_written a p (own_writes a e)) c
        (show_moves (giver GotOwn s.bank p) p t
        (λ z. owner_up b p s formed c) (λ z. omega (arith, room_owner b p s formed c)) (λ z. page_there b p s formed c)
        (λ z. taker_other s.bank b (giver GotOwn s.bank p) c.taker (owner_other b p s formed c))))

    pub fetch_moves : {Again : Access → Type 0} {φ : Phase} {r : Run} → lacking_of b a s.bank ≡ true → Moves b Again φ r Begun s
        → Moves b Again φ r (Fetched a (map (giver (takes a) s.bank) (pages_lacking b a s.bank)) (pages_lacking b a s.bank))
        (fetch (takes a) b (pages_lacking b a s.bank) s)
    fetch_moves lack t = fetch_as (takes a) (pages_lacking b a s.bank) refl refl lack t

    -- a page that passed has no copies
    out_as : (g : CopyOrOwn) (qs : List ℕ) → takes a ≡ g → pages_lacking b a s.bank ≡ qs → lacking_of b a s.bank ≡ true
        → (fetch g b qs s).lost ≡ none → copies_out a (fetch g b qs s).bank ≡ false
    unfolding fetch write_fetch giver pages_lacking lacking_of
    out_as GotCopy qs e i lack n = copy_out a (fetch GotCopy b qs s).bank e
    out_as GotOwn qs e i lack n =
        let p : ℕ = page_written a in
        let from : ℕ = giver GotOwn s.bank p in
        let one : lacking_pages a fs ≡ p ∷ [] = lacking_own a fs e lack in
        let j : qs ≡ p ∷ [] = sym i ∙ one in
        let c : CanFetch GotOwn b (p ∷ []) s.bank = rw (e, one) at (can_fetch b a s.bank formed can passed) in
        let noted : Bank → Bank = λ k. note b (Got GotOwn p) from (frame_of k from p).bytes k in
        let got : Run = flush b (step noted (show from b p s)) in
        let m : (write_fetch b p s).lost ≡ none = rw j at n in
        let e : got.lost ≡ none = step_none (pass_ownership from b p) got m in
        let l : p < length got.bank.directory =
        rw ((got_changed b p s formed c e).directory, (gave_changed b p s formed c (gave_none b p s formed c e)).directory) (page_there b p s formed c) in
        rw j
        (none_out a (write_fetch b p s).bank
        (ap (λ (k : Bank). (entry_at k p).copies) (step_done (pass_ownership from b p) got m)
        ∙ ap (λ (x : Entry). x.copies) (entry_at_pass_ownership_same from b p got.bank l)))

    -- the page that is written is one of the bank
    pub written_there : copies_out a s.bank ≡ true → page_written a < length s.bank.directory
    written_there out = can.pages (page_written a) (named_written a (page_written a) (own_writes a (writes_own a s.bank out)))

    module _ {c : Call} {k : Bank} (makes : Makes c k b a s.bank) where
      -- who gives the pages that are lacking
      lacking_gives : MayPerform a (givers_in b a (some s.bank))
          (Fetched a (map (giver (takes a) s.bank) (pages_lacking b a s.bank)) (pages_lacking b a s.bank))
      unfolding givers_in
      lacking_gives = taken

      nobody_gives_lem : lacking_of b a s.bank ≡ false → MayPerform a (givers_in b a (some s.bank)) Begun
      unfolding givers_in pages_lacking lacking_of
      nobody_gives_lem has = rw (lacking_none a fs has) local

      -- the fetch and the access
      fetched_moves : {Again : Access → Type 0} {φ : Phase} {r : Run} → lacking_of b a s.bank ≡ true → Moves b Again φ r Begun s
          → MadeBy b Again φ r c k (performed b a (fetch (takes a) b (pages_lacking b a s.bank) s))
      unfolding lacking_of pages_lacking
      fetched_moves lack t =
          let u : Run = fetch (takes a) b ps s in
          let y : u.lost ≡ none → Taken (takes a) ps (board_at s.bank b) (board_at u.bank b) = λ n. fetched_taken b a s formed can passed lack n in
          let pages : length u.bank.directory ≡ length s.bank.directory = (follows_fetch (takes a) b ps s).sizes.pages in
          performed_moves b a u makes lacking_gives (fetch_moves lack t)
          (λ n.
          record {
            pages = λ p v. rw pages (can.pages p v);
            values = can.values;
            up = (y n).state;
            since = rw (y n).since (omega arith);
            number = rw (y n).number can.number;
          })
          (λ n. taken_has a (board_at s.bank b) (board_at u.bank b) (y n))
          (out_as (takes a) ps refl refl lack)

      module _ {Again : Access → Type 0} {φ : Phase} {r : Run} (t : Moves b Again φ r Begun s) (going : s.lost ≡ none) where
        -- the copies of an owned page dropped, then the access
        dropped_moves : lacking_of b a s.bank ≡ false → copies_out a s.bank ≡ true
            → MadeBy b Again φ r c k (performed b a (step (drop_copies b (page_written a)) s))
        unfolding does lacking_of dropped_if without_copies
        dropped_moves has out =
            let j : Bank = s.bank in
            let same : board_at (drop_copies b (page_written a) j) b ≡ board_at j b =
            cc (board_at_drop_copies b (page_written a) j b (up_below j b can.up), writer_none b a j formed can passed has out) in
            let done : (step (drop_copies b (page_written a)) s).bank ≡ drop_copies b (page_written a) j = step_going (drop_copies b (page_written a)) s going in
            let x : board_at (step (drop_copies b (page_written a)) s).bank b ≡ board_at j b = ap (λ (i : Bank). board_at i b) done ∙ same in
            performed_moves b a (step (drop_copies b (page_written a)) s) makes (nobody_gives_lem has)
            (moves_do (DropCopies b (page_written a)) t
            (λ n.
            drops_copies (page_written a) (written_there out) (writer_owns b a j formed can passed has out) (can_drop b a j formed can passed has out)))
            (λ n.
            record {
              pages = λ p v. rw (done, directory_drop_copies b (page_written a) j) (can.pages p v);
              values = can.values;
              up = rw x can.up;
              since = rw x can.since;
              number = rw x can.number;
            })
            (λ n. rw x has)
            (λ n. none_out a (step (drop_copies b (page_written a)) s).bank
            (ap (λ (i : Bank). (entry_at i (page_written a)).copies) done
            ∙ ap (λ (e : Entry). e.copies) (entry_at_drop_copies_same b (page_written a) j (written_there out))))

        going_moves : MadeBy b Again φ r c k (performed b a (prepared b a s))
        unfolding prepared
        going_moves =
            cases (λ (u : Run). MadeBy b Again φ r c k (performed b a u)) (lacking_of b a s.bank)
            (λ lack. fetched_moves lack t)
            (λ has.
            cases (λ (u : Run). MadeBy b Again φ r c k (performed b a u)) (copies_out a s.bank)
            (dropped_moves has)
            (λ out. performed_moves b a s makes (nobody_gives_lem has) t (λ n. can) (λ n. has) (λ n. out)))

-- an access of an up board, by any call that makes it
pub live_moves : (b : ℕ) {Again : Access → Type 0} {φ : Phase} {r s : Run} → FormedRun b φ r → Moves b Again φ r Begun s → s.lost ≡ none
    → (a : Access) {c : Call} {k : Bank} → Makes c k b a s.bank → CanAccess b a s.bank → MadeBy b Again φ r c k (live b a s)
unfolding live live_refusals event_of FormedIn
live_moves b {s = s} h t going a {c} {k} makes can =
    unless_moves c k (live_refusals b a s.bank) s (performed b a (prepared b a s)) (each_cons refl (each_cons refl each_nil)) t
    (λ passed. going_moves b s ((moves_formed t h).going going) a can passed makes t going)

-- ---- the end of a replay

module _ (b : ℕ) {Again : Access → Type 0} {φ : Phase} {r : Run} (h : FormedRun b φ r) {e : Event} {s : Run} (t : Moves b Again φ r (Replays e) s)
    (going : s.lost ≡ none) (l : b < length s.bank.boards) (rep : (board_at s.bank b).state ≡ Replaying) where
  end_replay_moves : {ψ : Phase} → Selects b b (Settled e) ψ → replay_over (board_at s.bank b) ≡ true → Moves b Again φ r ψ (end_replay b s)
  unfolding end_replay does settle settled
  end_replay_moves x over =
      let f : Bank → Bank = settle b in
      checkpoint_moves b h x (moves_do (Settle b) t (λ n. settles l rep over))
      (λ e. rw (step_done f s e, board_at_same b (settled (λ p. eqb (entry_at s.bank p).owner b)) s.bank l))

  end_if_over_moves : Moves b Again φ r (Finished e []) (end_if_over b s)
  unfolding end_if_over
  end_if_over_moves = cases (Moves b Again φ r (Finished e [])) (replay_over (board_at s.bank b)) (end_replay_moves closes) (λ o. waits t going o)

-- ---- the calls

-- this access is the call's own, of a replaying board, and answered 0 or 8: what the premise of demand 3 speaks of
abbrev pub RepeatsIn : Call → Bank → Access → Type 0
RepeatsIn c k a =
    (access_of c ≡ some (board_named c, a))
    × ((code (call_bank c k).answer ≡ 0) ⊎ (code (call_bank c k).answer ≡ 8))
    × ((board_at k (board_named c)).state ≡ Replaying)

finished_code : (v : ℕ) (given : List ℕ) (r : Run) → (code (finished v given r).answer ≡ 0) ⊎ (code (finished v given r).answer ≡ 8)
unfolding finished code
finished_code v given r = cases_option (λ (t : Result). (code t.answer ≡ 0) ⊎ (code t.answer ≡ 8)) r.lost (λ n. inl refl) (λ d e. inr refl)

module _ (b : ℕ) (k : Bank) (w : WellFormed k) where
  -- a call that has done nothing
  begun : FormedRun b Begun (start k)
  unfolding start
  begun = formed_begun b (start k) w

  module _ (a : Access) (i : Entered b a k) (rep : (board_at k b).state ≡ Replaying) (same : differs a (board_at k b) ≡ false) where
    abbrev bank_taken : Bank
    bank_taken = on_board b took_due k

    taken_now : board_at bank_taken b ≡ took_due (board_at k b)
    taken_now = board_taken b a k w i rep same

    state_now : (board_at bank_taken b).state ≡ Replaying
    state_now = rw taken_now (took_due_state (board_at k b) ∙ rep)

    below : b < length bank_taken.boards
    below = below_taken b a k w i rep same

    ended_moves : {Again : Access → Type 0} → replay_over (board_at bank_taken b) ≡ true → Moves b Again Begun (start k) Begun (end_replay b (start bank_taken))
    unfolding start does step
    ended_moves over =
        end_replay_moves b begun (moves_do (TakeLast b) still (λ n. takes_last a i rep same (rw taken_now at over))) refl below state_now resumes over

    pub ended_formed : replay_over (board_at (on_board b took_due k) b) ≡ true → WellFormed (end_replay b (start (on_board b took_due k))).bank
    ended_formed over = run_formed {b = b} anyone (moves_formed (ended_moves {Again = λ a. ⊥} over) begun)

    -- the value is read before the records that the access makes due are used up
    repeated_moves : {Again : Access → Type 0} → Again a → replay_over (board_at bank_taken b) ≡ false
        → MadeBy b Again Begun (start k) (Accessing b a) k
        (finished (value_of a (board_at bank_taken b).working.frames) (given_of a (board_at bank_taken b).working.frames)
        (end_if_over b (start (on_board b (replayed a) bank_taken))))
    unfolding start does step event_of done_event gave_in givers_in live_bank is_replaying
    repeated_moves again over =
        let nobody : givers_in b a (live_bank b a k) ≡ [] = cc in
        let fs : List Frame = (board_at bank_taken b).working.frames in
        finished_moves (Accessing b a) k (value_of a fs) (given_of a fs) (end_if_over b (start (on_board b (replayed a) bank_taken)))
        (rw (bytes_seen_lem a fs, nobody, taken_now)
        (end_if_over_moves b begun (moves_do (Repeat b a) still (λ n. repeats_access a again i rep same (rw taken_now at over))) refl
        (rw (boards_on_board b (replayed a) bank_taken) below)
        (rw (board_at_same b (replayed a) bank_taken below) (replayed_state a (board_at bank_taken b) ∙ state_now))))

    replaying_moves : {Again : Access → Type 0} → (replay_over (board_at bank_taken b) ≡ false → Again a)
        → MadeBy b Again Begun (start k) (Accessing b a) k (replaying b a k)
    unfolding replaying live_after_end event_of done_event live_bank is_replaying
    replaying_moves {Again} again =
        let end : Run = end_replay b (start bank_taken) in
        cases (MadeBy b Again Begun (start k) (Accessing b a) k) (replay_over (board_at bank_taken b))
        (λ o.
        let live : live_bank b a k ≡ some end.bank = cc in
        cases_option (MadeBy b Again Begun (start k) (Accessing b a) k) end.lost
        (λ n. live_moves b begun (ended_moves o) n a {c = Accessing b a} (record { event = λ v given. refl; gave = ap (givers_in b a) live }) (live_can b a k w i rep same n))
        (λ c e. cut_off (ended_moves o) e))
        (λ o. repeated_moves (again o) o)

  quiet_access : (a : Access) → Each (λ t. event_of (Accessing b a) t.1 [] ≡ Nothing) (access_refusals b a k)
  unfolding refusals_within event_of
  quiet_access a = each_cons refl (each_cons refl (each_cons refl (each_cons refl (each_cons refl each_nil))))

  -- what an access of a replaying board is, if records are left
  is_repeat : (a : Access) → first_given (access_refusals b a k) ≡ none → is_replaying (board_at k b).state ≡ true
      → replay_over (board_at (on_board b took_due k) b) ≡ false
      → access_bank b a k
      ≡ finished (value_of a (board_at (on_board b took_due k) b).working.frames) (given_of a (board_at (on_board b took_due k) b).working.frames)
      (end_if_over b (start (on_board b (replayed a) (on_board b took_due k))))
  unfolding access_within unless replaying
  is_repeat a p t o = cc

  repeats_now : (a : Access) → first_given (access_refusals b a k) ≡ none → is_replaying (board_at k b).state ≡ true
      → replay_over (board_at (on_board b took_due k) b) ≡ false → RepeatsIn (Accessing b a) k a
  unfolding call_bank access_of board_named
  repeats_now a p t o = (refl, rw (is_repeat a p t o) (finished_code _ _ _), is_replaying_replaying (board_at k b).state t)

  access_moves : (a : Access) → MadeBy b (RepeatsIn (Accessing b a) k) Begun (start k) (Accessing b a) k (access_bank b a k)
  unfolding access_within start
  access_moves a =
      unless_moves (Accessing b a) k (access_refusals b a k) (start k) _ (quiet_access a) still
      (λ e.
      let i : Entered b a k = entered b a k w e in
      cases (MadeBy b (RepeatsIn (Accessing b a) k) Begun (start k) (Accessing b a) k) (is_replaying (board_at k b).state)
      (λ t. replaying_moves a i (is_replaying_replaying (board_at k b).state t) (fitting b a k w e t) (repeats_now a e t))
      (λ t. live_moves b begun still refl a (makes_now b a k t) (entered_live b a k i t)))

  module _ {Again : Access → Type 0} where
    checkpoint_bank_moves : MadeBy b Again Begun (start k) (Checkpointing b) k (checkpoint_bank b k)
    unfolding checkpoint_bank start event_of done_event gave_in
    checkpoint_bank_moves =
        unless_moves (Checkpointing b) k _ (start k) _ (each_cons refl (each_cons refl each_nil)) still
        (λ e.
        let up : (board_at k b).state ≡ Up =
        is_up_up (board_at k b).state (not-false (is_up (board_at k b).state) (first_of_none _ _ _ (first_of_none _ _ _ e).rest).here) in
        finished_moves (Checkpointing b) k 0 [] (checkpoint b (start k)) (ends (checkpoint_moves b begun checkpoints still (λ n. up))))

    fuse_board_moves : (n : ℕ) → b < length k.boards → (board_at k b).state ≢ Down → n < no_fuse
        → Moves b Again Begun (start k) (feeds (Fusing b n) k (Done 0) []) (step (fuse_board b n) (start k))
    unfolding fuse_board start does event_of done_event gave_in
    fuse_board_moves zero l power high = moves_do (LosePower b) still (λ z. loses_power l)
    fuse_board_moves (suc n) l power high = ends (moves_do (SetFuse b (suc n)) still (λ z. sets_fuse (suc n) power (omega arith) (omega arith)))

    fuse_bank_moves : (n : ℕ) → MadeBy b Again Begun (start k) (Fusing b n) k (fuse_bank b n k)
    unfolding fuse_bank start event_of
    fuse_bank_moves n =
        unless_moves (Fusing b n) k _ (start k) _ (each_cons refl (each_cons refl each_nil)) still
        (λ e.
        let t : (ltb b (length k.boards) && ltb n no_fuse) ≡ true = not-false _ (first_of_none _ _ _ e).here in
        let l : b < length k.boards = ltb-true b (length k.boards) (and_left _ (ltb n no_fuse) t) in
        let high : n < no_fuse = ltb-true n no_fuse (and_right (ltb b (length k.boards)) _ t) in
        let power : (board_at k b).state ≢ Down = is_down_not (board_at k b).state (first_of_none _ _ _ (first_of_none _ _ _ e).rest).here in
        finished_moves (Fusing b n) k 0 [] (step (fuse_board b n) (start k)) (fuse_board_moves n l power high))

    restart_bank_moves : MadeBy b Again Begun (start k) (Restarting b) k (restart_bank b k)
    unfolding restart_bank start does step used_up loaded on_working event_of done_event gave_in
    restart_bank_moves =
        unless_moves (Restarting b) k _ (start k) _ (each_cons refl (each_cons refl each_nil)) still
        (λ e.
        let l : b < length k.boards = ltb-true b (length k.boards) (not-false _ (first_of_none _ _ _ e).here) in
        let down : (board_at k b).state ≡ Down =
        is_down_down (board_at k b).state (not-false _ (first_of_none _ _ _ (first_of_none _ _ _ e).rest).here) in
        let f : Board → Board = λ x. used_up (loaded x) in
        finished_moves (Restarting b) k (board_at k b).stable.selected.number [] (end_if_over b (start (on_board b f k)))
        (end_if_over_moves b begun (moves_do (Load b) still (λ n. loads l down)) refl (rw (boards_on_board b f k) l)
        (rw (board_at_same b f k l) refl)))

    -- nothing moves
    compare_bank_moves : (c : ℕ) → MadeBy b Again Begun (start k) (Comparing b c) k (compare_bank b c k)
    unfolding compare_bank event_of gave_in
    compare_bank_moves c =
        unless_moves (Comparing b c) k _ (start k) _ (each_cons refl (each_cons refl each_nil)) still
        (λ e.
        compared_cases (λ x. MadeBy b Again Begun (start k) (Comparing b c) k (record { answer = x; run = start k; given = [] })) (λ i d. ends still) b c k)

-- every call, of any numbers, with any answer, is moves of the board that it names, up to what its answer feeds to the history
pub call_moves : (c : Call) (k : Bank) → WellFormed k
    → Moves (board_named c) (RepeatsIn c k) Begun (start k) (feeds c k (call_bank c k).answer (call_bank c k).given) (call_bank c k).run
unfolding call_bank board_named
call_moves (Accessing b a) k w = access_moves b k w a
call_moves (Checkpointing b) k w = checkpoint_bank_moves b k w
call_moves (Fusing b n) k w = fuse_bank_moves b k w n
call_moves (Restarting b) k w = restart_bank_moves b k w
call_moves (Comparing b c) k w = compare_bank_moves b k w c

-- ---- well formed after each

-- what comes before the access
pub prepared_keeps : (b : ℕ) (a : Access) (r : Run) → WellFormed r.bank → CanAccess b a r.bank → first_given (live_refusals b a r.bank) ≡ none
    → WellFormed (prepared b a r).bank
unfolding prepared does
prepared_keeps b a r w can passed =
    let h : FormedRun b Begun r = formed_begun b r w in
    cases (λ (u : Run). WellFormed u.bank) (lacking_of b a r.bank)
    (λ lack. fetched_formed (moves_formed (fetch_moves b r w a can passed {Again = λ a. ⊥} lack still) h))
    (λ has.
    cases (λ (u : Run). WellFormed u.bank) (copies_out a r.bank)
    (λ out.
    run_formed {d = b} {b = b} anyone
    (moves_formed
    (moves_do {Again = λ a. ⊥} (DropCopies b (page_written a)) still
    (λ n.
    drops_copies (page_written a) (written_there b r w a can passed out) (writer_owns b a r.bank w can passed has out)
    (can_drop b a r.bank w can passed has out)))
    h))
    (λ out. w))

pub prepared_sizes : (b : ℕ) (a : Access) (r : Run) → SameSizes r.bank (prepared b a r).bank
unfolding prepared
prepared_sizes b a r =
    cases (λ (u : Run). SameSizes r.bank u.bank) (lacking_of b a r.bank)
    (λ t. (follows_fetch (takes a) b (pages_lacking b a r.bank) r).sizes)
    (λ t.
    cases (λ (u : Run). SameSizes r.bank u.bank) (copies_out a r.bank)
    (λ o. (follows_step (drop_copies b (page_written a)) r (sizes_drop_copies b (page_written a) r.bank)).sizes)
    (λ o. sizes_same r.bank))

-- every call, of any numbers, with any answer
pub call_keeps : (c : Call) (k : Bank) → WellFormed k → WellFormed (call_bank c k).run.bank
unfolding start
call_keeps c k w = finished_formed (moves_formed (call_moves c k w) (formed_begun (board_named c) (start k) w))

-- so a call leaves well-formed bytes exactly where it was given such
pub call_keeps_bytes : (c : Call) (s : List ℕ) → well_formed (call c s).bytes ≡ well_formed s
unfolding call refused reply_of
call_keeps_bytes c s =
    cases (λ (y : Reply). well_formed y.bytes ≡ well_formed s) (well_formed s)
    (λ t. well_formed_complete (call_bank c (decode s)).run.bank (call_keeps c (decode s) (well_formed_sound s t)) ∙ sym t)
    (λ t. refl)
