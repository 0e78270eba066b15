-- Every move takes every board of a bank through changes, and leaves its records in order but for what is pending in its phase. So does every call, which
-- leaves nothing pending. Assumes nothing.
use Rattle.std.specs.Prelude.{◌≡◌, refl, ◌≢◌, ℕ, false, List, [], ◌∷◌, eqb}
use Rattle.std.proofs.Common.{sym, subst, arith, eqb-true}
use Rattle.std.proofs.Math.Option.{none}
use Rattle.types.specs.declared.CopyOrOwn.TheVariants.{GotOwn}
use Rattle.types.specs.declared.Kind.TheVariants.{Got, Shown}
use Rattle.types.specs.declared.Record.{Record}
use Rattle.model.specs.Definitions.Parts.{zeros, member}
use Rattle.model.specs.Definitions.Layout.{page_size}
use Rattle.model.specs.Definitions.Bank.{Board, Bank, board_at, entry_at, on_board}
use Rattle.model.specs.Definitions.WellFormed.{is_got, WellFormed}
use Rattle.model.specs.Definitions.Steps.{Run, start, step, store, Access, stored_record, stored_frame, stored_head, frame_of}
use Rattle.model.specs.Definitions.Replay.{records_left, took_due, replay_over, settle}
use Rattle.model.specs.Definitions.Calls.{Call, call_bank}
use Rattle.model.specs.Moves.{Move, does, Phase, Begun, Noted, Fetched, Replays, Settled, Finished, MayStore, anyone, taker, ender, Selects, checkpoints}
use Rattle.model.specs.Moves.{resumes, closes, MayPerform, local, taken, Guard, notes_shown, notes_got, stores_record, stores_frame, stores_head, stores_selector}
use Rattle.model.specs.Moves.{TakesCopy, first, behind, gives_copy, passes_ownership, drops_copies, performs, loses_power, sets_fuse, loads, repeats_access}
use Rattle.model.specs.Moves.{takes_last, settles, Moves}
use Rattle.model.specs.History.Statement.{Event}
use Rattle.model.proofs.Laws.Boards.{board_at_same}
use Rattle.model.proofs.Laws.Runs.{step_going}
use Rattle.model.proofs.Laws.Keeps.Rights.{or_cases, holder_up}
use Rattle.model.proofs.Laws.Moves.Formed.{FormedIn, FormedRun, formed_begun, selects_stores, induct_formed}
use Rattle.model.proofs.Laws.Moves.Calls.{call_moves}
use Rattle.model.specs.History.RecoveryStatement.{Stored}
use Rattle.history.specs.Replaying.{going_left, over_left}
use Rattle.history.specs.Counters.Spacing.{stored_record_orderly}
use Rattle.history.specs.Counters.BoardsInProgress.{Advances, power_off_advances, Nobody, advances_less, RunAdvances, run_trans, run_same, lost_advances}
use Rattle.history.specs.Counters.BoardsInProgress.{Advance, advance_one, advance_less, advance_quiet, stored_frame_same, stored_head_same, step_advances}
use Rattle.history.specs.Counters.BoardsInProgress.{store_advances, selector_advances}
use Rattle.history.specs.Counters.Steps.{noted_advances, got_advances, give_copy_advances, drop_copies_advances, pass_ownership_advances, access_advances}
use Rattle.history.specs.Counters.Steps.{with_fuse_advances, Over, restarted_advances, took_advances, replayed_advances, settled_advances}

-- the caller's access, or the end of its replay, is still to come
unfoldable pub Pending : ℕ → Phase → Bank → ℕ → Type 0
Pending d Begun k c = ⊥
Pending d (Noted o p) k c = c ≡ d
Pending d (Fetched a os ps) k c = c ≡ d
Pending d (Replays e) k c = (c ≡ d) × (records_left (board_at k d) ≡ [])
Pending d (Settled e) k c = c ≡ d
Pending d (Finished e o) k c = ⊥

-- of whoever may store alone; it doesn't depend on the bank then
stores_pending : {d b : ℕ} {φ : Phase} (k : Bank) → MayStore d b φ → (c : ℕ) → c ≢ b → Pending d φ k c → ⊥
unfolding Pending
stores_pending k anyone c n q = q
stores_pending k taker c n q = n q
stores_pending k ender c n q = n q

same_pending : {d b : ℕ} {φ : Phase} (k j : Bank) → MayStore d b φ → (c : ℕ) → Pending d φ k c → Pending d φ j c
unfolding Pending
same_pending k j anyone c q = q
same_pending k j taker c q = q
same_pending k j ender c q = q

selects_pending : {d b : ℕ} {φ ψ : Phase} (j : Bank) → Selects d b φ ψ → (c : ℕ) → ⊥ → Pending d ψ j c
unfolding Pending
selects_pending j checkpoints c q = q
selects_pending j resumes c q = q
selects_pending j closes c q = q

begins_pending : {a : Access} {gave : List ℕ} {φ : Phase} (d : ℕ) (k : Bank) → MayPerform a gave φ → (c : ℕ) → Pending d φ k c → c ≡ d
unfolding Pending
begins_pending d k local c q = absurd q
begins_pending d k taken c q = q

takes_pending : {a : Access} {o p : ℕ} {φ ψ : Phase} (d : ℕ) (k : Bank) → TakesCopy a o p φ ψ → (c : ℕ) → Pending d φ k c → c ≡ d
unfolding Pending
takes_pending d k first c q = absurd q
takes_pending d k (behind l) c q = q

pending_taken : {a : Access} {o p : ℕ} {φ ψ : Phase} (d : ℕ) (k : Bank) → TakesCopy a o p φ ψ → (c : ℕ) → c ≡ d → Pending d ψ k c
unfolding Pending
pending_taken d k first c q = q
pending_taken d k (behind l) c q = q

-- a store that leaves pending what was
stored_advances : {d : ℕ} {φ : Phase} (b : ℕ) (f : Board → Board) (s : Run) → MayStore d b φ
    → ((P : Type 0) → Advance P P (board_at s.bank b) (f (board_at s.bank b)))
    → RunAdvances (Pending d φ s.bank) (Pending d φ (store b f s).bank) s (store b f s)
stored_advances {d} {φ} b f s o a =
    store_advances b (stores_pending s.bank o) f s
    (λ e l. advance_less (λ p. p) (same_pending s.bank (store b f s).bank o b) (a (Pending d φ s.bank b)))

-- a step after which the replay may be over
replay_advances : (d : ℕ) (f : Bank → Bank) (s : Run) → s.lost ≡ none → Advances Nobody (Over d (f s.bank)) s.bank (f s.bank)
    → RunAdvances Nobody (Over d (step f s).bank) s (step f s)
replay_advances d f s n a =
    subst (λ (k : Bank). RunAdvances Nobody (Over d k) s (step f s)) (sym (step_going f s n)) (step_advances f s (λ e. a))

pub move_advances : {d : ℕ} {Again : Access → Type 0} {χ : Phase} (s : Run) {ψ : Phase} (m : Move) → s.lost ≡ none → Guard d Again s.bank m χ ψ → FormedRun d χ s
    → RunAdvances (Pending d χ s.bank) (Pending d ψ (does m s).bank) s (does m s)
unfolding does Pending FormedIn is_got settle
move_advances {d} s _ n (notes_shown b p u m l v) h = step_advances _ s (λ e. noted_advances b (Shown p) d (zeros page_size) s.bank refl u)
move_advances {d} s _ n (notes_got o p u m l r v) h = step_advances _ s (λ e. got_advances d (Got GotOwn p) o (frame_of s.bank o p).bytes s.bank refl u)
move_advances s _ n (stores_record b o u) h =
    stored_advances b stored_record s o (λ P. advance_one (Stored u refl) (stored_record_orderly (board_at s.bank b) u))
move_advances s _ n (stores_frame b p o u) h = stored_advances b (stored_frame p) s o (λ P. advance_quiet (stored_frame_same p (board_at s.bank b)))
move_advances s _ n (stores_head b o u) h = stored_advances b stored_head s o (λ P. advance_quiet (stored_head_same (board_at s.bank b)))
move_advances s _ n (stores_selector b o u v) h =
    run_trans (selector_advances b (stores_pending s.bank (selects_stores o)) s u v) (run_same _ (selects_pending _ o))
move_advances {d} s _ n (gives_copy a o p x c i g u m r) h =
    run_trans (run_same s (takes_pending d s.bank x))
    (run_trans (step_advances _ s (λ e. give_copy_advances o d p s.bank u)) (run_same _ (pending_taken d _ x)))
move_advances {d} s _ n (passes_ownership a o p c i g own v m) h =
    step_advances _ s
    (λ e.
    pass_ownership_advances o d p s.bank
    (λ c l ne t.
    or_cases (eqb c o) (member c (entry_at s.bank p).copies) t
    (λ i. rw (eqb-true c o i) g.secure.up)
    (holder_up (h.going n) c p l g.page)))
move_advances {d} s _ n (drops_copies p l own m) h = step_advances _ s (λ e. drop_copies_advances d p s.bank (λ c i t. holder_up (h.going n) c p i l t))
move_advances {d} s _ n (performs a i can has out) h =
    run_trans (run_same s (begins_pending d s.bank i)) (step_advances _ s (λ e. access_advances d a s.bank can.up))
move_advances {d} s _ n (loses_power l) h = step_advances _ s (λ e. power_off_advances d s.bank (λ c m q. q))
move_advances {d} s _ n (sets_fuse m p low high) h = step_advances _ s (λ e. with_fuse_advances d m s.bank)
move_advances {d} s _ n (loads l down) h = replay_advances d _ s n (restarted_advances d s.bank l down)
move_advances {d} s _ n (repeats_access a z i rep same over) h = replay_advances d _ s n (replayed_advances d s.bank i.board a rep over)
move_advances {d} s _ n (takes_last a i rep same over) h =
    let now : board_at (on_board d took_due s.bank) d ≡ took_due (board_at s.bank d) = board_at_same d took_due s.bank i.board in
    replay_advances d _ s n
    (advances_less (λ c q. q) (λ c q. (q, over_left (board_at (on_board d took_due s.bank) d) (rw now over))) (took_advances d s.bank i.board rep))
move_advances {d} s _ n (settles l rep over) h =
    run_trans (run_same s (λ c q. q.0)) (step_advances _ s (λ e. settled_advances d s.bank l rep over))

-- a replay that waits has nothing pending
waits_advances : (d : ℕ) (e : Event) (s : Run) → replay_over (board_at s.bank d) ≡ false
    → RunAdvances (Pending d (Replays e) s.bank) (Pending d (Finished e []) s.bank) s s
unfolding Pending
waits_advances d e s over =
    let g : (q : Record) × (qs : List Record) × (records_left (board_at s.bank d) ≡ q ∷ qs) = going_left (board_at s.bank d) over in
    run_same s (λ c q. let z : ◌≡◌ {A = ℕ} 0 1 = cc (g.2, q.1) in absurd (omega arith))

-- ---- lists of moves, calls

moves_advance : {d : ℕ} {Again : Access → Type 0} {χ : Phase} {r s : Run} → Moves d Again Begun r χ s → WellFormed r.bank
    → RunAdvances Nobody (Pending d χ s.bank) r s
unfolding Pending
moves_advance {d} {Again} {χ} {r} {s} t w =
    induct_formed (λ χ s. RunAdvances Nobody (Pending d χ s.bank) r s)
    (λ χ ψ s m n a f v h. run_trans h (move_advances s m n a f))
    (λ e s n o v h. run_trans h (waits_advances d e s o))
    (λ s h. h)
    (λ χ ψ s c e h. run_trans h (lost_advances s c e))
    t (formed_begun d r w) (run_same r (λ c q. q))

-- every call, of any numbers, with any answer
pub call_advances : (c : Call) (k : Bank) → WellFormed k → Advances Nobody Nobody k (call_bank c k).run.bank
unfolding start Pending
call_advances c k w = advances_less (λ d q. absurd q) (λ d q. q.1) (moves_advance (call_moves c k w) w).bank
