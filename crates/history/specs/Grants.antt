-- What a board gave away stands: when another board's fetch from it is done, its recovery point is at least the access number that it had then, and never
-- falls below that. Assumes nothing.
use Rattle.std.specs.Prelude.{◌≡◌, refl, ◌≢◌, ℕ, ◌≤◌, ◌<◌, Bool, List, [], ◌∷◌, length, eqb}
use Rattle.std.proofs.Common.{sym, ap, ◌∙◌, le_trans, arith, eqb-true}
use Rattle.std.proofs.Math.Option.{none}
use Rattle.words.specs.Bytes.{Each, each_nil, each_cons}
use Rattle.model.proofs.Laws.Lists.{each_head, each_tail, each_imp, each_append}
use Rattle.types.specs.declared.Kind.TheVariants.{Shown}
use Rattle.model.specs.Definitions.Parts.{zeros}
use Rattle.model.specs.Definitions.Layout.{page_size}
use Rattle.model.specs.Definitions.Bank.{Working, Board, Bank, board_at, on_board, on_working, on_frames, on_spare}
use Rattle.model.specs.Definitions.WellFormed.{WellFormed}
use Rattle.model.specs.Definitions.Steps.{Run, start, step, store, recorded, moved_record, stored_record, stored_frame, stored_head, stored_selector, rested_working}
use Rattle.model.specs.Definitions.Steps.{Access, access, note, dropped, with_frame}
use Rattle.model.specs.Definitions.Replay.{took_due, settle, count_sum, recovery_point}
use Rattle.model.specs.Definitions.Calls.{Call, call_bank}
use Rattle.model.proofs.Laws.Logic.{by_option, by_eq, cases}
use Rattle.model.proofs.Laws.Boards.{stored_record_cases, board_at_same, board_at_other, board_at_power_off_other, board_at_give_copy_other, dropped_if}
use Rattle.model.proofs.Laws.Boards.{board_at_drop_copies, board_at_pass_ownership_other}
use Rattle.model.proofs.Laws.Runs.{lost_not, step_going, step_none, follows_store, Changed, changed_store}
use Rattle.model.proofs.Laws.Runs.Stores.{burnt_working}
use Rattle.model.proofs.Laws.Keeps.Clauses.{up_below}
use Rattle.model.proofs.Laws.Codes.Ends.{power_lost}
use Rattle.model.specs.Moves.{Move, does, Phase, Begun, Noted, Fetched, Replays, Settled, Finished, Selects, checkpoints, resumes, closes, MayPerform, local}
use Rattle.model.specs.Moves.{taken, Secure, Gives, Guard, notes_shown, notes_got, stores_record, stores_frame, stores_head, stores_selector, gives_copy}
use Rattle.model.specs.Moves.{TakesCopy, first, behind, passes_ownership, drops_copies, performs, loses_power, sets_fuse, loads, repeats_access, takes_last, settles}
use Rattle.model.specs.Moves.{Moves}
use Rattle.model.proofs.Laws.Moves.{follows_does}
use Rattle.model.proofs.Laws.Moves.Formed.{FormedRun, formed_begun, induct_formed}
use Rattle.model.proofs.Laws.Moves.Calls.{call_moves}
use Rattle.model.specs.History.Statement.{with_number_of, event_of, gave_in, granted_after}
use Rattle.model.specs.History.Banks.{grants_after}
use Rattle.history.specs.Counters.{Balanced}
use Rattle.history.specs.Counters.BoardsInProgress.{RunAdvances}
use Rattle.history.specs.Counters.Moves.{Pending, move_advances, call_advances}
use Rattle.history.specs.Recovery.{Counted, changes_balanced, changes_rise, recovery_rises}

-- ==== access numbers

abbrev access_number : ℕ → Bank → ℕ
access_number c k = (board_at k c).working.number

on_board_number : (b : ℕ) (f : Board → Board) (k : Bank) → (f (board_at k b)).working.number ≡ access_number b k
    → (c : ℕ) → c < length k.boards → access_number c (on_board b f k) ≡ access_number c k
on_board_number b f k h c l =
    by_eq c b
    (λ e. rw e (ap (λ (x : Board). x.working.number) (board_at_same b f k (rw e at l)) ∙ h))
    (λ n. ap (λ (x : Board). x.working.number) (board_at_other b f k c n))

dropped_if_number : (t : Bool) (w p : ℕ) (x : Board) → (dropped_if t w p x).working.number ≡ x.working.number
unfolding dropped_if dropped with_frame on_working on_frames recorded
dropped_if_number t w p x = cases (λ (y : Board). y.working.number ≡ x.working.number) t (λ e. refl) (λ e. refl)

stored_record_number : (x : Board) → (stored_record x).working.number ≡ x.working.number
unfolding moved_record
stored_record_number x = stored_record_cases (λ y. y.working.number ≡ x.working.number) x (λ e. refl) (λ r rs e. refl)

module _ (s : Run) (n : s.lost ≡ none) (c : ℕ) where
  step_number : (f : Bank → Bank) → access_number c (f s.bank) ≡ access_number c s.bank → access_number c (step f s).bank ≡ access_number c s.bank
  step_number f h = ap (access_number c) (step_going f s n) ∙ h

  -- another board than the one that a step changes
  other_number : (f : Bank → Bank) → board_at (f s.bank) c ≡ board_at s.bank c → access_number c (step f s).bank ≡ access_number c s.bank
  other_number f e = step_number f (ap (λ (x : Board). x.working.number) e)

  store_number : (b : ℕ) (f : Board → Board) → ((x : Board) → (f x).working.number ≡ x.working.number) → (store b f s).lost ≡ none
      → c < length s.bank.boards → access_number c (store b f s).bank ≡ access_number c s.bank
  store_number b f h z l =
      let x : Board = board_at s.bank b in
      let d : Changed b (λ x y. y.working.number ≡ x.working.number) s.bank (store b f s).bank =
      changed_store b f s z (ap (λ (w : Working). w.number) (burnt_working (f x)) ∙ h x) in
      by_eq c b (λ e. rw e (d.this (rw e at l))) (λ m. ap (λ (x : Board). x.working.number) (d.others c m))

-- no access number but the caller's changes, unless power is lost
move_number : {d : ℕ} {Again : Access → Type 0} {χ : Phase} (s : Run) {ψ : Phase} (m : Move) → s.lost ≡ none → Guard d Again s.bank m χ ψ
    → (does m s).lost ≡ none → (c : ℕ) → c < length s.bank.boards → c ≢ d → access_number c (does m s).bank ≡ access_number c s.bank
unfolding does note access settle on_working recorded on_spare stored_frame stored_head stored_selector rested_working
move_number {d} s _ n (notes_shown b p u m i v) z c l e =
    step_number s n c _ (on_board_number b (on_working (recorded (Shown p) d (zeros page_size))) s.bank refl c l)
move_number {d} s _ n (notes_got o p u m i r v) z c l e = other_number s n c _ (board_at_other d _ s.bank c e)
move_number s _ n (stores_record b o u) z c l e = store_number s n c b stored_record stored_record_number z l
move_number s _ n (stores_frame b p o u) z c l e = store_number s n c b (stored_frame p) (λ x. refl) z l
move_number s _ n (stores_head b o u) z c l e = store_number s n c b stored_head (λ x. refl) z l
move_number s _ n (stores_selector b o u v) z c l e =
    let t : Run = store b stored_selector s in
    let g : t.lost ≡ none = step_none (on_board b (on_working rested_working)) t z in
    step_number t g c _ (on_board_number b (on_working rested_working) t.bank refl c (rw (follows_store b stored_selector s).sizes.boards l))
    ∙ store_number s n c b stored_selector (λ x. refl) g l
move_number {d} s _ n (gives_copy a o p x y i g u m r) z c l e = other_number s n c _ (board_at_give_copy_other o d p s.bank c e)
move_number {d} s _ n (passes_ownership a o p y i g own v m) z c l e =
    step_number s n c _
    (ap (λ (x : Board). x.working.number) (board_at_pass_ownership_other o d p s.bank c l e) ∙ dropped_if_number _ d p (board_at s.bank c))
move_number {d} s _ n (drops_copies p i own m) z c l e =
    step_number s n c _ (ap (λ (x : Board). x.working.number) (board_at_drop_copies d p s.bank c l) ∙ dropped_if_number _ d p (board_at s.bank c))
move_number {d} s _ n (performs a i can has out) z c l e = other_number s n c _ (board_at_other d _ s.bank c e)
move_number {d} s _ n (loses_power i) z c l e = other_number s n c _ (board_at_power_off_other d s.bank c e)
move_number {d} s _ n (sets_fuse m p low high) z c l e = other_number s n c _ (board_at_other d _ s.bank c e)
move_number {d} s _ n (loads i down) z c l e = other_number s n c _ (board_at_other d _ s.bank c e)
move_number {d} s _ n (repeats_access a y i rep same over) z c l e =
    other_number s n c _ (board_at_other d _ (on_board d took_due s.bank) c e ∙ board_at_other d took_due s.bank c e)
move_number {d} s _ n (takes_last a i rep same over) z c l e = other_number s n c _ (board_at_other d _ s.bank c e)
move_number {d} s _ n (settles i rep over) z c l e = other_number s n c _ (board_at_other d _ s.bank c e)

-- ==== who gave a page away

-- who gave the caller a page, as far as the call has come
unfoldable givers_so_far : Phase → List ℕ
givers_so_far Begun = []
givers_so_far (Noted o p) = []
givers_so_far (Fetched a os ps) = os
givers_so_far (Replays e) = []
givers_so_far (Settled e) = []
givers_so_far (Finished e gave) = gave

-- what board o had counted in bank k is stable in bank j
record Recoverable (o : ℕ) (k j : Bank) : Type 0 where
  below : o < length k.boards
  stable : access_number o k ≤ recovery_point (board_at j o)

-- what holds between two moves of a call of board d that began with bank k: only d's access number changed, and what a giver had counted is stable
record Grants (d : ℕ) (k : Bank) (χ : Phase) (s : Run) : Type 0 where
  boards : length s.bank.boards ≡ length k.boards
  balanced : (c : ℕ) → c < length k.boards → Balanced (board_at s.bank c)
  numbers : s.lost ≡ none → (c : ℕ) → c < length k.boards → c ≢ d → access_number c s.bank ≡ access_number c k
  gave : s.lost ≡ none → Each (λ o. Recoverable o k s.bank) (givers_so_far χ)

-- a board that has stored all that it counted
secure_point : (x : Board) → Secure x → Balanced x → recovery_point x ≡ x.working.number
unfolding count_sum
secure_point x s h = omega (arith, h.up s.up, s.since, ap count_sum s.volatile)

giver_recoverable : {d : ℕ} {k : Bank} {χ : Phase} (s : Run) → s.lost ≡ none → Grants d k χ s → (o p : ℕ) → Gives o d p s.bank → Recoverable o k s.bank
giver_recoverable {k = k} s n h o p g =
    let l : o < length k.boards = rw h.boards at (up_below s.bank o g.secure.up) in
    record { below = l; stable = omega (arith, secure_point (board_at s.bank o) g.secure (h.balanced o l), h.numbers n o l g.other) }

performs_given : {a : Access} {gave : List ℕ} {φ : Phase} → MayPerform a gave φ → givers_so_far φ ≡ gave
unfolding givers_so_far
performs_given local = refl
performs_given taken = refl

-- one giver more
takes_given : {k j : Bank} {a : Access} {o p : ℕ} {φ ψ : Phase} → TakesCopy a o p φ ψ → Each (λ c. Recoverable c k j) (givers_so_far φ) → Recoverable o k j
    → Each (λ c. Recoverable c k j) (givers_so_far ψ)
unfolding givers_so_far
takes_given first e r = each_cons r each_nil
takes_given {o = o} (behind {os} l) e r = each_append os (o ∷ []) e (each_cons r each_nil)

selects_none : {d b : ℕ} {φ ψ : Phase} → Selects d b φ ψ → givers_so_far ψ ≡ []
unfolding givers_so_far
selects_none checkpoints = refl
selects_none resumes = refl
selects_none closes = refl

-- when a move makes a giver of a board, what the board had counted is stable already
move_recoverable : {d : ℕ} {Again : Access → Type 0} {k : Bank} {χ : Phase} (s : Run) {ψ : Phase} (m : Move) → s.lost ≡ none → Guard d Again s.bank m χ ψ
    → Grants d k χ s → Each (λ o. Recoverable o k s.bank) (givers_so_far ψ)
unfolding givers_so_far
move_recoverable s _ n (notes_shown b p u m l v) h = each_nil
move_recoverable s _ n (notes_got x p u m l r v) h = each_nil
move_recoverable s _ n (stores_record b x u) h = h.gave n
move_recoverable s _ n (stores_frame b p x u) h = h.gave n
move_recoverable s _ n (stores_head b x u) h = h.gave n
move_recoverable s _ n (stores_selector b x u v) h = rw (selects_none x) each_nil
move_recoverable s _ n (gives_copy a o p x c i g u m r) h = takes_given x (h.gave n) (giver_recoverable s n h o p g)
move_recoverable s _ n (passes_ownership a o p c i g own v m) h = each_cons (giver_recoverable s n h o p g) each_nil
move_recoverable s _ n (drops_copies p l own m) h = each_nil
move_recoverable s _ n (performs a i can has out) h = rw (performs_given i) at (h.gave n)
move_recoverable s _ n (loses_power l) h = each_nil
move_recoverable s _ n (sets_fuse m p low high) h = each_nil
move_recoverable s _ n (loads l down) h = each_nil
move_recoverable s _ n (repeats_access a z i rep same over) h = each_nil
move_recoverable s _ n (takes_last a i rep same over) h = each_nil
move_recoverable s _ n (settles l rep over) h = each_nil

-- and no move takes that back
move_grants : {d : ℕ} {Again : Access → Type 0} {k : Bank} {χ ψ : Phase} (s : Run) (m : Move) → s.lost ≡ none → Guard d Again s.bank m χ ψ
    → FormedRun d χ s → Grants d k χ s → Grants d k ψ (does m s)
move_grants {d} {k = k} {χ = χ} {ψ = ψ} s m n g f h =
    let a : RunAdvances (Pending d χ s.bank) (Pending d ψ (does m s).bank) s (does m s) = move_advances s m n g f in
    record {
      boards = (follows_does m s).sizes.boards ∙ h.boards;
      balanced = λ c l. changes_balanced (a.bank.boards c (rw h.boards l)).changes (h.balanced c l);
      numbers = λ z c l e. move_number s m n g z c (rw h.boards l) e ∙ h.numbers n c l e;
      gave = λ z.
          each_imp (givers_so_far ψ)
          (λ o t.
          record {
            below = t.below;
            stable = le_trans t.stable (changes_rise (a.bank.boards o (rw h.boards t.below)).changes (h.balanced o t.below));
          })
          (move_recoverable s m n g h);
    }

-- a phase in which nobody gave
nobody_grants : {d : ℕ} {k : Bank} {χ ψ : Phase} (s : Run) → givers_so_far ψ ≡ [] → Grants d k χ s → Grants d k ψ s
nobody_grants s i h = record { boards = h.boards; balanced = h.balanced; numbers = h.numbers; gave = λ n. rw i each_nil }

moves_grant : {d : ℕ} {Again : Access → Type 0} {χ : Phase} {k : Bank} {s : Run} → Moves d Again Begun (start k) χ s → WellFormed k → Counted k
    → Grants d k χ s
unfolding start givers_so_far
moves_grant {d} {k = k} t w h =
    induct_formed (Grants d k)
    (λ χ ψ s m n g f v. move_grants s m n g f)
    (λ e s n o v. nobody_grants s refl)
    (λ s. nobody_grants s refl)
    (λ χ ψ s c e i. record { boards = i.boards; balanced = i.balanced; numbers = λ n. lost_not n e; gave = λ n. lost_not n e })
    t (formed_begun d (start k) w)
    (record { boards = refl; balanced = λ c l. (h c l).balanced; numbers = λ n c l e. refl; gave = λ n. each_nil })

-- ==== any call

gave_stable : (c : Call) (k : Bank) → WellFormed k → Counted k
    → Each (λ o. access_number o k ≤ recovery_point (board_at (call_bank c k).run.bank o)) (gave_in (event_of c (call_bank c k).answer (call_bank c k).given) k)
unfolding givers_so_far event_of gave_in
gave_stable c k w h =
    by_option (call_bank c k).run.lost
    (λ n. each_imp _ (λ o t. t.stable) ((moves_grant (call_moves c k w) w h).gave n))
    (λ b l. rw ((power_lost c k b).1 l) each_nil)

-- the givers of this call, if board b is one, and what b gave before
granted_below : (os : List ℕ) (k : Bank) (granted : ℕ → ℕ) (b n : ℕ) → granted b ≤ n → Each (λ o. o ≡ b → (board_at k b).working.number ≤ n) os
    → granted_after os k granted b ≤ n
unfolding granted_after with_number_of
granted_below [] k granted b n h g = h
granted_below (o ∷ os) k granted b n h g =
    cases (λ (m : ℕ). m ≤ n) (eqb b o)
    (λ t. let e : b ≡ o = eqb-true b o t in rw (← e) (each_head g (sym e)))
    (λ t. granted_below os k granted b n h (each_tail g))

-- "the stand points are as demanded": none is below its board's access number when it last gave a page away, in this call or in one before
pub call_grants : (c : Call) (k : Bank) (granted : ℕ → ℕ) → WellFormed k → Counted k
    → ((b : ℕ) → b < length k.boards → granted b ≤ recovery_point (board_at k b))
    → (b : ℕ) → b < length (call_bank c k).run.bank.boards → grants_after c k granted b ≤ recovery_point (board_at (call_bank c k).run.bank b)
unfolding grants_after
call_grants c k granted w h g b l =
    let i : b < length k.boards = rw (call_advances c k w).sizes.boards at l in
    granted_below (gave_in (event_of c (call_bank c k).answer (call_bank c k).given) k) k granted b (recovery_point (board_at (call_bank c k).run.bank b))
    (le_trans (g b i) (recovery_rises c k w h b i))
    (each_imp _ (λ o t e. rw e at t) (gave_stable c k w h))
