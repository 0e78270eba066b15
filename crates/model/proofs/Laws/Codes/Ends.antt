-- How a call on a bank ends: refused with the bank as it was, refused after the end of a replay, run to its end or to a power loss, or done with a look at
-- it. Of any bank, well formed or not. Assumes nothing.
use Rattle.std.specs.Prelude.{◌≡◌, ◌≢◌, ◌⊎◌, ◌↔◌, ℕ, ◌≤◌, Bool, ◌&&◌, not, length, ltb}
use Rattle.std.proofs.Math.Path.{refl}
use Rattle.std.proofs.Common.{ap, inl, inr, arith}
use Rattle.std.proofs.Math.Option.{none, some}
use mathlib.Core.List.{List, [], ◌∷◌}
use Rattle.types.specs.declared.Frame.{Frame}
use Rattle.types.specs.declared.State.TheVariants.{Replaying}
use Rattle.types.specs.declared.Answer.{Answer}
use Rattle.types.specs.declared.Answer.TheVariants.{Done, Malformed, OutOfRange, WrongState, CountersFull, ReplayDiffers, OwnerNotUp, LogFull}
use Rattle.types.specs.declared.Answer.TheVariants.{PowerLost, WrongCells, HasRecords, Compared, SameBoard}
use Rattle.model.specs.Definitions.Layout.{no_fuse}
use Rattle.model.specs.Definitions.Bank.{Bank, board_at, on_board}
use Rattle.model.specs.Definitions.WellFormed.{is_up, is_down}
use Rattle.model.specs.Definitions.Answers.{code, value, who}
use Rattle.model.specs.Definitions.Steps.{Run, start, step, fuse_board, checkpoint, Access, value_of, given_of, access}
use Rattle.model.specs.Definitions.Replay.{loaded, used_up, took_due, end_if_over, replayed}
use Rattle.model.specs.Definitions.Calls.{Result, unless, finished, prepared, performed, live, replaying, access_bank, checkpoint_bank, fuse_bank}
use Rattle.model.specs.Definitions.Calls.{restart_bank, Call, Accessing, Checkpointing, Fusing, Restarting, Comparing, call_bank}
use Rattle.model.proofs.Laws.Logic.{cases_option}
use Rattle.model.specs.Laws.Codes.Statement.{OfAccess, board_named, done_as, after_replay}
use Rattle.model.proofs.Laws.Tests.{says_replaying}
use Rattle.model.proofs.Laws.Codes.Order.{never, fails}
use Rattle.model.proofs.Laws.Codes.Cases.{plain_cases, compare_cases, live_cases, replaying_cases, access_cases}

-- Refused first are codes 2 to 7 and those from 10 on; `Late` says on which run, besides the one that the call of board b began with, it may have been refused
pub data Ends (b : ℕ) (k : Bank) (Late : Run → Type 0) : Result → Type 0 where
  refused_first : (x : Answer) → 2 ≤ code x → (code x ≤ 7) ⊎ (10 ≤ code x) → (6 ≤ code x → code x ≤ 7 → (board_at k b).state ≢ Replaying)
      → Ends b k Late (record { answer = x; run = start k; given = [] })
  refused_late : (x : Answer) (r : Run) → 6 ≤ code x → code x ≤ 7 → Late r → Ends b k Late (record { answer = x; run = r; given = [] })
  ran : (v : ℕ) (given : List ℕ) (r : Run) → Ends b k Late (finished v given r)
  looked : (i d : ℕ) → Ends b k Late (record { answer = Compared i d; run = start k; given = [] })

-- the end of a replay, after which the access went on live
pub record ReplayEnd (b : ℕ) (k : Bank) (r : Run) : Type 0 where
  pub state : (board_at k b).state ≡ Replaying
  pub lost : r.lost ≡ none
  pub run : r ≡ after_replay b k

-- refused on entry
entry_ended : (k : Bank) (Late : Run → Type 0) (b : ℕ) (x : Answer) → 2 ≤ code x → (code x ≤ 5) ⊎ (10 ≤ code x)
    → Ends b k Late (record { answer = x; run = start k; given = [] })
entry_ended k Late b x h (inl l) = refused_first x h (inl (omega arith)) (λ f g. absurd (omega arith))
entry_ended k Late b x h (inr l) = refused_first x h (inr l) (λ f g. absurd (omega arith))

module _ (b : ℕ) (a : Access) (k : Bank) where
  live_ended : (r : Run) → ((x : Answer) → 6 ≤ code x → code x ≤ 7 → Ends b k (ReplayEnd b k) (record { answer = x; run = r; given = [] }))
      → Ends b k (ReplayEnd b k) (live b a r)
  unfolding performed
  live_ended r refusal =
      let fs : List Frame = (board_at (prepared b a r).bank b).working.frames in
      live_cases (Ends b k (ReplayEnd b k)) b a r refusal (ran (value_of a fs) (given_of a fs) (step (access b a) (prepared b a r)))

  replaying_ended : (board_at k b).state ≡ Replaying → Ends b k (ReplayEnd b k) (replaying b a k)
  unfolding finished
  replaying_ended s =
      let P : Result → Type 0 = Ends b k (ReplayEnd b k) in
      let r : Run = after_replay b k in
      let taken : Bank = on_board b took_due k in
      let fs : List Frame = (board_at taken b).working.frames in
      replaying_cases P b a k
      (λ l. live_ended r (λ x h i. refused_late x r h i (record { state = s; lost = l; run = refl })))
      (λ c l.
      let e : finished 0 [] r ≡ record { answer = PowerLost c; run = r; given = [] } = cc in
      let f : P (finished 0 [] r) = ran 0 [] r in
      rw e at f)
      (ran (value_of a fs) (given_of a fs) (end_if_over b (start (on_board b (replayed a) taken))))

  access_ended : Ends b k (ReplayEnd b k) (access_bank b a k)
  access_ended =
      access_cases (Ends b k (ReplayEnd b k)) b a k
      (entry_ended k (ReplayEnd b k) b)
      (λ d t. replaying_ended ((says_replaying (board_at k b).state).0 t))
      (λ d t. live_ended (start k) (λ x h i. refused_first x (omega arith) (inl i) (λ f g. fails (says_replaying (board_at k b).state) t)))

plain_ended : (k : Bank) (Late : Run → Type 0) (b : ℕ) (out wrong : Bool) (v : ℕ) (r : Run)
    → Ends b k Late (unless ((out, OutOfRange) ∷ (wrong, WrongState b) ∷ []) (start k) (finished v [] r))
plain_ended k Late b out wrong v r =
    plain_cases (Ends b k Late) k b out wrong (finished v [] r)
    (λ x h i. entry_ended k Late b x h (inl (omega arith)))
    (λ t u. ran v [] r)

-- the runs after which a call may be refused late: an access whose board was replaying
abbrev pub LateIn : Call → Bank → Run → Type 0
LateIn c k r = OfAccess (λ b a. ReplayEnd b k r) c

pub call_ended : (c : Call) (k : Bank) → Ends (board_named c) k (LateIn c k) (call_bank c k)
unfolding call_bank OfAccess board_named checkpoint_bank fuse_bank restart_bank
call_ended (Accessing b a) k = access_ended b a k
call_ended (Checkpointing b) k =
    plain_ended k (λ r. ⊥) b (not (ltb b (length k.boards))) (not (is_up (board_at k b).state)) 0 (checkpoint b (start k))
call_ended (Fusing b n) k =
    plain_ended k (λ r. ⊥) b
    (not (ltb b (length k.boards) && ltb n no_fuse)) (is_down (board_at k b).state) 0 (step (fuse_board b n) (start k))
call_ended (Restarting b) k =
    plain_ended k (λ r. ⊥) b
    (not (ltb b (length k.boards))) (not (is_down (board_at k b).state))
    (board_at k b).stable.selected.number
    (end_if_over b (start (on_board b (λ x. used_up (loaded x)) k)))
call_ended (Comparing b c) k = compare_cases (Ends b k (λ r. ⊥)) b c k (entry_ended k (λ r. ⊥) b) looked

-- ---- "8: a fuse blew in this call; who: that board"

-- the answer says what the run says
abbrev pub AnswersLoss : Result → Type 0
AnswersLoss t = (b : ℕ) → (t.answer ≡ PowerLost b) ↔ (t.run.lost ≡ some b)

loss_finished : (v : ℕ) (given : List ℕ) (r : Run) → AnswersLoss (finished v given r)
unfolding finished
loss_finished v given r b =
    cases_option (λ (t : Result). (t.answer ≡ PowerLost b) ↔ (t.run.lost ≡ some b)) r.lost
    (λ n. (λ e. never (cc), λ e. never (cc)))
    (λ c l. (λ e. let f : c ≡ b = cc in cc, λ e. let f : c ≡ b = cc in cc))

loss_refused : (x : Answer) (r : Run) → code x ≢ 8 → r.lost ≡ none → AnswersLoss (record { answer = x; run = r; given = [] })
unfolding code
loss_refused x r h n b = (λ e. absurd (h (ap code e)), λ e. never (cc))

ended_loss : (d : ℕ) (k : Bank) (Late : Run → Type 0) (t : Result) → ((r : Run) → Late r → r.lost ≡ none) → Ends d k Late t → AnswersLoss t
unfolding start code
ended_loss d k Late t f (refused_first x h i n) = loss_refused x (start k) (λ e. elim i [ inl l ↦ omega arith | inr g ↦ omega arith ]) refl
ended_loss d k Late t f (refused_late x r h i l) = loss_refused x r (λ e. omega arith) (f r l)
ended_loss d k Late t f (ran v given r) = loss_finished v given r
ended_loss d k Late t f (looked i c) = loss_refused (Compared i c) (start k) (λ e. never (omega arith)) refl

late_not_lost : (c : Call) (k : Bank) (r : Run) → LateIn c k r → r.lost ≡ none
unfolding OfAccess
late_not_lost (Accessing b a) k r l = l.lost
late_not_lost (Checkpointing b) k r l = absurd l
late_not_lost (Fusing b n) k r l = absurd l
late_not_lost (Restarting b) k r l = absurd l
late_not_lost (Comparing b c) k r l = absurd l

pub power_lost : (c : Call) (k : Bank) (b : ℕ) → ((call_bank c k).answer ≡ PowerLost b) ↔ ((call_bank c k).run.lost ≡ some b)
power_lost c k b = ended_loss (board_named c) k (LateIn c k) (call_bank c k) (late_not_lost c k) (call_ended c k) b

-- ---- "a second lent buffer, which any code but 0 leaves unchanged" (document 02, F-3)

finished_gives : (v : ℕ) (given : List ℕ) (r : Run) → code (finished v given r).answer ≢ 0 → (finished v given r).given ≡ []
unfolding finished code
finished_gives v given r =
    cases_option (λ (t : Result). code t.answer ≢ 0 → t.given ≡ []) r.lost (λ n z. absurd (z refl)) (λ c e z. refl)

ended_gives : {b : ℕ} {k : Bank} {Late : Run → Type 0} {t : Result} → Ends b k Late t → code t.answer ≢ 0 → t.given ≡ []
ended_gives (refused_first x h i n) z = refl
ended_gives (refused_late x r h i l) z = refl
ended_gives (ran v given r) z = finished_gives v given r z
ended_gives (looked i d) z = refl

-- a call that is not done gives nothing
pub not_done_gives : (c : Call) (k : Bank) → code (call_bank c k).answer ≢ 0 → (call_bank c k).given ≡ []
not_done_gives c k z = ended_gives (call_ended c k) z

-- ---- "value (the byte read; .. 0 for the rest and for every code but 0)"

pub refused_value : (x : Answer) → code x ≢ 0 → value x ≡ 0
unfolding code value
refused_value (Done v) z = absurd (z refl)
refused_value Malformed z = refl
refused_value OutOfRange z = refl
refused_value (WrongState b) z = refl
refused_value (CountersFull b) z = refl
refused_value (ReplayDiffers b) z = refl
refused_value (OwnerNotUp b) z = refl
refused_value (LogFull b) z = refl
refused_value (PowerLost b) z = refl
refused_value WrongCells z = refl
refused_value HasRecords z = refl
refused_value (Compared i b) z = absurd (z refl)
refused_value SameBoard z = refl

finished_value : (v : ℕ) (given : List ℕ) (r : Run) → v ≡ 0 → value (finished v given r).answer ≡ 0
unfolding finished value
finished_value v given r e = cases_option (λ (t : Result). value t.answer ≡ 0) r.lost (λ n. e) (λ c l. refl)

-- an access without a value of its own
module _ (b : ℕ) (a : Access) (rest : (fs : List Frame) → value_of a fs ≡ 0) where
  abbrev Zero : Result → Type 0
  Zero t = value t.answer ≡ 0

  live_value : (r : Run) → Zero (live b a r)
  unfolding performed
  live_value r =
      let fs : List Frame = (board_at (prepared b a r).bank b).working.frames in
      live_cases Zero b a r (λ x h i. refused_value x (λ e. omega arith))
      (finished_value (value_of a fs) (given_of a fs) (step (access b a) (prepared b a r)) (rest fs))

  pub access_value : (k : Bank) → value (access_bank b a k).answer ≡ 0
  unfolding value
  access_value k =
      let taken : Bank = on_board b took_due k in
      let fs : List Frame = (board_at taken b).working.frames in
      access_cases Zero b a k
      (λ x h i. refused_value x (λ e. omega arith))
      (λ d t.
      replaying_cases Zero b a k (λ l. live_value (after_replay b k)) (λ c l. refl)
      (finished_value (value_of a fs) (given_of a fs) (end_if_over b (start (on_board b (replayed a) taken))) (rest fs)))
      (λ d t. live_value (start k))

-- ---- code 0 has one form: a value, or a place and the taker

abbrev DoneWith : (ℕ → ℕ → Answer) → Result → Type 0
DoneWith form t = code t.answer ≡ 0 → t.answer ≡ form (value t.answer) (who t.answer)

finished_form : (v : ℕ) (given : List ℕ) (r : Run) → DoneWith (λ v w. Done v) (finished v given r)
unfolding finished code value
finished_form v given r = cases_option (DoneWith (λ v w. Done v)) r.lost (λ n e. refl) (λ c l e. never (omega arith))

refused_form : (form : ℕ → ℕ → Answer) (x : Answer) (r : Run) → 2 ≤ code x → DoneWith form (record { answer = x; run = r; given = [] })
refused_form form x r h e = absurd (omega arith)

pub access_done_form : (b : ℕ) (a : Access) (k : Bank) → code (access_bank b a k).answer ≡ 0
    → (access_bank b a k).answer ≡ Done (value (access_bank b a k).answer)
unfolding performed code
access_done_form b a k =
    let P : Result → Type 0 = DoneWith (λ v w. Done v) in
    let lives : (r : Run) → P (live b a r) =
    λ r. live_cases P b a r (λ x h i. refused_form (λ v w. Done v) x r (omega arith)) (finished_form _ _ (step (access b a) (prepared b a r))) in
    access_cases P b a k
    (λ x h i. refused_form (λ v w. Done v) x (start k) h)
    (λ d t.
    replaying_cases P b a k (λ l. lives (after_replay b k)) (λ c l e. never (omega arith))
    (finished_form _ _ (end_if_over b (start (on_board b (replayed a) (on_board b took_due k))))))
    (λ d t. lives (start k))

plain_form : (k : Bank) (b : ℕ) (out wrong : Bool) (v : ℕ) (r : Run)
    → DoneWith (λ v w. Done v) (unless ((out, OutOfRange) ∷ (wrong, WrongState b) ∷ []) (start k) (finished v [] r))
plain_form k b out wrong v r =
    plain_cases (DoneWith (λ v w. Done v)) k b out wrong (finished v [] r)
    (λ x h i. refused_form (λ v w. Done v) x (start k) h)
    (λ t u. finished_form v [] r)

pub done_form : (c : Call) (k : Bank) → code (call_bank c k).answer ≡ 0
    → (call_bank c k).answer ≡ done_as c (value (call_bank c k).answer) (who (call_bank c k).answer)
unfolding call_bank done_as checkpoint_bank fuse_bank restart_bank code value who
done_form (Accessing b a) k e = access_done_form b a k e
done_form (Checkpointing b) k e = plain_form k b _ _ 0 (checkpoint b (start k)) e
done_form (Fusing b n) k e = plain_form k b _ _ 0 (step (fuse_board b n) (start k)) e
done_form (Restarting b) k e = plain_form k b _ _ _ (end_if_over b (start (on_board b (λ x. used_up (loaded x)) k))) e
done_form (Comparing b c) k e =
    compare_cases (DoneWith Compared) b c k (λ x h i. refused_form Compared x (start k) h) (λ i d f. refl) e
