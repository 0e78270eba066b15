-- "Codes 1 to 7 change no byte, except that an access ending a replay keeps what the end did"; nor do codes from 10 on (document 02, F-3, F-7). Of every call
-- on any bytes, with the stores that are answered beside. Assumes nothing.
use Rattle.std.specs.Prelude.{◌≡◌, refl, ◌≢◌, ◌⊎◌, ℕ, ◌+◌, ◌≤◌, List, [], ◌∷◌, length, eqb}
use Rattle.std.proofs.Common.{sym, ap, ◌∙◌, inl, inr, arith}
use Rattle.std.proofs.Math.Option.{none}
use Rattle.types.specs.declared.State.TheVariants.{Replaying}
use Rattle.model.specs.Definitions.Layout.{bank_size}
use Rattle.model.specs.Definitions.Bank.{Board, Bank, board_at, entry_at, on_board, on_working}
use Rattle.model.specs.Definitions.Codec.{encode, decode}
use Rattle.model.specs.Definitions.Check.{well_formed, sizes_allowed}
use Rattle.model.specs.Definitions.Answers.{code}
use Rattle.model.specs.Definitions.Steps.{Run, start, step, store, store_all, checkpoint_stores, rested_working, checkpoint, Access}
use Rattle.model.specs.Definitions.Replay.{took_due, settled, settle, end_replay}
use Rattle.model.specs.Definitions.Calls.{Result, finished, refused, Call, Accessing, Checkpointing, Fusing, Restarting, Comparing, call_bank, Reply}
use Rattle.model.specs.Definitions.Calls.{reply_of, call, make}
use Rattle.model.proofs.Laws.WellFormedTest.{well_formed_back}
use Rattle.model.proofs.Laws.Logic.{cases, cases_option}
use Rattle.model.proofs.Laws.Runs.{lost_not, step_none, step_stores, store_cases, follows_none, follows_store_all, length_checkpoint_stores}
use Rattle.model.specs.Laws.Codes.Statement.{OfAccess, board_named, after_replay}
use Rattle.model.proofs.Laws.Codes.{answer_to}
use Rattle.model.proofs.Laws.Codes.Ends.{Ends, refused_first, refused_late, ran, looked, ReplayEnd, LateIn, call_ended}

-- the bytes at entry, and no store made
pub record Kept (s : List ℕ) (y : Reply) : Type 0 where
  pub bytes : y.bytes ≡ s
  pub stores : y.outcome.stores ≡ 0

-- what the end of board b's replay left, and its stores
pub record KeptEnd (b : ℕ) (k : Bank) (y : Reply) : Type 0 where
  pub bytes : y.bytes ≡ encode (after_replay b k).bank
  pub stores : y.outcome.stores ≡ (after_replay b k).stores
  pub lost : (after_replay b k).lost ≡ none

-- the codes that refuse a call
abbrev pub Refuses : ℕ → Type 0
Refuses n = ((1 ≤ n) × (n ≤ 7)) ⊎ (10 ≤ n)

-- ==== on a bank

-- a call that ran answers 0 or 8
ran_code : {X : Type 0} (v : ℕ) (given : List ℕ) (r : Run) → Refuses (code (finished v given r).answer) → X
unfolding finished code
ran_code {X} v given r =
    cases_option (λ (t : Result). Refuses (code t.answer) → X) r.lost
    (λ n u. elim u [ inl h ↦ absurd (omega (arith, h.0)) | inr h ↦ absurd (omega arith) ])
    (λ b e u. elim u [ inl h ↦ absurd (omega (arith, h.1)) | inr h ↦ absurd (omega arith) ])

-- refused before a replay could end, or not by a replaying board: the call ends as it began
kept_run : (b : ℕ) (k : Bank) (Late : Run → Type 0) (t : Result) → ((r : Run) → Late r → (board_at k b).state ≡ Replaying) → Ends b k Late t
    → Refuses (code t.answer) → (code t.answer ≤ 5) ⊎ (10 ≤ code t.answer) ⊎ ((board_at k b).state ≢ Replaying) → t.run ≡ start k
kept_run b k Late t f (refused_first x h i n) p u = refl
kept_run b k Late t f (refused_late x r h i l) p (inl m) = absurd (omega arith)
kept_run b k Late t f (refused_late x r h i l) p (inr (inl m)) = absurd (omega arith)
kept_run b k Late t f (refused_late x r h i l) p (inr (inr m)) = absurd (m (f r l))
kept_run b k Late t f (ran v given r) p u = ran_code v given r p
kept_run b k Late t f (looked i d) p u = refl

-- refused live though the board was replaying: its replay has ended
late_run : (b : ℕ) (k : Bank) (Late : Run → Type 0) (t : Result) → Ends b k Late t
    → 6 ≤ code t.answer → code t.answer ≤ 7 → (board_at k b).state ≡ Replaying → Late t.run
unfolding code
late_run b k Late t (refused_first x h i n) p q e = absurd (n p q e)
late_run b k Late t (refused_late x r h i l) p q e = l
late_run b k Late t (ran v given r) p q e = ran_code v given r (inl (omega arith, q))
late_run b k Late t (looked i d) p q e = absurd (omega arith)

pub late_replaying : (c : Call) (k : Bank) (r : Run) → LateIn c k r → (board_at k (board_named c)).state ≡ Replaying
unfolding OfAccess board_named
late_replaying (Accessing b a) k r l = l.state
late_replaying (Checkpointing b) k r l = absurd l
late_replaying (Fusing b n) k r l = absurd l
late_replaying (Restarting b) k r l = absurd l
late_replaying (Comparing b c) k r l = absurd l

-- ==== on bytes

of_access : {P Q : ℕ → Access → Type 0} (c : Call) → ((b : ℕ) (a : Access) → P b a → Q b a) → OfAccess P c → OfAccess Q c
unfolding OfAccess
of_access (Accessing b a) f l = f b a l
of_access (Checkpointing b) f l = l
of_access (Fusing b n) f l = l
of_access (Restarting b) f l = l
of_access (Comparing b c) f l = l

end_left : (b : ℕ) (k : Bank) (t : Result) → ReplayEnd b k t.run → KeptEnd b k (reply_of t)
unfolding reply_of
end_left b k t l =
    record {
      bytes = ap (λ (r : Run). encode r.bank) l.run;
      stores = ap (λ (r : Run). r.stores) l.run;
      lost = ap (λ (r : Run). r.lost) (sym l.run) ∙ l.lost;
    }

-- refused live after the end of its replay, which stays
pub refusal_after_replay : (c : Call) (s : List ℕ) → 6 ≤ code (answer_to c s) → code (answer_to c s) ≤ 7
    → (board_at (decode s) (board_named c)).state ≡ Replaying → OfAccess (λ b a. KeptEnd b (decode s) (call c s)) c
unfolding call refused reply_of code
refusal_after_replay c s =
    let k : Bank = decode s in
    cases
    (λ (y : Reply).
    6 ≤ code y.outcome.answer → code y.outcome.answer ≤ 7
    → (board_at k (board_named c)).state ≡ Replaying → OfAccess (λ b a. KeptEnd b k y) c)
    (well_formed s)
    (λ w p q e. of_access c (λ b a l. end_left b k (call_bank c k) l) (late_run (board_named c) k (LateIn c k) (call_bank c k) (call_ended c k) p q e))
    (λ w p q e. absurd (omega arith))

-- any other refusal
pub refusal_keeps : (c : Call) (s : List ℕ) → Refuses (code (answer_to c s))
    → (code (answer_to c s) ≤ 5) ⊎ (10 ≤ code (answer_to c s)) ⊎ ((board_at (decode s) (board_named c)).state ≢ Replaying) → Kept s (call c s)
unfolding call refused reply_of start
refusal_keeps c s =
    let k : Bank = decode s in
    cases
    (λ (y : Reply).
    Refuses (code y.outcome.answer)
    → (code y.outcome.answer ≤ 5) ⊎ (10 ≤ code y.outcome.answer) ⊎ ((board_at k (board_named c)).state ≢ Replaying) → Kept s y)
    (well_formed s)
    (λ w p u.
    let e : (call_bank c k).run ≡ start k = kept_run (board_named c) k (LateIn c k) (call_bank c k) (late_replaying c k) (call_ended c k) p u in
    record {
      bytes = ap (λ (r : Run). encode r.bank) e ∙ well_formed_back s w;
      stores = ap (λ (r : Run). r.stores) e;
    })
    (λ w p u. record { bytes = refl; stores = refl })

-- a refused make leaves the buffer untouched
pub make_refusal_keeps : (boards pages : ℕ) (s : List ℕ) → code (make boards pages s).outcome.answer ≢ 0 → Kept s (make boards pages s)
unfolding make refused code
make_refusal_keeps boards pages s =
    let P : Reply → Type 0 = λ (y : Reply). code y.outcome.answer ≢ 0 → Kept s y in
    cases P (sizes_allowed boards pages)
    (λ t.
    cases P (eqb (length s) (bank_size boards pages))
    (λ e n. absurd (n refl))
    (λ e n. record { bytes = refl; stores = refl }))
    (λ t n. record { bytes = refl; stores = refl })

-- ==== how many stores the end of a replay makes: "(P + 2 stores)"

store_count : (b : ℕ) (f : Board → Board) (r : Run) → (store b f r).lost ≡ none → (store b f r).stores ≡ r.stores + 1
store_count b f r n =
    store_cases (λ (q : Run). q.lost ≡ none → q.stores ≡ r.stores + 1) b f r
    (λ c e m. lost_not m e)
    (λ e z m. lost_not m refl)
    (λ e z m. refl)
    n

store_all_count : (b : ℕ) (fs : List (Board → Board)) (r : Run) → (store_all b fs r).lost ≡ none → (store_all b fs r).stores ≡ r.stores + length fs
unfolding store_all
store_all_count b [] r e = omega arith
store_all_count b (f ∷ fs) r e =
    let q : Run = store b f r in
    omega (arith, store_all_count b fs q e, store_count b f r (follows_none (follows_store_all b fs q) e))

pub checkpoint_count : (b : ℕ) (r : Run) → (checkpoint b r).lost ≡ none → (checkpoint b r).stores ≡ r.stores + (length r.bank.directory + 2)
unfolding checkpoint
checkpoint_count b r e =
    let f : Bank → Bank = on_board b (on_working rested_working) in
    let fs : List (Board → Board) = checkpoint_stores (length r.bank.directory) in
    let s : Run = store_all b fs r in
    omega (arith, step_stores f s, store_all_count b fs r (step_none f s e), length_checkpoint_stores (length r.bank.directory))

pub end_stores : (b : ℕ) (k : Bank) → (after_replay b k).lost ≡ none → (after_replay b k).stores ≡ length k.directory + 2
unfolding after_replay end_replay settle step start on_board
end_stores b k e =
    let settle : Bank → Bank = λ j. on_board b (settled (λ p. eqb (entry_at j p).owner b)) j in
    omega (arith, checkpoint_count b (step settle (start (on_board b took_due k))) e)
