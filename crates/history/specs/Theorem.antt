-- Demand 3: from a fresh bank of any size, for any list of calls that keeps the premise, the claim holds after every call. Assumes nothing.
use Rattle.std.specs.Prelude.{◌≡◌, ℕ, ◌≤◌, ◌<◌, true, List, [], ◌∷◌, length}
use Rattle.std.proofs.Common.{sym, ap, subst, ◌∙◌, arith}
use Rattle.std.proofs.Math.Option.{some}
use Rattle.types.specs.declared.Answer.TheVariants.{Done}
use Rattle.model.specs.Definitions.Bank.{Bank, board_at, fresh}
use Rattle.model.specs.Definitions.WellFormed.{WellFormed, SizesOk}
use Rattle.model.specs.Definitions.Steps.{Access}
use Rattle.model.specs.Definitions.Replay.{recovery_point}
use Rattle.model.specs.Definitions.Calls.{Call, Accessing, Checkpointing, Fusing, Restarting, Comparing, call_bank, reply_of}
use Rattle.model.specs.History.Statement.{HistoryEntry, History, no_history, zero_memory, OneMemory, begin, access_of, done_event, event_of, bytes_seen, next_entry}
use Rattle.model.specs.History.Statement.{after, Premise, RepeatAgrees, GrantsStand, Claim, Premises, Claims, after_seen, PremiseSeen, RepeatSeen, PremisesSeen}
use Rattle.model.specs.History.Statement.{ClaimsSeen, run_of, made}
use Rattle.history.specs.Invariant.{Invariant, nobody}
use Rattle.history.specs.Moves.{Agrees, PremiseOn, call_invariant, call_repeats}
use Rattle.history.specs.Begins.{fresh_invariant}
use Rattle.history.specs.Recovery.{Counted, fresh_counted, call_counted}
use Rattle.history.specs.Grants.{call_grants}
use Rattle.model.specs.History.Banks.{system_of, history_after, grants_after}
use Rattle.model.proofs.History.OnBytes.{decoded, call_encode, after_system, begin_system}
use Rattle.model.proofs.Laws.Moves.Calls.{call_keeps}
use Rattle.model.specs.Definitions.Check.{well_formed}
use Rattle.model.proofs.Laws.Fresh.{fresh_bytes}
use Rattle.model.proofs.Laws.Clean.{calls_among, seen_among_lem}
use Rattle.model.specs.History.CleanStatement.{seen_among, OneMemoryAmong}

-- ---- one call, on the bank

repeats_agree : (c : Call) (k : Bank) {h : History} → Invariant nobody k h → PremiseOn c k h → (b : ℕ) (a : Access) (v : ℕ) (e : HistoryEntry)
    → access_of c ≡ some (b, a) → (call_bank c k).answer ≡ Done v → next_entry b h ≡ some e → e.bytes_read ≡ bytes_seen a v (call_bank c k).given
unfolding access_of Agrees event_of done_event
repeats_agree (Accessing d x) k q s b a v e z f n =
    let y : ◌≡◌ {A = ℕ × Access} (d, x) (b, a) = cc in
    let yb : d ≡ b = ap (λ (w : ℕ × Access). w.0) y in
    let yx : x ≡ a = ap (λ (w : ℕ × Access). w.1) y in
    call_repeats (Accessing d x) k q s v f e (rw yb n) ∙ ap (λ (w : Access). bytes_seen w v (call_bank (Accessing d x) k).given) yx
repeats_agree (Checkpointing d) k q s b a v e z f n = let y : ◌≡◌ {A = ℕ} 0 1 = cc in absurd (omega arith)
repeats_agree (Fusing d m) k q s b a v e z f n = let y : ◌≡◌ {A = ℕ} 0 1 = cc in absurd (omega arith)
repeats_agree (Restarting d) k q s b a v e z f n = let y : ◌≡◌ {A = ℕ} 0 1 = cc in absurd (omega arith)
repeats_agree (Comparing d m) k q s b a v e z f n = let y : ◌≡◌ {A = ℕ} 0 1 = cc in absurd (omega arith)

-- ---- one call, on bytes

-- what stands between calls
record Stands (k : Bank) (h : History) (granted : ℕ → ℕ) : Type 0 where
  invariant : Invariant nobody k h
  counted : Counted k
  grants : (b : ℕ) → b < length k.boards → granted b ≤ recovery_point (board_at k b)

module _ (c : Call) (k : Bank) (h : History) (granted : ℕ → ℕ) (q : Stands k h granted) (premise : Premise c (system_of k h granted)) where
  formed : WellFormed k
  formed = q.invariant.formed

  formed_after : WellFormed (call_bank c k).run.bank
  formed_after = call_keeps c k formed

  on_bank : PremiseOn c k h
  unfolding PremiseSeen system_of reply_of
  on_bank b a e z d r n =
      premise b a e z (rw (call_encode c k formed) d) (rw (decoded k formed) r) n

  stands_after : Stands (call_bank c k).run.bank (history_after c k h) (grants_after c k granted)
  stands_after =
      record {
        invariant = call_invariant c k q.invariant on_bank;
        counted = call_counted c k formed q.counted;
        grants = call_grants c k granted formed q.counted q.grants;
      }

  memory_now : OneMemory zero_memory (system_of (call_bank c k).run.bank (history_after c k h) (grants_after c k granted)).history.entries
  unfolding system_of
  memory_now = stands_after.invariant.memory

  repeat_now : RepeatAgrees c (system_of k h granted)
  unfolding RepeatSeen system_of reply_of
  repeat_now b a v e z d n =
      rw (call_encode c k formed) (repeats_agree c k q.invariant on_bank b a v e z (rw (call_encode c k formed) at d) n)

  grants_now : GrantsStand (system_of (call_bank c k).run.bank (history_after c k h) (grants_after c k granted))
  unfolding GrantsStand system_of
  grants_now = rw (decoded (call_bank c k).run.bank formed_after) stands_after.grants

  claim_now : Claim c (system_of k h granted)
  claim_now =
      record {
        memory = rw (after_system c k h granted formed formed_after) memory_now;
        repeat = repeat_now;
        grants = rw (after_system c k h granted formed formed_after) grants_now;
      }

-- ---- any list of calls

claims : (cs : List Call) (k : Bank) (h : History) (granted : ℕ → ℕ) → Stands k h granted → Premises cs (system_of k h granted)
    → Claims cs (system_of k h granted)
unfolding Premises PremisesSeen Claims ClaimsSeen run_of after_seen
claims [] k h granted q s = tt
claims (c ∷ cs) k h granted q s =
    let e : after c (system_of k h granted) ≡ system_of (call_bank c k).run.bank (history_after c k h) (grants_after c k granted) =
    after_system c k h granted (formed c k h granted q s.0) (formed_after c k h granted q s.0) in (
      claim_now c k h granted q s.0,
      subst (Claims cs) (sym e)
          (claims cs (call_bank c k).run.bank (history_after c k h) (grants_after c k granted) (stands_after c k h granted q s.0)
          (subst (Premises cs) e s.1)),
    )

-- One memory: any N from 1 to 8, any P from 1 to 16, any list of calls with any numbers, run on the bytes of a fresh bank.
pub one_memory : (n p : ℕ) → SizesOk n p → (cs : List Call) → Premises cs (begin n p) → Claims cs (begin n p)
one_memory n p s cs premises =
    subst (Claims cs) (sym (begin_system n p))
    (claims cs (fresh n p) no_history (λ b. 0)
    (record { invariant = fresh_invariant n p s; counted = fresh_counted n p; grants = λ b l. omega arith })
    (subst (Premises cs) (begin_system n p) premises))

-- The same with cleanings anywhere among the calls (document 02, F-8): they change nothing in a bank that began fresh.
pub one_memory_among : (n p : ℕ) → SizesOk n p → OneMemoryAmong n p
unfolding Premises Claims made
one_memory_among n p s rs premises =
    let v : well_formed (begin n p).bytes ≡ true = fresh_bytes n p s.some_board s.boards s.some_page s.pages in
    let e : seen_among rs (begin n p).bytes ≡ run_of (calls_among rs) (begin n p).bytes = seen_among_lem rs (begin n p).bytes v in
    subst (λ xs. ClaimsSeen xs (begin n p)) (sym e) (one_memory n p s (calls_among rs) (subst (λ xs. PremisesSeen xs (begin n p)) e premises))
