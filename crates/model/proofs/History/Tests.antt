-- Premise and claim as executable tests, each proved to mean the same. Assumes nothing.
use Rattle.std.specs.Prelude.{◌≡◌, refl, ◌⊎◌, ℕ, Bool, true, false, ◌&&◌, ◌||◌, not, List, [], ◌∷◌, map, length, eqb, leb}
use Rattle.std.proofs.Common.{sym, ap, ap₂, ◌∙◌, inl, inr, ⊎_elim, arith}
use Rattle.std.proofs.Math.Option.{Option, none, some}
use Rattle.types.specs.declared.State.{State}
use Rattle.types.specs.declared.State.TheVariants.{Replaying}
use Rattle.types.specs.declared.Answer.{Answer}
use Rattle.types.specs.declared.Answer.TheVariants.{Done, Malformed, OutOfRange, WrongState, CountersFull, ReplayDiffers, OwnerNotUp, LogFull, PowerLost}
use Rattle.types.specs.declared.Answer.TheVariants.{WrongCells, HasRecords, Compared, SameBoard}
use Rattle.model.specs.Definitions.Parts.{every_below}
use Rattle.model.specs.Definitions.Bank.{Bank, board_at}
use Rattle.model.specs.Definitions.Codec.{decode}
use Rattle.model.specs.Definitions.WellFormed.{is_replaying}
use Rattle.model.specs.Definitions.Steps.{Access, Read, Write, ReadCells, cells_read, cells_written}
use Rattle.model.specs.Definitions.Replay.{recovery_point}
use Rattle.model.specs.Definitions.Answers.{code}
use Rattle.model.specs.Definitions.Calls.{Call, call}
use Rattle.model.proofs.Laws.Logic.{clash, or_then, then_or}
use Rattle.model.proofs.Laws.Tests.{Says, says_and, says_below, says_le, says_eq, says_replaying}
use Rattle.model.specs.History.Statement.{HistoryEntry, History, System, Memory, zero_memory, byte_in, written, OneMemory, access_of, bytes_seen, next_entry}
use Rattle.model.specs.History.Statement.{after, Premise, RepeatAgrees, GrantsStand, Claim, Premises, Claims, after_seen, PremiseSeen, RepeatSeen}
use Rattle.model.specs.History.Statement.{PremisesSeen, ClaimsSeen, run_of}

-- ---- equality as tests

unfoldable pub same_bytes : List ℕ → List ℕ → Bool
same_bytes [] [] = true
same_bytes [] (c ∷ cs) = false
same_bytes (b ∷ bs) [] = false
same_bytes (b ∷ bs) (c ∷ cs) = eqb b c && same_bytes bs cs

unfoldable pub same_access : Access → Access → Bool
same_access (Read p o) (Read q r) = eqb p q && eqb o r
same_access (Read p o) (Write q r v) = false
same_access (Read p o) (ReadCells bs m) = false
same_access (Write p o v) (Read q r) = false
same_access (Write p o v) (Write q r w) = eqb p q && (eqb o r && eqb v w)
same_access (Write p o v) (ReadCells bs m) = false
same_access (ReadCells bs m) (Read q r) = false
same_access (ReadCells bs m) (Write q r v) = false
same_access (ReadCells bs m) (ReadCells cs n) = same_bytes bs cs && eqb m n

says_same_bytes : (bs cs : List ℕ) → Says (same_bytes bs cs) (bs ≡ cs)
unfolding same_bytes
says_same_bytes [] [] = (λ h. refl, λ e. refl)
says_same_bytes [] (c ∷ cs) = (λ h. clash h refl, λ e. cc)
says_same_bytes (b ∷ bs) [] = (λ h. clash h refl, λ e. cc)
says_same_bytes (b ∷ bs) (c ∷ cs) =
    let both : Says (eqb b c && same_bytes bs cs) ((b ≡ c) × (bs ≡ cs)) = says_and (says_eq b c) (says_same_bytes bs cs) in
    (λ h. ap₂ (λ (x : ℕ) (xs : List ℕ). x ∷ xs) (both.0 h).0 (both.0 h).1, λ e. both.1 (cc, cc))

says_same_access : (a c : Access) → Says (same_access a c) (a ≡ c)
unfolding same_access
says_same_access (Read p o) (Read q r) =
    let both : Says (eqb p q && eqb o r) ((p ≡ q) × (o ≡ r)) = says_and (says_eq p q) (says_eq o r) in
    (λ h. let e = both.0 h in cc, λ e. both.1 (cc, cc))
says_same_access (Read p o) (Write q r v) = (λ h. clash h refl, λ e. cc)
says_same_access (Read p o) (ReadCells bs m) = (λ h. clash h refl, λ e. cc)
says_same_access (Write p o v) (Read q r) = (λ h. clash h refl, λ e. cc)
says_same_access (Write p o v) (ReadCells bs m) = (λ h. clash h refl, λ e. cc)
says_same_access (ReadCells bs m) (Read q r) = (λ h. clash h refl, λ e. cc)
says_same_access (ReadCells bs m) (Write q r v) = (λ h. clash h refl, λ e. cc)
says_same_access (ReadCells bs m) (ReadCells cs n) =
    let both : Says (same_bytes bs cs && eqb m n) ((bs ≡ cs) × (m ≡ n)) = says_and (says_same_bytes bs cs) (says_eq m n) in
    (λ h. let e = both.0 h in cc, λ e. both.1 (cc, cc))
says_same_access (Write p o v) (Write q r w) =
    let all : Says (eqb p q && (eqb o r && eqb v w)) ((p ≡ q) × ((o ≡ r) × (v ≡ w))) = says_and (says_eq p q) (says_and (says_eq o r) (says_eq v w)) in
    (λ h. let e = all.0 h in cc, λ e. all.1 (cc, (cc, cc)))

-- ---- the premise

-- answered 0 or 8
unfoldable pub done_or_lost : Answer → Bool
done_or_lost a = eqb (code a) 0 || eqb (code a) 8

-- whether an access is the entry that it would repeat
unfoldable pub repeats_entry : Access → Option HistoryEntry → Bool
repeats_entry a none = true
repeats_entry a (some e) = same_access e.access a

-- of a call's answer, the boards' states before it, and the history
unfoldable pub premise_for : Answer → (ℕ → State) → History → Option (ℕ × Access) → Bool
premise_for r states h none = true
premise_for r states h (some w) = not (done_or_lost r && is_replaying (states w.0)) || repeats_entry w.1 (next_entry w.0 h)

unfoldable pub premise_test : Call → System → Bool
premise_test c t = premise_for (call c t.bytes).outcome.answer (λ b. (board_at (decode t.bytes) b).state) t.history (access_of c)

-- ---- the claim

unfoldable pub one_memory_test : Memory → List HistoryEntry → Bool
one_memory_test m [] = true
one_memory_test m (e ∷ es) =
    same_bytes e.bytes_read (map (byte_in m) (cells_read e.access)) && one_memory_test (written (cells_written e.access) m) es

unfoldable pub gave_entry : Access → Option HistoryEntry → Answer → List ℕ → Bool
gave_entry a none r given = true
gave_entry a (some e) (Done v) given = same_bytes e.bytes_read (bytes_seen a v given)
gave_entry a (some e) Malformed given = true
gave_entry a (some e) OutOfRange given = true
gave_entry a (some e) (WrongState b) given = true
gave_entry a (some e) (CountersFull b) given = true
gave_entry a (some e) (ReplayDiffers b) given = true
gave_entry a (some e) (OwnerNotUp b) given = true
gave_entry a (some e) (LogFull b) given = true
gave_entry a (some e) (PowerLost b) given = true
gave_entry a (some e) WrongCells given = true
gave_entry a (some e) HasRecords given = true
gave_entry a (some e) (Compared i b) given = true
gave_entry a (some e) SameBoard given = true

unfoldable pub repeat_for : Answer → List ℕ → History → Option (ℕ × Access) → Bool
repeat_for r given h none = true
repeat_for r given h (some w) = gave_entry w.1 (next_entry w.0 h) r given

unfoldable pub grants_for : Bank → (ℕ → ℕ) → Bool
grants_for k granted = every_below (length k.boards) (λ b. leb (granted b) (recovery_point (board_at k b)))

unfoldable pub claim_test : Call → System → Bool
claim_test c t =
    one_memory_test zero_memory (after c t).history.entries
    && (repeat_for (call c t.bytes).outcome.answer (call c t.bytes).given t.history (access_of c)
    && grants_for (decode (after c t).bytes) (after c t).granted)

unfoldable pub premises_test : List Call → System → Bool
premises_test [] t = true
premises_test (c ∷ cs) t = premise_test c t && premises_test cs (after c t)

unfoldable pub claims_test : List Call → System → Bool
claims_test [] t = true
claims_test (c ∷ cs) t = claim_test c t && claims_test cs (after c t)

-- ==== they mean the same

says_or : (a : Bool) {b : Bool} {P Q : Type 0} → Says a P → Says b Q → Says (a || b) (P ⊎ Q)
says_or true p q = (λ h. inl (p.0 refl), λ s. refl)
says_or false p q = (λ h. inr (q.0 h), λ s. ⊎_elim (λ x. clash (p.1 x) refl) (λ y. q.1 y) s)

says_done_or_lost : (a : Answer) → Says (done_or_lost a) ((code a ≡ 0) ⊎ (code a ≡ 8))
unfolding done_or_lost
says_done_or_lost a = says_or (eqb (code a) 0) (says_eq (code a) 0) (says_eq (code a) 8)

-- the entry, if there is one
repeats_entry_some : (a : Access) (o : Option HistoryEntry) (e : HistoryEntry) → o ≡ some e → repeats_entry a o ≡ true → e.access ≡ a
unfolding repeats_entry
repeats_entry_some a none e s h = let z : ◌≡◌ {A = ℕ} 0 1 = cc in absurd (omega arith)
repeats_entry_some a (some f) e s h = let g : f ≡ e = cc in ap (λ (x : HistoryEntry). x.access) (sym g) ∙ (says_same_access f.access a).0 h

repeats_entry_all : (a : Access) (o : Option HistoryEntry) → ((e : HistoryEntry) → o ≡ some e → e.access ≡ a) → repeats_entry a o ≡ true
unfolding repeats_entry
repeats_entry_all a none h = refl
repeats_entry_all a (some e) h = (says_same_access e.access a).1 (h e refl)

premise_for_lem : (c : Call) (t : System) (o : Option (ℕ × Access)) → access_of c ≡ o
    → Says (premise_for (call c t.bytes).outcome.answer (λ b. (board_at (decode t.bytes) b).state) t.history o) (Premise c t)
unfolding premise_for PremiseSeen
premise_for_lem c t none n = (λ h b a e s. let z : ◌≡◌ {A = ℕ} 0 1 = cc in absurd (omega arith), λ h. refl)
premise_for_lem c t (some w) n =
    let r : Answer = (call c t.bytes).outcome.answer in
    let x : State = (board_at (decode t.bytes) w.0).state in
    let both : Says (done_or_lost r && is_replaying x) (((code r ≡ 0) ⊎ (code r ≡ 8)) × (x ≡ Replaying)) = says_and (says_done_or_lost r) (says_replaying x) in (
      λ h b a e s d u f.
          let z : w ≡ (b, a) = cc in
          let zb : w.0 ≡ b = ap (λ (v : ℕ × Access). v.0) z in
          let za : w.1 ≡ a = ap (λ (v : ℕ × Access). v.1) z in
          let g : repeats_entry w.1 (next_entry w.0 t.history) ≡ true =
          or_then (done_or_lost r && is_replaying x) (repeats_entry w.1 (next_entry w.0 t.history)) h (both.1 (d, rw zb u)) in
          repeats_entry_some w.1 (next_entry w.0 t.history) e (rw zb f) g ∙ za,
      λ q.
          then_or (done_or_lost r && is_replaying x) (repeats_entry w.1 (next_entry w.0 t.history))
          (λ h. repeats_entry_all w.1 (next_entry w.0 t.history) (λ e f. q w.0 w.1 e n (both.0 h).0 (both.0 h).1 f)),
    )

pub says_premise : (c : Call) (t : System) → Says (premise_test c t) (Premise c t)
unfolding premise_test
says_premise c t = premise_for_lem c t (access_of c) refl

says_one_memory : (m : Memory) (es : List HistoryEntry) → Says (one_memory_test m es) (OneMemory m es)
unfolding one_memory_test OneMemory
says_one_memory m [] = (λ h. tt, λ h. refl)
says_one_memory m (e ∷ es) =
    says_and (says_same_bytes e.bytes_read (map (byte_in m) (cells_read e.access))) (says_one_memory (written (cells_written e.access) m) es)

gave_entry_some : (a : Access) (o : Option HistoryEntry) (r : Answer) (given : List ℕ) (e : HistoryEntry) (v : ℕ) → o ≡ some e → r ≡ Done v
    → gave_entry a o r given ≡ true → e.bytes_read ≡ bytes_seen a v given
unfolding gave_entry
gave_entry_some a o r given e v s d h =
    let g : same_bytes e.bytes_read (bytes_seen a v given) ≡ true = cc in
    (says_same_bytes e.bytes_read (bytes_seen a v given)).0 g

gave_entry_all : (a : Access) (o : Option HistoryEntry) (r : Answer) (given : List ℕ)
    → ((e : HistoryEntry) (v : ℕ) → o ≡ some e → r ≡ Done v → e.bytes_read ≡ bytes_seen a v given) → gave_entry a o r given ≡ true
unfolding gave_entry
gave_entry_all a none r given h = refl
gave_entry_all a (some e) (Done v) given h = (says_same_bytes e.bytes_read (bytes_seen a v given)).1 (h e v refl refl)
gave_entry_all a (some e) Malformed given h = refl
gave_entry_all a (some e) OutOfRange given h = refl
gave_entry_all a (some e) (WrongState b) given h = refl
gave_entry_all a (some e) (CountersFull b) given h = refl
gave_entry_all a (some e) (ReplayDiffers b) given h = refl
gave_entry_all a (some e) (OwnerNotUp b) given h = refl
gave_entry_all a (some e) (LogFull b) given h = refl
gave_entry_all a (some e) (PowerLost b) given h = refl
gave_entry_all a (some e) WrongCells given h = refl
gave_entry_all a (some e) HasRecords given h = refl
gave_entry_all a (some e) (Compared i b) given h = refl
gave_entry_all a (some e) SameBoard given h = refl

repeat_for_lem : (c : Call) (t : System) (o : Option (ℕ × Access)) → access_of c ≡ o
    → Says (repeat_for (call c t.bytes).outcome.answer (call c t.bytes).given t.history o) (RepeatAgrees c t)
unfolding repeat_for RepeatSeen
repeat_for_lem c t none n = (λ h b a v e s. let z : ◌≡◌ {A = ℕ} 0 1 = cc in absurd (omega arith), λ h. refl)
repeat_for_lem c t (some w) n =
    let r : Answer = (call c t.bytes).outcome.answer in
    let given : List ℕ = (call c t.bytes).given in (
      λ h b a v e s d f.
          let z : w ≡ (b, a) = cc in
          let zb : w.0 ≡ b = ap (λ (v : ℕ × Access). v.0) z in
          let za : w.1 ≡ a = ap (λ (v : ℕ × Access). v.1) z in
          rw za at (gave_entry_some w.1 (next_entry w.0 t.history) r given e v (rw zb f) d h),
      λ q. gave_entry_all w.1 (next_entry w.0 t.history) r given (λ e v f d. q w.0 w.1 v e n d f),
    )

says_repeat : (c : Call) (t : System)
    → Says (repeat_for (call c t.bytes).outcome.answer (call c t.bytes).given t.history (access_of c)) (RepeatAgrees c t)
says_repeat c t = repeat_for_lem c t (access_of c) refl

says_grants : (t : System) → Says (grants_for (decode t.bytes) t.granted) (GrantsStand t)
unfolding grants_for GrantsStand
says_grants t =
    says_below (length (decode t.bytes).boards) (λ b. leb (t.granted b) (recovery_point (board_at (decode t.bytes) b)))
    (λ b l. says_le (t.granted b) (recovery_point (board_at (decode t.bytes) b)))

pub says_claim : (c : Call) (t : System) → Says (claim_test c t) (Claim c t)
unfolding claim_test
says_claim c t =
    let all = says_and (says_one_memory zero_memory (after c t).history.entries) (says_and (says_repeat c t) (says_grants (after c t))) in
    (λ h. let r = all.0 h in record { memory = r.0; repeat = r.1.0; grants = r.1.1 }, λ q. all.1 (q.memory, (q.repeat, q.grants)))

pub says_premises : (cs : List Call) (t : System) → Says (premises_test cs t) (Premises cs t)
unfolding premises_test Premises PremisesSeen run_of after_seen
says_premises [] t = (λ h. tt, λ h. refl)
says_premises (c ∷ cs) t = says_and (says_premise c t) (says_premises cs (after c t))

pub says_claims : (cs : List Call) (t : System) → Says (claims_test cs t) (Claims cs t)
unfolding claims_test Claims ClaimsSeen run_of after_seen
says_claims [] t = (λ h. tt, λ h. refl)
says_claims (c ∷ cs) t = says_and (says_claim c t) (says_claims cs (after c t))
