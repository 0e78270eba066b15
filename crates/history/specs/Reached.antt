-- The systems that calls reach from a fresh bank under the premise: their bytes stand for a bank of which the invariant and the counters hold, and a call on
-- the bytes is the call on that bank. Assumes nothing.
use Rattle.std.specs.Prelude.{◌≡◌, ℕ, List, [], ◌∷◌}
use Rattle.std.proofs.Common.{sym, subst, ◌∙◌}
use Rattle.std.proofs.Math.Path.{ap}
use Rattle.model.specs.Definitions.Bank.{Bank, fresh}
use Rattle.model.specs.Definitions.Codec.{encode, decode}
use Rattle.model.specs.Definitions.WellFormed.{SizesOk}
use Rattle.model.specs.Definitions.Calls.{Call, call_bank, Reply, call, reply_of}
use Rattle.model.specs.History.Statement.{no_history, System, begin, after, Premise, Premises, after_seen, PremiseSeen, PremisesSeen, run_of, made}
use Rattle.history.specs.Invariant.{Invariant, nobody}
use Rattle.history.specs.Moves.{PremiseOn, call_invariant}
use Rattle.history.specs.Begins.{fresh_invariant}
use Rattle.history.specs.Recovery.{Counted, fresh_counted, call_counted}
use Rattle.model.specs.History.Banks.{history_after}
use Rattle.model.proofs.History.OnBytes.{decoded, call_encode}
use Rattle.model.specs.History.ReplayEndsStatement.{answer_in, after_all, Reached}
use Rattle.model.proofs.Laws.Moves.Calls.{call_keeps}

-- the bytes stand for a bank of which the invariant holds
pub record Stands (t : System) : Type 0 where
  pub bytes : encode (decode t.bytes) ≡ t.bytes
  pub invariant : Invariant nobody (decode t.bytes) t.history
  pub counted : Counted (decode t.bytes)

module _ (t : System) (s : Stands t) where
  abbrev bank : Bank
  bank = decode t.bytes

  call_is : (c : Call) → call c t.bytes ≡ reply_of (call_bank c bank)
  call_is c = ap (call c) (sym s.bytes) ∙ call_encode c bank s.invariant.formed

  pub answer_is : (c : Call) → answer_in c t ≡ (call_bank c bank).answer
  unfolding reply_of
  answer_is c = ap (λ (y : Reply). y.outcome.answer) (call_is c)

  bytes_is : (c : Call) → (after c t).bytes ≡ encode (call_bank c bank).run.bank
  unfolding after_seen reply_of
  bytes_is c = ap (λ (y : Reply). y.bytes) (call_is c)

  pub bank_is : (c : Call) → decode (after c t).bytes ≡ (call_bank c bank).run.bank
  unfolding after_seen reply_of
  bank_is c = rw (call_is c) (decoded (call_bank c bank).run.bank (call_keeps c bank s.invariant.formed))

  history_is : (c : Call) → (after c t).history ≡ history_after c bank t.history
  unfolding after_seen history_after reply_of
  history_is c = rw (call_is c, decoded (call_bank c bank).run.bank (call_keeps c bank s.invariant.formed))

  premise_on : (c : Call) → Premise c t → PremiseOn c bank t.history
  unfolding PremiseSeen
  premise_on c p b a e n d r m = p b a e n (rw (answer_is c) d) r m

  pub stands_after : (c : Call) → Premise c t → Stands (after c t)
  stands_after c p =
      record {
        bytes = ap encode (bank_is c) ∙ sym (bytes_is c);
        invariant = rw (bank_is c, history_is c) (call_invariant c bank s.invariant (premise_on c p));
        counted = rw (bank_is c) (call_counted c bank s.invariant.formed s.counted);
      }

-- any list of calls that keeps the premise
pub stands_all : (cs : List Call) (t : System) → Stands t → Premises cs t → Stands (after_all cs t)
unfolding after_all Premises PremisesSeen run_of after_seen
stands_all [] t s p = s
stands_all (c ∷ cs) t s p = stands_all cs (after c t) (stands_after t s c p.0) p.1

stands_begin : (n p : ℕ) → SizesOk n p → Stands (begin n p)
unfolding made
stands_begin n p s =
    let i : Invariant nobody (fresh n p) no_history = fresh_invariant n p s in
    let d : decode (encode (fresh n p)) ≡ fresh n p = decoded (fresh n p) i.formed in
    record { bytes = ap encode d; invariant = rw d i; counted = rw d (fresh_counted n p) }

pub stands_reached : {n p : ℕ} {t : System} → SizesOk n p → Reached n p t → Stands t
stands_reached {n} {p} s r = subst Stands r.system (stands_all r.calls (begin n p) (stands_begin n p s) r.premises)
