-- The history is stated over bytes and proved over banks: a call on the bytes of a well-formed bank is the call on the bank. Assumes nothing.
use Rattle.std.specs.Prelude.{◌≡◌, refl, ℕ, List, eqb, length}
use Rattle.types.specs.declared.Answer.TheVariants.{Done}
use Rattle.std.proofs.Common.{arith}
use Rattle.model.specs.Definitions.Layout.{bank_size}
use Rattle.model.specs.Definitions.Calls.{make, refused, Reply}
use Rattle.model.proofs.Laws.Logic.{cases}
use Rattle.model.specs.Definitions.Bank.{Bank, fresh}
use Rattle.model.specs.Definitions.Codec.{encode, decode}
use Rattle.model.specs.Definitions.WellFormed.{WellFormed}
use Rattle.model.specs.Definitions.Check.{sizes_allowed}
use Rattle.model.specs.Definitions.Calls.{Call, call_bank, reply_of, call}
use Rattle.model.proofs.Laws.CodecBank.{decode_encode}
use Rattle.model.proofs.Laws.WellFormedTest.{well_formed_complete, fields_of}
use Rattle.model.specs.History.Statement.{History, no_history, begin, after, after_seen, made}
use Rattle.model.specs.History.Banks.{system_of, history_after, grants_after}

pub decoded : (k : Bank) → WellFormed k → decode (encode k) ≡ k
decoded k w = decode_encode k (fields_of k w)

-- every call keeps apart what it answers and the bank that it leaves; on bytes that is the bank's encoding
pub call_encode : (c : Call) (k : Bank) → WellFormed k → call c (encode k) ≡ reply_of (call_bank c k)
unfolding call
call_encode c k w = cc (well_formed_complete k w, decoded k w)

pub after_system : (c : Call) (k : Bank) (h : History) (granted : ℕ → ℕ) → WellFormed k → WellFormed (call_bank c k).run.bank
    → after c (system_of k h granted) ≡ system_of (call_bank c k).run.bank (history_after c k h) (grants_after c k granted)
unfolding after_seen system_of history_after grants_after reply_of
after_system c k h granted w v = rw (call_encode c k w, decoded k w, decoded (call_bank c k).run.bank v)

pub begin_system : (n p : ℕ) → begin n p ≡ system_of (fresh n p) no_history (λ b. 0)
unfolding made system_of
begin_system n p = refl

-- where it begins: the bytes that a make answered Done leaves, whatever they were before
pub make_begins : (n p : ℕ) (s : List ℕ) (v : ℕ) → (make n p s).outcome.answer ≡ Done v → (make n p s).bytes ≡ (begin n p).bytes
unfolding make refused made
make_begins n p s v h =
    let P : Reply → Type 0 = λ r. r.outcome.answer ≡ Done v → r.bytes ≡ encode (fresh n p) in
    cases P (sizes_allowed n p)
    (λ _.
    cases P (eqb (length s) (bank_size n p))
    (λ _ _. refl)
    (λ _ e. let z : ◌≡◌ {A = ℕ} 0 1 = cc in absurd (omega arith)))
    (λ _ e. let z : ◌≡◌ {A = ℕ} 0 1 = cc in absurd (omega arith))
    h
