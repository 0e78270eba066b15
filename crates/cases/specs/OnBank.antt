-- Scripts run on bytes answer as scripts run on the bank: the codec and the laws of well-formedness let the tables be computed without bytes. Assumes nothing.
use Rattle.std.specs.Prelude.{◌≡◌, refl, ℕ, Bool, ◌&&◌, List, [], ◌∷◌, length}
use Rattle.std.proofs.Common.{ap, ap₂, ◌∙◌, lt-ltb, le-leb, eq-eqb}
use Rattle.std.proofs.lemmas.List.{length-replicate}
use Rattle.words.specs.Bytes.{Each}
use Rattle.types.specs.declared.Answer.TheVariants.{Done}
use Rattle.model.specs.Definitions.Parts.{zeros, every}
use Rattle.model.specs.Definitions.Layout.{bank_size, most_boards, most_pages}
use Rattle.model.specs.Definitions.Bank.{Bank, board_at, fresh}
use Rattle.model.specs.Definitions.Codec.{encode, decode}
use Rattle.model.specs.Definitions.WellFormed.{WellFormed, SizesOk}
use Rattle.model.specs.Definitions.Calls.{Call, Reply, call_bank, reply_of, call, make}
use Rattle.model.specs.Definitions.Answers.{code, value, who}
use Rattle.model.proofs.Laws.Lists.{each_head, each_tail}
use Rattle.model.proofs.Laws.Fresh.{fresh_well_formed}
use Rattle.model.specs.History.Statement.{History, no_history, System, begin, access_of, zero_memory}
use Rattle.model.proofs.History.Tests.{premise_for, one_memory_test, repeat_for, grants_for, premise_test, claim_test, premises_test, claims_test}
use Rattle.model.specs.History.Banks.{system_of, history_after, grants_after}
use Rattle.model.proofs.History.OnBytes.{decoded, call_encode, after_system, begin_system}
use Rattle.cases.specs.Running.{leaves_on, passes_on, passes_fresh, premises_on, claims_on}
use Rattle.cases.specs.Table.{Line, Left, Anything, Digest, RecoveryPoint, Script, agrees, leaves, passes_lines, passes_made, passes}
use Rattle.model.proofs.Laws.Moves.Calls.{call_keeps}

-- ---- the table of answers

leaves_bank : (left : Left) (k : Bank) → WellFormed k → leaves left (encode k) ≡ leaves_on left k
unfolding leaves leaves_on
leaves_bank Anything k w = refl
leaves_bank (Digest d) k w = refl
leaves_bank (RecoveryPoint b n) k w = rw (decoded k w)

passes_bank : (ls : List Line) (left : Left) (k : Bank) → WellFormed k → passes_lines ls left (encode k) ≡ passes_on ls left k
unfolding passes_lines passes_on reply_of
passes_bank [] left k w = leaves_bank left k w
passes_bank (l ∷ ls) left k w =
    rw (call_encode l.asks k w)
    (ap (λ (t : Bool). agrees l.prints (record { answer = (call_bank l.asks k).answer; stores = (call_bank l.asks k).run.stores }) && t)
    (passes_bank ls left (call_bank l.asks k).run.bank (call_keeps l.asks k w)))

-- a bank made in a buffer of its length
made : (n p : ℕ) → SizesOk n p
    → make n p (zeros (bank_size n p)) ≡ record { outcome = record { answer = Done 0; stores = 0 }; bytes = encode (fresh n p); given = [] }
unfolding make zeros
made n p s =
    cc (
      lt-ltb 0 n s.some_board,
      le-leb n most_boards s.boards,
      lt-ltb 0 p s.some_page,
      le-leb p most_pages s.pages,
      eq-eqb (length (zeros (bank_size n p))) (bank_size n p) (length-replicate (bank_size n p) 0),
    )

pub passes_fresh_lem : (c : Script) → SizesOk c.boards c.pages → passes c ≡ passes_fresh c
unfolding passes passes_fresh passes_made agrees code value who
passes_fresh_lem c s =
    rw (made c.boards c.pages s)
    (passes_bank c.lines c.left (fresh c.boards c.pages)
    (fresh_well_formed c.boards c.pages s.some_board s.boards s.some_page s.pages))

-- a table of scripts
pub every_fresh : (cs : List Script) → Each (λ c. SizesOk c.boards c.pages) cs → every passes cs ≡ every passes_fresh cs
unfolding every
every_fresh [] s = refl
every_fresh (c ∷ cs) s = rw (passes_fresh_lem c (each_head s), every_fresh cs (each_tail s))

-- ---- premise and claim

premise_bank : (c : Call) (k : Bank) (h : History) (granted : ℕ → ℕ) → WellFormed k
    → premise_test c (system_of k h granted) ≡ premise_for (call_bank c k).answer (λ b. (board_at k b).state) h (access_of c)
unfolding premise_test system_of reply_of
premise_bank c k h granted w = rw (call_encode c k w, decoded k w)

pub premises_bank : (cs : List Call) (k : Bank) (h : History) (granted : ℕ → ℕ) → WellFormed k → premises_test cs (system_of k h granted) ≡ premises_on cs k h
unfolding premises_test premises_on
premises_bank [] k h granted w = refl
premises_bank (c ∷ cs) k h granted w =
    let v : WellFormed (call_bank c k).run.bank = call_keeps c k w in
    ap₂ (λ (s t : Bool). s && t) (premise_bank c k h granted w)
    (ap (premises_test cs) (after_system c k h granted w v)
    ∙ premises_bank cs (call_bank c k).run.bank (history_after c k h) (grants_after c k granted) v)

claim_bank : (c : Call) (k : Bank) (h : History) (granted : ℕ → ℕ) → WellFormed k → claim_test c (system_of k h granted)
    ≡ (one_memory_test zero_memory (history_after c k h).entries
    && (repeat_for (call_bank c k).answer (call_bank c k).given h (access_of c) && grants_for (call_bank c k).run.bank (grants_after c k granted)))
unfolding claim_test system_of reply_of
claim_bank c k h granted w =
    let v : WellFormed (call_bank c k).run.bank = call_keeps c k w in
    ap
    (λ (t : System).
    one_memory_test zero_memory t.history.entries
    && (repeat_for (call c (encode k)).outcome.answer (call c (encode k)).given h (access_of c) && grants_for (decode t.bytes) t.granted))
    (after_system c k h granted w v)
    ∙ ap₂
    (λ (r : Reply) (j : Bank).
    one_memory_test zero_memory (history_after c k h).entries
    && (repeat_for r.outcome.answer r.given h (access_of c) && grants_for j (grants_after c k granted)))
    (call_encode c k w)
    (decoded (call_bank c k).run.bank v)

pub claims_bank : (cs : List Call) (k : Bank) (h : History) (granted : ℕ → ℕ) → WellFormed k → claims_test cs (system_of k h granted) ≡ claims_on cs k h granted
unfolding claims_test claims_on
claims_bank [] k h granted w = refl
claims_bank (c ∷ cs) k h granted w =
    let v : WellFormed (call_bank c k).run.bank = call_keeps c k w in
    ap₂ (λ (s t : Bool). s && t) (claim_bank c k h granted w)
    (ap (claims_test cs) (after_system c k h granted w v)
    ∙ claims_bank cs (call_bank c k).run.bank (history_after c k h) (grants_after c k granted) v)

-- from a fresh bank
pub premises_fresh : (n p : ℕ) → SizesOk n p → (cs : List Call) → premises_test cs (begin n p) ≡ premises_on cs (fresh n p) no_history
premises_fresh n p s cs =
    ap (premises_test cs) (begin_system n p)
    ∙ premises_bank cs (fresh n p) no_history (λ b. 0) (fresh_well_formed n p s.some_board s.boards s.some_page s.pages)

pub claims_fresh : (n p : ℕ) → SizesOk n p → (cs : List Call) → claims_test cs (begin n p) ≡ claims_on cs (fresh n p) no_history (λ b. 0)
claims_fresh n p s cs =
    ap (claims_test cs) (begin_system n p)
    ∙ claims_bank cs (fresh n p) no_history (λ b. 0) (fresh_well_formed n p s.some_board s.boards s.some_page s.pages)
