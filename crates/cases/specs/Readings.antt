-- That F-9's bound needs its words: it is one of a sum and not of each call, and with fewer events it is false. Computed on the bank (Computed), said over
-- bytes in the statement's own words. Assumes nothing.
use Rattle.std.specs.Prelude.{◌≡◌, ℕ, ◌+◌, ◌*◌, ◌≤◌, ◌<◌, true}
use Rattle.std.proofs.Math.Path.{refl}
use Rattle.std.proofs.Common.{ap, subst, arith, le-leb, ltb-true}
use mathlib.Core.List.{List, [], ◌∷◌}
use Rattle.words.specs.Bytes.{Each}
use Rattle.types.specs.declared.Answer.{Answer}
use Rattle.model.specs.Definitions.Parts.{sum_over}
use Rattle.model.specs.Definitions.Bank.{Bank, fresh}
use Rattle.model.specs.Definitions.Codec.{encode}
use Rattle.model.specs.Definitions.WellFormed.{WellFormed, SizesOk}
use Rattle.model.specs.Definitions.Check.{sizes_allowed}
use Rattle.model.specs.Definitions.Calls.{Call, Reply, call_bank, reply_of}
use Rattle.model.specs.History.Statement.{Observed, run_of, begin, made}
use Rattle.model.specs.History.WearStatement.{events_answered, stores_in, dearest}
use Rattle.model.proofs.History.OnBytes.{call_encode}
use Rattle.model.proofs.Laws.Logic.{and_left, and_right, and_both, clash}
use Rattle.model.proofs.Laws.Lists.{each_head, each_tail, every_each}
use Rattle.model.proofs.Laws.Fresh.{fresh_well_formed, sizes_say}
use Rattle.model.proofs.Laws.Moves.Calls.{call_keeps}
use Rattle.cases.specs.Wear.{stores_on, counted_on, each_within, flush_at_last, Reading, Refuted, refuted, goes_over}
use Rattle.cases.specs.Computed.{one_call_over, go_over, sized}

-- ---- the statement with another reading of events, and call by call

unfoldable pub counted_in : (Call → Answer → ℕ) → List Observed → ℕ
counted_in f xs = sum_over (λ x. f x.asked x.outcome.answer) xs

abbrev pub BoundedBy : Reading → Type 0
BoundedBy reading =
    (n p : ℕ) → SizesOk n p → (cs : List Call)
    → stores_in (run_of cs (begin n p).bytes) ≤ counted_in (reading p) (run_of cs (begin n p).bytes) * dearest n p

abbrev pub BoundedEach : Type 0
BoundedEach =
    (n p : ℕ) → SizesOk n p → (cs : List Call)
    → Each (λ x. x.outcome.stores ≤ events_answered p x.asked x.outcome.answer * dearest n p) (run_of cs (begin n p).bytes)

-- ---- on the bank

module _ (f : Call → Answer → ℕ) where
  counted_bank : (cs : List Call) (k : Bank) → WellFormed k → counted_in f (run_of cs (encode k)) ≡ counted_on f cs k
  unfolding run_of counted_in sum_over counted_on reply_of
  counted_bank [] k w = refl
  counted_bank (c ∷ cs) k w =
      rw (call_encode c k w) (ap (λ (n : ℕ). f c (call_bank c k).answer + n) (counted_bank cs (call_bank c k).run.bank (call_keeps c k w)))

stores_bank : (cs : List Call) (k : Bank) → WellFormed k → stores_in (run_of cs (encode k)) ≡ stores_on cs k
unfolding run_of stores_in sum_over stores_on reply_of
stores_bank [] k w = refl
stores_bank (c ∷ cs) k w =
    rw (call_encode c k w) (ap (λ (n : ℕ). (call_bank c k).run.stores + n) (stores_bank cs (call_bank c k).run.bank (call_keeps c k w)))

each_bank : (n p : ℕ) (cs : List Call) (k : Bank) → WellFormed k
    → Each (λ x. x.outcome.stores ≤ events_answered p x.asked x.outcome.answer * dearest n p) (run_of cs (encode k)) → each_within n p cs k ≡ true
unfolding run_of each_within reply_of
each_bank n p [] k w h = refl
each_bank n p (c ∷ cs) k w h =
    let P : Observed → Type 0 = λ x. x.outcome.stores ≤ events_answered p x.asked x.outcome.answer * dearest n p in
    let seen : Reply → List Observed = λ r. record { asked = c; outcome = r.outcome; bytes = r.bytes; given = r.given } ∷ run_of cs r.bytes in
    let i : Each P (seen (reply_of (call_bank c k))) = subst (λ (r : Reply). Each P (seen r)) (call_encode c k w) h in
    and_both (le-leb _ _ (each_head i)) (each_bank n p cs (call_bank c k).run.bank (call_keeps c k w) (each_tail i))

-- ---- the readings

formed : (n p : ℕ) → SizesOk n p → WellFormed (fresh n p)
formed n p s = fresh_well_formed n p s.some_board s.boards s.some_page s.pages

refutes : (r : Refuted) → goes_over r ≡ true → ¬ BoundedBy r.reading
unfolding goes_over made
refutes r t bounded =
    let n : ℕ = r.boards in
    let p : ℕ = r.pages in
    let s : SizesOk n p = sizes_say n p (and_left (sizes_allowed n p) _ t) in
    let w : WellFormed (fresh n p) = formed n p s in
    let over : counted_on (r.reading p) r.calls (fresh n p) * dearest n p < stores_on r.calls (fresh n p) =
    ltb-true _ _ (and_right (sizes_allowed n p) _ t) in
    let under : stores_on r.calls (fresh n p) ≤ counted_on (r.reading p) r.calls (fresh n p) * dearest n p =
    rw (stores_bank r.calls (fresh n p) w, counted_bank (r.reading p) r.calls (fresh n p) w) at (bounded n p s r.calls) in
    absurd (omega (arith, over, under))

-- Each way to count fewer events makes the bound false: a call on several pages counted once; calls that ended in code 8 left out; accesses, checkpoints or
-- restarts left out.
pub fewer_false : Each (λ r. ¬ BoundedBy r.reading) refuted
fewer_false = every_each goes_over refuted refutes go_over

-- Nor does it hold call by call: what one call stores others may have paid for.
pub each_false : ¬ BoundedEach
unfolding made
each_false bounded =
    let s : SizesOk 2 1 = sizes_say 2 1 sized.0 in
    clash (each_bank 2 1 flush_at_last (fresh 2 1) (formed 2 1 s) (bounded 2 1 s flush_at_last)) one_call_over.0
