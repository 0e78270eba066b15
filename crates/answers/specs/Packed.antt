-- An outcome as one number, for callers in C: code, who, stores and value, each in its own digits, so that nothing is lost. Assumes nothing.
use Rattle.std.specs.Prelude.{◌≡◌, refl, ℕ, ◌+◌, ◌*◌, ◌/◌, ◌%◌, ◌<◌, true, false, List, [], ◌∷◌, eqb}
use Rattle.std.proofs.Common.{sym, arith, lit<}
use Rattle.types.specs.declared.Answer.{Answer}
use Rattle.types.specs.declared.Answer.TheVariants.{Done, Malformed, OutOfRange, WrongState, CountersFull, ReplayDiffers, OwnerNotUp, LogFull}
use Rattle.types.specs.declared.Answer.TheVariants.{PowerLost, WrongCells, HasRecords, Compared, SameBoard}
use Rattle.types.specs.declared.Outcome.{Outcome}
use Rattle.model.specs.Definitions.Layout.{byte_values}
use Rattle.model.specs.Definitions.Answers.{code, value, who}

-- what each field counts in: code in ones, who in 2^8, stores in 2^16, value in 2^32
abbrev pub who_unit : ℕ
who_unit = 256

abbrev pub stores_unit : ℕ
stores_unit = 65536

abbrev pub value_unit : ℕ
value_unit = 4294967296

unfoldable pub packed : Outcome → ℕ
packed o = code o.answer + who_unit * who o.answer + stores_unit * o.stores + value_unit * value o.answer

-- ---- nothing is lost: the four fields are read back

code_small : (a : Answer) → code a < who_unit
unfolding code
code_small (Done v) = lit< tt
code_small Malformed = lit< tt
code_small OutOfRange = lit< tt
code_small (WrongState b) = lit< tt
code_small (CountersFull b) = lit< tt
code_small (ReplayDiffers b) = lit< tt
code_small (OwnerNotUp b) = lit< tt
code_small (LogFull b) = lit< tt
code_small (PowerLost b) = lit< tt
code_small WrongCells = lit< tt
code_small HasRecords = lit< tt
code_small (Compared i b) = lit< tt
code_small SameBoard = lit< tt

digits_code : (c w s v : ℕ) → c < who_unit → (c + who_unit * w + stores_unit * s + value_unit * v) % who_unit ≡ c
digits_code c w s v h = omega arith

digits_who : (c w s v : ℕ) → c < who_unit → w < byte_values → (c + who_unit * w + stores_unit * s + value_unit * v) / who_unit % byte_values ≡ w
digits_who c w s v h i = omega arith

digits_stores : (c w s v : ℕ) → c < who_unit → w < byte_values → s < stores_unit → (c + who_unit * w + stores_unit * s + value_unit * v) / stores_unit % stores_unit ≡ s
digits_stores c w s v h i j = omega arith

digits_value : (c w s v : ℕ) → c < who_unit → w < byte_values → s < stores_unit → (c + who_unit * w + stores_unit * s + value_unit * v) / value_unit ≡ v
digits_value c w s v h i j = omega arith

-- number r has the four fields of an outcome
pub record ReadBack (r : ℕ) (o : Outcome) : Type 0 where
  pub code_read : r % who_unit ≡ code o.answer
  pub who_read : r / who_unit % byte_values ≡ who o.answer
  pub stores_read : r / stores_unit % stores_unit ≡ o.stores
  pub value_read : r / value_unit ≡ value o.answer

pub packed_back : (o : Outcome) → who o.answer < byte_values → o.stores < stores_unit → ReadBack (packed o) o
unfolding packed
packed_back o h k =
    let a : Answer = o.answer in
    let c : code a < who_unit = code_small a in
    record {
      code_read = digits_code (code a) (who a) o.stores (value a) c;
      who_read = digits_who (code a) (who a) o.stores (value a) c h;
      stores_read = digits_stores (code a) (who a) o.stores (value a) c h k;
      value_read = digits_value (code a) (who a) o.stores (value a) c h k;
    }

-- And the four fields tell the outcome: the answer of a code's row. Code 0 alone has two forms; which one a caller knows by the call (`done`). Every other
-- code reads as PowerLost; no call answers one.
unfoldable pub answer_in : List (ℕ × Answer) → Answer → ℕ → Answer
answer_in [] other c = other
answer_in (r ∷ rs) other c = elim (eqb c r.0) [ true ↦ r.1 | false ↦ answer_in rs other c ]

unfoldable pub answer_of : (ℕ → ℕ → Answer) → ℕ → ℕ → ℕ → Answer
answer_of done c w v =
    answer_in
    ((0, done v w)
    ∷ (1, Malformed)
    ∷ (2, OutOfRange)
    ∷ (3, WrongState w)
    ∷ (4, CountersFull w)
    ∷ (5, ReplayDiffers w)
    ∷ (6, OwnerNotUp w)
    ∷ (7, LogFull w)
    ∷ (10, WrongCells)
    ∷ (11, HasRecords)
    ∷ (12, SameBoard)
    ∷ [])
    (PowerLost w) c

answer_back : (done : ℕ → ℕ → Answer) (a : Answer) → (code a ≡ 0 → a ≡ done (value a) (who a)) → answer_of done (code a) (who a) (value a) ≡ a
unfolding answer_in answer_of code who value
answer_back done (Done v) h = sym (h refl)
answer_back done Malformed h = refl
answer_back done OutOfRange h = refl
answer_back done (WrongState b) h = refl
answer_back done (CountersFull b) h = refl
answer_back done (ReplayDiffers b) h = refl
answer_back done (OwnerNotUp b) h = refl
answer_back done (LogFull b) h = refl
answer_back done (PowerLost b) h = refl
answer_back done WrongCells h = refl
answer_back done HasRecords h = refl
answer_back done (Compared i b) h = sym (h refl)
answer_back done SameBoard h = refl

unfoldable pub unpacked : (ℕ → ℕ → Answer) → ℕ → Outcome
unpacked done n = record { answer = answer_of done (n % who_unit) (n / who_unit % byte_values) (n / value_unit); stores = n / stores_unit % stores_unit }

pub unpacked_back : (done : ℕ → ℕ → Answer) (r : ℕ) (o : Outcome) → ReadBack r o
    → (code o.answer ≡ 0 → o.answer ≡ done (value o.answer) (who o.answer)) → unpacked done r ≡ o
unfolding unpacked
unpacked_back done r o back form =
    rw (back.code_read, back.who_read, back.stores_read, back.value_read, answer_back done o.answer form)
