-- Document 01's table "Codes", with document 02's codes 10 and 12, checked: on any bytes a call answers the code of the first row that holds, and 0 where none
-- does; who and value as the table says. `codes` is the theorem, what follows it reads it code by code. Assumes nothing.
pub mod Order
pub mod Tests
pub mod Needs
pub mod Rows
pub mod Cases
pub mod Ends
pub mod Losses
use Rattle.std.specs.Prelude.{◌≡◌, ◌≢◌, ◌↔◌, ℕ, suc, ◌<◌, Bool, false, ◌&&◌, not, length, eqb, ltb, leb}
use Rattle.std.proofs.Math.Path.{refl, ap}
use Rattle.std.proofs.Common.{inl, inr, arith, eqb-true}
use Rattle.std.proofs.Math.Bool.{true}
use mathlib.Core.List.{List, [], ◌∷◌}
use Rattle.std.proofs.lemmas.Bool.{eqb-false}
use Rattle.types.specs.declared.Answer.{Answer}
use Rattle.types.specs.declared.Answer.TheVariants.{Done, Malformed, OutOfRange, WrongState, CountersFull, ReplayDiffers, OwnerNotUp, LogFull, PowerLost}
use Rattle.types.specs.declared.Answer.TheVariants.{WrongCells, HasRecords, Compared, SameBoard}
use Rattle.model.specs.Definitions.Layout.{most_boards, most_pages, bank_size}
use Rattle.model.specs.Definitions.Bank.{Bank}
use Rattle.model.specs.Definitions.Codec.{decode}
use Rattle.model.specs.Definitions.WellFormed.{WellFormed, WellFormedBytes}
use Rattle.model.specs.Definitions.Check.{well_formed, sizes_allowed}
use Rattle.model.specs.Definitions.Answers.{code, value, who}
use Rattle.model.specs.Definitions.Calls.{Call, call_bank, Reply, refused, reply_of, call, make}
use Rattle.model.proofs.Laws.Logic.{cases, clash}
use Rattle.model.proofs.Laws.WellFormedTest.{well_formed_sound, well_formed_iff}
use Rattle.model.proofs.Laws.Tests.{Says}
use Rattle.model.specs.Laws.Codes.Statement.{Row, First, NoRow, WhoIn, code_in, OfAccess, board_named, NumbersOut, AskedOut, SameTwice, StateOut}
use Rattle.model.specs.Laws.Codes.Statement.{CountersOut}
use Rattle.model.specs.Laws.Codes.Statement.{ReplayOut, OwnerOut, RoomOut, Live, LowestMissing, LowestShort, LosesPower, refusal_rows, bank_rows, table}
use Rattle.model.specs.Laws.Codes.Statement.{SizesOut}
use Rattle.model.specs.Laws.Codes.Statement.{done_as}
use Rattle.model.specs.Laws.Codes.Statement.{LengthOut}
use Rattle.model.proofs.Laws.Codes.Order.{never, fails, refuted, says_not_and, says_not_pos, says_not_le, Judged, by_row, IsDone, judged_nil, judged_past}
use Rattle.model.proofs.Laws.Codes.Order.{no_code, differ, apart, judged_append, judged_code, judged_done, judged_who, judged_value}
use Rattle.model.proofs.Laws.Codes.Rows.{Ran, rows_judged}
use Rattle.model.proofs.Laws.Codes.Losses.{loses_power_lem}
use Rattle.model.proofs.Laws.Codes.Ends.{done_form}

-- ==== all rows

-- code 8 has one form
power_lost_form : (x : Answer) → code x ≡ 8 → x ≡ PowerLost (who x)
unfolding code who
power_lost_form (Done v) e = never (omega arith)
power_lost_form Malformed e = never (omega arith)
power_lost_form OutOfRange e = never (omega arith)
power_lost_form (WrongState b) e = never (omega arith)
power_lost_form (CountersFull b) e = never (omega arith)
power_lost_form (ReplayDiffers b) e = never (omega arith)
power_lost_form (OwnerNotUp b) e = never (omega arith)
power_lost_form (LogFull b) e = never (omega arith)
power_lost_form (PowerLost b) e = refl
power_lost_form WrongCells e = never (omega arith)
power_lost_form HasRecords e = never (omega arith)
power_lost_form (Compared i b) e = never (omega arith)
power_lost_form SameBoard e = never (omega arith)

module _ (c : Call) (k : Bank) (w : WellFormed k) where
  -- row 8 of a call that nothing refused
  loss_judged : Ran (call_bank c k).answer
      → Judged IsDone (record { code = 8; when = (b : ℕ) × LosesPower c k b; who = λ b. LosesPower c k b } ∷ []) (call_bank c k).answer
  unfolding code value First WhoIn code_in
  loss_judged (inl e) =
      judged_past _ (λ u. let f : code (call_bank c k).answer ≡ 8 = ap code ((loses_power_lem c k w u.0).1 u.1) in absurd (omega arith)) (judged_nil e)
  loss_judged (inr e) =
      let f : (call_bank c k).answer ≡ PowerLost (who (call_bank c k).answer) = power_lost_form (call_bank c k).answer e in
      let l : LosesPower c k (who (call_bank c k).answer) = (loses_power_lem c k w (who (call_bank c k).answer)).0 f in
      by_row 0 (who (call_bank c k).answer, l) e l (ap value f)

abbrev pub answer_to : Call → List ℕ → Answer
answer_to c s = (call c s).outcome.answer

is_true : (t : Bool) → ¬ (t ≡ false) → t ≡ true
is_true true n = refl
is_true false n = absurd (n refl)

module _ (c : Call) (s : List ℕ) where
  judged : Judged IsDone (table c s) (answer_to c s)
  unfolding call reply_of refused table bank_rows refusal_rows code who value First WhoIn code_in
  judged =
      let k : Bank = decode s in
      let t : List Row = table c s in
      cases (λ (y : Reply). Judged IsDone t y.outcome.answer) (well_formed s)
      (λ e.
      judged_past _ (λ n. clash e n)
      (judged_append (refusal_rows c k) _ (call_bank c k).answer
      (rows_judged c k (well_formed_sound s e))
      (loss_judged c k (well_formed_sound s e))))
      (λ e. by_row 0 e refl refl refl)

  told : apart (table c s) ≡ true
  unfolding table bank_rows refusal_rows apart no_code differ
  told = refl

  -- CODES: a row's code is answered exactly where it is the first that holds ..
  pub codes : (i : ℕ) → i < length (table c s) → (code (answer_to c s) ≡ code_in (table c s) i) ↔ First (table c s) i
  codes i l = judged_code (table c s) (answer_to c s) told judged i l

  -- .. 0 where none does ..
  pub codes_done : (code (answer_to c s) ≡ 0) ↔ NoRow (table c s)
  codes_done = judged_done (table c s) (answer_to c s) told judged

  -- .. with that row's who ..
  pub codes_who : (i : ℕ) → i < length (table c s) → code (answer_to c s) ≡ code_in (table c s) i → WhoIn (table c s) i (who (answer_to c s))
  codes_who i l e = judged_who (table c s) (answer_to c s) told judged i l e

  -- .. and value "0 .. for every code but 0"
  pub codes_value : code (answer_to c s) ≢ 0 → value (answer_to c s) ≡ 0
  codes_value n = judged_value judged n

  -- ==== the same code by code

  pub code_1 : (code (answer_to c s) ≡ 1) ↔ (well_formed s ≡ false)
  unfolding table bank_rows First code_in
  code_1 = codes 0 (omega arith)

  -- well formed as the clauses of Definitions.WellFormed say
  pub code_1_clauses : (code (answer_to c s) ≡ 1) ↔ (¬ WellFormedBytes s)
  code_1_clauses =
      (λ e w. clash ((well_formed_iff s).1 w) (code_1.0 e), λ n. code_1.1 (refuted (well_formed s) (well_formed_iff s) n))

  -- a code of well-formed bytes: its row holds, and none before it
  refused_by : (i : ℕ) → suc i < length (table c s) → (code (answer_to c s) ≡ code_in (bank_rows c (decode s)) i)
      ↔ ((well_formed s ≡ true) × First (bank_rows c (decode s)) i)
  unfolding table bank_rows First code_in
  refused_by i l =
      let row = codes (suc i) l in
      (λ e. let f = row.0 e in (is_true (well_formed s) f.0, f.1), λ u. row.1 (λ n. clash u.0 n, u.1))

  pub code_2 : (code (answer_to c s) ≡ 2) ↔ ((well_formed s ≡ true) × NumbersOut c (decode s))
  unfolding table bank_rows refusal_rows First code_in
  code_2 = refused_by 0 (omega arith)

  pub code_10 : (code (answer_to c s) ≡ 10) ↔ ((well_formed s ≡ true) × ((¬ NumbersOut c (decode s)) × AskedOut c (decode s)))
  unfolding table bank_rows refusal_rows First code_in
  code_10 = refused_by 1 (omega arith)

  pub code_12 : (code (answer_to c s) ≡ 12) ↔ ((well_formed s ≡ true) × ((¬ NumbersOut c (decode s)) × ((¬ AskedOut c (decode s)) × SameTwice c)))
  unfolding table bank_rows refusal_rows First code_in
  code_12 = refused_by 2 (omega arith)

  pub code_3 : (code (answer_to c s) ≡ 3)
      ↔ ((well_formed s ≡ true) × ((¬ NumbersOut c (decode s)) × ((¬ AskedOut c (decode s)) × ((¬ SameTwice c) × StateOut c (decode s)))))
  unfolding table bank_rows refusal_rows First code_in
  code_3 = refused_by 3 (omega arith)

  pub code_4 : (code (answer_to c s) ≡ 4)
      ↔ ((well_formed s ≡ true) × ((¬ NumbersOut c (decode s)) × ((¬ AskedOut c (decode s)) × ((¬ SameTwice c) × ((¬ StateOut c (decode s))
      × CountersOut c (decode s))))))
  unfolding table bank_rows refusal_rows First code_in
  code_4 = refused_by 4 (omega arith)

  pub code_5 : (code (answer_to c s) ≡ 5)
      ↔ ((well_formed s ≡ true) × ((¬ NumbersOut c (decode s)) × ((¬ AskedOut c (decode s)) × ((¬ SameTwice c) × ((¬ StateOut c (decode s))
      × ((¬ CountersOut c (decode s)) × ReplayOut c (decode s)))))))
  unfolding table bank_rows refusal_rows First code_in
  code_5 = refused_by 5 (omega arith)

  pub code_6 : (code (answer_to c s) ≡ 6)
      ↔ ((well_formed s ≡ true) × ((¬ NumbersOut c (decode s)) × ((¬ AskedOut c (decode s)) × ((¬ SameTwice c) × ((¬ StateOut c (decode s))
      × ((¬ CountersOut c (decode s)) × ((¬ ReplayOut c (decode s)) × OwnerOut c (decode s))))))))
  unfolding table bank_rows refusal_rows First code_in
  code_6 = refused_by 6 (omega arith)

  pub code_7 : (code (answer_to c s) ≡ 7)
      ↔ ((well_formed s ≡ true) × ((¬ NumbersOut c (decode s)) × ((¬ AskedOut c (decode s)) × ((¬ SameTwice c) × ((¬ StateOut c (decode s))
      × ((¬ CountersOut c (decode s)) × ((¬ ReplayOut c (decode s)) × ((¬ OwnerOut c (decode s)) × RoomOut c (decode s)))))))))
  unfolding table bank_rows refusal_rows First code_in
  code_7 = refused_by 7 (omega arith)

  -- board b is answered with code 8 exactly where it was not down before and is down after; then no row before holds
  pub code_8 : (b : ℕ) → ((code (answer_to c s) ≡ 8) × (who (answer_to c s) ≡ b)) ↔ ((well_formed s ≡ true) × LosesPower c (decode s) b)
  unfolding table bank_rows refusal_rows First WhoIn code_in call reply_of code who
  code_8 b = (
    λ u.
        let f = (codes 9 (omega arith)).0 u.0 in
        let l : LosesPower c (decode s) (who (answer_to c s)) = codes_who 9 (omega arith) u.0 in
        (is_true (well_formed s) f.0, rw u.1 at l),
    λ u.
        let w : well_formed s ≡ true = u.0 in
        let e : (call_bank c (decode s)).answer ≡ PowerLost b = (loses_power_lem c (decode s) (well_formed_sound s w) b).1 u.1 in
        let g : answer_to c s ≡ PowerLost b = cc in
        (ap code g, ap who g),
  )

  -- ---- done

  -- code 0 has one form: who is 0 unless two logs were compared
  pub done_as_lem : code (answer_to c s) ≡ 0 → answer_to c s ≡ done_as c (value (answer_to c s)) (who (answer_to c s))
  unfolding call reply_of refused code
  done_as_lem =
      cases
      (λ (y : Reply). code y.outcome.answer ≡ 0 → y.outcome.answer ≡ done_as c (value y.outcome.answer) (who y.outcome.answer))
      (well_formed s)
      (λ e. done_form c (decode s))
      (λ e z. never (omega arith))

  -- ---- who

  pub who_1 : code (answer_to c s) ≡ 1 → who (answer_to c s) ≡ 0
  unfolding table bank_rows WhoIn code_in
  who_1 e = codes_who 0 (omega arith) e

  pub who_2 : code (answer_to c s) ≡ 2 → who (answer_to c s) ≡ 0
  unfolding table bank_rows refusal_rows WhoIn code_in
  who_2 e = codes_who 1 (omega arith) e

  pub who_10 : code (answer_to c s) ≡ 10 → who (answer_to c s) ≡ 0
  unfolding table bank_rows refusal_rows WhoIn code_in
  who_10 e = codes_who 2 (omega arith) e

  pub who_12 : code (answer_to c s) ≡ 12 → who (answer_to c s) ≡ 0
  unfolding table bank_rows refusal_rows WhoIn code_in
  who_12 e = codes_who 3 (omega arith) e

  pub who_3 : code (answer_to c s) ≡ 3 → who (answer_to c s) ≡ board_named c
  unfolding table bank_rows refusal_rows WhoIn code_in
  who_3 e = codes_who 4 (omega arith) e

  pub who_4 : code (answer_to c s) ≡ 4 → who (answer_to c s) ≡ board_named c
  unfolding table bank_rows refusal_rows WhoIn code_in
  who_4 e = codes_who 5 (omega arith) e

  pub who_5 : code (answer_to c s) ≡ 5 → who (answer_to c s) ≡ board_named c
  unfolding table bank_rows refusal_rows WhoIn code_in
  who_5 e = codes_who 6 (omega arith) e

  pub who_6 : code (answer_to c s) ≡ 6 → OfAccess (λ b a. Live (λ j. LowestMissing b a j (who (answer_to c s))) (decode s) b a) c
  unfolding table bank_rows refusal_rows WhoIn code_in
  who_6 e = codes_who 7 (omega arith) e

  pub who_7 : code (answer_to c s) ≡ 7 → OfAccess (λ b a. Live (λ j. LowestShort b a j (who (answer_to c s))) (decode s) b a) c
  unfolding table bank_rows refusal_rows WhoIn code_in
  who_7 e = codes_who 8 (omega arith) e

-- ==== making a bank: 2 before 1

in_sizes : (boards pages : ℕ) → Says (not (sizes_allowed boards pages)) (SizesOut boards pages)
in_sizes boards pages =
    says_not_and (ltb 0 boards) (leb boards most_boards && (ltb 0 pages && leb pages most_pages)) (says_not_pos boards)
    (says_not_and (leb boards most_boards) (ltb 0 pages && leb pages most_pages) (says_not_le boards most_boards)
    (says_not_and (ltb 0 pages) (leb pages most_pages) (says_not_pos pages) (says_not_le pages most_pages)))

-- what making answers
pub record MakeCodes (boards pages : ℕ) (s : List ℕ) (x : Answer) : Type 0 where
  pub code_2 : (code x ≡ 2) ↔ SizesOut boards pages
  pub code_1 : (code x ≡ 1) ↔ ((¬ SizesOut boards pages) × LengthOut boards pages s)
  pub code_0 : (code x ≡ 0) ↔ ((¬ SizesOut boards pages) × (length s ≡ bank_size boards pages))
  pub who : who x ≡ 0
  pub value : value x ≡ 0

pub make_codes : (boards pages : ℕ) (s : List ℕ) → MakeCodes boards pages s (make boards pages s).outcome.answer
unfolding make refused code who value
make_codes boards pages s =
    let d : Says (not (sizes_allowed boards pages)) (SizesOut boards pages) = in_sizes boards pages in
    let P : Reply → Type 0 = λ (y : Reply). MakeCodes boards pages s y.outcome.answer in
    cases P (sizes_allowed boards pages)
    (λ t.
    let n : ¬ SizesOut boards pages = fails d (rw t) in
    cases P (eqb (length s) (bank_size boards pages))
    (λ l.
    let e : length s ≡ bank_size boards pages = eqb-true (length s) (bank_size boards pages) l in
    record {
      code_2 = (λ z. never (omega arith), λ u. absurd (n u));
      code_1 = (λ z. never (omega arith), λ u. absurd (u.1 e));
      code_0 = (λ z. (n, e), λ u. refl);
      who = refl;
      value = refl;
    })
    (λ l.
    let e : length s ≢ bank_size boards pages = eqb-false (length s) (bank_size boards pages) l in
    record {
      code_2 = (λ z. never (omega arith), λ u. absurd (n u));
      code_1 = (λ z. (n, e), λ u. refl);
      code_0 = (λ z. never (omega arith), λ u. absurd (e u.1));
      who = refl;
      value = refl;
    }))
    (λ t.
    let o : SizesOut boards pages = d.0 (rw t) in
    record {
      code_2 = (λ z. o, λ u. refl);
      code_1 = (λ z. never (omega arith), λ u. absurd (u.0 o));
      code_0 = (λ z. never (omega arith), λ u. absurd (u.0 o));
      who = refl;
      value = refl;
    })
