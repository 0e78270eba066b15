-- The tests on entry of an access, as the code makes them, and what each finding says of the call. Assumes nothing.
use Rattle.std.proofs.Math.Path.{◌≡◌, refl}
use Rattle.std.proofs.Common.{sym, ap, ◌∙◌, arith, lt-ltb, ltb-true}
use Rattle.std.specs.Prelude.{◌≢◌, ℕ, ◌<◌, true, false, ◌&&◌, List, [], length, Option, Some, None, unwrap_or, is_some, Ok, Err, ltb}
use Rattle.std.specs.declared.result.Result.{Result as Checked}
use Rattle.std.proofs.Math.Option.{none}
use Rattle.types.specs.declared.State.{State}
use Rattle.types.specs.declared.State.TheVariants.{Replaying}
use Rattle.types.specs.declared.Answer.{Answer}
use Rattle.types.specs.declared.Answer.TheVariants.{OutOfRange, WrongCells, WrongState, CountersFull, ReplayDiffers}
use Rattle.types.specs.declared.Outcome.{Outcome}
use Rattle.model.specs.Definitions.Answers.{code}
use Rattle.model.specs.Definitions.Parts.{every}
use Rattle.model.specs.Definitions.Layout.{byte_values, page_size, last_since}
use Rattle.model.specs.Definitions.Bank.{Board, Bank, board_at}
use Rattle.model.specs.Definitions.Codec.{decode}
use Rattle.model.specs.Definitions.WellFormed.{is_down, is_replaying}
use Rattle.model.specs.Definitions.Steps.{start, Access, Read, Write, cells_asked, cells_read, cells_written}
use Rattle.model.specs.Definitions.Replay.{differs}
use Rattle.model.specs.Definitions.Calls.{Result, first_given, unless, live, replaying, cell_in_range, access_in_range, wrong_cells, counters_full, refusals_within}
use Rattle.model.specs.Definitions.Calls.{access_refusals, access_within, access_bank, refused, Accessing, call_within, call_bank, call}
use Rattle.model.proofs.Laws.Logic.{by_bool, and_left, and_right}
use Rattle.model.proofs.Laws.Keeps.Clauses.{is_replaying_replaying}
use Rattle.model.specs.Clauses.{IsBank}
use Rattle.model.proofs.Laws.Keeps.Entered.{entered_live, entered, fitting}
use Rattle.model.specs.Likeness.{on_value}
use Rattle.exchange.specs.Progress.{running}
use Rattle.accesses.specs.declared.ask.Ask.{Ask}
use Rattle.accesses.specs.Asks.{Stands, Goes, Enters, Asks}
use Rattle.accesses.specs.Results.{Answered}
use Rattle.checks.specs.Findings.{OnBoard}
use Rattle.checks.specs.Admission.{numbers_fit, admission_of}
use Rattle.engine.specs.Replies.{call_refused, listed}
use Rattle.checks.specs.declared.refusal.Refusal.{Refusal}
use Rattle.checks.specs.declared.refusal.Refusal.TheVariants as by
use Rattle.checks.specs.Refusals.{refusal_answer}

-- the access that a value, if one is written, and numbers stand for
abbrev pub read_or_write : Option ℕ → ℕ → ℕ → Access
read_or_write (Some v) p o = Write p o v
read_or_write None p o = Read p o

-- an access that codes 2 and 10 let pass, as an ask and the bytes of its cells say it
pub record WellAsked (pages : ℕ) (a : Access) (q : Ask) (cells : List ℕ) (k : Bank) : Type 0 where
  pub stands : Stands pages a q
  pub reads : cells_read a ≡ cells_asked cells
  pub range : access_in_range q.board a k ≡ true
  pub right : wrong_cells a ≡ false

-- ---- code 2

-- a read's value is any that fits
pub in_range : (w : Option ℕ) (b p o v : ℕ) (k : Bank) → (is_some w ≡ false → v < byte_values) → ltb b (length k.boards) ≡ true
    → access_in_range b (read_or_write w p o) k ≡ numbers_fit (length k.directory) p o (unwrap_or w v)
unfolding access_in_range cells_read cells_written cell_in_range every
in_range (Some v) b p o _ k small h =
    by_bool (ltb p (length k.directory))
    (λ t.
    by_bool (ltb o page_size) (λ u. by_bool (ltb v byte_values) (λ w. rw (h, t, u, w)) (λ w. rw (h, t, u, w))) (λ u. rw (h, t, u)))
    (λ t. rw (h, t))
in_range None b p o v k small h =
    by_bool (ltb p (length k.directory))
    (λ t. by_bool (ltb o page_size) (λ u. rw (h, t, u, lt-ltb v byte_values (small refl))) (λ u. rw (h, t, u)))
    (λ t. rw (h, t))

-- ---- the call, test by test

module _ (b : ℕ) (a : Access) (k : Bank) where
  abbrev x : Board
  x = board_at k b

  pub access_out : access_in_range b a k ≡ false → access_bank b a k ≡ record { answer = OutOfRange; run = start k; given = [] }
  unfolding access_within refusals_within unless first_given
  access_out r = cc

  pub access_wrong : access_in_range b a k ≡ true → wrong_cells a ≡ true → access_bank b a k ≡ record { answer = WrongCells; run = start k; given = [] }
  unfolding access_within refusals_within unless first_given
  access_wrong r w = cc

  module _ (r : access_in_range b a k ≡ true) (w : wrong_cells a ≡ false) where
    pub access_down : is_down x.state ≡ true → access_bank b a k ≡ record { answer = WrongState b; run = start k; given = [] }
    unfolding access_within refusals_within unless first_given
    access_down d = cc

    module _ (d : is_down x.state ≡ false) {m : Checked (Unit {0}) Refusal} (told : m ≡ admission_of b (is_replaying x.state) a x) where
      pub access_refused : {y : Refusal} → m ≡ Err y → access_bank b a k ≡ record { answer = refusal_answer y; run = start k; given = [] }
      unfolding access_within refusals_within unless first_given admission_of
      access_refused {y} e =
          by_bool (counters_full last_since x)
          (λ t.
          let i : y ≡ by.CountersFull b = cc in
          let g : access_bank b a k ≡ record { answer = CountersFull b; run = start k; given = [] } = cc in
          rw (i, g))
          (λ t.
          by_bool (is_replaying x.state && differs a x)
          (λ u.
          let i : y ≡ by.ReplayDiffers b = cc in
          let g : access_bank b a k ≡ record { answer = ReplayDiffers b; run = start k; given = [] } = cc in
          rw (i, g))
          (λ u. let z : ◌≡◌ {A = ℕ} 0 1 = cc in absurd (omega arith)))

      pub access_passes : m ≡ Ok tt → first_given (access_refusals b a k) ≡ none
      unfolding refusals_within first_given admission_of
      access_passes e =
          by_bool (counters_full last_since x)
          (λ t. let z : ◌≡◌ {A = ℕ} 0 1 = cc in absurd (omega arith))
          (λ t. by_bool (is_replaying x.state && differs a x) (λ u. let z : ◌≡◌ {A = ℕ} 0 1 = cc in absurd (omega arith)) (λ u. cc))

  module _ (e : first_given (access_refusals b a k) ≡ none) where
    pub access_repeats : is_replaying x.state ≡ true → access_bank b a k ≡ replaying b a k
    unfolding access_within unless
    access_repeats t = cc

    pub access_live : is_replaying x.state ≡ false → access_bank b a k ≡ live b a (start k)
    unfolding access_within unless
    access_live t = cc

-- ---- an access that codes 2 and 10 let pass: what the code knows when it has made the tests of its block

-- what a refusal answers is no code 0, and stands beside no value
pub refusal_code : (r : Refusal) → code (refusal_answer r) ≢ 0
unfolding code
refusal_code by.Malformed e = omega arith
refusal_code by.OutOfRange e = omega arith
refusal_code (by.WrongState b) e = omega arith
refusal_code (by.CountersFull b) e = omega arith
refusal_code (by.ReplayDiffers b) e = omega arith
refusal_code by.WrongCells e = omega arith
refusal_code by.HasRecords e = omega arith
refusal_code by.SameBoard e = omega arith

refusal_plain : (g : ℕ → ℕ) (r : Refusal) → on_value g (refusal_answer r) ≡ refusal_answer r
unfolding on_value
refusal_plain g by.Malformed = refl
refusal_plain g by.OutOfRange = refl
refusal_plain g (by.WrongState b) = refl
refusal_plain g (by.CountersFull b) = refl
refusal_plain g (by.ReplayDiffers b) = refl
refusal_plain g by.WrongCells = refl
refusal_plain g by.HasRecords = refl
refusal_plain g by.SameBoard = refl

-- a refusal leaves the bytes, and nothing is read
refused_answered : {a : Access} {s out : List ℕ} {o : Outcome} (x : Answer) {t : Result} → on_value (λ v. 0) x ≡ x → code x ≢ 0 → IsBank s
    → t ≡ record { answer = x; run = start (decode s); given = [] } → o ≡ record { answer = x; stores = 0 } → Answered a s o 0 t out
unfolding start
refused_answered x same not ok e q = rw e (record { bytes = sym ok.back; answer = rw q (sym same); stores = rw q; read = λ z. absurd (not z) })

-- of one that is told by its reason
told_answered : {a : Access} {s out : List ℕ} (r : Refusal) {t : Result} → IsBank s
    → t ≡ record { answer = refusal_answer r; run = start (decode s); given = [] } → Answered a s (record { answer = refusal_answer r; stores = 0 }) 0 t out
told_answered r ok e = refused_answered (refusal_answer r) (refusal_plain (λ v. 0) r) (refusal_code r) ok e refl

pub asks_counted : {pages : ℕ} {q : Ask} {s : List ℕ} (boards : ℕ) → Asks (length (decode s).boards) pages q s → boards ≡ length (decode s).boards
    → Asks boards pages q s
asks_counted boards h e = record { bank = h.bank; count = e; formed = h.formed }

module _ {boards pages : ℕ} {q : Ask} {s cells : List ℕ} (h : Asks boards pages q s) {a : Access} (w : WellAsked pages a q cells (decode s))
    {state : State} (is : state ≡ (board_at (decode s) q.board).state) where
  abbrev b : ℕ
  b = q.board

  abbrev k : Bank
  k = decode s

  pub answers_down : {out : List ℕ} → is_down state ≡ true → Answered a s (record { answer = WrongState b; stores = 0 }) 0 (access_bank b a k) out
  answers_down d = told_answered (by.WrongState b) h.bank.bank (access_down b a k w.range w.right (rw (← is) d))

  module _ (power : is_down state ≡ false) {m : Checked (Unit {0}) Refusal} (told : m ≡ admission_of b (is_replaying state) a (board_at k b)) where
    on : is_down (board_at k b).state ≡ false
    on = rw (← is) power

    told_of : m ≡ admission_of b (is_replaying (board_at k b).state) a (board_at k b)
    told_of = told ∙ ap (λ (t : State). admission_of b (is_replaying t) a (board_at k b)) is

    pub answers_refused : {r : Refusal} {out : List ℕ} → m ≡ Err r
        → Answered a s (record { answer = refusal_answer r; stores = 0 }) 0 (access_bank b a k) out
    answers_refused {r} e = told_answered r h.bank.bank (access_refused b a k w.range w.right on told_of e)

    module _ (e : m ≡ Ok tt) where
      none_holds : first_given (access_refusals b a k) ≡ none
      none_holds = access_passes b a k w.range w.right on told_of e

      module _ (t : is_replaying state ≡ true) where
        is_replaying_lem : is_replaying (board_at k b).state ≡ true
        is_replaying_lem = rw (← is) t

        pub replays : (board_at k b).state ≡ Replaying
        replays = is_replaying_replaying (board_at k b).state is_replaying_lem

        pub can_repeat : Enters pages a q k
        can_repeat =
            record {
              stands = w.stands;
              entered = entered b a k h.formed none_holds;
              fits = fitting b a k h.formed none_holds is_replaying_lem;
            }

        pub answers_repeated : {u : List ℕ} {o : Outcome} {out : List ℕ} → Answered a u o 0 (replaying b a k) out → Answered a u o 0 (access_bank b a k) out
        answers_repeated r = rw (access_repeats b a k none_holds is_replaying_lem) r

      module _ (t : is_replaying state ≡ false) where
        is_live : is_replaying (board_at k b).state ≡ false
        is_live = rw (← is) t

        pub can_access : Goes pages a q k
        can_access = record { stands = w.stands; can = entered_live b a k (entered b a k h.formed none_holds) is_live }

        pub answers_live : {u : List ℕ} {o : Outcome} {out : List ℕ} → Answered a u o 0 (live b a (running 0 k)) out → Answered a u o 0 (access_bank b a k) out
        unfolding start
        answers_live r = rw (access_live b a k none_holds is_live) r

-- ---- on the bytes of a bank that has the board

module _ {b : ℕ} {s : List ℕ} {st : State} (on : OnBoard b s st) (a : Access) where
  pub range_refused : access_in_range b a (decode s) ≡ false → call (Accessing b a) s ≡ refused OutOfRange s
  unfolding call_bank call_within
  range_refused h = call_refused s on.formed (Accessing b a) OutOfRange (access_out b a (decode s) h)

  pub cells_refused : access_in_range b a (decode s) ≡ true → wrong_cells a ≡ true → call (Accessing b a) s ≡ refused WrongCells s
  unfolding call_bank call_within
  cells_refused h w = call_refused s on.formed (Accessing b a) WrongCells (access_wrong b a (decode s) h w)

module _ (p o v : ℕ) where
  pub page_fits : (pages : ℕ) → numbers_fit pages p o v ≡ true → p < pages
  page_fits pages h = ltb-true p pages (and_left (ltb p pages) _ h)

  pub offset_fits : (pages : ℕ) → numbers_fit pages p o v ≡ true → o < page_size
  offset_fits pages h = ltb-true o page_size (and_left (ltb o page_size) _ (and_right (ltb p pages) _ h))

pub numbers : (w : Option ℕ) (p o v : ℕ) {b : ℕ} {s : List ℕ} {st : State} → OnBoard b s st → (is_some w ≡ false → v < byte_values)
    → {pages : ℕ} → pages ≡ length (decode s).directory → access_in_range b (read_or_write w p o) (decode s) ≡ numbers_fit pages p o (unwrap_or w v)
numbers w p o v {b} {s} on small e = in_range w b p o v (decode s) small (listed on) ∙ rw e
