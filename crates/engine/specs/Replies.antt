-- What a call replies, once its tests are known, one law for each way through it; and the contract from such a law. Assumes nothing.
use Rattle.std.specs.Prelude.{◌≡◌, ℕ, ◌+◌, ◌≤◌, Bool, true, false, ◌&&◌, List, [], length, Err, ltb}
use Rattle.std.specs.declared.result.Result.{Result as Checked}
use Rattle.std.proofs.Common.{sym, ◌∙◌, arith, lt-ltb}
use Rattle.std.proofs.Math.Path.{ap}
use Rattle.types.specs.declared.State.{State}
use Rattle.types.specs.declared.Answer.{Answer}
use Rattle.types.specs.declared.Answer.TheVariants.{Done, Malformed, OutOfRange, WrongState}
use Rattle.types.specs.declared.Outcome.{Outcome}
use Rattle.model.specs.Definitions.Layout.{no_fuse}
use Rattle.model.specs.Definitions.Bank.{Bank, board_at}
use Rattle.model.specs.Definitions.Codec.{encode, decode}
use Rattle.model.specs.Definitions.WellFormed.{is_up, is_down}
use Rattle.model.specs.Definitions.Check.{well_formed}
use Rattle.model.specs.Definitions.Steps.{Run, start, step, fuse_board, checkpoint, Read, Write, ReadCells}
use Rattle.model.specs.Definitions.Calls.{Result, first_given, unless, finished, access_in_range, refusals_within, access_within, checkpoint_bank, fuse_bank}
use Rattle.model.specs.Definitions.Calls.{restart_bank, compare_bank, Call, Accessing, Checkpointing, Fusing, Restarting, Comparing, call_bank, Reply, refused}
use Rattle.model.specs.Definitions.Calls.{done_with, reply_of, call}
use Rattle.model.proofs.Laws.WellFormedTest.{well_formed_back}
use Rattle.model.specs.Laws.Codes.Statement.{board_named}
use Rattle.model.proofs.Laws.FewStores.{call_few}
use Rattle.model.specs.Clauses.{most_stores}
use Rattle.exchange.specs.Progress.{lost_by, Came}
use Rattle.accesses.specs.Results.{ended_as}
use Rattle.engine.specs.Clauses.{Replied}
use Rattle.checks.specs.declared.refusal.Refusal.{Refusal}
use Rattle.checks.specs.Refusals.{refusal_answer, outcome_of}
use Rattle.checks.specs.Findings.{OnBoard, finding_of, refused_says}

-- ---- the contract of a call, from its reply

-- its second half follows from the first
pub replied_few : (c : Call) (s : List ℕ) {o : Outcome} {t : List ℕ} → Replied (call c s) o t → Replied (call c s) o t × (o.stores ≤ most_stores)
replied_few c s h = (h, rw h.0 (call_few c s))

-- what a call answers, refused or not
pub answered_replied : (c : Call) (s : List ℕ) (r : Checked Outcome Refusal) {o : Outcome} {t : List ℕ} → o ≡ outcome_of r → Replied (call c s) (outcome_of r) t
    → Replied (call c s) o t × (o.stores ≤ most_stores)
answered_replied c s r e h = replied_few c s (rw e h)

-- a refusal: no store, the bytes as they were
pub refused_replied : {y : Reply} {a : Answer} {o : Outcome} {s : List ℕ} → y ≡ refused a s → o ≡ record { answer = a; stores = 0 }
    → Replied y o s × (o.stores ≤ most_stores)
unfolding refused
refused_replied e q = ((rw (e, q), rw e), rw q (omega arith))

-- a call that ran to its end without a store, and what it left
pub left_replied : {y : Reply} {s t : List ℕ} → y ≡ done_with t → s ≡ t → Replied y (record { answer = Done 0; stores = 0 }) s × (0 ≤ most_stores)
left_replied e q = ((rw e, rw (e, q)), omega arith)

-- the bytes of a bank
abbrev pub done : Bank → Reply
done k = done_with (encode k)

pub done_replied : {y : Reply} {s : List ℕ} (k : Bank) → y ≡ done k → s ≡ encode k
    → Replied y (record { answer = Done 0; stores = 0 }) s × (0 ≤ most_stores)
done_replied k e q = left_replied e q

-- ---- on a bank

module _ (b : ℕ) (k : Bank) where
  checkpoint_wrong : ltb b (length k.boards) ≡ true → is_up (board_at k b).state ≡ false
      → checkpoint_bank b k ≡ record { answer = WrongState b; run = start k; given = [] }
  unfolding checkpoint_bank unless first_given
  checkpoint_wrong h u = cc

  checkpoint_ran : ltb b (length k.boards) ≡ true → is_up (board_at k b).state ≡ true → checkpoint_bank b k ≡ finished 0 [] (checkpoint b (start k))
  unfolding checkpoint_bank unless first_given
  checkpoint_ran h u = cc

  module _ (n : ℕ) where
    fuse_out : (ltb b (length k.boards) && ltb n no_fuse) ≡ false → fuse_bank b n k ≡ record { answer = OutOfRange; run = start k; given = [] }
    unfolding fuse_bank unless first_given
    fuse_out h = cc

    fuse_wrong : (ltb b (length k.boards) && ltb n no_fuse) ≡ true → is_down (board_at k b).state ≡ true
        → fuse_bank b n k ≡ record { answer = WrongState b; run = start k; given = [] }
    unfolding fuse_bank unless first_given
    fuse_wrong h d = cc

    fuse_ran : (ltb b (length k.boards) && ltb n no_fuse) ≡ true → is_down (board_at k b).state ≡ false
        → fuse_bank b n k ≡ record { answer = Done 0; run = start (fuse_board b n k); given = [] }
    unfolding fuse_bank unless first_given finished step start
    fuse_ran h d = cc

-- ---- a run of stores of one board that ends a call

finished_ended : (v b : ℕ) (t : Bool) (r : Run) → lost_by b t ≡ r.lost → record { answer = ended_as v b t; run = r; given = [] } ≡ finished v [] r
unfolding ended_as lost_by finished
finished_ended v b true r e = cc
finished_ended v b false r e = cc

-- ---- on bytes

-- "1: not well formed"
call_malformed : (c : Call) (s : List ℕ) → well_formed s ≡ false → call c s ≡ refused Malformed s
unfolding call
call_malformed c s v = cc

module _ (s : List ℕ) (v : well_formed s ≡ true) where
  pub call_bank_lem : (c : Call) → call c s ≡ reply_of (call_bank c (decode s))
  unfolding call
  call_bank_lem c = cc

  -- the bytes as they were
  pub refusal : (a : Answer) → reply_of (record { answer = a; run = start (decode s); given = [] }) ≡ refused a s
  unfolding reply_of refused start
  refusal a = rw (well_formed_back s v)

  -- a way through a call that ends in a refusal
  pub call_refused : (c : Call) (a : Answer) → call_bank c (decode s) ≡ record { answer = a; run = start (decode s); given = [] } → call c s ≡ refused a s
  call_refused c a e = call_bank_lem c ∙ (ap reply_of e ∙ refusal a)

  -- a way through a call that ends otherwise: outcome and bytes are those of its result
  pub ran_replied : (c : Call) {t : List ℕ} {o : Outcome} (r : Result) → call_bank c (decode s) ≡ r
      → t ≡ encode r.run.bank → o.answer ≡ r.answer → o.stores ≡ r.run.stores → Replied (call c s) o t × (o.stores ≤ most_stores)
  unfolding reply_of
  ran_replied c r e b a n = let z : call c s ≡ reply_of r = call_bank_lem c ∙ ap reply_of e in replied_few c s (rw (z, a, n), b ∙ rw z)

  -- a call whose last step was a run of stores of its board
  pub ended_replied : (c : Call) {t : List ℕ} {o : Outcome} (v b m : ℕ) (l : Bool) {r : Run} → call_bank c (decode s) ≡ finished v [] r
      → Came t (0 + m) (lost_by b l) r → (o.answer ≡ ended_as v b l) × (o.stores ≡ m) → Replied (call c s) o t × (o.stores ≤ most_stores)
  ended_replied c v b m l {r} e came o =
      ran_replied c (record { answer = ended_as v b l; run = r; given = [] }) (e ∙ sym (finished_ended v b l r came.lost)) came.bytes o.0
      (omega (arith, o.1, came.stores))

-- "2: board ≥ N", of any call
out_of_bank : (c : Call) (k : Bank) → ltb (board_named c) (length k.boards) ≡ false
    → call_bank c k ≡ record { answer = OutOfRange; run = start k; given = [] }
unfolding board_named call_bank access_in_range refusals_within access_within checkpoint_bank fuse_bank restart_bank compare_bank unless first_given
out_of_bank (Accessing b (Read p o)) k h = cc
out_of_bank (Accessing b (Write p o v)) k h = cc
out_of_bank (Accessing b (ReadCells cells n)) k h = cc
out_of_bank (Checkpointing b) k h = cc
out_of_bank (Fusing b n) k h = cc
out_of_bank (Restarting b) k h = cc
out_of_bank (Comparing b c) k h = cc

-- what every call of a board finds first: where that refuses it, so does the call
pub found_refused : (c : Call) (s : List ℕ) {b : ℕ} → board_named c ≡ b → {e : Checked State Refusal} {a : Refusal} → e ≡ finding_of b s → e ≡ Err a
    → call c s ≡ refused (refusal_answer a) s
found_refused c s {b} own told q =
    refused_says b s told (λ x. call c s ≡ refused (refusal_answer x) s) (call_malformed c s)
    (λ v h. call_refused s v c OutOfRange (out_of_bank c (decode s) (rw own h))) q

pub found_replied : (c : Call) (s : List ℕ) {b : ℕ} → board_named c ≡ b → {e : Checked State Refusal} {a : Refusal} {o : Outcome} → e ≡ finding_of b s
    → e ≡ Err a → o ≡ record { answer = refusal_answer a; stores = 0 } → Replied (call c s) o s × (o.stores ≤ most_stores)
found_replied c s own told q r = refused_replied (found_refused c s own told q) r

-- ---- on the bytes of a bank that has the board

module _ {b : ℕ} {s : List ℕ} {st : State} (on : OnBoard b s st) where
  pub listed : ltb b (length (decode s).boards) ≡ true
  listed = lt-ltb b _ on.inside

  pub checkpoint_refused : is_up st ≡ false → call (Checkpointing b) s ≡ refused (WrongState b) s
  unfolding call_bank
  checkpoint_refused u = call_refused s on.formed (Checkpointing b) (WrongState b) (checkpoint_wrong b (decode s) listed (rw on.state u))

  pub checkpoint_done : is_up st ≡ true → call_bank (Checkpointing b) (decode s) ≡ finished 0 [] (checkpoint b (start (decode s)))
  unfolding call_bank
  checkpoint_done u = checkpoint_ran b (decode s) listed (rw on.state u)

  module _ (n : ℕ) where
    pub fuse_stores : ltb n no_fuse ≡ false → call (Fusing b n) s ≡ refused OutOfRange s
    unfolding call_bank
    fuse_stores h = call_refused s on.formed (Fusing b n) OutOfRange (fuse_out b (decode s) n (rw (listed, h)))

    pub fuse_down : ltb n no_fuse ≡ true → is_down st ≡ true → call (Fusing b n) s ≡ refused (WrongState b) s
    unfolding call_bank
    fuse_down h d = call_refused s on.formed (Fusing b n) (WrongState b) (fuse_wrong b (decode s) n (rw (listed, h)) (rw on.state d))

    pub fuse_done : ltb n no_fuse ≡ true → is_down st ≡ false → call (Fusing b n) s ≡ done (fuse_board b n (decode s))
    unfolding call_bank reply_of start
    fuse_done h d = call_bank_lem s on.formed (Fusing b n) ∙ ap reply_of (fuse_ran b (decode s) n (rw (listed, h)) (rw on.state d))
