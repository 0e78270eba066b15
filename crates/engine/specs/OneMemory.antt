-- Demand 3, F-7's claim, F-8's and F-9's of the code: along any list of calls, whatever outcomes and bytes the contracts allow keep the claim. Premise and
-- claim are said of what a caller sees (History/Statement), the outcomes, the bytes left and the second buffers; the definitions' own reply stands only
-- in the contracts. Assumes nothing.
use Rattle.std.specs.Prelude.{◌≡◌, refl, ℕ, List, [], ◌∷◌, map, length, eqb, false, ◌≢◌}
use Rattle.std.proofs.Common.{sym, ◌∙◌, arith}
use Rattle.std.proofs.Math.Path.{ap, subst}
use Rattle.std.proofs.lemmas.Bool.{eqb-false}
use Rattle.std.proofs.Math.Bool.{true}
use Rattle.types.specs.declared.Answer.{Answer}
use Rattle.types.specs.declared.Answer.TheVariants.{Done}
use Rattle.types.specs.declared.Outcome.{Outcome}
use Rattle.model.specs.Definitions.Layout.{bank_size}
use Rattle.model.specs.Definitions.WellFormed.{SizesOk}
use Rattle.model.specs.Definitions.Check.{well_formed, sizes_allowed}
use Rattle.model.specs.Definitions.Codec.{decode}
use Rattle.model.specs.Definitions.Answers.{code}
use Rattle.model.specs.Definitions.Calls.{Call, Reply, refused, reply_of, call, buffer_after, make}
use Rattle.model.proofs.Laws.Codes.Ends.{not_done_gives}
use Rattle.model.proofs.Laws.Logic.{cases, by_bool}
use Rattle.model.proofs.Laws.Fresh.{sizes_say, fresh_bytes}
use Rattle.model.proofs.Laws.Clean.{stays_clean}
use Rattle.model.proofs.Laws.Wear.{stores_paid, stores_bounded, checkpoints_reach, hour_bounded}
use Rattle.model.specs.History.Statement.{Observed, made, begin, run_of, PremisesSeen, ClaimsSeen, Premises, Claims}
use Rattle.model.proofs.History.OnBytes.{make_begins}
use Rattle.model.specs.History.LogsStatement.{SparedYieldNoPlace}
use Rattle.model.specs.History.CleanStatement.{StaysClean}
use Rattle.model.specs.History.WearStatement.{StoresBounded, CheckpointsReach, StoresPaid, HourBounded}
use Rattle.history.specs.Theorem.{one_memory}
use Rattle.history.specs.LogsAgree.{spared_yield_no_place}
use Rattle.engine.specs.Clauses.{Replied}

-- what a caller reads in a second buffer: its bytes after a call answered 0
unfoldable pub seen_in : Answer → List ℕ → List ℕ
seen_in x buffer = elim (eqb (code x) 0) [ true ↦ buffer | false ↦ [] ]

-- A second buffer was lent and left as a contract says, and `given` was read in it. A call that takes none is lent the empty one.
pub record Buffered (y : Reply) (given : List ℕ) : Type 0 where
  pub lent : List ℕ
  pub left : List ℕ
  pub promised : left ≡ buffer_after y lent
  pub seen : given ≡ seen_in y.outcome.answer left

-- what the contracts allow: each call is run on the bytes that the last one left, and answers and leaves what its contract says
unfoldable pub Allowed : List ℕ → List Observed → Type 0
Allowed s [] = Unit
Allowed s (x ∷ xs) =
    Replied (call x.asked s) x.outcome x.bytes × Buffered (call x.asked s) x.given × Allowed x.bytes xs

-- what is read is what the definitions give
given_seen : (y : Reply) (given : List ℕ) → (code y.outcome.answer ≢ 0 → y.given ≡ []) → Buffered y given → given ≡ y.given
unfolding seen_in buffer_after
given_seen y given none b =
    by_bool (eqb (code y.outcome.answer) 0)
    (λ t. let l : b.left ≡ y.given = b.promised ∙ cc in b.seen ∙ (let e : seen_in y.outcome.answer b.left ≡ b.left = cc in e ∙ l))
    (λ t.
    let e : seen_in y.outcome.answer b.left ≡ [] = cc in
    b.seen ∙ (e ∙ sym (none (eqb-false (code y.outcome.answer) 0 t))))

-- a reply gives nothing unless it is done
reply_gives : (c : Call) (s : List ℕ) → code (call c s).outcome.answer ≢ 0 → (call c s).given ≡ []
unfolding call reply_of refused
reply_gives c s =
    cases (λ (y : Reply). code y.outcome.answer ≢ 0 → y.given ≡ []) (well_formed s) (λ t. not_done_gives c (decode s)) (λ t z. refl)

-- every list of calls has a run that the contracts allow
own_buffered : (c : Call) (s : List ℕ) → Buffered (call c s) (call c s).given
unfolding seen_in buffer_after
own_buffered c s =
    record {
      lent = (call c s).given;
      left = (call c s).given;
      promised = by_bool (eqb (code (call c s).outcome.answer) 0) (λ t. cc) (λ t. cc);
      seen =
          by_bool (eqb (code (call c s).outcome.answer) 0)
          (λ t. cc)
          (λ t.
          reply_gives c s (eqb-false (code (call c s).outcome.answer) 0 t)
          ∙ (let e : seen_in (call c s).outcome.answer (call c s).given ≡ [] = cc in sym e));
    }

pub own_allowed : (cs : List Call) (s : List ℕ) → Allowed s (run_of cs s)
unfolding Allowed run_of
own_allowed [] s = tt
own_allowed (c ∷ cs) s = ((refl, refl), own_buffered c s, own_allowed cs (call c s).bytes)

-- they leave nothing open: what is seen is that run, so all theorems about the definitions hold of it
abbrev calls : List Observed → List Call
calls xs = map (λ x. x.asked) xs

pub seen_own : (xs : List Observed) (s : List ℕ) → Allowed s xs → xs ≡ run_of (calls xs) s
unfolding Allowed run_of
seen_own [] s ok = refl
seen_own (x ∷ xs) s ok =
    rw (← ok.0.0, ← ok.0.1, ← given_seen (call x.asked s) x.given (reply_gives x.asked s) ok.1)
    (ap (λ (l : List Observed). x ∷ l) (seen_own xs x.bytes ok.2))

-- ==== the theorems

-- F-9 of an hour that doesn't begin with a make: of any calls on a well-formed bank
pub hour_bounded_seen : (s : List ℕ) → well_formed s ≡ true → (xs : List Observed) → Allowed s xs
    → HourBounded (length (decode s).boards) (length (decode s).directory) xs
hour_bounded_seen s w xs ok =
    subst (HourBounded (length (decode s).boards) (length (decode s).directory)) (sym (seen_own xs s ok)) (hour_bounded s w (calls xs))

-- a make answered 0 had sizes in range
make_sizes : (n p : ℕ) (s : List ℕ) (v : ℕ) → (make n p s).outcome.answer ≡ Done v → SizesOk n p
unfolding make refused
make_sizes n p s v h =
    let P : Reply → Type 0 = λ r. r.outcome.answer ≡ Done v → SizesOk n p in
    cases P (sizes_allowed n p)
    (λ t. cases P (eqb (length s) (bank_size n p)) (λ _ _. sizes_say n p t) (λ _ _. sizes_say n p t))
    (λ _ e. let z : ◌≡◌ {A = ℕ} 0 1 = cc in absurd (omega arith))
    h

-- From a make answered 0, on any bytes, and for any calls behind it.
module _ (n p : ℕ) (s₀ s : List ℕ) (o : Outcome) (v : ℕ) (r : Replied (make n p s₀) o s) (d : o.answer ≡ Done v)
    (xs : List Observed) (ok : Allowed s xs) where
  made_so : (make n p s₀).outcome.answer ≡ Done v
  made_so = rw r.0 at d

  begun : s ≡ (begin n p).bytes
  begun = r.1 ∙ make_begins n p s₀ v made_so

  run : xs ≡ run_of (calls xs) s
  run = seen_own xs s ok

  -- Demand 3: if the premise holds of what is seen, so does the claim, after every call.
  pub one_memory_seen : PremisesSeen xs (made s) → ClaimsSeen xs (made s)
  unfolding made Premises Claims
  one_memory_seen h =
      let k : made s ≡ begin n p = ap made begun in
      let premises : Premises (calls xs) (made s) = subst (λ ys. PremisesSeen ys (made s)) run h in
      let claims : Claims (calls xs) (made s) =
      subst (Claims (calls xs)) (sym k) (one_memory n p (make_sizes n p s₀ v made_so) (calls xs) (subst (Premises (calls xs)) k premises)) in
      subst (λ ys. ClaimsSeen ys (made s)) (sym run) claims

  -- F-7: two boards that were spared so far yield no place.
  pub no_place_seen : SparedYieldNoPlace n s xs
  no_place_seen =
      subst (λ ys. SparedYieldNoPlace n s ys) (sym run)
      (subst (λ (t : List ℕ). SparedYieldNoPlace n t (run_of (calls xs) t)) (sym begun) (spared_yield_no_place n p (make_sizes n p s₀ v made_so) (calls xs)))

  -- F-8: every slot at or past a count is zero, and a cleaning changes nothing.
  pub stays_clean_seen : StaysClean s xs
  unfolding made
  stays_clean_seen =
      let z : SizesOk n p = make_sizes n p s₀ v made_so in
      let w : well_formed s ≡ true = rw begun (fresh_bytes n p z.some_board z.boards z.some_page z.pages) in
      subst (StaysClean s) (sym run) (stays_clean (calls xs) s w)

  -- what holds of what the definitions answer from a fresh bank holds of what is seen
  seen_fresh : (P : List Observed → Type 0) → ((cs : List Call) → P (run_of cs (begin n p).bytes)) → P xs
  seen_fresh P h = subst P (sym run) (subst (λ (t : List ℕ). P (run_of (calls xs) t)) (sym begun) (h (calls xs)))

  -- F-9: the stores that were answered add up to no more than the calls cost, and than their events allow ..
  pub stores_paid_seen : StoresPaid p xs
  stores_paid_seen = seen_fresh (StoresPaid p) (stores_paid n p (make_sizes n p s₀ v made_so))

  pub stores_bounded_seen : StoresBounded n p xs
  stores_bounded_seen = seen_fresh (StoresBounded n p) (stores_bounded n p (make_sizes n p s₀ v made_so))

  -- .. and checkpoints of one board reach that bound
  pub checkpoints_reach_seen : CheckpointsReach n p xs
  checkpoints_reach_seen = seen_fresh (CheckpointsReach n p) (checkpoints_reach n p (make_sizes n p s₀ v made_so))
