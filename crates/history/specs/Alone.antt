-- From a restart on, a replay's answers and frames depend on its board's selected area, its directory entries at the end, its fuse and its accesses alone,
-- whatever the other boards do meanwhile: the claim of AloneStatement. Assumes nothing.
use Rattle.std.proofs.Math.Path.{◌≡◌, refl, ap₂}
use Rattle.std.proofs.Common.{sym, ap, subst, ◌∙◌, arith, eqb-true}
use Rattle.std.specs.Prelude.{◌≢◌, ℕ, zero, suc, ◌+◌, ◌≤◌, true, false}
use Rattle.std.proofs.Math.Option.{Option, none, some}
use mathlib.Core.List.{List, [], ◌∷◌}
use Rattle.std.proofs.Math.ListN.{length}
use Rattle.std.proofs.lemmas.Bool.{eqb-false}
use Rattle.words.specs.Bytes.{Each}
use Rattle.types.specs.declared.Frame.{Frame}
use Rattle.types.specs.declared.State.{State}
use Rattle.types.specs.declared.State.TheVariants.{Up, Down}
use Rattle.types.specs.declared.Answer.{Answer}
use Rattle.model.specs.Definitions.Bank.{Board, Bank, board_at}
use Rattle.model.specs.Definitions.WellFormed.{IsEmpty, Blank, PlaceOk, is_replaying, WellFormed}
use Rattle.model.specs.Definitions.Steps.{Run, start, Access}
use Rattle.model.specs.Definitions.Calls.{Result, Call, Accessing, Checkpointing, Fusing, Restarting, Comparing, call_bank}
use Rattle.model.proofs.Laws.Logic.{by_bool, clash}
use Rattle.model.proofs.Laws.Codes.Cases.{compare_cases}
use Rattle.model.proofs.Laws.Lists.{each_head, each_tail}
use Rattle.model.proofs.Laws.Boards.{board_at_out, by_board}
use Rattle.model.proofs.Laws.Runs.{lost_not, SameSizes, sizes_same}
use Rattle.model.proofs.Laws.Moves.{moves_follow}
use Rattle.model.specs.Laws.Codes.Statement.{board_named}
use Rattle.model.proofs.Laws.Keeps.Clauses.{up_not_replaying, fits, is_replaying_replaying}
use Rattle.model.specs.Clauses.{Fits}
use Rattle.model.specs.History.Statement.{access_of}
use Rattle.history.specs.Bystanders.{call_leaves}
use Rattle.model.specs.History.AloneStatement.{Heard, heard_of, is_call_of, live_in, heard, heard_from, is_access, end_bank, end_from, calls_of, SameOwned, SameStart}
use Rattle.model.specs.History.AloneStatement.{SameReplay}
use Rattle.history.specs.AloneBoards.{Same, same, same_seen}
use Rattle.history.specs.AloneRuns.{sizes_both, SameAt, SameRun}
use Rattle.history.specs.AloneCalls.{SameResult, SameAccess, answered, goes_on, access_same, checkpoint_refused, restart_refused, fuse_same}
use Rattle.history.specs.AloneCalls.{restart_same}
use Rattle.model.proofs.Laws.Moves.Calls.{call_moves, call_keeps}

-- ==== one call of the board

-- it has an answer, or goes on live
data SameCall (b : ℕ) (c : Call) (k j : Bank) : Type 0 where
  gives : live_in (access_of c) k ≡ none → live_in (access_of c) j ≡ none → SameResult b (call_bank c k) (call_bank c j) → SameCall b c k j
  goes : (r s : Run) → live_in (access_of c) k ≡ some r → live_in (access_of c) j ≡ some s → SameRun b r s → SameCall b c k j

accessing_same : (b : ℕ) (a : Access) (k j : Bank) → SameAccess b a k j → SameCall b (Accessing b a) k j
unfolding live_in access_of call_bank
accessing_same b a k j (answered m n t) = gives m n t
accessing_same b a k j (goes_on r s m n t) = goes r s m n t

own_same : (c : Call) (k j : Bank) → is_call_of (board_named c) c ≡ true → SameAt (board_named c) k j → WellFormed k → WellFormed j
    → is_replaying (board_at k (board_named c)).state ≡ true
    → (is_access (access_of c) ≡ true → is_replaying (board_at (call_bank c k).run.bank (board_named c)).state ≡ false
    → is_replaying (board_at (call_bank c j).run.bank (board_named c)).state ≡ false → SameOwned (board_named c) k j)
    → SameCall (board_named c) c k j
unfolding board_named is_call_of live_in access_of is_access call_bank
own_same (Accessing b a) k j i s w v t h = accessing_same b a k j (access_same b a k j s w v t (h refl))
own_same (Checkpointing b) k j i s w v t h = gives refl refl (checkpoint_refused b k j s t)
own_same (Fusing b n) k j i s w v t h = gives refl refl (fuse_same b k j s n)
own_same (Restarting b) k j i s w v t h = gives refl refl (restart_refused b k j s t)
own_same (Comparing b c) k j i s w v t h = clash i refl

call_of : (b : ℕ) (c : Call) → is_call_of b c ≡ true → board_named c ≡ b
unfolding is_call_of board_named
call_of b (Accessing d a) e = eqb-true d b e
call_of b (Checkpointing d) e = eqb-true d b e
call_of b (Fusing d n) e = eqb-true d b e
call_of b (Restarting d) e = eqb-true d b e
call_of b (Comparing d c) e = clash e refl

-- whatever is no call of a board that isn't up leaves it
other_leaves : (b : ℕ) (c : Call) (k : Bank) → WellFormed k → is_call_of b c ≡ false → (board_at k b).state ≢ Up
    → board_at (call_bank c k).run.bank b ≡ board_at k b
unfolding is_call_of board_named call_bank start
other_leaves b (Accessing d a) k w e i = call_leaves (Accessing d a) b k w (eqb-false d b e) i
other_leaves b (Checkpointing d) k w e i = call_leaves (Checkpointing d) b k w (eqb-false d b e) i
other_leaves b (Fusing d n) k w e i = call_leaves (Fusing d n) b k w (eqb-false d b e) i
other_leaves b (Restarting d) k w e i = call_leaves (Restarting d) b k w (eqb-false d b e) i
other_leaves b (Comparing d c) k w e i =
    compare_cases (λ (t : Result). board_at t.run.bank b ≡ board_at k b) d c k (λ x h i. refl) (λ i e. refl)

-- ==== lists of calls, as equations

module _ (b : ℕ) where
  -- a board that doesn't replay gives nothing
  heard_idle : (cs : List Call) (k : Bank) → is_replaying (board_at k b).state ≡ false → heard b cs k ≡ []
  unfolding heard
  heard_idle [] k t = refl
  heard_idle (c ∷ cs) k t = cc

  end_idle : (cs : List Call) (k : Bank) → is_replaying (board_at k b).state ≡ false → end_bank b cs k ≡ none
  unfolding end_bank
  end_idle [] k t = refl
  end_idle (c ∷ cs) k t = cc

  module _ (c : Call) (cs : List Call) (k : Bank) (t : is_replaying (board_at k b).state ≡ true) where
    heard_other : is_call_of b c ≡ false → heard b (c ∷ cs) k ≡ heard b cs (call_bank c k).run.bank
    unfolding heard
    heard_other n = cc

    heard_live : is_call_of b c ≡ true → (r : Run) → live_in (access_of c) k ≡ some r → heard b (c ∷ cs) k ≡ heard_of b none [] r ∷ []
    unfolding heard
    heard_live n r e = cc

    heard_given : is_call_of b c ≡ true → live_in (access_of c) k ≡ none
        → heard b (c ∷ cs) k ≡ heard_of b (some (call_bank c k).answer) (call_bank c k).given (call_bank c k).run ∷ heard b cs (call_bank c k).run.bank
    unfolding heard
    heard_given n e = cc

    end_here : is_access (access_of c) ≡ true → is_replaying (board_at (call_bank c k).run.bank b).state ≡ false → end_bank b (c ∷ cs) k ≡ some k
    unfolding end_bank
    end_here a n = cc

    end_on : is_replaying (board_at (call_bank c k).run.bank b).state ≡ true → end_bank b (c ∷ cs) k ≡ end_bank b cs (call_bank c k).run.bank
    unfolding end_bank
    end_on n = by_bool (is_access (access_of c)) (λ a. cc) (λ a. cc)

    -- where the replay ends later, it ends there
    end_later : (i : Bank) → end_bank b cs (call_bank c k).run.bank ≡ some i → end_bank b (c ∷ cs) k ≡ some i
    end_later i e =
        by_bool (is_replaying (board_at (call_bank c k).run.bank b).state)
        (λ n. end_on n ∙ e)
        (λ n. lost_not (end_idle cs (call_bank c k).run.bank n) e)

  -- a list in which no call is the board's gives nothing
  heard_none : (cs : List Call) (k : Bank) → calls_of b cs ≡ [] → heard b cs k ≡ []
  unfolding calls_of heard
  heard_none [] k e = refl
  heard_none (c ∷ cs) k e =
      by_bool (is_replaying (board_at k b).state)
      (λ t.
      by_bool (is_call_of b c)
      (λ m. let z : ◌≡◌ {A = ℕ} 0 1 = cc in absurd (omega arith))
      (λ m. heard_other c cs k t m ∙ heard_none cs (call_bank c k).run.bank (cc)))
      (λ t. heard_idle (c ∷ cs) k t)

  -- ==== the two banks

  -- both well formed, and board b looks the same
  record Beside (k j : Bank) : Type 0 where
    left : WellFormed k
    right : WellFormed j
    at : SameAt b k j

  -- "its directory entries at the end"
  abbrev OwnedAtEnd : List Call → List Call → Bank → Bank → Type 0
  OwnedAtEnd cs ds k j = (i l : Bank) → end_bank b cs k ≡ some i → end_bank b ds j ≡ some l → SameOwned b i l

  -- a bank in which no more happened than another board's call
  record Passed (k k' : Bank) : Type 0 where
    formed : WellFormed k → WellFormed k'
    sizes : SameSizes k k'
    board : board_at k' b ≡ board_at k b

  passed_none : (k : Bank) → Passed k k
  passed_none k = record { formed = λ w. w; sizes = sizes_same k; board = refl }

  passed : (c : Call) (k : Bank) → WellFormed k → is_replaying (board_at k b).state ≡ true → is_call_of b c ≡ false → Passed k (call_bank c k).run.bank
  unfolding start
  passed c k w t m =
      record {
        formed = call_keeps c k;
        sizes = (moves_follow (call_moves c k w)).sizes;
        board = other_leaves b c k w m (λ u. up_not_replaying u (is_replaying_replaying (board_at k b).state t));
      }

  beside_passed : {k k' j j' : Bank} → Beside k j → Passed k k' → Passed j j' → Beside k' j'
  beside_passed h p q =
      record {
        left = p.formed h.left;
        right = q.formed h.right;
        at = record { sizes = sizes_both p.sizes q.sizes h.at.sizes; board = rw (p.board, q.board) h.at.board };
      }

  -- a board that replayed before another board's call replays after it
  passed_replays : (k k' : Bank) → Passed k k' → is_replaying (board_at k b).state ≡ true → is_replaying (board_at k' b).state ≡ true
  passed_replays k k' p t = rw p.board t

  calls_of_own : (c : Call) (cs : List Call) → is_call_of b c ≡ true → calls_of b (c ∷ cs) ≡ c ∷ calls_of b cs
  unfolding calls_of
  calls_of_own c cs x = cc

  calls_of_other : (c : Call) (cs : List Call) → is_call_of b c ≡ false → calls_of b (c ∷ cs) ≡ calls_of b cs
  unfolding calls_of
  calls_of_other c cs x = cc

  calls_of_nil : calls_of b [] ≡ []
  unfolding calls_of
  calls_of_nil = refl

  heard_of_same : (a : Option Answer) (given : List ℕ) (r s : Run) → SameRun b r s → heard_of b a given r ≡ heard_of b a given s
  unfolding heard_of
  heard_of_same a given r s h = cc (h.stores, same_seen h.bank.board)

  -- a call of the board in both banks, and what follows it
  own_call : (c : Call) (k j : Bank) → Beside k j → is_replaying (board_at k b).state ≡ true → is_call_of b c ≡ true
      → (is_access (access_of c) ≡ true → is_replaying (board_at (call_bank c k).run.bank b).state ≡ false
      → is_replaying (board_at (call_bank c j).run.bank b).state ≡ false → SameOwned b k j)
      → SameCall b c k j
  own_call c k j h t x o =
      subst
      (λ (d : ℕ).
      is_call_of d c ≡ true → SameAt d k j → is_replaying (board_at k d).state ≡ true
      → (is_access (access_of c) ≡ true → is_replaying (board_at (call_bank c k).run.bank d).state ≡ false
      → is_replaying (board_at (call_bank c j).run.bank d).state ≡ false → SameOwned d k j)
      → SameCall d c k j)
      (call_of b c x)
      (λ i s u w. own_same c k j i s h.left h.right u w)
      x
      h.at
      t
      o

  module _ (c : Call) (cs ds : List Call) (k j : Bank) (h : Beside k j) (t : is_replaying (board_at k b).state ≡ true)
      (u : is_replaying (board_at j b).state ≡ true) (x : is_call_of b c ≡ true) where
    after_own : SameResult b (call_bank c k) (call_bank c j) → Beside (call_bank c k).run.bank (call_bank c j).run.bank
    after_own s = record { left = call_keeps c k h.left; right = call_keeps c j h.right; at = s.run.bank }

    own_heard : SameCall b c k j
        → (SameResult b (call_bank c k) (call_bank c j) → heard b cs (call_bank c k).run.bank ≡ heard b ds (call_bank c j).run.bank)
        → heard b (c ∷ cs) k ≡ heard b (c ∷ ds) j
    own_heard (gives m n s) rest =
        let first : heard_of b (some (call_bank c k).answer) (call_bank c k).given (call_bank c k).run
        ≡ heard_of b (some (call_bank c j).answer) (call_bank c j).given (call_bank c j).run =
        rw (s.answer, s.given) (heard_of_same (some (call_bank c j).answer) (call_bank c j).given (call_bank c k).run (call_bank c j).run s.run) in
        heard_given c cs k t x m ∙ ap₂ (λ (y : Heard) (ys : List Heard). y ∷ ys) first (rest s) ∙ sym (heard_given c ds j u x n)
    own_heard (goes r s m n g) rest =
        heard_live c cs k t x r m ∙ ap (λ (y : Heard). y ∷ []) (heard_of_same none [] r s g) ∙ sym (heard_live c ds j u x s n)

  -- `n` bounds the calls that are left
  heard_same : (n : ℕ) (cs ds : List Call) (k j : Bank) → length cs + length ds ≤ n → Beside k j → calls_of b cs ≡ calls_of b ds
      → OwnedAtEnd cs ds k j → heard b cs k ≡ heard b ds j
  heard_same n [] ds k j f h e o = heard_none [] k calls_of_nil ∙ sym (heard_none ds j (sym e ∙ calls_of_nil))
  heard_same n (c ∷ cs) [] k j f h e o = heard_none (c ∷ cs) k (e ∙ calls_of_nil) ∙ sym (heard_none [] j calls_of_nil)
  heard_same zero (c ∷ cs) (d ∷ ds) k j f h e o = absurd (omega arith)
  heard_same (suc n) (c ∷ cs) (d ∷ ds) k j f h e o =
      by_bool (is_replaying (board_at k b).state)
      (λ t.
      let u : is_replaying (board_at j b).state ≡ true = ap is_replaying (sym h.at.board.state) ∙ t in
      by_bool (is_call_of b c)
      (λ x.
      by_bool (is_call_of b d)
      (λ y.
      let heads : c ∷ calls_of b cs ≡ d ∷ calls_of b ds = sym (calls_of_own c cs x) ∙ e ∙ calls_of_own d ds y in
      let same : d ≡ c = cc in
      let rest : calls_of b cs ≡ calls_of b ds = cc in
      rw same
      (own_heard c cs ds k j h t u x
      (own_call c k j h t x (λ a p q. o k j (end_here c cs k t a p) (rw same (end_here c ds j u a q))))
      (λ s.
      heard_same n cs ds (call_bank c k).run.bank (call_bank c j).run.bank (omega arith) (after_own c cs ds k j h t u x s) rest
      (λ i l p q. o i l (end_later c cs k t i p) (rw same (end_later c ds j u l q))))))
      (λ y.
      let p : Passed j (call_bank d j).run.bank = passed d j h.right u y in
      heard_same n (c ∷ cs) ds k (call_bank d j).run.bank (omega arith) (beside_passed h (passed_none k) p) (e ∙ calls_of_other d ds y)
      (λ i l q r. o i l q (end_on d ds j u (passed_replays j _ p u) ∙ r))
      ∙ sym (heard_other d ds j u y)))
      (λ x.
      let p : Passed k (call_bank c k).run.bank = passed c k h.left t x in
      heard_other c cs k t x
      ∙ heard_same n cs (d ∷ ds) (call_bank c k).run.bank j (omega arith) (beside_passed h p (passed_none j)) (sym (calls_of_other c cs x) ∙ e)
      (λ i l q r. o i l (end_on c cs k t (passed_replays k _ p t) ∙ q) r)))
      (λ t. heard_idle (c ∷ cs) k t ∙ sym (heard_idle (d ∷ ds) j (ap is_replaying (sym h.at.board.state) ∙ t)))

-- ==== from a restart on

-- where the replay ends in the list, it didn't end in the restart
end_later_from : (b : ℕ) (cs : List Call) (k i : Bank) → end_bank b cs (call_bank (Restarting b) k).run.bank ≡ some i → end_from b cs k ≡ some i
unfolding end_from
end_later_from b cs k i e =
    by_bool (is_replaying (board_at (call_bank (Restarting b) k).run.bank b).state)
    (λ t. cc)
    (λ t. lost_not (end_idle b cs (call_bank (Restarting b) k).run.bank t) e)

-- frames of boards without power
empty_same : (fs gs : List Frame) → Each IsEmpty fs → Each IsEmpty gs → length fs ≡ length gs → fs ≡ gs
empty_same [] [] e f l = refl
empty_same [] (g ∷ gs) e f l = absurd (omega arith)
empty_same (f ∷ fs) [] e g l = absurd (omega arith)
empty_same (f ∷ fs) (g ∷ gs) d e l =
    let p : IsEmpty f = each_head d in
    let q : IsEmpty g = each_head e in
    let r : ◌≡◌ {A = Frame} (record { right = f.right; bytes = f.bytes }) (record { right = g.right; bytes = g.bytes }) = cc in
    ap₂ (λ (x : Frame) (xs : List Frame). x ∷ xs) r (empty_same fs gs (each_tail d) (each_tail e) (omega arith))

down_place : (x : Board) → x.state ≡ Down → PlaceOk x.state x → x.working.place ≡ 0
unfolding PlaceOk
down_place x u h = subst (λ (s : State). PlaceOk s x) u h

module _ (b : ℕ) (k j : Bank) (h : SameStart b k j) where
  -- a board without power has nothing but its stable part
  down_same : Same (board_at k b) (board_at j b)
  down_same =
      by_board k b
      (λ l.
      let x : Board = board_at k b in
      let y : Board = board_at j b in
      let f : Fits k.directory b x = fits h.formed.0 b l in
      let g : Fits j.directory b y = fits h.formed.1 b (rw h.boards l) in
      let p : Blank x = f.alone.down h.down.0 in
      let q : Blank y = g.alone.down h.down.1 in
      let number : x.working.number ≡ y.working.number = p.number ∙ sym q.number in
      let since : x.working.since ≡ y.working.since = p.since ∙ sym q.since in
      let place : x.working.place ≡ y.working.place = down_place x h.down.0 f.place ∙ sym (down_place y h.down.1 g.place) in
      let frames : x.working.frames ≡ y.working.frames =
      empty_same x.working.frames y.working.frames p.frames q.frames
      (f.alone.fields.working.frames.count ∙ sym h.pages ∙ sym g.alone.fields.working.frames.count) in
      let log : x.working.log ≡ y.working.log = p.volatile ∙ sym q.volatile in
      record {
        state = h.down.0 ∙ sym h.down.1;
        fuse = p.fuse ∙ sym q.fuse;
        working = λ i. record { number = number i; since = since i; place = place i; frames = frames i; log = log i };
        selected = h.area;
      })
      (λ l. rw (board_at_out k b l, board_at_out j b (rw h.boards l)) (same refl))

  start_at : SameAt b k j
  start_at = record { sizes = record { boards = h.boards; pages = h.pages }; board = down_same }

  -- the restart, and what it leaves to the list
  module _ (cs ds : List Call) (o : (i l : Bank) → end_from b cs k ≡ some i → end_from b ds j ≡ some l → SameOwned b i l) where
    restarts : SameResult b (call_bank (Restarting b) k) (call_bank (Restarting b) j)
    unfolding call_bank end_from
    restarts = restart_same b k j start_at h.formed.0 h.formed.1 (λ m n. o k j (cc) (cc))

    owned_later : OwnedAtEnd b cs ds (call_bank (Restarting b) k).run.bank (call_bank (Restarting b) j).run.bank
    owned_later i l p q = o i l (end_later_from b cs k i p) (end_later_from b ds j l q)

  pub alone : SameReplay b k j
  unfolding heard_from
  alone cs ds e o =
      let s : SameResult b (call_bank (Restarting b) k) (call_bank (Restarting b) j) = restarts cs ds o in
      let c : Call = Restarting b in
      let k' : Bank = (call_bank (Restarting b) k).run.bank in
      let j' : Bank = (call_bank (Restarting b) j).run.bank in
      ap₂ (λ (y : Heard) (ys : List Heard). y ∷ ys)
      (rw (s.answer, s.given)
      (heard_of_same b (some (call_bank c j).answer) (call_bank c j).given (call_bank c k).run (call_bank c j).run s.run))
      (heard_same b (length cs + length ds) cs ds k' j' (omega arith)
      (record { left = call_keeps (Restarting b) k h.formed.0; right = call_keeps (Restarting b) j h.formed.1; at = s.run.bank })
      e
      (owned_later cs ds o))
