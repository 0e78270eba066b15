-- Document 01's claims about recovery points, of every bank that calls reach from a fresh one. They need neither the history nor its premise: a recovery
-- point never falls, and it is the one that the paper demands. Assumes nothing.
use Rattle.std.specs.Prelude.{◌≡◌, refl, ℕ, ◌+◌, ◌≤◌, ◌<◌, true, List, [], ◌∷◌, ◌++◌, length}
use Rattle.std.proofs.Common.{sym, ap, ◌∙◌, le_trans, arith}
use Rattle.types.specs.declared.Kind.{Kind}
use Rattle.types.specs.declared.Record.{Record}
use Rattle.types.specs.declared.State.TheVariants.{Up, Replaying}
use Rattle.model.specs.Definitions.Bank.{Board, Bank, board_at, on_working, fresh_board, fresh}
use Rattle.model.specs.Definitions.WellFormed.{SizesOk, WellFormed}
use Rattle.model.specs.Definitions.Steps.{powered_off, appended, recorded, moved_record, stored_record, stored_selector, rested_working, accessed}
use Rattle.model.specs.Definitions.Replay.{loaded, records_left, used_up, replay_over, settled, replayed, count_sum, recovery_point}
use Rattle.model.specs.Definitions.Calls.{Call, call_bank}
use Rattle.model.proofs.Laws.Boards.{stored_record_cases}
use Rattle.model.proofs.Laws.Fresh.{fresh_boards, fresh_board_lem, fresh_well_formed}
use Rattle.model.proofs.Laws.Keeps.Clauses.{up_not_replaying}
use Rattle.model.specs.History.RecoveryStatement.{Change, Made, Stored, Selected, Lost, Accessed, Loaded, Took, Replayed, Settled, Quiet, Changes, unchanged}
use Rattle.model.specs.History.RecoveryStatement.{next, Demand, no_demand, first_stored, demand_after, demanded, reached}
use Rattle.history.specs.Traces.{count_sum_one}
use Rattle.history.specs.Logging.{recovery_point_same}
use Rattle.history.specs.Replaying.{used_up_log, over_left}
use Rattle.history.specs.Repeating.{took_stable, took_log}
use Rattle.history.specs.Counters.{Balanced, change_balanced}
use Rattle.history.specs.Counters.Spacing.{Spaced, Orderly}
use Rattle.history.specs.Counters.BoardsInProgress.{changes_trans, Advance, Advances, Nobody}
use Rattle.history.specs.Counters.Moves.{call_advances}
use Rattle.model.proofs.Laws.Moves.Calls.{call_keeps}
use Rattle.model.specs.Clauses.{records_of}

-- ==== the counters of every board, between calls

-- The access number is the recovery point and what was counted after it; a replay waits for its next record; a got is followed by its access.
pub record CountedBoard (x : Board) : Type 0 where
  pub balanced : Balanced x
  pub orderly : Orderly ⊥ x

abbrev pub Counted : Bank → Type 0
Counted k = (b : ℕ) → b < length k.boards → CountedBoard (board_at k b)

fresh_board_counted : (n p b : ℕ) → CountedBoard (fresh_board n p b)
unfolding fresh_board recovery_point count_sum records_of Spaced
fresh_board_counted n p b =
    record {
      balanced =
          record {
            up = λ u. refl;
            replaying = λ u. up_not_replaying refl u;
            over = λ u. up_not_replaying refl u;
            idle = λ u. refl;
          };
      orderly = record { spaced = tt; up = λ q u. tt; waits = λ q u. up_not_replaying refl u };
    }

pub fresh_counted : (n p : ℕ) → Counted (fresh n p)
fresh_counted n p b l = rw (fresh_board_lem n p b (rw (fresh_boards n p) at l)) (fresh_board_counted n p b)

pub changes_balanced : {x y : Board} → Changes x y → Balanced x → Balanced y
changes_balanced unchanged h = h
changes_balanced (next t c) h = change_balanced c (changes_balanced t h)

-- every call takes each board through changes
pub call_changes : (c : Call) (k : Bank) → WellFormed k → (b : ℕ) → b < length k.boards → Changes (board_at k b) (board_at (call_bank c k).run.bank b)
call_changes c k w b l = ((call_advances c k w).boards b l).changes

pub call_counted : (c : Call) (k : Bank) → WellFormed k → Counted k → Counted (call_bank c k).run.bank
call_counted c k w h b l =
    let a : Advances Nobody Nobody k (call_bank c k).run.bank = call_advances c k w in
    let i : b < length k.boards = rw a.sizes.boards at l in
    let t : Advance ⊥ ⊥ (board_at k b) (board_at (call_bank c k).run.bank b) = a.boards b i in
    record { balanced = changes_balanced t.changes (h b i).balanced; orderly = t.orderly (h b i).orderly }

-- ==== a recovery point never falls

stored_rises : (x : Board) → recovery_point x ≤ recovery_point (stored_record x)
unfolding moved_record appended recovery_point
stored_rises x =
    stored_record_cases (λ y. recovery_point x ≤ recovery_point y) x
    (λ e. omega arith)
    (λ r rs e. omega (arith, count_sum_one x.stable.selected.log r))

-- a checkpoint is of the board's own number
selected_point : (x : Board) → x.stable.spare.number ≡ x.working.number → x.stable.spare.log ≡ []
    → recovery_point (on_working rested_working (stored_selector x)) ≡ x.working.number
unfolding on_working stored_selector recovery_point count_sum
selected_point x n r = omega (arith, ap count_sum r)

-- the changes that store nothing
same_rises : (x y : Board) → y.stable.selected ≡ x.stable.selected → recovery_point x ≤ recovery_point y
same_rises x y e = omega (arith, recovery_point_same x y e)

change_rises : {x y : Board} → Change x y → Balanced x → recovery_point x ≤ recovery_point y
unfolding on_working powered_off used_up loaded replayed settled
change_rises {x} {y} (Made kind peer bytes u e) h = same_rises x y (rw e)
change_rises {x} {y} (Stored u e) h = rw e (stored_rises x)
change_rises {x} {y} (Selected u n r e) h = rw (e, selected_point x n r) (omega (arith, h.up u))
change_rises {x} {y} (Lost e) h = same_rises x y (rw e)
change_rises {x} {y} (Accessed a u e) h = same_rises x y (rw e)
change_rises {x} {y} (Loaded u e) h = same_rises x y (rw e)
change_rises {x} {y} (Took u e) h = same_rises x y (rw (e, took_stable x))
change_rises {x} {y} (Replayed a u o e) h = same_rises x y (rw e)
change_rises {x} {y} (Settled owned u o e) h = same_rises x y (rw e)
change_rises {x} {y} (Quiet s) h = same_rises x y s.selected

pub changes_rise : {x y : Board} → Changes x y → Balanced x → recovery_point x ≤ recovery_point y
changes_rise {x} unchanged h = omega arith
changes_rise (next t c) h = le_trans (changes_rise t h) (change_rises c (changes_balanced t h))

pub recovery_rises : (c : Call) (k : Bank) → WellFormed k → Counted k → (b : ℕ) → b < length k.boards
    → recovery_point (board_at k b) ≤ recovery_point (board_at (call_bank c k).run.bank b)
recovery_rises c k w h b l = changes_rise (call_changes c k w b l) (h b l).balanced

-- ==== it is the one that is demanded

-- each of these records was made at the access number beside it; n is the recovery point before the first
unfoldable Numbered : ℕ → List Record → List ℕ → Type 0
Numbered n [] [] = Unit
Numbered n [] (m ∷ ms) = ⊥
Numbered n (r ∷ rs) [] = ⊥
Numbered n (r ∷ rs) (m ∷ ms) = (m ≡ n + r.count) × Numbered m rs ms

numbered_one : (n : ℕ) (rs : List Record) (ms : List ℕ) (r : Record) (m : ℕ) → Numbered n rs ms → m ≡ n + count_sum rs + r.count
    → Numbered n (rs ++ (r ∷ [])) (ms ++ (m ∷ []))
unfolding Numbered count_sum
numbered_one n [] [] r m h e = (omega arith, tt)
numbered_one n [] (i ∷ is) r m h e = absurd h
numbered_one n (q ∷ rs) [] r m h e = absurd h
numbered_one n (q ∷ rs) (i ∷ is) r m h e = (h.0, numbered_one i rs is r m h.1 (omega (arith, h.0)))

record Met (x : Board) (d : Demand) : Type 0 where
  point : d.point ≡ recovery_point x
  made : Numbered (recovery_point x) x.working.log d.made

-- neither the stable area nor the volatile records change
same_met : {x y : Board} {d : Demand} → y.stable.selected ≡ x.stable.selected → y.working.log ≡ x.working.log → Met x d → Met y d
same_met {x} {y} s v h =
    let e : recovery_point y ≡ recovery_point x = recovery_point_same x y s in
    record { point = h.point ∙ sym e; made = rw (e, v) h.made }

numbered_none : (n : ℕ) (ms : List ℕ) → Numbered n [] ms → ms ≡ []
unfolding Numbered
numbered_none n [] h = refl
numbered_none n (m ∷ ms) h = absurd h

numbered_first : (n : ℕ) (r : Record) (rs : List Record) (ms : List ℕ) → Numbered n (r ∷ rs) ms
    → (m : ℕ) × (ns : List ℕ) × (ms ≡ m ∷ ns) × (m ≡ n + r.count) × Numbered m rs ns
unfolding Numbered
numbered_first n r rs [] h = absurd h
numbered_first n r rs (m ∷ ns) h = (m, ns, refl, h.0, h.1)

-- the record that is stored was made at the recovery point that it brings
moved_met : (x : Board) (r : Record) (rs : List Record) (m : ℕ) (ns : List ℕ) → m ≡ recovery_point x + r.count → Numbered m rs ns
    → Met (moved_record r rs x) (record { made = ns; point = m })
unfolding moved_record appended recovery_point
moved_met x r rs m ns e h =
    let p : m ≡ recovery_point (moved_record r rs x) = omega (arith, count_sum_one x.stable.selected.log r) in
    record { point = p; made = rw p at h }

stored_met : (x : Board) (d : Demand) → Met x d → Met (stored_record x) (first_stored d)
unfolding first_stored recovery_point
stored_met x d h =
    stored_record_cases (λ y. Met y (first_stored d)) x
    (λ e.
    let n : d.made ≡ [] = numbered_none (recovery_point x) d.made (rw e at h.made) in
    let f : first_stored d ≡ d = cc in
    rw f h)
    (λ r rs e.
    let t : (m : ℕ) × (ns : List ℕ) × (d.made ≡ m ∷ ns) × (m ≡ recovery_point x + r.count) × Numbered m rs ns =
    numbered_first (recovery_point x) r rs d.made (rw e at h.made) in
    let f : first_stored d ≡ record { made = t.1; point = t.0 } = cc t.2 in
    rw f (moved_met x r rs t.0 t.1 t.3 t.4))

made_met : (kind : Kind) (peer : ℕ) (bytes : List ℕ) (x : Board) (d : Demand) → x.state ≡ Up → Balanced x → Met x d
    → Met (on_working (recorded kind peer bytes) x) (record { made = d.made ++ (x.working.number ∷ []); point = d.point })
unfolding on_working recorded appended
made_met kind peer bytes x d u b h =
    let y : Board = on_working (recorded kind peer bytes) x in
    let r : Record = record { count = x.working.since; kind = kind; peer = peer; bytes = bytes } in
    let e : recovery_point y ≡ recovery_point x = recovery_point_same x y refl in
    record {
      point = h.point ∙ sym e;
      made = rw e (numbered_one (recovery_point x) x.working.log d.made r x.working.number h.made (b.up u));
    }

selected_met : (x : Board) → x.stable.spare.number ≡ x.working.number → x.stable.spare.log ≡ []
    → Met (on_working rested_working (stored_selector x)) (record { made = []; point = x.working.number })
unfolding on_working rested_working Numbered
selected_met x n r = record { point = sym (selected_point x n r); made = tt }

lost_met : (x : Board) (d : Demand) → Met x d → Met (powered_off x) (record { made = []; point = d.point })
unfolding powered_off Numbered
lost_met x d h = record { point = h.point ∙ sym (recovery_point_same x (powered_off x) refl); made = tt }

change_met : {x y : Board} (c : Change x y) (d : Demand) → Balanced x → Met x d → Met y (demand_after c d)
unfolding demand_after on_working accessed loaded used_up replayed settled
change_met {x} {y} (Made kind peer bytes u e) d b h = rw e (made_met kind peer bytes x d u b h)
change_met {x} {y} (Stored u e) d b h = rw e (stored_met x d h)
change_met {x} {y} (Selected u n r e) d b h = rw e (selected_met x n r)
change_met {x} {y} (Lost e) d b h = rw e (lost_met x d h)
change_met {x} {y} (Accessed a u e) d b h = same_met (rw e) (rw e) h
change_met {x} {y} (Loaded u e) d b h = same_met (rw e) (rw (e, used_up_log (loaded x))) h
change_met {x} {y} (Took u e) d b h = same_met (rw (e, took_stable x)) (rw (e, took_log x)) h
change_met {x} {y} (Replayed a u o e) d b h = same_met (rw e) (rw (e, used_up_log (on_working (accessed a) x))) h
change_met {x} {y} (Settled owned u o e) d b h = same_met (rw e) (rw e) h
change_met {x} {y} (Quiet s) d b h = same_met s.selected s.volatile h

changes_met : {x y : Board} (t : Changes x y) → Balanced x → Met x no_demand → Met y (demanded t)
unfolding demanded
changes_met unchanged b h = h
changes_met (next t c) b h = change_met c (demanded t) (changes_balanced t b) (changes_met t b h)

fresh_board_met : (n p b : ℕ) → Met (fresh_board n p b) no_demand
unfolding fresh_board no_demand recovery_point count_sum Numbered
fresh_board_met n p b = record { point = refl; made = tt }

-- Whatever changes a board went through from its fresh state on, its recovery point is the one that they demand.
pub recovery_demanded : (n p b : ℕ) {y : Board} (t : Changes (fresh_board n p b) y) → (demanded t).point ≡ recovery_point y
recovery_demanded n p b t = (changes_met t (fresh_board_counted n p b).balanced (fresh_board_met n p b)).point

-- And every board of a bank that calls reached went through such changes.
reached_changes : (cs : List Call) (k : Bank) → WellFormed k → (b : ℕ) → b < length k.boards → Changes (board_at k b) (board_at (reached cs k) b)
unfolding reached
reached_changes [] k w b l = unchanged
reached_changes (c ∷ cs) k w b l =
    changes_trans (call_changes c k w b l)
    (reached_changes cs (call_bank c k).run.bank (call_keeps c k w) b (rw (call_advances c k w).sizes.boards l))

pub calls_changes : (n p : ℕ) → SizesOk n p → (cs : List Call) (b : ℕ) → b < n → Changes (fresh_board n p b) (board_at (reached cs (fresh n p)) b)
calls_changes n p s cs b l =
    rw (fresh_board_lem n p b l) at
    (reached_changes cs (fresh n p) (fresh_well_formed n p s.some_board s.boards s.some_page s.pages) b (rw (fresh_boards n p) l))

-- Of any board of a bank reached from a fresh one: its recovery point is what its own changes demand.
pub recovery_reached : (n p : ℕ) (s : SizesOk n p) (cs : List Call) (b : ℕ) (l : b < n)
    → (demanded (calls_changes n p s cs b l)).point ≡ recovery_point (board_at (reached cs (fresh n p)) b)
recovery_reached n p s cs b l = recovery_demanded n p b (calls_changes n p s cs b l)

-- ==== the end of a replay

-- at its end the number is the recovery point
pub replay_over_lem : (x : Board) → Balanced x → x.state ≡ Replaying → replay_over x ≡ true → x.working.number ≡ recovery_point x
unfolding count_sum
replay_over_lem x h u o =
    let l : records_left x ≡ [] = over_left x o in
    omega (arith, h.replaying u, h.over u l, ap count_sum l)
