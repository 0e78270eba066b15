-- Document 02, F-9. From a fresh bank, which owes nothing, the stores of any calls are bounded by their costs and by their events, and from any well-formed
-- one with what it owes; no call makes more stores than an answer has room for; and checkpoints reach the bound. Assumes nothing.
use Rattle.std.specs.Prelude.{◌≡◌, true, get_or, replicate, eqb}
use Rattle.std.proofs.Math.Path.{refl, ap, subst}
use Rattle.std.proofs.Common.{sym, ◌∙◌, mul-zero, mul_comm, mul-add, mul-le-mul, eq-eqb, eqb-true, lt-ltb}
use Prim.Native.Nat.{ℕ, suc, ◌+◌, ◌*◌, ◌%◌, ◌≤◌, ◌<◌}
use Rattle.std.proofs.Math.Nat.{suc-mul, one-mul, add-mul, mul-le-mul_left}
use native.Mathlib.Omega.{arith}
use mathlib.Core.List.{List, [], ◌∷◌}
use Rattle.std.proofs.Math.ListN.{length}
use Rattle.std.proofs.lemmas.List.{length-replicate}
use Rattle.words.specs.Bytes.{Each, each_nil, each_cons}
use Rattle.types.specs.declared.Answer.{Answer}
use Rattle.types.specs.declared.Answer.TheVariants.{Done}
use Rattle.types.specs.declared.State.TheVariants.{Up}
use Rattle.model.specs.Definitions.Parts.{sum_over, all_below}
use Rattle.model.specs.Definitions.Bank.{Board, Bank, no_board, no_entry, board_at, entry_at, fresh_board, fresh}
use Rattle.model.specs.Definitions.Layout.{most_boards, most_pages, slot_count}
use Rattle.model.specs.Definitions.WellFormed.{is_up, is_replaying, SizesOk, WellFormed}
use Rattle.model.specs.Definitions.Codec.{encode, decode}
use Rattle.model.specs.Definitions.Check.{well_formed}
use Rattle.model.specs.Definitions.Answers.{code}
use Rattle.model.specs.Definitions.Steps.{Run, start, checkpoint, Access, names, Read, Write, cells_read, cells_written, any_cell, any_write}
use Rattle.model.specs.Definitions.Calls.{Result, first_given, unless, finished, checkpoint_bank, Call, Accessing, Checkpointing, Fusing, Restarting}
use Rattle.model.specs.Definitions.Calls.{Comparing, call_bank, Reply, refused, reply_of, call}
use Rattle.model.specs.Clauses.{Alone}
use Rattle.model.specs.History.Statement.{Observed, run_of, bytes_left, begin, made}
use Rattle.model.proofs.History.OnBytes.{decoded, call_encode}
use Rattle.model.specs.History.WearStatement.{events_asked, is_event, if_event, events_answered, events_in, stores_in, dearest, StoresBounded, BoundedAmong}
use Rattle.model.specs.History.WearStatement.{CheckpointsReach, page_cost, cost_asked, cost_answered, costs_in, StoresPaid, HourBounded}
use Rattle.model.proofs.Laws.Logic.{cases, by_bool}
use Rattle.model.proofs.Laws.Below.{all_below_one, all_below_few}
use Rattle.model.proofs.Laws.Boards.{board_at_out, by_board}
use Rattle.model.proofs.Laws.Lists.{each_head, each_tail, each_replicate}
use Rattle.model.proofs.Laws.Fresh.{fresh_boards, fresh_pages, fresh_board_lem, fresh_entry, fresh_well_formed, fresh_bytes}
use Rattle.model.proofs.Laws.Clean.{calls_among, seen_among_lem}
use Rattle.model.proofs.Laws.Refusals.{checkpoint_count}
use Rattle.model.proofs.Laws.Runs.Stores.{checkpoint_changed}
use Rattle.model.proofs.Laws.Runs.Unfused.{Unfused, Safe, checkpoint_safe}
use Rattle.model.proofs.Laws.Owed.{sum_few, board_owes, copies_owe, owed, no_copies}
use Rattle.model.proofs.Laws.Keeps.Clauses.{fits, is_replaying_replaying}
use Rattle.model.proofs.Laws.WellFormedTest.{well_formed_sound, well_formed_back}
use Rattle.model.proofs.Laws.CallCosts.{Sized, sized_after, call_wears}

-- ---- no call makes more stores than an answer has room for

-- who replays has no volatile record, and its checkpoint is shorter than a log
board_few : (k : Bank) → WellFormed k → (b : ℕ) → b < length k.boards → board_owes (length k.directory + 2) (board_at k b) ≤ slot_count
unfolding board_owes
board_few k w b l =
    let x : Board = board_at k b in
    let f : Alone (length k.directory) x = (fits w b l).alone in
    let room : length x.stable.selected.log + length x.working.log ≤ slot_count = f.room in
    cases (λ (n : ℕ). length x.working.log + n ≤ slot_count) (is_replaying x.state)
    (λ t. omega (arith, ap length (f.replaying (is_replaying_replaying x.state t)), w.sizes.pages))
    (λ t. omega (arith, room))

-- each board owes at most a full log, and each page a dropped of each board
owes_few : (n p : ℕ) (k : Bank) → Sized n p k → owed (p + 2) n k ≤ n * (slot_count + p)
unfolding board_at copies_owe
owes_few n p k z =
    let logs : sum_over (board_owes (p + 2)) k.boards ≤ n * slot_count =
    rw (z.boards, z.pages) at (sum_few (board_owes (length k.directory + 2)) slot_count no_board k.boards (board_few k z.formed)) in
    let copies : sum_over (copies_owe n) k.directory ≤ p * n =
    rw z.pages at (sum_few (copies_owe n) n no_entry k.directory (λ i l. all_below_few _ n)) in
    omega (arith, logs, copies, mul-add n slot_count p, mul_comm p n)

asked_few : (n p : ℕ) (c : Call) → SizesOk n p → cost_asked p c ≤ most_pages * page_cost
unfolding cost_asked
asked_few n p (Accessing b a) s = omega (arith, all_below_few (names a) p, s.pages)
asked_few n p (Checkpointing b) s = omega (arith, s.pages)
asked_few n p (Fusing b m) s = omega arith
asked_few n p (Restarting b) s = omega (arith, s.pages)
asked_few n p (Comparing b c) s = omega arith

answered_few : (n p : ℕ) (c : Call) (x : Answer) → SizesOk n p → cost_answered p c x ≤ most_pages * page_cost
unfolding cost_answered if_event
answered_few n p c x s = cases (λ (m : ℕ). m ≤ most_pages * page_cost) (is_event x) (λ t. asked_few n p c s) (λ t. omega arith)

-- what a bank may owe, at most a full volatile log of each board and a dropped for each copy, and what an access of 16 pages costs
abbrev pub most_worn : ℕ
most_worn = most_boards * (slot_count + most_pages) + most_pages * page_cost

bank_few : (c : Call) (k : Bank) → WellFormed k → (call_bank c k).run.stores ≤ most_worn
bank_few c k w =
    let n : ℕ = length k.boards in
    let p : ℕ = length k.directory in
    let z : Sized n p k = record { formed = w; boards = refl; pages = refl } in
    let each : slot_count + p ≤ slot_count + most_pages = omega (arith, w.sizes.pages) in
    let most : n * (slot_count + p) ≤ most_boards * (slot_count + most_pages) = mul-le-mul w.sizes.boards each in
    omega (arith, owes_few n p k z, most, answered_few n p c (call_bank c k).answer w.sizes, call_wears n p c k z)

-- every call, on any bytes
pub call_worn : (c : Call) (s : List ℕ) → (call c s).outcome.stores ≤ most_worn
unfolding call refused reply_of
call_worn c s =
    cases (λ (y : Reply). y.outcome.stores ≤ most_worn) (well_formed s)
    (λ t. bank_few c (decode s) (well_formed_sound s t))
    (λ t. omega arith)

-- ---- any list of calls

-- no call costs more than P + 2 for each of its events, nor than the dearest
module _ (n p : ℕ) (s : SizesOk n p) where
  asked_events : (c : Call) → cost_asked p c ≤ events_asked p c * (p + 2)
  unfolding cost_asked events_asked
  asked_events (Accessing b a) = mul-le-mul_left (length (all_below p (names a))) (omega (arith, s.some_page))
  asked_events (Checkpointing b) = omega (arith, one-mul (p + 2))
  asked_events (Fusing b m) = omega arith
  asked_events (Restarting b) = omega (arith, one-mul (p + 2))
  asked_events (Comparing b c) = omega arith

  answered_events : (c : Call) (x : Answer) → cost_answered p c x ≤ events_answered p c x * (p + 2)
  unfolding cost_answered events_answered if_event
  answered_events c x =
      by_bool (is_event x) (λ t. rw (t, if_event) (asked_events c)) (λ t. rw (t, if_event) (omega arith))

  costs_events : (xs : List Observed) → costs_in p xs ≤ events_in p xs * (p + 2)
  unfolding costs_in events_in sum_over
  costs_events [] = omega arith
  costs_events (x ∷ xs) =
      let now : ℕ = events_answered p x.asked x.outcome.answer in
      omega (arith, answered_events x.asked x.outcome.answer, costs_events xs, add-mul now (events_in p xs) (p + 2))

  events_dearest : (m : ℕ) → m * (p + 2) ≤ m * dearest n p
  unfolding dearest
  events_dearest m = mul-le-mul_left m (omega arith)

  -- What holds between calls: the stores so far, and what the bank owes after any calls, are no more than it owed before them and what they cost.
  pub paid_from : (cs : List Call) (k : Bank) → Sized n p k
      → stores_in (run_of cs (encode k)) + owed (p + 2) n (decode (bytes_left (encode k) (run_of cs (encode k))))
      ≤ owed (p + 2) n k + costs_in p (run_of cs (encode k))
  unfolding run_of bytes_left stores_in costs_in sum_over reply_of
  paid_from [] k z = rw (decoded k z.formed) (omega arith)
  paid_from (c ∷ cs) k z =
      let j : Bank = (call_bank c k).run.bank in
      let P : Reply → Type 0 = λ r.
      (r.outcome.stores + stores_in (run_of cs r.bytes)) + owed (p + 2) n (decode (bytes_left r.bytes (run_of cs r.bytes)))
      ≤ owed (p + 2) n k + (cost_answered p c r.outcome.answer + costs_in p (run_of cs r.bytes)) in
      subst P (sym (call_encode c k z.formed)) (omega (arith, call_wears n p c k z, paid_from cs j (sized_after n p c k z)))

  -- from any well-formed bank
  hour_from : (cs : List Call) (k : Bank) → Sized n p k → HourBounded n p (run_of cs (encode k))
  hour_from cs k z = omega (arith, paid_from cs k z, owes_few n p k z, costs_events (run_of cs (encode k)))

pub hour_bounded : (s : List ℕ) → well_formed s ≡ true → (cs : List Call)
    → HourBounded (length (decode s).boards) (length (decode s).directory) (run_of cs s)
hour_bounded s t cs =
    let k : Bank = decode s in
    let w : WellFormed k = well_formed_sound s t in
    let z : Sized (length k.boards) (length k.directory) k = record { formed = w; boards = refl; pages = refl } in
    subst (λ u. HourBounded (length k.boards) (length k.directory) (run_of cs u)) (well_formed_back s t)
    (hour_from (length k.boards) (length k.directory) w.sizes cs k z)

-- a fresh bank owes nothing
fresh_owes : (n p e : ℕ) → owed e n (fresh n p) ≤ 0
unfolding board_at board_owes fresh_board is_replaying entry_at
fresh_owes n p e =
    let k : Bank = fresh n p in
    let board : (b : ℕ) → b < length k.boards → board_owes e (get_or k.boards b no_board) ≤ 0 =
    λ b l. let same : get_or k.boards b no_board ≡ fresh_board n p b = fresh_board_lem n p b (rw (fresh_boards n p) at l) in rw same (omega arith) in
    let page : (q : ℕ) → q < length k.directory → copies_owe n (get_or k.directory q no_entry) ≤ 0 =
    λ q l.
    let same : get_or k.directory q no_entry ≡ record { owner = q % n; copies = 0 } = fresh_entry n p q (rw (fresh_pages n p) at l) in
    rw same (omega (arith, no_copies e n (record { owner = q % n; copies = 0 }) refl)) in
    omega (
      arith,
      sum_few (board_owes e) 0 no_board k.boards board,
      sum_few (copies_owe n) 0 no_entry k.directory page,
      mul-zero (length k.boards),
      mul-zero (length k.directory),
    )

fresh_sized : (n p : ℕ) → SizesOk n p → Sized n p (fresh n p)
fresh_sized n p s =
    record {
      formed = fresh_well_formed n p s.some_board s.boards s.some_page s.pages;
      boards = fresh_boards n p;
      pages = fresh_pages n p;
    }

-- From a fresh bank of any size, for any list of calls: no premise is needed.
pub stores_paid : (n p : ℕ) → SizesOk n p → (cs : List Call) → StoresPaid p (run_of cs (begin n p).bytes)
unfolding made
stores_paid n p s cs =
    let xs : List Observed = run_of cs (encode (fresh n p)) in
    let costs : stores_in xs ≤ costs_in p xs = omega (arith, paid_from n p s cs (fresh n p) (fresh_sized n p s), fresh_owes n p (p + 2)) in
    record { costs = costs; events = omega (arith, costs, costs_events n p s xs) }

pub stores_bounded : (n p : ℕ) → SizesOk n p → (cs : List Call) → StoresBounded n p (run_of cs (begin n p).bytes)
stores_bounded n p s cs = omega (arith, (stores_paid n p s cs).events, events_dearest n p s (events_in p (run_of cs (begin n p).bytes)))

pub bounded_among : (n p : ℕ) → SizesOk n p → BoundedAmong n p
unfolding made
bounded_among n p s rs =
    let v : well_formed (begin n p).bytes ≡ true = fresh_bytes n p s.some_board s.boards s.some_page s.pages in
    subst (StoresBounded n p) (sym (seen_among_lem rs (begin n p).bytes v)) (stores_bounded n p s (calls_among rs))

-- ---- a read and a write are one event each

one_event : (pages b : ℕ) (a : Access) (q : ℕ) → q < pages → ((j : ℕ) → names a j ≡ eqb q j) → events_asked pages (Accessing b a) ≡ 1
unfolding events_asked
one_event pages b a q l same =
    ap length (all_below_one (names a) pages q (same q ∙ eq-eqb q q refl) (λ j h. sym (eqb-true q j (sym (same j) ∙ h))) l)

pub read_event : (pages b q o : ℕ) → q < pages → events_asked pages (Accessing b (Read q o)) ≡ 1
unfolding names cells_read cells_written any_cell any_write
read_event pages b q o l = one_event pages b (Read q o) q l (λ j. by_bool (eqb q j) (λ t. cc) (λ t. cc))

pub write_event : (pages b q o v : ℕ) → q < pages → events_asked pages (Accessing b (Write q o v)) ≡ 1
unfolding names cells_read cells_written any_cell any_write
write_event pages b q o v l = one_event pages b (Write q o v) q l (λ j. by_bool (eqb q j) (λ t. cc) (λ t. cc))

-- ---- checkpoints of one board

module _ (n p b : ℕ) where
  -- board b of the bank can be checkpointed, and no fuse is set
  record CanCheckpoint (k : Bank) : Type 0 where
    sized : Sized n p k
    here : b < n
    up : (board_at k b).state ≡ Up
    fuses : Unfused k

  module _ (k : Bank) (z : CanCheckpoint k) where
    abbrev saved : Run
    saved = checkpoint b (start k)

    saved_safe : Safe saved
    unfolding start
    saved_safe = checkpoint_safe b (start k) (record { lost = refl; fuses = z.fuses })

    checkpointed : call_bank (Checkpointing b) k ≡ record { answer = Done 0; run = saved; given = [] }
    unfolding call_bank checkpoint_bank unless first_given finished is_up
    checkpointed = cc (lt-ltb b (length k.boards) (rw z.sized.boards z.here), z.up, saved_safe.lost)

    saved_stores : saved.stores ≡ p + 2
    unfolding start
    saved_stores = omega (arith, checkpoint_count b (start k) saved_safe.lost, z.sized.pages)

    saved_can : CanCheckpoint saved.bank
    unfolding start
    saved_can =
        let l : b < length k.boards = rw z.sized.boards z.here in
        let run : (call_bank (Checkpointing b) k).run.bank ≡ saved.bank = ap (λ (t : Result). t.run.bank) checkpointed in
        record {
          sized = subst (Sized n p) run (sized_after n p (Checkpointing b) k z.sized);
          here = z.here;
          up = ((checkpoint_changed b (start k) saved_safe.lost).this l).state ∙ z.up;
          fuses = saved_safe.fuses;
        }

  -- each is an event, and makes P + 2 stores
  record EachCheckpoints (xs : List Observed) : Type 0 where
    stores : stores_in xs ≡ length xs * (p + 2)
    events : events_in p xs ≡ length xs

  checkpoints_from : (cs : List Call) (k : Bank) → CanCheckpoint k → Each (λ x. x.asked ≡ Checkpointing b) (run_of cs (encode k))
      → EachCheckpoints (run_of cs (encode k))
  unfolding run_of stores_in events_in sum_over events_answered events_asked if_event is_event code reply_of
  checkpoints_from [] k z h = record { stores = omega arith; events = refl }
  checkpoints_from (c ∷ cs) k z h =
      let saved : Run = checkpoint b (start k) in
      let q : call c (encode k) ≡ reply_of (record { answer = Done 0; run = saved; given = [] }) =
      ap (λ (d : Call). call d (encode k)) (each_head h) ∙ (call_encode (Checkpointing b) k z.sized.formed ∙ ap reply_of (checkpointed k z)) in
      let more : EachCheckpoints (run_of cs (encode saved.bank)) = checkpoints_from cs saved.bank (saved_can k z) (rw q at (each_tail h)) in
      record {
        stores = rw q (omega (arith, saved_stores k z, more.stores, suc-mul (length (run_of cs (encode saved.bank))) (p + 2)));
        events = rw (q, each_head h) (omega (arith, more.events));
      }

fresh_unfused : (n p : ℕ) → Unfused (fresh n p)
unfolding fresh_board no_board
fresh_unfused n p c =
    by_board (fresh n p) c
    (λ l. ap (λ (x : Board). x.fuse) (fresh_board_lem n p c (rw (fresh_boards n p) at l)))
    (λ l. ap (λ (x : Board). x.fuse) (board_at_out (fresh n p) c l))

-- what is seen of calls is one of each, of what was asked
run_length : (cs : List Call) (s : List ℕ) → length (run_of cs s) ≡ length cs
unfolding run_of
run_length [] s = refl
run_length (c ∷ cs) s = ap suc (run_length cs (call c s).bytes)

run_asked : {P : Call → Type 0} (cs : List Call) (s : List ℕ) → Each P cs → Each (λ x. P x.asked) (run_of cs s)
unfolding run_of
run_asked [] s h = each_nil
run_asked (c ∷ cs) s h = each_cons (each_head h) (run_asked cs (call c s).bytes (each_tail h))

pub checkpoints_reach : (n p : ℕ) → SizesOk n p → (cs : List Call) → CheckpointsReach n p (run_of cs (begin n p).bytes)
unfolding made dearest fresh_board
checkpoints_reach n p s cs b l h =
    let xs : List Observed = run_of cs (encode (fresh n p)) in
    let can : CanCheckpoint n p b (fresh n p) =
    record {
      sized = fresh_sized n p s;
      here = l;
      up = ap (λ (x : Board). x.state) (fresh_board_lem n p b l);
      fuses = fresh_unfused n p;
    } in
    let all : EachCheckpoints n p b xs = checkpoints_from n p b cs (fresh n p) can h in
    record {
      stores = all.stores;
      events = all.events;
      reached =
          λ more.
          let m : dearest n p ≡ p + 2 = omega (arith, more) in
          all.stores ∙ (ap (λ (i : ℕ). i * (p + 2)) (sym all.events) ∙ ap (λ (i : ℕ). events_in p xs * i) (sym m));
    }

-- beside the request's sentence: m checkpoints of board b
pub checkpoints_worn : (n p b m : ℕ) → SizesOk n p → b < n → stores_in (run_of (replicate m (Checkpointing b)) (begin n p).bytes) ≡ m * (p + 2)
checkpoints_worn n p b m s l =
    let cs : List Call = replicate m (Checkpointing b) in
    (checkpoints_reach n p s cs b l (run_asked cs (begin n p).bytes (each_replicate m (Checkpointing b) refl))).stores
    ∙ ap (λ (i : ℕ). i * (p + 2)) (run_length cs (begin n p).bytes ∙ length-replicate m (Checkpointing b))
