-- F-4's purpose (History/ServedStatement): a read of a page whose owner isn't up and of which some board holds a copy is never answered 6, is done where
-- nothing else stands against it, and gives the byte of whoever gave the page. From the table of codes, and from this: where no fuse is set a read loses no
-- power. Assumes nothing.
use Rattle.std.specs.Prelude.{◌≡◌, ◌⊎◌, ℕ, suc, ◌+◌, ◌≤◌, ◌<◌, Bool, true, List, [], ◌∷◌, length, get_or}
use Rattle.std.proofs.Math.Path.{refl, ap}
use Rattle.std.proofs.Common.{◌∙◌, not-le_of_lt, arith, eqb-true}
use Rattle.std.proofs.Math.Logic.{inl, inr}
use Rattle.std.proofs.Math.Bool.{false}
use Rattle.std.proofs.Math.Option.{none}
use Rattle.types.specs.declared.CopyOrOwn.{CopyOrOwn}
use Rattle.types.specs.declared.CopyOrOwn.TheVariants.{GotCopy, GotOwn}
use Rattle.types.specs.declared.Kind.TheVariants.{Shown}
use Rattle.types.specs.declared.State.TheVariants.{Up}
use Rattle.types.specs.declared.Answer.{Answer}
use Rattle.types.specs.declared.Answer.TheVariants.{Malformed}
use Rattle.model.specs.Definitions.Parts.{zeros}
use Rattle.model.specs.Definitions.Layout.{page_size, slot_count}
use Rattle.model.specs.Definitions.Bank.{Board, Bank, no_board, board_at, on_working}
use Rattle.model.specs.Definitions.WellFormed.{WellFormed, is_replaying}
use Rattle.model.specs.Definitions.Codec.{decode}
use Rattle.model.specs.Definitions.Check.{well_formed}
use Rattle.model.specs.Definitions.Answers.{code, value}
use Rattle.model.specs.Definitions.Steps.{Run, start, step, recorded, note, moved_record, stored_record, record_stores, flush}
use Rattle.model.specs.Definitions.Steps.{Access, Read, cells_read, cells_written, takes, access, giver, show, show_all, give_copies}
use Rattle.model.specs.Definitions.Steps.{lacks, frame_of, read_fetch, fetch}
use Rattle.model.specs.Definitions.Calls.{Result, first_given, unless, copies_out, lacking_of, pages_lacking, live_refusals, prepared}
use Rattle.model.specs.Definitions.Calls.{performed, live, access_refusals, access_within, access_bank, Accessing, call_bank, refused, reply_of, call}
use Rattle.model.specs.Clauses.{stored_count, volatile_count, RoomFor}
use Rattle.model.proofs.Laws.Logic.{cases, cases_option, by_bool, by_eq, clash}
use Rattle.model.proofs.Laws.Sets.{member_none}
use Rattle.model.proofs.Laws.Boards.{board_at_out, by_board, stored_record_cases}
use Rattle.model.proofs.Laws.Runs.{lost_not, step_cases, each_record_stores, finished_run}
use Rattle.model.proofs.Laws.Runs.Unfused.{Unfused, Safe, on_board_unfused, step_safe, store_all_safe}
use Rattle.model.proofs.Laws.WellFormedTest.{well_formed_sound}
use Rattle.model.proofs.Laws.Keeps.Clauses.{fits, up_below, up_not_down, up_not_replaying}
use Rattle.model.proofs.Laws.Moves.Calls.{copy_out}
use Rattle.model.proofs.Laws.CellsRead.{page_seen, byte_seen, read_done, read_copy, single_seen}
use Rattle.model.proofs.Laws.Codes.Ends.{access_done_form}
use Rattle.model.proofs.Laws.Codes.{codes_done, code_6}
use Rattle.model.proofs.Laws.Codes.Ends.{power_lost}
use Rattle.model.proofs.Laws.Codes.Losses.{loses_power_lem}
use Rattle.model.proofs.Laws.Codes.Needs.{says_giver}
use Rattle.model.proofs.Laws.Codes.Order.{never}
use Rattle.model.specs.Laws.Codes.Statement.{bank_rows, NoRow, Some, OfAccess, AccessOut, NumbersOut, CellsOut, AskedOut, StateOut, SameTwice}
use Rattle.model.specs.Laws.Codes.Statement.{CountersOut, Names, ReplayOut}
use Rattle.model.specs.Laws.Codes.Statement.{LiveOn, up, replay_ended, NobodyGives, SomeMissing, OwnerOut, GivesToReader, Needs, nothing, reader}
use Rattle.model.specs.Laws.Codes.Statement.{read_giver, writer, write_owner, other_holder, holder, NeedsAll, no_pages, one_page, SomeShort, RoomOut}
use Rattle.model.specs.Laws.Codes.Statement.{refusal_rows, table}
use Rattle.model.specs.History.ServedStatement.{CanBeHad, AllCanBeHad, Never6, IsServed, OnlyHeld, CanRead, ReadNever6, ReadIsServed, ReadGivesHeld}

-- ==== where no fuse is set

stored_record_fuse : (x : Board) → (stored_record x).fuse ≡ x.fuse
unfolding stored_record moved_record
stored_record_fuse x = stored_record_cases (λ y. y.fuse ≡ x.fuse) x (λ e. refl) (λ r rs e. refl)

show_safe : (o b p : ℕ) (r : Run) → Safe r → Safe (show o b p r)
unfolding show flush note on_working
show_safe o b p r q =
    let noted : Run = step (note o (Shown p) b (zeros page_size)) r in
    store_all_safe o (record_stores (board_at noted.bank o)) noted
    (each_record_stores {P = λ f. (x : Board) → (f x).fuse ≡ x.fuse} stored_record_fuse (board_at noted.bank o))
    (step_safe (note o (Shown p) b (zeros page_size)) r (on_board_unfused o (on_working (recorded (Shown p) b (zeros page_size))) r.bank (λ x e. e)) q)

show_all_safe : (b : ℕ) (ps : List ℕ) (r : Run) → Safe r → Safe (show_all b ps r)
unfolding show_all
show_all_safe b [] r q = q
show_all_safe b (p ∷ ps) r q = let o : ℕ = giver GotCopy r.bank p in show_all_safe b ps (show o b p r) (show_safe o b p r q)

-- a step loses no power
step_keeps_power : (f : Bank → Bank) (r : Run) → r.lost ≡ none → (step f r).lost ≡ none
step_keeps_power f r e = step_cases (λ s. s.lost ≡ none) f r (λ c n. lost_not e n) (λ n. refl)

fetch_power : (g : CopyOrOwn) (b : ℕ) (ps : List ℕ) (r : Run) → g ≡ GotCopy → Safe r → (fetch g b ps r).lost ≡ none
unfolding fetch read_fetch
fetch_power GotCopy b ps r e q = step_keeps_power (give_copies b ps) (show_all b ps r) (show_all_safe b ps r q).lost
fetch_power GotOwn b ps r e q = never (cc)

module _ (b : ℕ) (a : Access) (copy : takes a ≡ GotCopy) where
  prepared_power : (r : Run) → Safe r → (prepared b a r).lost ≡ none
  unfolding prepared
  prepared_power r q =
      cases (λ (s : Run). s.lost ≡ none) (lacking_of b a r.bank)
      (λ t. fetch_power (takes a) b (pages_lacking b a r.bank) r copy q)
      (λ t. cases (λ (s : Run). s.lost ≡ none) (copies_out a r.bank) (λ o. clash o (copy_out a r.bank copy)) (λ o. q.lost))

  unless_power : (tests : List (Bool × Answer)) (r : Run) (go : Result) → r.lost ≡ none → go.run.lost ≡ none → (unless tests r go).run.lost ≡ none
  unfolding unless
  unless_power tests r go e h = cases_option (λ (t : Result). t.run.lost ≡ none) (first_given tests) (λ n. h) (λ x n. e)

  live_power : (r : Run) → Safe r → (live b a r).run.lost ≡ none
  unfolding live performed
  live_power r q =
      unless_power (live_refusals b a r.bank) r (performed b a (prepared b a r)) q.lost
      (ap (λ (s : Run). s.lost) (finished_run _ _ (step (access b a) (prepared b a r)))
      ∙ step_keeps_power (access b a) (prepared b a r) (prepared_power r q))

  access_power : (k : Bank) → (board_at k b).state ≡ Up → Unfused k → (access_bank b a k).run.lost ≡ none
  unfolding access_within start is_replaying
  access_power k u f =
      let idle : is_replaying (board_at k b).state ≡ false = ap is_replaying u in
      unless_power (access_refusals b a k) (start k) _ refl
      (cases (λ (t : Result). t.run.lost ≡ none) (is_replaying (board_at k b).state)
      (λ t. clash t idle)
      (λ t. live_power (start k) (record { lost = refl; fuses = f })))

-- ==== never 6

-- an up board's access is live on the bank as it is
live_here : (b : ℕ) (a : Access) (k j : Bank) → (board_at k b).state ≡ Up → LiveOn b a k j → j ≡ k
live_here b a k j u (up v) = refl
live_here b a k j u (replay_ended v d n l) = up_not_replaying u v

had_not_nobody : (g : CopyOrOwn) (k : Bank) (p : ℕ) → g ≡ GotCopy → CanBeHad k p → ¬ NobodyGives g k p
unfolding NobodyGives
had_not_nobody GotCopy k p e (inl u) n = n.0 u
had_not_nobody GotCopy k p e (inr h) n = clash h.1 (rw n.1 (member_none h.0))
had_not_nobody GotOwn k p e h n = never (cc)

module _ (b : ℕ) (a : Access) where
  none_missing : (k j : Bank) → takes a ≡ GotCopy → (board_at k b).state ≡ Up → AllCanBeHad a k → LiveOn b a k j → ¬ SomeMissing b a j
  none_missing k j copy u had on m =
      let same : j ≡ k = live_here b a k j u on in
      let (p, l, from) = rw same at m in
      had_not_nobody (takes a) k p copy (had p l from.0.0) from.1

  pub never_6 : (s : List ℕ) → Never6 b a s
  unfolding OwnerOut OfAccess
  never_6 s copy u had e =
      let m = ((code_6 (Accessing b a) s).0 e).1.1.1.1.1.1.1 in none_missing (decode s) m.0 copy u had m.1 m.2

  -- ==== done

  pub is_served : (s : List ℕ) → IsServed b a s
  unfolding table bank_rows refusal_rows NoRow OfAccess NumbersOut AskedOut SameTwice StateOut CountersOut ReplayOut OwnerOut RoomOut call_bank no_board
  is_served s w copy u had h =
      let k : Bank = decode s in
      let quiet : Unfused k = λ c. by_board k c (λ l. h.fuses c l) (λ l. ap (λ (x : Board). x.fuse) (board_at_out k c l)) in
      (codes_done (Accessing b a) s).1 (
        λ t. clash w t,
        (
          h.numbers,
          (
            h.cells,
            (
              λ z. z,
              (
                λ d. up_not_down u d,
                (
                  h.counters,
                  (
                    λ r. up_not_replaying u r.0,
                    (
                      λ m. none_missing k m.0 copy u had m.1 m.2,
                      (
                        λ m. h.roomy (let same : m.0 ≡ k = live_here b a k m.0 u m.1 in rw same at m.2),
                        (
                          λ l.
                              lost_not (access_power b a copy k u quiet)
                              ((power_lost (Accessing b a) k l.0).0 ((loses_power_lem (Accessing b a) k (well_formed_sound s w) l.0).1 l.1)),
                          tt,
                        ),
                      ),
                    ),
                  ),
                ),
              ),
            ),
          ),
        ),
      )

-- ==== one page

read_names : (p o q : ℕ) → Names (Read p o) q → p ≡ q
unfolding Some cells_read cells_written
read_names p o q (inl (inl e)) = e
read_names p o q (inl (inr n)) = absurd n
read_names p o q (inr n) = absurd n

held_had : (k : Bank) (p o : ℕ) → OnlyHeld k p → AllCanBeHad (Read p o) k
held_had k p o held q l n = let e : p ≡ q = read_names p o q n in rw (← e) (inr (held.holder, held.holds))

-- who has a part in the read of one page, and how much it needs
record Part (b p : ℕ) (k : Bank) (c q n : ℕ) : Type 0 where
  few : n ≤ 1
  who : n ≡ 1 → (q ≤ p) × ((c ≡ b) ⊎ GivesToReader k p c)

module _ (b p o : ℕ) (k : Bank) (c : ℕ) where
  page_part : (q n : ℕ) → Needs b (Read p o) k c q n → (n ≡ 0) ⊎ ((n ≡ 1) × (p ≡ q) × ((c ≡ b) ⊎ GivesToReader k p c))
  unfolding takes Some cells_written
  page_part q n nothing = inl refl
  page_part q n (reader f e) = inr (refl, read_names p o q f.1.0, inl e)
  page_part q n (read_giver f g) = let e : p ≡ q = read_names p o q f.1.0 in inr (refl, e, inr (rw e g))
  page_part q n (writer f e) = never (cc f.0)
  page_part q n (write_owner f d e) = never (cc f.0)
  page_part q n (other_holder f d h) = never (cc f.0)
  page_part q n (holder f h) = absurd f.0

  parts : (q m total : ℕ) → NeedsAll b (Read p o) k c q m total → Part b p k c q total
  parts q m total no_pages = record { few = omega arith; who = λ e. absurd (omega arith) }
  parts q j t (one_page {n = n} {m = m} {total = total} u v) =
      let rest : Part b p k c (suc q) total = parts (suc q) n total v in
      elim (page_part q m u) [
        | inl z ↦ record { few = omega (arith, z, rest.few); who = λ e. let w = rest.who (omega (arith, z, e)) in (omega (arith, w.0), w.1) }
        | inr h ↦
            let none_behind : total ≡ 0 = by_eq total 1 (λ e. absurd (omega (arith, (rest.who e).0, h.1))) (λ d. omega (arith, rest.few, d)) in
            record { few = omega (arith, h.0, none_behind); who = λ e. (omega (arith, h.1), h.2) }
      ]

-- no log is too full for it
no_short : {b p o : ℕ} (k : Bank) → WellFormed k → CanRead b p o k → ¬ SomeShort b (Read p o) k
no_short {b} {p} {o} k w can (c, l, short) =
    let n : ℕ = short.0 in
    let over : slot_count < stored_count (board_at k c) + volatile_count (board_at k c) + n = short.2 in
    let part : Part b p k c 0 n = parts b p o k c 0 (length k.directory) n short.1 in
    by_eq n 1
    (λ e.
    elim (part.who e).1 [
      | inl i ↦ let r : RoomFor 1 (board_at k c) = rw i can.reader_room in not-le_of_lt over (omega (arith, r, e))
      | inr g ↦ not-le_of_lt over (omega (arith, can.giver_room c g, e))
    ])
    (λ d. not-le_of_lt over (omega (arith, (fits w c l).alone.room, part.few, d)))

pub read_never_6 : (b p o : ℕ) (s : List ℕ) → ReadNever6 b p o s
read_never_6 b p o s u held = never_6 b (Read p o) s (read_copy p o) u (held_had (decode s) p o held)

pub read_is_served : (b p o : ℕ) (s : List ℕ) → ReadIsServed b p o s
unfolding AccessOut CellsOut Some cells_read cells_written
read_is_served b p o s w held can =
    let k : Bank = decode s in
    is_served b (Read p o) s w (read_copy p o) can.up (held_had k p o held)
    (record {
      numbers =
          λ out.
          elim out [
            | inl n ↦ not-le_of_lt (up_below k b can.up) n
            | inr (inl (inl (inl n))) ↦ not-le_of_lt can.page n
            | inr (inl (inl (inr n))) ↦ not-le_of_lt can.offset n
            | inr (inl (inr n)) ↦ n
            | inr (inr n) ↦ n
          ];
      cells = λ n. n;
      counters = can.counters;
      roomy = λ short. no_short k (well_formed_sound s w) can short;
      fuses = can.fuses;
    })

-- who gives is the one that the read asks
pub read_gives_held : (b p o : ℕ) (s : List ℕ) → ReadGivesHeld b p o s
unfolding call reply_of refused call_bank code page_seen lacks
read_gives_held b p o s u done none_here c l g =
    let a : Access = Read p o in
    let k : Bank = decode s in
    by_bool (well_formed s)
    (λ t.
    let w : WellFormed k = well_formed_sound s t in
    let one : call (Accessing b a) s ≡ reply_of (access_bank b a k) = cc in
    let v : ℕ = value (access_bank b a k).answer in
    let seen : v ≡ byte_seen b k (record { page = p; offset = o }) =
    single_seen b k p o v _ (read_done b a k w u (read_copy p o) v (access_done_form b a k (rw one at done))).read in
    let lack : lacks GotCopy (frame_of k b p).right ≡ true = ap (lacks GotCopy) none_here in
    let from : c ≡ giver GotCopy k p = eqb-true c (giver GotCopy k p) ((says_giver k p c (omega (arith, l, w.sizes.boards))).1 g) in
    let given : page_seen b k p ≡ (frame_of k (giver GotCopy k p) p).bytes = cc in
    rw (one, from) (seen ∙ ap (λ (bytes : List ℕ). get_or bytes o 0) given))
    (λ t. let one : call (Accessing b a) s ≡ refused Malformed s = cc in let z : ◌≡◌ {A = ℕ} 1 0 = rw one at done in absurd (omega arith))
