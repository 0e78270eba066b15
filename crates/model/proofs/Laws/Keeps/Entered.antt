-- What the tests on entry leave of an access, and of a replaying board that it repeats. Assumes nothing.
use Rattle.std.specs.Prelude.{◌≡◌, refl, ◌≢◌, ℕ, ◌<◌, Bool, true, false, ◌&&◌, not, List, [], ◌∷◌, length, ltb}
use Rattle.std.proofs.Common.{arith}
use Rattle.std.proofs.Math.Option.{none}
use Rattle.std.proofs.Math.Dec.{eqb}
use borrow.Author.Tests.{eqb-true, eqb-false, ltb-true, not-false}
use Rattle.types.specs.declared.State.TheVariants.{Replaying}
use Rattle.words.specs.Bytes.{Each}
use Rattle.model.specs.Definitions.Parts.{every}
use Rattle.model.specs.Definitions.Layout.{byte_values, last_since, last_number}
use Rattle.model.specs.Definitions.Bank.{Board, Bank, board_at, entry_at, on_board}
use Rattle.model.specs.Definitions.WellFormed.{FieldsOk, is_down, is_replaying, WellFormed}
use Rattle.model.specs.Definitions.Steps.{Run, start, rested_working, Access, Cell, cells_read, cells_written, any_cell, any_write, names}
use Rattle.model.specs.Definitions.Replay.{differs, took_due, replay_over, settled, end_replay, replayed}
use Rattle.model.specs.Definitions.Calls.{first_given, cell_in_range, access_in_range, counters_full, refusals_within, access_refusals}
use Rattle.model.proofs.Laws.Logic.{by_bool, clash, and_left, and_right, and_both}
use Rattle.model.proofs.Laws.Lists.{each_head, each_tail, each_imp, every_each}
use Rattle.model.proofs.Laws.Boards.{boards_on_board, directory_on_board, board_at_same}
use Rattle.model.proofs.Laws.Runs.{Changed}
use Rattle.model.proofs.Laws.Runs.Stores.{Ended, end_replay_changed}
use Rattle.model.proofs.Laws.Keeps.Clauses.{fits, but, on_board_but, is_down_not, up_left}
use Rattle.model.specs.Clauses.{InReplay, WellFormedBut, CanAccess, Entered}
use Rattle.model.proofs.Laws.Keeps.Peers.{took_due_peers, replayed_peers}
use Rattle.model.proofs.Laws.Keeps.Accesses.{writable}
use Rattle.model.proofs.Laws.Keeps.Rights.{or_cases, or_none}
use Rattle.model.proofs.Laws.Keeps.Live.{NoneOf, first_of_none}
use Rattle.model.proofs.Laws.Keeps.Replay.{TookDue, took_due_took, fits_has, fits_in_replay, took_due_in_replay, replayed_in_replay}

-- ---- an access of a replaying board

-- a board that entered and isn't replaying is up
pub entered_live : (b : ℕ) (a : Access) (k : Bank) → Entered b a k → is_replaying (board_at k b).state ≡ false → CanAccess b a k
entered_live b a k i t =
    record { pages = i.pages; values = i.values; up = up_left (board_at k b).state i.power t; since = i.since; number = i.number }

module _ (b : ℕ) (a : Access) (k : Bank) (w : WellFormed k) (i : Entered b a k)
    (rep : (board_at k b).state ≡ Replaying) (same : differs a (board_at k b) ≡ false) where
  abbrev x : Board
  x = board_at k b

  abbrev taken : Bank
  taken = on_board b took_due k

  pub board_taken : board_at taken b ≡ took_due x
  board_taken = board_at_same b took_due k i.board

  pub below_taken : b < length taken.boards
  below_taken = rw (boards_on_board b took_due k) i.board

  pub taken_in_replay : WellFormedBut b InReplay taken
  taken_in_replay =
      on_board_but b took_due k (but {Kept = InReplay} w (λ h. fits_in_replay k.directory b x h rep))
      (λ l h. took_due_in_replay k.directory b x h)
      (took_due_peers x)

  -- the access goes on after the end of the replay: the board is up, its number is that of entry
  pub live_can : (end_replay b (start taken)).lost ≡ none → CanAccess b a (end_replay b (start taken)).bank
  unfolding start settled rested_working
  live_can n =
      let r : Run = end_replay b (start taken) in
      let c : Changed b (Ended (λ p. eqb (entry_at taken p).owner b)) taken r.bank = end_replay_changed b (start taken) n in
      let e : Ended (λ p. eqb (entry_at taken p).owner b) (board_at taken b) (board_at r.bank b) = c.this below_taken in
      record {
        pages = λ p t. rw (c.directory, directory_on_board b took_due k) (i.pages p t);
        values = i.values;
        up = e.state;
        since = rw e.working (omega arith);
        number = rw (e.working, board_taken, (took_due_took x).number) i.number;
      }

  -- the access repeats one of before: it finds its rights, and the records that it makes due are used up
  pub replayed_keeps : replay_over (took_due (board_at k b)) ≡ false → WellFormedBut b InReplay (on_board b (replayed a) taken)
  replayed_keeps over =
      on_board_but b (replayed a) taken taken_in_replay
      (λ l h.
      let t : TookDue x.working (took_due x).working = took_due_took x in
      let v : InReplay k.directory b (took_due x) = took_due_in_replay k.directory b x (fits_in_replay k.directory b x (fits w b i.board) rep) in
      let s : (took_due x).working.since < last_since = omega (arith, t.since, i.since) in
      replayed_in_replay taken.directory b a (board_at taken b) h
      (rw board_taken s)
      (rw (board_taken, t.number) i.number)
      (rw board_taken
      (writable a (took_due x).working.frames (fits_has a x same over)
      (λ p n. rw v.alone.fields.working.frames.count (i.pages p n)) i.values)))
      (replayed_peers a (board_at taken b))

-- ---- any access

-- "board ≥ N, page ≥ P, offset ≥ 16, value > 255": none of them
record InRange (b : ℕ) (a : Access) (k : Bank) : Type 0 where
  board : b < length k.boards
  pages : (p : ℕ) → names a p ≡ true → p < length k.directory
  values : Each (λ v. v.1 < byte_values) (cells_written a)

-- a page that is named is that of a cell
pub cell_of : {n : ℕ} (cs : List Cell) (p : ℕ) → any_cell cs p ≡ true → Each (λ c. c.page < n) cs → p < n
unfolding any_cell
cell_of [] p t e = clash t refl
cell_of (c ∷ cs) p t e =
    or_cases (eqb c.page p) (any_cell cs p) t (λ s. rw (← eqb-true c.page p s) (each_head e)) (λ s. cell_of cs p s (each_tail e))

write_of : {n : ℕ} (ws : List (Cell × ℕ)) (p : ℕ) → any_write ws p ≡ true → Each (λ w. w.0.page < n) ws → p < n
unfolding any_write
write_of [] p t e = clash t refl
write_of (w ∷ ws) p t e =
    or_cases (eqb w.0.page p) (any_write ws p) t (λ s. rw (← eqb-true w.0.page p s) (each_head e)) (λ s. write_of ws p s (each_tail e))

cell_in : (n : ℕ) (c : Cell) → cell_in_range n c ≡ true → c.page < n
unfolding cell_in_range
cell_in n c t = ltb-true c.page n (and_left (ltb c.page n) _ t)

in_range : (b : ℕ) (a : Access) (k : Bank) → access_in_range b a k ≡ true → InRange b a k
unfolding access_in_range names
in_range b a k t =
    let n : ℕ = length k.directory in
    let reads : Bool = every (cell_in_range n) (cells_read a) in
    let wants : Cell × ℕ → Bool = λ w. cell_in_range n w.0 && ltb w.1 byte_values in
    let u : (reads && every wants (cells_written a)) ≡ true = and_right (ltb b (length k.boards)) _ t in
    let read : Each (λ c. c.page < n) (cells_read a) = every_each (cell_in_range n) (cells_read a) (cell_in n) (and_left reads _ u) in
    let writes : Each (λ w. (w.0.page < n) × (w.1 < byte_values)) (cells_written a) =
    every_each wants (cells_written a)
    (λ w s. (cell_in n w.0 (and_left (cell_in_range n w.0) _ s), ltb-true w.1 byte_values (and_right (cell_in_range n w.0) _ s)))
    (and_right reads _ u) in
    record {
      board = ltb-true b (length k.boards) (and_left (ltb b (length k.boards)) _ t);
      pages = λ p s.
          or_cases (any_cell (cells_read a) p) (any_write (cells_written a) p) s
          (λ c. cell_of (cells_read a) p c read)
          (λ c. write_of (cells_written a) p c (each_imp (cells_written a) (λ w l. l.0) writes));
      values = each_imp (cells_written a) (λ w l. l.1) writes;
    }

module _ (b : ℕ) (a : Access) (k : Bank) (w : WellFormed k) where
  pub entered : first_given (access_refusals b a k) ≡ none → Entered b a k
  unfolding refusals_within counters_full
  entered e =
      let x : Board = board_at k b in
      let one : NoneOf (not (access_in_range b a k)) _ = first_of_none _ _ _ e in
      let two : NoneOf (is_down x.state) _ = first_of_none _ _ _ (first_of_none _ _ _ one.rest).rest in
      let three : NoneOf (counters_full last_since x) _ = first_of_none _ _ _ two.rest in
      let range : InRange b a k = in_range b a k (not-false _ one.here) in
      let low : FieldsOk (length k.directory) x = (fits w b range.board).alone.fields in
      let free : (eqb x.working.since last_since ≡ false) × (eqb x.working.number last_number ≡ false) = or_none _ _ three.here in
      let since : x.working.since ≢ last_since = eqb-false x.working.since last_since free.0 in
      let number : x.working.number ≢ last_number = eqb-false x.working.number last_number free.1 in
      record {
        board = range.board;
        pages = range.pages;
        values = range.values;
        power = is_down_not x.state two.here;
        since = omega (arith, low.working.since);
        number = omega (arith, low.working.number);
      }

  -- code 5 let a replaying board's access pass
  pub fitting : first_given (access_refusals b a k) ≡ none → is_replaying (board_at k b).state ≡ true → differs a (board_at k b) ≡ false
  unfolding refusals_within
  fitting e t =
      let x : Board = board_at k b in
      let four : NoneOf (is_replaying x.state && differs a x) _ =
      first_of_none _ _ _ (first_of_none _ _ _ (first_of_none _ _ _ (first_of_none _ _ _ (first_of_none _ _ _ e).rest).rest).rest).rest in
      by_bool (differs a x) (λ s. clash (and_both t s) four.here) (λ s. s)
