-- An access of a replaying board in the shape in which the code does it: goes on live, is the last one repeated, or is repeated. Assumes nothing.
use Rattle.std.proofs.Math.Path.{◌≡◌, sym, ap}
use Rattle.std.specs.Prelude.{refl, ℕ, ◌+◌, ◌<◌, Bool, length}
use Rattle.std.proofs.Common.{◌∙◌, arith}
use Rattle.std.proofs.Math.Bool.{true, false}
use Rattle.std.proofs.Math.Option.{none, some}
use mathlib.Core.List.{List, []}
use Rattle.types.specs.declared.Frame.{Frame}
use Rattle.types.specs.declared.Outcome.{Outcome}
use Rattle.accesses.specs.declared.ask.Ask.{Ask}
use Rattle.types.specs.declared.Answer.TheVariants.{Done, PowerLost}
use Rattle.accesses.specs.declared.blocks.Replayed.TheVariants.{Live, Last, Going}
use Rattle.model.specs.Definitions.Answers.{code, value}
use Rattle.model.specs.Definitions.Bank.{Board, Bank, no_board, board_at, on_board}
use Rattle.model.specs.Definitions.Codec.{encode, decode}
use Rattle.model.specs.Definitions.WellFormed.{WellFormed}
use Rattle.model.specs.Definitions.Steps.{Run, start, Access, read_from, value_of, given_of}
use Rattle.model.specs.Definitions.Replay.{took_due, replay_over, end_replay, end_if_over, replayed}
use Rattle.model.specs.Definitions.Calls.{finished, live, live_after_end, replaying}
use Rattle.model.proofs.Laws.Logic.{by_bool}
use Rattle.model.proofs.Laws.Lists.{update_set}
use Rattle.model.proofs.Laws.Boards.{boards_on_board, board_at_same, on_board_on_board}
use Rattle.model.proofs.Laws.Runs.{SameSizes, follows_end_replay}
use Rattle.model.specs.Clauses.{InReplay, WellFormedBut}
use Rattle.copies.specs.Banks.{Holds, holds_well_formed, holds_decode, holds_of}
use Rattle.exchange.specs.Progress.{running, lost_by, Came}
use Rattle.model.specs.Likeness.{on_value}
use Rattle.accesses.specs.Asks.{Asks}
use Rattle.accesses.specs.Results.{Answered, ended_as}
use Rattle.accesses.specs.BlockReplay.{replayed_board, replayed_to}
use Rattle.model.proofs.Laws.Moves.Stores.{end_replay_keeps}
use Rattle.model.proofs.Laws.Moves.Calls.{bytes_seen_lem}

-- steps that do the same to a board do the same to the bank
on_board_at : (b : ℕ) (f g : Board → Board) (k : Bank) → b < length k.boards → f (board_at k b) ≡ g (board_at k b) → on_board b f k ≡ on_board b g k
unfolding on_board board_at
on_board_at b f g k h e = rw (update_set b f k.boards no_board h, update_set b g k.boards no_board h, e)

-- ---- how far an access came, as the code is told it

module _ (a : Access) (x : Board) where
  pub to_live : replay_over (took_due x) ≡ true → (Live ≡ replayed_to a x) × (took_due x ≡ replayed_board a x)
  unfolding replayed_to replayed_board
  to_live t = (cc, cc)

  module _ (t : replay_over (took_due x) ≡ false) where
    pub to_last : replay_over (replayed a (took_due x)) ≡ true → (Last ≡ replayed_to a x) × (replayed a (took_due x) ≡ replayed_board a x)
    unfolding replayed_to replayed_board
    to_last u = (cc, cc)

    pub to_going : replay_over (replayed a (took_due x)) ≡ false → (Going ≡ replayed_to a x) × (replayed a (took_due x) ≡ replayed_board a x)
    unfolding replayed_to replayed_board
    to_going u = (cc, cc)

-- ---- on the bank

module _ (b : ℕ) (a : Access) (k : Bank) (h : b < length k.boards) where
  abbrev x : Board
  x = board_at k b

  abbrev taken : Bank
  taken = on_board b took_due k

  -- the bank that the code has after the board's block went through the access
  abbrev pub repeated : Bank
  repeated = on_board b (replayed_board a) k

  board_taken : board_at taken b ≡ took_due x
  board_taken = board_at_same b took_due k h

  -- the ways of the definition, told apart by how far it came
  pub live_over : Live ≡ replayed_to a x → replay_over (took_due x) ≡ true
  unfolding replayed_to
  live_over e =
      by_bool (replay_over (took_due x))
      (λ t. t)
      (λ t. by_bool (replay_over (replayed a (took_due x))) (λ u. let z : ◌≡◌ {A = ℕ} 0 1 = cc in absurd (omega arith))
      (λ u. let z : ◌≡◌ {A = ℕ} 0 1 = cc in absurd (omega arith)))

  -- the access was repeated, as the last one or not
  pub record Repeated (last : Bool) : Type 0 where
    pub on : replay_over (took_due x) ≡ false
    pub over : replay_over (replayed a (took_due x)) ≡ last

  pub last_over : Last ≡ replayed_to a x → Repeated true
  unfolding replayed_to
  last_over e =
      by_bool (replay_over (took_due x))
      (λ t. let z : ◌≡◌ {A = ℕ} 0 1 = cc in absurd (omega arith))
      (λ t.
      by_bool (replay_over (replayed a (took_due x)))
      (λ u. record { on = t; over = u })
      (λ u. let z : ◌≡◌ {A = ℕ} 0 1 = cc in absurd (omega arith)))

  pub going_on : Going ≡ replayed_to a x → Repeated false
  unfolding replayed_to
  going_on e =
      by_bool (replay_over (took_due x))
      (λ t. let z : ◌≡◌ {A = ℕ} 0 1 = cc in absurd (omega arith))
      (λ t.
      by_bool (replay_over (replayed a (took_due x)))
      (λ u. let z : ◌≡◌ {A = ℕ} 0 1 = cc in absurd (omega arith))
      (λ u. record { on = t; over = u }))

  pub repeated_live : Live ≡ replayed_to a x → repeated ≡ taken
  unfolding replayed_board
  repeated_live e = let t : replay_over (took_due x) ≡ true = live_over e in on_board_at b (replayed_board a) took_due k h cc

  pub repeated_on : replay_over (took_due x) ≡ false → repeated ≡ on_board b (replayed a) taken
  unfolding replayed_board
  repeated_on t =
      let e : replayed_board a x ≡ replayed a (took_due x) = cc in
      on_board_at b (replayed_board a) (λ y. replayed a (took_due y)) k h e ∙ sym (on_board_on_board b took_due (replayed a) k)

  board_repeated : board_at (on_board b (replayed a) taken) b ≡ replayed a (took_due x)
  board_repeated = board_at_same b (replayed a) taken (rw (boards_on_board b took_due k) h) ∙ ap (replayed a) board_taken

  pub replaying_live : Live ≡ replayed_to a x → live_after_end b a (end_replay b (running 0 repeated)) ≡ replaying b a k
  unfolding replaying start
  replaying_live e =
      let t : replay_over (board_at taken b) ≡ true = rw board_taken (live_over e) in
      rw (repeated_live e) cc

  -- what it read, as the definition has it
  abbrev pub frames : List Frame
  frames = (took_due (board_at k b)).working.frames

  pub replaying_last : Last ≡ replayed_to a x → finished (value_of a frames) (given_of a frames) (end_replay b (running 0 repeated)) ≡ replaying b a k
  unfolding replaying start end_if_over
  replaying_last e =
      let m : Repeated true = last_over e in
      let t : replay_over (board_at taken b) ≡ false = rw board_taken m.on in
      let u : replay_over (board_at (on_board b (replayed a) taken) b) ≡ true = rw board_repeated m.over in
      let w : (board_at taken b).working.frames ≡ frames = ap (λ (y : Board). y.working.frames) board_taken in
      rw (repeated_on m.on) cc

  pub replaying_going : Going ≡ replayed_to a x
      → record { answer = Done (value_of a frames); run = running 0 repeated; given = given_of a frames } ≡ replaying b a k
  unfolding replaying start end_if_over finished
  replaying_going e =
      let m : Repeated false = going_on e in
      let t : replay_over (board_at taken b) ≡ false = rw board_taken m.on in
      let u : replay_over (board_at (on_board b (replayed a) taken) b) ≡ false = rw board_repeated m.over in
      let w : (board_at taken b).working.frames ≡ frames = ap (λ (y : Board). y.working.frames) board_taken in
      rw (repeated_on m.on) cc

-- ---- the answers

-- a repeated access, and one after which the replay ended: stores of board b alone
module _ (a : Access) (fs : List Frame) {out : List ℕ} (read : out ≡ read_from a fs) where
  pub answered_repeated : {s : List ℕ} (k : Bank) → s ≡ encode k
      → Answered a s (record { answer = Done 0; stores = 0 }) 0
      (record { answer = Done (value_of a fs); run = running 0 k; given = given_of a fs }) out
  unfolding on_value value
  answered_repeated k e = record { bytes = e; answer = refl; stores = omega arith; read = λ c. read ∙ sym (bytes_seen_lem a fs) }

  pub answered_ended : {s : List ℕ} (o : Outcome) (b : ℕ) (t : Bool) (r : Run) (m : ℕ) → Came s (0 + m) (lost_by b t) r
      → o.answer ≡ ended_as 0 b t → o.stores ≡ m → Answered a s o 0 (finished (value_of a fs) (given_of a fs) r) out
  unfolding finished ended_as lost_by on_value code value
  answered_ended o b true r m c e f =
      let z : finished (value_of a fs) (given_of a fs) r ≡ record { answer = PowerLost b; run = r; given = [] } = cc c.lost in
      rw z (record { bytes = c.bytes; answer = e; stores = omega (arith, f, c.stores); read = λ i. absurd (omega arith) })
  answered_ended o b false r m c e f =
      let z : finished (value_of a fs) (given_of a fs) r ≡ record { answer = Done (value_of a fs); run = r; given = given_of a fs } = cc c.lost in
      rw z (record { bytes = c.bytes; answer = e; stores = omega (arith, f, c.stores); read = λ i. read ∙ sym (bytes_seen_lem a fs) })

module _ (b : ℕ) (a : Access) (r : Run) where
  after_lost : (c : ℕ) → some c ≡ r.lost → record { answer = PowerLost c; run = r; given = [] } ≡ live_after_end b a r
  unfolding live_after_end
  after_lost c e = cc

  after_on : none ≡ r.lost → live b a (running r.stores r.bank) ≡ live_after_end b a r
  unfolding live_after_end
  after_on e = let z : running r.stores r.bank ≡ r = rw e in cc

-- ---- the bytes after the end of replay

module _ (q : Ask) (k : Bank) (h : q.board < length k.boards) (w : WellFormedBut q.board InReplay k) where
  abbrev pub ended : Run
  ended = end_replay q.board (running 0 k)

  ended_formed : WellFormed ended.bank
  ended_formed = end_replay_keeps q.board (running 0 k) refl h w

  pub ended_asks : {s : List ℕ} (boards pages : ℕ) → s ≡ encode ended.bank → boards ≡ length k.boards → pages ≡ length k.directory
      → Asks boards pages q s
  ended_asks {s} boards pages e m p =
      let y : Holds s ended.bank = holds_well_formed e ended_formed in
      let z : SameSizes k ended.bank = (follows_end_replay q.board (running 0 k)).sizes in
      record {
        bank = holds_of y pages q.board (p ∙ sym z.pages) (rw z.boards h);
        count = m ∙ sym (rw (holds_decode y) z.boards);
        formed = rw (holds_decode y) ended_formed;
      }

  pub ended_decode : {s : List ℕ} → s ≡ encode ended.bank → decode s ≡ ended.bank
  ended_decode e = holds_decode (holds_well_formed e ended_formed)

  -- power lost in the end's own checkpoint
  pub ended_lost : {s : List ℕ} (out : List ℕ) (o : Outcome) (m : ℕ) (t : Bool) (a : Access) → t ≡ true → Came s (0 + m) (lost_by q.board t) ended
      → o.answer ≡ ended_as 0 q.board t → o.stores ≡ m → Answered a s o 0 (live_after_end q.board a ended) out
  unfolding ended_as lost_by on_value code
  ended_lost out o m t a z c e f =
      let l : some q.board ≡ ended.lost = rw z at c.lost in
      let g : o.answer ≡ PowerLost q.board = rw z at e in
      rw (← after_lost q.board a ended q.board l)
      (record { bytes = c.bytes; answer = g; stores = omega (arith, f, c.stores); read = λ i. absurd (omega arith) })

  -- the access goes on
  pub ended_live : {s y out : List ℕ} (x : Outcome) (m : ℕ) (t : Bool) (a : Access) → t ≡ false → Came s (0 + m) (lost_by q.board t) ended
      → ((n : ℕ) → Answered a y x n (live q.board a (running n (decode s))) out)
      → Answered a y (record { answer = x.answer; stores = m + x.stores }) 0 (live_after_end q.board a ended) out
  unfolding lost_by
  ended_live x m t a z c f =
      let l : none ≡ ended.lost = rw z at c.lost in
      let v = rw (ended_decode c.bytes) at (f ended.stores) in
      rw (← after_on q.board a ended l)
      (record { bytes = v.bytes; answer = v.answer; stores = omega (arith, v.stores, c.stores); read = v.read })
