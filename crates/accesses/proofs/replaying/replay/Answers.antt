-- `accesses::replaying::replay` meets its contract: goes on live, is the last one repeated, or is repeated. Assumes nothing.
use mathlib.Core.Path.{◌≡◌, sym, ap, ◌∙◌}
use mathlib.Core.List.{List, map}
use lib.ListN.{length}
use Rattle.accesses.specs.declared.blocks.Replayed.TheVariants.{Live}
use Rattle.model.specs.Definitions.Bank.{Bank, board_at, on_board}
use Rattle.model.specs.Definitions.Codec.{decode}
use Rattle.model.specs.Definitions.Steps.{start, Cell, Access, cell_byte, read_from}
use Rattle.model.specs.Definitions.Replay.{took_due}
use Rattle.model.proofs.Laws.Boards.{boards_on_board, directory_on_board}
use Rattle.model.proofs.Laws.Keeps.Entered.{taken_in_replay, live_can, replayed_keeps}
use Rattle.stores.specs.Clauses.{is_lost}
use Rattle.copies.specs.Banks.{Holds, OfBank, holds_decode, holds_of}
use Rattle.accesses.specs.Asks.{GoesOn, Enters}
use Rattle.accesses.specs.BlockReplay.{Repeats, replayed_board, replayed_to}
use Rattle.accesses.proofs.Repeated.{frames, last_over, going_on, repeated_live, repeated_on, replaying_live, replaying_last, replaying_going}
use Rattle.accesses.proofs.Repeated.{answered_repeated, answered_ended}
use Prim.Native.Nat.{ℕ}
use Rattle.accesses.specs.declared.ask.Ask.{Ask}
use Rattle.accesses.proofs.replaying.replay.Goals.{After-replay_at}
use Rattle.accesses.proofs.replaying.replay.Goals as goal

-- what the board's block asks of an access
repeats : {pages : ℕ} {a : Access} {q : Ask} {k : Bank} → Enters pages a q k → Repeats a (board_at k q.board)
repeats h = record { number = h.entered.number; since = h.entered.since; fits = h.fits }

abbrev EntersAt : After-replay_at → Access → Type 0
EntersAt c a = Enters c.args.pages a c.args.ask (decode c.args.bank.now)

-- how far it came, and the bank after the board's block went through the access
told : (c : After-replay_at) (a : Access) → EntersAt c a
    → (c.replay_at.result ≡ replayed_to a (board_at (decode c.args.bank.now) c.args.ask.board))
    × Holds c.replay_at.new.bank (on_board c.args.ask.board (replayed_board a) (decode c.args.bank.now))
told c a h = c.replay_at.ensures.did a h.stands (repeats h)

after_of : (c : After-replay_at) → OfBank c.args.pages c.args.ask.board c.replay_at.new.bank
after_of c =
    let b = c.args.ask.board in
    let a = c.requires.3.0 in
    holds_of (told c a c.requires.3.1).1 c.args.pages b
    (c.requires.0.bank.count ∙ sym (ap length (directory_on_board b (replayed_board a) (decode c.args.bank.now))))
    (rw (boards_on_board b (replayed_board a) (decode c.args.bank.now)) c.requires.0.bank.board)

-- with no record left, the access goes on live there
live_bank : (c : After-replay_at) (a : Access) → EntersAt c a → Live ≡ replayed_to a (board_at (decode c.args.bank.now) c.args.ask.board)
    → decode c.replay_at.new.bank ≡ on_board c.args.ask.board took_due (decode c.args.bank.now)
live_bank c a h e = holds_decode (told c a h).1 ∙ repeated_live c.args.ask.board a (decode c.args.bank.now) c.requires.0.bank.board e

goes_on : (c : After-replay_at) (a : Access) → EntersAt c a → Live ≡ replayed_to a (board_at (decode c.args.bank.now) c.args.ask.board)
    → GoesOn c.args.pages a c.args.ask (decode c.replay_at.new.bank)
unfolding start
goes_on c a h e =
    rw (live_bank c a h e)
    (record {
      stands = h.stands;
      can = live_can c.args.ask.board a (decode c.args.bank.now) c.requires.0.formed h.entered c.requires.2 h.fits;
    })

pub go_on_live-requires : goal.go_on_live-requires
go_on_live-requires c =
    let b = c.args.ask.board in
    let asks = c.requires.0 in
    let a = c.requires.3.0 in
    let h = c.requires.3.1 in
    let e = sym c.in-Live.is ∙ (told (goal.at.go_on_live-requires c).After-replay_at a h).0 in (
      after_of (goal.at.go_on_live-requires c).After-replay_at,
      rw (live_bank (goal.at.go_on_live-requires c).After-replay_at a h e) (asks.count ∙ sym (boards_on_board b _ (decode c.args.bank.now))),
      rw c.replay_at.auto.out c.requires.1,
      rw (live_bank (goal.at.go_on_live-requires c).After-replay_at a h e) (taken_in_replay b a (decode c.args.bank.now) asks.formed h.entered c.requires.2 h.fits),
      (a, goes_on (goal.at.go_on_live-requires c).After-replay_at a h e),
    )

pub end_replay-requires : goal.end_replay-requires
end_replay-requires c =
    let b = c.args.ask.board in
    let asks = c.requires.0 in
    let a = c.requires.3.0 in
    let h = c.requires.3.1 in
    let m = (last_over b a (decode c.args.bank.now) asks.bank.board (sym c.in-Last.is ∙ (told (goal.at.end_replay-requires c).After-replay_at a h).0)).on in
    let d = holds_decode (told (goal.at.end_replay-requires c).After-replay_at a h).1 ∙ repeated_on b a (decode c.args.bank.now) asks.bank.board m in
    (after_of (goal.at.end_replay-requires c).After-replay_at, rw d (replayed_keeps b a (decode c.args.bank.now) asks.formed h.entered c.requires.2 h.fits m))

pub returns-in-Live-clause-run : goal.returns-in-Live-clause-run
returns-in-Live-clause-run c =
    let b = c.args.ask.board in
    let went = c.go_on_live.ensures in
    λ a h read.
    let e = sym c.in-Live.is ∙ (told (goal.at.returns-in-Live-clause-run c).After-replay_at a h).0 in
    rw (← replaying_live b a (decode c.args.bank.now) c.requires.0.bank.board e, ← holds_decode (told (goal.at.returns-in-Live-clause-run c).After-replay_at a h).1)
    (went.run a (goes_on (goal.at.returns-in-Live-clause-run c).After-replay_at a h e) read)

pub returns-in-Last-clause-run : goal.returns-in-Last-clause-run
unfolding read_from
returns-in-Last-clause-run c =
    let b = c.args.ask.board in
    let below = c.requires.0.bank.board in
    let made = c.end_replay in
    let said = c.ended.ensures in
    λ a h read.
    let e = sym c.in-Last.is ∙ (told (goal.at.returns-in-Last-clause-run c).After-replay_at a h).0 in
    let fs = frames b a (decode c.args.bank.now) below in
    let bytes = c.replay_at.ensures.read (last_over b a (decode c.args.bank.now) below e).on ∙ ap (λ (cs : List Cell). map (cell_byte fs) cs) (sym read) in
    rw (← replaying_last b a (decode c.args.bank.now) below e, ← holds_decode (told (goal.at.returns-in-Last-clause-run c).After-replay_at a h).1)
    (answered_ended a fs bytes c.ended.result b (is_lost made.result) _ _ (made.ensures.run 0) said.0 said.1)

pub returns-in-Going-clause-run : goal.returns-in-Going-clause-run
unfolding read_from
returns-in-Going-clause-run c =
    let b = c.args.ask.board in
    let below = c.requires.0.bank.board in
    λ a h read.
    let e = sym c.in-Going.is ∙ (told (goal.at.returns-in-Going-clause-run c).After-replay_at a h).0 in
    let fs = frames b a (decode c.args.bank.now) below in
    let bytes = c.replay_at.ensures.read (going_on b a (decode c.args.bank.now) below e).on ∙ ap (λ (cs : List Cell). map (cell_byte fs) cs) (sym read) in
    rw (← replaying_going b a (decode c.args.bank.now) below e) (answered_repeated a fs bytes _ (told (goal.at.returns-in-Going-clause-run c).After-replay_at a h).1.bytes)
