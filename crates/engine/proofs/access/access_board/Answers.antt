-- `engine::access::access_board` meets its contract: each return is one finding, or what the access answers. Assumes nothing.
use mathlib.Core.Path.{◌≡◌, sym, ap, ◌∙◌}
use mathlib.Core.Bool.{Bool, false}
use Rattle.model.specs.Definitions.Bank.{board_at}
use Rattle.model.specs.Definitions.Codec.{decode}
use Rattle.model.specs.Definitions.WellFormed.{is_down, is_replaying}
use Rattle.model.specs.Definitions.Steps.{Access}
use Rattle.checks.specs.Admission.{admission_of}
use Rattle.std.proofs.lemmas.Result.{err_from_is_err_and}
use Rattle.engine.specs.Admissions.{WellAsked, asks_counted, answers_down, answers_refused, replays, can_repeat, can_access}
use Rattle.engine.specs.Admissions.{answers_repeated, answers_live}
use Rattle.engine.proofs.access.access_board.Goals.{After-admit}
use Rattle.engine.proofs.access.access_board.Goals as goal

-- the board has power, and what the tests of its block said
power : (c : After-admit) → is_down c.args.state ≡ false
power c = sym c.is_down.ensures ∙ c.if-is_down.false

told : (c : After-admit) (a : Access)
    → WellAsked c.args.pages a
    c.args.ask
    c.args.cells.now
    (decode c.args.bank.now)
    → c.admit.result
    ≡ admission_of c.args.ask.board (is_replaying c.args.state) a
    (board_at (decode c.args.bank.now)
    c.args.ask.board)
told c a w =
    let q = c.args in
    c.admit.ensures a (rw c.is_some.ensures w.stands.takes)
    ∙ ap (λ (t : Bool). admission_of q.ask.board t a (board_at (decode q.bank.now) q.ask.board)) c.is_replaying-replaying.ensures

pub returns-then-is_down : goal.returns-then-is_down
returns-then-is_down c = λ a w. answers_down c.requires.0 w c.requires.2 (sym c.is_down.ensures ∙ c.if-is_down.true)

pub returns-in_err-admit : goal.returns-in_err-admit
returns-in_err-admit c =
    λ a w.
    let before = (goal.at.returns-in_err-admit c).After-admit in
    let p = err_from_is_err_and c.from_residual.result c.from_residual.ensures.1 in
    rw (p.1, p.2) (answers_refused c.requires.0 w c.requires.2 (power before) (told before a w) c.in_err-admit.was)

pub replay-requires : goal.replay-requires
replay-requires c =
    let a = c.requires.3.0 in
    let w = c.requires.3.1 in
    let before = (goal.at.replay-requires c).After-admit in
    let repeats = sym c.is_replaying-replaying.ensures ∙ c.if-replaying.true in (
      asks_counted _ c.requires.0 c.board_count-boards.ensures,
      c.requires.1,
      replays c.requires.0 w c.requires.2 (power before) (told before a w) c.in_ok-admit.was repeats,
      (a, can_repeat c.requires.0 w c.requires.2 (power before) (told before a w) c.in_ok-admit.was repeats),
    )

pub returns-then-replaying : goal.returns-then-replaying
returns-then-replaying c =
    let before = (goal.at.returns-then-replaying c).After-admit in
    let repeats = sym c.is_replaying-replaying.ensures ∙ c.if-replaying.true in
    λ a w.
    answers_repeated c.requires.0 w c.requires.2 (power before) (told before a w) c.in_ok-admit.was repeats
    (c.replay.ensures.run a (can_repeat c.requires.0 w c.requires.2 (power before) (told before a w) c.in_ok-admit.was repeats) w.reads)

pub live-requires : goal.live-requires
live-requires c =
    let a = c.requires.3.0 in
    let w = c.requires.3.1 in
    let before = (goal.at.live-requires c).After-admit in (
      asks_counted _ c.requires.0 c.board_count-boards.ensures,
      c.requires.1,
      (
        a,
        can_access c.requires.0 w c.requires.2 (power before) (told before a w) c.in_ok-admit.was
            (sym c.is_replaying-replaying.ensures ∙ c.if-replaying.false),
      ),
    )

pub returns : goal.returns
returns c =
    let before = (goal.at.returns c).After-admit in
    let goes = sym c.is_replaying-replaying.ensures ∙ c.if-replaying.false in
    λ a w.
    answers_live c.requires.0 w c.requires.2 (power before) (told before a w) c.in_ok-admit.was goes
    (c.live.ensures.run a (can_access c.requires.0 w c.requires.2 (power before) (told before a w) c.in_ok-admit.was goes) w.reads 0)
