-- `accesses::replaying::go_on_live` meets its contract: power lost in the end of replay, or the access live. Assumes nothing.
use mathlib.Core.Path.{refl, sym, ap}
use Rattle.stores.specs.Clauses.{is_lost}
use Rattle.exchange.specs.Progress.{lost_by}
use Rattle.accesses.proofs.Repeated.{ended_asks, ended_decode, ended_lost, ended_live}
use Rattle.accesses.proofs.replaying.go_on_live.Goals as goal

pub returns-in_default-clause-run : goal.returns-in_default-clause-run
returns-in_default-clause-run c =
    let made = c.end_replay-stored.ensures in
    λ a goes read.
    ended_lost c.args.ask _ c.requires.0.board c.requires.3 _ _ _ _ a (ap is_lost c.in_default.is) (made.run 0) c.ended.ensures.0
    c.ended.ensures.1

pub live-outcome-requires : goal.live-outcome-requires
unfolding lost_by
live-outcome-requires c =
    let q = c.args.ask in
    let goes = c.requires.4.1 in
    let came = c.in-Ok.ensures.run 0 in (
      ended_asks q _ c.requires.0.board c.requires.3 _ _ came.bytes c.requires.1 c.requires.0.count,
      c.requires.2,
      (
        c.requires.4.0,
        rw (ended_decode q _ c.requires.0.board c.requires.3 came.bytes) (record { stands = goes.stands; can = goes.can (sym came.lost) }),
      ),
    )

pub returns-clause-run : goal.returns-clause-run
unfolding lost_by
returns-clause-run c =
    let q = c.args.ask in
    let made = c.in-Ok.ensures in
    let went = c.live-outcome.ensures in
    λ a goes read.
    let d = ended_decode q _ c.requires.0.board c.requires.3 (made.run 0).bytes in
    ended_live q _ c.requires.0.board c.requires.3 _ _ _ a refl (made.run 0)
    (went.run a (rw d (record { stands = goes.stands; can = goes.can (sym (made.run 0).lost) })) read)
