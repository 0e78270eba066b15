-- Each turn is a read behind those before it. Assumes nothing.
use Rattle.std.proofs.Common.{[], ◌++◌, refl, ◌∙◌, arith, length-append}
use Rattle.script.specs.Clauses.{machine_of, state_of}
use Rattle.script.specs.Laws.Stream.{starts}
use Rattle.runner.proofs.Input.{ok_then, fed_at_first, fed_more, fed_to_the_end, fed_too_much}
use Rattle.runner.proofs.reads.run_reads.Goals as goal

pub loop-turn-init : goal.loop-turn-init
loop-turn-init g c =
    rw c.start-machine.ensures ([], fed_at_first _ _ _ _, omega arith, starts _ _ _ _ c.requires, refl, refl)

pub loop-turn-preserved : goal.loop-turn-preserved
loop-turn-preserved g c =
    let (bytes, fed, count, buffers, same, same') = c.loop-turn.invariant in
    let turn = rw c.in-Continue.is at c.in_ok-next.ensures.ok in (
      bytes ++ turn.bytes,
      fed_more _ _ _ _ _ _ _ _ _ _ _ fed turn.fed,
      omega (arith, count, turn.more _ refl, length-append bytes turn.bytes),
      turn.buffers,
      c.run_read.auto.buffer ∙ same,
      c.run_read.auto.out ∙ same',
    )

pub returns-in-Break-clause-ok : goal.returns-in-Break-clause-ok
unfolding machine_of state_of
returns-in-Break-clause-ok g c =
    let (bytes, fed, count, buffers, same, same') = c.loop-turn.invariant in
    let turn = rw c.in-Break.is at c.in_ok-next.ensures.ok in
    ok_then c.run_end.result c.run_end.ensures.ok
    (λ w. fed_to_the_end _ _ (bytes ++ turn.bytes) _ _ _ _ _ _ (fed_more _ _ _ _ _ _ _ _ _ _ _ fed turn.fed) w (λ some. turn.over _ refl (omega (arith, same, some))))

pub returns-clause-ok : goal.returns-clause-ok
returns-clause-ok g c =
    let (bytes, fed, count, buffers, same, same') = c.loop-turn.invariant in
    ok_then c.run_end-2.result c.run_end-2.ensures.ok
    (λ w. fed_too_much _ _ bytes _ _ _ _ _ _ fed (omega (arith, count, c.loop-turn-test.false)))
