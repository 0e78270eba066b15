-- `script::feed::feed` meets its contract. The loop's invariant: the bytes before this one were fed. Assumes nothing.
use mathlib.Core.Path.{refl, ◌∙◌}
use native.Mathlib.Omega.{arith}
use Rattle.script.specs.Laws.Machine.{fed_none, turn_next}
use Rattle.script.proofs.feed.feed.Goals as goal

pub loop-c-init : goal.loop-c-init
loop-c-init c = record { inside = omega arith; out_kept = refl; fed = fed_none _ _ _ _ _ c.requires }

pub loop-c-preserved : goal.loop-c-preserved
loop-c-preserved c =
    let turn = c.loop-c in
    let call = c.feed_byte-machine in
    let more = c.loop-c-test.true in
    record {
      inside = omega (arith, more);
      out_kept = call.auto.out ∙ turn.invariant.out_kept;
      fed =
          turn_next _ _ _ _ _ c.requires turn.c-index turn.line turn.bank turn.out turn.machine turn.invariant more call.result _ _ _
          call.ensures;
    }
