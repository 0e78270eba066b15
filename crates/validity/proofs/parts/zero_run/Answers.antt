-- `validity::parts::zero_run` meets its contract. The loop's invariant: no bit is set where the bytes before `b` are zero. Assumes nothing.
use Rattle.std.proofs.Common.{◌≡◌, ◌+◌, ◌-◌, ◌<◌, arith, sym, length-take, length-drop, get_or-take, get_or-drop}
use Rattle.model.specs.Definitions.Parts.{byte_at}
use Rattle.validity.specs.Words.{zero_none, zero_next}
use Rattle.validity.proofs.parts.zero_run.Goals as goal

pub loop-b-init : goal.loop-b-init
loop-b-init c = sym (zero_none _ _)

pub loop-b-preserved : goal.loop-b-preserved
unfolding byte_at
loop-b-preserved c =
    let i = c.loop-b.b-index in
    let h : i < c.args.at + c.args.n - c.args.at = omega (arith, simp (length-take, length-drop) at c.loop-b-test.true) in
    rw (get_or-take, get_or-drop) (zero_next c.args.s.now c.args.at i c.loop-b.bits (omega arith) c.loop-b.invariant)

pub returns : goal.returns
returns c =
    let e : c.loop-b.b-index ≡ c.args.n = omega (arith, simp (length-take, length-drop) at c.loop-b-test.false) in
    rw (← e) c.loop-b.invariant
