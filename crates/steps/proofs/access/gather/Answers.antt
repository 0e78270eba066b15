-- `steps::access::gather` meets its contract. The invariant: the first bytes stand in the buffer, and with those to come they are all. Assumes nothing.
use native.Mathlib.Omega.{arith}
use lib.ListN.{length-set}
use Rattle.steps.specs.Gathered.{gathered_in, gathered_more, gathered_all}
use Rattle.steps.proofs.access.gather.Goals as goal

pub read_byte-requires : goal.read_byte-requires
read_byte-requires c =
    let cell = gathered_in c.loop-i.invariant.2 (omega (arith, c.requires.2)) in
    (c.requires.0, rw c.from-page.ensures cell.0, rw c.from-offset.ensures cell.1)

pub loop-i-preserved : goal.loop-i-preserved
loop-i-preserved c =
    let loop = c.loop-i in (
      simp length-set loop.invariant.0,
      simp length-set (omega arith),
      rw (c.read_byte.ensures, c.from-page.ensures, c.from-offset.ensures) (gathered_more loop.invariant.2 (omega (arith, c.requires.2)) (omega arith)),
    )

pub returns : goal.returns
returns c =
    let loop = c.loop-i in
    gathered_all loop.invariant.2 (omega arith) (omega (arith, c.requires.2))
