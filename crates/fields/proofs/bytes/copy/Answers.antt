-- `fields::bytes::copy` meets its contract. The loop's invariant: the first i bytes are written at the place. Assumes nothing.
use mathlib.Core.Path.{◌≡◌, refl, ◌∙◌}
use native.Mathlib.Omega.{arith}
use lib.ListN.{length, length-set}
use Rattle.model.specs.Definitions.Parts.{part}
use Rattle.model.proofs.Laws.Parts.{length_part, get_d_part}
use Rattle.fields.proofs.Splices.{splice_none, splice_done, splice_more}
use Rattle.fields.proofs.bytes.copy.Goals as goal

pub loop-i-init : goal.loop-i-init
loop-i-init c = (refl, splice_none _ _)

pub loop-i-preserved : goal.loop-i-preserved
loop-i-preserved c =
    let loop = c.loop-i in
    let l = c.args.from.now in
    let m : length (part l c.args.a c.args.n) ≡ c.args.n = length_part l c.args.a c.args.n c.requires.0 in (
      simp length-set loop.invariant.0,
      rw (loop.invariant.1, ← get_d_part l c.args.a c.args.n loop.i 0 (omega arith))
          (splice_more c.args.to.now c.args.b (part l c.args.a c.args.n) loop.i 0 (omega (arith, c.requires.1))
          (omega arith)),
    )

pub returns : goal.returns
returns c =
    let l = c.args.from.now in
    let m : length (part l c.args.a c.args.n) ≡ c.args.n = length_part l c.args.a c.args.n c.requires.0 in
    c.loop-i.invariant.1
    ∙ splice_done c.args.to.now (part l c.args.a c.args.n) c.args.b c.loop-i.i (omega arith)
