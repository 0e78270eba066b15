-- Nothing was read: no byte, and the input is at its end. Assumes nothing.
use Rattle.std.proofs.Common.{◌≡◌, [], Ok, refl, rules, arith}
use Rattle.runner.proofs.Input.{fed_nothing}
use Rattle.runner.proofs.reads.run_read.Goals as goal

pub returns-then-n-eq0-clause-ok : goal.returns-then-n-eq0-clause-ok
returns-then-n-eq0-clause-ok g c =
    let was : c.read.result ≡ Ok c.in_ok-n.n = search rules in
    let read = rw was at c.read.ensures.bytes in
    record {
      bytes = [];
      fed = fed_nothing _ _ _ _ _ (rw c.if-n-eq0.true refl) read.0;
      buffers = c.requires.0;
      more = λ m e. cc;
      over = λ m e room running. read.1 c.if-n-eq0.true (omega (arith, c.read.auto.buf, room));
    }
