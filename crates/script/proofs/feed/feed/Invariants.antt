-- `script::feed::feed` meets its contract. The loop's invariant: the bytes before this one were fed. Assumes nothing.
use Rattle.script.specs.Laws.Machine.{Turn}
use Rattle.script.proofs.feed.feed.Given as goal

abbrev pub invariant-loop-c : goal.invariant-loop-c
invariant-loop-c l = Turn l.input l.initial.line l.initial.bank l.initial.out l.initial.machine l.c-index l.line l.bank l.out l.machine
