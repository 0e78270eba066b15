-- The turns so far, and what their reads printed. Assumes nothing.
use Rattle.std.proofs.Common.{◌≡◌, ◌≤◌, List, ℕ, length}
use Rattle.script.specs.Feeding.{idle}
use Rattle.script.specs.Clauses.{InBuffers, machine_of}
use Rattle.runner.specs.Reads.{WasFed}
use Rattle.runner.proofs.reads.run_reads.Given as goal

abbrev pub invariant-loop-turn : goal.invariant-loop-turn
invariant-loop-turn g l =
    (bytes : List ℕ)
    × WasFed bytes idle (machine_of l.line l.bank l.machine) (g.R.Read.remaining l.initial.input) (g.R.Read.remaining l.input)
    (g.W.Write.contents l.initial.output) (g.W.Write.contents l.output)
    × (l._turn ≤ length bytes)
    × InBuffers l.line l.bank l.machine
    × (length l.buffer ≡ length l.initial.buffer)
    × (length l.out ≡ length l.initial.out)
