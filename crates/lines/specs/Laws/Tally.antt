-- A tally's counters: what is done and refused makes up what is read, and one line more still fits. Assumes nothing.
use Rattle.std.specs.Prelude.{◌≡◌, ℕ, ◌+◌, false, eqb}
use Rattle.std.proofs.Common.{arith, leb-false}
use Rattle.lines.specs.declared.tally.Tally.{Tally}
use Rattle.model.proofs.Laws.Logic.{by_bool}
use Rattle.lines.specs.Definitions.Tally.{counted, most_lines, stopped}
use Rattle.lines.specs.Clauses.{Sums, Counts}

pub counts_on : (t : Tally) → Sums t → stopped t ≡ false → Counts t
unfolding stopped
counts_on t s e = record { sums = s; more = leb-false most_lines t.read e }

pub counted_read : (c : ℕ) (t : Tally) → (counted c t).read ≡ t.read + 1
unfolding counted
counted_read c t = by_bool (eqb c 0) (λ e. rw (e, counted)) (λ e. rw (e, counted))

pub counted_sums : (c : ℕ) (t : Tally) → Sums t → Sums (counted c t)
unfolding counted
counted_sums c t h = by_bool (eqb c 0) (λ e. rw (e, counted) (omega arith)) (λ e. rw (e, counted) (omega arith))
