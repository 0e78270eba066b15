-- The head of a bank: where its two numbers stand. Assumes nothing.
use Rattle.std.specs.Prelude.{ℕ, ◌≤◌, List, length}
use Rattle.std.proofs.Common.{arith}
use Rattle.model.specs.Definitions.Layout.{head_size}
use Rattle.model.specs.Clauses.{IsBank}
use Rattle.steps.specs.Power.{directory_in}

pub head_in : (s : List ℕ) → IsBank s → head_size ≤ length s
head_in s ok = omega (arith, directory_in s ok)
