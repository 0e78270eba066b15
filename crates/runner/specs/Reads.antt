-- What the line runner does to a reader and a writer whose bytes are known. Assumes nothing.
use Rattle.std.specs.Prelude.{◌≡◌, ℕ, ◌<◌, false, List, length, ⊤}
use Rattle.std.specs.declared.option.Option.{Option}
use Rattle.std.specs.Io.KnownBytes.{Consumes, Appends, IsAtEnd}
use Rattle.lines.specs.Definitions.Tally.{stopped}
use Rattle.script.specs.declared.feed.Machine.{Machine as Held}
use Rattle.script.specs.Feeding.{Machine, idle, feed}
use Rattle.script.specs.Clauses.{InBuffers, machine_of}
use Rattle.std.specs.declared.ops.ControlFlow.{ControlFlow}
use Rattle.std.specs.declared.ops.ControlFlow.TheVariants.{Continue, Break}
use Rattle.std.specs.ControlFlow.{ForContinue, ForBreak}
use Rattle.runner.specs.declared.reads.Failure.{Failure}
use Rattle.runner.specs.declared.reads.Failure.TheVariants.{Input, Output}

-- said only of a read that failed
abbrev pub IfInput : Failure → Type 0 → Type 0
IfInput (Input _) P = P
IfInput (Output _) P = ⊤

-- the bytes cs left the reader, what they print is in the writer, and the machine m became r
pub record WasFed (cs : List ℕ) (m r : Machine) (rest rest' held held' : Option (List ℕ)) : Type 0 where
  pub read : Consumes rest rest' cs
  pub machine : r ≡ (feed cs m).machine
  pub written : Appends held held' (feed cs m).output

-- the machine that a read leaves, whether another read comes or not
abbrev pub left_by : ControlFlow Held Held → Held
left_by (Continue m) = m
left_by (Break m) = m

-- one read, into a buffer of so many bytes
pub record Turned (t : ControlFlow Held Held) (room : ℕ) (from : Held) (line bank line' bank' : List ℕ) (rest rest' held held' : Option (List ℕ)) : Type 0 where
  pub bytes : List ℕ
  pub fed : WasFed bytes (machine_of line bank from) (machine_of line' bank' (left_by t)) rest rest' held held'
  pub buffers : InBuffers line' bank' (left_by t)
  pub more : ForContinue t (λ _. 0 < length bytes)
  pub over : ForBreak t (λ m. 0 < room → stopped m.progress.tally ≡ false → IsAtEnd rest')

-- what the bytes that were read so far print is in the writer
pub record PrintedSoFar (rest rest' held held' : Option (List ℕ)) : Type 0 where
  pub bytes : List ℕ
  pub read : Consumes rest rest' bytes
  pub written : Appends held held' (feed bytes idle).output
