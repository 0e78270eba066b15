-- Document 01, "Line runner": one line's work on the bank, the lines of an input, and the whole runner from the input's bytes to the output's.
-- Assumes nothing.
use Rattle.std.specs.Prelude.{ℕ, ◌+◌, true, false, List, [], ◌∷◌, ◌++◌, length, take, eqb}
use Rattle.lines.specs.declared.print.Printed.{Printed}
use Rattle.lines.specs.declared.request.Request.{Request}
use Rattle.lines.specs.declared.request.Request.TheVariants.{Make, Read, Write, Checkpoint, Fuse, Restart, Unreadable}
use Rattle.lines.specs.declared.tally.Tally.{Tally}
use Rattle.model.specs.Definitions.Parts.{zeros}
use Rattle.model.specs.Definitions.Layout.{bank_size}
use Rattle.model.specs.Definitions.Answers.{code}
use Rattle.model.specs.Definitions.Steps.{Read as ReadAccess, Write as WriteAccess}
use Rattle.model.specs.Definitions.Calls.{Accessing, Checkpointing, Fusing, Restarting, Reply, call, make}
use Rattle.lines.specs.Definitions.Lines.{request}
use Rattle.lines.specs.Definitions.Output.{newline, printed_of, unreadable, line_of, last_line}
use Rattle.lines.specs.Definitions.Tally.{counted, most_lines}

-- ---- one line

-- what a line prints, and the bank that it leaves. No bank is a bank of no bytes: "With no bank each readable line prints 1", since these are not well formed.
pub record Worked : Type 0 where
  pub printed : Printed
  pub bank : List ℕ

-- "Anything else, or N after line 1, prints code 9."
unfoldable pub unread : List ℕ → Worked
unread s = record { printed = unreadable; bank = s }

unfoldable pub worked : Reply → Worked
worked t = record { printed = printed_of t.outcome; bank = t.bytes }

-- N makes a bank in as many bytes as it has; a refused N leaves none
unfoldable pub made : Reply → Worked
made t = record { printed = printed_of t.outcome; bank = elim (eqb (code t.outcome.answer) 0) [ true ↦ t.bytes | false ↦ [] ] }

-- line i, which asks for this, on this bank
unfoldable pub work : ℕ → Request → List ℕ → Worked
work i (Make n p) s = elim (eqb i 1) [ true ↦ made (make n p (zeros (bank_size n p))) | false ↦ unread s ]
work i (Read b p o) s = worked (call (Accessing b (ReadAccess p o)) s)
work i (Write b p o v) s = worked (call (Accessing b (WriteAccess p o v)) s)
work i (Checkpoint b) s = worked (call (Checkpointing b) s)
work i (Fuse b k) s = worked (call (Fusing b k) s)
work i (Restart b) s = worked (call (Restarting b) s)
work i Unreadable s = unread s

-- ---- the lines of an input, one after the other

pub record State : Type 0 where
  pub bank : List ℕ
  pub tally : Tally

unfoldable pub begin : State
begin = record { bank = []; tally = record { read = 0; done = 0; refused = 0 } }

-- line number of the next line
abbrev pub next_line : State → ℕ
next_line s = s.tally.read + 1

-- what a line leaves and prints
pub record Step : Type 0 where
  pub state : State
  pub output : List ℕ

unfoldable pub step_of : State → Worked → Step
step_of s w =
    record { state = record { bank = w.bank; tally = counted w.printed.code s.tally }; output = line_of (next_line s) w.printed }

-- one line's bytes
unfoldable pub line : List ℕ → State → Step
line l s = step_of s (work (next_line s) (request l) s.bank)

-- "A line ends at byte 10 or, if not empty, at the end of input": the lines of an input, of which w has been seen
unfoldable pub lines_from : List ℕ → List ℕ → List (List ℕ)
lines_from w [] = elim (eqb (length w) 0) [ true ↦ [] | false ↦ w ∷ [] ]
lines_from w (c ∷ cs) = elim (eqb c newline) [ true ↦ w ∷ lines_from [] cs | false ↦ lines_from (w ++ (c ∷ [])) cs ]

-- each line's output, "At the end come three numbers"
unfoldable pub run_lines : List (List ℕ) → State → List ℕ
run_lines [] s = last_line s.tally
run_lines (l ∷ ls) s = let t : Step = line l s in t.output ++ run_lines ls t.state

-- the whole runner: the output's bytes for the input's
unfoldable pub run : List ℕ → List ℕ
run input = run_lines (take most_lines (lines_from [] input)) begin
