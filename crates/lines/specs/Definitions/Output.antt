-- Document 01, "Line runner": "Each line prints: line number, code, value, who, stores", "At the end come three numbers": rows of numbers as bytes.
-- Assumes nothing.
use Rattle.std.specs.Prelude.{ℕ, List, [], ◌∷◌, ◌++◌}
use Rattle.types.specs.declared.Outcome.{Outcome}
use Rattle.lines.specs.declared.print.Printed.{Printed}
use Rattle.lines.specs.declared.tally.Tally.{Tally}
use Rattle.model.specs.Definitions.Answers.{code, value, who}
use Rattle.lines.specs.Definitions.Numbers.{decimal}
use Rattle.lines.specs.Definitions.Lines.{space}

-- byte 10
abbrev pub newline : ℕ
newline = 10

-- a number and the byte behind it
unfoldable pub field : ℕ → ℕ → List ℕ
field n end = decimal n ++ (end ∷ [])

-- what a line prints behind its number: code, value, who, stores
unfoldable pub printed_of : Outcome → Printed
printed_of o = record { code = code o.answer; value = value o.answer; who = who o.answer; stores = o.stores }

-- "prints code 9", "the last three are 0 under code 9"
unfoldable pub unreadable : Printed
unreadable = record { code = 9; value = 0; who = 0; stores = 0 }

-- "Each line prints: line number, code, value, who, stores"
unfoldable pub line_of : ℕ → Printed → List ℕ
line_of i p = field i space ++ (field p.code space ++ (field p.value space ++ (field p.who space ++ field p.stores newline)))

-- "At the end come three numbers from one tally of lines read, done and refused"
unfoldable pub last_line : Tally → List ℕ
last_line t = field t.read space ++ (field t.done space ++ field t.refused newline)
