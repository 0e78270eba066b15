-- Document 01, "Line runner": the tally of lines, and where reading stops. Assumes nothing.
use Rattle.std.specs.Prelude.{ℕ, ◌+◌, Bool, true, false, eqb, leb}
use Rattle.lines.specs.declared.tally.Tally.{Tally}
use Rattle.lines.specs.Definitions.Numbers.{largest_number}

-- "one tally of lines read, done and refused (done is code 0, refused all others)"
unfoldable pub counted : ℕ → Tally → Tally
counted c t =
    elim (eqb c 0) [
      | true ↦ record { read = t.read + 1; done = t.done + 1; refused = t.refused }
      | false ↦ record { read = t.read + 1; done = t.done; refused = t.refused + 1 }
    ]

-- "reading stops after line 4,294,967,295"
abbrev pub most_lines : ℕ
most_lines = largest_number

unfoldable pub stopped : Tally → Bool
stopped t = leb most_lines t.read
