-- The runner as a machine that is fed the input byte by byte, so that a program can stream input of any length in bounded memory. What it prints in all is
-- `run` (Laws/Feeding). Assumes nothing.
use Rattle.std.specs.Prelude.{ℕ, true, false, ◌||◌, List, [], ◌∷◌, ◌++◌, length, eqb, ltb}
use Rattle.lines.specs.Definitions.Lines.{most_bytes}
use Rattle.lines.specs.Definitions.Output.{newline, last_line}
use Rattle.lines.specs.Definitions.Tally.{stopped}
use Rattle.script.specs.Definitions.Runner.{State, begin, Step, line}

-- what is kept between two bytes: the bytes of the line that has begun, and the state
pub record Machine : Type 0 where
  pub pending : List ℕ
  pub state : State

unfoldable pub idle : Machine
idle = record { pending = []; state = begin }

-- what the machine is after some bytes, and what it printed for them
pub record Fed : Type 0 where
  pub machine : Machine
  pub output : List ℕ

-- of a line that is too long one byte too many is kept and no more
unfoldable pub with_byte : List ℕ → ℕ → List ℕ
with_byte w c = elim (ltb most_bytes (length w)) [ true ↦ w | false ↦ w ++ (c ∷ []) ]

-- a line has ended
unfoldable pub ended : Step → Fed
ended t = record { machine = record { pending = []; state = t.state }; output = t.output }

unfoldable pub feed_byte : ℕ → Machine → Fed
feed_byte c m =
    elim (stopped m.state.tally) [
      | true ↦ record { machine = m; output = [] }
      | false ↦
          elim (eqb c newline) [
            | true ↦ ended (line m.pending m.state)
            | false ↦ record { machine = record { pending = with_byte m.pending c; state = m.state }; output = [] }
          ]
    ]

unfoldable pub behind : List ℕ → Fed → Fed
behind out f = record { machine = f.machine; output = out ++ f.output }

unfoldable pub feed : List ℕ → Machine → Fed
feed [] m = record { machine = m; output = [] }
feed (c ∷ cs) m = let f : Fed = feed_byte c m in behind f.output (feed cs f.machine)

-- the end of input ends a line that has begun
unfoldable pub at_end : Machine → Fed
at_end m =
    elim (stopped m.state.tally || eqb (length m.pending) 0) [
      | true ↦ record { machine = m; output = [] }
      | false ↦ ended (line m.pending m.state)
    ]

-- then come the three numbers
unfoldable pub finish : Machine → List ℕ
finish m = let f : Fed = at_end m in f.output ++ last_line f.machine.state.tally

-- all that is printed
unfoldable pub fed_whole : Fed → List ℕ
fed_whole f = f.output ++ finish f.machine
