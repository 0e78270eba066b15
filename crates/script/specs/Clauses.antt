-- The words in which the library's contracts are said: what stands in its buffers and what is left of them. Needed to read a contract, not to believe what the
-- runner prints: that is `run`. Assumes nothing.
use Rattle.std.specs.Prelude.{◌≡◌, ℕ, ◌+◌, ◌*◌, ◌≤◌, List, [], ◌∷◌, length, take}
use Rattle.script.specs.declared.feed.Machine.{Machine as Held}
use Rattle.script.specs.declared.line.Progress.{Progress}
use Rattle.lines.specs.declared.request.Request.{Request}
use Rattle.script.specs.declared.work.Work.{Work}
use Rattle.model.specs.Definitions.Parts.{splice}
use Rattle.model.specs.Definitions.Layout.{most_boards, most_pages, bank_size}
use Rattle.lines.specs.Definitions.Lines.{most_bytes}
use Rattle.lines.specs.Clauses.{Put, most_line, most_last, Sums, Counts}
use Rattle.script.specs.Definitions.Runner.{State, Step, Worked, work}
use Rattle.script.specs.Feeding.{Machine, feed_byte, feed}

-- ---- one line's work

-- N 8, P 16 has 25,188 bytes: the largest bank
abbrev pub most_bank : ℕ
most_bank = bank_size most_boards most_pages

-- what a line prints, and the bank that it leaves: the first bytes of the buffer, all else as it was
pub record Works (w : Worked) (r : Work) (before after : List ℕ) : Type 0 where
  pub printed : r.printed ≡ w.printed
  pub bank : Put before 0 w.bank after r.size

-- a line that is not an N on line 1
abbrev pub called : Request → List ℕ → Worked
called q s = work 2 q s

-- ---- one line

-- the state that the buffers hold
unfoldable pub state_of : List ℕ → Progress → State
state_of buffer p = record { bank = take p.size buffer; tally = p.tally }

-- a line may come: the bank is in its buffer, the tally and the output have room
pub record Ready (bank out : List ℕ) (p : Progress) : Type 0 where
  pub buffer : length bank ≡ most_bank
  pub within : p.size ≤ length bank
  pub counts : Counts p.tally
  pub room : p.at + most_line ≤ length out

-- a step was made: the bank that it leaves in front of its buffer, its output behind what was there
pub record Ran (t : Step) (p r : Progress) (bank out bank' out' : List ℕ) : Type 0 where
  pub left : Put bank 0 t.state.bank bank' r.size
  pub tally : r.tally ≡ t.state.tally
  pub output : Put out p.at t.output out' r.at
  pub near : r.at ≤ p.at + most_line
  pub sums : Sums r.tally

-- ---- bytes fed

-- the machine that the buffers hold
unfoldable pub machine_of : List ℕ → List ℕ → Held → Machine
machine_of line bank m = record { pending = take m.pending line; state = state_of bank m.progress }

-- the buffers are as long as they have to be, and the machine is in them
pub record InBuffers (line bank : List ℕ) (m : Held) : Type 0 where
  pub line_buffer : length line ≡ most_bytes + 1
  pub pending_in : m.pending ≤ most_bytes + 1
  pub bank_buffer : length bank ≡ most_bank
  pub within : m.progress.size ≤ length bank
  pub sums : Sums m.progress.tally

-- n bytes may come
pub record RunningFor (n : ℕ) (line bank out : List ℕ) (m : Held) : Type 0 where
  pub held : InBuffers line bank m
  pub room : m.progress.at + most_line * n ≤ length out

-- the two parts of a machine that stand in buffers
abbrev pub pending_of : Machine → List ℕ
pending_of m = m.pending

abbrev pub bank_of : Machine → List ℕ
bank_of m = m.state.bank

-- what a buffer becomes that holds such a part in its first bytes: each byte fed lays the part anew over what stood there, and all behind it stays
unfoldable pub laid : (Machine → List ℕ) → List ℕ → Machine → List ℕ → List ℕ
laid of [] m buffer = buffer
laid of (c ∷ cs) m buffer = let n : Machine = (feed_byte c m).machine in laid of cs n (splice buffer 0 (of n))

-- the bytes cs were fed: the machine that they leave, and all of both buffers
pub record Leaves (cs : List ℕ) (m r : Held) (line bank line' bank' : List ℕ) : Type 0 where
  pub machine : machine_of line' bank' r ≡ (feed cs (machine_of line bank m)).machine
  pub line_left : line' ≡ laid pending_of cs (machine_of line bank m) line
  pub bank_left : bank' ≡ laid bank_of cs (machine_of line bank m) bank
  pub held : InBuffers line' bank' r

-- and their output stands behind what was there
pub record FedBy (cs : List ℕ) (m r : Held) (line bank out line' bank' out' : List ℕ) : Type 0 where
  pub leaves : Leaves cs m r line bank line' bank'
  pub output : Put out m.progress.at (feed cs (machine_of line bank m)).output out' r.progress.at
  pub near : r.progress.at ≤ m.progress.at + most_line * length cs

abbrev pub from_nothing : Held
from_nothing = record { pending = 0; progress = record { size = 0; tally = record { read = 0; done = 0; refused = 0 }; at = 0 } }

-- ---- a stream of reads

-- the buffers for reads of n bytes, and for the end behind one
pub record Buffers (n : ℕ) (line bank out : List ℕ) : Type 0 where
  pub line_buffer : length line ≡ most_bytes + 1
  pub bank_buffer : length bank ≡ most_bank
  pub room : most_line * n + most_line + most_last ≤ length out

-- the same machine, whose output begins the buffer
abbrev pub emptied : Held → Held
emptied m = record { pending = m.pending; progress = record { size = m.progress.size; tally = m.progress.tally; at = 0 } }

-- v is printed: the first n bytes of the buffer, all else as it was. What stands behind `put` follows from it; a caller that lends these bytes is asked for it.
pub record Written (before v : List ℕ) (n : ℕ) (out : List ℕ) : Type 0 where
  pub put : Put before 0 v out n
  pub bytes : take n out ≡ v
  pub inside : n ≤ length out
  pub count : n ≡ length (take n out)

-- a read was fed: what it leaves and prints; the next read may come
pub record Streamed (cs : List ℕ) (m r : Held) (line bank out line' bank' out' : List ℕ) : Type 0 where
  pub leaves : Leaves cs m r line bank line' bank'
  pub output : Written out (feed cs (machine_of line bank m)).output r.progress.at out'
