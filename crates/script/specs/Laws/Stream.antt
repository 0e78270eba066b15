-- A stream of reads: each read's output stands at the beginning of the buffer. Assumes nothing.
use Rattle.std.specs.Prelude.{◌≡◌, ℕ, ◌*◌, ◌≤◌, List, [], ◌∷◌, ◌++◌, length, take}
use Rattle.std.proofs.Math.Path.{refl}
use Rattle.std.proofs.Common.{sym, ◌∙◌, arith}
use Rattle.script.specs.declared.feed.Machine.{Machine as Held}
use Rattle.lines.specs.Clauses.{Put, most_line}
use Rattle.lines.specs.Laws.Output.{put_front, put_inside}
use Rattle.script.specs.Definitions.Runner.{begin, run}
use Rattle.script.specs.Feeding.{Machine, idle, feed, finish, fed_whole}
use Rattle.script.specs.Laws.Feeding.{whole_behind, joined, feed_all, fed_all_run}
use Rattle.script.specs.Clauses.{state_of, InBuffers, RunningFor, FedBy, from_nothing, machine_of, Buffers, emptied, Written, Streamed}

pub starts : (n : ℕ) (line bank out : List ℕ) → Buffers n line bank out → InBuffers line bank from_nothing
starts n line bank out b = record { line_buffer = b.line_buffer; pending_in = omega arith; bank_buffer = b.bank_buffer; within = omega arith; sums = refl }

pub emptied_held : (line bank : List ℕ) (m : Held) → InBuffers line bank m → InBuffers line bank (emptied m)
emptied_held line bank m h =
    record { line_buffer = h.line_buffer; pending_in = h.pending_in; bank_buffer = h.bank_buffer; within = h.within; sums = h.sums }

-- what is put at the beginning is what a program writes out
pub put_written : {before v out : List ℕ} {n : ℕ} → Put before 0 v out n → Written before v n out
put_written p = record { put = p; bytes = put_front p; inside = put_inside p; count = rw (put_front p) (omega (arith, p.end)) }

module _ (line bank : List ℕ) (m : Held) where
  -- how much was printed is no part of the machine
  pub same_machine : machine_of line bank (emptied m) ≡ machine_of line bank m
  unfolding machine_of state_of
  same_machine = refl

  pub read_streamed : (input : List ℕ) (r : Held) (out line' bank' out' : List ℕ)
      → FedBy input (emptied m) r line bank out line' bank' out' → Streamed input m r line bank out line' bank' out'
  unfolding machine_of state_of
  read_streamed input r out line' bank' out' f =
      let a = f.leaves in
      record {
        leaves = record { machine = a.machine; line_left = a.line_left; bank_left = a.bank_left; held = a.held };
        output = put_written f.output;
      }

-- a read that the output has room for may come
pub running_emptied : (line bank out : List ℕ) (m : Held) (n : ℕ) → InBuffers line bank m → most_line * n ≤ length out → RunningFor n line bank out (emptied m)
running_emptied line bank out m n h k = record { held = emptied_held line bank m h; room = omega (arith, k) }

-- ---- the whole stream

-- what the contracts of reads and end allow a stream to print, all of it one behind the other, from the machine that the buffers hold
pub data Prints : List (List ℕ) → List ℕ → List ℕ → Held → List ℕ → Type 0 where
  ended : (line bank out out' : List ℕ) (m : Held) (n : ℕ) → Written out (finish (machine_of line bank m)) n out' → Prints [] line bank m (take n out')
  read : (xs : List ℕ) (xss : List (List ℕ)) (line bank out line' bank' out' v : List ℕ) (m r : Held) → Streamed xs m r line bank out line' bank' out'
      → Prints xss line' bank' r v → Prints (xs ∷ xss) line bank m (take r.progress.at out' ++ v)

prints_fed : (xss : List (List ℕ)) (line bank : List ℕ) (m : Held) (v : List ℕ) → Prints xss line bank m v → v ≡ fed_whole (feed_all xss (machine_of line bank m))
unfolding feed_all fed_whole
prints_fed _ _ _ _ _ (ended line bank out out' m n w) = w.bytes
prints_fed _ _ _ _ _ (read xs xss line bank out line' bank' out' v m r s p) =
    let k : Machine = (feed xs (machine_of line bank m)).machine in
    let e : v ≡ fed_whole (feed_all xss k) = rw s.leaves.machine at (prints_fed xss line' bank' r v p) in
    rw (s.output.bytes, e) (sym (whole_behind (feed xs (machine_of line bank m)).output (feed_all xss k)))

from_nothing_lem : (line bank : List ℕ) → machine_of line bank from_nothing ≡ idle
unfolding machine_of state_of idle begin
from_nothing_lem line bank = refl

-- from its start a stream prints `run` of its reads joined, however the input is cut and whatever the buffers held
pub prints_run : (xss : List (List ℕ)) (line bank v : List ℕ) → Prints xss line bank from_nothing v → v ≡ run (joined xss)
prints_run xss line bank v p = prints_fed xss line bank from_nothing v p ∙ rw (from_nothing_lem line bank) (fed_all_run xss)
