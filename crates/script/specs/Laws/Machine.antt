-- The machine in its buffers: one byte's step there, many bytes, and the end of input. Assumes nothing.
use Rattle.std.specs.Prelude.{◌≡◌, true, false, get_or}
use Rattle.std.proofs.Math.Path.{refl, ap}
use Rattle.std.proofs.Common.{sym, ◌∙◌, arith, add-one, length-append, take-append-drop, take_all, take-suc, take-suc-set, eq-eqb, ne_eqb, lt-ltb, le-ltb}
use Prim.Native.Nat.{ℕ, ◌+◌, ◌≤◌, ◌<◌}
use mathlib.Core.List.{List, [], ◌∷◌, ◌++◌, append-nil}
use Rattle.std.proofs.Math.ListN.{length, take, set, length-set}
use Rattle.std.proofs.Math.Seq.{length-take-le}
use Rattle.script.specs.declared.feed.Machine.{Machine as Held}
use Rattle.script.specs.declared.line.Progress.{Progress}
use Rattle.model.specs.Definitions.Parts.{splice}
use Rattle.model.proofs.Laws.Parts.{splice_zero, splice_next, splice_one}
use Rattle.lines.specs.Definitions.Lines.{most_bytes}
use Rattle.lines.specs.Definitions.Output.{newline, last_line}
use Rattle.lines.specs.Definitions.Tally.{stopped}
use Rattle.lines.specs.Clauses.{Put, most_line}
use Rattle.lines.specs.Laws.Output.{put_next, put_as, put_inside}
use Rattle.script.specs.Definitions.Runner.{Step, line}
use Rattle.script.specs.Feeding.{Machine, Fed, with_byte, ended, feed_byte, behind, feed, at_end, finish}
use Rattle.script.specs.Laws.Feeding.{feed_append, byte_stopped, byte_newline, byte_other, finish_as, end_stopped, end_empty, end_begun}
use Rattle.script.specs.Laws.Work.{put_none}
use Rattle.script.specs.Laws.Progress.{ran_state}
use Rattle.script.specs.Clauses.{state_of, Ran, machine_of, InBuffers, RunningFor, pending_of, bank_of, laid, FedBy}

-- what stands in the first bytes, laid over itself
splice_held : (l : List ℕ) (n : ℕ) → n ≤ length l → l ≡ splice l 0 (take n l)
splice_held l n h = sym (splice_zero l (take n l) n (length-take-le n l h) ∙ take-append-drop n l)

-- and one byte more behind it
splice_held_more : (l : List ℕ) (n c : ℕ) → n < length l → set l n c ≡ splice l 0 (take n l ++ (c ∷ []))
splice_held_more l n c h =
    let e : length (take n l) ≡ n = length-take-le n l (omega arith) in
    sym (sym (splice_next l 0 n (take n l) (c ∷ []) (omega arith) (omega arith))
    ∙ ap (λ (k : List ℕ). splice k n (c ∷ [])) (sym (splice_held l n (omega arith))) ∙ splice_one l n c h)

-- ---- one byte

module _ (c : ℕ) (line' bank out : List ℕ) (m : Held) (run : RunningFor 1 line' bank out m) where
  abbrev before : Machine
  before = machine_of line' bank m

  tally_held : before.state.tally ≡ m.progress.tally
  unfolding machine_of state_of
  tally_held = refl

  -- what the definition gives for the byte, in the buffers
  fed_one : (f : Fed) (r : Held) (l b o : List ℕ) → feed_byte c before ≡ f → machine_of l b r ≡ f.machine → l ≡ splice line' 0 f.machine.pending
      → b ≡ splice bank 0 f.machine.state.bank → InBuffers l b r → Put out m.progress.at f.output o r.progress.at
      → r.progress.at ≤ m.progress.at + most_line → FedBy (c ∷ []) m r line' bank out l b o
  unfolding feed behind laid
  fed_one f r l b o e s p q h put near =
      record {
        leaves = record { machine = s ∙ rw e; line_left = p ∙ rw e; bank_left = q ∙ rw e; held = h };
        output = put_as (append-nil (feed_byte c before).output ∙ ap (λ (y : Fed). y.output) e) put;
        near = near;
      }

  -- nothing is printed, and the machine stays or has one byte more
  quiet : (r : Held) (l : List ℕ) → feed_byte c before ≡ record { machine = machine_of l bank r; output = [] } → r.progress ≡ m.progress
      → r.pending ≤ most_bytes + 1 → length l ≡ most_bytes + 1 → l ≡ splice line' 0 (take r.pending l) → FedBy (c ∷ []) m r line' bank out l bank out
  unfolding machine_of state_of
  quiet r l e p k n s =
      let held = run.held in
      fed_one (record { machine = machine_of l bank r; output = [] }) r l bank out e refl s (rw p (splice_held bank m.progress.size held.within))
      (record { line_buffer = n; pending_in = k; bank_buffer = held.bank_buffer; within = rw p held.within; sums = rw p held.sums })
      (rw p (put_none out m.progress.at)) (rw p (omega arith))

  pending_within : m.pending ≤ length line'
  pending_within = omega (arith, run.held.pending_in, run.held.line_buffer)

  stays : feed_byte c before ≡ record { machine = before; output = [] } → FedBy (c ∷ []) m m line' bank out line' bank out
  stays e = quiet m line' e refl run.held.pending_in run.held.line_buffer (splice_held line' m.pending pending_within)

  pub fed_stopped : stopped m.progress.tally ≡ true → FedBy (c ∷ []) m m line' bank out line' bank out
  fed_stopped h = stays (byte_stopped c before (rw tally_held h))

  pub fed_line : (r : Progress) (bank' out' : List ℕ) → stopped m.progress.tally ≡ false → c ≡ newline
      → Ran (line (take m.pending line') (state_of bank m.progress)) m.progress r bank out bank' out' → length bank' ≡ length bank
      → FedBy (c ∷ []) m (record { pending = 0; progress = r }) line' bank out line' bank' out'
  unfolding ended machine_of
  fed_line r bank' out' h e ran k =
      let t : Step = line (take m.pending line') (state_of bank m.progress) in
      let f : feed_byte c before ≡ ended t = byte_newline c before (rw tally_held h) (eq-eqb c newline e) in
      let held = run.held in
      fed_one (ended t) (record { pending = 0; progress = r }) line' bank' out' f (rw (ran_state ran)) (splice_held line' 0 (omega arith)) ran.left.bytes
      (record { line_buffer = held.line_buffer; pending_in = omega arith; bank_buffer = k ∙ held.bank_buffer; within = put_inside ran.left; sums = ran.sums })
      ran.output ran.near

  pending_length : length (take m.pending line') ≡ m.pending
  pending_length = length-take-le m.pending line' pending_within

  pub fed_long : stopped m.progress.tally ≡ false → (c ≡ newline → ⊥) → most_bytes < m.pending → FedBy (c ∷ []) m m line' bank out line' bank out
  unfolding machine_of with_byte
  fed_long h e k =
      let w : with_byte (take m.pending line') c ≡ take m.pending line'
      = cc (lt-ltb most_bytes (length (take m.pending line')) (omega (arith, pending_length))) in
      stays (byte_other c before (rw tally_held h) (ne_eqb c newline e) ∙ rw w)

  pub fed_more : stopped m.progress.tally ≡ false → (c ≡ newline → ⊥) → m.pending ≤ most_bytes
      → FedBy (c ∷ []) m (record { pending = m.pending + 1; progress = m.progress }) line' bank out (set line' m.pending c) bank out
  unfolding machine_of with_byte
  fed_more h e k =
      let l : List ℕ = set line' m.pending c in
      let z : m.pending < length line' = omega (arith, run.held.line_buffer) in
      let w : with_byte (take m.pending line') c ≡ take m.pending line' ++ (c ∷ [])
      = cc (le-ltb most_bytes (length (take m.pending line')) (omega (arith, pending_length))) in
      let s : take (m.pending + 1) l ≡ take m.pending line' ++ (c ∷ []) = rw (add-one m.pending) (take-suc-set line' m.pending c z) in
      quiet (record { pending = m.pending + 1; progress = m.progress }) l (byte_other c before (rw tally_held h) (ne_eqb c newline e) ∙ rw (w, s)) refl
      (omega arith) (simp length-set run.held.line_buffer) (rw s (splice_held_more line' m.pending c z))

-- ---- many bytes

pub fed_none : (line bank out : List ℕ) (m : Held) (n : ℕ) → RunningFor n line bank out m → FedBy [] m m line bank out line bank out
unfolding feed laid
fed_none line bank out m n run =
    record {
      leaves = record { machine = refl; line_left = refl; bank_left = refl; held = run.held };
      output = put_none out m.progress.at;
      near = omega arith;
    }

laid_append : (of : Machine → List ℕ) (xs ys : List ℕ) (m : Machine) (buffer : List ℕ)
    → laid of (xs ++ ys) m buffer ≡ laid of ys (feed xs m).machine (laid of xs m buffer)
unfolding laid feed behind
laid_append of [] ys m buffer = refl
laid_append of (c ∷ cs) ys m buffer = let n : Machine = (feed_byte c m).machine in laid_append of cs ys n (splice buffer 0 (of n))

-- bytes behind bytes
fed_next : {xs ys : List ℕ} {m₀ m r : Held} {line₀ bank₀ out₀ line bank out line' bank' out' : List ℕ} → FedBy xs m₀ m line₀ bank₀ out₀ line bank out
    → FedBy ys m r line bank out line' bank' out' → m₀.progress.at ≤ length out₀ → FedBy (xs ++ ys) m₀ r line₀ bank₀ out₀ line' bank' out'
unfolding behind
fed_next {xs} {ys} {m₀} {m} {r} {line₀} {bank₀} {out₀} {line} {bank} {out} {line'} {bank'} {out'} f g h =
    let b : Machine = machine_of line₀ bank₀ m₀ in
    let a : feed (xs ++ ys) b ≡ behind (feed xs b).output (feed ys (feed xs b).machine) = feed_append xs ys b in
    let e : machine_of line bank m ≡ (feed xs b).machine = f.leaves.machine in
    record {
      leaves =
          record {
            machine = g.leaves.machine ∙ rw (e, a);
            line_left = g.leaves.line_left ∙ rw (e, f.leaves.line_left, laid_append pending_of xs ys b line₀);
            bank_left = g.leaves.bank_left ∙ rw (e, f.leaves.bank_left, laid_append bank_of xs ys b bank₀);
            held = g.leaves.held;
          };
      output = rw a (put_next f.output (rw e at g.output) h);
      near = rw (length-append xs ys) (omega (arith, f.near, g.near));
    }

-- turn i of the loop over an input
pub record Turn (input line₀ bank₀ out₀ : List ℕ) (m₀ : Held) (i : ℕ) (line bank out : List ℕ) (m : Held) : Type 0 where
  pub inside : i ≤ length input
  pub out_kept : length out ≡ length out₀
  pub fed : FedBy (take i input) m₀ m line₀ bank₀ out₀ line bank out

module _ (input line₀ bank₀ out₀ : List ℕ) (m₀ : Held) (run : RunningFor (length input) line₀ bank₀ out₀ m₀) (i : ℕ) (line bank out : List ℕ) (m : Held)
    (t : Turn input line₀ bank₀ out₀ m₀ i line bank out m) (h : i < length input) where
  pub turn_running : RunningFor 1 line bank out m
  turn_running =
      let n : length (take i input) ≡ i = length-take-le i input t.inside in
      record { held = t.fed.leaves.held; room = omega (arith, t.fed.near, n, t.out_kept, run.room) }

  pub turn_next : (r : Held) (line' bank' out' : List ℕ) → FedBy (get_or input i 0 ∷ []) m r line bank out line' bank' out'
      → FedBy (take (i + 1) input) m₀ r line₀ bank₀ out₀ line' bank' out'
  turn_next r line' bank' out' f = rw (add-one i, take-suc input i 0 h) (fed_next t.fed f (omega (arith, run.room)))

pub turn_done : (input line₀ bank₀ out₀ : List ℕ) (m₀ : Held) (i : ℕ) (line bank out : List ℕ) (m : Held)
    → Turn input line₀ bank₀ out₀ m₀ i line bank out m → length input ≤ i → FedBy input m₀ m line₀ bank₀ out₀ line bank out
turn_done input line₀ bank₀ out₀ m₀ i line bank out m t h = rw (take_all i input h) at t.fed

-- ---- the end

module _ (line' bank : List ℕ) (m : Held) where
  abbrev held : Machine
  held = machine_of line' bank m

  -- what the end leaves and prints
  abbrev Ends : List ℕ → List ℕ → List ℕ → ℕ → Type 0
  Ends out bank' out' b = Put out m.progress.at (finish held) out' b × (bank' ≡ splice bank 0 (at_end held).machine.state.bank)

  -- no line has begun, or reading has stopped: the bank stays
  module _ (k : m.progress.size ≤ length bank) {out out' : List ℕ} {b : ℕ} (p : Put out m.progress.at (last_line m.progress.tally) out' b) where
    quiet_end : at_end held ≡ record { machine = held; output = [] } → Ends out bank out' b
    unfolding machine_of state_of
    quiet_end e = (put_as (finish_as held _ e) p, rw e (splice_held bank m.progress.size k))

    pub ends_stopped : stopped m.progress.tally ≡ true → Ends out bank out' b
    unfolding machine_of state_of
    ends_stopped h = quiet_end (end_stopped held h)

    pub ends_empty : m.pending ≡ 0 → Ends out bank out' b
    unfolding machine_of
    ends_empty e = let a : length (take m.pending line') ≡ 0 = rw e in quiet_end (end_empty held (eq-eqb _ 0 a))

  -- the same, said by equations
  pub empty_output : m.pending ≡ 0 → finish (machine_of line' bank m) ≡ last_line m.progress.tally
  unfolding machine_of state_of
  empty_output e = finish_as held _ (end_empty held (eq-eqb _ 0 (ap (λ (k : ℕ). length (take k line')) e)))

  pub empty_bank : m.pending ≡ 0 → m.progress.size ≤ length bank
      → splice bank 0 (at_end (machine_of line' bank m)).machine.state.bank ≡ bank
  unfolding machine_of state_of
  empty_bank e k =
      let a : at_end held ≡ record { machine = held; output = [] } = end_empty held (eq-eqb _ 0 (ap (λ (k : ℕ). length (take k line')) e)) in
      rw a (sym (splice_held bank m.progress.size k))

  -- the last line's output, and the three numbers behind it
  pub ends_line : (r : Progress) (bank' before after last : List ℕ) (b : ℕ) → stopped m.progress.tally ≡ false → (m.pending ≡ 0 → ⊥)
      → m.pending ≤ length line' → m.progress.at ≤ length before
      → Ran (line (take m.pending line') (state_of bank m.progress)) m.progress r bank before bank' after
      → Put after r.at (last_line r.tally) last b
      → Ends before bank' last b
  unfolding ended machine_of state_of
  ends_line r bank' before after last b h e k z ran p =
      let a : length (take m.pending line') ≡ m.pending = length-take-le m.pending line' k in
      let f : at_end held ≡ ended (line (take m.pending line') (state_of bank m.progress)) = end_begun held h (ne_eqb _ 0 (λ y. e (sym a ∙ y))) in
      (put_as (finish_as held _ f) (put_next ran.output (rw ran.tally at p) z), rw f ran.left.bytes)
