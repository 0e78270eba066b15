-- An input cut at any place prints the same; and the machine that is fed a whole input prints what `run` says. Assumes nothing.
use Rattle.std.specs.Prelude.{◌≡◌, refl, ℕ, zero, suc, ◌+◌, ◌-◌, ◌≤◌, ◌<◌, true, false, List, [], ◌∷◌, ◌++◌, length, take, eqb, ltb}
use Rattle.std.proofs.Common.{sym, ◌∙◌, append_assoc, arith, length-append, length-take, take_all, ne_eqb, lt-ltb, ltb-true, ltb-false, leb-true, leb-false}
use Rattle.std.proofs.lemmas.List.{take-append-le}
use Rattle.model.proofs.Laws.Logic.{by_bool}
use Rattle.lines.specs.Definitions.Lines.{most_bytes, request}
use Rattle.lines.specs.Definitions.Output.{newline, last_line}
use Rattle.script.specs.Definitions.Runner.{State, begin, step_of, line, lines_from, run_lines, run}
use Rattle.lines.specs.Definitions.Tally.{most_lines, stopped}
use Rattle.lines.specs.Laws.Tally.{counted_read}
use Rattle.script.specs.Feeding.{Machine, Fed, idle, with_byte, ended, feed_byte, behind, feed, at_end, finish, fed_whole}

-- ---- feeding in pieces

-- an input in two pieces: the second goes on where the first left off
pub feed_append : (xs ys : List ℕ) (m : Machine) → feed (xs ++ ys) m ≡ behind (feed xs m).output (feed ys (feed xs m).machine)
unfolding feed behind
feed_append [] ys m = refl
feed_append (c ∷ cs) ys m =
    let f : Fed = feed_byte c m in
    rw (feed_append cs ys f.machine, append_assoc f.output (feed cs f.machine).output _)

-- ---- a line that is too long

-- of a line's bytes no more are kept
abbrev pub kept : List ℕ → List ℕ
kept w = take (most_bytes + 1) w

kept_short : (w : List ℕ) → length w ≤ most_bytes → kept w ≡ w
kept_short w h = take_all (most_bytes + 1) w (omega arith)

kept_request : (w : List ℕ) → request (kept w) ≡ request w
unfolding request
kept_request w =
    by_bool (ltb most_bytes (length w))
    (λ t. let h : most_bytes < length w = ltb-true _ _ t in
    let k : length (kept w) ≡ most_bytes + 1 = simp length-take (omega arith) in
    cc (lt-ltb most_bytes (length (kept w)) (omega arith), t))
    (λ t. let h : length w ≤ most_bytes = ltb-false _ _ t in rw (kept_short w h))

kept_line : (w : List ℕ) (s : State) → line (kept w) s ≡ line w s
unfolding line
kept_line w s = rw (kept_request w)

kept_byte : (w : List ℕ) (c : ℕ) → with_byte (kept w) c ≡ kept (w ++ (c ∷ []))
unfolding with_byte
kept_byte w c =
    by_bool (ltb most_bytes (length w))
    (λ t. let h : most_bytes < length w = ltb-true _ _ t in
    let k : length (kept w) ≡ most_bytes + 1 = simp length-take (omega arith) in
    cc (lt-ltb most_bytes (length (kept w)) (omega arith), take-append-le (most_bytes + 1) w (c ∷ []) (omega arith)))
    (λ t. let h : length w ≤ most_bytes = ltb-false _ _ t in
    let k : length (w ++ (c ∷ [])) ≤ most_bytes + 1 = simp length-append (omega arith) in
    cc (kept_short w h, t, take_all (most_bytes + 1) (w ++ (c ∷ [])) k))

kept_empty : (w : List ℕ) → eqb (length (kept w)) 0 ≡ eqb (length w) 0
kept_empty [] = refl
kept_empty (c ∷ w) = ne_eqb (suc (length (take most_bytes w))) 0 (λ e. omega arith) ∙ sym (ne_eqb (suc (length w)) 0 (λ e. omega arith))

-- ---- the whole

line_read : (l : List ℕ) (s : State) → (line l s).state.tally.read ≡ s.tally.read + 1
unfolding line step_of
line_read l s = counted_read _ s.tally

-- how many lines may still come
abbrev left : State → ℕ
left s = most_lines - s.tally.read

left_line : (l : List ℕ) (s : State) → stopped s.tally ≡ false → left s ≡ suc (left (line l s).state)
unfolding stopped
left_line l s t = let h : s.tally.read < most_lines = leb-false _ _ t in rw (line_read l s) (omega arith)

left_stopped : (s : State) → stopped s.tally ≡ true → left s ≡ 0
unfolding stopped
left_stopped s t = let h : most_lines ≤ s.tally.read = leb-true _ _ t in omega arith

take_none : (n : ℕ) → take {A = List ℕ} n [] ≡ []
take_none zero = refl
take_none (suc n) = refl

pub whole_behind : (out : List ℕ) (f : Fed) → fed_whole (behind out f) ≡ out ++ fed_whole f
unfolding fed_whole behind
whole_behind out f = append_assoc out f.output (finish f.machine)

-- the end of input, by what the machine holds
module _ (m : Machine) where
  pub end_stopped : stopped m.state.tally ≡ true → at_end m ≡ record { machine = m; output = [] }
  unfolding at_end
  end_stopped t = cc t

  pub end_empty : eqb (length m.pending) 0 ≡ true → at_end m ≡ record { machine = m; output = [] }
  unfolding at_end
  end_empty e = by_bool (stopped m.state.tally) (λ t. cc t) (λ t. cc (t, e))

  pub end_begun : stopped m.state.tally ≡ false → eqb (length m.pending) 0 ≡ false → at_end m ≡ ended (line m.pending m.state)
  unfolding at_end
  end_begun t e = cc (t, e)

  pub finish_as : (f : Fed) → at_end m ≡ f → finish m ≡ f.output ++ last_line f.machine.state.tally
  unfolding finish
  finish_as f e = rw e

finish_run : (w : List ℕ) (s : State) → finish (record { pending = kept w; state = s }) ≡ run_lines (take (left s) (lines_from w [])) s
unfolding ended lines_from run_lines
finish_run w s =
    let m : Machine = record { pending = kept w; state = s } in
    by_bool (stopped s.tally)
    (λ t. finish_as m _ (end_stopped m t) ∙ cc (left_stopped s t))
    (λ t. by_bool (eqb (length w) 0)
    (λ e. finish_as m _ (end_empty m (kept_empty w ∙ e)) ∙ cc (e, take_none (left s)))
    (λ e. finish_as m _ (end_begun m t (kept_empty w ∙ e)) ∙ cc (e, kept_line w s, left_line w s t, take_none (left (line w s).state))))

-- one byte, by what it is
module _ (c : ℕ) (m : Machine) where
  pub byte_stopped : stopped m.state.tally ≡ true → feed_byte c m ≡ record { machine = m; output = [] }
  unfolding feed_byte
  byte_stopped t = rw (t, feed_byte)

  pub byte_newline : stopped m.state.tally ≡ false → eqb c newline ≡ true → feed_byte c m ≡ ended (line m.pending m.state)
  unfolding feed_byte
  byte_newline t e = cc (t, e)

  pub byte_other : stopped m.state.tally ≡ false → eqb c newline ≡ false
      → feed_byte c m ≡ record { machine = record { pending = with_byte m.pending c; state = m.state }; output = [] }
  unfolding feed_byte
  byte_other t e = cc (t, e)

feed_step : (c : ℕ) (cs : List ℕ) (m : Machine) (f : Fed) → feed_byte c m ≡ f → fed_whole (feed (c ∷ cs) m) ≡ f.output ++ fed_whole (feed cs f.machine)
unfolding feed
feed_step c cs m f e = rw e (whole_behind f.output (feed cs f.machine))

-- the machine that has begun line w, fed the rest of the input
fed_from : (cs w : List ℕ) (s : State) → fed_whole (feed cs (record { pending = kept w; state = s })) ≡ run_lines (take (left s) (lines_from w cs)) s
unfolding fed_whole feed lines_from run_lines ended
fed_from [] w s = finish_run w s
fed_from (c ∷ cs) w s =
    let m : Machine = record { pending = kept w; state = s } in
    by_bool (stopped s.tally)
    (λ t. feed_step c cs m _ (byte_stopped c m t) ∙ fed_from cs w s ∙ cc (left_stopped s t))
    (λ t. by_bool (eqb c newline)
    (λ e. feed_step c cs m _ (byte_newline c m t e) ∙ rw (kept_line w s) (cc (e, left_line w s t, fed_from cs [] (line w s).state)))
    (λ e. feed_step c cs m _ (byte_other c m t e) ∙ rw (kept_byte w c) (fed_from cs (w ++ (c ∷ [])) s ∙ cc e)))

-- the machine prints what the definition says, however its input is cut
pub fed_run : (input : List ℕ) → fed_whole (feed input idle) ≡ run input
unfolding idle run begin
fed_run input = fed_from input [] begin

-- an input in any number of reads
unfoldable pub joined : List (List ℕ) → List ℕ
joined [] = []
joined (xs ∷ xss) = xs ++ joined xss

unfoldable pub feed_all : List (List ℕ) → Machine → Fed
feed_all [] m = record { machine = m; output = [] }
feed_all (xs ∷ xss) m = behind (feed xs m).output (feed_all xss (feed xs m).machine)

pub feed_all_lem : (xss : List (List ℕ)) (m : Machine) → feed_all xss m ≡ feed (joined xss) m
unfolding feed_all joined feed
feed_all_lem [] m = refl
feed_all_lem (xs ∷ xss) m = rw (feed_all_lem xss (feed xs m).machine, feed_append xs (joined xss) m)

pub fed_all_run : (xss : List (List ℕ)) → fed_whole (feed_all xss idle) ≡ run (joined xss)
fed_all_run xss = rw (feed_all_lem xss idle) (fed_run (joined xss))
