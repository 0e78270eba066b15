-- Reads one behind the other, and the end of input behind them. Assumes nothing.
use Rattle.std.proofs.Common.{◌≡◌, refl, sym, ap, subst, ◌∙◌, ℕ, ◌≤◌, ◌<◌, Bool, true, false, List, [], ◌∷◌, ◌++◌, length, Some, None, IfSome, Result, Ok, Err, OnOk, arith, length-append}
use Rattle.std.specs.declared.option.Option.{Option}
use Rattle.std.specs.Io.KnownBytes.{Consumes, Appends, IsAtEnd}
use Rattle.std.proofs.KnownBytes.{Consumes-nil, Appends-nil, Appends-trans, Consumes-trans}
use Rattle.lines.specs.Definitions.Tally.{stopped}
use Rattle.script.specs.Definitions.Runner.{begin, run}
use Rattle.script.specs.Feeding.{Machine, idle, feed, behind, finish, fed_whole}
use Rattle.script.specs.Clauses.{machine_of, state_of, from_nothing}
use Rattle.script.specs.Laws.Feeding.{feed_append, byte_stopped, fed_run, whole_behind}
use Rattle.runner.specs.Reads.{WasFed}

pub ok_then : {T E P Q : Type 0} (r : Result T E) → OnOk r P → (P → Q) → OnOk r Q
ok_then (Ok x) h f = f h
ok_then (Err e) h f = tt

-- before the first read
pub fed_at_first : (line bank : List ℕ) (rest held : Option (List ℕ)) → WasFed [] idle (machine_of line bank from_nothing) rest rest held held
unfolding feed machine_of state_of idle begin
fed_at_first line bank rest held = record { read = Consumes-nil rest; machine = refl; written = Appends-nil held }

-- nothing read, nothing printed
pub fed_nothing : (m : Machine) (rest rest' held : Option (List ℕ)) (cs : List ℕ) → cs ≡ [] → Consumes rest rest' cs → WasFed [] m m rest rest' held held
unfolding feed
fed_nothing m rest rest' held cs e c = record { read = subst (Consumes rest rest') e c; machine = refl; written = Appends-nil held }

-- a read behind others
pub fed_more : (xs ys : List ℕ) (k m r : Machine) (rest rest' rest'' held held' held'' : Option (List ℕ))
    → WasFed xs k m rest rest' held held' → WasFed ys m r rest' rest'' held' held'' → WasFed (xs ++ ys) k r rest rest'' held held''
unfolding behind
fed_more xs ys k m r rest rest' rest'' held held' held'' f g =
    let joined : feed (xs ++ ys) k ≡ behind (feed xs k).output (feed ys m) =
    feed_append xs ys k ∙ ap (λ n. behind (feed xs k).output (feed ys n)) (sym f.machine) in
    record {
      read = Consumes-trans rest rest' rest'' xs ys f.read g.read;
      machine = g.machine ∙ sym (ap (λ f. f.machine) joined);
      written = subst (Appends held held'') (sym (ap (λ f. f.output) joined)) (Appends-trans held held' held'' _ _ f.written g.written);
    }

-- a machine that has stopped prints nothing more
stays : (ys : List ℕ) (m : Machine) → stopped m.state.tally ≡ true → feed ys m ≡ record { machine = m; output = [] }
unfolding feed behind
stays [] m t = refl
stays (y ∷ ys) m t = rw (byte_stopped y m t, stays ys m t)

-- nor does one for which nothing is left
ends : (ys : List ℕ) (m : Machine) (b : Bool) → stopped m.state.tally ≡ b → (b ≡ false → ys ≡ []) → feed ys m ≡ record { machine = m; output = [] }
unfolding feed
ends ys m true t over = stays ys m t
ends ys m false t over = rw (over refl)

-- what the end of input prints behind the bytes xs, of which ys were left
whole : (xs ys : List ℕ) (m : Machine) → m ≡ (feed xs idle).machine → (stopped m.state.tally ≡ false → ys ≡ [])
    → (feed xs idle).output ++ finish m ≡ run (xs ++ ys)
unfolding fed_whole
whole xs ys m e over =
    let last : feed ys (feed xs idle).machine ≡ record { machine = m; output = [] } = ap (feed ys) (sym e) ∙ ends ys m _ refl over in
    let joined : feed (xs ++ ys) idle ≡ behind (feed xs idle).output (record { machine = m; output = [] }) =
    feed_append xs ys idle ∙ ap (behind (feed xs idle).output) last in
    sym (sym (fed_run (xs ++ ys)) ∙ ap fed_whole joined ∙ whole_behind (feed xs idle).output (record { machine = m; output = [] }))

-- all of a reader whose bytes are known: reads of so much room each, and so many that no run uses them up
module _ (room most : ℕ) (xs : List ℕ) (m : Machine) where
  pub fed_to_the_end : (rest rest' held held' held'' : Option (List ℕ)) → WasFed xs idle m rest rest' held held' → Appends held' held'' (finish m)
      → (0 < room → stopped m.state.tally ≡ false → IsAtEnd rest')
      → IfSome rest (λ cs. 0 < room → length cs < most → Appends held held'' (run cs))
  fed_to_the_end None rest' held held' held'' f w over = tt
  fed_to_the_end (Some cs) None held held' held'' f w over = absurd f.read
  fed_to_the_end (Some cs) (Some ys) held held' held'' f w over =
      λ some few. subst (Appends held held'') (whole xs ys m f.machine (over some) ∙ ap run (sym f.read)) (Appends-trans held held' held'' _ _ f.written w)

  -- so many bytes cannot have been read
  pub fed_too_much : (rest rest' held held' held'' : Option (List ℕ)) → WasFed xs idle m rest rest' held held' → most ≤ length xs
      → IfSome rest (λ cs. 0 < room → length cs < most → Appends held held'' (run cs))
  fed_too_much None rest' held held' held'' f h = tt
  fed_too_much (Some cs) None held held' held'' f h = absurd f.read
  fed_too_much (Some cs) (Some ys) held held' held'' f h = λ some few. absurd (omega (arith, few, h, ap length f.read, length-append xs ys))
