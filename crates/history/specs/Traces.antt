-- Laws of traces and of running them: traces side by side, one entry or one record more at the end, and the entries of a trace.
-- They speak of no board. Assumes nothing.
use Rattle.std.specs.Prelude.{◌≡◌, refl, ℕ, zero, suc, ◌+◌, ◌-◌, ◌≤◌, ◌<◌, List, [], ◌∷◌, ◌++◌, map, length, take, drop}
use Rattle.std.proofs.Common.{sym, ap, ◌∙◌, not-suc-le-zero, le_of_suc-le-suc, suc-add, arith, append-nil, append_assoc, length-drop, take-append-drop, drop_of_length-le, take_all, length-take-le}
use Rattle.std.proofs.Math.Option.{none, some}
use Rattle.std.proofs.Math.ListN.{get_elem?}
use Rattle.std.proofs.lemmas.List.{take-append-le, drop-append-le}
use Rattle.types.specs.declared.Record.{Record}
use Rattle.model.specs.Definitions.Replay.{count_sum}
use Rattle.model.specs.History.Statement.{HistoryEntry}
use Rattle.history.specs.Rerun.{Rebuilt, TraceItem, Made, Logged, trace, trace_since, next, Accepts, final, Accepted}

-- ---- lists

module _ {A : Type 0} where
  pub map_append : {B : Type 0} (f : A → B) (xs ys : List A) → map f (xs ++ ys) ≡ map f xs ++ map f ys
  map_append f [] ys = refl
  map_append f (x ∷ xs) ys = rw (map_append f xs ys)

  -- first some are dropped and then some taken, or the other way round
  pub take_drop : (m n : ℕ) (l : List A) → take m (drop n l) ≡ drop n (take (n + m) l)
  take_drop m zero l = let e : 0 + m ≡ m = omega arith in rw e
  take_drop zero (suc n) [] = rw (suc-add n 0)
  take_drop (suc m) (suc n) [] = rw (suc-add n (suc m))
  take_drop m (suc n) (x ∷ xs) = rw (suc-add n m, take_drop m n xs)

  -- the next element, where the list goes on
  pub drop_next : (l : List A) (n : ℕ) (x : A) → get_elem? l n ≡ some x → drop n l ≡ x ∷ drop (suc n) l
  drop_next [] n x h = let z : ◌≡◌ {A = ℕ} 0 1 = cc in absurd (omega arith)
  drop_next (y ∷ l) zero x h = cc
  drop_next (y ∷ l) (suc n) x h = drop_next l n x h

  pub next_exists : (l : List A) (n : ℕ) → n < length l → (x : A) × (get_elem? l n ≡ some x)
  next_exists [] n h = absurd (not-suc-le-zero h)
  next_exists (y ∷ l) zero h = (y, refl)
  next_exists (y ∷ l) (suc n) h = next_exists l n (le_of_suc-le-suc h)

  pub next_none : (l : List A) (n : ℕ) → length l ≤ n → get_elem? l n ≡ none
  next_none [] n h = refl
  next_none (y ∷ l) zero h = absurd (not-suc-le-zero h)
  next_none (y ∷ l) (suc n) h = next_none l n (le_of_suc-le-suc h)

-- ---- running items

pub final_append : (t : Rebuilt) (xs ys : List TraceItem) → final t (xs ++ ys) ≡ final (final t xs) ys
unfolding final
final_append t [] ys = refl
final_append t (x ∷ xs) ys = final_append (next x t) xs ys

pub accepted_append : (t : Rebuilt) (xs ys : List TraceItem) → Accepted t xs → Accepted (final t xs) ys → Accepted t (xs ++ ys)
unfolding final Accepted
accepted_append t [] ys a b = b
accepted_append t (x ∷ xs) ys a b = (a.0, accepted_append (next x t) xs ys a.1 b)

pub accepted_left : (t : Rebuilt) (xs ys : List TraceItem) → Accepted t (xs ++ ys) → Accepted t xs
unfolding Accepted
accepted_left t [] ys a = tt
accepted_left t (x ∷ xs) ys a = (a.0, accepted_left (next x t) xs ys a.1)

pub accepted_right : (t : Rebuilt) (xs ys : List TraceItem) → Accepted t (xs ++ ys) → Accepted (final t xs) ys
unfolding final Accepted
accepted_right t [] ys a = a
accepted_right t (x ∷ xs) ys a = accepted_right (next x t) xs ys a.1

-- one item at the end
pub final_one : (t : Rebuilt) (xs : List TraceItem) (i : TraceItem) → final t (xs ++ (i ∷ [])) ≡ next i (final t xs)
unfolding final
final_one t xs i = final_append t xs (i ∷ [])

pub accepted_one : (t : Rebuilt) (xs : List TraceItem) (i : TraceItem) → Accepted t xs → Accepts (final t xs) i → Accepted t (xs ++ (i ∷ []))
unfolding final Accepted
accepted_one t xs i a b = accepted_append t xs (i ∷ []) a (b, tt)

-- ---- counts

pub count_sum_append : (rs qs : List Record) → count_sum (rs ++ qs) ≡ count_sum rs + count_sum qs
unfolding count_sum
count_sum_append [] qs = omega arith
count_sum_append (r ∷ rs) qs = let e : count_sum (rs ++ qs) ≡ count_sum rs + count_sum qs = count_sum_append rs qs in omega arith

pub count_sum_one : (rs : List Record) (r : Record) → count_sum (rs ++ (r ∷ [])) ≡ count_sum rs + r.count
unfolding count_sum
count_sum_one rs r = let e : count_sum (rs ++ (r ∷ [])) ≡ count_sum rs + count_sum (r ∷ []) = count_sum_append rs (r ∷ []) in omega arith

-- ---- traces

-- more entries at the end stand at the trace's end
pub trace_entries : (rs : List Record) (es fs : List HistoryEntry) → count_sum rs ≤ length es → trace rs (es ++ fs) ≡ trace rs es ++ map Made fs
unfolding trace count_sum
trace_entries [] es fs h = map_append Made es fs
trace_entries (r ∷ rs) es fs h =
    let l : r.count ≤ length es = omega arith in
    let k : count_sum rs ≤ length (drop r.count es) = rw (length-drop r.count es) (omega arith) in
    rw (take-append-le r.count es fs l, drop-append-le r.count es fs l, trace_entries rs (drop r.count es) fs k)
    (sym (append_assoc (map Made (take r.count es)) (Logged r ∷ trace rs (drop r.count es)) (map Made fs)))

pub trace_entry : (rs : List Record) (es : List HistoryEntry) (e : HistoryEntry) → count_sum rs ≤ length es
    → trace rs (es ++ (e ∷ [])) ≡ trace rs es ++ (Made e ∷ [])
trace_entry rs es e h = trace_entries rs es (e ∷ []) h

-- two logs one behind the other: each has its own entries
pub trace_append : (rs qs : List Record) (es fs : List HistoryEntry) → count_sum rs ≡ length es
    → trace (rs ++ qs) (es ++ fs) ≡ trace rs es ++ trace qs fs
unfolding trace count_sum
trace_append [] qs [] fs h = refl
trace_append [] qs (e ∷ es) fs h = absurd (omega arith)
trace_append (r ∷ rs) qs es fs h =
    let l : r.count ≤ length es = omega arith in
    let k : count_sum rs ≡ length (drop r.count es) = rw (length-drop r.count es) (omega arith) in
    rw (take-append-le r.count es fs l, drop-append-le r.count es fs l, trace_append rs qs (drop r.count es) fs k)
    (sym (append_assoc (map Made (take r.count es)) (Logged r ∷ trace rs (drop r.count es)) (trace qs fs)))

pub trace_split : (rs qs : List Record) (es : List HistoryEntry) → count_sum rs ≤ length es
    → trace (rs ++ qs) es ≡ trace rs (take (count_sum rs) es) ++ trace qs (drop (count_sum rs) es)
trace_split rs qs es h =
    let l : count_sum rs ≡ length (take (count_sum rs) es) = sym (length-take-le (count_sum rs) es h) in
    ap (λ (fs : List HistoryEntry). trace (rs ++ qs) fs) (sym (take-append-drop (count_sum rs) es))
    ∙ trace_append rs qs (take (count_sum rs) es) (drop (count_sum rs) es) l

-- one record with just its entries
pub trace_only : (r : Record) (es : List HistoryEntry) → length es ≡ r.count → trace (r ∷ []) es ≡ map Made es ++ (Logged r ∷ [])
unfolding trace
trace_only r es h =
    let a : take r.count es ≡ es = take_all r.count es (omega arith) in
    let b : drop r.count es ≡ [] = drop_of_length-le es {i = r.count} (omega arith) in
    rw (a, b)

-- one record more, whose entries are the rest
pub trace_record : (rs : List Record) (r : Record) (es : List HistoryEntry) → count_sum rs + r.count ≡ length es
    → trace (rs ++ (r ∷ [])) es ≡ trace rs es ++ (Logged r ∷ [])
trace_record rs r es h =
    let c : ℕ = count_sum rs in
    let l : c ≤ length es = omega arith in
    let a : length (take c es) ≡ c = length-take-le c es l in
    let b : length (drop c es) ≡ r.count = rw (length-drop c es) (omega arith) in
    let d : trace rs (take c es ++ drop c es) ≡ trace rs (take c es) ++ map Made (drop c es) =
    trace_entries rs (take c es) (drop c es) (omega arith) in
    trace_split rs (r ∷ []) es l
    ∙ ap (λ (is : List TraceItem). trace rs (take c es) ++ is) (trace_only r (drop c es) b)
    ∙ sym (append_assoc (trace rs (take c es)) (map Made (drop c es)) (Logged r ∷ []))
    ∙ ap (λ (is : List TraceItem). is ++ (Logged r ∷ [])) (sym d ∙ ap (λ (fs : List HistoryEntry). trace rs fs) (take-append-drop c es))

-- one record more, with its entries
pub trace_stored : (rs : List Record) (r : Record) (es fs : List HistoryEntry) → count_sum rs ≡ length es → r.count ≤ length fs
    → trace (rs ++ (r ∷ [])) (es ++ take r.count fs) ≡ trace rs es ++ (map Made (take r.count fs) ++ (Logged r ∷ []))
trace_stored rs r es fs h k =
    rw (trace_append rs (r ∷ []) es (take r.count fs) h, trace_only r (take r.count fs) (length-take-le r.count fs k))

-- ---- where some entries of the next record have been made

pub trace_since_zero : (rs : List Record) (es : List HistoryEntry) → trace_since 0 rs es ≡ trace rs es
unfolding trace trace_since
trace_since_zero [] es = refl
trace_since_zero (r ∷ rs) es = let e : r.count - 0 ≡ r.count = omega arith in rw e

-- all of them: the record is next
pub trace_since_record : (since : ℕ) (r : Record) (rs : List Record) (es : List HistoryEntry) → r.count ≡ since
    → trace_since since (r ∷ rs) es ≡ Logged r ∷ trace_since 0 rs es
unfolding trace_since
trace_since_record since r rs es h = let e : r.count - since ≡ 0 = omega arith in rw (e, trace_since_zero rs es)

-- not all: an entry is next
pub trace_since_entry : (since : ℕ) (r : Record) (rs : List Record) (e : HistoryEntry) (es : List HistoryEntry) → since < r.count
    → trace_since since (r ∷ rs) (e ∷ es) ≡ Made e ∷ trace_since (suc since) (r ∷ rs) es
unfolding trace_since
trace_since_entry since r rs e es h = let d : r.count - since ≡ suc (r.count - suc since) = omega arith in rw d

-- ---- the entries of a trace

unfoldable pub made_of : List TraceItem → List HistoryEntry
made_of [] = []
made_of (Made e ∷ is) = e ∷ made_of is
made_of (Logged r ∷ is) = made_of is

pub made_of_append : (is js : List TraceItem) → made_of (is ++ js) ≡ made_of is ++ made_of js
unfolding made_of
made_of_append [] js = refl
made_of_append (Made e ∷ is) js = rw (made_of_append is js)
made_of_append (Logged r ∷ is) js = made_of_append is js

pub made_of_map : (es : List HistoryEntry) → made_of (map Made es) ≡ es
unfolding made_of
made_of_map [] = refl
made_of_map (e ∷ es) = rw (made_of_map es)

pub made_of_trace : (rs : List Record) (es : List HistoryEntry) → made_of (trace rs es) ≡ es
unfolding made_of trace
made_of_trace [] es = made_of_map es
made_of_trace (r ∷ rs) es =
    let first : List HistoryEntry = take r.count es in
    let others : List HistoryEntry = drop r.count es in
    rw (made_of_append (map Made first) (Logged r ∷ trace rs others), made_of_map first, made_of_trace rs others) (take-append-drop r.count es)

-- an entry at the end, a record at the end
pub made_of_stored : (es : List HistoryEntry) (r : Record) → made_of (map Made es ++ (Logged r ∷ [])) ≡ es
unfolding made_of
made_of_stored es r = rw (made_of_append (map Made es) (Logged r ∷ []), made_of_map es) (append-nil es)
