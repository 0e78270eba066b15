-- Laws of a board's unstable writes, those past its first n entries (`unstable_write`), and of `Exclusive`: under a new entry, a discard and another n.
-- They speak of no memory and no bank. Assumes nothing.
use Rattle.std.specs.Prelude.{◌≡◌, refl, ◌≢◌, ◌⊎◌, ℕ, zero, suc, ◌+◌, ◌-◌, ◌≤◌, Bool, true, false, ◌||◌, List, [], ◌∷◌, ◌++◌, length, drop, eqb}
use Rattle.std.proofs.Common.{sym, inl, inr, le_of_suc-le-suc, not-suc-le-zero, arith, drop_of_length-le, drop-drop, eqb-true}
use Rattle.std.proofs.Math.Seq.{drop-nil}
use Rattle.std.proofs.lemmas.List.{drop-append-le}
use Rattle.words.specs.Bytes.{each_nil, each_cons}
use Rattle.model.proofs.Laws.Logic.{clash, by_bool, by_eq}
use Rattle.model.proofs.Laws.Lists.{each_append}
use Rattle.types.specs.declared.CopyOrOwn.TheVariants.{GotOwn}
use Rattle.model.specs.Definitions.Steps.{Access, Read, Write, ReadCells, cells_read, cells_written, any_cell, any_write, names, takes}
use Rattle.model.specs.Definitions.Calls.{page_written}
use Rattle.model.specs.History.Statement.{HistoryEntry, of_board, discard}
use Rattle.history.specs.Invariant.{writes_page, touches_page, unstable_write, OnlyBy, Exclusive}
use Rattle.history.specs.Entries.{by_entries, not_other, each_discard, of_board_snoc_same, of_board_snoc_other, of_board_discard_other}
use Rattle.history.specs.Entries.{length_of_board_discard}

-- ---- a test or another

pub or_false_left : (a b : Bool) → (a || b) ≡ false → a ≡ false
or_false_left true b h = h
or_false_left false b h = refl

pub or_false_right : (a b : Bool) → (a || b) ≡ false → b ≡ false
or_false_right true b h = clash refl h
or_false_right false b h = h

pub or_true_left : (a b : Bool) → a ≡ true → (a || b) ≡ true
or_true_left a b h = rw h

pub or_true_right : (a b : Bool) → b ≡ true → (a || b) ≡ true
or_true_right true b h = refl
or_true_right false b h = h

-- ---- which page an entry touches

pub writes_touches : (e : HistoryEntry) (p : ℕ) → writes_page e p ≡ true → touches_page e p ≡ true
unfolding touches_page writes_page names
writes_touches e p h = or_true_right (any_cell (cells_read e.access) p) (writes_page e p) h

-- an access that takes copies writes no page; one that takes ownership writes the page that it names
pub writes_own : (a : Access) (p : ℕ) → any_write (cells_written a) p ≡ true → (takes a ≡ GotOwn) × (page_written a ≡ p)
unfolding any_write cells_written takes page_written
writes_own (Read q o) p h = clash h refl
writes_own (Write q o v) p h = (refl, by_bool (eqb q p) (λ t. eqb-true q p t) (λ t. let z : ◌≡◌ {A = ℕ} 0 1 = cc in absurd (omega arith)))
writes_own (ReadCells cells out_length) p h = clash h refl

-- ---- unstable writes: board b's past its first n entries

-- whether one of the entries writes a page
unfoldable pub some_write : ℕ → List HistoryEntry → Bool
some_write p [] = false
some_write p (e ∷ es) = writes_page e p || some_write p es

-- the laws below come from those of `of_board`
pub unstable_write_drop : (b n p : ℕ) (es : List HistoryEntry) → unstable_write b n p es ≡ some_write p (drop n (of_board b es))
unfolding unstable_write of_board some_write
unstable_write_drop b n p es =
    by_entries b (λ n es. unstable_write b n p es ≡ some_write p (drop n (of_board b es)))
    (λ n. rw (drop-nil {A = HistoryEntry} n))
    (λ n e es t r. cc)
    (λ e es t r. cc)
    (λ n e es t r. cc)
    n es

some_write_snoc : (p : ℕ) (es : List HistoryEntry) (e : HistoryEntry) → some_write p (es ++ (e ∷ [])) ≡ (some_write p es || writes_page e p)
unfolding some_write
some_write_snoc p [] a = by_bool (writes_page a p) (λ t. rw t) (λ t. rw t)
some_write_snoc p (e ∷ es) a = by_bool (writes_page e p) (λ t. rw t) (λ t. rw t (some_write_snoc p es a))

some_write_drop : (p n : ℕ) (es : List HistoryEntry) → some_write p (drop n es) ≡ true → some_write p es ≡ true
unfolding some_write
some_write_drop p zero es h = h
some_write_drop p (suc n) [] h = h
some_write_drop p (suc n) (e ∷ es) h = or_true_right (writes_page e p) (some_write p es) (some_write_drop p n es h)

pub unstable_write_snoc_other : (b n p : ℕ) (es : List HistoryEntry) (e : HistoryEntry) → e.board ≢ b
    → unstable_write b n p (es ++ (e ∷ [])) ≡ unstable_write b n p es
unstable_write_snoc_other b n p es e h = rw (unstable_write_drop b n p es, unstable_write_drop b n p (es ++ (e ∷ [])), of_board_snoc_other b es e h)

pub unstable_write_snoc_same : (b n p : ℕ) (es : List HistoryEntry) (e : HistoryEntry) → e.board ≡ b → n ≤ length (of_board b es)
    → unstable_write b n p (es ++ (e ∷ [])) ≡ (unstable_write b n p es || writes_page e p)
unstable_write_snoc_same b n p es e h l =
    rw (unstable_write_drop b n p es, unstable_write_drop b n p (es ++ (e ∷ [])), of_board_snoc_same b es e h, drop-append-le n (of_board b es) (e ∷ []) l)
    (some_write_snoc p (drop n (of_board b es)) e)

pub unstable_write_discard_other : (b c n k p : ℕ) (es : List HistoryEntry) → c ≢ b → unstable_write c n p (discard b k es) ≡ unstable_write c n p es
unstable_write_discard_other b c n k p es h = rw (unstable_write_drop c n p es, unstable_write_drop c n p (discard b k es), of_board_discard_other b c k es h)

-- a board with no more than n entries has none past them
pub unstable_write_none : (b n p : ℕ) (es : List HistoryEntry) → length (of_board b es) ≤ n → unstable_write b n p es ≡ false
unfolding some_write
unstable_write_none b n p es h = rw (unstable_write_drop b n p es, drop_of_length-le (of_board b es) {i = n} h)

pub unstable_write_discard_same : (b n p : ℕ) (es : List HistoryEntry) → unstable_write b n p (discard b n es) ≡ false
unstable_write_discard_same b n p es = unstable_write_none b n p (discard b n es) (length_of_board_discard b n es)

pub unstable_write_lower : (b n k p : ℕ) (es : List HistoryEntry) → n ≤ k → unstable_write b k p es ≡ true → unstable_write b n p es ≡ true
unstable_write_lower b n k p es h t =
    let e : n + (k - n) ≡ k = omega arith in
    rw (unstable_write_drop b n p es)
    (some_write_drop p (k - n) (drop n (of_board b es)) (rw (drop-drop (k - n) n (of_board b es), e, ← unstable_write_drop b k p es) t))

-- an unstable write is an old one or the new entry's
pub unstable_write_snoc : (b n p : ℕ) (es : List HistoryEntry) (e : HistoryEntry) → n ≤ length (of_board b es)
    → unstable_write b n p (es ++ (e ∷ [])) ≡ true → (unstable_write b n p es ≡ true) ⊎ ((e.board ≡ b) × (writes_page e p ≡ true))
unstable_write_snoc b n p es e l h =
    by_eq e.board b
    (λ q.
    by_bool (unstable_write b n p es)
    (λ t. inl t)
    (λ t. inr (q, rw (unstable_write_snoc_same b n p es e q l, t) at h)))
    (λ q. inl (rw (unstable_write_snoc_other b n p es e q) at h))

-- ---- exclusive: after an unstable write no other board touched the page

pub exclusive_none : (b n p : ℕ) (es : List HistoryEntry) → unstable_write b n p es ≡ false → Exclusive b n p es
unfolding Exclusive unstable_write
exclusive_none b n p es =
    by_entries b (λ n es. unstable_write b n p es ≡ false → Exclusive b n p es)
    (λ n h. tt)
    (λ n e es t r h. rw (t, Exclusive) (r (rw (t, unstable_write) at h)))
    (λ e es t r h.
    let u : (writes_page e p || unstable_write b zero p es) ≡ false = rw (t, unstable_write) at h in
    rw (t, Exclusive)
    ((λ w. clash w (or_false_left (writes_page e p) (unstable_write b zero p es) u)), r (or_false_right (writes_page e p) (unstable_write b zero p es) u)))
    (λ n e es t r h. rw (t, Exclusive) (r (rw (t, unstable_write) at h)))
    n es

pub exclusive_discard_same : (b n p : ℕ) (es : List HistoryEntry) → Exclusive b n p (discard b n es)
exclusive_discard_same b n p es = exclusive_none b n p (discard b n es) (unstable_write_discard_same b n p es)

pub exclusive_short : (b n p : ℕ) (es : List HistoryEntry) → length (of_board b es) ≤ n → Exclusive b n p es
exclusive_short b n p es h = exclusive_none b n p es (unstable_write_none b n p es h)

exclusive_single : (b n p : ℕ) (e : HistoryEntry) → Exclusive b n p (e ∷ [])
unfolding Exclusive
exclusive_single b zero p e = by_bool (eqb e.board b) (λ t. rw (t, Exclusive) ((λ w. each_nil), tt)) (λ t. rw (t, Exclusive) tt)
exclusive_single b (suc n) p e = by_bool (eqb e.board b) (λ t. rw (t, Exclusive) tt) (λ t. rw (t, Exclusive) tt)

-- a new entry that touches a page with an unstable write is the writer's
pub exclusive_snoc : (b n p : ℕ) (es : List HistoryEntry) (e : HistoryEntry) → Exclusive b n p es
    → (unstable_write b n p es ≡ true → touches_page e p ≡ true → e.board ≡ b) → Exclusive b n p (es ++ (e ∷ []))
unfolding Exclusive unstable_write
exclusive_snoc b n p es a =
    by_entries b (λ n es. Exclusive b n p es → (unstable_write b n p es ≡ true → touches_page a p ≡ true → a.board ≡ b) → Exclusive b n p (es ++ (a ∷ [])))
    (λ n h f. exclusive_single b n p a)
    (λ n e es t r h f. rw (t, Exclusive) (r (rw (t, Exclusive) at h) (λ u. f (rw (t, unstable_write) u))))
    (λ e es t r h f.
    let k : (writes_page e p ≡ true → OnlyBy b p es) × Exclusive b zero p es = rw (t, Exclusive) at h in
    let g : (writes_page e p || unstable_write b zero p es) ≡ true → touches_page a p ≡ true → a.board ≡ b = λ u. f (rw (t, unstable_write) u) in
    rw (t, Exclusive) (
      (λ w. each_append es (a ∷ []) (k.0 w) (each_cons (g (or_true_left (writes_page e p) (unstable_write b zero p es) w)) each_nil)),
      r k.1 (λ u. g (or_true_right (writes_page e p) (unstable_write b zero p es) u)),
    ))
    (λ n e es t r h f. rw (t, Exclusive) (r (rw (t, Exclusive) at h) (λ u. f (rw (t, unstable_write) u))))
    n es

pub exclusive_discard_other : (b c n k p : ℕ) (es : List HistoryEntry) → c ≢ b → Exclusive c n p es → Exclusive c n p (discard b k es)
unfolding Exclusive discard
exclusive_discard_other b c n k p es d =
    by_entries c (λ n es. (k : ℕ) → Exclusive c n p es → Exclusive c n p (discard b k es))
    (λ n k h. h)
    (λ n e es t r k h.
    let i : Exclusive c n p es = rw (t, Exclusive) at h in
    by_bool (eqb e.board b)
    (λ u.
    elim k as (λ k. Exclusive c n p (discard b k (e ∷ es)))
    [ zero ↦ rw (u, discard) (r zero i) | suc k ↦ rw (u, discard) (rw (t, Exclusive) (r k i)) ])
    (λ u. rw (u, discard) (rw (t, Exclusive) (r k i))))
    (λ e es t r k h.
    let i : (writes_page e p ≡ true → OnlyBy c p es) × Exclusive c zero p es = rw (t, Exclusive) at h in
    rw (not_other e (λ q. d (sym q)) t, discard) (rw (t, Exclusive) ((λ w. each_discard b k es (i.0 w)), r k i.1)))
    (λ n e es t r k h. rw (not_other e (λ q. d (sym q)) t, discard) (rw (t, Exclusive) (r k (rw (t, Exclusive) at h))))
    n es k

pub exclusive_lower : (b n k p : ℕ) (es : List HistoryEntry) → n ≤ k → Exclusive b n p es → Exclusive b k p es
unfolding Exclusive
exclusive_lower b n k p es =
    by_entries b (λ n es. (k : ℕ) → n ≤ k → Exclusive b n p es → Exclusive b k p es)
    (λ n k l h. h)
    (λ n e es t r k l h. rw (t, Exclusive) (r k l (rw (t, Exclusive) at h)))
    (λ e es t r k l h.
    let i : (writes_page e p ≡ true → OnlyBy b p es) × Exclusive b zero p es = rw (t, Exclusive) at h in
    elim k as (λ k. Exclusive b k p (e ∷ es)) [ zero ↦ rw (t, Exclusive) i | suc k ↦ rw (t, Exclusive) (r k (omega arith) i.1) ])
    (λ n e es t r. elim [
      | zero ↦ λ l h. absurd (not-suc-le-zero l)
      | suc k ↦ λ l h. rw (t, Exclusive) (r k (le_of_suc-le-suc l) (rw (t, Exclusive) at h))
    ])
    n es k
