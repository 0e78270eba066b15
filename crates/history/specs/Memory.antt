-- Laws of one memory under a history's entries: what entries leave of a page, when all reads agree with it, and what a power loss takes back.
-- They speak of no bank, and of accesses only by the cells that they read and write. Assumes nothing.
use Rattle.std.specs.Prelude.{◌≡◌, refl, ◌⊎◌, ℕ, zero, suc, ◌+◌, ◌-◌, ◌≤◌, true, false, ◌||◌, List, [], ◌∷◌, ◌++◌, map, take, drop, set, eqb}
use Rattle.std.proofs.Common.{sym, ◌∙◌, inl, inr, ⊎_elim, arith, eq-eqb, ne_eqb}
use Rattle.std.proofs.Math.Seq.{take-nil, drop-nil}
use Rattle.std.proofs.lemmas.Bool.{eqb-false}
use Rattle.model.proofs.Laws.Logic.{by_bool}
use Rattle.model.proofs.Laws.Lists.{each_head, each_tail}
use Rattle.model.specs.Definitions.Steps.{Cell, cells_read, cells_written, any_cell, any_write, names}
use Rattle.model.specs.History.Statement.{HistoryEntry, of_board, discard, Memory, byte_in, written, OneMemory}
use Rattle.history.specs.Invariant.{memory_after, writes_page, touches_page, unstable_write, OnlyBy, Exclusive}
use Rattle.history.specs.Entries.{by_entries}
use Rattle.history.specs.Unstable.{or_false_left, or_false_right, or_true_left, or_true_right, writes_touches}

-- ---- writes, page by page

-- the memory after one byte's write
abbrev on_write : Cell × ℕ → Memory → Memory
on_write w m p = elim (eqb p w.0.page) [ true ↦ set (m p) w.0.offset w.1 | false ↦ m p ]

-- what a page holds after writes depends on what it held before, and on no other page
pub written_local : (ws : List (Cell × ℕ)) (m m' : Memory) (p : ℕ) → m p ≡ m' p → written ws m p ≡ written ws m' p
unfolding written
written_local [] m m' p h = h
written_local (w ∷ ws) m m' p h =
    written_local ws (on_write w m) (on_write w m') p (by_bool (eqb p w.0.page) (λ t. cc) (λ t. cc))

pub written_untouched : (ws : List (Cell × ℕ)) (m : Memory) (p : ℕ) → any_write ws p ≡ false → written ws m p ≡ m p
unfolding written any_write
written_untouched [] m p h = refl
written_untouched (w ∷ ws) m p h =
    let t : eqb w.0.page p ≡ false = or_false_left (eqb w.0.page p) (any_write ws p) h in
    let u : eqb p w.0.page ≡ false = ne_eqb p w.0.page (λ q. eqb-false w.0.page p t (sym q)) in
    cc (written_untouched ws (on_write w m) p (or_false_right (eqb w.0.page p) (any_write ws p) h))

-- ---- entries, page by page

pub memory_after_append : (m : Memory) (xs ys : List HistoryEntry) → memory_after m (xs ++ ys) ≡ memory_after (memory_after m xs) ys
unfolding memory_after
memory_after_append m [] ys = refl
memory_after_append m (e ∷ xs) ys = memory_after_append (written (cells_written e.access) m) xs ys

pub memory_after_local : (m m' : Memory) (es : List HistoryEntry) (p : ℕ) → m p ≡ m' p → memory_after m es p ≡ memory_after m' es p
unfolding memory_after
memory_after_local m m' [] p h = h
memory_after_local m m' (e ∷ es) p h =
    let ws : List (Cell × ℕ) = cells_written e.access in
    memory_after_local (written ws m) (written ws m') es p (written_local ws m m' p h)

-- an entry that doesn't write a page leaves it
pub written_unless : (e : HistoryEntry) (m : Memory) (p : ℕ) → writes_page e p ≡ false → written (cells_written e.access) m p ≡ m p
unfolding writes_page
written_unless e m p h = written_untouched (cells_written e.access) m p h

pub memory_after_snoc : (m : Memory) (es : List HistoryEntry) (e : HistoryEntry)
    → memory_after m (es ++ (e ∷ [])) ≡ written (cells_written e.access) (memory_after m es)
unfolding memory_after
memory_after_snoc m es e = memory_after_append m es (e ∷ [])

pub memory_after_snoc_unless : (m : Memory) (es : List HistoryEntry) (e : HistoryEntry) (p : ℕ) → writes_page e p ≡ false
    → memory_after m (es ++ (e ∷ [])) p ≡ memory_after m es p
memory_after_snoc_unless m es e p h = rw (memory_after_snoc m es e) (written_unless e (memory_after m es) p h)

-- ---- one memory, that gives each entry the bytes that it read

pub one_memory_append : (m : Memory) (xs ys : List HistoryEntry) → OneMemory m xs → OneMemory (memory_after m xs) ys → OneMemory m (xs ++ ys)
unfolding OneMemory memory_after
one_memory_append m [] ys h k = k
one_memory_append m (e ∷ xs) ys h k = (h.0, one_memory_append (written (cells_written e.access) m) xs ys h.1 k)

pub one_memory_snoc : (m : Memory) (es : List HistoryEntry) (e : HistoryEntry) → OneMemory m es
    → e.bytes_read ≡ map (byte_in (memory_after m es)) (cells_read e.access) → OneMemory m (es ++ (e ∷ []))
unfolding OneMemory
one_memory_snoc m es e h k = one_memory_append m es (e ∷ []) h (k, tt)

-- memories that agree on the pages of the cells read give the same bytes
pub bytes_agree : (m m' : Memory) (cs : List Cell) → ((p : ℕ) → any_cell cs p ≡ true → m p ≡ m' p) → map (byte_in m) cs ≡ map (byte_in m') cs
unfolding byte_in any_cell
bytes_agree m m' [] h = refl
bytes_agree m m' (c ∷ cs) h =
    let self : eqb c.page c.page ≡ true = eq-eqb c.page c.page refl in
    let here : m c.page ≡ m' c.page = h c.page (or_true_left (eqb c.page c.page) (any_cell cs c.page) self) in
    let rest : map (byte_in m) cs ≡ map (byte_in m') cs = bytes_agree m m' cs (λ p t. h p (or_true_right (eqb c.page p) (any_cell cs p) t)) in
    rw (here, rest)

pub reads_agree : (m m' : Memory) (e : HistoryEntry) → ((p : ℕ) → touches_page e p ≡ true → m p ≡ m' p)
    → map (byte_in m) (cells_read e.access) ≡ map (byte_in m') (cells_read e.access)
unfolding touches_page names any_cell any_write writes_page
reads_agree m m' e h =
    bytes_agree m m' (cells_read e.access) (λ p t. h p (or_true_left (any_cell (cells_read e.access) p) (writes_page e p) t))

-- ---- a page's memory when some of a board's entries are discarded

-- nothing on the page is discarded
pub memory_after_discard : (b n p : ℕ) (es : List HistoryEntry) (m : Memory) → unstable_write b n p es ≡ false
    → memory_after m (discard b n es) p ≡ memory_after m es p
unfolding memory_after discard unstable_write
memory_after_discard b n p es =
    by_entries b (λ n es. (m : Memory) → unstable_write b n p es ≡ false → memory_after m (discard b n es) p ≡ memory_after m es p)
    (λ n m h. refl)
    (λ n e es t r m h. cc (r (written (cells_written e.access) m) (rw (t, unstable_write) at h)))
    (λ e es t r m h.
    let u : (writes_page e p || unstable_write b zero p es) ≡ false = rw (t, unstable_write) at h in
    cc (
      r m (or_false_right (writes_page e p) (unstable_write b zero p es) u),
      memory_after_local (written (cells_written e.access) m) m es p (written_unless e m p (or_false_left (writes_page e p) (unstable_write b zero p es) u)),
    ))
    (λ n e es t r m h. cc (r (written (cells_written e.access) m) (rw (t, unstable_write) at h)))
    n es

-- an entry of another board leaves a page that only b's entries touch
only_unless : (b p : ℕ) (e : HistoryEntry) → (touches_page e p ≡ true → e.board ≡ b) → eqb e.board b ≡ false → writes_page e p ≡ false
only_unless b p e h t =
    by_bool (writes_page e p)
    (λ w. absurd (eqb-false e.board b t (h (writes_touches e p w))))
    (λ w. w)

-- on such a page the board's own entries are all that counts
memory_after_only : (b n p : ℕ) (es : List HistoryEntry) (m : Memory) → OnlyBy b p es
    → memory_after m (discard b n es) p ≡ memory_after m (take n (of_board b es)) p
unfolding memory_after discard of_board
memory_after_only b n p es =
    by_entries b (λ n es. (m : Memory) → OnlyBy b p es → memory_after m (discard b n es) p ≡ memory_after m (take n (of_board b es)) p)
    (λ n m h. rw (take-nil {A = HistoryEntry} n))
    (λ n e es t r m h.
    let m' : Memory = written (cells_written e.access) m in
    cc (r m' (each_tail h), memory_after_local m' m (take n (of_board b es)) p (written_unless e m p (only_unless b p e (each_head h) t))))
    (λ e es t r m h. cc (r m (each_tail h)))
    (λ n e es t r m h. cc (r (written (cells_written e.access) m) (each_tail h)))
    n es

-- the first entry that a discard takes: it leaves the page, or only the board's entries follow on the page
tail_here : (b p k : ℕ) (e : HistoryEntry) (es : List HistoryEntry) (m : Memory) → (writes_page e p ≡ true → OnlyBy b p es)
    → memory_after m (discard b k es) p ≡ memory_after (memory_after m (discard b zero es)) (take k (of_board b es)) p
    → memory_after m (e ∷ discard b k es) p ≡ memory_after (memory_after m (discard b zero es)) (e ∷ take k (of_board b es)) p
unfolding memory_after
tail_here b p k e es m h r =
    let ws : List (Cell × ℕ) = cells_written e.access in
    let before : Memory = memory_after m (discard b zero es) in
    by_bool (writes_page e p)
    (λ w. memory_after_only b k p es (written ws m) (h w)
    ∙ memory_after_local (written ws m) (written ws before) (take k (of_board b es)) p
    (written_local ws m before p (sym (memory_after_only b zero p es m (h w)))))
    (λ w. memory_after_local (written ws m) m (discard b k es) p (written_unless e m p w)
    ∙ r
    ∙ sym (memory_after_local (written ws before) before (take k (of_board b es)) p (written_unless e before p w)))

tail_from : (b n p : ℕ) (es : List HistoryEntry) (x k : ℕ) (m : Memory) → x ≡ n + k → Exclusive b n p es
    → memory_after m (discard b x es) p ≡ memory_after (memory_after m (discard b n es)) (take k (drop n (of_board b es))) p
unfolding memory_after discard of_board Exclusive
tail_from b n p es =
    by_entries b
    (λ n es. (x k : ℕ) (m : Memory) → x ≡ n + k → Exclusive b n p es
    → memory_after m (discard b x es) p ≡ memory_after (memory_after m (discard b n es)) (take k (drop n (of_board b es))) p)
    (λ n x k m q h. rw (drop-nil {A = HistoryEntry} n, take-nil {A = HistoryEntry} k))
    (λ n e es t r x k m q h. cc (r x k (written (cells_written e.access) m) q (rw (t, Exclusive) at h)))
    (λ e es t r. elim [
      | zero ↦ λ k m q h. let z : k ≡ zero = omega arith in cc
      | suc x ↦ λ k m q h.
          let z : k ≡ suc x = omega arith in
          let i : (writes_page e p ≡ true → OnlyBy b p es) × Exclusive b zero p es = rw (t, Exclusive) at h in
          cc (tail_here b p x e es m i.0 (r x x m (omega arith) i.1))
    ])
    (λ n e es t r. elim [
      | zero ↦ λ k m q h. absurd (omega arith)
      | suc x ↦ λ k m q h. cc (r x k (written (cells_written e.access) m) (omega arith) (rw (t, Exclusive) at h))
    ])
    n es

-- Board b's entries from the n-th to the x-th come last on a page that they write: after an unstable write no other board touched it.
pub memory_after_tail : (b n x p : ℕ) (es : List HistoryEntry) (m : Memory) → n ≤ x → Exclusive b n p es
    → memory_after m (discard b x es) p ≡ memory_after (memory_after m (discard b n es)) (take (x - n) (drop n (of_board b es))) p
memory_after_tail b n x p es m l h = tail_from b n p es x (x - n) m (omega arith) h

-- ---- a power loss keeps one memory

-- Two memories, with all entries so far and with what stays of them, differ at most on pages that only board b's entries touch from here on, none of which
-- stays.
abbrev Agree : ℕ → ℕ → List HistoryEntry → Memory → Memory → Type 0
Agree b n es m m' = (p : ℕ) → (m p ≡ m' p) ⊎ ((n ≡ zero) × OnlyBy b p es)

only_head : (b p : ℕ) (e : HistoryEntry) (es : List HistoryEntry) → OnlyBy b p (e ∷ es) → touches_page e p ≡ true → e.board ≡ b
only_head b p e es h = each_head h

one_memory_keeps : (b n : ℕ) (es : List HistoryEntry) (m m' : Memory) → OneMemory m es → ((p : ℕ) → Exclusive b n p es) → Agree b n es m m'
    → OneMemory m' (discard b n es)
unfolding OneMemory discard Exclusive
one_memory_keeps b n es =
    by_entries b (λ n es. (m m' : Memory) → OneMemory m es → ((p : ℕ) → Exclusive b n p es) → Agree b n es m m' → OneMemory m' (discard b n es))
    (λ n m m' o h d. tt)
    (λ n e es t r m m' o h d.
    let ws : List (Cell × ℕ) = cells_written e.access in
    rw (t, discard) (
      o.0 ∙ reads_agree m m' e (λ p u. ⊎_elim (λ q. q) (λ q. absurd (eqb-false e.board b t (only_head b p e es q.1 u))) (d p)),
      r (written ws m) (written ws m') o.1 (λ p. rw (t, Exclusive) at (h p))
          (λ p. ⊎_elim (λ q. inl (written_local ws m m' p q)) (λ q. inr (q.0, each_tail q.1)) (d p)),
    ))
    (λ e es t r m m' o h d.
    let ws : List (Cell × ℕ) = cells_written e.access in
    let i : (p : ℕ) → (writes_page e p ≡ true → OnlyBy b p es) × Exclusive b zero p es = λ p. rw (t, Exclusive) at (h p) in
    rw (t, discard)
    (r (written ws m) m' o.1 (λ p. (i p).1)
    (λ p. by_bool (writes_page e p)
    (λ w. inr (refl, (i p).0 w))
    (λ w. ⊎_elim (λ q. inl (written_unless e m p w ∙ q)) (λ q. inr (refl, each_tail q.1)) (d p)))))
    (λ n e es t r m m' o h d.
    let ws : List (Cell × ℕ) = cells_written e.access in
    let same : (p : ℕ) → m p ≡ m' p = λ p. ⊎_elim (λ q. q) (λ q. absurd (omega (arith, q.0))) (d p) in
    rw (t, discard) (
      o.0 ∙ reads_agree m m' e (λ p u. same p),
      r (written ws m) (written ws m') o.1 (λ p. rw (t, Exclusive) at (h p)) (λ p. inl (written_local ws m m' p (same p))),
    ))
    n es

pub one_memory_discard : (b n : ℕ) (es : List HistoryEntry) (m : Memory) → OneMemory m es → ((p : ℕ) → Exclusive b n p es) → OneMemory m (discard b n es)
one_memory_discard b n es m o h = one_memory_keeps b n es m m o h (λ p. inl refl)
