-- Laws of a board's own entries in a history (`of_board`) and of all but its first entries discarded (`discard`). They speak of no memory and no bank.
-- Assumes nothing.
use Rattle.std.specs.Prelude.{◌≡◌, refl, ◌≢◌, ℕ, zero, suc, ◌≤◌, true, false, List, [], ◌∷◌, ◌++◌, length, take, eqb}
use Rattle.std.proofs.Common.{sym, ◌∙◌, le_of_suc-le-suc, not-suc-le-zero, le_refl, arith, append-nil, length-take, eqb-true, eq-eqb, ne_eqb}
use Rattle.std.proofs.Math.Seq.{take-nil}
use Rattle.words.specs.Bytes.{Each, each_nil, each_cons}
use Rattle.model.proofs.Laws.Logic.{by_bool}
use Rattle.model.proofs.Laws.Lists.{each_head, each_tail}
use Rattle.model.specs.History.Statement.{HistoryEntry, of_board, discard}

-- How a proof follows a history of which the first n entries of board b stand: at each entry it is another board's, b's past the first n, or one of b's first
-- n.
pub by_entries : (b : ℕ) (P : ℕ → List HistoryEntry → Type 0)
    → ((n : ℕ) → P n [])
    → ((n : ℕ) (e : HistoryEntry) (es : List HistoryEntry) → eqb e.board b ≡ false → P n es → P n (e ∷ es))
    → ((e : HistoryEntry) (es : List HistoryEntry) → eqb e.board b ≡ true → P zero es → P zero (e ∷ es))
    → ((n : ℕ) (e : HistoryEntry) (es : List HistoryEntry) → eqb e.board b ≡ true → P n es → P (suc n) (e ∷ es))
    → (n : ℕ) (es : List HistoryEntry) → P n es
by_entries b P empty other past first n [] = empty n
by_entries b P empty other past first zero (e ∷ es) =
    by_bool (eqb e.board b)
    (λ t. past e es t (by_entries b P empty other past first zero es))
    (λ t. other zero e es t (by_entries b P empty other past first zero es))
by_entries b P empty other past first (suc n) (e ∷ es) =
    by_bool (eqb e.board b)
    (λ t. first n e es t (by_entries b P empty other past first n es))
    (λ t. other (suc n) e es t (by_entries b P empty other past first (suc n) es))

-- an entry of one board is of no other
pub not_other : (e : HistoryEntry) {b c : ℕ} → c ≢ b → eqb e.board b ≡ true → eqb e.board c ≡ false
not_other e {b} {c} h t = ne_eqb e.board c (λ q. h (sym q ∙ eqb-true e.board b t))

-- ---- a board's own entries

pub of_board_append : (b : ℕ) (xs ys : List HistoryEntry) → of_board b (xs ++ ys) ≡ of_board b xs ++ of_board b ys
unfolding of_board
of_board_append b [] ys = refl
of_board_append b (e ∷ es) ys = by_bool (eqb e.board b) (λ t. cc (of_board_append b es ys)) (λ t. cc (of_board_append b es ys))

pub of_board_snoc_same : (b : ℕ) (es : List HistoryEntry) (e : HistoryEntry) → e.board ≡ b → of_board b (es ++ (e ∷ [])) ≡ of_board b es ++ (e ∷ [])
unfolding of_board
of_board_snoc_same b es e h = cc (of_board_append b es (e ∷ []), eq-eqb e.board b h)

pub of_board_snoc_other : (b : ℕ) (es : List HistoryEntry) (e : HistoryEntry) → e.board ≢ b → of_board b (es ++ (e ∷ [])) ≡ of_board b es
unfolding of_board
of_board_snoc_other b es e h = cc (of_board_append b es (e ∷ []), ne_eqb e.board b h, append-nil (of_board b es))

-- ---- discarded: what stays of each board

pub of_board_discard_same : (b n : ℕ) (es : List HistoryEntry) → of_board b (discard b n es) ≡ take n (of_board b es)
unfolding of_board discard
of_board_discard_same b =
    by_entries b (λ n es. of_board b (discard b n es) ≡ take n (of_board b es))
    (λ n. rw take-nil)
    (λ n e es t r. cc)
    (λ e es t r. cc)
    (λ n e es t r. cc)

pub length_of_board_discard : (b n : ℕ) (es : List HistoryEntry) → length (of_board b (discard b n es)) ≤ n
length_of_board_discard b n es = rw (of_board_discard_same b n es, length-take n (of_board b es)) (omega arith)

pub of_board_discard_other : (b c n : ℕ) (es : List HistoryEntry) → c ≢ b → of_board c (discard b n es) ≡ of_board c es
unfolding of_board discard
of_board_discard_other b c n es h =
    by_entries b (λ n es. of_board c (discard b n es) ≡ of_board c es)
    (λ n. refl)
    (λ n e es t r. by_bool (eqb e.board c) (λ u. cc) (λ u. cc))
    (λ e es t r. cc (not_other e h t))
    (λ n e es t r. cc)
    n es

pub each_discard : {P : HistoryEntry → Type 0} (b n : ℕ) (es : List HistoryEntry) → Each P es → Each P (discard b n es)
unfolding discard
each_discard {P} b =
    by_entries b (λ n es. Each P es → Each P (discard b n es))
    (λ n h. each_nil)
    (λ n e es t r h. rw (t, discard) (each_cons (each_head h) (r (each_tail h))))
    (λ e es t r h. rw (t, discard) (r (each_tail h)))
    (λ n e es t r h. rw (t, discard) (each_cons (each_head h) (r (each_tail h))))

-- ---- discarded: nothing, twice, of two boards

pub discard_all : (b n : ℕ) (es : List HistoryEntry) → length (of_board b es) ≤ n → discard b n es ≡ es
unfolding of_board discard
discard_all b =
    by_entries b (λ n es. length (of_board b es) ≤ n → discard b n es ≡ es)
    (λ n h. refl)
    (λ n e es t r h. cc (r (rw (t, of_board) at h)))
    (λ e es t r h. absurd (not-suc-le-zero (rw (t, of_board) at h)))
    (λ n e es t r h. cc (r (le_of_suc-le-suc (rw (t, of_board) at h))))

-- of two discards of a board the lower number counts
pub discard_lower : (b n k : ℕ) (es : List HistoryEntry) → n ≤ k → discard b n (discard b k es) ≡ discard b n es
unfolding discard
discard_lower b n k es =
    by_entries b (λ n es. (k : ℕ) → n ≤ k → discard b n (discard b k es) ≡ discard b n es)
    (λ n k h. refl)
    (λ n e es t r k h. cc (r k h))
    (λ e es t r. elim [ zero ↦ λ h. cc (r zero h) | suc k ↦ λ h. cc (r k (omega arith)) ])
    (λ n e es t r. elim [ zero ↦ λ h. absurd (not-suc-le-zero h) | suc k ↦ λ h. cc (r k (le_of_suc-le-suc h)) ])
    n es k

pub discard_twice : (b n : ℕ) (es : List HistoryEntry) → discard b n (discard b n es) ≡ discard b n es
discard_twice b n es = discard_lower b n n es (le_refl n)

pub discard_swap : (b c n k : ℕ) (es : List HistoryEntry) → b ≢ c → discard b n (discard c k es) ≡ discard c k (discard b n es)
unfolding discard
discard_swap b c n k es h =
    by_entries b (λ n es. (k : ℕ) → discard b n (discard c k es) ≡ discard c k (discard b n es))
    (λ n k. refl)
    (λ n e es t r k. by_bool (eqb e.board c) (λ u. elim k as (λ k. discard b n (discard c k (e ∷ es)) ≡ discard c k (discard b n (e ∷ es))) [ zero ↦ cc (r zero) | suc k ↦ cc (r k) ]) (λ u. cc (r k)))
    (λ e es t r k. cc (not_other e (λ q. h (sym q)) t, r k))
    (λ n e es t r k. cc (not_other e (λ q. h (sym q)) t, r k))
    n es k

-- ---- discarded, with one entry more

pub discard_snoc_other : (b n : ℕ) (es : List HistoryEntry) (e : HistoryEntry) → e.board ≢ b → discard b n (es ++ (e ∷ [])) ≡ discard b n es ++ (e ∷ [])
unfolding discard
discard_snoc_other b n es a h =
    by_entries b (λ n es. discard b n (es ++ (a ∷ [])) ≡ discard b n es ++ (a ∷ []))
    (λ n. cc (ne_eqb a.board b h))
    (λ n e es t r. cc)
    (λ e es t r. cc)
    (λ n e es t r. cc)
    n es

-- an entry past the first n goes
pub discard_snoc_same : (b n : ℕ) (es : List HistoryEntry) (e : HistoryEntry) → e.board ≡ b → n ≤ length (of_board b es)
    → discard b n (es ++ (e ∷ [])) ≡ discard b n es
unfolding of_board discard
discard_snoc_same b n es a h =
    by_entries b (λ n es. n ≤ length (of_board b es) → discard b n (es ++ (a ∷ [])) ≡ discard b n es)
    (elim [ zero ↦ λ l. cc (eq-eqb a.board b h) | suc n ↦ λ l. absurd (not-suc-le-zero l) ])
    (λ n e es t r l. cc (r (rw (t, of_board) at l)))
    (λ e es t r l. cc (r (omega arith)))
    (λ n e es t r l. cc (r (le_of_suc-le-suc (rw (t, of_board) at l))))
    n es
