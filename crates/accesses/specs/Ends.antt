-- The end of replay on a bank: a board's own run, with the pages that the directory gives it as a set. Assumes nothing.
use Rattle.std.specs.Prelude.{◌≡◌, refl, ℕ, zero, suc, ◌+◌, ◌*◌, ◌-◌, ◌/◌, ◌%◌, ◌^◌, ◌≤◌, ◌<◌, Bool, List, [], ◌∷◌, length, eqb}
use Rattle.std.proofs.Math.Path.{ap}
use Rattle.std.proofs.Common.{◌∙◌, pow-suc, pow_mono}
use native.Mathlib.Omega.{arith}
use Rattle.std.proofs.Math.Bool.{true, false}
use Rattle.model.specs.Definitions.Layout.{most_pages}
use Rattle.model.specs.Definitions.Parts.{update, each_from, each, member}
use Rattle.model.specs.Definitions.Bank.{Board, Bank, board_at, entry_at, on_board}
use Rattle.model.specs.Definitions.Steps.{step}
use Rattle.model.specs.Definitions.BoardRuns.{BoardRun, checkpoint_on}
use Rattle.model.specs.Definitions.Replay.{settled_frame, settled, settle, end_replay}
use Rattle.model.proofs.Laws.Logic.{by_bool}
use Rattle.model.proofs.Laws.Boards.{update_update, boards_on_board, board_at_same}
use Rattle.stores.specs.Lifted.{lifted, lifted_lost, lifted_going, checkpoint_lifted}
use Rattle.exchange.specs.Progress.{running}

-- ---- a set of pages, from its highest page down

unfoldable pub digit : Bool → ℕ
digit t = elim t [ true ↦ 1 | false ↦ 0 ]

-- the pages i, i + 1, .., n of them, that pass a test: page i is the lowest bit
unfoldable pub set_from : (ℕ → Bool) → ℕ → ℕ → ℕ
set_from f i zero = 0
set_from f i (suc n) = set_from f (suc i) n * 2 + digit (f i)

pub set_none : (f : ℕ → Bool) (n : ℕ) → 0 ≡ set_from f n (n - n)
unfolding set_from
set_none f n = let e : n - n ≡ 0 = omega arith in rw e

digit_small : (t : Bool) → digit t ≤ 1
unfolding digit
digit_small true = omega arith
digit_small false = omega arith

set_small : (f : ℕ → Bool) (i n : ℕ) → set_from f i n < 2 ^ n
unfolding set_from
set_small f i zero = omega arith
set_small f i (suc n) =
    let p : 2 ^ suc n ≡ 2 ^ n * 2 = pow-suc 2 n in
    omega (arith, set_small f (suc i) n, digit_small (f i))

-- fifteen pages leave room for one more
set_room : (f : ℕ → Bool) (i n : ℕ) → n ≤ 15 → set_from f i n < 2 ^ 15
set_room f i n h = let p : 2 ^ n ≤ 2 ^ 15 = pow_mono h in omega (arith, set_small f i n)

digit_member : (t : Bool) (m : ℕ) → member 0 (m * 2 + digit t) ≡ t
unfolding digit member
digit_member true m = let e : (m * 2 + 1) % 2 ≡ 1 = omega arith in rw e
digit_member false m = let e : (m * 2 + 0) % 2 ≡ 0 = omega arith in rw e

digit_half : (t : Bool) (m : ℕ) → (m * 2 + digit t) / 2 ≡ m
unfolding digit
digit_half true m = omega arith
digit_half false m = omega arith

set_member : (f : ℕ → Bool) (i n q : ℕ) → q < n → member q (set_from f i n) ≡ f (i + q)
unfolding set_from member
set_member f i zero q h = absurd (omega arith)
set_member f i (suc n) zero h = let e : i + 0 ≡ i = omega arith in rw e (digit_member (f i) (set_from f (suc i) n))
set_member f i (suc n) (suc q) h =
    let e : i + suc q ≡ suc i + q = omega arith in
    rw (digit_half (f i) (set_from f (suc i) n), e) (set_member f (suc i) n q (omega arith))

set_is : (f : ℕ → Bool) (n q : ℕ) → q < n → member q (set_from f 0 n) ≡ f q
set_is f n q h = let e : 0 + q ≡ q = omega arith in set_member f 0 n q h ∙ ap f e

-- one page more, below the others
set_next : (f : ℕ → Bool) (n i : ℕ) (owned : ℕ) → i < n → owned ≡ set_from f (suc i) (n - suc i) → owned * 2 + digit (f i) ≡ set_from f i (n - i)
unfolding set_from
set_next f n i owned h e = let m : n - i ≡ suc (n - suc i) = omega arith in rw (m, e)

module _ (f : ℕ → Bool) (n i owned : ℕ) (h : 0 < i) (l : i ≤ n) (e : owned ≡ set_from f i (n - i)) where
  up_one : suc (i - 1) ≡ i
  up_one = omega arith

  down : (t : Bool) → f (i - 1) ≡ t → owned * 2 + digit t ≡ set_from f (i - 1) (n - (i - 1))
  down t q = rw (← q) (set_next f n (i - 1) owned (omega arith) (rw up_one e))

  pub set_in : f (i - 1) ≡ true → owned * 2 + 1 ≡ set_from f (i - 1) (n - (i - 1))
  unfolding digit
  set_in q = down true q

  pub set_out : f (i - 1) ≡ false → owned * 2 ≡ set_from f (i - 1) (n - (i - 1))
  unfolding digit
  set_out q = let z : owned * 2 ≡ owned * 2 + 0 = omega arith in z ∙ down false q

  pub set_fits : n ≤ most_pages → owned * 2 + 1 < 65536
  set_fits m = omega (arith, set_room f i (n - i) (omega arith), e)

-- ---- tests that agree on every page settle the same frames

each_from_same : {A : Type 0} (i : ℕ) (f g : ℕ → A → A) (xs : List A) → ((j : ℕ) (x : A) → j < length xs → f (i + j) x ≡ g (i + j) x)
    → each_from i f xs ≡ each_from i g xs
unfolding each_from
each_from_same i f g [] h = refl
each_from_same {A} i f g (x ∷ xs) h =
    let z : i + 0 ≡ i = omega arith in
    let e : f i x ≡ g i x = rw z at (h 0 x (omega arith)) in
    let l : each_from (suc i) f xs ≡ each_from (suc i) g xs =
    each_from_same (suc i) f g xs (λ j y m. let s : i + suc j ≡ suc i + j = omega arith in rw s at (h (suc j) y (omega arith))) in
    rw (e, l)

pub settled_same : (f g : ℕ → Bool) (x : Board) → ((p : ℕ) → p < length x.working.frames → f p ≡ g p) → settled f x ≡ settled g x
unfolding settled each
settled_same f g x h =
    let l : each_from 0 (λ p y. settled_frame (f p) y) x.working.frames ≡ each_from 0 (λ p y. settled_frame (g p) y) x.working.frames =
    each_from_same 0 (λ p y. settled_frame (f p) y) (λ p y. settled_frame (g p) y) x.working.frames
    (λ j y m. let z : 0 + j ≡ j = omega arith in rw z (ap (λ t. settled_frame t y) (h j m))) in
    rw l

-- ---- the run

module _ (b n : ℕ) (k : Bank) (h : b < length k.boards) where
  -- the pages that the directory gives the board
  abbrev pub owns : ℕ → Bool
  owns p = eqb (entry_at k p).owner b

  -- a board's run says what stands at the board, whatever stood there
  lifted_over : (f : Board → Board) (r : BoardRun) → lifted b n (on_board b f k) r ≡ lifted b n k r
  unfolding on_board
  lifted_over f r =
      let u : update b (λ x. r.board) (update b f k.boards) ≡ update b (λ x. r.board) k.boards = update_update b f (λ x. r.board) k.boards in
      by_bool r.lost
      (λ t. rw (lifted_lost b n (on_board b f k) r t, lifted_lost b n k r t, u))
      (λ t. rw (lifted_going b n (on_board b f k) r t, lifted_going b n k r t, u))

  pub end_replay_lifted : end_replay b (running n k) ≡ lifted b n k (checkpoint_on (length k.directory) (settled owns (board_at k b)))
  unfolding end_replay step on_board settle
  end_replay_lifted =
      let f : Board → Board = settled owns in
      let j : Bank = on_board b f k in
      checkpoint_lifted b n j (rw (boards_on_board b f k) h)
      ∙ (lifted_over f (checkpoint_on (length j.directory) (board_at j b))
      ∙ ap (λ (x : Board). lifted b n k (checkpoint_on (length k.directory) x)) (board_at_same b f k h))

  -- with the pages that are owned as a set
  pub end_replay_told : (pages owned : ℕ) → pages ≡ length k.directory → length (board_at k b).working.frames ≡ pages
      → owned ≡ set_from owns 0 pages
      → end_replay b (running n k) ≡ lifted b n k (checkpoint_on pages (settled (λ p. member p owned) (board_at k b)))
  end_replay_told pages owned e f g =
      let q : settled (λ p. member p owned) (board_at k b) ≡ settled owns (board_at k b) =
      settled_same (λ p. member p owned) owns (board_at k b) (λ p l. ap (member p) g ∙ set_is owns pages p (rw f at l)) in
      rw (q, e) end_replay_lifted
