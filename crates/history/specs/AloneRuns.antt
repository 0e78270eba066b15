-- Runs in two banks of the same sizes in which board b looks the same: its stores and the end of its replay count the same stores, blow its fuse at the
-- same one, and leave it looking the same. Assumes nothing.
use Rattle.std.specs.Prelude.{◌≡◌, refl, ◌↔◌, true, false, ltb}
use Rattle.std.proofs.Common.{sym, ◌∙◌, arith, ltb-true, ltb-false, eqb-true, eq-eqb, ne_eqb}
use Rattle.std.proofs.Math.Path.{ap, fun_ext}
use Prim.Native.Nat.{ℕ, ◌+◌, ◌≤◌, ◌<◌}
use Rattle.std.proofs.Math.Option.{none, some}
use Rattle.std.proofs.Math.ListN.{length, get_or-eq_default}
use Rattle.std.proofs.Math.Dec.{eqb}
use Rattle.std.proofs.lemmas.Bool.{eqb-false}
use Rattle.model.specs.Definitions.Bank.{Entry, Board, Bank, board_at, entry_at, on_board, on_working, no_entry}
use Rattle.model.specs.Definitions.WellFormed.{WellFormed}
use Rattle.model.specs.Definitions.Steps.{Run, start, step, power_off, burnt, store, store_all, stored_frame, stored_head, stored_selector, spare_stores}
use Rattle.model.specs.Definitions.Steps.{rested_working, checkpoint}
use Rattle.model.specs.Definitions.Replay.{replay_over, settled, end_replay, end_if_over, settle}
use Rattle.model.proofs.Laws.Logic.{by_bool, by_option}
use Rattle.model.proofs.Laws.Lists.{foldl_both}
use Rattle.model.proofs.Laws.Boards.{board_at_same, board_at_power_off_same, boards_on_board}
use Rattle.model.proofs.Laws.Runs.{step_lost, store_lost, SameSizes, sizes_on_board, sizes_power_off, follows_store, each_spare_stores, checkpoint_selector}
use Rattle.model.specs.Clauses.{WellFormedBut, InReplay}
use Rattle.model.proofs.Laws.Keeps.Replay.{settle_restores}
use Rattle.model.proofs.Laws.Moves.Stores.{head_saves}
use Rattle.history.specs.ReplayAccess.{if_over, if_going}
use Rattle.model.specs.History.AloneStatement.{SameOwned}
use Rattle.history.specs.AloneBoards.{Same, burnt_same, powered_off_same, rested_same, settled_same, on_spare_same, selector_same, over_same}

-- ==== two banks

pub record SameAt (b : ℕ) (k j : Bank) : Type 0 where
  pub sizes : SameSizes k j
  pub board : Same (board_at k b) (board_at j b)

-- changes that leave the sizes
pub sizes_both : {k k' j j' : Bank} → SameSizes k k' → SameSizes j j' → SameSizes k j → SameSizes k' j'
sizes_both p q s = record { boards = q.boards ∙ s.boards ∙ sym p.boards; pages = q.pages ∙ s.pages ∙ sym p.pages }

module _ (b : ℕ) (k j : Bank) (l : b < length k.boards) (s : SameAt b k j) where
  pub below_same : b < length j.boards
  below_same = rw s.sizes.boards l

  pub on_board_same : (f g : Board → Board) → Same (f (board_at k b)) (g (board_at j b)) → SameAt b (on_board b f k) (on_board b g j)
  on_board_same f g h =
      record {
        sizes = sizes_both (sizes_on_board b f k) (sizes_on_board b g j) s.sizes;
        board = rw (board_at_same b f k l, board_at_same b g j below_same) h;
      }

  pub power_off_same : SameAt b (power_off b k) (power_off b j)
  power_off_same =
      record {
        sizes = sizes_both (sizes_power_off b k) (sizes_power_off b j) s.sizes;
        board = rw (board_at_power_off_same b k l, board_at_power_off_same b j below_same) (powered_off_same s.board);
      }

-- ==== two runs

pub record SameRun (b : ℕ) (r s : Run) : Type 0 where
  pub lost : r.lost ≡ s.lost
  pub stores : r.stores ≡ s.stores
  pub bank : SameAt b r.bank s.bank

pub start_same : {b : ℕ} {k j : Bank} → SameAt b k j → SameRun b (start k) (start j)
unfolding start
start_same s = record { lost = refl; stores = refl; bank = s }

-- the cases of a step and of a store, as equations
step_on : (f : Bank → Bank) (r : Run) → r.lost ≡ none → step f r ≡ record { bank = f r.bank; stores = r.stores; lost = none }
unfolding step
step_on f r e = cc

abbrev stored_bank : ℕ → (Board → Board) → Bank → Bank
stored_bank b f k = on_board b burnt (on_board b f k)

store_cut : (b : ℕ) (f : Board → Board) (r : Run) → r.lost ≡ none → eqb (board_at (stored_bank b f r.bank) b).fuse 0 ≡ true
    → store b f r ≡ record { bank = power_off b (stored_bank b f r.bank); stores = r.stores + 1; lost = some b }
unfolding store
store_cut b f r e t = cc

store_on : (b : ℕ) (f : Board → Board) (r : Run) → r.lost ≡ none → eqb (board_at (stored_bank b f r.bank) b).fuse 0 ≡ false
    → store b f r ≡ record { bank = stored_bank b f r.bank; stores = r.stores + 1; lost = none }
unfolding store
store_on b f r e t = cc

module _ {b : ℕ} (r s : Run) (h : SameRun b r s) where
  pub step_same : (f g : Bank → Bank) → (r.lost ≡ none → SameAt b (f r.bank) (g s.bank)) → SameRun b (step f r) (step g s)
  step_same f g go =
      by_option r.lost
      (λ n. rw (step_on f r n, step_on g s (sym h.lost ∙ n)) (record { lost = refl; stores = h.stores; bank = go n }))
      (λ c e. rw (step_lost f r e, step_lost g s (sym h.lost ∙ e)) h)

  module _ (l : b < length r.bank.boards) where
    store_same : (f : Board → Board) → (r.lost ≡ none → Same (f (board_at r.bank b)) (f (board_at s.bank b)))
        → SameRun b (store b f r) (store b f s)
    store_same f go =
        by_option r.lost
        (λ n.
        let m : s.lost ≡ none = sym h.lost ∙ n in
        let stored : SameAt b (on_board b f r.bank) (on_board b f s.bank) = on_board_same b r.bank s.bank l h.bank f f (go n) in
        let l₁ : b < length (on_board b f r.bank).boards = rw (boards_on_board b f r.bank) l in
        let now : SameAt b (stored_bank b f r.bank) (stored_bank b f s.bank) =
        on_board_same b (on_board b f r.bank) (on_board b f s.bank) l₁ stored burnt burnt (burnt_same stored.board) in
        let l₂ : b < length (stored_bank b f r.bank).boards = rw (boards_on_board b burnt (on_board b f r.bank)) l₁ in
        let fuse : (board_at (stored_bank b f r.bank) b).fuse ≡ (board_at (stored_bank b f s.bank) b).fuse = now.board.fuse in
        let plus : r.stores + 1 ≡ s.stores + 1 = ap (λ (i : ℕ). i + 1) h.stores in
        by_bool (eqb (board_at (stored_bank b f r.bank) b).fuse 0)
        (λ t.
        rw (store_cut b f r n t, store_cut b f s m (rw fuse at t))
        (record { lost = refl; stores = plus; bank = power_off_same b (stored_bank b f r.bank) (stored_bank b f s.bank) l₂ now }))
        (λ t.
        rw (store_on b f r n t, store_on b f s m (rw fuse at t))
        (record { lost = refl; stores = plus; bank = now })))
        (λ c e. rw (store_lost b f r e, store_lost b f s (sym h.lost ∙ e)) h)

-- ==== a checkpoint

module _ (b : ℕ) where
  -- the board is there, too
  abbrev SameThere : Run → Run → Type 0
  SameThere r s = SameRun b r s × (b < length r.bank.boards)

  spare_same : (f : Board → Board) → ((x y : Board) → Same x y → Same (f x) (f y)) → (r s : Run) → SameThere r s → SameThere (store b f r) (store b f s)
  spare_same f g r s h = (
    store_same r s h.0 h.1 f (λ m. g (board_at r.bank b) (board_at s.bank b) h.0.bank.board),
    rw (follows_store b f r).sizes.boards h.1,
  )

  -- the spare area that is selected holds the working memory of the board that stored
  checkpoint_same : (r s : Run) → SameRun b r s → b < length r.bank.boards → WellFormed r.bank → WellFormed s.bank
      → SameRun b (checkpoint b r) (checkpoint b s)
  unfolding store_all stored_frame stored_head
  checkpoint_same r s h l w v =
      let n : ℕ = length r.bank.directory in
      let f : Board → Board = on_working rested_working in
      let r₁ : Run = store_all b (spare_stores n) r in
      let s₁ : Run = store_all b (spare_stores n) s in
      let r₂ : Run = store b stored_selector r₁ in
      let s₂ : Run = store b stored_selector s₁ in
      let m : length s.bank.directory ≡ n = h.bank.sizes.pages in
      let spare : SameThere r₁ s₁ =
      foldl_both SameThere _ (spare_stores n)
      (each_spare_stores (λ p. spare_same (stored_frame p) (λ x y q. on_spare_same q _ _)) (spare_same stored_head (λ x y q. on_spare_same q _ _)) n)
      r s (h, l) in
      let h₁ : SameRun b r₁ s₁ = spare.0 in
      let l₁ : b < length r₁.bank.boards = spare.1 in
      let l₂ : b < length r₂.bank.boards = rw (follows_store b stored_selector r₁).sizes.boards l₁ in
      let h₂ : SameRun b r₂ s₂ =
      store_same r₁ s₁ h₁ l₁ stored_selector
      (λ e.
      selector_same h₁.bank.board
      (head_saves b r w l e)
      (rw m at (head_saves b s v (below_same b r.bank s.bank l h.bank) (rw m (sym h₁.lost ∙ e))))) in
      rw (checkpoint_selector b r, checkpoint_selector b s, m)
      (step_same r₂ s₂ h₂ (on_board b f) (on_board b f) (λ e. on_board_same b r₂.bank s₂.bank l₂ h₂.bank f f (rested_same h₂.bank.board)))

-- ==== the end of replay

-- past the last page both directories say the same
owned_same : (b : ℕ) (k j : Bank) → SameSizes k j → SameOwned b k j → (p : ℕ) → eqb (entry_at k p).owner b ≡ eqb (entry_at j p).owner b
unfolding entry_at
owned_same b k j s h p =
    by_bool (ltb p (length k.directory))
    (λ t.
    let i : ((entry_at k p).owner ≡ b) ↔ ((entry_at j p).owner ≡ b) = h p (ltb-true p (length k.directory) t) in
    by_bool (eqb (entry_at k p).owner b)
    (λ e. e ∙ sym (eq-eqb (entry_at j p).owner b (i.0 (eqb-true (entry_at k p).owner b e))))
    (λ e. e ∙ sym (ne_eqb (entry_at j p).owner b (λ q. eqb-false (entry_at k p).owner b e (i.1 q)))))
    (λ t.
    let out : length k.directory ≤ p = ltb-false p (length k.directory) t in
    let e : entry_at k p ≡ no_entry = get_or-eq_default k.directory no_entry {n = p} out in
    let f : entry_at j p ≡ no_entry =
    get_or-eq_default j.directory no_entry {n = p} (omega (arith, s.pages)) in
    ap (λ (t : Entry). eqb t.owner b) (e ∙ sym f))

module _ (b : ℕ) (k j : Bank) (l : b < length k.boards) (s : SameAt b k j) (w : WellFormedBut b InReplay k) (v : WellFormedBut b InReplay j) where
  pub end_replay_same : SameOwned b k j → SameRun b (end_replay b (start k)) (end_replay b (start j))
  unfolding end_replay step start settle
  end_replay_same h =
      let f : Board → Board = settled (λ p. eqb (entry_at k p).owner b) in
      let g : Board → Board = settled (λ p. eqb (entry_at j p).owner b) in
      let e : f ≡ g = ap settled (fun_ext (owned_same b k j s.sizes h)) in
      checkpoint_same b (start (settle b k)) (start (settle b j))
      (start_same (on_board_same b k j l s f g (rw e (settled_same s.board (λ p. eqb (entry_at j p).owner b)))))
      (rw (boards_on_board b f k) l)
      (settle_restores b k w)
      (settle_restores b j v)

  pub end_if_over_same : (replay_over (board_at k b) ≡ true → SameOwned b k j) → SameRun b (end_if_over b (start k)) (end_if_over b (start j))
  unfolding start
  end_if_over_same h =
      let o : replay_over (board_at k b) ≡ replay_over (board_at j b) = over_same s.board in
      by_bool (replay_over (board_at k b))
      (λ t. rw (if_over b (start k) t, if_over b (start j) (sym o ∙ t)) (end_replay_same (h t)))
      (λ t. rw (if_going b (start k) t, if_going b (start j) (sym o ∙ t)) (start_same s))
