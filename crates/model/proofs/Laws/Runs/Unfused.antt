-- Where no fuse is set no store loses power. Assumes nothing.
use Rattle.std.specs.Prelude.{◌≡◌, refl, ℕ, List, [], ◌∷◌, length}
use Rattle.std.proofs.Common.{ap, ◌∙◌, arith, eq-eqb}
use Rattle.std.proofs.Math.Option.{none}
use Rattle.words.specs.Bytes.{Each}
use Rattle.model.specs.Definitions.Layout.{no_fuse}
use Rattle.model.specs.Definitions.Bank.{Board, Bank, no_board, board_at, on_board, on_working, on_spare}
use Rattle.model.specs.Definitions.Steps.{Run, step, burnt, store, store_all, stored_frame, stored_head, stored_selector, checkpoint_stores, rested_working}
use Rattle.model.specs.Definitions.Steps.{checkpoint}
use Rattle.model.proofs.Laws.Logic.{by_eq}
use Rattle.model.proofs.Laws.Boards.{board_at_out, by_board, boards_on_board, board_at_same, board_at_other}
use Rattle.model.proofs.Laws.Lists.{each_head, each_tail}
use Rattle.model.proofs.Laws.Runs.{lost_not, store_cases, step_cases, each_checkpoint_stores}

abbrev pub Unfused : Bank → Type 0
Unfused k = (c : ℕ) → (board_at k c).fuse ≡ no_fuse

-- a run that lost no power and can't lose any
pub record Safe (r : Run) : Type 0 where
  pub lost : r.lost ≡ none
  pub fuses : Unfused r.bank

pub on_board_unfused : (b : ℕ) (f : Board → Board) (k : Bank) → ((x : Board) → x.fuse ≡ no_fuse → (f x).fuse ≡ no_fuse) → Unfused k → Unfused (on_board b f k)
unfolding no_board
on_board_unfused b f k h q c =
    by_board k c
    (λ l.
    by_eq c b
    (λ e. rw e (ap (λ (x : Board). x.fuse) (board_at_same b f k (rw e at l)) ∙ h (board_at k b) (q b)))
    (λ n. ap (λ (x : Board). x.fuse) (board_at_other b f k c n) ∙ q c))
    (λ l. ap (λ (x : Board). x.fuse) (board_at_out (on_board b f k) c (rw (boards_on_board b f k) l)))

burnt_unfused : (x : Board) → x.fuse ≡ no_fuse → (burnt x).fuse ≡ no_fuse
unfolding burnt
burnt_unfused x e = cc (eq-eqb x.fuse no_fuse e)

pub step_safe : (f : Bank → Bank) (r : Run) → (Unfused r.bank → Unfused (f r.bank)) → Safe r → Safe (step f r)
step_safe f r h q = step_cases Safe f r (λ c e. lost_not q.lost e) (λ e. record { lost = refl; fuses = h q.fuses })

store_safe : (b : ℕ) (f : Board → Board) (r : Run) → ((x : Board) → (f x).fuse ≡ x.fuse) → Safe r → Safe (store b f r)
store_safe b f r h q =
    let k : Bank = on_board b burnt (on_board b f r.bank) in
    let quiet : Unfused k = on_board_unfused b burnt _ burnt_unfused (on_board_unfused b f r.bank (λ x e. h x ∙ e) q.fuses) in
    store_cases Safe b f r
    (λ c e. lost_not q.lost e)
    (λ n z. absurd (omega (arith, z, quiet b)))
    (λ n z. record { lost = refl; fuses = quiet })

pub store_all_safe : (b : ℕ) (fs : List (Board → Board)) (r : Run) → Each (λ f. (x : Board) → (f x).fuse ≡ x.fuse) fs → Safe r → Safe (store_all b fs r)
unfolding store_all
store_all_safe b [] r h q = q
store_all_safe b (f ∷ fs) r h q = store_all_safe b fs (store b f r) (each_tail h) (store_safe b f r (each_head h) q)

pub checkpoint_safe : (b : ℕ) (r : Run) → Safe r → Safe (checkpoint b r)
unfolding checkpoint stored_frame stored_head stored_selector on_spare on_working
checkpoint_safe b r q =
    let fs : List (Board → Board) = checkpoint_stores (length r.bank.directory) in
    let quiet : Each (λ f. (x : Board) → (f x).fuse ≡ x.fuse) fs =
    each_checkpoint_stores {P = λ f. (x : Board) → (f x).fuse ≡ x.fuse} (λ p x. refl) (λ x. refl) (λ x. refl) (length r.bank.directory) in
    step_safe _ (store_all b fs r) (on_board_unfused b (on_working rested_working) _ (λ x e. e)) (store_all_safe b fs r quiet q)
