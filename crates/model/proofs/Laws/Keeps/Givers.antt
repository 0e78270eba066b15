-- Who gives a page: up where code 6 lets a fetch pass, with a right to the page, and never the board that lacks it. Assumes nothing.
use Rattle.std.specs.Prelude.{◌≡◌, refl, ◌≢◌, ℕ, ◌^◌, ◌<◌, not, ◌&&◌}
use Rattle.std.proofs.Common.{sym, ap, ◌∙◌, arith, eq-eqb}
use Rattle.std.proofs.Math.Bool.{true, false}
use Rattle.std.proofs.Math.ListN.{length}
use Rattle.std.proofs.Math.Dec.{eqb}
use Rattle.std.proofs.Math.Pow.{pow_mono}
use Rattle.std.proofs.lemmas.Bool.{not-false}
use Rattle.types.specs.declared.Right.{Right}
use Rattle.types.specs.declared.Right.TheVariants.{None, Copy, Own}
use Rattle.types.specs.declared.CopyOrOwn.{CopyOrOwn}
use Rattle.types.specs.declared.CopyOrOwn.TheVariants.{GotCopy, GotOwn}
use Rattle.types.specs.declared.State.TheVariants.{Up}
use Rattle.model.specs.Definitions.Parts.{member}
use Rattle.model.specs.Definitions.Layout.{most_boards}
use Rattle.model.specs.Definitions.Bank.{Entry, Bank, board_at, entry_at, on_board, on_entry}
use Rattle.model.specs.Definitions.WellFormed.{right_in, WellFormed}
use Rattle.model.specs.Definitions.Steps.{lacks, frame_of, lowest_holder, owner_up, giver, give_copy}
use Rattle.model.specs.Definitions.Calls.{nobody_gives}
use Rattle.model.proofs.Laws.Logic.{cases, clash}
use Rattle.model.proofs.Laws.Sets.{lowest_member, lowest_in, member_below}
use Rattle.model.proofs.Laws.Boards.{right_in_owner, right_in_copy, with_copy, give_copy_parts}
use Rattle.model.proofs.Laws.Valid.{copy_some, own_some}
use Rattle.model.proofs.Laws.States.{SameStates, states_give_copy}
use Rattle.model.proofs.Laws.Keeps.Clauses.{fits, up_below, is_up_up}
use Rattle.model.proofs.Laws.Keeps.Rights.{entry_in_other, entry_at_lem, holder_up}

-- ---- the same giver

-- the same entry and the same boards up
pub owner_up_same : (k j : Bank) (p : ℕ) → entry_at j p ≡ entry_at k p → SameStates k j → owner_up j p ≡ owner_up k p
unfolding owner_up
owner_up_same k j p e s = rw (e, s (entry_at k p).owner)

pub giver_same : (g : CopyOrOwn) (k j : Bank) (p : ℕ) → entry_at j p ≡ entry_at k p → SameStates k j → giver g j p ≡ giver g k p
unfolding giver
giver_same GotCopy k j p e s = cc (owner_up_same k j p e s)
giver_same GotOwn k j p e s = ap (λ (x : Entry). x.owner) e

-- ---- in a well-formed bank

-- what a reader lacks
pub copy_none : (r : Right) → lacks GotCopy r ≡ true → r ≡ None
unfolding lacks
copy_none None h = refl
copy_none Copy h = clash h refl
copy_none Own h = clash h refl

module _ {k : Bank} (w : WellFormed k) (p : ℕ) (l : p < length k.directory) where
  -- an up board's frame has the right that the directory gives it
  right_of : (b : ℕ) → (board_at k b).state ≡ Up → (frame_of k b p).right ≡ right_in (entry_at k p) b
  unfolding frame_of entry_at
  right_of b u = (fits w b (up_below k b u)).agreed.rights u p l

  -- the lowest holder is one, if it is a board
  lowest_held : lowest_holder (entry_at k p) < length k.boards → member (lowest_holder (entry_at k p)) (entry_at k p).copies ≡ true
  unfolding lowest_holder
  lowest_held i = lowest_member most_boards (entry_at k p).copies (omega (arith, i, w.sizes.boards))

  -- a holder of a copy has right copy
  pub holder_right : (c : ℕ) → (board_at k c).state ≡ Up → member c (entry_at k p).copies ≡ true → (frame_of k c p).right ≡ Copy
  holder_right c u m = right_of c u ∙ right_in_copy (entry_at k p) c (λ e. clash (rw e m) (entry_at_lem w p l).owner_bit) m

  -- an up owner has right own
  owner_right : (board_at k (entry_at k p).owner).state ≡ Up → (frame_of k (entry_at k p).owner p).right ≡ Own
  owner_right u = right_of (entry_at k p).owner u ∙ right_in_owner (entry_at k p) (entry_at k p).owner refl

  -- who gives has a right
  pub giver_right : (g : CopyOrOwn) → (board_at k (giver g k p)).state ≡ Up → (frame_of k (giver g k p) p).right ≢ None
  unfolding giver
  giver_right GotCopy up =
      cases (λ o. (board_at k o).state ≡ Up → (frame_of k o p).right ≢ None) (owner_up k p)
      (λ t u n. own_some (sym (owner_right u) ∙ n))
      (λ t u n. copy_some (sym (holder_right (lowest_holder (entry_at k p)) u (lowest_held (up_below k (lowest_holder (entry_at k p)) u))) ∙ n))
      up
  giver_right GotOwn up = λ n. own_some (sym (owner_right up) ∙ n)

  -- an up board that lacks the page doesn't give it
  pub giver_other : (g : CopyOrOwn) (b : ℕ) → (board_at k b).state ≡ Up → lacks g (frame_of k b p).right ≡ true → giver g k p ≢ b
  unfolding giver lacks
  giver_other GotCopy b u h e = giver_right GotCopy (rw e u) (rw e (copy_none (frame_of k b p).right h))
  giver_other GotOwn b u h e =
      let own : (frame_of k b p).right ≡ Own = right_of b u ∙ right_in_owner (entry_at k p) b e in clash h (rw own)

  -- where code 6 lets a fetch pass, who gives is up
  pub giver_up : (g : CopyOrOwn) → nobody_gives g k p ≡ false → (board_at k (giver g k p)).state ≡ Up
  unfolding giver nobody_gives owner_up lowest_holder
  giver_up GotCopy passed =
      cases (λ o. (not (owner_up k p) && eqb (entry_at k p).copies 0) ≡ false → (board_at k o).state ≡ Up) (owner_up k p)
      (λ t h. is_up_up _ t)
      (λ t h.
      let some : eqb (entry_at k p).copies 0 ≡ false = cc in
      let n : (entry_at k p).copies ≢ 0 = λ e. clash (eq-eqb (entry_at k p).copies 0 e) some in
      let below : (entry_at k p).copies < 2 ^ length k.boards = (entry_at_lem w p l).copies in
      let held : member (lowest_holder (entry_at k p)) (entry_at k p).copies ≡ true =
      lowest_member most_boards (entry_at k p).copies
      (lowest_in most_boards (entry_at k p).copies (omega (arith, below, pow_mono w.sizes.boards)) n) in
      holder_up w (lowest_holder (entry_at k p)) p (member_below (length k.boards) (lowest_holder (entry_at k p)) (entry_at k p).copies below held) l held)
      passed
  giver_up GotOwn h = is_up_up _ (not-false _ h)

-- ---- a copy given

entry_at_give_copy : (o b p : ℕ) (k : Bank) (q : ℕ) → q ≢ p → entry_at (give_copy o b p k) q ≡ entry_at k q
unfolding entry_at on_entry on_board
entry_at_give_copy o b p k q n = rw (give_copy_parts o b p k) (entry_in_other k.directory p (with_copy b) q n)

-- .. leaves who gives another page
pub giver_give_copy : (g : CopyOrOwn) (o b p : ℕ) (k : Bank) (q : ℕ) → q ≢ p → giver g (give_copy o b p k) q ≡ giver g k q
giver_give_copy g o b p k q n = giver_same g k (give_copy o b p k) q (entry_at_give_copy o b p k q n) (states_give_copy o b p k)
