-- Cells as bytes: the cell at each place, and what a loop over them has found so far. Assumes nothing.
use Rattle.std.specs.Prelude.{◌≡◌, refl, ◌≢◌, ℕ, suc, ◌+◌, ◌*◌, ◌/◌, ◌%◌, ◌≤◌, ◌<◌, Bool, true, false, ◌||◌, not, List, [], ◌∷◌, ◌++◌, length, drop, get_or, eqb}
use Rattle.std.proofs.Common.{sym, ◌∙◌, arith, length-drop, drop-cons}
use borrow.Author.Tests.{eq-eqb, ne_eqb, lt-ltb, le-ltb}
use Rattle.words.specs.Bytes.{Each}
use Rattle.model.specs.Definitions.Parts.{every, member, with_member}
use Rattle.model.specs.Definitions.Layout.{page_size, most_cells}
use Rattle.model.specs.Definitions.Steps.{Cell, ReadCells, cells_asked, any_cell}
use Rattle.model.specs.Definitions.Calls.{wrong_cells}
use Rattle.model.proofs.Laws.Logic.{by_eq}
use Rattle.model.proofs.Laws.Lists.{each_head, each_tail}
use Rattle.model.proofs.Laws.Sets.{member_with_same, member_with_other, member_none}

-- a cell of a bank with so many pages
abbrev pub CellIn : ℕ → Cell → Type 0
CellIn pages c = (c.page < pages) × (c.offset < page_size)

-- the cell that stands at place i
abbrev pub cell_at : List ℕ → ℕ → Cell
cell_at cells i = record { page = get_or cells (2 * i) 0; offset = get_or cells (2 * i + 1) 0 }

pub next_cell : (cells : List ℕ) (i : ℕ) → 2 * i + 1 < length cells → cells_asked (drop (2 * i) cells) ≡ cell_at cells i ∷ cells_asked (drop (2 * (i + 1)) cells)
unfolding cells_asked
next_cell cells i h =
    let j : 2 * (i + 1) ≡ suc (suc (2 * i)) = omega arith in
    let k : 2 * i + 1 ≡ suc (2 * i) = omega arith in
    rw (drop-cons cells (2 * i) 0 (omega arith), drop-cons cells (suc (2 * i)) 0 (omega arith), j, k)

-- two bytes and what stands behind them: a cell and the cells behind it
pub first_cell : (cell rest : List ℕ) → length cell ≡ 2
    → cells_asked (cell ++ rest) ≡ record { page = get_or cell 0 0; offset = get_or cell 1 0 } ∷ cells_asked rest
unfolding cells_asked
first_cell [] rest h = absurd (omega arith)
first_cell (p ∷ []) rest h = absurd (omega arith)
first_cell (p ∷ o ∷ []) rest h = refl
first_cell (p ∷ o ∷ b ∷ more) rest h = absurd (omega arith)

-- "An odd last byte is no cell"
pub no_cell : (l : List ℕ) → length l < 2 → cells_asked l ≡ []
unfolding cells_asked
no_cell [] h = refl
no_cell (p ∷ []) h = refl
no_cell (p ∷ o ∷ more) h = absurd (omega arith)

pub cells_end : (cells : List ℕ) (i : ℕ) → length cells / 2 ≤ i → cells_asked (drop (2 * i) cells) ≡ []
cells_end cells i h = no_cell (drop (2 * i) cells) (omega (arith, length-drop (2 * i) cells))

-- as many cells as pairs of bytes
pub count_cells : (l : List ℕ) → length (cells_asked l) ≡ length l / 2
unfolding cells_asked
count_cells [] = refl
count_cells (p ∷ []) = refl
count_cells (p ∷ o ∷ more) = omega (arith, count_cells more)

-- ---- all in range

-- every cell before the rest passes the test
abbrev pub PassedTo : (Cell → Bool) → List ℕ → List ℕ → Type 0
PassedTo f cells rest = every f (cells_asked rest) ≡ every f (cells_asked cells)

module _ (f : Cell → Bool) (cells rest : List ℕ) (so_far : PassedTo f cells rest) where
  module _ (cell behind : List ℕ) (e : rest ≡ cell ++ behind) (two : length cell ≡ 2) where
    pub passed_next : f (record { page = get_or cell 0 0; offset = get_or cell 1 0 }) ≡ true → PassedTo f cells behind
    unfolding every
    passed_next t = let n = first_cell cell behind two in cc

    pub passed_not : f (record { page = get_or cell 0 0; offset = get_or cell 1 0 }) ≡ false → false ≡ every f (cells_asked cells)
    unfolding every
    passed_not t = let n = first_cell cell behind two in cc

  pub passed_all : length rest < 2 → true ≡ every f (cells_asked cells)
  unfolding every
  passed_all h = let n = no_cell rest h in cc

-- ---- the pages that are named

or_true : (a : Bool) → (a || true) ≡ true
or_true true = refl
or_true false = refl

or_no : (a : Bool) → a ≡ (a || false)
or_no true = refl
or_no false = refl

joined : (p q named : ℕ) (rest : Bool) → (member p (with_member q named) || rest) ≡ (member p named || (eqb q p || rest))
joined p q named rest =
    by_eq q p
    (λ e.
    let s : eqb q p ≡ true = eq-eqb q p e in
    let t : member p (with_member q named) ≡ true = rw e (member_with_same p named) in
    rw (s, t) (sym (or_true (member p named))))
    (λ n.
    let s : eqb q p ≡ false = ne_eqb q p n in
    let t : member p (with_member q named) ≡ member p named = member_with_other q p named (λ i. n (sym i)) in
    rw (s, t))

-- the pages of the cells before the rest are in the set, those of the rest are to come
pub record NamedTo (pages : ℕ) (cells rest : List ℕ) (named : ℕ) : Type 0 where
  pub range : Each (CellIn pages) (cells_asked rest)
  pub members : (p : ℕ) → (member p named || any_cell (cells_asked rest) p) ≡ any_cell (cells_asked cells) p

module _ {pages : ℕ} {cells : List ℕ} where
  pub named_none : Each (CellIn pages) (cells_asked cells) → NamedTo pages cells cells 0
  named_none e = record { range = e; members = λ p. rw (member_none p) }

  module _ {rest : List ℕ} {named : ℕ} (n : NamedTo pages cells rest named) where
    module _ (cell behind : List ℕ) (e : rest ≡ cell ++ behind) (two : length cell ≡ 2) where
      pub named_in : get_or cell 0 0 < pages
      named_in = (each_head (rw (e, first_cell cell behind two) at n.range)).0

      pub named_next : NamedTo pages cells behind (with_member (get_or cell 0 0) named)
      unfolding any_cell
      named_next =
          record {
            range = each_tail (rw (e, first_cell cell behind two) at n.range);
            members = λ p.
                joined p (get_or cell 0 0) named (any_cell (cells_asked behind) p)
                ∙ (rw (e, first_cell cell behind two) at (n.members p));
          }

    pub named_all : length rest < 2 → (p : ℕ) → member p named ≡ any_cell (cells_asked cells) p
    unfolding any_cell
    named_all h p = or_no (member p named) ∙ (rw (no_cell rest h) at (n.members p))

-- ---- code 10, test by test

module _ (cells : List ℕ) (room : ℕ) where
  pub wrong_none : length cells / 2 ≡ 0 → true ≡ wrong_cells (ReadCells cells room)
  unfolding wrong_cells
  wrong_none h = cc (eq-eqb (length (cells_asked cells)) 0 (count_cells cells ∙ h))

  module _ (some : length cells / 2 ≢ 0) where
    some_cells : eqb (length (cells_asked cells)) 0 ≡ false
    some_cells = ne_eqb (length (cells_asked cells)) 0 (λ e. some (sym (count_cells cells) ∙ e))

    pub wrong_odd : length cells % 2 ≡ 1 → true ≡ wrong_cells (ReadCells cells room)
    unfolding wrong_cells
    wrong_odd h = cc (some_cells, eq-eqb (length cells % 2) 1 h)

    module _ (even : length cells % 2 ≢ 1) where
      even_bytes : eqb (length cells % 2) 1 ≡ false
      even_bytes = ne_eqb (length cells % 2) 1 even

      pub wrong_many : most_cells < length cells / 2 → true ≡ wrong_cells (ReadCells cells room)
      unfolding wrong_cells
      wrong_many h = cc (some_cells, even_bytes, lt-ltb most_cells (length (cells_asked cells)) (rw (count_cells cells) h))

      pub wrong_room : length cells / 2 ≤ most_cells → not (eqb room (length cells / 2)) ≡ wrong_cells (ReadCells cells room)
      unfolding wrong_cells
      wrong_room h = cc (some_cells, even_bytes, le-ltb most_cells (length (cells_asked cells)) (rw (count_cells cells) h), count_cells cells)
