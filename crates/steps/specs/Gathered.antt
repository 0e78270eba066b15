-- The bytes of the asked cells, gathered one by one as the loop does it. Assumes nothing.
use Rattle.std.specs.Prelude.{◌≡◌, refl, ℕ, ◌+◌, ◌*◌, ◌<◌, length, set}
use Rattle.std.proofs.Math.Path.{sym}
use Rattle.std.proofs.Common.{ap, ◌∙◌, arith, add-one, take-suc-set, take_all}
use mathlib.Core.List.{List, [], ◌∷◌, ◌++◌, map, append-nil}
use Rattle.std.proofs.Math.ListN.{take, drop, drop_of_length-le}
use Rattle.std.proofs.Math.Seq.{append_snoc}
use Rattle.words.specs.Bytes.{Each}
use Rattle.types.specs.declared.Frame.{Frame}
use Rattle.model.specs.Definitions.Steps.{Cell, cells_asked, cell_byte}
use Rattle.model.proofs.Laws.Lists.{each_head, each_tail}
use Rattle.fields.specs.Cells.{CellIn, cell_at, next_cell}

-- the first i bytes stand in `out`, the cells behind them are still to be read
pub record Gathered (pages : ℕ) (fs : List Frame) (cells : List ℕ) (i : ℕ) (out : List ℕ) : Type 0 where
  pub range : Each (CellIn pages) (cells_asked (drop (2 * i) cells))
  pub whole : take i out ++ map (cell_byte fs) (cells_asked (drop (2 * i) cells)) ≡ map (cell_byte fs) (cells_asked cells)

module _ {pages : ℕ} {fs : List Frame} {cells : List ℕ} where
  pub gathered_none : (out : List ℕ) → Each (CellIn pages) (cells_asked cells) → Gathered pages fs cells 0 out
  gathered_none out e = record { range = e; whole = refl }

  module _ {i : ℕ} {out : List ℕ} (g : Gathered pages fs cells i out) (h : 2 * i + 1 < length cells) where
    pub gathered_in : CellIn pages (cell_at cells i)
    gathered_in = each_head (rw (next_cell cells i h) at g.range)

    pub gathered_more : i < length out → Gathered pages fs cells (i + 1) (set out i (cell_byte fs (cell_at cells i)))
    gathered_more l =
        let c : Cell = cell_at cells i in
        let more : List ℕ = map (cell_byte fs) (cells_asked (drop (2 * (i + 1)) cells)) in
        let first : take (i + 1) (set out i (cell_byte fs c)) ≡ take i out ++ (cell_byte fs c ∷ []) = rw (add-one i) (take-suc-set out i (cell_byte fs c) l) in
        record {
          range = each_tail (rw (next_cell cells i h) at g.range);
          whole =
              ap (λ (l : List ℕ). l ++ more) first ∙ append_snoc (take i out) (cell_byte fs c) more
              ∙ (rw (next_cell cells i h) at g.whole);
        }

  pub gathered_all : {i : ℕ} {out : List ℕ} → Gathered pages fs cells i out → i ≡ length out → length cells ≡ 2 * length out
      → out ≡ map (cell_byte fs) (cells_asked cells)
  unfolding cells_asked
  gathered_all {i} {out} g e n =
      let none : drop (2 * i) cells ≡ [] = drop_of_length-le cells {i = 2 * i} (omega arith) in
      let end : take i out ++ map (cell_byte fs) (cells_asked (drop (2 * i) cells)) ≡ out = rw (none, append-nil (take i out)) (take_all i out (omega arith)) in
      sym end ∙ g.whole
