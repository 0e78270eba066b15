-- Records that name a board: which are looked for, and whose pages are still to come between two places of a block's stored log. Assumes nothing.
use Rattle.std.specs.Prelude.{◌≡◌, ℕ, suc, ◌+◌, ◌*◌, ◌-◌, ◌≤◌, ◌<◌, Bool, true, false, ◌&&◌, List, [], ◌∷◌, length, map, eqb}
use Rattle.std.specs.List.{range_with_len}
use Rattle.std.proofs.Common.{zero, ap, sym, ◌∙◌, arith}
use Rattle.std.proofs.lemmas.List.FromFn.{length-map-range_with_len, fill_by_all}
use native.Mathlib.Nat.{sub-zero}
use Rattle.types.specs.declared.Kind.{Kind}
use Rattle.types.specs.declared.Record.{Record}
use Rattle.model.specs.Definitions.Parts.{part, byte_at}
use Rattle.model.specs.Definitions.Layout.{slot_size, area_count_at, area_slots_at}
use Rattle.model.specs.Definitions.Codec.{page_of, decode_record}
use Rattle.model.specs.Definitions.WellFormed.{is_got}
use Rattle.model.specs.Definitions.Logs.{is_shown, pages_naming}
use Rattle.format.specs.Areas.{selected_part}
use Rattle.steps.specs.Blocks.{IsBlock, board_of}
use Rattle.steps.specs.Selected.{stored_count_lem, stored_record}
use Rattle.comparison.specs.declared.naming.Wanted.{Wanted}
use Rattle.comparison.specs.declared.naming.Wanted.TheVariants.{Gots, Showns}

abbrev pub wanted : Wanted → Kind → Bool
wanted Gots = is_got
wanted Showns = is_shown

-- a record of a block's stored log, and those of n places from a place on
abbrev pub stored_at : ℕ → List ℕ → ℕ → Record
stored_at pages block i = decode_record (part (selected_part pages block) (area_slots_at pages + i * slot_size) slot_size)

-- the pages of those that name a board, between two places
unfoldable pub pages_from : Wanted → (peer pages : ℕ) → List ℕ → (start end : ℕ) → List ℕ
pages_from looked_for peer pages block start end = pages_naming (wanted looked_for) peer (map (stored_at pages block) (range_with_len start (end - start)))

-- few enough
named_few : (such : Kind → Bool) (peer : ℕ) (rs : List Record) → length (pages_naming such peer rs) ≤ length rs
unfolding pages_naming
named_few such peer [] = omega arith
named_few such peer (r ∷ rs) =
    elim (such r.kind && eqb r.peer peer) as (λ b. length (elim b as (λ _. List ℕ) [ true ↦ page_of r.kind ∷ pages_naming such peer rs | false ↦ pages_naming such peer rs ]) ≤ suc (length rs)) [
      | true ↦ omega (arith, named_few such peer rs)
      | false ↦ omega (arith, named_few such peer rs)
    ]

-- a record in front: its page comes first, or it is passed over
module _ (such : Kind → Bool) (peer : ℕ) (r : Record) (rs : List Record) where
  named_first : (such r.kind && eqb r.peer peer) ≡ true → pages_naming such peer (r ∷ rs) ≡ page_of r.kind ∷ pages_naming such peer rs
  unfolding pages_naming
  named_first t = rw (pages_naming, t)

  named_none : (such r.kind && eqb r.peer peer) ≡ false → pages_naming such peer (r ∷ rs) ≡ pages_naming such peer rs
  unfolding pages_naming
  named_none t = rw (pages_naming, t)

range_first : (a n : ℕ) → 0 < n → range_with_len a n ≡ a ∷ range_with_len (a + 1) (n - 1)
range_first a zero h = absurd (omega arith)
range_first a (suc n) h = ap (λ (m : ℕ). a ∷ range_with_len (a + 1) m) (omega arith)

module _ (looked_for : Wanted) (peer pages : ℕ) (block : List ℕ) where
  -- the record at the first place: its page is next, or it is passed over
  module _ {start end i start₁ end₁ : ℕ} (went : (end₁ ≡ end) × ((0 < end - start) × (i ≡ start) × (start₁ ≡ start + 1))) (r : Record)
      (e : r ≡ stored_at pages block i) where
    next_record : map (stored_at pages block) (range_with_len start (end - start)) ≡ r ∷ map (stored_at pages block) (range_with_len start₁ (end₁ - start₁))
    next_record =
        let n : end - start - 1 ≡ end₁ - start₁ = omega arith in
        rw (range_first start (end - start) went.1.0, n, e, went.1.1, went.1.2)

    pub from_wanted : (wanted looked_for r.kind && eqb r.peer peer) ≡ true
        → pages_from looked_for peer pages block start end ≡ page_of r.kind ∷ pages_from looked_for peer pages block start₁ end₁
    unfolding pages_from
    from_wanted t = rw next_record (named_first (wanted looked_for) peer r _ t)

    pub from_other : (wanted looked_for r.kind && eqb r.peer peer) ≡ false
        → pages_from looked_for peer pages block start end ≡ pages_from looked_for peer pages block start₁ end₁
    unfolding pages_from
    from_other t = rw next_record (named_none (wanted looked_for) peer r _ t)

  pub from_end : (start end : ℕ) → end ≤ start → pages_from looked_for peer pages block start end ≡ []
  unfolding pages_from pages_naming
  from_end start end h = let n : end - start ≡ 0 = omega arith in rw n

  pub from_few : (start end : ℕ) → length (pages_from looked_for peer pages block start end) ≤ end - start
  unfolding pages_from
  from_few start end =
      let f : ℕ → Record = stored_at pages block in
      omega (
        arith,
        named_few (wanted looked_for) peer (map f (range_with_len start (end - start))),
        length-map-range_with_len f start (end - start),
      )

  pub from_block : IsBlock pages block → {n : ℕ} → n ≡ byte_at (selected_part pages block) area_count_at
      → pages_from looked_for peer pages block 0 n ≡ pages_naming (wanted looked_for) peer (board_of pages block).stable.selected.log
  unfolding pages_from
  from_block b {n} e =
      let log : List Record = (board_of pages block).stable.selected.log in
      let f : ℕ → Record = stored_at pages block in
      let l : length log ≡ n = sym (e ∙ stored_count_lem b) in
      let all : log ≡ map f (range_with_len 0 n) = fill_by_all f log n (f 0) l (λ k h. sym (stored_record b k (f 0) (rw l h))) in
      rw all (ap (λ (m : ℕ). pages_naming (wanted looked_for) peer (map f (range_with_len 0 m))) (sub-zero n))
