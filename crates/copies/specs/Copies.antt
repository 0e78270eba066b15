-- Copies of the pages of a set, given as the code walks over it: what is asked for, and the copies so far. Assumes nothing.
use Rattle.std.specs.Prelude.{◌≡◌, true, false, length}
use Rattle.std.proofs.Math.Path.{sym}
use Rattle.std.proofs.Common.{◌∙◌, arith, length-append}
use Prim.Native.Nat.{ℕ, ◌+◌, ◌≤◌, ◌<◌}
use mathlib.Core.List.{List, [], ◌∷◌}
use Rattle.words.specs.Bytes.{Each}
use Rattle.types.specs.declared.CopyOrOwn.{CopyOrOwn}
use Rattle.types.specs.declared.CopyOrOwn.TheVariants.{GotCopy, GotOwn}
use Rattle.types.specs.declared.Kind.TheVariants.{Got}
use Rattle.model.specs.Definitions.Parts.{all_below, member}
use Rattle.model.specs.Definitions.Layout.{slot_count}
use Rattle.model.specs.Definitions.Bank.{Bank, board_at, entry_at, on_working, on_frames}
use Rattle.model.specs.Definitions.Codec.{decode}
use Rattle.model.specs.Definitions.Steps.{appended, recorded, with_frame, frame_of, giver, give_copy, give_copies}
use Rattle.model.proofs.Laws.Lists.{each_head, each_tail, each_imp, each_both}
use Rattle.model.proofs.Laws.Boards.{took_copy, boards_give_copy, board_at_give_copy_same}
use Rattle.model.proofs.Laws.Runs.{SameSizes, sizes_give_copy}
use Rattle.model.proofs.Laws.Keeps.Givers.{giver_give_copy}
use Rattle.model.specs.Clauses.{volatile_count}
use Rattle.copies.specs.Banks.{Holds, OfBank, holds_decode, of_holds, holds_of}
use Rattle.copies.specs.Directory.{of_board}
use Rattle.copies.specs.Walks.{left, left_all, left_none, left_next, left_skip, left_above}

-- the pages of a set, rising
abbrev pub pages_in : ℕ → ℕ → List ℕ
pages_in pages set = all_below pages (λ p. member p set)

-- pages of which board b can be given copies: boards own and give them, and its volatile log has a slot for each
pub record CanGive (b : ℕ) (ps : List ℕ) (k : Bank) : Type 0 where
  pub givers : (g : CopyOrOwn) → Each (λ p. giver g k p < length k.boards) ps
  pub room : volatile_count (board_at k b) + length ps ≤ slot_count

-- the pages of a set from page i on
abbrev pub pages_from : ℕ → ℕ → ℕ → List ℕ
pages_from pages set i = left (λ p. member p set) pages i

-- after the pages below i: what is left of the copies gives all of them
pub record Giving (pages set b : ℕ) (k : Bank) (s : List ℕ) (i : ℕ) : Type 0 where
  pub bank : OfBank pages b s
  pub can : CanGive b (pages_from pages set i) (decode s)
  pub gives : give_copies b (pages_from pages set i) (decode s) ≡ give_copies b (pages_in pages set) k

pub giving_first : {pages b : ℕ} (set : ℕ) {s : List ℕ} → OfBank pages b s → CanGive b (pages_in pages set) (decode s) → Giving pages set b (decode s) s 0
giving_first {pages} set o c =
    let e : pages_from pages set 0 ≡ pages_in pages set = left_all (λ p. member p set) pages in
    record { bank = o; can = rw e c; gives = rw e }

-- a copy given leaves the givers of the pages behind it, and one slot less
pub copy_can : (o b p : ℕ) (ps : List ℕ) (k : Bank) → b < length k.boards → Each (λ q. p < q) ps → CanGive b (p ∷ ps) k
    → CanGive b ps (give_copy o b p k)
unfolding took_copy with_frame on_working on_frames recorded appended
copy_can o b p ps k h behind c =
    record {
      givers = λ g.
          each_imp ps
          (λ q v. rw (giver_give_copy g o b p k q (λ e. absurd (omega (arith, v.0))), boards_give_copy o b p k) v.1)
          (each_both behind (each_tail (c.givers g)));
      room =
          rw (board_at_give_copy_same o b p k h)
          (omega (
            arith,
            c.room,
            length-append (board_at k b).working.log
                (record { count = (board_at k b).working.since; kind = Got GotCopy p; peer = o; bytes = (frame_of k o p).bytes } ∷ []),
          ));
    }

module _ {pages set b : ℕ} {k : Bank} {s : List ℕ} {i : ℕ} (h : Giving pages set b k s i) where
  pub giving_last : pages ≤ i → Holds s (give_copies b (pages_in pages set) k)
  unfolding give_copies
  giving_last l =
      let e : pages_from pages set i ≡ [] = left_none (λ p. member p set) pages i l in
      let r : decode s ≡ give_copies b (pages_in pages set) k = rw e at h.gives in
      rw (← r) (of_holds h.bank)

  module _ (l : i < pages) where
    pub giving_skip : member i set ≡ false → Giving pages set b k s (i + 1)
    giving_skip t =
        let e : pages_from pages set i ≡ pages_from pages set (i + 1) = left_skip (λ p. member p set) pages i l t in
        record { bank = h.bank; can = rw (← e) h.can; gives = rw (← e) h.gives }

    module _ (t : member i set ≡ true) where
      behind : pages_from pages set i ≡ i ∷ pages_from pages set (i + 1)
      behind = left_next (λ p. member p set) pages i l t

      gives_here : CanGive b (i ∷ pages_from pages set (i + 1)) (decode s)
      gives_here = rw (← behind) h.can

      pub give_owner : OfBank pages (entry_at (decode s) i).owner s
      unfolding giver
      give_owner = of_board h.bank (entry_at (decode s) i).owner (each_head (gives_here.givers GotOwn))

      pub give_space : volatile_count (board_at (decode s) b) < slot_count
      give_space = omega (arith, gives_here.room)

      module _ (o : ℕ) (from : o ≡ giver GotCopy (decode s) i) where
        pub give_from : o < length (decode s).boards
        give_from = rw from (each_head (gives_here.givers GotCopy))

        pub giving_on : {ys : List ℕ} → Holds ys (give_copy o b i (decode s)) → Giving pages set b k ys (i + 1)
        unfolding give_copies
        giving_on {ys} y =
            let z : SameSizes (decode s) (give_copy o b i (decode s)) = sizes_give_copy o b i (decode s) in
            let rest : List ℕ = pages_from pages set (i + 1) in
            let above : Each (λ q. i < q) rest = each_imp rest (λ q v. omega arith) (left_above (λ p. member p set) pages (i + 1)) in
            record {
              bank = holds_of y pages b (h.bank.count ∙ sym z.pages) (rw z.boards h.bank.board);
              can = rw (holds_decode y) (copy_can o b i rest (decode s) h.bank.board above gives_here);
              gives = rw (holds_decode y, from, ← h.gives, behind);
            }
