-- Codes 6 and 7: what each board needs is what the table says of its part in each page, and the pages that nobody can give and the boards short of room are
-- found from the lowest on. Assumes nothing.
use Rattle.std.specs.Prelude.{◌≡◌, Bool, true, ◌&&◌, eqb}
use Rattle.std.proofs.Math.Path.{refl, ap}
use Prim.Native.Nat.{ℕ, zero, suc, ◌+◌, ◌≤◌, ◌<◌}
use native.Mathlib.Omega.{arith}
use Rattle.std.proofs.Math.Decide.{dec_lt}
use Rattle.std.proofs.Math.ListN.{length}
use Rattle.std.specs.Int.Count.{count_trailing_zeros}
use borrow.Author.Tests.{eqb-true, eqb-false, eq-eqb, ne_eqb}
use Rattle.types.specs.declared.CopyOrOwn.{CopyOrOwn}
use Rattle.types.specs.declared.CopyOrOwn.TheVariants.{GotCopy, GotOwn}
use Rattle.types.specs.declared.State.{State}
use Rattle.types.specs.declared.State.TheVariants.{Up}
use Rattle.model.specs.Definitions.Parts.{member, first_below, sum_from, sum_below}
use Rattle.model.specs.Definitions.Layout.{most_boards, slot_count}
use Rattle.model.specs.Definitions.Bank.{Bank, board_at, entry_at}
use Rattle.model.specs.Definitions.WellFormed.{is_up}
use Rattle.model.specs.Definitions.Steps.{Access, cells_written, any_write, takes, lacks_page, lowest_holder, owner_up, giver}
use Rattle.model.specs.Definitions.Calls.{fetch_need, drop_need, page_need, need, short, short_board, is_some, number_in, nobody_gives}
use Rattle.model.specs.Definitions.Calls.{page_missing}
use Rattle.model.proofs.Laws.Logic.{cases, clash, by_eq, by_option, and_left, and_right}
use Rattle.model.proofs.Laws.Lists.{Lowest, first_below_none, first_below_some}
use Rattle.model.proofs.Laws.Sets.{lowest_member, lowest_others}
use Rattle.model.specs.Laws.Codes.Statement.{owner_of, NobodyGives, Fetches, FromNobody, SomeMissing, LowestMissing, GivesToReader, owner_gives, Needs}
use Rattle.model.specs.Laws.Codes.Statement.{holder_gives, nothing, reader, read_giver, writer, write_owner, other_holder, holder, NeedsAll, no_pages}
use Rattle.model.specs.Laws.Codes.Statement.{one_page, Short, SomeShort, LowestShort}
use Rattle.model.proofs.Laws.Tests.{Says, says_and, says_eq, says_lt, says_up}
use Rattle.model.proofs.Laws.Codes.Order.{fails, refuted, says_iff, says_no}
use Rattle.model.proofs.Laws.Codes.Tests.{writes_page, lacks_page_lem}

-- ==== the lowest index that passes a test

module _ {P : ℕ → Type 0} (n : ℕ) (f : ℕ → Bool) where
  says_first : ((j : ℕ) → j < n → Says (f j) (P j)) → Says (is_some (first_below n f)) ((j : ℕ) × (j < n) × P j)
  unfolding is_some
  says_first d =
      by_option (first_below n f)
      (λ e. (λ h. clash h (ap is_some e), λ u. absurd (fails (d u.0 u.1) (first_below_none n u.0 f e u.1) u.2)))
      (λ j e. let l : Lowest n f j = first_below_some n j f e in (λ h. (j, l.below, (d j l.below).0 l.passes), λ u. ap is_some e))

first_lowest : (n : ℕ) (f : ℕ → Bool) → is_some (first_below n f) ≡ true → Lowest n f (number_in (first_below n f))
unfolding is_some number_in
first_lowest n f t =
    by_option (first_below n f) (λ e. clash t (ap is_some e)) (λ j e. rw e (first_below_some n j f e))

-- ==== who gives

-- the count of trailing zeros is the one member with none below it
lowest_one : (n set c : ℕ) → c < n → member c set ≡ true → ((d : ℕ) → d < c → ¬ (member d set ≡ true)) → c ≡ count_trailing_zeros n set
lowest_one n set c l m none_below =
    elim (dec_lt (count_trailing_zeros n set) c) [
      | yes h ↦ absurd (none_below (count_trailing_zeros n set) h (lowest_member n set (omega arith)))
      | no h ↦ elim (dec_lt c (count_trailing_zeros n set)) [ yes i ↦ clash m (lowest_others n set c i) | no i ↦ omega arith ]
    ]

pub says_giver : (k : Bank) (p c : ℕ) → c < most_boards → Says (eqb c (giver GotCopy k p)) (GivesToReader k p c)
unfolding giver owner_up owner_of lowest_holder
says_giver k p c l =
    let o : ℕ = (entry_at k p).owner in
    let set : ℕ = (entry_at k p).copies in
    let s : Says (owner_up k p) ((board_at k o).state ≡ Up) = says_up (board_at k o).state in
    cases (λ (g : ℕ). Says (eqb c g) (GivesToReader k p c)) (owner_up k p)
    (λ t. (λ e. owner_gives (s.0 t) (eqb-true c o e), λ g. eq-eqb c o (given_up g (s.0 t))))
    (λ t. (
      λ e.
          let i : c ≡ count_trailing_zeros most_boards set = eqb-true c (count_trailing_zeros most_boards set) e in
          holder_gives (fails s t) (rw i (lowest_member most_boards set (omega (arith, i, l))))
          (λ d h m. clash m (lowest_others most_boards set d (omega (arith, i, h)))),
      λ g. eq-eqb c (count_trailing_zeros most_boards set) (given_down g (fails s t) l),
    ))
  where
    given_up : GivesToReader k p c → (board_at k (owner_of k p)).state ≡ Up → c ≡ owner_of k p
    given_up (owner_gives u e) v = e
    given_up (holder_gives n h m) v = absurd (n v)

    given_down : GivesToReader k p c → ¬ ((board_at k (owner_of k p)).state ≡ Up) → c < most_boards → c ≡ count_trailing_zeros most_boards (entry_at k p).copies
    given_down (owner_gives u e) v l = absurd (v u)
    given_down (holder_gives n h m) v l = lowest_one most_boards (entry_at k p).copies c l h m

-- ==== 7: of one page

module _ (b : ℕ) (a : Access) (k : Bank) (c p : ℕ) (below : c < most_boards) where
  fetches : Says (lacks_page a (board_at k b).working.frames p) (Fetches b a k p)
  fetches = lacks_page_lem a (board_at k b).working.frames p

  -- what the definitions compute is one of the table's parts ..
  fetch_part : (g : CopyOrOwn) → takes a ≡ g → Fetches b a k p → Needs b a k c p (fetch_need g k b (giver g k p) p c)
  unfolding fetch_need giver owner_of
  fetch_part GotCopy t f =
      cases (Needs b a k c p) (eqb c b)
      (λ e. reader (t, f) (eqb-true c b e))
      (λ e. cases (Needs b a k c p) (eqb c (giver GotCopy k p)) (λ o. read_giver (t, f) ((says_giver k p c below).0 o)) (λ o. nothing))
  fetch_part GotOwn t f =
      cases (Needs b a k c p) (eqb c b)
      (λ e. writer (t, f) (eqb-true c b e))
      (λ e.
      cases (Needs b a k c p) (eqb c (entry_at k p).owner)
      (λ o. write_owner (t, f) (eqb-false c b e) (eqb-true c (entry_at k p).owner o))
      (λ o. cases (Needs b a k c p) (member c (entry_at k p).copies) (λ m. other_holder (t, f) (eqb-false c b e) m) (λ m. nothing)))

  need_part : Needs b a k c p (page_need b a k c p)
  unfolding page_need drop_need
  need_part =
      cases (Needs b a k c p) (lacks_page a (board_at k b).working.frames p)
      (λ l. fetch_part (takes a) refl (fetches.0 l))
      (λ l.
      cases (Needs b a k c p) (any_write (cells_written a) p && member c (entry_at k p).copies)
      (λ m.
      holder
      ((writes_page (cells_written a) p).0 (and_left (any_write (cells_written a) p) (member c (entry_at k p).copies) m), fails fetches l)
      (and_right (any_write (cells_written a) p) (member c (entry_at k p).copies) m))
      (λ m. nothing))

  -- .. and the greatest of them
  need_most : (n : ℕ) → Needs b a k c p n → n ≤ page_need b a k c p
  unfolding page_need fetch_need drop_need giver owner_of
  need_most n nothing = omega arith
  need_most n (reader f e) = let m : page_need b a k c p ≡ 1 = cc (fetches.1 f.1, f.0, eq-eqb c b e) in omega arith
  need_most n (read_giver f e) =
      by_eq c b
      (λ d. let m : page_need b a k c p ≡ 1 = cc (fetches.1 f.1, f.0, eq-eqb c b d) in omega arith)
      (λ d. let m : page_need b a k c p ≡ 1 = cc (fetches.1 f.1, f.0, ne_eqb c b d, (says_giver k p c below).1 e) in omega arith)
  need_most n (writer f e) = let m : page_need b a k c p ≡ 1 = cc (fetches.1 f.1, f.0, eq-eqb c b e) in omega arith
  need_most n (write_owner f d e) =
      let m : page_need b a k c p ≡ 2 = cc (fetches.1 f.1, f.0, ne_eqb c b d, eq-eqb c (entry_at k p).owner e) in omega arith
  need_most n (other_holder f d h) =
      by_eq c (entry_at k p).owner
      (λ e. let m : page_need b a k c p ≡ 2 = cc (fetches.1 f.1, f.0, ne_eqb c b d, eq-eqb c (entry_at k p).owner e) in omega arith)
      (λ e. let m : page_need b a k c p ≡ 1 = cc (fetches.1 f.1, f.0, ne_eqb c b d, ne_eqb c (entry_at k p).owner e, h) in omega arith)
  need_most n (holder f h) =
      let m : page_need b a k c p ≡ 1 =
      cc (refuted (lacks_page a (board_at k b).working.frames p) fetches f.1, (writes_page (cells_written a) p).1 f.0, h) in
      omega arith

-- ==== 7: of all pages

module _ (b : ℕ) (a : Access) (k : Bank) (c : ℕ) (below : c < most_boards) where
  needs_part : (p n : ℕ) → NeedsAll b a k c p n (sum_from p n (page_need b a k c))
  unfolding sum_from
  needs_part p zero = no_pages
  needs_part p (suc n) = one_page (need_part b a k c p below) (needs_part (suc p) n)

  needs_most : (p n m : ℕ) → NeedsAll b a k c p n m → m ≤ sum_from p n (page_need b a k c)
  unfolding sum_from
  needs_most p n m no_pages = omega arith
  needs_most q j t (one_page {p} {n} {m} {total} u v) = omega (arith, need_most b a k c p below m u, needs_most (suc p) n total v)

  says_short : Says (short b a k c) (Short b a k c)
  unfolding short need sum_below
  says_short =
      let pages : ℕ = length k.directory in
      says_iff
      (λ l. (need b a k c, needs_part 0 pages, l))
      (λ u. omega (arith, needs_most 0 pages u.0 u.1, u.2))
      (says_lt
      slot_count
      (length (board_at k c).stable.selected.log + length (board_at k c).working.log + need b a k c))

module _ (b : ℕ) (a : Access) (k : Bank) where
  module _ (boards : length k.boards ≤ most_boards) where
    pub some_short : Says (is_some (short_board b a k)) (SomeShort b a k)
    unfolding short_board
    some_short = says_first (length k.boards) (short b a k) (λ c h. says_short b a k c (omega (arith, h, boards)))

    pub lowest_short : is_some (short_board b a k) ≡ true → LowestShort b a k (number_in (short_board b a k))
    unfolding short_board
    lowest_short t =
        let l = first_lowest (length k.boards) (short b a k) t in
        record {
          below = l.below;
          short = (says_short b a k (number_in (short_board b a k)) (omega (arith, l.below, boards))).0 l.passes;
          lowest = λ d h. fails (says_short b a k d (omega (arith, h, l.below, boards))) (l.others d h);
        }

  -- ==== 6

  nobody_gives_lem : (g : CopyOrOwn) (p : ℕ) → Says (nobody_gives g k p) (NobodyGives g k p)
  unfolding nobody_gives NobodyGives owner_up owner_of
  nobody_gives_lem GotCopy p =
      let s : State = (board_at k (entry_at k p).owner).state in says_and (says_no (is_up s) (says_up s)) (says_eq (entry_at k p).copies 0)
  nobody_gives_lem GotOwn p = let s : State = (board_at k (entry_at k p).owner).state in says_no (is_up s) (says_up s)

  from_nobody : (p : ℕ) → Says (lacks_page a (board_at k b).working.frames p && nobody_gives (takes a) k p) (FromNobody b a k p)
  from_nobody p = says_and (lacks_page_lem a (board_at k b).working.frames p) (nobody_gives_lem (takes a) p)

  pub some_missing : Says (is_some (page_missing b a k)) (SomeMissing b a k)
  unfolding page_missing
  some_missing = says_first (length k.directory) _ (λ p h. from_nobody p)

  pub lowest_missing : is_some (page_missing b a k) ≡ true → LowestMissing b a k (entry_at k (number_in (page_missing b a k))).owner
  unfolding page_missing owner_of
  lowest_missing t =
      let l = first_lowest (length k.directory) _ t in
      record {
        page = number_in (page_missing b a k);
        below = l.below;
        missing = (from_nobody _).0 l.passes;
        lowest = λ q h. fails (from_nobody q) (l.others q h);
        owner = refl;
      }
