-- What a board needs in its log for an access, by the code's tests, page by page, and the search for the lowest board that is short of room.
-- Assumes nothing.
use Rattle.std.specs.Prelude.{◌≡◌, refl, ◌≢◌, Bool, not, length, ltb, leb, is_some}
use Rattle.std.proofs.Math.Path.{sym, ap}
use Rattle.std.proofs.Common.{◌∙◌}
use Prim.Native.Nat.{ℕ, zero, suc, ◌+◌, ◌-◌, ◌≤◌, ◌<◌}
use native.Mathlib.Omega.{arith}
use Rattle.std.proofs.Math.Bool.{true, false}
use Rattle.std.proofs.Math.Option.{Option, none, some}
use Rattle.std.specs.Prelude as code
use Rattle.std.specs.Prelude.{None, Some}
use borrow.Author.Tests.{eq-eqb, ne_eqb, lt-ltb, le-ltb, leb-true, leb-false}
use mathlib.Core.List.{List}
use Rattle.types.specs.declared.Frame.{Frame}
use Rattle.types.specs.declared.CopyOrOwn.TheVariants.{GotOwn}
use Rattle.steps.specs.declared.written.CellWrite.{CellWrite}
use Rattle.accesses.specs.declared.ask.Ask.{Ask}
use Rattle.model.specs.Definitions.Parts.{member, first_from, first_below, sum_from, sum_below}
use Rattle.model.specs.Definitions.Layout.{slot_count}
use Rattle.model.specs.Definitions.Bank.{Board, Bank, board_at, entry_at}
use Rattle.model.specs.Definitions.WellFormed.{RoomOk}
use Rattle.model.specs.Definitions.Steps.{Access, cells_written, any_write, takes, lacks_page, giver}
use Rattle.model.specs.Definitions.Calls.{page_written, fetch_need, drop_need, page_need, need, short, short_board}
use Rattle.model.proofs.Laws.Logic.{by_bool, by_eq}
use Rattle.model.proofs.Laws.Sets.{member_none}
use Rattle.model.proofs.Laws.Below.{passes_names}
use Rattle.model.proofs.Laws.Keeps.Live.{own_names}
use Rattle.model.specs.Clauses.{volatile_count, stored_count}
use Rattle.steps.specs.Asked.{got}
use Rattle.accesses.specs.Asks.{Lacking}

-- a holder's need
unfoldable pub held_by : ℕ → ℕ → ℕ
held_by copies c = elim (member c copies) [ true ↦ 1 | false ↦ 0 ]

pub held_one : (copies c : ℕ) → member c copies ≡ true → 1 ≡ held_by copies c
unfolding held_by
held_one copies c h = cc

pub held_none : (copies c : ℕ) → member c copies ≡ false → 0 ≡ held_by copies c
unfolding held_by
held_none copies c h = cc

-- ---- a fetch

module _ (k : Bank) (b o p c : ℕ) where
  pub need_taker : (w : Bool) → c ≡ b → 1 ≡ fetch_need (got w) k b o p c
  unfolding fetch_need got
  need_taker true e = cc (eq-eqb c b e)
  need_taker false e = cc (eq-eqb c b e)

  pub need_giver_writing : c ≢ b → c ≡ o → 2 ≡ fetch_need (got true) k b o p c
  unfolding fetch_need got
  need_giver_writing n e = cc (ne_eqb c b n, eq-eqb c o e)

  pub need_giver_reading : c ≢ b → c ≡ o → 1 ≡ fetch_need (got false) k b o p c
  unfolding fetch_need got
  need_giver_reading n e = cc (ne_eqb c b n, eq-eqb c o e)

  pub need_holder : (copies : ℕ) → copies ≡ (entry_at k p).copies → c ≢ b → c ≢ o → held_by copies c ≡ fetch_need (got true) k b o p c
  unfolding fetch_need got held_by
  need_holder copies e n m = rw e (cc (ne_eqb c b n, ne_eqb c o m))

  pub need_other : c ≢ b → c ≢ o → 0 ≡ fetch_need (got false) k b o p c
  unfolding fetch_need got
  need_other n m = cc (ne_eqb c b n, ne_eqb c o m)

-- ---- one page of any access

module _ {pages : ℕ} {a : Access} {q : Ask} {set : ℕ} {k : Bank} (l : Lacking pages a q set k) (c p : ℕ) where
  pub need_fetch : member p set ≡ true → (o : ℕ) → o ≡ giver (got (is_some q.write)) k p
      → fetch_need (got (is_some q.write)) k q.board o p c ≡ page_need q.board a k c p
  unfolding page_need
  need_fetch t o e = let m : lacks_page a (board_at k q.board).working.frames p ≡ true = sym (l.lacks p) ∙ t in cc l.stands.takes.takes

  module _ (t : member p set ≡ false) where
    need_drop : page_need q.board a k c p ≡ drop_need a k p c
    unfolding page_need
    need_drop = let m : lacks_page a (board_at k q.board).working.frames p ≡ false = sym (l.lacks p) ∙ t in cc

    -- the byte of a write is of this page, or of another; a read has none
    pub need_own_write : (w : CellWrite) → q.write ≡ Some w → p ≡ w.page → (copies : ℕ) → copies ≡ (entry_at k p).copies → held_by copies c ≡ page_need q.board a k c p
    unfolding drop_need held_by any_write
    need_own_write w h e copies i =
        let s : any_write (cells_written a) p ≡ true = cc (rw h at l.stands.writes, eq-eqb w.page p (sym e)) in
        cc (need_drop)

    pub need_other_page : (w : CellWrite) → q.write ≡ Some w → p ≢ w.page → 0 ≡ page_need q.board a k c p
    unfolding drop_need any_write
    need_other_page w h n =
        let s : any_write (cells_written a) p ≡ false = cc (rw h at l.stands.writes, ne_eqb w.page p (λ e. n (sym e))) in
        cc (need_drop)

    pub need_nothing : q.write ≡ None → 0 ≡ page_need q.board a k c p
    unfolding drop_need any_write
    need_nothing h =
        let s : any_write (cells_written a) p ≡ false = cc (rw h at l.stands.writes) in
        cc (need_drop)

-- ---- all pages

-- what is added up so far, and what is left from page i on
module _ (n : ℕ) (f : ℕ → ℕ) where
  pub sum_begins : 0 + sum_from 0 (n - 0) f ≡ sum_below n f
  unfolding sum_below
  sum_begins =
      let e : n - 0 ≡ n = omega arith in
      let z : 0 + sum_from 0 n f ≡ sum_from 0 n f = omega arith in
      rw e z

  pub sum_on : (m i x : ℕ) → i < n → x ≡ f i → m + sum_from i (n - i) f ≡ sum_below n f → m + x + sum_from (i + 1) (n - (i + 1)) f ≡ sum_below n f
  unfolding sum_from
  sum_on m i x l e h =
      let d : n - i ≡ suc (n - (i + 1)) = omega arith in
      let s : sum_from i (n - i) f ≡ f i + sum_from (i + 1) (n - (i + 1)) f = rw d (let g : i + 1 ≡ suc i = omega arith in rw g) in
      omega arith

  pub sum_ends : (m i : ℕ) → n ≤ i → m + sum_from i (n - i) f ≡ sum_below n f → m ≡ sum_below n f
  unfolding sum_from
  sum_ends m i l h =
      let d : n - i ≡ 0 = omega arith in
      let s : sum_from i (n - i) f ≡ 0 = rw d in
      omega arith

-- only one page counts, or none
sum_from_none : (i n : ℕ) (f : ℕ → ℕ) → ((j : ℕ) → i ≤ j → f j ≡ 0) → sum_from i n f ≡ 0
unfolding sum_from
sum_from_none i zero f h = refl
sum_from_none i (suc n) f h = omega (arith, h i (omega arith), sum_from_none (suc i) n f (λ j l. h j (omega arith)))

sum_from_one : (i n p : ℕ) (f : ℕ → ℕ) → i ≤ p → p < i + n → ((j : ℕ) → j ≢ p → f j ≡ 0) → f p ≡ sum_from i n f
unfolding sum_from
sum_from_one i zero p f h g z = absurd (omega arith)
sum_from_one i (suc n) p f h g z =
    by_eq i p
    (λ e. omega (arith, ap f e, sum_from_none (suc i) n f (λ j l. z j (λ q. omega arith))))
    (λ e. omega (arith, z i e, sum_from_one (suc i) n p f (omega arith) (omega arith) z))

module _ {pages : ℕ} {a : Access} {q : Ask} {set : ℕ} {k : Bank} (l : Lacking pages a q set k) (c : ℕ) where
  -- a write's needs are those of its page
  pub need_written : (w : CellWrite) → q.write ≡ Some w → w.page < pages → page_need q.board a k c w.page ≡ sum_below pages (page_need q.board a k c)
  unfolding sum_below got page_written
  need_written w e h =
      let own : takes a ≡ GotOwn = l.stands.takes.takes ∙ ap (λ o. got (is_some o)) e in
      let written : page_written a ≡ w.page = cc (rw e at l.stands.writes) in
      let fs : List Frame = (board_at k q.board).working.frames in
      sum_from_one 0 pages w.page (page_need q.board a k c) (omega arith) (omega arith)
      (λ j n.
      let other : lacks_page a fs j ≡ false = by_bool (lacks_page a fs j) (λ t. absurd (n (own_names a own j (passes_names a fs j t) ∙ written))) (λ t. t) in
      sym (need_other_page l c j (l.lacks j ∙ other) w e n))

  pub need_zero : q.write ≡ None → set ≡ 0 → 0 ≡ sum_below pages (page_need q.board a k c)
  unfolding sum_below
  need_zero w e =
      sym (sum_from_none 0 pages (page_need q.board a k c) (λ j h. sym (need_nothing l c j (rw e (member_none j)) w)))

pub need_of : (n b : ℕ) (a : Access) (k : Bank) (c : ℕ) → n ≡ length k.directory → sum_below n (page_need b a k c) ≡ need b a k c
unfolding need
need_of n b a k c e = rw e

-- ---- room

pub room_short : (x y : Board) (n : ℕ) (t : Bool) → x ≡ y → t ≡ leb (stored_count x + volatile_count x + n) slot_count
    → not t ≡ ltb slot_count (stored_count y + volatile_count y + n)
room_short x y n t q e =
    let m : ℕ = stored_count x + volatile_count x + n in
    rw (← q)
    (by_bool (leb m slot_count)
    (λ h. rw (e, h) (sym (le-ltb slot_count m (leb-true m slot_count h))))
    (λ h. rw (e, h) (sym (lt-ltb slot_count m (leb-false m slot_count h)))))

pub room_kept : (x : Board) (n : ℕ) → n ≡ 0 → RoomOk x → false ≡ ltb slot_count (stored_count x + volatile_count x + n)
room_kept x n z h = sym (le-ltb slot_count (stored_count x + volatile_count x + n) (omega arith))

-- ---- the lowest board, or page

-- a number as the search answers it
abbrev pub found : code.Option ℕ → Option ℕ
found None = none
found (Some c) = some c

module _ (n c : ℕ) (f : ℕ → Bool) (e : first_below n f ≡ first_from c (n - c) f) where
  pub found_at : c < n → f c ≡ true → some c ≡ first_below n f
  unfolding first_from
  found_at h t =
      let m : n - c ≡ suc (n - suc c) = omega arith in
      rw (e, m) cc

  pub found_none : n ≤ c → none ≡ first_below n f
  unfolding first_from
  found_none h =
      let m : n - c ≡ 0 = omega arith in
      rw (e, m) refl

  pub search_on : c < n → f c ≡ false → first_below n f ≡ first_from (c + 1) (n - (c + 1)) f
  unfolding first_from
  search_on h t =
      let m : n - c ≡ suc (n - suc c) = omega arith in
      let q : c + 1 ≡ suc c = omega arith in
      let g : first_from c (suc (n - suc c)) f ≡ first_from (suc c) (n - suc c) f = cc in
      rw q (e ∙ (ap (λ (i : ℕ). first_from c i f) m ∙ g))

pub search_begins : (n : ℕ) (f : ℕ → Bool) → first_below n f ≡ first_from 0 (n - 0) f
unfolding first_below
search_begins n f = let e : n - 0 ≡ n = omega arith in rw e

pub search_of : (n b : ℕ) (a : Access) (k : Bank) → n ≡ length k.boards → first_below n (short b a k) ≡ short_board b a k
unfolding short_board
search_of n b a k e = rw e

-- nothing is found
first_from_none : (i n : ℕ) (f : ℕ → Bool) → ((j : ℕ) → j < i + n → f j ≡ false) → none ≡ first_from i n f
unfolding first_from
first_from_none i zero f h = refl
first_from_none i (suc n) f h = cc (h i (omega arith), first_from_none (suc i) n f (λ j l. h j (omega arith)))

pub none_found : (n : ℕ) (f : ℕ → Bool) → ((j : ℕ) → j < n → f j ≡ false) → none ≡ first_below n f
unfolding first_below
none_found n f h = first_from_none 0 n f (λ j l. h j (omega arith))

-- tests that agree find the same
first_from_same : (f g : ℕ → Bool) (i n : ℕ) → ((j : ℕ) → f j ≡ g j) → first_from i n f ≡ first_from i n g
unfolding first_from
first_from_same f g i zero h = refl
first_from_same f g i (suc n) h = cc (h i, first_from_same f g (suc i) n h)

pub first_below_same : (f g : ℕ → Bool) (n : ℕ) → ((j : ℕ) → f j ≡ g j) → first_below n f ≡ first_below n g
unfolding first_below
first_below_same f g n h = first_from_same f g 0 n h
