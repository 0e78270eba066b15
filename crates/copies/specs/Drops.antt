-- Boards of a set that drop their right one after another, the lowest first: the bank after each of them, and that the order shows in nothing.
-- Assumes nothing.
use Rattle.std.specs.Prelude.{◌≡◌, refl, ◌≢◌, true, false, ◌&&◌, not, List, length}
use Rattle.std.proofs.Common.{sym, ap, ◌∙◌, arith, ext_get_or, pow_pos, pow_mono, eq-eqb, ne_eqb}
use Prim.Native.Nat.{ℕ, ◌+◌, ◌^◌, ◌≤◌, ◌<◌}
use Rattle.std.proofs.Math.Bool.{Bool}
use Rattle.std.specs.Int.Count.{count_trailing_zeros}
use Rattle.model.specs.Definitions.Parts.{member, with_member, without_member}
use Rattle.model.specs.Definitions.Layout.{most_boards}
use Rattle.model.specs.Definitions.Bank.{Entry, Board, Bank, no_board, board_at, entry_at, on_board}
use Rattle.model.specs.Definitions.Codec.{decode}
use Rattle.model.specs.Definitions.Steps.{dropped, drop_at}
use Rattle.model.proofs.Laws.Logic.{by_bool, by_eq, clash}
use Rattle.model.proofs.Laws.Sets.{member_with_same, member_with_other, member_without_same, member_without_other, member_none, member_below, without_le}
use Rattle.model.proofs.Laws.Sets.{lowest_member, lowest_in}
use Rattle.model.proofs.Laws.Boards.{boards_on_board, board_at_same, board_at_other, dropped_if, boards_drop_at, board_at_drop_at, loses}
use Rattle.model.specs.Clauses.{Space}
use Rattle.fields.specs.Sets.{without_in}
use Rattle.copies.specs.Banks.{Holds, OfBank, holds_decode, holds_of}

-- a slot for the record on every board that loses its right
abbrev pub CanDrop : (ℕ → Bool) → Bank → Type 0
CanDrop loses k = (c : ℕ) → c < length k.boards → loses c ≡ true → Space (board_at k c)

-- ---- sets

pub without_less : (b set rest : ℕ) → member b set ≡ true → rest ≡ without_member b set → rest < set
without_less b set rest m e =
    let s : set ≡ without_member b set + 2 ^ b = without_in b set m in
    let p : 0 < 2 ^ b = pow_pos b in
    omega arith

-- ---- banks board by board

pub bank_same : (j k : Bank) → j.directory ≡ k.directory → length j.boards ≡ length k.boards
    → ((c : ℕ) → c < length k.boards → board_at j c ≡ board_at k c) → j ≡ k
unfolding board_at
bank_same j k d n e =
    let b : j.boards ≡ k.boards = ext_get_or no_board j.boards k.boards n (λ c h. e c (omega arith)) in
    ap (λ (xs : List Board). record { directory = j.directory; boards = xs }) b ∙ ap (λ (xs : List Entry). record { directory = xs; boards = k.boards }) d

-- two tests that say the same of every board
pub drop_at_same : (f g : ℕ → Bool) (w p : ℕ) (k : Bank) → ((c : ℕ) → c < length k.boards → f c ≡ g c) → drop_at f w p k ≡ drop_at g w p k
unfolding drop_at
drop_at_same f g w p k e =
    bank_same (drop_at f w p k) (drop_at g w p k) refl (boards_drop_at f w p k ∙ sym (boards_drop_at g w p k))
    (λ c h.
    let l : c < length k.boards = omega (arith, boards_drop_at g w p k) in
    board_at_drop_at f w p k c l ∙ (rw (e c l) (sym (board_at_drop_at g w p k c l))))

pub drop_at_none : (f : ℕ → Bool) (w p : ℕ) (k : Bank) → ((c : ℕ) → c < length k.boards → f c ≡ false) → drop_at f w p k ≡ k
unfolding drop_at dropped_if
drop_at_none f w p k e = bank_same (drop_at f w p k) k refl (boards_drop_at f w p k) (λ c l. cc (board_at_drop_at f w p k c l, e c l))

-- one board more
pub drop_at_next : (f g : ℕ → Bool) (w b p : ℕ) (k : Bank) → f b ≡ false → g b ≡ true → ((c : ℕ) → c ≢ b → f c ≡ g c)
    → on_board b (dropped w p) (drop_at f w p k) ≡ drop_at g w p k
unfolding drop_at on_board dropped_if
drop_at_next f g w b p k waits done other =
    let j : Bank = drop_at f w p k in
    bank_same (on_board b (dropped w p) j) (drop_at g w p k) refl (boards_on_board b (dropped w p) j ∙ boards_drop_at f w p k ∙ sym (boards_drop_at g w p k))
    (λ c h.
    let l : c < length k.boards = omega (arith, boards_drop_at g w p k) in
    let m : c < length j.boards = omega (arith, boards_drop_at f w p k) in
    by_eq c b
    (λ e. cc (board_at_same b (dropped w p) j (rw e at m), board_at_drop_at f w p k c l, board_at_drop_at g w p k c l))
    (λ n. cc (board_at_other b (dropped w p) j c n, board_at_drop_at f w p k c l, board_at_drop_at g w p k c l, other c n)))

-- ---- the loop

-- the losers that are not left any more
unfoldable pub gone : ℕ → ℕ → ℕ → Bool
gone losers left c = member c losers && not (member c left)

-- bytes in which the losers but those left have dropped their right to writer w
pub record Dropping (s : List ℕ) (k : Bank) (losers left w p : ℕ) : Type 0 where
  pub holds : Holds s (drop_at (gone losers left) w p k)
  pub among : (c : ℕ) → member c left ≡ true → member c losers ≡ true
  pub few : left ≤ losers

pub dropping_first : {s : List ℕ} {k : Bank} → Holds s k → (losers w p : ℕ) → Dropping s k losers losers w p
unfolding gone
dropping_first {k = k} h losers w p =
    let e : drop_at (gone losers losers) w p k ≡ k = drop_at_none (gone losers losers) w p k (λ c l. by_bool (member c losers) (λ t. cc) (λ t. cc)) in
    record { holds = rw e h; among = λ c m. m; few = omega arith }

pub dropping_last : {s : List ℕ} {k : Bank} (losers w p : ℕ) → Dropping s k losers 0 w p → Holds s (drop_at (λ c. member c losers) w p k)
unfolding gone
dropping_last {s} {k} losers w p d =
    let e : drop_at (gone losers 0) w p k ≡ drop_at (λ c. member c losers) w p k
    = drop_at_same (gone losers 0) (λ c. member c losers) w p k (λ c l. by_bool (member c losers) (λ t. cc (member_none c)) (λ t. cc)) in
    rw e at d.holds

module _ {s : List ℕ} {k : Bank} {losers left w p b : ℕ} (d : Dropping s k losers left w p) (n : losers < 2 ^ length k.boards)
    (m : length k.boards ≤ most_boards) (some : left ≢ 0) (e : b ≡ count_trailing_zeros most_boards left) where
  pub lowest_below : b < most_boards
  lowest_below =
      let h : 2 ^ length k.boards ≤ 2 ^ most_boards = pow_mono m in
      rw e (lowest_in most_boards left (omega (arith, d.few)) some)

  pub lowest_left : member b left ≡ true
  lowest_left = rw e (lowest_member most_boards left (rw e at lowest_below))

  pub lowest_board : b < length k.boards
  lowest_board = member_below (length k.boards) b losers n (d.among b lowest_left)

  lowest_waits : gone losers left b ≡ false
  unfolding gone
  lowest_waits = cc (lowest_left, d.among b lowest_left)

  -- the lowest one's turn
  pub dropping_of : (pages : ℕ) → pages ≡ length k.directory → OfBank pages b s
  unfolding drop_at
  dropping_of pages c = holds_of d.holds pages b c (rw (boards_drop_at (gone losers left) w p k) lowest_board)

  pub dropping_space : CanDrop (λ c. member c losers) k → Space (board_at (decode s) b)
  unfolding dropped_if
  dropping_space can =
      let same : board_at (decode s) b ≡ board_at k b = cc (holds_decode d.holds, board_at_drop_at (gone losers left) w p k b lowest_board, lowest_waits) in
      rw same (can b lowest_board (d.among b lowest_left))

  pub dropping_next : (ys : List ℕ) (rest : ℕ) → rest ≡ without_member b left → Holds ys (on_board b (dropped w p) (decode s)) → Dropping ys k losers rest w p
  unfolding gone
  dropping_next ys rest r h =
      let f : ℕ → Bool = gone losers left in
      let g : ℕ → Bool = gone losers (without_member b left) in
      let next : on_board b (dropped w p) (drop_at f w p k) ≡ drop_at g w p k
      = drop_at_next f g w b p k lowest_waits (cc (member_without_same b left, d.among b lowest_left)) (λ c o. cc (member_without_other b c left o)) in
      record {
        holds = rw (r, ← next) (rw (holds_decode d.holds) at h);
        among = λ c t. by_eq c b (λ o. clash t (rw (r, o) (member_without_same b left))) (λ o. d.among c (sym (member_without_other b c left o) ∙ rw r at t));
        few = rw r (omega (arith, without_le b left, d.few));
      }

-- ---- a page passed on

-- all but the taker: the old owner and the holders, as one set
pub gives_set : (o w p : ℕ) (k : Bank) (copies losers : ℕ) → o ≢ w → copies ≡ (entry_at k p).copies → losers ≡ with_member o (without_member w copies)
    → (c : ℕ) → member c losers ≡ loses o w p k c
gives_set o w p k copies losers n e f c =
    by_eq c w
    (λ q.
    let m : c ≢ o = λ r. n (sym r ∙ q) in
    cc (eq-eqb c w q, member_with_other o c (without_member w copies) m, member_without_same w copies))
    (λ q.
    by_eq c o
    (λ r. cc (ne_eqb c w q, eq-eqb c o r, member_with_same o (without_member w copies)))
    (λ r. cc (ne_eqb c w q, ne_eqb c o r, member_with_other o c (without_member w copies) r, member_without_other w c copies q)))
