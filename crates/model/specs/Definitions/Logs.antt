-- Document 02, F-7: two logs held against each other. Assumes nothing.
use Rattle.std.specs.Prelude.{ℕ, suc, Bool, true, false, ◌&&◌, List, [], ◌∷◌, eqb, ltb}
use Rattle.types.specs.declared.Answer.{Answer}
use Rattle.types.specs.declared.Answer.TheVariants.{Compared}
use Rattle.types.specs.declared.Kind.{Kind}
use Rattle.types.specs.declared.Kind.TheVariants.{Got, Shown, Dropped}
use Rattle.types.specs.declared.Record.{Record}
use Rattle.model.specs.Definitions.Bank.{Bank, board_at}
use Rattle.model.specs.Definitions.Codec.{page_of}
use Rattle.model.specs.Definitions.WellFormed.{is_got}

unfoldable pub is_shown : Kind → Bool
is_shown (Got g p) = false
is_shown (Shown p) = true
is_shown (Dropped p) = false

-- the pages of the records of such a kind that name this board, in the order of the log
unfoldable pub pages_naming : (Kind → Bool) → (peer : ℕ) → List Record → List ℕ
pages_naming such peer [] = []
pages_naming such peer (r ∷ rs) =
    elim (such r.kind && eqb r.peer peer) [ true ↦ page_of r.kind ∷ pages_naming such peer rs | false ↦ pages_naming such peer rs ]

-- "got naming the giver", copy or own
abbrev pub gots_from : (giver : ℕ) → List Record → List ℕ
gots_from = pages_naming is_got

-- "shown naming the taker"
abbrev pub showns_to : (taker : ℕ) → List Record → List ℕ
showns_to = pages_naming is_shown

-- "the i-th got .. must have the page of the i-th shown": "the first got, lowest i first, whose page differs or that has no partner", where i is the number of
-- the first of them; 0 if there is none. A shown without a got is no fault.
unfoldable pub first_unmatched : (i : ℕ) → (gots showns : List ℕ) → ℕ
first_unmatched i [] showns = 0
first_unmatched i (g ∷ gots) [] = i
first_unmatched i (g ∷ gots) (s ∷ showns) = elim (eqb g s) [ true ↦ first_unmatched (suc i) gots showns | false ↦ i ]

-- "the stored logs of their selected areas"
abbrev pub stored_records : Bank → ℕ → List Record
stored_records k b = (board_at k b).stable.selected.log

-- "For each direction": the gots of the taker that name the giver, and the showns of the giver that name the taker
abbrev pub gots_of : (giver taker : ℕ) → Bank → List ℕ
gots_of x y k = gots_from x (stored_records k y)

abbrev pub showns_of : (giver taker : ℕ) → Bank → List ℕ
showns_of x y k = showns_to y (stored_records k x)

-- "counted from 1"
unfoldable pub unmatched_in : (giver taker : ℕ) → Bank → ℕ
unmatched_in x y k = first_unmatched 1 (gots_of x y k) (showns_of x y k)

-- "all gots with the lower board as giver come first"; "The value is that i, counted from 1, and who is the taker, or both are 0 if there is none."
unfoldable pub compared_in_order : (lower higher : ℕ) → Bank → Answer
compared_in_order x y k =
    elim (eqb (unmatched_in x y k) 0) [
      | false ↦ Compared (unmatched_in x y k) y
      | true ↦ elim (eqb (unmatched_in y x k) 0) [ false ↦ Compared (unmatched_in y x k) x | true ↦ Compared 0 0 ]
    ]

-- "takes two different boards", named in either order
unfoldable pub compared_logs : (board other : ℕ) → Bank → Answer
compared_logs b c k = elim (ltb b c) [ true ↦ compared_in_order b c k | false ↦ compared_in_order c b k ]
