-- That the history's statement says what it should: premise and claim hold of the worked histories, and of two that break the premise the claim is false.
-- Computed on the bank, stated over bytes. Assumes nothing.
use Rattle.std.specs.Prelude.{◌≡◌, ℕ, true, false, ◌&&◌, List}
use Rattle.std.proofs.Common.{◌∙◌}
use Rattle.words.specs.Bytes.{Each}
use Rattle.model.specs.Definitions.Bank.{fresh}
use Rattle.model.specs.Definitions.WellFormed.{SizesOk}
use Rattle.model.specs.Definitions.Check.{sizes_allowed}
use Rattle.model.specs.Definitions.Calls.{Call}
use Rattle.model.proofs.Laws.Logic.{and_left, and_right}
use Rattle.model.proofs.Laws.Lists.{every_each}
use Rattle.model.specs.History.Statement.{no_history, begin, Premises, Claims}
use Rattle.model.proofs.History.Tests.{premises_test, claims_test, says_premises, says_claims}
use Rattle.cases.specs.Table.{passes}
use Rattle.cases.specs.Worked.{Worked, histories, other_byte, other_byte_repeated, other_order, read_for_cells, other_order_lost, two_due}
use Rattle.cases.specs.Holders.{holder_gave}
use Rattle.cases.specs.Running.{premises_on, claims_on, holds_on}
use Rattle.cases.specs.Computed.{histories_hold, sized, two_due_holds, holder_gave_holds, other_byte_breaks, other_byte_repeated_breaks, cells_break}
use Rattle.cases.specs.OnBank.{passes_fresh_lem, premises_fresh, claims_fresh}
use Rattle.model.proofs.Laws.Fresh.{sizes_say}

-- premise and claim hold throughout, as the statement says them
pub record Kept (h : Worked) : Type 0 where
  pub premise : Premises h.calls (begin h.boards h.pages)
  pub claim : Claims h.calls (begin h.boards h.pages)

kept : (h : Worked) → holds_on h ≡ true → Kept h
unfolding holds_on
kept h t =
    let n : ℕ = h.boards in
    let p : ℕ = h.pages in
    let s : SizesOk n p = sizes_say n p (and_left (sizes_allowed n p) _ t) in
    let u : (premises_on h.calls (fresh n p) no_history && claims_on h.calls (fresh n p) no_history (λ b. 0)) ≡ true = and_right (sizes_allowed n p) _ t in
    record {
      premise = (says_premises h.calls (begin n p)).0 (premises_fresh n p s h.calls ∙ and_left _ _ u);
      claim = (says_claims h.calls (begin n p)).0 (claims_fresh n p s h.calls ∙ and_right (premises_on h.calls (fresh n p) no_history) _ u);
    }

pub histories_kept : Each Kept histories
histories_kept = every_each holds_on histories kept histories_hold

-- two records that are due at once are used at once
pub two_due_lem : passes two_due ≡ true
unfolding two_due
two_due_lem = passes_fresh_lem two_due (sizes_say 2 3 sized.1) ∙ two_due_holds

-- a holder's gift leaves these bytes
pub holder_gave_lem : passes holder_gave ≡ true
unfolding holder_gave
holder_gave_lem = passes_fresh_lem holder_gave (sizes_say 3 1 sized.3) ∙ holder_gave_holds

-- without the premise the claim is false: the premise is needed
pub premise_needed : (premises_test other_byte (begin 2 1) ≡ false) × (claims_test other_byte (begin 2 1) ≡ false)
premise_needed =
    let s : SizesOk 2 1 = sizes_say 2 1 sized.0 in
    (premises_fresh 2 1 s other_byte ∙ other_byte_breaks.0, claims_fresh 2 1 s other_byte ∙ other_byte_breaks.1)

pub repeat_needed : claims_test other_byte_repeated (begin 2 1) ≡ false
repeat_needed = claims_fresh 2 1 (sizes_say 2 1 sized.0) other_byte_repeated ∙ other_byte_repeated_breaks

-- cells repeated in another order, or by a read, don't keep the premise
breaks : (cs : List Call) → premises_on cs (fresh 3 3) no_history ≡ false → premises_test cs (begin 3 3) ≡ false
breaks cs e = premises_fresh 3 3 (sizes_say 3 3 sized.2) cs ∙ e

pub cells_needed :
    (premises_test other_order (begin 3 3) ≡ false) × (premises_test read_for_cells (begin 3 3) ≡ false) × (premises_test other_order_lost (begin 3 3) ≡ false)
cells_needed = (breaks other_order cells_break.0, breaks read_for_cells cells_break.1, breaks other_order_lost cells_break.2)
