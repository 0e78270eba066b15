-- The definitions give every marked case of document 01, with the lengths of F-2, and a case of F-1: one theorem, through bytes. It is computed on the bank;
-- the laws of the codec and of well-formedness say that the bytes answer the same. Assumes nothing.
use Rattle.std.specs.Prelude.{◌≡◌, true}
use Rattle.std.proofs.Common.{◌∙◌}
use Rattle.model.proofs.Laws.Logic.{and_both}
use Rattle.model.proofs.Laws.Lists.{every_each}
use Rattle.cases.specs.Table.{scripts, table}
use Rattle.cases.specs.Computed.{lengths_hold, scripts_sized, scripts_hold}
use Rattle.cases.specs.OnBank.{every_fresh}
use Rattle.model.specs.Definitions.Check.{sizes_allowed}
use Rattle.model.proofs.Laws.Fresh.{sizes_say}

pub marked_cases : table ≡ true
unfolding table
marked_cases =
    and_both lengths_hold
    (every_fresh scripts (every_each (λ c. sizes_allowed c.boards c.pages) scripts (λ c t. sizes_say c.boards c.pages t) scripts_sized)
    ∙ scripts_hold)
