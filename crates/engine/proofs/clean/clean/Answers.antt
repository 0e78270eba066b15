-- `engine::clean::clean` meets its contract: each return is one way through the call. Assumes nothing.
use mathlib.Core.Path.{◌≡◌}
use native.Mathlib.Omega.{arith}
use mathlib.Core.Bool.{true}
use Rattle.model.specs.Definitions.Parts.{byte_at}
use Rattle.model.specs.Definitions.Layout.{today}
use Rattle.model.specs.Definitions.Older.{stale_well_formed}
use Rattle.model.proofs.Laws.Clean.{cleaned, clean_refuses}
use Rattle.validity.specs.Search.{failed, passed}
use Rattle.engine.specs.Replies.{refused_replied, left_replied}
use Rattle.engine.specs.Converting.{head_inside}
use Rattle.engine.proofs.clean.clean.Goals.{Else-not-formed_in}
use Rattle.engine.proofs.clean.clean.Goals as goal

-- what the test says, once it passed, and then the numbers that were read
formed : (c : Else-not-formed_in) → stale_well_formed c.args.bank.now ≡ true
formed c = passed c.formed_in.ensures c.if-not-formed_in.false-raw

pub returns-then-not-formed_in : goal.returns-then-not-formed_in
returns-then-not-formed_in c =
    let both = refused_replied (clean_refuses _ (failed c.formed_in.ensures c.if-not-formed_in.true-raw)) c.from.ensures in
    record { reply = both.0; few = both.1 }

pub bounds-bank-2 : goal.bounds-bank-2
bounds-bank-2 c = omega (arith, head_inside today true _ (formed (goal.at.bounds-bank-2 c).Else-not-formed_in))

pub bounds-bank-3 : goal.bounds-bank-3
bounds-bank-3 c = omega (arith, head_inside today true _ (formed (goal.at.bounds-bank-3 c).Else-not-formed_in))

pub clean_slots-requires : goal.clean_slots-requires
unfolding byte_at
clean_slots-requires c =
    record { formed = formed (goal.at.clean_slots-requires c).Else-not-formed_in; boards = c.from-boards.ensures; pages = c.from-pages.ensures }

pub returns : goal.returns
returns c =
    let both = left_replied (cleaned _ (formed (goal.at.returns c).Else-not-formed_in)) c.clean_slots.ensures in
    record { reply = both.0; few = both.1 }
