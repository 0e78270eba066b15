-- `engine::convert::adopt` meets its contract: each return is one way through the call. Assumes nothing.
use mathlib.Core.Path.{◌≡◌, refl}
use mathlib.Core.Bool.{true}
use Rattle.model.specs.Definitions.Layout.{today}
use Rattle.model.specs.Definitions.Older.{earlier_well_formed}
use Rattle.model.proofs.Laws.Conversion.{adopted, adopt_malformed, adopt_records}
use Rattle.validity.specs.Search.{failed, passed}
use Rattle.engine.specs.Replies.{refused_replied, left_replied}
use Rattle.engine.specs.Converting.{formed_head}
use borrow.Author.Rules.{rules}
use Rattle.engine.proofs.convert.adopt.Goals.{Else-not-formed_in}
use Rattle.engine.proofs.convert.adopt.Goals as goal

-- what the first test says, once it passed
formed : (c : Else-not-formed_in) → earlier_well_formed c.args.bank.now ≡ true
formed c = passed c.formed_in.ensures c.if-not-formed_in.false-raw

pub returns-then-not-formed_in : goal.returns-then-not-formed_in
returns-then-not-formed_in c =
    let both = refused_replied (adopt_malformed _ (failed c.formed_in.ensures c.if-not-formed_in.true-raw)) c.from.ensures in
    record { reply = both.0; few = both.1 }

pub no_records-requires : goal.no_records-requires
no_records-requires c = (search rules, formed_head today _ (formed c))

pub returns-then-not-no_records : goal.returns-then-not-no_records
returns-then-not-no_records c =
    let both = refused_replied (adopt_records _ (formed (goal.at.returns-then-not-no_records c).Else-not-formed_in) (failed c.no_records.ensures c.if-not-no_records.true-raw)) c.from-then-not-no_records.ensures in
    record { reply = both.0; few = both.1 }

pub returns : goal.returns
returns c =
    let both = left_replied (adopted _ (formed (goal.at.returns c).Else-not-formed_in) (passed c.no_records.ensures c.if-not-no_records.false-raw)) refl in
    record { reply = both.0; few = both.1 }
