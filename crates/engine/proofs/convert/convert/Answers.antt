-- `engine::convert::convert` meets its contract: each return is one way through the call. Assumes nothing.
use mathlib.Core.Path.{◌≡◌, sym, ◌∙◌}
use native.Mathlib.Omega.{arith}
use mathlib.Core.Bool.{true, false}
use lib.ListN.{length}
use lib.Dec.{eqb}
use borrow.Author.Tests.{eq-eqb, ne_eqb}
use Rattle.model.specs.Definitions.Older.{older, older_well_formed, older_bank, no_records}
use Rattle.model.specs.Definitions.Parts.{byte_at}
use Rattle.model.specs.Definitions.Layout.{boards_at, pages_at, bank_size}
use Rattle.validity.specs.Search.{failed, passed}
use Rattle.engine.specs.Replies.{refused_replied, done_replied}
use Rattle.engine.specs.Converting.{convert_malformed, convert_length, convert_records, convert_done, formed_head, head_inside}
use borrow.Author.Rules.{rules}
use Rattle.model.proofs.Laws.CodecBankBack.{bytes_ok}
use Rattle.engine.proofs.convert.convert.Goals.{After-from-pages, Else-new-bank_size, Else-not-formed_in, Else-not-no_records}
use Rattle.engine.proofs.convert.convert.Goals as goal

-- what the test of the old bank says, once it passed, and then the numbers that were read
formed : (c : Else-not-formed_in) → older_well_formed c.args.old.now ≡ true
formed c = passed c.formed_in.ensures c.if-not-formed_in.false-raw

boards : (c : After-from-pages) → c.from-boards.result ≡ byte_at c.args.old.now boards_at
unfolding byte_at
boards c = c.from-boards.ensures

pages : (c : After-from-pages) → c.from-pages.result ≡ byte_at c.args.old.now pages_at
unfolding byte_at
pages c = c.from-pages.ensures

-- the target is as long as it should be, and then no record was found
as_long : (c : Else-new-bank_size)
    → eqb (length c.args.new.now)
    (bank_size c.from-boards.result c.from-pages.result) ≡ true
as_long c = eq-eqb _ _ (c.if-new-bank_size.false ∙ c.bank_size.ensures)

none : (c : Else-not-no_records) → no_records (older_bank c.args.old.now) ≡ true
none c = passed c.no_records.ensures c.if-not-no_records.false-raw

pub returns-then-not-formed_in : goal.returns-then-not-formed_in
returns-then-not-formed_in c =
    let both = refused_replied (convert_malformed _ _ (failed c.formed_in.ensures c.if-not-formed_in.true-raw)) c.from.ensures in
    record { reply = both.0; few = both.1 }

pub bounds-old-2 : goal.bounds-old-2
bounds-old-2 c = omega (arith, head_inside older false _ (formed (goal.at.bounds-old-2 c).Else-not-formed_in))

pub bounds-old-3 : goal.bounds-old-3
bounds-old-3 c = omega (arith, head_inside older false _ (formed (goal.at.bounds-old-3 c).Else-not-formed_in))

pub bank_size-requires : goal.bank_size-requires
bank_size-requires c =
    let head = (bytes_ok c.args.old.now (formed (goal.at.bank_size-requires c).Else-not-formed_in)).head in
    (rw (pages (goal.at.bank_size-requires c).After-from-pages) head.pages, rw (boards (goal.at.bank_size-requires c).After-from-pages) head.boards)

pub returns-then-new-bank_size : goal.returns-then-new-bank_size
returns-then-new-bank_size c =
    let both = refused_replied (convert_length _ _ (boards (goal.at.returns-then-new-bank_size c).After-from-pages) (pages (goal.at.returns-then-new-bank_size c).After-from-pages) (formed (goal.at.returns-then-new-bank_size c).Else-not-formed_in)
    (ne_eqb _ _ (λ e. c.if-new-bank_size.true (e ∙ sym c.bank_size.ensures))))
    c.from-then-new-bank_size.ensures in
    record { reply = both.0; few = both.1 }

pub no_records-requires : goal.no_records-requires
no_records-requires c = (search rules, formed_head older _ (formed (goal.at.no_records-requires c).Else-not-formed_in))

pub returns-then-not-no_records : goal.returns-then-not-no_records
returns-then-not-no_records c =
    let both = refused_replied (convert_records _ _ (boards (goal.at.returns-then-not-no_records c).After-from-pages) (pages (goal.at.returns-then-not-no_records c).After-from-pages) (formed (goal.at.returns-then-not-no_records c).Else-not-formed_in) (as_long (goal.at.returns-then-not-no_records c).Else-new-bank_size)
    (failed c.no_records.ensures c.if-not-no_records.true-raw))
    c.from-then-not-no_records.ensures in
    record { reply = both.0; few = both.1 }

pub write_converted-requires : goal.write_converted-requires
write_converted-requires c = (
  record {
    bank = record {
      formed = formed (goal.at.write_converted-requires c).Else-not-formed_in;
      boards = boards (goal.at.write_converted-requires c).After-from-pages;
      pages = pages (goal.at.write_converted-requires c).After-from-pages;
    };
    empty = none (goal.at.write_converted-requires c).Else-not-no_records;
  },
  c.if-new-bank_size.false ∙ c.bank_size.ensures,
)

pub returns : goal.returns
returns c =
    let both = done_replied _ (convert_done _ _ (boards (goal.at.returns c).After-from-pages) (pages (goal.at.returns c).After-from-pages) (formed (goal.at.returns c).Else-not-formed_in) (as_long (goal.at.returns c).Else-new-bank_size) (none (goal.at.returns c).Else-not-no_records)) c.write_converted.ensures in
    record { reply = both.0; few = both.1 }
