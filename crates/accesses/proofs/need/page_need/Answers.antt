-- `accesses::need::page_need` meets its contract: a fetch, an own write, another page's, or none. Assumes nothing.
use mathlib.Core.Path.{sym, ◌∙◌}
use Rattle.copies.specs.Directory.{entry_at_lem, copies_told, of_owner}
use Rattle.accesses.specs.Needs.{need_fetch, need_own_write, need_other_page, need_nothing}
use Rattle.accesses.proofs.need.page_need.Goals as goal

pub giver-giver-requires : goal.giver-giver-requires
giver-giver-requires c = let pre = c.requires in (of_owner pre.0 pre.1 _ pre.2, pre.2)

pub read_copies-copies-requires : goal.read_copies-copies-requires
read_copies-copies-requires c = let pre = c.requires in entry_at_lem pre.0 _ pre.2

pub returns-then-has-clause-need : goal.returns-then-has-clause-need
returns-then-has-clause-need c =
    let in_set = sym c.has.ensures ∙ c.if-has.true in
    let writes = c.is_some-writes.ensures in
    λ a l.
    rw writes at (c.fetch_need.ensures.need _ _ (c.read_copies-copies.ensures ∙ copies_told c.requires.0 _ c.requires.2))
    ∙ need_fetch l c.args.board c.args.page in_set _ (rw writes at c.giver-giver.ensures)

pub read_copies-requires : goal.read_copies-requires
read_copies-requires c = let pre = c.requires in entry_at_lem pre.0 _ pre.2

pub returns-in-Some-clause-need : goal.returns-in-Some-clause-need
returns-in-Some-clause-need c =
    let out = sym c.has.ensures ∙ c.if-has.false in
    λ a l.
    c.holder_need.ensures.need
    ∙ need_own_write l c.args.board c.args.page out c.in-Some.w c.in-Some.is (sym c.if-w-page.true) _
    (c.read_copies.ensures ∙ copies_told c.requires.0 _ c.requires.2)

pub returns-in_default-clause-need : goal.returns-in_default-clause-need
returns-in_default-clause-need c =
    let out = sym c.has.ensures ∙ c.if-has.false in
    λ a l. need_other_page l c.args.board c.args.page out c.in-Some.w c.in-Some.is (λ e. c.if-w-page.false (sym e))

pub returns-in_default-2-clause-need : goal.returns-in_default-2-clause-need
returns-in_default-2-clause-need c =
    let out = sym c.has.ensures ∙ c.if-has.false in
    λ a l. need_nothing l c.args.board c.args.page out c.in_default.is
