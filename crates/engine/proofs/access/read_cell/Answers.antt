-- `engine::access::read_cell` meets its contract: the access of one cell, whose byte is the value. Assumes nothing.
use mathlib.Core.Path.{refl, sym}
use Rattle.model.specs.Definitions.Steps.{Read}
use Rattle.model.specs.Definitions.Calls.{wrong_cells}
use Rattle.engine.specs.Cells.{one_cell, reads_within, read_asked, read_range, few_pages, asks_of, value_replied, refusal_replied, byte_read}
use Rattle.std.proofs.lemmas.Result.{err_from_is_err_and}
use Rattle.engine.proofs.access.read_cell.Goals as goal

pub named_pages-requires : goal.named_pages-requires
named_pages-requires c =
    (reads_within (one_cell _ _) c.args.board _ c.requires.2 c.requires.1, few_pages c.requires.0 c.requires.1)

pub access_board-requires : goal.access_board-requires
unfolding wrong_cells
access_board-requires c =
    let n = c.args in
    let members = c.named_pages.ensures in (
      asks_of c.requires.0 c.requires.1 _ refl,
      read_range (one_cell _ _) n.board _ c.requires.2 c.requires.1 _ 1 refl,
      sym c.requires.0.state,
      (Read n.page n.offset, read_asked (one_cell _ _) n.board _ c.requires.2 c.requires.1 refl _ members),
    )

pub returns-in_err-outcome : goal.returns-in_err-outcome
unfolding wrong_cells
returns-in_err-outcome c =
    let n = c.args in
    let p = err_from_is_err_and c.from_residual.result c.from_residual.ensures.1 in
    let answered = rw c.in_err-outcome.was at (c.access_board.ensures (Read n.page n.offset)
    (read_asked (one_cell _ _) n.board _ c.requires.2 c.requires.1 refl _ c.named_pages.ensures)) in
    rw (p.1, p.2) (refusal_replied c.requires.0 _ answered (byte_read answered))

pub returns : goal.returns
unfolding wrong_cells
returns c =
    let n = c.args in
    let answered = rw c.in_ok-outcome.was at (c.access_board.ensures (Read n.page n.offset)
    (read_asked (one_cell _ _) n.board _ c.requires.2 c.requires.1 refl _ c.named_pages.ensures)) in
    rw c.with_value.ensures (value_replied c.requires.0 answered _ (byte_read answered))
