-- `engine::access::write_cell` meets its contract: the access of a cell that is written and none that is read. Assumes nothing.
use mathlib.Core.Path.{refl, sym}
use Rattle.model.specs.Definitions.Steps.{Write, value_of}
use Rattle.engine.specs.Cells.{write_within, write_asked, write_range, few_pages, asks_of, plain_replied}
use Rattle.engine.proofs.access.write_cell.Goals as goal

pub named_pages-requires : goal.named_pages-requires
named_pages-requires c =
    (write_within c.args.board _ _ c.args.value _ c.requires.2 c.requires.1, few_pages c.requires.0 c.requires.1)

pub access_board-requires : goal.access_board-requires
access_board-requires c =
    let n = c.args in
    let members = c.named_pages.ensures in
    rw (c.from.ensures, c.from-2.ensures) (
      asks_of c.requires.0 c.requires.1 _ refl,
      write_range n.board _ _ n.value _ c.requires.2 c.requires.1 _,
      sym c.requires.0.state,
      (Write n.page n.offset n.value, write_asked n.board _ _ _ _ c.requires.2 c.requires.1 _ members),
    )

pub returns : goal.returns
unfolding value_of
returns c =
    let n = c.args in
    let members = c.named_pages.ensures in
    plain_replied c.requires.0
    (c.access_board.ensures (Write n.page n.offset n.value)
    (rw (c.from.ensures, c.from-2.ensures) (write_asked n.board _ _ _ _ c.requires.2 c.requires.1 _ members)))
    (λ fs. refl)
