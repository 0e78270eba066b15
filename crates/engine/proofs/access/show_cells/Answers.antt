-- `engine::access::show_cells` meets its contract: the bytes of a done access go on into the caller's buffer. Assumes nothing.
use mathlib.Core.Path.{refl, sym}
use native.Mathlib.Omega.{arith}
use lib.ListN.{length}
use Rattle.model.specs.Definitions.Steps.{ReadCells, value_of}
use Rattle.engine.specs.Cells.{all_cells, reads_within, read_asked, read_range, right_cells, few_pages, asks_of, plain_replied, buffer_left, when_refused}
use Rattle.std.proofs.lemmas.Result.{err_from_is_err_and}
use Rattle.engine.proofs.access.show_cells.Goals as goal

pub named_pages-requires : goal.named_pages-requires
named_pages-requires c =
    let n = c.args in
    (reads_within (all_cells _ (length n.out.now)) n.board _ c.requires.3 c.requires.1, few_pages c.requires.0 c.requires.1)

pub access_board-requires : goal.access_board-requires
access_board-requires c =
    let n = c.args in
    let room = (right_cells n.cells.now (length n.out.now) c.requires.4).0 in (
      asks_of c.requires.0 c.requires.1 _ refl,
      read_range (all_cells _ (length n.out.now)) n.board _ c.requires.3 c.requires.1 _ _ (omega (arith, room, c.requires.2)),
      sym c.requires.0.state,
      (
        ReadCells n.cells.now (length n.out.now),
        read_asked (all_cells _ (length n.out.now)) n.board _ c.requires.3 c.requires.1 c.requires.4 _
            c.named_pages.ensures,
      ),
    )

pub returns-in_err-outcome : goal.returns-in_err-outcome
unfolding value_of
returns-in_err-outcome c =
    let n = c.args in
    let p = err_from_is_err_and c.from_residual.result c.from_residual.ensures.1 in
    let answered = rw c.in_err-outcome.was at (c.access_board.ensures (ReadCells n.cells.now (length n.out.now))
    (read_asked (all_cells _ (length n.out.now)) n.board _ c.requires.3 c.requires.1 c.requires.4 _ c.named_pages.ensures)) in
    record {
      reply = rw (p.1, p.2) (plain_replied c.requires.0 answered (λ fs. refl));
      given = buffer_left c.requires.0 n.out.now answered (when_refused c.in_err-outcome.field-0.0 _ _);
    }

pub returns : goal.returns
unfolding value_of
returns c =
    let n = c.args in
    let answered = rw c.in_ok-outcome.was at (c.access_board.ensures (ReadCells n.cells.now (length n.out.now))
    (read_asked (all_cells _ (length n.out.now)) n.board _ c.requires.3 c.requires.1 c.requires.4 _ c.named_pages.ensures)) in
    record { reply = plain_replied c.requires.0 answered (λ fs. refl); given = buffer_left c.requires.0 n.out.now answered c.give.ensures }
