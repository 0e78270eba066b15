-- Each chunk is a cell. Assumes nothing.
use Rattle.std.proofs.Common.{◌≡◌, rules, ◌∙◌, arith}
use Rattle.fields.specs.Cells.{named_none, named_in, named_next, named_all}
use Rattle.fields.proofs.cells.named_pages.Goals as goal

pub with_member-named-requires : goal.with_member-named-requires
with_member-named-requires c =
    let next = c.in-Some.ensures.steps in
    omega (arith, named_in c.loop-cell.invariant.named _ _ next.1.0 (next.1.1 ∙ c.loop-cell.invariant.pairs), c.requires.1, c.from.ensures)

pub loop-cell-init : goal.loop-cell-init
loop-cell-init c =
    let size : c.into_iter-cell-iterator.result.size ≡ 2 = search rules in
    record {
      can_next = omega arith;
      is_finite = tt;
      pairs = size;
      named = rw (c.into_iter-cell-iterator.ensures.into_iter_gives, c.chunks_exact-cell-items.ensures.rest) (named_none c.requires.0);
    }

pub loop-cell-preserved : goal.loop-cell-preserved
loop-cell-preserved c =
    let next = c.in-Some.ensures.steps in
    record {
      can_next = search rules;
      is_finite = tt;
      pairs = next.0 ∙ c.loop-cell.invariant.pairs;
      named = rw (c.with_member-named.ensures, c.from.ensures) (named_next c.loop-cell.invariant.named _ _ next.1.0 (next.1.1 ∙ c.loop-cell.invariant.pairs));
    }

pub returns : goal.returns
returns c = named_all c.loop-cell.invariant.named (omega (arith, c.in-None.ensures.steps, c.loop-cell.invariant.pairs))
