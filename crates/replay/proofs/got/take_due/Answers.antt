-- `replay::got::take_due` meets its contract. The invariant: what is left to take gives what the whole gives. Assumes nothing.
use mathlib.Core.Path.{sym, ap, ◌∙◌}
use Rattle.model.specs.Definitions.Codec.{encode_board}
use Rattle.model.specs.Definitions.Replay.{took_due}
use Rattle.steps.specs.BlockLaws.{board_written, block_written}
use Rattle.steps.specs.Blocks.{board_of}
use Rattle.replay.specs.Got.{took_end, took_more}
use Rattle.replay.proofs.got.take_due.Goals as goal

pub loop-smaller : goal.loop-smaller
loop-smaller c =
    let b = c.loop.invariant.0 in
    let u = took_more (board_of c.args.pages
    c.loop.block) b.fields (sym c.take_got.ensures.0 ∙ c.loop-test.true) in
    rw (board_written _ b.few u.fields c.take_got.ensures.1) u.fewer

pub loop-preserved : goal.loop-preserved
loop-preserved c =
    let b = c.loop.invariant.0 in
    let u = took_more (board_of c.args.pages
    c.loop.block) b.fields (sym c.take_got.ensures.0 ∙ c.loop-test.true) in
    let e = c.take_got.ensures.1 in (
      block_written _ b.few u.fields e,
      ap took_due (board_written _ b.few u.fields e) ∙ sym u.same
          ∙ c.loop.invariant.1,
    )

pub returns : goal.returns
returns c =
    let n = took_end (board_of c.args.pages
    c.loop.block) (sym c.take_got.ensures.0 ∙ c.loop-test.false) in
    c.take_got.ensures.1 ∙ ap encode_board (n.1 ∙ sym n.0 ∙ c.loop.invariant.1)
