-- `replay::used::use_up` meets its contract. The invariant: what is left to use up gives what the whole gives. Assumes nothing.
use mathlib.Core.Path.{sym, ap, ◌∙◌}
use Rattle.model.specs.Definitions.Codec.{encode_board}
use Rattle.model.specs.Definitions.Replay.{used_up}
use Rattle.steps.specs.BlockLaws.{board_written, block_written}
use Rattle.steps.specs.Blocks.{board_of}
use Rattle.replay.specs.Used.{used_up_idle, used_next_used}
use Rattle.replay.proofs.used.use_up.Goals as goal

pub loop-smaller : goal.loop-smaller
loop-smaller c =
    let b = c.loop.invariant.0 in
    let u = used_next_used (board_of c.args.pages
    c.loop.block) b.fields (sym c.use_next.ensures.0 ∙ c.loop-test.true) in
    rw (board_written _ b.few u.fields c.use_next.ensures.1) u.fewer

pub loop-preserved : goal.loop-preserved
loop-preserved c =
    let b = c.loop.invariant.0 in
    let u = used_next_used (board_of c.args.pages
    c.loop.block) b.fields (sym c.use_next.ensures.0 ∙ c.loop-test.true) in
    let e = c.use_next.ensures.1 in (
      block_written _ b.few u.fields e,
      ap used_up (board_written _ b.few u.fields e) ∙ sym u.same
          ∙ c.loop.invariant.1,
    )

pub returns : goal.returns
returns c =
    let n = used_up_idle (board_of c.args.pages
    c.loop.block) (sym c.use_next.ensures.0 ∙ c.loop-test.false) in
    c.use_next.ensures.1 ∙ ap encode_board (n.1 ∙ sym n.0 ∙ c.loop.invariant.1)
