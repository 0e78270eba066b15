-- `replay::got::take_got` meets its contract. Assumes nothing.
use mathlib.Core.Path.{◌≡◌, sym, ap, ◌∙◌}
use native.Mathlib.Omega.{arith}
use Rattle.model.specs.Definitions.Codec.{encode_board}
use Rattle.model.specs.Definitions.Replay.{records_left, due}
use Rattle.steps.specs.Blocks.{board_of}
use Rattle.steps.specs.Selected.{stored_most}
use Rattle.replay.specs.Clauses.{first}
use Rattle.replay.specs.Got.{due_ready, took_idle, took_written}
use Rattle.replay.specs.Next.{place_read, since_read, ready_valid}
use Rattle.replay.proofs.got.take_got.Goals.{After-due_at, In-Some}
use Rattle.replay.proofs.got.take_got.Goals as goal

-- what is found is the first got that is due
found : (c : After-due_at) → c.due_at.result ≡ first (due (board_of c.args.pages c.args.block.now))
unfolding due records_left
found c =
    c.due_at.ensures
    ∙ rw (
      c.from-place.ensures,
      place_read c.args.pages c.args.block.now _ c.read_place.ensures,
      since_read c.args.pages c.args.block.now _ c.read_since.ensures,
    )

pub returns-in_default : goal.returns-in_default
returns-in_default c =
    let idle = took_idle (board_of c.args.pages c.args.block.now) (sym (found (goal.at.returns-in_default c).After-due_at) ∙ c.in_default.is) in
    (sym idle.0, sym c.requires.back ∙ ap encode_board (sym idle.1))

pub use_with_frame-requires : goal.use_with_frame-requires
use_with_frame-requires c =
    let h = sym (found (goal.at.use_with_frame-requires c).After-due_at) ∙ c.in-Some.is in
    let v = ready_valid (board_of c.args.pages c.args.block.now) c.in-Some.got c.requires.fields (due_ready (board_of c.args.pages c.args.block.now) c.in-Some.got h).0 in (
      c.requires,
      omega (arith, v.0, stored_most c.requires),
      omega (arith, c.from-page.ensures, c.page_of.ensures, v.1.page),
      rw c.got_frame.ensures v.1.size,
    )

pub returns : goal.returns
returns c =
    let h = sym (found (goal.at.returns c).After-due_at) ∙ c.in-Some.is in
    let w = took_written (board_of c.args.pages c.args.block.now) c.in-Some.got h _ _ (c.from-page.ensures ∙ c.page_of.ensures) c.got_frame.ensures in
    (w.0, c.use_with_frame.ensures ∙ ap encode_board w.1)
