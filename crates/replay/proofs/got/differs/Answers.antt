-- `replay::got::differs` meets its contract. The invariant: for each access that flag and set stand for, the walk stands at the place. Assumes nothing.
use mathlib.Core.Path.{◌≡◌, sym, ◌∙◌}
use native.Mathlib.Omega.{arith}
use lib.ListN.{length}
use Rattle.model.specs.Definitions.Layout.{most_pages}
use Rattle.model.specs.Definitions.WellFormed.{RecordOk}
use Rattle.steps.specs.Blocks.{board_of}
use Rattle.steps.specs.Selected.{stored_count_lem}
use Rattle.replay.specs.Differs.{walk_start, walk_over, walk_none, walk_other, walk_next}
use Rattle.replay.specs.Got.{first_some}
use Rattle.replay.specs.Next.{place_read, since_read, valid_at}
use Rattle.replay.proofs.got.differs.Goals.{In-Some, At-loop-place}
use Rattle.replay.proofs.got.differs.Goals as goal

counted : (c : At-loop-place) → c.from-stored.result ≡ length ((board_of c.args.pages c.args.block.now).stable.selected.log)
counted c = c.from-stored.ensures ∙ c.read_stored_count.ensures ∙ stored_count_lem c.requires

-- a got that is due is valid
found : (c : In-Some) → RecordOk c.args.pages c.in-Some.got
found c =
    (valid_at ((board_of c.args.pages c.args.block.now).stable.selected.log) c.loop-place.place c.loop-place.since _ c.requires.fields.selected.log.records
    (first_some _ _ _ (sym c.in-Some.ensures)).ready).1

pub loop-place-init : goal.loop-place-init
loop-place-init c =
    let args = c.args in
    let pre = c.requires in (
      omega (arith, c.lacking_pages-lacking.type_inv),
      λ a t.
          rw (
            c.from-place.ensures,
            place_read args.pages args.block.now _ c.read_place.ensures,
            since_read args.pages args.block.now _ c.read_since-since.ensures,
          )
          (walk_start {x = board_of args.pages args.block.now} _ pre.fields.working.frames.count (c.lacking_pages-lacking.ensures a t)),
    )

pub returns-in_default : goal.returns-in_default
returns-in_default c =
    λ a t.
    walk_none (c.loop-place.invariant.1 a t) (omega (arith, counted (goal.at.returns-in_default c).At-loop-place)) (sym c.in_default.ensures)
    most_pages c.loop-place.invariant.0 t.below

pub needs_got-requires : goal.needs_got-requires
needs_got-requires c =
    omega (arith, (found (goal.at.needs_got-requires c).In-Some).page, c.requires.few)

pub returns-then-not-needs_got : goal.returns-then-not-needs_got
returns-then-not-needs_got c =
    λ a t.
    walk_other (c.loop-place.invariant.1 a t) _ (sym c.in-Some.ensures)
    (rw t.takes (sym c.needs_got.ensures ∙ c.if-not-needs_got.true))

pub without_member-lacking-requires : goal.without_member-lacking-requires
without_member-lacking-requires c =
    omega (arith, c.from-page.ensures, c.page_of.ensures, (found (goal.at.without_member-lacking-requires c).In-Some).page, c.requires.few)

pub loop-place-preserved : goal.loop-place-preserved
loop-place-preserved c =
    let page = c.from-page.ensures ∙ c.page_of.ensures in (
      omega (arith, c.without_member-lacking.type_inv),
      λ a t.
          rw (c.without_member-lacking.ensures, page)
          (walk_next (c.loop-place.invariant.1 a t) _ (sym c.in-Some.ensures)
          (rw t.takes (sym c.needs_got.ensures ∙ c.if-not-needs_got.false)) (found (goal.at.loop-place-preserved c).In-Some).page),
    )

pub returns : goal.returns
returns c = λ a t. walk_over (c.loop-place.invariant.1 a t) (omega (arith, counted (goal.at.returns c).At-loop-place))
