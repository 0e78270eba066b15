-- `replay::used::use_next` meets its contract: by the kind of the record that is ready. Assumes nothing.
use mathlib.Core.Path.{◌≡◌, sym, ap, ◌∙◌}
use Prim.Native.Nat.{◌<◌}
use mathlib.Core.Bool.{true, false}
use mathlib.Core.List.{List}
use native.Mathlib.Omega.{arith}
use lib.ListN.{set}
use Rattle.types.specs.declared.Frame.{Frame}
use Rattle.model.specs.Definitions.Layout.{slot_count}
use Rattle.model.specs.Definitions.Bank.{Board, on_working}
use Rattle.model.specs.Definitions.Codec.{page_of, encode_board}
use Rattle.model.specs.Definitions.WellFormed.{RecordOk, is_got}
use Rattle.model.proofs.Laws.Valid.{frame_ok_empty}
use Rattle.steps.specs.Blocks.{board_of}
use Rattle.steps.specs.Selected.{stored_most}
use Rattle.replay.specs.Clauses.{frames_after}
use Rattle.replay.specs.Next.{ready_valid}
use Rattle.replay.specs.Used.{next_none, next_got, next_leaves}
use Rattle.replay.proofs.used.use_next.Goals.{In-Some}
use Rattle.replay.proofs.used.use_next.Goals as goal

-- the record that is ready lies in the log, and is valid
found : (c : In-Some) → ((board_of c.args.pages c.args.block.now).working.place < slot_count) × RecordOk c.args.pages c.in-Some.next
found c =
    let v = ready_valid (board_of c.args.pages c.args.block.now) c.in-Some.next c.requires.fields (sym c.in-Some.ensures) in
    (omega (arith, v.0, stored_most c.requires), v.1)

pub returns-in_default : goal.returns-in_default
returns-in_default c =
    let n = next_none (board_of c.args.pages c.args.block.now) (sym c.in_default.ensures) in
    (sym n.0, sym c.requires.back ∙ ap encode_board (sym n.1))

pub use_record-requires : goal.use_record-requires
use_record-requires c = (c.requires, (found (goal.at.use_record-requires c).In-Some).0)

pub use_with_frame-requires : goal.use_with_frame-requires
unfolding page_of
use_with_frame-requires c =
    let v = found (goal.at.use_with_frame-requires c).In-Some in
    let p : page_of c.in-Some.next.kind ≡ c.in-Dropped.page = rw c.in-Dropped.is in
    (c.requires, v.0, omega (arith, c.from.ensures, v.1.page), rw c.empty_frame.ensures frame_ok_empty.size)

pub returns-in-Got : goal.returns-in-Got
unfolding is_got
returns-in-Got c =
    let g : is_got c.in-Some.next.kind ≡ true = rw c.in-Got.is in
    let n = next_got (board_of c.args.pages c.args.block.now) c.in-Some.next (sym c.in-Some.ensures) g in
    (sym n.0, sym c.requires.back ∙ ap encode_board (sym n.1))

pub returns-in-Shown : goal.returns-in-Shown
unfolding is_got frames_after on_working
returns-in-Shown c =
    let x : Board = board_of c.args.pages c.args.block.now in
    let g : is_got c.in-Some.next.kind ≡ false = rw c.in-Shown.is in
    let f : frames_after c.in-Some.next.kind x.working.frames ≡ x.working.frames = rw c.in-Shown.is in
    let n = next_leaves x c.in-Some.next x.working.frames (sym c.in-Some.ensures) g f in
    (n.0, c.use_record.ensures ∙ ap encode_board n.1)

pub returns-in-Dropped : goal.returns-in-Dropped
unfolding is_got frames_after on_working
returns-in-Dropped c =
    let x : Board = board_of c.args.pages c.args.block.now in
    let fs : List Frame = set x.working.frames c.from.result c.empty_frame.result in
    let g : is_got c.in-Some.next.kind ≡ false = rw c.in-Dropped.is in
    let f : frames_after c.in-Some.next.kind x.working.frames ≡ fs = rw (c.in-Dropped.is, c.from.ensures, c.empty_frame.ensures) in
    let n = next_leaves x c.in-Some.next fs (sym c.in-Some.ensures) g f in
    (n.0, c.use_with_frame.ensures ∙ ap encode_board n.1)
