-- `accesses::blocks::replay` meets its contract: the gots that are due, the bytes, the access, and whether a record is left. Assumes nothing.
use mathlib.Core.Path.{◌≡◌, sym, ap, ◌∙◌}
use mathlib.Core.Bool.{false}
use mathlib.Core.List.{map}
use Rattle.model.specs.Definitions.Bank.{Board}
use Rattle.model.specs.Definitions.Codec.{encode_board}
use Rattle.model.specs.Definitions.WellFormed.{FieldsOk}
use Rattle.model.specs.Definitions.Steps.{Access, cells_asked, cell_byte}
use Rattle.model.specs.Definitions.Replay.{took_due, replay_over, replayed}
use Rattle.model.proofs.Laws.Logic.{clash}
use Rattle.steps.specs.Blocks.{IsBlock, board_of}
use Rattle.steps.specs.BlockLaws.{board_written, block_written}
use Rattle.replay.specs.Got.{took_due_fields}
use Rattle.accesses.specs.Asks.{Stands, value_small}
use Rattle.accesses.specs.BlockReplay.{Repeats, taken_number, taken_since, taken_writable, repeated_fields}
use Rattle.accesses.proofs.Repeated.{to_live, to_last, to_going}
use Rattle.accesses.proofs.blocks.replay.Goals.{After-replay_access, After-take_due, Else-replay_over, Start}
use Rattle.accesses.proofs.blocks.replay.Goals as goal

taken_ok : (c : Start) → FieldsOk c.args.pages (took_due (board_of c.args.pages c.args.block.now))
taken_ok c = took_due_fields (board_of c.args.pages c.args.block.now) c.requires.0.fields

-- the bytes after the gots, and the board that they stand for
took_board : (c : After-take_due) → board_of c.args.pages c.take_due.new.block ≡ (took_due (board_of c.args.pages c.args.block.now))
took_board c = board_written (took_due (board_of c.args.pages c.args.block.now)) c.requires.0.few (took_due_fields (board_of c.args.pages c.args.block.now) c.requires.0.fields) c.take_due.ensures

took_block : (c : After-take_due) → IsBlock c.args.pages c.take_due.new.block
took_block c = block_written (took_due (board_of c.args.pages c.args.block.now)) c.requires.0.few (took_due_fields (board_of c.args.pages c.args.block.now) c.requires.0.fields) c.take_due.ensures

-- records are left behind them
left : (c : Else-replay_over) → replay_over (took_due (board_of c.args.pages c.args.block.now)) ≡ false
left c = sym (c.replay_over.ensures ∙ ap replay_over (board_written (took_due (board_of c.args.pages c.args.block.now)) c.requires.0.few (took_due_fields (board_of c.args.pages c.args.block.now) c.requires.0.fields) c.take_due.ensures)) ∙ c.if-replay_over.false

-- the access repeated, and the bytes after it
again_ok : (c : Else-replay_over) (a : Access) → Stands c.args.pages a c.args.ask → Repeats a (board_of c.args.pages c.args.block.now)
    → FieldsOk c.args.pages (replayed a (took_due (board_of c.args.pages c.args.block.now)))
again_ok c a s h = repeated_fields c.requires.0.fields a h c.args.ask s (value_small c.args.ask.write) (sym (c.replay_over.ensures ∙ ap replay_over (board_written (took_due (board_of c.args.pages c.args.block.now)) c.requires.0.few (took_due_fields (board_of c.args.pages c.args.block.now) c.requires.0.fields) c.take_due.ensures)) ∙ c.if-replay_over.false)

did : (c : After-replay_access) (a : Access) → Stands c.args.pages a c.args.ask
    → c.replay_access.new.block ≡ encode_board (replayed a (took_due (board_of c.args.pages c.args.block.now)))
did c a s =
    c.replay_access.ensures a s.writes ∙ ap (λ (x : Board). encode_board (replayed a x)) (board_written (took_due (board_of c.args.pages c.args.block.now)) c.requires.0.few (took_due_fields (board_of c.args.pages c.args.block.now) c.requires.0.fields) c.take_due.ensures)

pub replay_over-requires : goal.replay_over-requires
replay_over-requires c = took_block (goal.at.replay_over-requires c).After-take_due

pub returns-then-replay_over : goal.returns-then-replay_over
returns-then-replay_over c =
    let over = sym (c.replay_over.ensures ∙ ap replay_over (took_board (goal.at.returns-then-replay_over c).After-take_due)) ∙ c.if-replay_over.true in
    record {
      read = λ on. clash over on;
      did = λ a s h.
          let m = to_live a (board_of c.args.pages c.args.block.now) over in
          (m.0, c.take_due.ensures ∙ ap encode_board m.1);
    }

pub gather-requires : goal.gather-requires
gather-requires c =
    (took_block (goal.at.gather-requires c).After-take_due, c.requires.1.cells, c.requires.1.room)

pub replay_access-requires : goal.replay_access-requires
replay_access-requires c =
    let a = c.requires.2.0 in
    let h = c.requires.2.2 in
    let e = took_board (goal.at.replay_access-requires c).After-take_due in (
      took_block (goal.at.replay_access-requires c).After-take_due,
      rw e (taken_number c.requires.0.fields a h),
      rw e (taken_since c.requires.0.fields a h),
      c.requires.1.byte,
      rw e (taken_writable c.requires.0.fields a h c.args.ask c.requires.2.1 (value_small c.args.ask.write) (left (goal.at.replay_access-requires c).Else-replay_over)),
    )

pub replay_over-requires-2 : goal.replay_over-requires-2
replay_over-requires-2 c =
    let a = c.requires.2.0 in
    let s = c.requires.2.1 in
    block_written (replayed a (took_due (board_of c.args.pages c.args.block.now))) c.requires.0.few (again_ok (goal.at.replay_over-requires-2 c).Else-replay_over a s c.requires.2.2) (did (goal.at.replay_over-requires-2 c).After-replay_access a s)

pub returns-then-replay_over-2 : goal.returns-then-replay_over-2
returns-then-replay_over-2 c =
    record {
      read = λ t.
          c.gather.ensures
          ∙ ap (λ (x : Board). map (cell_byte x.working.frames) (cells_asked c.args.cells.now))
          (took_board (goal.at.returns-then-replay_over-2 c).After-take_due);
      did = λ a s h.
          let e = board_written (replayed a (took_due (board_of c.args.pages c.args.block.now))) c.requires.0.few (again_ok (goal.at.returns-then-replay_over-2 c).Else-replay_over a s h) (did (goal.at.returns-then-replay_over-2 c).After-replay_access a s) in
          let m = to_last a (board_of c.args.pages c.args.block.now) (left (goal.at.returns-then-replay_over-2 c).Else-replay_over) (sym (c.replay_over-2.ensures ∙ ap replay_over e) ∙ c.if-replay_over-2.true) in
          (m.0, did (goal.at.returns-then-replay_over-2 c).After-replay_access a s ∙ ap encode_board m.1);
    }

pub returns : goal.returns
returns c =
    record {
      read = λ t.
          c.gather.ensures
          ∙ ap (λ (x : Board). map (cell_byte x.working.frames) (cells_asked c.args.cells.now))
          (took_board (goal.at.returns c).After-take_due);
      did = λ a s h.
          let e = board_written (replayed a (took_due (board_of c.args.pages c.args.block.now))) c.requires.0.few (again_ok (goal.at.returns c).Else-replay_over a s h) (did (goal.at.returns c).After-replay_access a s) in
          let m = to_going a (board_of c.args.pages c.args.block.now) (left (goal.at.returns c).Else-replay_over) (sym (c.replay_over-2.ensures ∙ ap replay_over e) ∙ c.if-replay_over-2.false) in
          (m.0, did (goal.at.returns c).After-replay_access a s ∙ ap encode_board m.1);
    }
