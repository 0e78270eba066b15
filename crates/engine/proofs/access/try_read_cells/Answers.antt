-- `engine::access::try_read_cells` meets its contract: each return is one way through the call. Assumes nothing.
use mathlib.Core.Path.{◌≡◌, refl, sym, ap, ◌∙◌}
use Prim.Native.Nat.{ℕ, ◌-◌, ◌≤◌}
use mathlib.Core.Bool.{true, false}
use native.Mathlib.Omega.{arith}
use lib.ListN.{length, take, replicate}
use lib.Seq.{length-take-le}
use Rattle.types.specs.declared.Answer.TheVariants.{OutOfRange, WrongCells}
use Rattle.model.specs.Definitions.Answers.{code}
use Rattle.model.specs.Definitions.Parts.{every}
use Rattle.model.specs.Definitions.Layout.{most_cells}
use Rattle.model.specs.Definitions.Codec.{decode}
use Rattle.model.specs.Definitions.Steps.{ReadCells, cells_asked}
use Rattle.model.specs.Definitions.Calls.{Accessing, cell_in_range, access_in_range, wrong_cells}
use Rattle.model.specs.Laws.Codes.Statement.{board_named}
use Rattle.validity.specs.Search.{failed, passed}
use Rattle.checks.specs.Findings.{OnBoard, board_says}
use Rattle.checks.specs.Refusals.{refusal_answer}
use Rattle.std.proofs.lemmas.Result.{err_from_is_err_and}
use Rattle.engine.specs.Replies.{listed, refused_replied, found_refused}
use Rattle.engine.specs.Admissions.{range_refused, cells_refused, refusal_code}
use Rattle.engine.specs.Cells.{cells_range, right_cells, buffer_kept}
use Rattle.engine.proofs.access.try_read_cells.Goals.{After-cells_fit, Else-not-cells_fit, Else-wrong_cells, In_ok-state}
use Rattle.engine.proofs.access.try_read_cells.Goals as goal

-- the board that was found, with its state
found : (c : In_ok-state)
    → OnBoard c.args.board c.args.bank.now
    c.in_ok-state.state
found c = board_says _ _ c.enter.ensures c.in_ok-state.was

-- what the test of code 2 says
range : (c : After-cells_fit)
    → access_in_range c.args.board (let n = c.args in
    ReadCells n.cells.now (length n.out.now))
    (decode c.args.bank.now)
    ≡ c.cells_fit.result
range c =
    let n = c.args in
    cells_range n.board n.cells.now (length n.out.now) (decode n.bank.now) (listed (board_says _ _ c.enter.ensures c.in_ok-state.was))
    ∙ (sym (ap (λ (p : ℕ). every (cell_in_range p) (cells_asked n.cells.now)) c.page_count-pages.ensures) ∙ sym c.cells_fit.ensures)

fits : (c : Else-not-cells_fit)
    → access_in_range c.args.board (let n = c.args in
    ReadCells n.cells.now (length n.out.now))
    (decode c.args.bank.now)
    ≡ true
fits c =
    let n = c.args in
    cells_range n.board n.cells.now (length n.out.now) (decode n.bank.now) (listed (board_says _ _ c.enter.ensures c.in_ok-state.was))
    ∙ (sym (ap (λ (p : ℕ). every (cell_in_range p) (cells_asked n.cells.now)) c.page_count-pages.ensures) ∙ sym c.cells_fit.ensures)
    ∙ passed refl c.if-not-cells_fit.false-raw

-- .. and that of code 10
right : (c : Else-wrong_cells) → wrong_cells (let n = c.args in
    ReadCells n.cells.now (length n.out.now)) ≡ false
right c = sym c.wrong_cells.ensures ∙ c.if-wrong_cells.false

few : (c : Else-wrong_cells)
    → length c.args.out.now ≤ most_cells
few c =
    let n = c.args in
    (right_cells n.cells.now (length n.out.now) (sym c.wrong_cells.ensures ∙ c.if-wrong_cells.false)).1

-- of its own buffer so many bytes are lent
part_taken : (n : ℕ) → n ≤ most_cells → n ≡ length (take {A = ℕ} (n - 0) (replicate {A = ℕ} 32 0))
part_taken n h = let e : n - 0 ≡ n = omega arith in rw e (sym (length-take-le n (replicate {A = ℕ} 32 0) (omega (arith, h))))

pub page_count-pages-requires : goal.page_count-pages-requires
page_count-pages-requires c = (found c).whole

pub returns-then-not-cells_fit : goal.returns-then-not-cells_fit
unfolding code
returns-then-not-cells_fit c =
    let e = range_refused (found (goal.at.returns-then-not-cells_fit c).In_ok-state) (let n = c.args in
    ReadCells n.cells.now (length n.out.now)) (range (goal.at.returns-then-not-cells_fit c).After-cells_fit ∙ failed refl c.if-not-cells_fit.true-raw) in
    record { reply = (refused_replied e refl).0; given = buffer_kept OutOfRange _ _ e (λ z. absurd (omega arith)) }

pub returns-then-wrong_cells : goal.returns-then-wrong_cells
unfolding code
returns-then-wrong_cells c =
    let e =
    cells_refused (found (goal.at.returns-then-wrong_cells c).In_ok-state) (let n = c.args in
    ReadCells n.cells.now (length n.out.now)) (fits (goal.at.returns-then-wrong_cells c).Else-not-cells_fit)
    (sym c.wrong_cells.ensures ∙ c.if-wrong_cells.true) in
    record { reply = (refused_replied e refl).0; given = buffer_kept WrongCells _ _ e (λ z. absurd (omega arith)) }

pub slice_bounds-bytes-end : goal.slice_bounds-bytes-end
slice_bounds-bytes-end c = few (goal.at.slice_bounds-bytes-end c).Else-wrong_cells

pub show_cells-requires : goal.show_cells-requires
show_cells-requires c = (
  found (goal.at.show_cells-requires c).In_ok-state,
  c.page_count-pages.ensures,
  part_taken _ (few (goal.at.show_cells-requires c).Else-wrong_cells),
  fits (goal.at.show_cells-requires c).Else-not-cells_fit,
  right (goal.at.show_cells-requires c).Else-wrong_cells,
)

pub returns : goal.returns
returns c = record { reply = c.show_cells.ensures.reply; given = c.show_cells.ensures.given }

pub returns-in_err-state : goal.returns-in_err-state
unfolding board_named
returns-in_err-state c =
    let n = c.args in
    let p = err_from_is_err_and c.from_residual.result c.from_residual.ensures.1 in
    let e = found_refused (Accessing n.board (ReadCells n.cells.now (length n.out.now))) n.bank.now refl c.enter.ensures c.in_err-state.was in
    record {
      reply = rw (p.1, p.2) (refused_replied e refl).0;
      given = buffer_kept (refusal_answer c.in_err-state.field-0.0) n.bank.now n.out.now e (refusal_code c.in_err-state.field-0.0);
    }
