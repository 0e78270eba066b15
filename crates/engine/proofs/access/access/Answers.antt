-- `engine::access::access` meets its contract: each return is one way through the call. Assumes nothing.
use mathlib.Core.Path.{◌≡◌, refl, sym, ap, ◌∙◌}
use mathlib.Core.Bool.{true}
use native.Mathlib.Omega.{arith}
use Rattle.std.proofs.lemmas.Result.{err_from_is_err_and}
use Rattle.model.specs.Definitions.Codec.{decode}
use Rattle.model.specs.Definitions.Calls.{Accessing, access_in_range}
use Rattle.model.specs.Laws.Codes.Statement.{board_named}
use Rattle.validity.specs.Search.{failed, passed}
use Rattle.checks.specs.Findings.{OnBoard, board_says}
use Rattle.checks.specs.Admission.{numbers_fit}
use Rattle.engine.specs.Replies.{refused_replied, found_replied}
use Rattle.engine.specs.Admissions.{read_or_write, range_refused, page_fits, offset_fits, numbers}
use Rattle.engine.specs.Cells.{few_pages}
use Rattle.engine.proofs.access.access.Goals.{After-numbers_fit, Else-not-numbers_fit, In_ok-state}
use Rattle.engine.proofs.access.access.Goals as goal

-- the board that was found, with its state
found : (c : In_ok-state) → OnBoard c.args.board c.args.bank.now c.in_ok-state.state
found c = board_says _ _ c.enter.ensures c.in_ok-state.was

-- what the test of the numbers says
range : (c : After-numbers_fit)
    → access_in_range c.args.board (read_or_write c.args.value c.args.page c.args.offset) (decode c.args.bank.now) ≡ c.numbers_fit.result
range c =
    let n = c.args in
    numbers n.value n.page n.offset 0 (found (goal.at.After-numbers_fit c).In_ok-state) (λ none. omega arith) c.page_count-pages.ensures
    ∙ ap (numbers_fit c.page_count-pages.result n.page n.offset) (sym c.unwrap_or.ensures)
    ∙ sym c.numbers_fit.ensures

-- the numbers are in range, and so fit in bytes
fits : (c : Else-not-numbers_fit) → numbers_fit c.page_count-pages.result c.args.page c.args.offset c.unwrap_or.result ≡ true
fits c = passed c.numbers_fit.ensures c.if-not-numbers_fit.false-raw

pub returns-in_err-state : goal.returns-in_err-state
unfolding board_named
returns-in_err-state c =
    let p = err_from_is_err_and c.from_residual.result c.from_residual.ensures.1 in
    rw (p.1, p.2) (found_replied (Accessing _ (read_or_write _ _ _)) _ refl c.enter.ensures c.in_err-state.was refl).0

pub page_count-pages-requires : goal.page_count-pages-requires
page_count-pages-requires c = (found c).whole

pub returns-then-not-numbers_fit : goal.returns-then-not-numbers_fit
returns-then-not-numbers_fit c =
    let n = c.args in
    let before = (goal.at.returns-then-not-numbers_fit c).After-numbers_fit in
    (refused_replied
    (range_refused (found (goal.at.returns-then-not-numbers_fit c).In_ok-state) (read_or_write n.value n.page n.offset)
    (range before ∙ failed refl c.if-not-numbers_fit.true-raw)) refl).0

pub overflow_cast-p : goal.overflow_cast-p
overflow_cast-p c =
    let n = c.args in
    omega (
      arith,
      page_fits n.page n.offset _ _ (fits (goal.at.overflow_cast-p c).Else-not-numbers_fit),
      few_pages (found (goal.at.overflow_cast-p c).In_ok-state) c.page_count-pages.ensures,
    )

pub overflow_cast-o : goal.overflow_cast-o
overflow_cast-o c = let n = c.args in omega (arith, offset_fits n.page n.offset _ _ (fits (goal.at.overflow_cast-o c).Else-not-numbers_fit))

-- what is in range is the access that the value says
asked : (c : Else-not-numbers_fit) → access_in_range c.args.board (read_or_write c.args.value c.args.page c.args.offset) (decode c.args.bank.now) ≡ true
asked c = range (goal.at.Else-not-numbers_fit c).After-numbers_fit ∙ passed refl c.if-not-numbers_fit.false-raw

pub write_cell-requires : goal.write_cell-requires
write_cell-requires c = (
  found (goal.at.write_cell-requires c).In_ok-state,
  c.page_count-pages.ensures,
  rw c.in-Some.is at (asked (goal.at.write_cell-requires c).Else-not-numbers_fit),
)

pub read_cell-requires : goal.read_cell-requires
read_cell-requires c = (
  found (goal.at.read_cell-requires c).In_ok-state,
  c.page_count-pages.ensures,
  rw c.in-None.is at (asked (goal.at.read_cell-requires c).Else-not-numbers_fit),
)
