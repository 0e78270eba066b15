-- `validity::bank::boards_valid` meets its contract. The invariants: the boards before `board` fit, and of this board the logs before `log` and the
-- records before `index` are valid. The search is left at the first that is not, or at its end. Assumes nothing.
use Rattle.std.proofs.Common.{◌≡◌, ℕ, ◌+◌, ◌-◌, ◌*◌, ◌≤◌, Bool, true, false, List, [], ◌∷◌, ◌&&◌, arith, sym, ◌∙◌, get_or, length, take, drop, length-take, length-drop}
use Rattle.model.specs.Definitions.Layout.{slot_count, head_size, entry_size, Form, form_of, block_size_in}
use Rattle.model.specs.Definitions.Check.{counts_valid, block_fits, directory_of, block_of_in}
use Rattle.model.proofs.Laws.Logic.{by_eq, and_both}
use Rattle.model.proofs.Laws.Parts.{index_in}
use Rattle.fields.proofs.Lent.{lent_part, lent_read}
use Rattle.validity.specs.declared.bank.Log.{Log}
use Rattle.validity.specs.declared.bank.Log.TheVariants.{First, Second, Volatile}
use Rattle.validity.specs.Sizes.{BlockSized}
use Rattle.validity.specs.Pieces.{log_passes, record_passes_in, record_valid}
use Rattle.validity.specs.Search.{first_failed, below_none, below_next, below_stop, below_end, log_inside, log_few, log_ended, logs_valid, log_failed, lent_block}
use Rattle.validity.specs.Order.{counts_known, board_fits, boards_fit}
use Rattle.validity.proofs.bank.boards_valid.Goals as goal
use Rattle.validity.proofs.bank.boards_valid.Goals.{After-block_at_in-a, After-block_fits, After-record_valid, Else-not-block_fits, In-loop-index}

-- the directory that it is held against
listed : (s : List ℕ) (pages : ℕ) → take (head_size + pages * entry_size - head_size) (drop head_size s) ≡ directory_of pages s
unfolding directory_of
listed s pages = lent_part s head_size (pages * entry_size)

-- the bytes of the bank, their form, the board that the search has come to and its block, which lies inside the bank
module _ (c : goal.After-block_at_in-a) where
  abbrev bytes : List ℕ
  bytes = c.args.bank.now

  abbrev form : Form
  form = form_of c.args.since

  abbrev fits_at : ℕ → Bool
  fits_at = board_fits form c.args.named c.args.boards c.args.pages bytes

  abbrev board_of : ℕ
  board_of = c.loop-board.board

  -- the test of its records
  abbrev test_of : List ℕ → Bool
  test_of = record_valid form c.args.named c.args.boards c.args.pages board_of

  abbrev block : List ℕ
  block = take (c.block_at_in-a.result + c.block_size_in-size.result - c.block_at_in-a.result)
      (drop c.block_at_in-a.result bytes)

  found : block ≡ block_of_in form c.args.pages bytes board_of
  found = lent_block form bytes c.args.pages board_of _ _ c.block_at_in-a.ensures c.block_size_in-size.ensures

  inside : c.block_at_in-a.result + c.block_size_in-size.result ≤ length bytes
  inside = omega (
    arith,
    index_in (block_size_in form c.args.pages) c.args.boards board_of c.loop-board-test.true,
    c.block_at_in-a.ensures,
    c.block_size_in-size.ensures,
    c.requires.1,
  )

  sized : BlockSized form.since_width c.args.pages block
  sized = (c.requires.0, simp (length-take, length-drop) (omega (arith, inside, c.block_size_in-size.ensures)), c.requires.3)

-- the test of the block that was lent is the definition's
tested : (c : goal.After-block_fits)
    → let board = (goal.at.After-block_fits c).After-block_at_in-a in
    c.block_fits.result ≡ block_fits (form board) c.args.pages (directory_of c.args.pages (bytes board)) (block_of_in (form board) c.args.pages (bytes board) c.loop-board.board) c.loop-board.board
tested c =
    let board = (goal.at.After-block_fits c).After-block_at_in-a in
    rw (listed (bytes board) c.args.pages, found board) at c.block_fits.ensures

-- a board whose block fits: its counts are in range, and its records are those of its logs
module _ (c : goal.Else-not-block_fits) where
  abbrev board : goal.After-block_at_in-a
  board = (goal.at.Else-not-block_fits c).After-block_at_in-a

  fits : block_fits (form board) c.args.pages (directory_of c.args.pages (bytes board)) (block_of_in (form board) c.args.pages (bytes board) (board_of board)) (board_of board) ≡ true
  fits = sym (tested (goal.at.Else-not-block_fits c).After-block_fits) ∙ c.if-not-block_fits.false

  counted : counts_valid (form board) c.args.pages (block board) ≡ true
  counted = rw (found board) (counts_known _ _ _ _ _ fits)

  -- whether its logs pass says whether it fits
  by_logs : (r : Bool) → (log_passes (form board) (test_of board) c.args.pages (block board) First
      && (log_passes (form board) (test_of board) c.args.pages (block board) Second
      && log_passes (form board) (test_of board) c.args.pages (block board) Volatile)) ≡ r
      → fits_at board (board_of board) ≡ r
  unfolding board_fits
  by_logs r h = rw (fits, ← found board, ← logs_valid (form board) (test_of board) c.args.pages (block board) counted) h

-- the log that the search has come to; a record of it lies inside the block
module _ (c : goal.In-loop-index) where
  abbrev fit : goal.Else-not-block_fits
  fit = (goal.at.In-loop-index c).Else-not-block_fits

  abbrev log_of : Log
  log_of = get_or (First ∷ Second ∷ Volatile ∷ []) c.loop-log.log-index First

  record_inside : c.log_slots_at-at.result + c.loop-index.index * c.slot_size_in-slot.result + c.slot_size_in-slot.result ≤ length (block (board fit))
  record_inside =
      let few = log_few (form (board fit)) c.args.pages (block (board fit)) (counted fit) log_of in
      omega (
        arith,
        log_inside (form (board fit)) c.args.pages (block (board fit)) log_of,
        index_in c.slot_size_in-slot.result slot_count c.loop-index.index (omega (arith, few)),
        (sized (board fit)).1,
      )

-- what the callee says of the record that it was lent
record_tested : (c : goal.After-record_valid)
    → let at = (goal.at.After-record_valid c).In-loop-index in
    c.record_valid.result ≡ record_passes_in (form (board (fit at))) (test_of (board (fit at))) c.args.pages (block (board (fit at))) (log_of at) c.loop-index.index
unfolding record_passes_in
record_tested c =
    let at = (goal.at.After-record_valid c).In-loop-index in
    rw (← c.log_slots_at-at.ensures, ← c.slot_size_in-slot.ensures)
    (lent_read (block (board (fit at))) (c.log_slots_at-at.result + c.loop-index.index * c.slot_size_in-slot.result) c.slot_size_in-slot.result (test_of (board (fit at))) _
    c.record_valid.ensures)

pub loop-board-init : goal.loop-board-init
loop-board-init c = below_none _

pub returns-then-not-block_fits : goal.returns-then-not-block_fits
unfolding board_fits
returns-then-not-block_fits c =
    let board = (goal.at.returns-then-not-block_fits c).After-block_at_in-a in
    let test = tested (goal.at.returns-then-not-block_fits c).After-block_fits in
    below_stop (fits_at board) _ (board_of board) (omega arith) (sym (first_failed _ (sym (sym test ∙ c.if-not-block_fits.true))))
    ∙ boards_fit _ _ _ _ _

pub loop-log-init : goal.loop-log-init
loop-log-init c = λ k h. absurd (omega arith)

pub loop-index-init : goal.loop-index-init
loop-index-init c = below_none _

pub overflow_mul-from : goal.overflow_mul-from
overflow_mul-from c = omega (arith, record_inside c, sized (board (fit c)))

pub overflow_add-from : goal.overflow_add-from
overflow_add-from c = omega (arith, record_inside c, sized (board (fit c)))

pub overflow_add-from-in-loop-index : goal.overflow_add-from-in-loop-index
overflow_add-from-in-loop-index c = omega (arith, record_inside c, sized (board (fit c)))

pub slice_bounds-record_valid-end : goal.slice_bounds-record_valid-end
slice_bounds-record_valid-end c = record_inside c

pub returns-then-not-record_valid : goal.returns-then-not-record_valid
unfolding log_passes
returns-then-not-record_valid c =
    let fit = (goal.at.returns-then-not-record_valid c).Else-not-block_fits in
    let test = record_tested (goal.at.returns-then-not-record_valid c).After-record_valid in
    let stopped = log_failed _ _ _ _ _ (sym (below_stop _ _ _ (omega arith) (sym test ∙ c.if-not-record_valid.true))) in
    below_stop (fits_at (board fit)) _ (board_of (board fit)) (omega arith) (by_logs fit false stopped) ∙ boards_fit _ _ _ _ _

pub loop-index-preserved : goal.loop-index-preserved
loop-index-preserved c =
    let test = record_tested (goal.at.loop-index-preserved c).After-record_valid in
    below_next _ _ c.loop-index.invariant (sym test ∙ c.if-not-record_valid.false)

pub loop-log-preserved : goal.loop-log-preserved
loop-log-preserved c = λ k h.
    by_eq k c.loop-log.log-index
    (λ e. rw e (log_ended _ _ _ _ _ c.loop-index.index c.log_count-index-end.ensures (omega arith) (omega arith) c.loop-index.invariant))
    (λ n. c.loop-log.invariant k (omega arith))

pub loop-board-preserved : goal.loop-board-preserved
loop-board-preserved c =
    let fit = (goal.at.loop-board-preserved c).Else-not-block_fits in
    let passed = c.loop-log.invariant in
    below_next _ _ c.loop-board.invariant
    (by_logs fit true (and_both (passed 0 (omega arith)) (and_both (passed 1 (omega arith)) (passed 2 (omega arith)))))

pub returns : goal.returns
returns c = below_end _ _ _ (omega arith) (omega arith) c.loop-board.invariant ∙ boards_fit _ _ _ _ _
