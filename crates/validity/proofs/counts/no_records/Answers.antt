-- `validity::counts::no_records` meets its contract. The loop's invariant: the blocks before `board` have no record. Assumes nothing.
use mathlib.Core.Path.{◌≡◌, sym, ◌∙◌}
use Prim.Native.Nat.{ℕ, ◌+◌, ◌≤◌}
use native.Mathlib.Omega.{arith}
use mathlib.Core.Bool.{Bool}
use mathlib.Core.List.{List}
use lib.ListN.{length, length-take, length-drop}
use Rattle.model.specs.Definitions.Layout.{Form, form_of, block_size_in, boards_at, pages_at}
use Rattle.model.specs.Definitions.Parts.{byte_at, every_below}
use Rattle.model.specs.Definitions.Codec.{decode_in}
use Rattle.model.specs.Definitions.Check.{block_of_in}
use Rattle.model.specs.Definitions.Older.{no_records}
use Rattle.model.specs.Clauses.{counts_zero}
use Rattle.model.proofs.Laws.Parts.{index_in}
use Rattle.model.proofs.Laws.CodecBankBack.{HeadOk, head_ok}
use Rattle.model.proofs.Laws.Counts.{no_records_counts}
use Rattle.validity.specs.Sizes.{BankSized}
use Rattle.validity.specs.Search.{failed, passed, below_none, below_next, below_stop, below_end, lent_block}
use Rattle.validity.proofs.counts.no_records.Goals as goal
use Rattle.validity.proofs.counts.no_records.Goals.{After-block_at_in-a, After-block_size_in-size, After-counts_zero, After-from-pages}

-- the tests of all boards are the definition's
tests_of : (form : Form) (s : List ℕ) (n p : ℕ) → n ≡ byte_at s boards_at → p ≡ byte_at s pages_at
    → every_below n (λ b. counts_zero form p (block_of_in form p s b)) ≡ no_records (decode_in form s)
tests_of form s n p e f = rw (e, f) (sym (no_records_counts form s))

-- what the head says of the numbers that were read
head_of : (c : goal.After-from-pages) → HeadOk (form_of c.args.since) c.args.bank.now
head_of c = head_ok _ c.requires.1

module _ (c : goal.After-block_size_in-size) where
  abbrev bytes : List ℕ
  bytes = c.args.bank.now

  abbrev form : Form
  form = form_of c.args.since

  abbrev boards_of : ℕ
  boards_of = c.from-boards.result

  abbrev pages_of : ℕ
  pages_of = c.from-pages.result

  head : HeadOk form bytes
  head = head_of (goal.at.After-block_size_in-size c).After-from-pages

  -- the test of a board
  abbrev test : ℕ → Bool
  test b = counts_zero form pages_of (block_of_in form pages_of bytes b)

  sized : BankSized form.since_width boards_of pages_of bytes
  unfolding byte_at
  sized =
      let size = rw (← c.from-boards.ensures, ← c.from-pages.ensures) at head.size in
      (omega arith, size, omega (arith, head.boards), omega (arith, head.pages))

  tests : every_below boards_of test ≡ no_records (decode_in form bytes)
  unfolding byte_at
  tests = tests_of form bytes boards_of pages_of c.from-boards.ensures c.from-pages.ensures

-- a board's block, as it is lent
module _ (c : goal.After-block_at_in-a) where
  abbrev read : goal.After-block_size_in-size
  read = (goal.at.After-block_at_in-a c).After-block_size_in-size

  inside : c.block_at_in-a.result + read.block_size_in-size.result ≤ length (bytes read)
  inside = omega (arith, sized read, index_in (block_size_in (form read) (pages_of read)) (boards_of read) c.loop-board.board c.loop-board-test.true)

-- what the callee says of the block that it was lent
tested : (c : goal.After-counts_zero)
    → c.counts_zero.result ≡ test (goal.at.After-counts_zero c).After-block_size_in-size c.loop-board.board
tested c =
    c.counts_zero.ensures
    ∙ rw (lent_block (form_of c.args.since) c.args.bank.now c.from-pages.result c.loop-board.board _ _ c.block_at_in-a.ensures
    c.block_size_in-size.ensures)

pub bounds-bank-2 : goal.bounds-bank-2
bounds-bank-2 c = omega (arith, (head_ok c.args.bank.now c.requires.1).size)

pub bounds-bank-3 : goal.bounds-bank-3
bounds-bank-3 c = omega (arith, (head_ok c.args.bank.now c.requires.1).size)

pub block_size_in-size-requires : goal.block_size_in-size-requires
unfolding byte_at
block_size_in-size-requires c = omega (arith, (head_of c).pages, c.from-pages.ensures)

pub loop-board-init : goal.loop-board-init
loop-board-init c = below_none _

pub block_at_in-a-requires : goal.block_at_in-a-requires
block_at_in-a-requires c = omega (arith, sized (goal.at.block_at_in-a-requires c).After-block_size_in-size)

pub overflow_add-a : goal.overflow_add-a
overflow_add-a c = omega (arith, inside c, sized (read c))

pub slice_bounds-counts_zero-end : goal.slice_bounds-counts_zero-end
slice_bounds-counts_zero-end c = inside c

pub counts_zero-requires : goal.counts_zero-requires
counts_zero-requires c =
    let after_block_at_in_a = (goal.at.counts_zero-requires c).After-block_at_in-a in
    (omega (arith, sized (read after_block_at_in_a)), simp (length-take, length-drop) (omega (arith, inside after_block_at_in_a)), omega (arith, sized (read after_block_at_in_a)))

pub returns-then-not-counts_zero : goal.returns-then-not-counts_zero
returns-then-not-counts_zero c =
    let after_counts_zero = (goal.at.returns-then-not-counts_zero c).After-counts_zero in
    let after_block_at_in_a = (goal.at.returns-then-not-counts_zero c).After-block_at_in-a in
    below_stop _ _ _ (omega arith) (failed (tested after_counts_zero) c.if-not-counts_zero.true-raw) ∙ tests (read after_block_at_in_a)

pub loop-board-preserved : goal.loop-board-preserved
loop-board-preserved c =
    let after_counts_zero = (goal.at.loop-board-preserved c).After-counts_zero in
    below_next _ _ c.loop-board.invariant (passed (tested after_counts_zero) c.if-not-counts_zero.false-raw)

pub returns : goal.returns
returns c = below_end _ _ _ (omega arith) (omega arith) c.loop-board.invariant ∙ tests (goal.at.returns c).After-block_size_in-size
