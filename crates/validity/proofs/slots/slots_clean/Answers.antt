-- `validity::slots::slots_clean` meets its contract. The loop's invariant: the blocks before `board` are clean. Assumes nothing.
use mathlib.Core.Path.{◌≡◌, ◌∙◌}
use Prim.Native.Nat.{ℕ, ◌+◌, ◌-◌, ◌≤◌, ◌<◌}
use native.Mathlib.Omega.{arith}
use mathlib.Core.Bool.{Bool, true}
use mathlib.Core.List.{List}
use lib.ListN.{length, take, drop, length-take, length-drop}
use Rattle.model.specs.Definitions.Layout.{since_size, today, block_size, boards_at, pages_at}
use Rattle.model.specs.Definitions.Parts.{byte_at, every_below}
use Rattle.model.specs.Definitions.Check.{counts_valid, block_of_in, block_clean, slots_clean}
use Rattle.model.proofs.Laws.Parts.{index_in}
use Rattle.model.proofs.Laws.CodecBankBack.{BytesOk, bytes_ok}
use Rattle.validity.specs.Sizes.{BankSized}
use Rattle.validity.specs.Search.{failed, passed, below_none, below_next, below_stop, below_end, lent_block}
use Rattle.validity.specs.Order.{counts_passed}
use Rattle.validity.proofs.slots.slots_clean.Goals as goal
use Rattle.validity.proofs.slots.slots_clean.Goals.{After-block_at-a, After-block_clean, After-block_size-size, After-from-pages}

-- the tests of all boards are the definition's
tests_of : (s : List ℕ) (n p : ℕ) → n ≡ byte_at s boards_at → p ≡ byte_at s pages_at
    → every_below n (λ b. block_clean today p (block_of_in today p s b)) ≡ slots_clean today s
unfolding slots_clean
tests_of s n p e f = rw (e, f)

-- what the other tests said
passed_of : (c : goal.After-from-pages) → BytesOk today true c.args.bank.now
passed_of c = bytes_ok _ c.requires

module _ (c : goal.After-block_size-size) where
  abbrev bytes : List ℕ
  bytes = c.args.bank.now

  abbrev boards_of : ℕ
  boards_of = c.from-boards.result

  abbrev pages_of : ℕ
  pages_of = c.from-pages.result

  ok : BytesOk today true bytes
  ok = passed_of (goal.at.After-block_size-size c).After-from-pages

  abbrev test : ℕ → Bool
  test b = block_clean today pages_of (block_of_in today pages_of bytes b)

  sized : BankSized since_size boards_of pages_of bytes
  unfolding byte_at
  sized =
      let size = rw (← c.from-boards.ensures, ← c.from-pages.ensures) at ok.head.size in
      (omega arith, size, omega (arith, ok.head.boards), omega (arith, ok.head.pages))

  counts : (b : ℕ) → b < boards_of → counts_valid today pages_of (block_of_in today pages_of bytes b) ≡ true
  unfolding byte_at
  counts = counts_passed bytes c.from-boards.ensures c.from-pages.ensures ok

  tests : every_below boards_of test ≡ slots_clean today bytes
  unfolding byte_at
  tests = tests_of bytes boards_of pages_of c.from-boards.ensures c.from-pages.ensures

-- a board's block, as it is lent
module _ (c : goal.After-block_at-a) where
  abbrev read : goal.After-block_size-size
  read = (goal.at.After-block_at-a c).After-block_size-size

  inside : c.block_at-a.result + read.block_size-size.result ≤ length (bytes read)
  inside = omega (arith, sized read, index_in (block_size (pages_of read)) (boards_of read) c.loop-board.board c.loop-board-test.true)

  lent : take (c.block_at-a.result + read.block_size-size.result - c.block_at-a.result) (drop c.block_at-a.result (bytes read))
      ≡ block_of_in today (pages_of read) (bytes read) c.loop-board.board
  lent =
      lent_block today (bytes read) (pages_of read) c.loop-board.board _ _ c.block_at-a.ensures read.block_size-size.ensures

-- what the callee says of the block that it was lent
tested : (c : goal.After-block_clean)
    → c.block_clean.result ≡ test (read (goal.at.After-block_clean c).After-block_at-a) c.loop-board.board
tested c = c.block_clean.ensures ∙ rw (lent (goal.at.After-block_clean c).After-block_at-a)

pub bounds-bank-2 : goal.bounds-bank-2
bounds-bank-2 c = omega (arith, (bytes_ok c.args.bank.now c.requires).head.size)

pub bounds-bank-3 : goal.bounds-bank-3
bounds-bank-3 c = omega (arith, (bytes_ok c.args.bank.now c.requires).head.size)

pub block_size-size-requires : goal.block_size-size-requires
unfolding byte_at
block_size-size-requires c = omega (arith, (passed_of c).head.pages, c.from-pages.ensures)

pub loop-board-init : goal.loop-board-init
loop-board-init c = below_none _

pub block_at-a-requires : goal.block_at-a-requires
block_at-a-requires c = omega (arith, sized (goal.at.block_at-a-requires c).After-block_size-size)

pub overflow_add-a : goal.overflow_add-a
overflow_add-a c = omega (arith, inside c, sized (read c))

pub slice_bounds-block_clean-end : goal.slice_bounds-block_clean-end
slice_bounds-block_clean-end c = inside c

pub block_clean-requires : goal.block_clean-requires
block_clean-requires c =
    let after_block_at_a = (goal.at.block_clean-requires c).After-block_at-a in (
      simp (length-take, length-drop) (omega (arith, inside after_block_at_a)),
      omega (arith, sized (read after_block_at_a)),
      rw (lent after_block_at_a) (counts (read after_block_at_a) c.loop-board.board c.loop-board-test.true),
    )

pub returns-then-not-block_clean : goal.returns-then-not-block_clean
returns-then-not-block_clean c =
    let after_block_clean = (goal.at.returns-then-not-block_clean c).After-block_clean in
    let after_block_at_a = (goal.at.returns-then-not-block_clean c).After-block_at-a in
    below_stop _ _ _ (omega arith) (failed (tested after_block_clean) c.if-not-block_clean.true-raw) ∙ tests (read after_block_at_a)

pub loop-board-preserved : goal.loop-board-preserved
loop-board-preserved c =
    let after_block_clean = (goal.at.loop-board-preserved c).After-block_clean in
    below_next _ _ c.loop-board.invariant (passed (tested after_block_clean) c.if-not-block_clean.false-raw)

pub returns : goal.returns
returns c = below_end _ _ _ (omega arith) (omega arith) c.loop-board.invariant ∙ tests (goal.at.returns c).After-block_size-size
