-- `validity::bank::formed_in` meets its contract: each return follows the tests in turn, and the bytes of a slice are bytes. Assumes nothing.
use Rattle.std.proofs.Common.{arith}
use Rattle.std.proofs.lemmas.Bool.Decides.{nat_tests}
use mathlib.Core.Path.{◌≡◌, sym}
use Prim.Native.Nat.{ℕ, ◌*◌}
use mathlib.Core.Bool.{Bool, ◌&&◌}
use mathlib.Core.List.{List}
use lib.ListN.{length-take, length-drop}
use Rattle.model.specs.Definitions.Layout.{entry_size, head_size, Form, form_of}
use Rattle.model.specs.Definitions.Parts.{byte_at}
use Rattle.model.specs.Definitions.Check.{directory_valid, formed_in, directory_of, blocks_fit, logs_valid, peers_valid}
use Rattle.model.proofs.Laws.CodecBankBack.{HeadOk, head_ok}
use Rattle.fields.proofs.Lent.{lent_read}
use Rattle.validity.specs.Sizes.{BankSized}
use Rattle.validity.specs.Search.{failed, passed}
use Rattle.validity.specs.Order.{not_well_formed, well_formed_left}
use Rattle.validity.proofs.bank.formed_in.Goals as goal
use Rattle.validity.proofs.bank.formed_in.Goals.{After-directory_valid, After-from-pages, Else-not-head_valid}

-- what the head's test says, once it passed
known : (c : goal.Else-not-head_valid) → HeadOk (form_of c.args.since) c.args.bank.now
known c = head_ok _ (passed c.head_valid.ensures c.if-not-head_valid.false-raw)

-- the bytes, their form, and the numbers that were read from them
module _ (c : goal.After-from-pages) where
  abbrev bytes : List ℕ
  bytes = c.args.bank.now

  abbrev form : Form
  form = form_of c.args.since

  abbrev named_of : Bool
  named_of = c.args.named

  abbrev boards : ℕ
  boards = c.from-boards.result

  abbrev pages : ℕ
  pages = c.from-pages.result

  sized : BankSized form.since_width boards pages bytes
  unfolding byte_at
  sized =
      let head = known (goal.at.After-from-pages c).Else-not-head_valid in
      let size = rw (← c.from-boards.ensures, ← c.from-pages.ensures) at head.size in
      (omega arith, size, omega (arith, head.boards), omega (arith, head.pages))

  -- what is left to test
  split : formed_in form named_of bytes
      ≡ (directory_valid boards pages (directory_of pages bytes)
      && (blocks_fit form boards pages bytes && (logs_valid form boards pages bytes && peers_valid form named_of boards pages bytes)))
  unfolding byte_at
  split =
      well_formed_left form named_of bytes
      c.from-boards.ensures
      c.from-pages.ensures
      (λ i h. omega (arith, c.shared_slice_known-1.given i))
      (passed c.head_valid.ensures c.if-not-head_valid.false-raw)

directory_test : (c : goal.After-directory_valid)
    → c.directory_valid.result ≡ directory_valid c.from-boards.result c.from-pages.result (directory_of c.from-pages.result c.args.bank.now)
unfolding directory_of
directory_test c =
    let n = c.from-pages.result in
    lent_read c.args.bank.now head_size (n * entry_size) (λ d. directory_valid c.from-boards.result n d) _ c.directory_valid.ensures

pub returns-then-not-head_valid : goal.returns-then-not-head_valid
returns-then-not-head_valid c = sym (not_well_formed _ _ _ (failed c.head_valid.ensures c.if-not-head_valid.true-raw))

pub bounds-bank-2 : goal.bounds-bank-2
bounds-bank-2 c = omega (arith, (known (goal.at.bounds-bank-2 c).Else-not-head_valid).size)

pub bounds-bank-3 : goal.bounds-bank-3
bounds-bank-3 c = omega (arith, (known (goal.at.bounds-bank-3 c).Else-not-head_valid).size)

pub slice_bounds-directory-end : goal.slice_bounds-directory-end
slice_bounds-directory-end c = omega (arith, sized c)

pub directory_valid-requires : goal.directory_valid-requires
directory_valid-requires c =
    let after_from_pages = (goal.at.directory_valid-requires c).After-from-pages in
    (simp (length-take, length-drop) (omega (arith, sized after_from_pages)), (sized after_from_pages).2)

pub returns-then-directory_valid : goal.returns-then-directory_valid
returns-then-directory_valid c = rw (split (goal.at.returns-then-directory_valid c).After-from-pages) (grind (arith, nat_tests, directory_test (goal.at.returns-then-directory_valid c).After-directory_valid))

pub returns-else-directory_valid : goal.returns-else-directory_valid
returns-else-directory_valid c = rw (split (goal.at.returns-else-directory_valid c).After-from-pages) (grind (arith, nat_tests, directory_test (goal.at.returns-else-directory_valid c).After-directory_valid))

pub boards_valid-requires : goal.boards_valid-requires
boards_valid-requires c = sized (goal.at.boards_valid-requires c).After-from-pages
