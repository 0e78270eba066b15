-- `accesses::replaying::owned_pages` meets its contract: the loop goes from the highest page down, and a page's bit comes in at the bottom. Assumes nothing.
use Rattle.accesses.specs.Ends.{set_none, set_in, set_out, set_fits}
use Rattle.copies.specs.Directory.{entry_at_lem, owner_told}
use Rattle.model.specs.Definitions.Codec.{decode}
use Rattle.model.specs.Definitions.Bank.{entry_at}
use borrow.Author.Tests.{eq-eqb, ne_eqb}
use native.Mathlib.Omega.{arith}
use Prim.Native.Nat.{◌-◌}
use mathlib.Core.Path.{◌≡◌, sym, ◌∙◌}
use Rattle.accesses.proofs.replaying.owned_pages.Goals.{After-from}
use Rattle.accesses.proofs.replaying.owned_pages.Goals as goal

owner_read : (c : After-from)
    → c.from.result ≡ (entry_at (decode c.args.bank.now) (c.loop-page.page - 1)).owner
owner_read c = c.from.ensures ∙ (c.read_owner.ensures ∙ owner_told c.requires _ (omega arith))

pub loop-page-init : goal.loop-page-init
loop-page-init c = set_none _ _

pub overflow_mul-owned : goal.overflow_mul-owned
overflow_mul-owned c =
    let loop = c.loop-page in
    omega (
      arith,
      set_fits _ c.args.pages loop.page loop.owned (omega arith) (omega arith) loop.invariant
          (omega (arith, c.requires.count, c.requires.bank.sizes.pages)),
    )

pub read_owner-requires : goal.read_owner-requires
read_owner-requires c = entry_at_lem c.requires _ (omega arith)

pub overflow_add-owned : goal.overflow_add-owned
overflow_add-owned c =
    let loop = c.loop-page in
    omega (
      arith,
      set_fits _ c.args.pages loop.page loop.owned (omega arith) (omega arith) loop.invariant
          (omega (arith, c.requires.count, c.requires.bank.sizes.pages)),
    )

pub loop-page-preserved-then-from-board : goal.loop-page-preserved-then-from-board
loop-page-preserved-then-from-board c =
    let loop = c.loop-page in
    set_in _ c.args.pages loop.page loop.owned (omega arith) (omega arith) loop.invariant
    (eq-eqb _ _ (sym (owner_read (goal.at.loop-page-preserved-then-from-board c).After-from) ∙ c.if-from-board.true))

pub loop-page-preserved : goal.loop-page-preserved
loop-page-preserved c =
    let loop = c.loop-page in
    set_out _ c.args.pages loop.page loop.owned (omega arith) (omega arith) loop.invariant
    (ne_eqb _ _ (λ e. c.if-from-board.false (owner_read (goal.at.loop-page-preserved c).After-from ∙ e)))
