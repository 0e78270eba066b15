-- `script::work::make_bank` meets its contract. Assumes nothing.
use Rattle.std.proofs.Common.{◌≡◌, ℕ, ◌≤◌, sym, ◌∙◌, true, arith}
use Rattle.std.proofs.Math.Seq.{length-take-le}
use Rattle.model.specs.Definitions.Layout.{bank_size}
use Rattle.model.specs.Definitions.Check.{sizes_allowed}
use Rattle.model.proofs.Laws.Fresh.{sizes_say}
use Rattle.script.specs.Clauses.{most_bank}
use Rattle.script.specs.Laws.Work.{bank_sizes, make_works_refused, make_works_done}
use Rattle.script.proofs.work.make_bank.Goals.{After-bank_size-size}
use Rattle.script.proofs.work.make_bank.Goals as goal

-- the sizes are allowed, so the bank fits
fits : (n p size len : ℕ) → sizes_allowed n p ≡ true → size ≡ bank_size n p → len ≡ most_bank → size ≤ len
fits n p size len h e k = let ok = sizes_say n p h in omega (arith, bank_sizes n p ok.boards ok.pages)

-- its length is that of the sizes that were asked for
long : (c : After-bank_size-size) → c.bank_size-size.result ≡ bank_size c.args.boards c.args.pages
long c = let same = c.in-Some.ensures.same in c.bank_size-size.ensures ∙ rw (same.0, same.1)

pub returns-in_default : goal.returns-in_default
returns-in_default c =
    make_works_refused c.args.boards c.args.pages _ c.into.result _ (sym c.in_default.ensures.some) c.into.ensures

pub returns : goal.returns
returns c =
    let allowed : sizes_allowed c.args.boards c.args.pages ≡ true = sym c.in-Some.ensures.some in
    let e = long (goal.at.returns c).After-bank_size-size in
    let call = c.make-outcome in
    make_works_done c.args.boards c.args.pages _ _ c.into-2.result c.bank_size-size.result _ _ allowed e
    (length-take-le _ _ (fits c.args.boards c.args.pages _ _ allowed e c.requires)) call.ensures.reply
    c.into-2.ensures call.auto.bank
