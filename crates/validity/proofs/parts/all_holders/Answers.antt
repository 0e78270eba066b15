-- `validity::parts::all_holders` meets its contract. The loop's invariant: the set is that of the pages before `page`. Assumes nothing.
use mathlib.Core.Path.{◌≡◌, refl}
use native.Mathlib.Omega.{arith}
use Rattle.model.specs.Definitions.Parts.{byte_at}
use Rattle.validity.specs.Words.{holders_none, holders_next}
use Rattle.validity.proofs.parts.all_holders.Goals as goal

pub loop-page-init : goal.loop-page-init
loop-page-init c = holders_none _

pub loop-page-preserved : goal.loop-page-preserved
unfolding byte_at
loop-page-preserved c = λ b. holders_next _ _ _ _ b refl (c.loop-page.invariant b)

pub returns : goal.returns
returns c =
    let e : c.loop-page.page ≡ c.args.pages = omega arith in
    rw (← e) c.loop-page.invariant
