-- `steps::power::forget` meets its contract. The loop's invariant: the first pages have no bit of the board. Assumes nothing.
use mathlib.Core.Path.{refl, sym, ap, ◌∙◌}
use native.Mathlib.Omega.{arith}
use Rattle.model.specs.Definitions.Codec.{encode, decode}
use Rattle.model.proofs.Laws.BankLoops.{forget_first_none}
use Rattle.steps.specs.Power.{forget_next, forget_all, directory_in}
use Rattle.steps.proofs.power.forget.Goals as goal

pub loop-page-init : goal.loop-page-init
loop-page-init c =
    (omega arith, refl, sym (ap encode (forget_first_none c.args.board (decode c.args.bank.now)) ∙ c.requires.0.back))

pub forget_page-requires : goal.forget_page-requires
forget_page-requires c = omega (arith, directory_in _ c.requires.0)

pub loop-page-preserved : goal.loop-page-preserved
loop-page-preserved c =
    let loop = c.loop-page in
    let went = c.forget_page in (
      omega arith,
      went.auto.bank ∙ loop.invariant.1,
      went.ensures ∙ forget_next (decode c.args.bank.now) loop.bank loop.page c.args.board (omega arith) loop.invariant.2,
    )

pub returns : goal.returns
returns c =
    let loop = c.loop-page in
    loop.invariant.2 ∙ forget_all (decode c.args.bank.now) loop.page c.args.board (omega arith)
