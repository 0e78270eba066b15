-- `exchange::fetch::get_own` meets its contract: the page is read by value, and its bytes go into the record. Assumes nothing.
use native.Mathlib.Omega.{arith}
use Rattle.types.specs.declared.CopyOrOwn.TheVariants.{GotOwn}
use Rattle.model.specs.Definitions.Steps.{step}
use Rattle.model.proofs.Laws.Valid.{recordable_got}
use Rattle.std.proofs.Common.{rules}
use Rattle.exchange.specs.Progress.{came_named}
use Rattle.exchange.proofs.fetch.get_own.Goals as goal

pub log_through-requires : goal.log_through-requires
log_through-requires c =
    let pre = c.requires in (
      pre.0,
      pre.1,
      pre.3,
      pre.4,
      recordable_got GotOwn c.page_frame-frame.ensures.1 pre.5 (omega (arith, pre.2, pre.0.bank.sizes.boards)),
    )

pub returns-clause-run : goal.returns-clause-run
unfolding step
returns-clause-run c =
    λ n.
    came_named n _ _ _ c.map_err.ensures.cases (λ e d q. search rules) (rw c.page_frame-frame.ensures.0 at c.log_through.ensures.run n)
