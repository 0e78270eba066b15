-- `exchange::fetch::show` meets its contract. Assumes nothing.
use native.Mathlib.Omega.{arith}
use mathlib.Core.Path.{refl}
use Rattle.model.specs.Definitions.Parts.{zeros}
use Rattle.model.specs.Definitions.Codec.{page_of}
use Rattle.model.specs.Definitions.WellFormed.{is_got}
use Rattle.model.specs.Definitions.Steps.{show}
use Rattle.model.proofs.Laws.Valid.{recordable_plain}
use Rattle.std.proofs.Common.{rules}
use Rattle.exchange.specs.Progress.{came_named}
use Rattle.exchange.proofs.fetch.show.Goals as goal

pub log_through-requires : goal.log_through-requires
unfolding zeros page_of is_got
log_through-requires c =
    let pre = c.requires in
    (pre.0, pre.1, pre.4.0, pre.4.1, recordable_plain _ refl pre.3 (omega (arith, pre.2, pre.0.bank.sizes.boards)))

pub returns-clause-run : goal.returns-clause-run
unfolding show zeros
returns-clause-run c = λ n. came_named n _ _ _ c.map_err.ensures.cases (λ e d q. search rules) (c.log_through.ensures.run n)
