-- `checks::bank::page_count` meets its contract: the head has the number. Assumes nothing.
use mathlib.Core.Path.{sym, ◌∙◌}
use native.Mathlib.Omega.{arith}
use Rattle.model.proofs.Laws.CodecBankBack.{decode_pages}
use Rattle.model.specs.Definitions.Parts.{byte_at}
use Rattle.model.specs.Definitions.Layout.{today}
use Rattle.checks.specs.Head.{head_in}
use Rattle.checks.proofs.bank.page_count.Goals as goal

pub bounds-bank-3 : goal.bounds-bank-3
bounds-bank-3 c = omega (arith, head_in _ c.requires)

pub returns : goal.returns
unfolding byte_at
returns c = c.from.ensures ∙ sym (decode_pages today c.args.bank.now)
