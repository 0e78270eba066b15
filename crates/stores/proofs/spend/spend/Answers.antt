-- `stores::spend::spend` meets its contract. Assumes nothing.
use mathlib.Core.Path.{sym, ap, ◌∙◌}
use Rattle.model.specs.Definitions.Codec.{encode_board}
use Rattle.model.specs.Definitions.Steps.{powered_off}
use Rattle.model.proofs.Laws.BoardFields.{burnt_fields}
use Rattle.steps.specs.BlockLaws.{board_written, block_written}
use Rattle.stores.specs.RunLaws.{spent_cut, spent_kept}
use Rattle.stores.proofs.spend.spend.Goals as goal

pub wipe-requires : goal.wipe-requires
wipe-requires c =
    let block = c.requires in
    block_written _ block.few (burnt_fields block.fields) c.burn.ensures.1

pub returns-then-burn-clause-run : goal.returns-then-burn-clause-run
returns-then-burn-clause-run c =
    let block = c.requires in
    let burn = c.burn in
    let blown = sym c.if-burn.true ∙ burn.ensures.0 in (
      blown,
      c.wipe.ensures
          ∙ ap (λ x. encode_board (powered_off x)) (board_written _ block.few (burnt_fields block.fields) burn.ensures.1)
          ∙ ap encode_board (sym (spent_cut _ (sym blown))),
    )

pub returns-clause-run : goal.returns-clause-run
returns-clause-run c =
    let kept = sym c.if-burn.false ∙ c.burn.ensures.0 in
    (kept, c.burn.ensures.1 ∙ ap encode_board (sym (spent_kept _ (sym kept))))
