-- `format::selected::write_stored_count` meets its contract: the selected area is lent. Assumes nothing.
use native.Mathlib.Omega.{arith}
use mathlib.Core.List.{[], ◌∷◌}
use Rattle.model.specs.Definitions.Layout.{area_count_at}
use Rattle.model.specs.Definitions.Parts.{splice}
use Rattle.format.proofs.LentArea.{lent_area_written}
use Rattle.format.proofs.selected.write_stored_count.Goals as goal

pub returns : goal.returns
returns c =
    let wrote = c.write_stored_count in
    lent_area_written c.args.block.now _ _ _ _ c.selected_at-a.ensures.place
    c.area_size-size.ensures
    wrote.new.area (λ a. splice a area_count_at (c.args.count ∷ []))
    (omega arith) wrote.auto.area wrote.ensures
