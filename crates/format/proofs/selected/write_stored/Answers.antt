-- `format::selected::write_stored` meets its contract: the selected area is lent. Assumes nothing.
use native.Mathlib.Omega.{arith}
use Prim.Native.Nat.{◌+◌, ◌*◌}
use Rattle.model.specs.Definitions.Layout.{area_slots_at, slot_size}
use Rattle.model.specs.Definitions.Parts.{splice}
use Rattle.model.specs.Definitions.Codec.{encode_record}
use Rattle.format.proofs.LentArea.{lent_area_written}
use Rattle.format.proofs.selected.write_stored.Goals as goal

pub returns : goal.returns
returns c =
    let wrote = c.write_stored in
    lent_area_written c.args.block.now _ _ _ _ c.selected_at-a.ensures.place
    c.area_size-size.ensures
    wrote.new.area (λ a. splice a (area_slots_at c.args.pages + c.args.index * slot_size) (encode_record c.args.r))
    (omega arith) wrote.auto.area wrote.ensures
