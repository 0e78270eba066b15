-- `fields::slot::write_front` meets its contract: four stores are one splice. Assumes nothing.
use native.Mathlib.Omega.{arith}
use Rattle.words.proofs.Places.{stores_splice}
use Rattle.model.specs.Definitions.Layout.{mark0_at}
use Rattle.model.specs.Definitions.Parts.{splice}
use Rattle.fields.specs.SlotParts.{front_bytes}
use Rattle.fields.proofs.slot.write_front.Goals as goal

pub returns : goal.returns
unfolding front_bytes splice
returns c =
    rw (c.first_mark.ensures, c.second_mark.ensures, c.page_of.ensures)
    (stores_splice c.args.slot.now mark0_at (front_bytes c.args.kind c.args.peer) (omega arith))
