-- `conversion::block::write_area_at` meets its contract: each area lies inside its block. Assumes nothing.
use mathlib.Core.Path.{◌∙◌}
use Prim.Native.Nat.{◌+◌, ◌-◌}
use native.Mathlib.Omega.{arith}
use lib.ListN.{take, drop, length-take, length-drop}
use Rattle.model.specs.Definitions.Layout.{today}
use Rattle.model.specs.Definitions.Codec.{encode_area, decode_area_in}
use Rattle.model.specs.Definitions.Older.{older}
use Rattle.model.proofs.Laws.CodecBack.{area_inside}
use Rattle.fields.proofs.Lent.{lent_written}
use Rattle.conversion.specs.Blocks.{lent_area, lent_widened}
use Rattle.conversion.proofs.block.write_area_at.Goals as goal

pub write_area-requires : goal.write_area-requires
write_area-requires c = (
  lent_area c.args.pages c.args.area c.args.old.now c.area_at_in-a.ensures
      c.area_size_in-n.ensures c.requires.0
      c.requires.2,
  simp (length-take, length-drop) (omega (arith, area_inside today c.args.pages c.args.area c.requires.2, c.requires.1)),
)

pub returns : goal.returns
returns c =
    let pages = c.args.pages in
    let area = c.args.area in
    let old = c.args.old.now in
    let from = c.area_at_in-a in
    let wide = c.area_size_in-n in
    let at = c.area_at-b in
    let wrote = c.write_area in
    let part = take (from.result + wide.result - from.result) (drop from.result old) in
    lent_written c.args.new.now wrote.new.new at.result c.area_size-m.result
    (λ _. encode_area (decode_area_in older pages part))
    (omega (arith, area_inside today pages area c.requires.2, c.requires.1)) wrote.auto.new wrote.ensures
    ∙ rw (at.ensures, lent_widened pages area old from.ensures wide.ensures)
