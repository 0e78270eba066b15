-- `conversion::block::write_area` meets its contract: the head and the frames, then zeros. Assumes nothing.
use mathlib.Core.Path.{◌≡◌, ◌∙◌}
use Prim.Native.Nat.{ℕ}
use native.Mathlib.Omega.{arith}
use mathlib.Core.List.{List}
use lib.ListN.{length}
use Rattle.model.specs.Definitions.Parts.{part, zeros}
use Rattle.model.specs.Definitions.Layout.{area_slots_at, slots_size}
use Rattle.model.proofs.Laws.Parts.{length_part}
use Rattle.model.proofs.Laws.Zeros.{zeros_length}
use Rattle.fields.proofs.Lent.{lent_cleared}
use Rattle.fields.proofs.Splices.{splice_pair}
use Rattle.conversion.specs.Blocks.{area_written}
use Rattle.conversion.proofs.block.write_area.Goals as goal

pub returns : goal.returns
returns c =
    let pages = c.args.pages in
    let old : List ℕ = c.args.old.now in
    let new = c.args.new.now in
    let n : ℕ = area_slots_at pages in
    let at = c.area_slots_at-n in
    let wrote = c.clear in
    let copied = c.copy in
    let h : length (part old 0 n) ≡ n = length_part old 0 n (omega (arith, c.requires.0.size)) in
    lent_cleared copied.new.to wrote.new.s at.result slots_size (omega arith) wrote.auto.s wrote.ensures
    ∙ rw (copied.ensures, at.ensures)
    (splice_pair new (part old 0 n) (zeros slots_size) n h (omega (arith, c.requires.1, zeros_length slots_size)) ∙ area_written pages old c.requires.0)
