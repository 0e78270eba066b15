-- `format::area::store_head` meets its contract: number and count stand side by side, and the slots are cleared. Assumes nothing.
use mathlib.Core.Path.{◌≡◌}
use native.Mathlib.Omega.{arith}
use mathlib.Core.List.{[], ◌∷◌}
use lib.ListN.{length}
use Rattle.words.specs.LittleEndian.{bytes_of}
use Rattle.words.specs.LittleEndianLaws.{length_bytes_of}
use Rattle.model.specs.Definitions.Layout.{number_size, area_number_at, area_count_at}
use Rattle.model.proofs.Laws.Parts.{splice_next}
use Rattle.format.proofs.area.store_head.Goals as goal

pub returns : goal.returns
returns c =
    let start = c in
    let e : length (bytes_of number_size start.args.number) ≡ area_count_at = length_bytes_of number_size start.args.number in
    rw (
      c.clear_at.ensures,
      c.area_slots_at.ensures,
      c.write_stored_count.ensures,
      c.write_number.ensures,
      splice_next start.args.area.now area_number_at area_count_at (bytes_of number_size start.args.number) (0 ∷ []) (omega arith) (omega arith),
    )
