-- `format::directory::write_entry` meets its contract: two bytes side by side. Assumes nothing.
use mathlib.Core.Path.{◌≡◌, ◌∙◌}
use Prim.Native.Nat.{ℕ, ◌+◌, ◌≤◌}
use native.Mathlib.Nat.{add-zero}
use native.Mathlib.Omega.{arith}
use mathlib.Core.List.{List, [], ◌∷◌}
use lib.ListN.{length}
use Rattle.model.specs.Definitions.Layout.{owner_at, copies_at}
use Rattle.model.specs.Definitions.Parts.{splice}
use Rattle.model.specs.Definitions.Codec.{encode_entry}
use Rattle.model.proofs.Laws.Parts.{splice_next}
use Rattle.format.proofs.directory.write_entry.Goals as goal

-- the owner and the copy-set, side by side
written : (l m n : List ℕ) (at owner copies : ℕ) → at ≤ length l → m ≡ splice l (at + owner_at) (owner ∷ []) → n ≡ splice m (at + copies_at) (copies ∷ [])
    → n ≡ splice l at (encode_entry (record { owner = owner; copies = copies }))
unfolding encode_entry
written l m n at owner copies h p q =
    rw (q, p) (splice_next l (at + owner_at) (at + copies_at) (owner ∷ []) (copies ∷ []) (omega arith) (omega arith) ∙ rw add-zero)

pub returns : goal.returns
returns c =
    written _ _ _ _ _ _ (omega arith) c.put.ensures c.put-2.ensures
