-- Where a block's two areas stand, by its selector, and a change of one of them alone. Assumes nothing.
use Rattle.std.specs.Prelude.{◌≡◌, ℕ, ◌+◌, ◌≤◌, Bool, true, not, List, [], ◌∷◌, ◌++◌, eqb}
use Rattle.words.specs.LittleEndian.{bytes_of}
use Rattle.model.specs.Definitions.Parts.{part, splice, byte_at, zeros}
use Rattle.model.specs.Definitions.Layout.{selector_at, area_at, area_size, block_size, number_size, slots_size, area_number_at, area_slots_at}
use Rattle.model.specs.Definitions.Codec.{selector_byte}
use Rattle.model.proofs.Laws.BlockStable.{area_in}

unfoldable pub selected_at : ℕ → List ℕ → ℕ
selected_at pages l = area_at pages (selector_byte (eqb (byte_at l selector_at) (selector_byte true)))

unfoldable pub spare_at : ℕ → List ℕ → ℕ
spare_at pages l = area_at pages (selector_byte (not (eqb (byte_at l selector_at) (selector_byte true))))

-- the bytes of the selected area
abbrev pub selected_part : ℕ → List ℕ → List ℕ
selected_part pages l = part l (selected_at pages l) (area_size pages)

-- one part of a list changed, the rest as it was
unfoldable pub with_part : ℕ → ℕ → (List ℕ → List ℕ) → List ℕ → List ℕ
with_part a n f l = splice l a (f (part l a n))

abbrev pub with_selected : ℕ → (List ℕ → List ℕ) → List ℕ → List ℕ
with_selected pages f l = with_part (selected_at pages l) (area_size pages) f l

-- "the spare area is written, nothing else in the block"
abbrev pub with_spare : ℕ → (List ℕ → List ℕ) → List ℕ → List ℕ
with_spare pages f l = with_part (spare_at pages l) (area_size pages) f l

-- the bytes of an area after its head is stored: number and count 0, and all slots zero
abbrev pub head_stored : (pages number : ℕ) → List ℕ → List ℕ
head_stored pages n a = splice (splice a area_number_at (bytes_of number_size n ++ (0 ∷ []))) (area_slots_at pages) (zeros slots_size)

-- the place that a test of the selector comes to
pub area_found : (pages r : ℕ) (t u : Bool) → t ≡ u → r ≡ area_at pages (selector_byte u)
    → (r ≡ area_at pages (selector_byte t)) × (r + area_size pages ≤ block_size pages)
area_found pages r t u q e = (rw (e, q), rw e (area_in pages u))
