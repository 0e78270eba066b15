-- Words of an access that a flag, a set of pages, numbers and bytes stand for: what it takes and names, the cells that it reads, the byte that it writes.
-- No law stands here. Assumes nothing.
use Rattle.std.specs.Prelude.{◌≡◌, ℕ, ◌<◌, Bool, true, false, List, [], ◌∷◌, Option, Some, None}
use Rattle.types.specs.declared.CopyOrOwn.{CopyOrOwn}
use Rattle.types.specs.declared.CopyOrOwn.TheVariants.{GotCopy, GotOwn}
use Rattle.steps.specs.declared.written.CellWrite.{CellWrite}
use Rattle.model.specs.Definitions.Parts.{member}
use Rattle.model.specs.Definitions.Steps.{Access, Cell, names, takes}

-- which got is taken, by the flag
unfoldable pub got : Bool → CopyOrOwn
got true = GotOwn
got false = GotCopy

-- access a takes and names what flag and set say
pub record Takes (pages : ℕ) (a : Access) (writes : Bool) (named : ℕ) : Type 0 where
  pub below : (p : ℕ) → names a p ≡ true → p < pages
  pub names : (p : ℕ) → p < pages → member p named ≡ names a p
  pub takes : takes a ≡ got writes

-- the byte that is written: a read writes none
abbrev pub wrote_byte : Option CellWrite → List (Cell × ℕ)
wrote_byte (Some w) = (record { page = w.page; offset = w.offset }, w.value) ∷ []
wrote_byte None = []
