-- What the lowest holder says of the copy-set, by its cases. Assumes nothing.
use Rattle.std.proofs.Common.{◌≡◌, ◌≢◌, refl, sym, ℕ, not, eqb, Option, Some, None, is_some, IfSome, eqb-true}
use Rattle.std.specs.Option.{unwrap_or}
use lib.Count.{count_trailing_zeros}
use Rattle.model.specs.Definitions.Layout.{most_boards}
use Rattle.model.proofs.Laws.Logic.{by_bool, clash}

module _ {n : ℕ} {r : Option ℕ} (some : is_some r ≡ not (eqb n 0)) where
  pub holder_some : {b : ℕ} → r ≡ Some b → n ≢ 0
  holder_some e z = clash refl (rw (e, z) at some)

  pub holder_none : r ≡ None → n ≡ 0
  holder_none e = by_bool (eqb n 0) (λ t. eqb-true n 0 t) (λ f. clash refl (sym (rw (e, f) at some)))

-- a number of no board where nobody holds one
pub lowest_or : (n : ℕ) (r : Option ℕ) → is_some r ≡ not (eqb n 0) → IfSome r (λ b. b ≡ count_trailing_zeros most_boards n)
    → unwrap_or r most_boards ≡ count_trailing_zeros most_boards n
unfolding count_trailing_zeros
lowest_or n (Some b) some h = h
lowest_or n None some h = rw (holder_none some refl) refl
