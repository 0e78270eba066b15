-- The first got without its shown: the documents' number of it, and what a turn of a loop finds. Assumes nothing.
use Rattle.std.specs.Prelude.{◌≡◌, ℕ, suc, ◌+◌, Bool, false, List, [], ◌∷◌, Option, Some, None, cond, eqb}
use Rattle.std.proofs.Common.{zero, arith}
use Rattle.std.proofs.lemmas.Bool.Decides.{nat_tests}
use Rattle.std.proofs.Math.Numerals.{add-one}
use Rattle.model.specs.Definitions.Logs.{first_unmatched}
use Rattle.model.proofs.Laws.Logic.{by_bool}

eqb_swap : (a b : ℕ) → eqb a b ≡ eqb b a
eqb_swap a b = grind (arith, nat_tests)

-- the place that a number of the documents stands for: none is 0
abbrev pub place_in : ℕ → Option ℕ
place_in zero = None
place_in (suc i) = Some (suc i)

pub place_here : (n : ℕ) {m : ℕ} → m ≡ n + 1 → Some (n + 1) ≡ place_in m
place_here n e = rw (e, add-one n)

pub place_none : {m : ℕ} → m ≡ 0 → None ≡ place_in m
place_none e = rw e

-- no got is left
pub turn_none : (n : ℕ) (showns : List ℕ) {gots : List ℕ} → gots ≡ [] → first_unmatched n gots showns ≡ 0
unfolding first_unmatched
turn_none n showns e = rw e

-- a got of this page has the next shown, and both lists go on, or it has none
abbrev pub Found : (page : ℕ) → (showns left : List ℕ) → Bool → Type 0
Found page showns left found = (n : ℕ) (gots : List ℕ) → first_unmatched n (page ∷ gots) showns ≡ cond found (first_unmatched (n + 1) gots left) n

pub found_some : (page shown : ℕ) {showns left : List ℕ} → showns ≡ shown ∷ left → Found page showns left (eqb shown page)
unfolding first_unmatched
found_some page shown {showns} {left} e n gots =
    by_bool (eqb shown page)
    (λ t. rw (t, e, first_unmatched, eqb_swap page shown, t, add-one n))
    (λ t. rw (t, e, first_unmatched, eqb_swap page shown, t))

pub found_none : (page : ℕ) {showns : List ℕ} → showns ≡ [] → Found page showns showns false
unfolding first_unmatched
found_none page e n gots = rw e
