-- How a proof follows a definition's tests: one combinator for each small type, and what a conjunction of tests says. Assumes nothing.
use Rattle.std.specs.Prelude.{◌≡◌, refl, ◌≢◌, ℕ, Bool, true, false, ◌&&◌, ◌||◌, not}
use Rattle.std.proofs.Math.Decide.{ℕ_discrete}
use Rattle.std.proofs.Math.Option.{Option, none, some}
use Rattle.std.proofs.Common.{arith}
use Rattle.types.specs.declared.CopyOrOwn.{CopyOrOwn}
use Rattle.types.specs.declared.Kind.{Kind}
use Rattle.types.specs.declared.Kind.TheVariants.{Got, Shown, Dropped}
use Rattle.types.specs.declared.State.{State}
use Rattle.types.specs.declared.State.TheVariants.{Up, Down, Replaying}

-- a test: in each case the equation that led there is at hand
pub cases : {A : Type 0} (P : A → Type 0) (t : Bool) {a b : A} → (t ≡ true → P a) → (t ≡ false → P b) → P (elim t [ true ↦ a | false ↦ b ])
cases P true f g = f refl
cases P false f g = g refl

pub by_bool : {X : Type 0} (t : Bool) → (t ≡ true → X) → (t ≡ false → X) → X
by_bool true f g = f refl
by_bool false f g = g refl

pub cases_option : {A B : Type 0} (P : A → Type 0) (o : Option B) {a : A} {f : B → A}
    → (o ≡ none → P a) → ((x : B) → o ≡ some x → P (f x)) → P (elim o [ none ↦ a | some x ↦ f x ])
cases_option P none g h = g refl
cases_option P (some x) g h = h x refl

pub by_option : {X B : Type 0} (o : Option B) → (o ≡ none → X) → ((x : B) → o ≡ some x → X) → X
by_option none g h = g refl
by_option (some x) g h = h x refl

-- two numbers are equal or not
pub by_eq : {X : Type 0} (a b : ℕ) → (a ≡ b → X) → (a ≢ b → X) → X
by_eq a b f g = elim (ℕ_discrete a b) [ yes e ↦ f e | no n ↦ g n ]

pub by_state : {X : Type 0} (s : State) → (s ≡ Up → X) → (s ≡ Down → X) → (s ≡ Replaying → X) → X
by_state Up f g h = f refl
by_state Down f g h = g refl
by_state Replaying f g h = h refl

-- false is not true
pub clash : {X : Type 0} {t : Bool} → t ≡ true → t ≡ false → X
clash {t} p q = let z : ◌≡◌ {A = ℕ} 0 1 = cc in absurd (omega arith)

pub and_left : (a b : Bool) → (a && b) ≡ true → a ≡ true
and_left true b h = refl
and_left false b h = clash h refl

pub and_right : (a b : Bool) → (a && b) ≡ true → b ≡ true
and_right true b h = h
and_right false b h = clash h refl

pub and_both : {a b : Bool} → a ≡ true → b ≡ true → (a && b) ≡ true
and_both {a} {b} p q = rw (p, q)

pub not_true : {a : Bool} → not a ≡ true → a ≡ false
not_true {a} h = by_bool a (λ p. clash h (rw p)) (λ p. p)

pub true_not : {a : Bool} → a ≡ false → not a ≡ true
true_not {a} h = rw h

-- "if a then b", as a test
pub or_then : (a b : Bool) → (not a || b) ≡ true → a ≡ true → b ≡ true
or_then true b h p = h
or_then false b h p = clash p refl

pub then_or : (a b : Bool) → (a ≡ true → b ≡ true) → (not a || b) ≡ true
then_or true b h = h refl
then_or false b h = refl

-- a test of a record's kind
pub cases_kind : {A : Type 0} (P : A → Type 0) (k : Kind) {f : CopyOrOwn → ℕ → A} {g h : ℕ → A} → ((c : CopyOrOwn) (p : ℕ) → k ≡ Got c p → P (f c p))
    → ((p : ℕ) → k ≡ Shown p → P (g p)) → ((p : ℕ) → k ≡ Dropped p → P (h p)) → P (elim k [ Got c p ↦ f c p | Shown p ↦ g p | Dropped p ↦ h p ])
cases_kind P (Got c p) f g h = f c p refl
cases_kind P (Shown p) f g h = g p refl
cases_kind P (Dropped p) f g h = h p refl
