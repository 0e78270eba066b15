-- A set as a number, by arithmetic: a member is a digit, joining adds a power of two and leaving takes it away. By induction on the lowest digit,
-- so for any width. Assumes nothing.
use Rattle.std.specs.Prelude.{◌≡◌, ℕ, zero, suc, ◌+◌, ◌*◌, ◌/◌, ◌%◌, ◌^◌, true, false, eqb}
use Rattle.std.proofs.Common.{pow-suc, div-one, arith, eq-eqb, eqb-true}
use Rattle.std.proofs.Math.Nat.{pow-succ', div-div-eq-div-mul}
use Rattle.model.specs.Definitions.Parts.{member, with_member, without_member}
use Rattle.model.proofs.Laws.Logic.{by_eq, clash}

pub member_digit : (b set : ℕ) → member b set ≡ eqb (set / 2 ^ b % 2) 1
unfolding member
member_digit zero set = rw div-one
member_digit (suc b) set = rw (member_digit b (set / 2), div-div-eq-div-mul set 2 (2 ^ b), pow-succ' 2 b)

-- ---- joining

pub with_in : (b set : ℕ) → member b set ≡ true → set ≡ with_member b set
unfolding member with_member
with_in zero set h = let e : set % 2 ≡ 1 = eqb-true (set % 2) 1 h in omega arith
with_in (suc b) set h = let e : set / 2 ≡ with_member b (set / 2) = with_in b (set / 2) h in omega arith

pub with_out : (b set : ℕ) → member b set ≡ false → set + 2 ^ b ≡ with_member b set
unfolding member with_member
with_out zero set h =
    by_eq (set % 2) 1
    (λ e. clash (eq-eqb (set % 2) 1 e) h)
    (λ n. let e : set % 2 ≡ 0 = omega arith in omega arith)
with_out (suc b) set h =
    let e : set / 2 + 2 ^ b ≡ with_member b (set / 2) = with_out b (set / 2) h in
    let p : 2 ^ suc b ≡ 2 ^ b * 2 = pow-suc 2 b in
    omega arith

-- ---- leaving

pub without_in : (b set : ℕ) → member b set ≡ true → set ≡ without_member b set + 2 ^ b
unfolding member without_member
without_in zero set h = let e : set % 2 ≡ 1 = eqb-true (set % 2) 1 h in omega arith
without_in (suc b) set h =
    let e : set / 2 ≡ without_member b (set / 2) + 2 ^ b = without_in b (set / 2) h in
    let p : 2 ^ suc b ≡ 2 ^ b * 2 = pow-suc 2 b in
    omega arith

pub without_out : (b set : ℕ) → member b set ≡ false → set ≡ without_member b set
unfolding member without_member
without_out zero set h =
    by_eq (set % 2) 1
    (λ e. clash (eq-eqb (set % 2) 1 e) h)
    (λ n. let e : set % 2 ≡ 0 = omega arith in omega arith)
without_out (suc b) set h = let e : set / 2 ≡ without_member b (set / 2) = without_out b (set / 2) h in omega arith
