-- What a test says: `Says` is built up the way the tests of Definitions.Check are. Of the small ones: zero bytes, rights, states, a directory entry.
-- BoardTests has those of a block. Assumes nothing.
use Rattle.std.specs.Prelude.{◌≡◌, refl, ◌≢◌, ◌↔◌, ℕ, zero, suc, ◌^◌, ◌≤◌, ◌<◌, Bool, true, false, ◌&&◌, ◌||◌, not, List, [], ◌∷◌, ◌++◌, length, eqb, ltb, leb}
use Rattle.std.proofs.Common.{ap, arith, ltb-true, leb-true, eqb-true, lt-ltb, le-leb, eq-eqb, ne_eqb}
use Rattle.std.proofs.Math.Bool.{and_assoc}
use Rattle.std.proofs.lemmas.Bool.{eqb-false}
use Rattle.words.specs.Bytes.{Each}
use Rattle.types.specs.declared.Right.{Right}
use Rattle.types.specs.declared.Right.TheVariants.{None}
use Rattle.types.specs.declared.State.{State}
use Rattle.types.specs.declared.State.TheVariants.{Up, Down, Replaying}
use Rattle.model.specs.Definitions.Parts.{part, byte_at, zeros, every, every_below, member}
use Rattle.model.specs.Definitions.Layout.{right_at, frame_bytes_at, frame_size, page_size}
use Rattle.model.specs.Definitions.Bank.{Entry}
use Rattle.model.specs.Definitions.Codec.{right_byte, right_of, decode_frame}
use Rattle.model.specs.Definitions.WellFormed.{EntryOk, is_up, is_down, is_replaying}
use Rattle.model.specs.Definitions.Check.{is_zero, same_right, entry_valid}
use Rattle.model.proofs.Laws.Logic.{by_state, clash, and_left, and_right, and_both, not_true, true_not, or_then, then_or}
use Rattle.model.proofs.Laws.Lists.{every_each, each_every, every_below_at, every_below_all}
use Rattle.model.proofs.Laws.Codec.{right_of_right_byte}
use Rattle.model.proofs.Laws.Parts.{length_part}

-- ---- a test and what it says

abbrev pub Says : Bool → Type 0 → Type 0
Says t P = (t ≡ true) ↔ P

pub says_and : {a b : Bool} {P Q : Type 0} → Says a P → Says b Q → Says (a && b) (P × Q)
says_and {a} {b} p q = (λ h. (p.0 (and_left a b h), q.0 (and_right a b h)), λ h. and_both (p.1 h.0) (q.1 h.1))

-- "if a then b"
pub says_then : {a b : Bool} {P Q : Type 0} → Says a P → (P → Says b Q) → Says (not a || b) (P → Q)
says_then {a} {b} p q =
    (λ h x. (q x).0 (or_then a b h (p.1 x)), λ h. then_or a b (λ t. (q (p.0 t)).1 (h (p.0 t))))

pub says_if : (t : Bool) {a b : Bool} {C P Q : Type 0} → Says t C → Says a P → Says b Q → Says (elim t [ true ↦ a | false ↦ b ]) ((C → P) × (¬ C → Q))
says_if true c p q = (λ h. (λ x. p.0 h, λ n. absurd (n (c.0 refl))), λ h. p.1 (h.0 (c.0 refl)))
says_if false c p q = (λ h. (λ x. clash (c.1 x) refl, λ n. q.0 h), λ h. q.1 (h.1 (λ x. clash (c.1 x) refl)))

pub says_below : (n : ℕ) (f : ℕ → Bool) {P : ℕ → Type 0} → ((j : ℕ) → j < n → Says (f j) (P j)) → Says (every_below n f) ((j : ℕ) → j < n → P j)
says_below n f p = (λ h j l. (p j l).0 (every_below_at n j f h l), λ h. every_below_all n f (λ j l. (p j l).1 (h j l)))

pub says_every : {A : Type 0} {P : A → Type 0} (f : A → Bool) (xs : List A) → ((x : A) → Says (f x) (P x)) → Says (every f xs) (Each P xs)
says_every f xs p = (λ h. every_each f xs (λ x. (p x).0) h, λ h. each_every f xs (λ x. (p x).1) h)

-- a test that is made only where another passes
pub says_when : (t : Bool) {a : Bool} {C : Type 0} → Says t C → Says (elim t [ true ↦ a | false ↦ true ]) (C → a ≡ true)
says_when true c = (λ h x. h, λ h. h (c.0 refl))
says_when false c = (λ h x. clash (c.1 x) refl, λ h. refl)

pub says_eq : (a b : ℕ) → Says (eqb a b) (a ≡ b)
says_eq a b = (eqb-true a b, eq-eqb a b)

pub says_lt : (a b : ℕ) → Says (ltb a b) (a < b)
says_lt a b = (ltb-true a b, lt-ltb a b)

pub says_le : (a b : ℕ) → Says (leb a b) (a ≤ b)
says_le a b = (leb-true a b, le-leb a b)

pub says_not : (t : Bool) → Says (not t) (t ≡ false)
says_not t = (λ h. not_true h, λ h. true_not h)

pub says_pos : (n : ℕ) → Says (not (eqb n 0)) (0 < n)
says_pos n =
    (λ h. let e : n ≢ 0 = eqb-false n 0 (not_true h) in omega arith, λ h. true_not (ne_eqb n 0 (λ e. omega arith)))

-- ---- bytes that are all zero, and rights

pub is_zero_zeros : (l : List ℕ) → is_zero l ≡ true → l ≡ zeros (length l)
unfolding is_zero every zeros
is_zero_zeros [] h = refl
is_zero_zeros (b ∷ bs) h =
    let e : b ≡ 0 = eqb-true b 0 (and_left (eqb b 0) (every (λ c. eqb c 0) bs) h) in
    let r : bs ≡ zeros (length bs) = is_zero_zeros bs (and_right (eqb b 0) (every (λ c. eqb c 0) bs) h) in
    cc

pub zeros_is_zero : (n : ℕ) → is_zero (zeros n) ≡ true
unfolding is_zero every zeros
zeros_is_zero zero = refl
zeros_is_zero (suc n) = zeros_is_zero n

pub zero_append : (k l : List ℕ) → is_zero (k ++ l) ≡ (is_zero k && is_zero l)
unfolding is_zero every
zero_append [] l = refl
zero_append (b ∷ bs) l = simp (zero_append bs l, and_assoc)

pub says_zero : (l : List ℕ) (n : ℕ) → length l ≡ n → Says (is_zero l) (l ≡ zeros n)
says_zero l n e = (λ h. rw (← e) (is_zero_zeros l h), λ h. rw h (zeros_is_zero n))

pub says_same_right : (a b : Right) → Says (same_right a b) (a ≡ b)
unfolding same_right
says_same_right a b = (
  λ h. let e : right_byte a ≡ right_byte b = eqb-true (right_byte a) (right_byte b) h in cc (right_of_right_byte a, right_of_right_byte b),
  λ h. eq-eqb (right_byte a) (right_byte b) (ap right_byte h),
)

pub says_right_none : (n : ℕ) → Says (eqb n (right_byte None)) (right_of n ≡ None)
unfolding right_of right_byte
says_right_none zero = (λ h. refl, λ h. refl)
says_right_none (suc zero) = (λ h. cc, λ h. cc)
says_right_none (suc (suc n)) = (λ h. let e : suc (suc n) ≡ 0 = eqb-true (suc (suc n)) 0 h in absurd (omega arith), λ h. cc)

-- "16 page bytes, all zero under right 0"
pub says_clear : (l : List ℕ) → length l ≡ frame_size
    → Says (not (eqb (byte_at l right_at) (right_byte None)) || is_zero (part l frame_bytes_at page_size))
    ((decode_frame l).right ≡ None → (decode_frame l).bytes ≡ zeros page_size)
unfolding decode_frame
says_clear l e =
    says_then (says_right_none (byte_at l right_at))
    (λ r. says_zero (part l frame_bytes_at page_size) page_size (length_part l frame_bytes_at page_size (omega arith)))

-- ---- states and lists

pub says_up : (t : State) → Says (is_up t) (t ≡ Up)
unfolding is_up
says_up t = by_state t (λ e. (λ h. e, λ h. cc)) (λ e. (λ h. cc, λ h. cc)) (λ e. (λ h. cc, λ h. cc))

pub says_down : (t : State) → Says (is_down t) (t ≡ Down)
unfolding is_down
says_down t = by_state t (λ e. (λ h. cc, λ h. cc)) (λ e. (λ h. e, λ h. cc)) (λ e. (λ h. cc, λ h. cc))

pub says_replaying : (t : State) → Says (is_replaying t) (t ≡ Replaying)
unfolding is_replaying
says_replaying t = by_state t (λ e. (λ h. cc, λ h. cc)) (λ e. (λ h. cc, λ h. cc)) (λ e. (λ h. e, λ h. cc))

pub says_none : {A : Type 0} (xs : List A) → Says (eqb (length xs) 0) (xs ≡ [])
says_none [] = (λ h. refl, λ h. refl)
says_none (x ∷ xs) = (
  λ h. let e : suc (length xs) ≡ 0 = eqb-true (suc (length xs)) 0 h in absurd (omega arith),
  λ h. let e : suc (length xs) ≡ 0 = ap length h in absurd (omega arith),
)

-- ---- a directory entry

pub says_entry : (boards : ℕ) (e : Entry) → Says (entry_valid boards e) (EntryOk boards e)
unfolding entry_valid
says_entry boards e =
    let all =
    says_and
    (says_lt e.owner boards)
    (says_and (says_lt e.copies (2 ^ boards)) (says_not (member e.owner e.copies))) in (
      λ h. let q = all.0 h in record { owner = q.0; copies = q.1.0; owner_bit = q.1.1 },
      λ h. all.1 (h.owner, (h.copies, h.owner_bit)),
    )
