-- Banks that are alike stay alike: here tests, lists and the parts of a bank; then every step, every move, every access, every call; last the names
-- that only one call reads. Assumes nothing.
pub mod Steps
pub mod Moves
pub mod Accesses
pub mod Calls
pub mod Names
use Rattle.std.specs.Prelude.{◌≡◌, Bool, true, false, length, get_or, set, drop}
use Rattle.std.proofs.Math.Path.{refl}
use Rattle.std.proofs.Common.{ap}
use Prim.Native.Nat.{ℕ, zero, suc}
use Rattle.std.proofs.Math.Option.{Option, none, some}
use mathlib.Core.List.{List, [], ◌∷◌, ◌++◌, map}
use Rattle.std.proofs.Math.ListN.{replicate}
use Rattle.types.specs.declared.Frame.{Frame}
use Rattle.model.specs.Definitions.Parts.{zeros, update, each_from, each}
use Rattle.model.specs.Definitions.Layout.{page_size}
use Rattle.model.specs.Definitions.Bank.{Entry, Area, Working, Board, Bank, empty_frame, no_board, board_at, entry_at, frame_at, on_board, on_entry}
use Rattle.model.specs.Definitions.Bank.{on_working, on_spare}
use Rattle.model.specs.Likeness.{EachPair, pairs_nil, pairs_cons, FrameAlike, FramesAlike, AreaAlike, WorkingAlike, BoardAlike, Alike, Change}

-- ---- the same test on both sides

-- two options, both none or both some and related
pub data Perhaps {A : Type 0} (R : A → A → Type 0) : Option A → Option A → Type 0 where
  neither : Perhaps R none none
  both : {x y : A} → R x y → Perhaps R (some x) (some y)

pub perhaps_same : {A : Type 0} {o p : Option A} → p ≡ o → Perhaps (λ x y. y ≡ x) o p
perhaps_same {o} e = rw e (elim o as (λ q. Perhaps (λ x y. y ≡ x) q q) [ none ↦ neither | some x ↦ both refl ])

module _ {A B : Type 0} (R : A → B → Type 0) where
  pub cases_both : {t u : Bool} {a b : A} {c d : B} → u ≡ t → R a c → R b d → R (elim t [ true ↦ a | false ↦ b ]) (elim u [ true ↦ c | false ↦ d ])
  cases_both {t} {a = a} {b = b} {c = c} {d = d} e x y =
      rw e (elim t as (λ v. R (elim v [ true ↦ a | false ↦ b ]) (elim v [ true ↦ c | false ↦ d ])) [ true ↦ x | false ↦ y ])

  pub options_both : {C : Type 0} (S : C → C → Type 0) {o p : Option C} {a : A} {b : B} {f : C → A} {g : C → B} → Perhaps S o p → R a b
      → ((x y : C) → S x y → R (f x) (g y)) → R (elim o [ none ↦ a | some x ↦ f x ]) (elim p [ none ↦ b | some x ↦ g x ])
  options_both S neither n s = n
  options_both S (both e) n s = s _ _ e

-- ---- lists

module _ {A : Type 0} (R : A → A → Type 0) where
  -- two functions that take what is related to what is related
  abbrev pub Preserve : (A → A) → (A → A) → Type 0
  Preserve g h = (x y : A) → R x y → R (g x) (h y)

  pub pairs_length : {xs ys : List A} → EachPair R xs ys → length ys ≡ length xs
  pairs_length pairs_nil = refl
  pairs_length (pairs_cons p ps) = ap suc (pairs_length ps)

  pub pairs_get_d : (i : ℕ) {d e : A} {xs ys : List A} → R d e → EachPair R xs ys → R (get_or xs i d) (get_or ys i e)
  pairs_get_d i r pairs_nil = r
  pairs_get_d zero r (pairs_cons p ps) = p
  pairs_get_d (suc i) r (pairs_cons p ps) = pairs_get_d i r ps

  pub pairs_set : (i : ℕ) {a b : A} {xs ys : List A} → R a b → EachPair R xs ys → EachPair R (set xs i a) (set ys i b)
  pairs_set i r pairs_nil = pairs_nil
  pairs_set zero r (pairs_cons p ps) = pairs_cons r ps
  pairs_set (suc i) r (pairs_cons p ps) = pairs_cons p (pairs_set i r ps)

  pub pairs_update : (i : ℕ) {g h : A → A} {xs ys : List A} → Preserve g h → EachPair R xs ys
      → EachPair R (update i g xs) (update i h ys)
  unfolding update
  pairs_update i r pairs_nil = pairs_nil
  pairs_update zero r (pairs_cons p ps) = pairs_cons (r _ _ p) ps
  pairs_update (suc i) r (pairs_cons p ps) = pairs_cons p (pairs_update i r ps)

  pairs_each_from : (i : ℕ) {g h : ℕ → A → A} {xs ys : List A} → ((j : ℕ) → Preserve (g j) (h j)) → EachPair R xs ys
      → EachPair R (each_from i g xs) (each_from i h ys)
  unfolding each_from
  pairs_each_from i r pairs_nil = pairs_nil
  pairs_each_from i r (pairs_cons p ps) = pairs_cons (r i _ _ p) (pairs_each_from (suc i) r ps)

  pub pairs_each : {g h : ℕ → A → A} {xs ys : List A} → ((j : ℕ) → Preserve (g j) (h j)) → EachPair R xs ys
      → EachPair R (each g xs) (each h ys)
  unfolding each
  pairs_each r ps = pairs_each_from 0 r ps

  pub pairs_map : {g h : A → A} {xs ys : List A} → Preserve g h → EachPair R xs ys → EachPair R (map g xs) (map h ys)
  pairs_map r pairs_nil = pairs_nil
  pairs_map r (pairs_cons p ps) = pairs_cons (r _ _ p) (pairs_map r ps)

  pub pairs_append : {xs ys zs ws : List A} → EachPair R xs ys → EachPair R zs ws → EachPair R (xs ++ zs) (ys ++ ws)
  pairs_append pairs_nil q = q
  pairs_append (pairs_cons p ps) q = pairs_cons p (pairs_append ps q)

  pub pairs_drop : (n : ℕ) {xs ys : List A} → EachPair R xs ys → EachPair R (drop n xs) (drop n ys)
  pairs_drop zero ps = ps
  pairs_drop (suc n) pairs_nil = pairs_nil
  pairs_drop (suc n) (pairs_cons p ps) = pairs_drop n ps

-- ---- page bytes and frames

module _ (f : ℕ → ℕ) where
  pub map_set : (l : List ℕ) (i v : ℕ) → map f (set l i v) ≡ set (map f l) i (f v)
  map_set [] i v = refl
  map_set (x ∷ l) zero v = refl
  map_set (x ∷ l) (suc i) v = ap (λ (m : List ℕ). f x ∷ m) (map_set l i v)

  -- zeros stay zeros, so an empty frame is alike, and so is what stands past the frames
  module _ (z : f 0 ≡ 0) where
    pub map_zeros : (n : ℕ) → zeros n ≡ map f (zeros n)
    unfolding zeros
    map_zeros zero = refl
    map_zeros (suc n) = let e : replicate n 0 ≡ map f (replicate n 0) = map_zeros n in rw (z, ← e)

module _ (f : Change) (z : f.bytes 0 ≡ 0) where
  pub alike_empty_frame : FrameAlike f empty_frame empty_frame
  unfolding empty_frame
  alike_empty_frame = record { right = refl; bytes = map_zeros f.bytes z page_size }

  pub alike_frame_at : (p : ℕ) {fs gs : List Frame} → FramesAlike f fs gs → FrameAlike f (frame_at fs p) (frame_at gs p)
  unfolding frame_at
  alike_frame_at p e = pairs_get_d (FrameAlike f) p alike_empty_frame e

-- ---- one part of a bank read or changed

module _ (f : Change) where
  alike_no_board : BoardAlike f no_board no_board
  unfolding no_board
  alike_no_board =
      let area : AreaAlike f no_board.stable.spare no_board.stable.spare = record { number = refl; frames = pairs_nil; log = pairs_nil } in
      record {
        state = refl;
        fuse = refl;
        working = record { number = refl; since = refl; place = refl; frames = pairs_nil; log = pairs_nil };
        stable = record { second = refl; selected = area; spare = area };
      }

  pub alike_board_at : (b : ℕ) {k j : Bank} → Alike f k j → BoardAlike f (board_at k b) (board_at j b)
  unfolding board_at
  alike_board_at b e = pairs_get_d (BoardAlike f) b alike_no_board e.boards

  pub alike_entry_at : (p : ℕ) {k j : Bank} → Alike f k j → entry_at j p ≡ entry_at k p
  unfolding entry_at
  alike_entry_at p e = rw e.directory

  pub alike_on_board : (b : ℕ) {g h : Board → Board} → Preserve (BoardAlike f) g h → Preserve (Alike f) (on_board b g) (on_board b h)
  unfolding on_board
  alike_on_board b i k j e = record { directory = e.directory; boards = pairs_update (BoardAlike f) b i e.boards }

  pub alike_on_entry : (p : ℕ) (g : Entry → Entry) → Preserve (Alike f) (on_entry p g) (on_entry p g)
  unfolding on_entry
  alike_on_entry p g k j e = record { directory = rw e.directory; boards = e.boards }

  pub alike_on_working : {g h : Working → Working} → Preserve (WorkingAlike f) g h → Preserve (BoardAlike f) (on_working g) (on_working h)
  unfolding on_working
  alike_on_working i x y e = record { state = e.state; fuse = e.fuse; working = i _ _ e.working; stable = e.stable }

  pub alike_on_spare : {g h : Area → Area} {x y : Board} → Preserve (AreaAlike f) g h → BoardAlike f x y
      → BoardAlike f (on_spare g x) (on_spare h y)
  unfolding on_spare
  alike_on_spare i e =
      record {
        state = e.state;
        fuse = e.fuse;
        working = e.working;
        stable = record { second = e.stable.second; selected = e.stable.selected; spare = i _ _ e.stable.spare };
      }
