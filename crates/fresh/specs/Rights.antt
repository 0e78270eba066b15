-- A board's frames by a test of the page: own where it passes, else empty. One byte makes an empty frame own, so a loop over the own pages makes them all.
-- Assumes nothing.
use Rattle.std.specs.Prelude.{◌≡◌, refl, ◌≢◌, ℕ, zero, suc, ◌+◌, ◌*◌, ◌-◌, ◌%◌, ◌≤◌, ◌<◌, Bool, true, false, ◌&&◌, List, [], ◌∷◌, ◌++◌, length, set, take, drop, eqb, ltb}
use Rattle.std.proofs.Common.{sym, ap, ◌∙◌, arith, length-set, ext_get_or, get_or-set_same, get_or-set_other, length-take-le}
use Rattle.std.proofs.Math.Nat.{mod-eq_of_lt, mod-eq-sub-mod, mod-add-mod, add-mod_right}
use borrow.Author.Tests.{ltb-true, ltb-false, lt-ltb, le-ltb, eq-eqb, ne_eqb}
use Rattle.types.specs.declared.Right.TheVariants.{Own}
use Rattle.types.specs.declared.Frame.{Frame}
use Rattle.model.specs.Definitions.Parts.{part, splice, zeros, encode_all, tabulate_from, tabulate}
use Rattle.model.specs.Definitions.Layout.{page_size, frame_size}
use Rattle.model.specs.Definitions.Bank.{empty_frame}
use Rattle.model.specs.Definitions.Codec.{right_byte, encode_frame}
use Rattle.model.proofs.Laws.Logic.{cases, by_bool, by_eq}
use Rattle.model.proofs.Laws.Lists.{length_tabulate, get_d_tabulate, each_tabulate}
use Rattle.model.proofs.Laws.Parts.{split_part, splice_at, part_encode_all, encode_all_set}
use Rattle.model.proofs.Laws.Codec.{length_encode_frame}
use Rattle.model.proofs.Laws.Zeros.{zeros_length}
use Rattle.model.proofs.Laws.BlockWorking.{encode_empty_frame}
use Rattle.model.proofs.Laws.Zeros.{zeros_append}
use Rattle.fresh.specs.SideBySide.{all_next, all_length}

abbrev own_frame : Frame
own_frame = record { right = Own; bytes = zeros page_size }

-- the frame of a page, and the bytes of all frames
unfoldable pub frame_where : (ℕ → Bool) → ℕ → Frame
frame_where own p = elim (own p) [ true ↦ own_frame | false ↦ empty_frame ]

abbrev pub frames_where : (ℕ → Bool) → ℕ → List ℕ
frames_where own pages = encode_all encode_frame (tabulate pages (frame_where own))

frame_wide : (own : ℕ → Bool) (p : ℕ) → length (encode_frame (frame_where own p)) ≡ frame_size
unfolding frame_where empty_frame
frame_wide own p =
    cases (λ f. length (encode_frame f) ≡ frame_size) (own p)
    (λ _. length_encode_frame own_frame (zeros_length page_size))
    (λ _. length_encode_frame empty_frame (zeros_length page_size))

pub frames_length : (own : ℕ → Bool) (pages : ℕ) → length (frames_where own pages) ≡ pages * frame_size
frames_length own pages = all_length encode_frame frame_size (frame_where own) (frame_wide own) pages

-- only pages below `pages` count
pub frames_same : (f g : ℕ → Bool) (pages : ℕ) → ((p : ℕ) → p < pages → f p ≡ g p) → frames_where f pages ≡ frames_where g pages
unfolding frame_where
frames_same f g pages e =
    let n : (h : ℕ → Bool) → length (tabulate pages (frame_where h)) ≡ pages = λ h. length_tabulate pages (frame_where h) in
    ap (encode_all encode_frame)
    (ext_get_or empty_frame (tabulate pages (frame_where f)) (tabulate pages (frame_where g)) (n f ∙ sym (n g))
    (λ p l.
    let k : p < pages = omega (arith, n f) in
    cc (get_d_tabulate pages p (frame_where f) empty_frame k, get_d_tabulate pages p (frame_where g) empty_frame k, e p k)))

-- empty frames are zeros
pub frames_none : (own : ℕ → Bool) (pages : ℕ) → ((p : ℕ) → p < pages → own p ≡ false) → frames_where own pages ≡ zeros (pages * frame_size)
unfolding frame_where encode_all tabulate tabulate_from zeros
frames_none own zero h = refl
frames_none own (suc n) h =
    let e : frame_where own n ≡ empty_frame = cc (h n (omega arith)) in
    let m : n * frame_size + frame_size ≡ suc n * frame_size = omega arith in
    all_next encode_frame frame_size (frame_where own) (frame_wide own) n
    ∙ rw (e, encode_empty_frame, frames_none own n (λ p l. h p (omega arith)), zeros_append (n * frame_size) frame_size, m)

-- right own over the first byte of an empty frame is an own frame
own_over : (l : List ℕ) (a : ℕ) → part l a frame_size ≡ encode_frame empty_frame → a ≤ length l
    → splice l a (right_byte Own ∷ []) ≡ splice l a (encode_frame own_frame)
unfolding encode_frame empty_frame right_byte
own_over l a e h =
    let p : List ℕ = take a l in
    let q : List ℕ = drop (a + frame_size) l in
    let n : length p ≡ a = length-take-le a l h in
    let z : List ℕ = zeros page_size in
    let s : l ≡ p ++ (0 ∷ (z ++ q)) = sym (rw e at (split_part l a frame_size)) in
    rw s (splice_at p (0 ∷ []) (right_byte Own ∷ []) (z ++ q) a n refl ∙ sym (splice_at p (0 ∷ z) (right_byte Own ∷ z) q a n refl))

-- one page more
pub frames_next : (f g : ℕ → Bool) (pages q : ℕ) → f q ≡ false → g q ≡ true → ((p : ℕ) → p ≢ q → f p ≡ g p) → q < pages
    → splice (frames_where f pages) (q * frame_size) (right_byte Own ∷ []) ≡ frames_where g pages
unfolding frame_where
frames_next f g pages q waits done other h =
    let fs : List Frame = tabulate pages (frame_where f) in
    let n : length fs ≡ pages = length_tabulate pages (frame_where f) in
    let wide = each_tabulate pages (frame_where f) (frame_wide f) in
    let was : part (frames_where f pages) (q * frame_size) frame_size ≡ encode_frame empty_frame
    = part_encode_all encode_frame frame_size fs q empty_frame wide (omega arith) ∙ cc (get_d_tabulate pages q (frame_where f) empty_frame h, waits) in
    let now : set fs q own_frame ≡ tabulate pages (frame_where g)
    = ext_get_or empty_frame (set fs q own_frame) (tabulate pages (frame_where g)) (length-set fs q own_frame ∙ n ∙ sym (length_tabulate pages (frame_where g)))
    (λ p l.
    let k : p < pages = omega (arith, simp length-set at l) in
    by_eq p q
    (λ e. cc (get_or-set_same fs q own_frame empty_frame (omega arith), get_d_tabulate pages p (frame_where g) empty_frame k))
    (λ d. cc (
      get_or-set_other fs q p own_frame empty_frame d,
      get_d_tabulate pages p (frame_where f) empty_frame k,
      get_d_tabulate pages p (frame_where g) empty_frame k,
      other p d,
    ))) in
    own_over (frames_where f pages) (q * frame_size) was (omega (arith, frames_length f pages))
    ∙ sym (encode_all_set encode_frame frame_size fs q own_frame wide (length_encode_frame own_frame (zeros_length page_size)) (omega arith))
    ∙ ap (encode_all encode_frame) now

-- ---- "page p owned by board p mod N": a board's pages are every N-th from its own number on

-- the board's pages below `q`
unfoldable pub own_below : ℕ → ℕ → ℕ → ℕ → Bool
own_below boards b q p = ltb p q && eqb (p % boards) b

-- between an own page and the next there is none
between : (boards b q p : ℕ) → q % boards ≡ b → b < boards → q < p → p < q + boards → p % boards ≢ b
between boards b q p e l h k m =
    let d : ℕ = p - q in
    let s : q + d ≡ p = omega arith in
    let r : (b + d) % boards ≡ b = rw (e, s, m) at (mod-add-mod q boards d) in
    by_bool (ltb (b + d) boards)
    (λ t. let z = mod-eq_of_lt {n = b + d} {m = boards} (ltb-true (b + d) boards t) in absurd (omega arith))
    (λ t.
    let c = ltb-false (b + d) boards t in
    let y = mod-eq-sub-mod {n = b + d} {m = boards} c in
    let z = mod-eq_of_lt {n = b + d - boards} {m = boards} (omega arith) in
    absurd (omega arith))

-- the loop begins at page `b`, goes from own page `q` to `q + boards`, and ends behind the last page
module _ (boards b : ℕ) where
  pub own_first : (p : ℕ) → b < boards → own_below boards b b p ≡ false
  unfolding own_below
  own_first p l =
      by_bool (ltb p b)
      (λ t.
      let h = ltb-true p b t in
      let e : p % boards ≡ p = mod-eq_of_lt (omega arith) in
      cc (ne_eqb (p % boards) b (λ m. absurd (omega arith))))
      (λ t. cc)

  module _ (q : ℕ) (e : q % boards ≡ b) (l : b < boards) where
    pub own_waits : own_below boards b q q ≡ false
    unfolding own_below
    own_waits = cc (le-ltb q q (omega arith))

    pub own_done : own_below boards b (q + boards) q ≡ true
    unfolding own_below
    own_done = cc (lt-ltb q (q + boards) (omega arith), eq-eqb (q % boards) b e)

    pub own_other : (p : ℕ) → p ≢ q → own_below boards b q p ≡ own_below boards b (q + boards) p
    unfolding own_below
    own_other p d =
        by_bool (ltb p q)
        (λ t. let h = ltb-true p q t in cc (lt-ltb p (q + boards) (omega arith)))
        (λ t.
        let h = ltb-false p q t in
        by_bool (ltb p (q + boards))
        (λ u. let k = ltb-true p (q + boards) u in cc (ne_eqb (p % boards) b (between boards b q p e l (omega arith) k)))
        (λ u. cc))

    pub own_again : (q + boards) % boards ≡ b
    own_again = add-mod_right q boards ∙ e

  pub own_last : (q p : ℕ) → p < q → own_below boards b q p ≡ eqb (p % boards) b
  unfolding own_below
  own_last q p h = cc (lt-ltb p q h)
