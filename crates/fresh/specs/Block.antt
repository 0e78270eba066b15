-- The bytes of a fresh board's block as the code makes them: zeros, the fuse, and right own for each own page in three places. Assumes nothing.
use Rattle.std.specs.Prelude.{◌≡◌, refl, List, [], ◌∷◌, ◌++◌, length}
use Rattle.std.proofs.Common.{sym, ◌∙◌, add-zero, arith, append_assoc, length-append}
use Rattle.std.proofs.Math.Path.{ap}
use Prim.Native.Nat.{ℕ, ◌+◌, ◌*◌, ◌-◌, ◌%◌, ◌≤◌, ◌<◌}
use Rattle.std.proofs.Math.Bool.{Bool}
use Rattle.std.proofs.Math.Dec.{eqb}
use Rattle.words.specs.LittleEndian.{bytes_of}
use Rattle.words.specs.LittleEndianLaws.{length_bytes_of}
use Rattle.types.specs.declared.Right.TheVariants.{Own}
use Rattle.model.specs.Definitions.Parts.{splice, zeros, encode_all}
use Rattle.model.specs.Definitions.Layout.{no_fuse, fuse_size, number_size, right_at, frame_size, slots_size, fuse_at, number_at, frames_at, area_at, area_frames_at}
use Rattle.model.specs.Definitions.Layout.{block_size}
use Rattle.model.specs.Definitions.Bank.{fresh_frames, fresh_board}
use Rattle.model.specs.Definitions.Codec.{right_byte, state_byte, selector_byte, encode_frame, encode_fixed, encode_board, encode_area_in, encode_fixed_in}
use Rattle.model.specs.Definitions.Codec.{encode_stable_in, encode_board_in}
use Rattle.model.proofs.Laws.Parts.{length_splice, splice_amid, splice_at}
use Rattle.model.proofs.Laws.Zeros.{zeros_length}
use Rattle.model.proofs.Laws.CodecAt.{encode_no_record}
use Rattle.model.proofs.Laws.Zeros.{zeros_append}
use Rattle.fresh.specs.Rights.{frame_where, frames_where, frames_length, frames_same, frames_none, frames_next, own_below, own_first, own_waits, own_done}
use Rattle.fresh.specs.Rights.{own_other, own_last}

-- ---- a block: zeros but for the fuse and the rights of the own pages, three times

-- a fresh block up to its frames
abbrev pub fixed_bytes : List ℕ
fixed_bytes = (zeros fuse_at ++ bytes_of fuse_size no_fuse) ++ zeros (frames_at - number_at)

-- a fresh block whose frames have the bytes `v`, and those of its areas too
unfoldable pub block_with : List ℕ → List ℕ
block_with v =
    let log : List ℕ = zeros slots_size in
    let head : List ℕ = zeros area_frames_at in
    fixed_bytes ++ (v ++ (log ++ ((head ++ (v ++ log)) ++ (head ++ (v ++ log)))))

fixed_length : length fixed_bytes ≡ frames_at
unfolding zeros bytes_of
fixed_length = refl

block_with_length : (pages : ℕ) (v : List ℕ) → length v ≡ pages * frame_size → length (block_with v) ≡ block_size pages
unfolding block_with
block_with_length pages v n = simp (length-append, zeros_length, length_bytes_of) (omega arith)

-- the same bytes `w` written into each of three equal runs
thrice : (u v x y z w : List ℕ) (a₀ a₁ a₂ i : ℕ) → length u ≡ a₀ → a₀ + (length v + length x) ≡ a₁ → a₁ + (length v + length y) ≡ a₂ → i + length w ≤ length v
    → splice (splice (splice (u ++ (v ++ (x ++ (v ++ (y ++ (v ++ z)))))) (a₀ + i) w) (a₁ + i) w) (a₂ + i) w
    ≡ u ++ (splice v i w ++ (x ++ (splice v i w ++ (y ++ (splice v i w ++ z)))))
thrice u v x y z w a₀ a₁ a₂ i h₀ h₁ h₂ l =
    let t : List ℕ = splice v i w in
    let p : List ℕ = u ++ (t ++ x) in
    let q : List ℕ = p ++ (t ++ y) in
    let n : length t ≡ length v = length_splice v i w l in
    let lp : length p ≡ length u + (length t + length x) = simp length-append in
    let lq : length q ≡ length p + (length t + length y) = simp length-append in
    let e₀ : splice (u ++ (v ++ (x ++ (v ++ (y ++ (v ++ z)))))) (a₀ + i) w ≡ p ++ (v ++ (y ++ (v ++ z)))
    = splice_amid u v (x ++ (v ++ (y ++ (v ++ z)))) (a₀ + i) i w (omega arith) l ∙ simp append_assoc in
    let e₁ : splice (p ++ (v ++ (y ++ (v ++ z)))) (a₁ + i) w ≡ q ++ (v ++ z)
    = splice_amid p v (y ++ (v ++ z)) (a₁ + i) i w (omega arith) l ∙ simp append_assoc in
    rw (e₀, e₁, splice_amid q v z (a₂ + i) i w (omega arith) l) (simp append_assoc)

-- right own for a page in the block's frames and in those of both areas
unfoldable pub owned : ℕ → ℕ → List ℕ → List ℕ
owned pages p l =
    let at : ℕ = p * frame_size + right_at in
    let own : List ℕ = right_byte Own ∷ [] in
    splice (splice (splice l (frames_at + at) own) (area_at pages 0 + area_frames_at + at) own) (area_at pages 1 + area_frames_at + at) own

-- byte by byte
pub owned_made : (pages p : ℕ) (s : List ℕ) {t₁ t₂ t₃ : List ℕ} {own a₀ a₁ : ℕ} → own ≡ right_byte Own
    → t₁ ≡ splice s (frames_at + (p * frame_size + right_at)) (own ∷ [])
    → a₀ ≡ area_at pages 0 → t₂ ≡ splice t₁ (a₀ + area_frames_at + (p * frame_size + right_at)) (own ∷ [])
    → a₁ ≡ area_at pages 1 → t₃ ≡ splice t₂ (a₁ + area_frames_at + (p * frame_size + right_at)) (own ∷ []) → t₃ ≡ owned pages p s
unfolding owned
owned_made pages p s e e₁ h₀ e₂ h₁ e₃ = rw (e₃, h₁, e₂, h₀, e₁, e)

-- a page's three rights are one byte in the frames
owned_with : (pages p : ℕ) (v : List ℕ) → length v ≡ pages * frame_size → p < pages
    → owned pages p (block_with v) ≡ block_with (splice v (p * frame_size) (right_byte Own ∷ []))
unfolding owned block_with
owned_with pages p v n h =
    let s : length (zeros slots_size) ≡ slots_size = zeros_length slots_size in
    let c : length (zeros area_frames_at) ≡ area_frames_at = zeros_length area_frames_at in
    let x : List ℕ = zeros slots_size ++ zeros area_frames_at in
    let m : length x ≡ slots_size + area_frames_at = simp length-append (omega arith) in
    simp (append_assoc, add-zero)
    (simp append_assoc at
    (thrice fixed_bytes v x x (zeros slots_size) (right_byte Own ∷ []) frames_at (area_at pages 0 + area_frames_at) (area_at pages 1 + area_frames_at)
    (p * frame_size) fixed_length (omega arith) (omega arith) (omega arith)))

-- ---- from zeros to a fresh board

fixed_bytes_lem : (boards pages b : ℕ) → encode_fixed (fresh_board boards pages b) ≡ fixed_bytes
unfolding encode_fixed_in fresh_board state_byte selector_byte bytes_of zeros
fixed_bytes_lem boards pages b = refl

head_bytes : (l : List ℕ) → bytes_of number_size 0 ++ 0 ∷ l ≡ zeros area_frames_at ++ l
unfolding bytes_of zeros
head_bytes l = refl

-- the fuse over zeros: all frames are empty
fused : (pages : ℕ) → splice (zeros (block_size pages)) fuse_at (bytes_of fuse_size no_fuse) ≡ block_with (zeros (pages * frame_size))
unfolding block_with
fused pages =
    let rest : ℕ = block_size pages - number_at in
    let e : zeros (block_size pages) ≡ zeros fuse_at ++ (zeros fuse_size ++ zeros rest) = simp zeros_append (ap zeros (omega arith)) in
    rw e
    (splice_at (zeros fuse_at) (zeros fuse_size) (bytes_of fuse_size no_fuse) (zeros rest) fuse_at (zeros_length fuse_at)
    (zeros_length fuse_size ∙ sym (length_bytes_of fuse_size no_fuse))
    ∙ simp (append_assoc, zeros_append) (ap (λ (n : ℕ). zeros fuse_at ++ (bytes_of fuse_size no_fuse ++ zeros n)) (omega arith)))

module _ (boards pages b : ℕ) where
  block_bytes : block_with (frames_where (λ p. eqb (p % boards) b) pages) ≡ encode_board (fresh_board boards pages b)
  unfolding block_with frame_where encode_board_in encode_stable_in encode_area_in fresh_board fresh_frames
  block_bytes =
      rw (fixed_bytes_lem boards pages b, encode_no_record, head_bytes (encode_all encode_frame (fresh_frames boards pages b) ++ zeros slots_size))

  pub block_wide : length (encode_board (fresh_board boards pages b)) ≡ block_size pages
  block_wide =
      let own : ℕ → Bool = λ p. eqb (p % boards) b in
      rw (← block_bytes) (block_with_length pages (frames_where own pages) (frames_length own pages))

  -- the block with the rights of the board's pages below `q`
  unfoldable pub block_below : ℕ → List ℕ
  block_below q = block_with (frames_where (own_below boards b q) pages)

  pub below_length : (q : ℕ) → length (block_below q) ≡ block_size pages
  unfolding block_below
  below_length q = block_with_length pages (frames_where (own_below boards b q) pages) (frames_length (own_below boards b q) pages)

  -- the loop's invariant, where it begins, after a turn and at its end
  pub below_first : b < boards → splice (zeros (block_size pages)) fuse_at (bytes_of fuse_size no_fuse) ≡ block_below b
  unfolding block_below
  below_first l = fused pages ∙ rw (frames_none (own_below boards b b) pages (λ p _. own_first boards b p l))

  pub below_next : (q : ℕ) → q % boards ≡ b → b < boards → q < pages → owned pages q (block_below q) ≡ block_below (q + boards)
  unfolding block_below
  below_next q e l h =
      let f : ℕ → Bool = own_below boards b q in
      let g : ℕ → Bool = own_below boards b (q + boards) in
      owned_with pages q (frames_where f pages) (frames_length f pages) h
      ∙ ap block_with (frames_next f g pages q (own_waits boards b q e l) (own_done boards b q e l) (own_other boards b q e l) h)

  pub below_last : (q : ℕ) → pages ≤ q → block_below q ≡ encode_board (fresh_board boards pages b)
  unfolding block_below
  below_last q h =
      ap block_with (frames_same (own_below boards b q) (λ p. eqb (p % boards) b) pages (λ p l. own_last boards b q p (omega arith))) ∙ block_bytes
