-- The bytes of a fresh bank part by part, as the code writes them over zeros: head, directory, blocks. Assumes nothing.
use Rattle.std.specs.Prelude.{◌≡◌, refl, List, [], ◌∷◌, ◌++◌, take, drop}
use Rattle.std.proofs.Math.Path.{sym}
use Rattle.std.proofs.Common.{ap, ◌∙◌, mul-le-mul_right, arith}
use Prim.Native.Nat.{ℕ, ◌+◌, ◌*◌, ◌-◌, ◌%◌, ◌≤◌, ◌<◌}
use Rattle.std.proofs.Math.ListN.{length}
use Rattle.model.specs.Definitions.Parts.{part, splice, zeros, encode_all, tabulate}
use Rattle.model.specs.Definitions.Layout.{entry_size, block_size, head_mark0, head_mark1, boards_at, pages_at, head_size, blocks_at, bank_size}
use Rattle.model.specs.Definitions.Bank.{Entry, fresh_board, fresh}
use Rattle.model.specs.Definitions.Codec.{encode_entry, encode_board, encode, encode_in}
use Rattle.model.proofs.Laws.Lists.{length_tabulate}
use Rattle.model.proofs.Laws.Parts.{index_in, length_splice, part_at, part_part, part_splice_after, splice_next}
use Rattle.model.proofs.Laws.Codec.{length_encode_entry}
use Rattle.model.proofs.Laws.Zeros.{zeros_length}
use Rattle.model.proofs.Laws.Zeros.{zeros_append}
use Rattle.fields.proofs.Lent.{lent_written}
use Rattle.fields.proofs.Splices.{splice_triple}
use Rattle.fresh.specs.SideBySide.{all_length, one_more}
use Rattle.fresh.specs.Block.{block_wide}

-- ---- the directory, and the whole

abbrev pub fresh_entry : ℕ → ℕ → Entry
fresh_entry boards p = record { owner = p % boards; copies = 0 }

-- the bytes of the directory, and those of all blocks
abbrev pub fresh_directory : ℕ → ℕ → List ℕ
fresh_directory boards pages = encode_all encode_entry (tabulate pages (fresh_entry boards))

abbrev pub fresh_blocks : ℕ → ℕ → ℕ → List ℕ
fresh_blocks boards pages n = encode_all encode_board (tabulate n (fresh_board boards pages))

abbrev pub fresh_head : ℕ → ℕ → List ℕ
fresh_head boards pages = head_mark0 ∷ head_mark1 ∷ boards ∷ pages ∷ []

directory_length : (boards pages : ℕ) → length (fresh_directory boards pages) ≡ pages * entry_size
directory_length boards pages = all_length encode_entry entry_size (fresh_entry boards) (λ p. length_encode_entry (fresh_entry boards p)) pages

pub blocks_length : (boards pages i : ℕ) → length (fresh_blocks boards pages i) ≡ i * block_size pages
blocks_length boards pages i = all_length encode_board (block_size pages) (fresh_board boards pages) (block_wide boards pages) i

-- the head byte by byte
pub head_made : (s : List ℕ) {t₁ t₂ t₃ t₄ : List ℕ} (boards pages : ℕ) → head_size ≤ length s → t₁ ≡ splice s 0 (head_mark0 ∷ [])
    → t₂ ≡ splice t₁ 1 (head_mark1 ∷ [])
    → t₃ ≡ splice t₂ boards_at (boards ∷ []) → t₄ ≡ splice t₃ pages_at (pages ∷ []) → t₄ ≡ splice s 0 (fresh_head boards pages)
head_made s boards pages h e₁ e₂ e₃ e₄ =
    rw (
      e₄,
      e₃,
      e₂,
      e₁,
      splice_next s 0 1 (head_mark0 ∷ []) (head_mark1 ∷ []) refl (omega arith),
      splice_next s 0 boards_at (head_mark0 ∷ head_mark1 ∷ []) (boards ∷ []) refl (omega arith),
    )
    (splice_next s 0 pages_at (head_mark0 ∷ head_mark1 ∷ boards ∷ []) (pages ∷ []) refl (omega arith))

pub bank_written : (boards pages : ℕ) (s : List ℕ) → length s ≡ bank_size boards pages
    → splice (splice (splice s 0 (fresh_head boards pages)) head_size (fresh_directory boards pages)) (blocks_at pages) (fresh_blocks boards pages boards)
    ≡ encode (fresh boards pages)
unfolding encode_in fresh
bank_written boards pages s e =
    let d : length (fresh_directory boards pages) ≡ pages * entry_size = directory_length boards pages in
    let k : length (fresh_blocks boards pages boards) ≡ boards * block_size pages = blocks_length boards pages boards in
    splice_triple s (fresh_head boards pages) (fresh_directory boards pages) (fresh_blocks boards pages boards) head_size (blocks_at pages) refl (omega arith)
    (omega arith)
    ∙ rw (length_tabulate boards (fresh_board boards pages), length_tabulate pages (fresh_entry boards))

-- the bytes of all blocks are zero yet
abbrev pub BlocksZero : ℕ → ℕ → List ℕ → Type 0
BlocksZero boards pages l = part l (blocks_at pages) (boards * block_size pages) ≡ zeros (boards * block_size pages)

-- a part of zeros is zeros
part_zeros : (n a m : ℕ) → a + m ≤ n → part (zeros n) a m ≡ zeros m
part_zeros n a m h =
    let e : zeros n ≡ zeros a ++ (zeros m ++ zeros (n - (a + m))) = simp zeros_append (ap zeros (omega arith)) in
    rw e (part_at (zeros a) (zeros m) (zeros (n - (a + m))) a m (zeros_length a) (zeros_length m))

-- head and directory leave the blocks' bytes as they were
pub blocks_zero : (boards pages : ℕ) {n : ℕ} → n ≡ bank_size boards pages
    → BlocksZero boards pages (splice (splice (zeros n) 0 (fresh_head boards pages)) head_size (fresh_directory boards pages))
blocks_zero boards pages {n} e =
    let z : length (zeros n) ≡ n = zeros_length n in
    let d : length (fresh_directory boards pages) ≡ pages * entry_size = directory_length boards pages in
    let k : length (splice (zeros n) 0 (fresh_head boards pages)) ≡ n = length_splice (zeros n) 0 (fresh_head boards pages) (omega arith) ∙ z in
    part_splice_after (splice (zeros n) 0 (fresh_head boards pages)) head_size (fresh_directory boards pages) (blocks_at pages) (boards * block_size pages)
    (omega arith) (omega arith)
    ∙ part_splice_after (zeros n) 0 (fresh_head boards pages) (blocks_at pages) (boards * block_size pages) (omega arith) (omega arith)
    ∙ part_zeros n (blocks_at pages) (boards * block_size pages) (omega arith)

-- ---- a block lent: the first i blocks of l₀ are written, and `&mut l[a..a + n]` is the next one

pub record NextBlock (boards pages : ℕ) (l₀ l : List ℕ) (i a n : ℕ) : Type 0 where
  pub whole : length l₀ ≡ bank_size boards pages
  pub zero : BlocksZero boards pages l₀
  pub bytes : l ≡ splice l₀ (blocks_at pages) (fresh_blocks boards pages i)
  pub board : i < boards
  pub place : a ≡ blocks_at pages + i * block_size pages
  pub size : n ≡ block_size pages

-- blocks lie in a bank
pub blocks_in : (boards pages i : ℕ) (l₀ : List ℕ) → length l₀ ≡ bank_size boards pages → i ≤ boards
    → length (splice l₀ (blocks_at pages) (fresh_blocks boards pages i)) ≡ bank_size boards pages
blocks_in boards pages i l₀ e h =
    let n : length (fresh_blocks boards pages i) ≡ i * block_size pages = blocks_length boards pages i in
    let m : i * block_size pages ≤ boards * block_size pages = mul-le-mul_right {m = i} {n = boards} (block_size pages) h in
    length_splice l₀ (blocks_at pages) (fresh_blocks boards pages i) (omega arith) ∙ e

module _ {boards pages : ℕ} {l₀ l : List ℕ} {i a n : ℕ} (b : NextBlock boards pages l₀ l i a n) where
  pub next_kept : length l ≡ bank_size boards pages
  next_kept = rw b.bytes (blocks_in boards pages i l₀ b.whole (omega (arith, b.board)))

  pub next_in : a + n ≤ length l
  next_in =
      let m : i * block_size pages + block_size pages ≤ boards * block_size pages = index_in (block_size pages) boards i b.board in
      omega (arith, b.place, b.size, next_kept)

  pub next_lent : take (a + n - a) (drop a l) ≡ zeros (block_size pages)
  unfolding part
  next_lent =
      let size : ℕ = block_size pages in
      let m : i * size + size ≤ boards * size = index_in size boards i b.board in
      let k : length (fresh_blocks boards pages i) ≡ i * size = blocks_length boards pages i in
      let e : a + n - a ≡ size = omega (arith, b.size) in
      let kept : part l (blocks_at pages + i * size) size ≡ part l₀ (blocks_at pages + i * size) size
      = rw b.bytes (part_splice_after l₀ (blocks_at pages) (fresh_blocks boards pages i) (blocks_at pages + i * size) size (omega arith)
      (omega (arith, b.whole))) in
      rw (e, b.place)
      (kept ∙ sym (part_part l₀ (blocks_at pages) (boards * size) (i * size) size m) ∙ rw b.zero (part_zeros (boards * size) (i * size) size m))

  pub next_written : (ys : List ℕ) → length ys ≡ length (take (a + n - a) (drop a l)) → ys ≡ encode_board (fresh_board boards pages i)
      → take a l ++ (ys ++ drop (a + n - a) (drop a l)) ≡ splice l₀ (blocks_at pages) (fresh_blocks boards pages (i + 1))
  next_written ys kept e =
      lent_written l ys a n (λ x. encode_board (fresh_board boards pages i)) next_in kept e
      ∙ rw b.place
      (one_more encode_board (block_size pages) (fresh_board boards pages) (block_wide boards pages) l₀ l (blocks_at pages) i (omega (arith, b.whole)) b.bytes)
