-- What the writes of a fuse leave in a block. Assumes nothing.
use Rattle.std.specs.Prelude.{◌≡◌, ℕ, ◌-◌, Bool, false, List, eqb}
use Rattle.std.proofs.Math.Path.{sym}
use Rattle.std.proofs.Common.{◌∙◌, ne_eqb}
use Rattle.words.specs.LittleEndian.{bytes_of, number_of}
use Rattle.model.specs.Definitions.Parts.{part, splice}
use Rattle.model.specs.Definitions.Layout.{no_fuse, fuse_size, fuse_at}
use Rattle.model.specs.Definitions.Bank.{Board}
use Rattle.model.specs.Definitions.Codec.{encode_board, decode_board_in}
use Rattle.model.specs.Definitions.Steps.{with_fuse, burnt}
use Rattle.model.proofs.Laws.BlockFields.{write_fuse}
use Rattle.model.proofs.Laws.BlockWorking.{burnt_none}
use Rattle.steps.specs.Blocks.{IsBlock, board_of}

burnt_lowered : (x : Board) (v : ℕ) → (x.fuse ≡ no_fuse → ⊥) → x.fuse - 1 ≡ v → burnt x ≡ with_fuse v x
unfolding burnt
burnt_lowered x v n e = cc (ne_eqb x.fuse no_fuse n)

module _ {pages : ℕ} {l : List ℕ} (b : IsBlock pages l) where
  pub fuse_bytes : (n : ℕ) → splice l fuse_at (bytes_of fuse_size n) ≡ encode_board (with_fuse n (board_of pages l))
  fuse_bytes n = rw b.back at (write_fuse (board_of pages l) n)

  -- one store, by the fuse that is read
  module _ (n : ℕ) (r : n ≡ number_of (part l fuse_at fuse_size)) where
    fuse_read : (board_of pages l).fuse ≡ n
    unfolding decode_board_in
    fuse_read = sym r

    -- no fuse is set: nothing is written
    pub burn_unset : n ≡ no_fuse → (false ≡ eqb (burnt (board_of pages l)).fuse 0) × (l ≡ encode_board (burnt (board_of pages l)))
    burn_unset e =
        let s : burnt (board_of pages l) ≡ board_of pages l = burnt_none (board_of pages l) (fuse_read ∙ e) in
        (rw (s, fuse_read, e), rw s (sym b.back))

    -- a set one, lowered to v
    pub burn_lowered : (m : List ℕ) (v : ℕ) (t : Bool) → m ≡ splice l fuse_at (bytes_of fuse_size v) → (n ≡ no_fuse → ⊥) → n - 1 ≡ v → t ≡ eqb v 0
        → (t ≡ eqb (burnt (board_of pages l)).fuse 0) × (m ≡ encode_board (burnt (board_of pages l)))
    unfolding with_fuse
    burn_lowered m v t w h e q =
        let f : burnt (board_of pages l) ≡ with_fuse v (board_of pages l)
        = burnt_lowered (board_of pages l) v (λ i. h (sym fuse_read ∙ i)) (rw fuse_read e) in
        (rw f q, w ∙ rw f (fuse_bytes v))
