-- `fields::frame::FrameEncoded::write` meets its contract. Assumes nothing.
use mathlib.Core.Path.{◌≡◌, refl}
use Prim.Native.Nat.{ℕ}
use native.Mathlib.Omega.{arith}
use mathlib.Core.List.{List, [], ◌∷◌}
use lib.ListN.{length}
use Rattle.types.specs.declared.Frame.{Frame}
use Rattle.model.specs.Definitions.Parts.{splice}
use Rattle.model.specs.Definitions.Layout.{page_size, right_at, frame_bytes_at, frame_size}
use Rattle.model.specs.Definitions.Codec.{right_byte, encode_frame}
use Rattle.fields.proofs.Splices.{splice_pair}
use Rattle.fields.proofs.frame.FrameEncoded.write.Goals as goal

-- the right's byte and the page, side by side over the whole part
written : (l m n : List ℕ) (f : Frame) (b : ℕ) → length l ≡ frame_size → length f.bytes ≡ page_size
    → b ≡ right_byte f.right → m ≡ splice l right_at (b ∷ []) → n ≡ splice m frame_bytes_at f.bytes → n ≡ encode_frame f
unfolding encode_frame
written l m n f b e g h p q = rw (q, p, h) (splice_pair l (right_byte f.right ∷ []) f.bytes frame_bytes_at refl (omega arith))

pub returns : goal.returns
returns c =
    let wrote = c.write_page in
    written _ _ _ c.args.self _ c.requires wrote.ensures.width
    c.from.ensures
    c.put.ensures wrote.ensures.bytes
