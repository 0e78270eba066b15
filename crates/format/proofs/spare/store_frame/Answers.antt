-- `format::spare::store_frame` meets its contract: the spare area is lent. Assumes nothing.
use native.Mathlib.Omega.{arith}
use Prim.Native.Nat.{◌+◌, ◌*◌}
use Rattle.model.specs.Definitions.Layout.{area_frames_at, frame_size}
use Rattle.model.specs.Definitions.Parts.{splice}
use Rattle.model.specs.Definitions.Codec.{encode_frame}
use Rattle.format.proofs.LentArea.{lent_area_written}
use Rattle.format.proofs.spare.store_frame.Goals as goal

pub returns : goal.returns
returns c =
    let wrote = c.write_page_frame in
    lent_area_written c.args.block.now _ _ _ _ c.spare_at-a.ensures.place
    c.area_size-size.ensures
    wrote.new.area (λ a. splice a (area_frames_at + c.args.page * frame_size) (encode_frame c.args.frame))
    (omega arith) wrote.auto.area wrote.ensures
