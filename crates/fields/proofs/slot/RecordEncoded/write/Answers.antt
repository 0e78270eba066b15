-- `fields::slot::RecordEncoded::write` meets its contract. Assumes nothing.
use mathlib.Core.Path.{◌≡◌}
use Prim.Native.Nat.{ℕ}
use native.Mathlib.Omega.{arith}
use mathlib.Core.List.{List}
use lib.ListN.{length}
use Rattle.words.specs.LittleEndian.{bytes_of}
use Rattle.words.specs.LittleEndianLaws.{length_bytes_of}
use Rattle.types.specs.declared.Record.{Record}
use Rattle.model.specs.Definitions.Parts.{splice}
use Rattle.model.specs.Definitions.Layout.{page_size, since_size, mark0_at, record_count_at, slot_bytes_at, slot_size}
use Rattle.model.specs.Definitions.Codec.{encode_record}
use Rattle.fields.specs.SlotParts.{front_bytes, encode_record_parts, length_front_bytes}
use Rattle.fields.proofs.Splices.{splice_triple}
use Rattle.fields.proofs.slot.RecordEncoded.write.Goals as goal

-- the front, the count and the page, side by side over the whole slot
written : (l m n o : List ℕ) (r : Record) → length l ≡ slot_size → length r.bytes ≡ page_size → m ≡ splice l mark0_at (front_bytes r.kind r.peer)
    → n ≡ splice m record_count_at (bytes_of since_size r.count) → o ≡ splice n slot_bytes_at r.bytes
    → o ≡ encode_record r
written l m n o r e g p q s =
    let h : length (front_bytes r.kind r.peer) ≡ record_count_at = length_front_bytes r.kind r.peer in
    let k : length (bytes_of since_size r.count) ≡ since_size = length_bytes_of since_size r.count in
    rw (s, q, p, encode_record_parts r)
    (splice_triple l (front_bytes r.kind r.peer) (bytes_of since_size r.count) r.bytes record_count_at slot_bytes_at h (omega arith) (omega arith))

pub returns : goal.returns
returns c =
    let wrote = c.write_page in
    written _ _ _ _ c.args.self c.requires wrote.ensures.width
    c.write_front.ensures
    (rw c.from.ensures at c.put_number.ensures) wrote.ensures.bytes
