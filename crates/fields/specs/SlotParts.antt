-- The parts of a slot that are written one by one, and how they make a record's bytes. Assumes nothing.
use Rattle.std.specs.Prelude.{◌≡◌, refl, ℕ, List, [], ◌∷◌, ◌++◌, length}
use Rattle.words.specs.LittleEndian.{bytes_of}
use Rattle.types.specs.declared.Kind.{Kind}
use Rattle.types.specs.declared.Record.{Record}
use Rattle.model.specs.Definitions.Layout.{since_size, record_count_at}
use Rattle.model.specs.Definitions.Codec.{mark0, mark1, page_of, encode_record, encode_record_in}

-- "a two-byte mark, page", and the byte that "names a board" (document 02, F-6)
unfoldable pub front_bytes : Kind → (peer : ℕ) → List ℕ
front_bytes k peer = mark0 k ∷ mark1 k ∷ page_of k ∷ peer ∷ []

pub length_front_bytes : (k : Kind) (peer : ℕ) → length (front_bytes k peer) ≡ record_count_at
unfolding front_bytes
length_front_bytes k peer = refl

pub encode_record_parts : (r : Record) → encode_record r ≡ front_bytes r.kind r.peer ++ (bytes_of since_size r.count ++ r.bytes)
unfolding front_bytes encode_record_in
encode_record_parts r = refl
