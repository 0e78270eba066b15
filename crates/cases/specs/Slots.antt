-- Document 02's F-8 worked through: something in a slot past a count is seen and zeroed, wherever it stands; records and clean banks stay; and the store of a
-- head zeroes its slots, whole or not at all. Definitions only; the theorems are in Computed. Assumes nothing.
use Rattle.std.specs.Prelude.{ℕ, ◌+◌, ◌-◌, ◌*◌, Bool, ◌&&◌, not}
use mathlib.Core.List.{List, [], ◌∷◌, ◌++◌, foldl}
use Rattle.words.specs.LittleEndian.{bytes_of}
use Rattle.model.specs.Definitions.Parts.{part, splice, zeros, every}
use Rattle.model.specs.Definitions.Layout.{slot_count, slot_size, slots_size, slots_at, area_at, area_size, blocks_at, block_size, number_size, today}
use Rattle.model.specs.Definitions.Bank.{Bank, fresh}
use Rattle.model.specs.Definitions.Codec.{encode}
use Rattle.model.specs.Definitions.Check.{area_log_at, slots_clean, well_formed}
use Rattle.model.specs.Definitions.Steps.{Read, Write}
use Rattle.model.specs.Definitions.Calls.{Accessing, Checkpointing, Fusing, call}
use Rattle.model.specs.Definitions.Older.{clean}
use Rattle.model.proofs.History.Tests.{same_bytes}
use Rattle.cases.specs.Table.{agrees}
use Rattle.cases.specs.Peers.{bank_after}

-- one board and one page, without a record
unfoldable pub single : List ℕ
single = encode (fresh 1 1)

-- in each of its three logs the last byte of the first slot and the first byte of the last slot
unfoldable pub places : List ℕ
places =
    let ends : ℕ → List ℕ = λ log. (blocks_at 1 + log + (slot_size - 1)) ∷ (blocks_at 1 + log + (slot_count - 1) * slot_size) ∷ [] in
    ends (slots_at 1) ++ (ends (area_log_at today 1 0) ++ ends (area_log_at today 1 1))

-- something at a place
unfoldable pub with_stale : List ℕ → ℕ → List ℕ
with_stale s at = splice s at (7 ∷ [])

-- "well formed requires every slot at or past a count to be zero": each of them is seen
unfoldable pub seen : Bool
seen = well_formed single && every (λ at. not (slots_clean today (with_stale single at))) places

-- it is done, and leaves these bytes
unfoldable pub cleans_to : (before after : List ℕ) → Bool
cleans_to before after = agrees (0, 0, 0, 0) (clean before).outcome && same_bytes (clean before).bytes after

-- "One call zeroes these slots": all of them at once, and no other byte; the bank then reads, which it didn't before
unfoldable pub zeroed : Bool
zeroed =
    let stale : List ℕ = foldl with_stale single places in
    cleans_to stale single
    && (agrees (1, 0, 0, 0) (call (Accessing 0 (Read 0 0)) stale).outcome
    && agrees (0, 0, 0, 0) (call (Accessing 0 (Read 0 0)) (clean stale).bytes).outcome)

-- Board 1 took the page of board 0 and was checkpointed: its spare area has a record, and board 0's logs have some. What a count counts stays; something
-- right behind that record is seen and zeroed; what is no bank by the older rule, here by a state of 3, gets 1 and stays.
unfoldable pub kept : Bool
kept =
    let s : List ℕ = encode (bank_after (Accessing 1 (Write 0 0 5) ∷ Checkpointing 1 ∷ Accessing 0 (Read 0 0) ∷ []) (fresh 2 1)) in
    let wrong : List ℕ = splice s (blocks_at 1) (3 ∷ []) in
    let behind : List ℕ = with_stale s (blocks_at 1 + block_size 1 + area_log_at today 1 0 + slot_size) in
    cleans_to s s
    && (not (slots_clean today behind) && (cleans_to behind s && (agrees (1, 0, 0, 0) (clean wrong).outcome && same_bytes (clean wrong).bytes wrong)))

-- ---- the store of a head

-- board 1's area 0, in bytes, after a second checkpoint with this fuse; its first left a record there
unfoldable pub area_after : (fuse : ℕ) → List ℕ
area_after fuse =
    let k : Bank = bank_after (Accessing 1 (Write 0 0 5) ∷ Checkpointing 1 ∷ Fusing 1 fuse ∷ Checkpointing 1 ∷ []) (fresh 2 1) in
    part (encode k) (blocks_at 1 + block_size 1 + area_at 1 0) (area_size 1)

-- an own frame, the page's byte 0 written
unfoldable pub frame_of_five : List ℕ
frame_of_five = 2 ∷ 5 ∷ zeros 15

-- "The store of an area head now also zeroes its 32 slots": after the frame's store the record stands and its count is 1; after the head's, number, count and
-- slots are the new ones
unfoldable pub head_zeroes : Bool
head_zeroes =
    let got : List ℕ = 71 ∷ 79 ∷ 0 ∷ 0 ∷ (bytes_of 4 0 ++ zeros 16) in
    same_bytes (area_after 1) (bytes_of number_size 0 ++ (1 ∷ (frame_of_five ++ (got ++ zeros ((slot_count - 1) * slot_size)))))
    && same_bytes (area_after 2) (bytes_of number_size 1 ++ (0 ∷ (frame_of_five ++ zeros slots_size)))
