-- Records, frames, entries and blocks at a general index: what is written at any index reads back, the others are as they were, and one
-- changed element is one splice of the bytes. Instances of the laws of Parts. Assumes nothing.
use Rattle.std.specs.Prelude.{◌≡◌, refl, ℕ, ◌+◌, ◌-◌, ◌*◌, ◌≤◌, ◌<◌, List, [], ◌∷◌, ◌++◌, length, get_or, set}
use Rattle.std.proofs.Common.{sym, ap, ◌∙◌, arith, append_assoc, length-append}
use Rattle.words.specs.Bytes.{Each}
use Rattle.types.specs.declared.Frame.{Frame}
use Rattle.types.specs.declared.Record.{Record}
use Rattle.model.specs.Definitions.Parts.{part, splice, zeros, encode_all}
use Rattle.model.specs.Definitions.Layout.{slot_count, slots_size, frame_size, slot_size, entry_size, block_size, head_size, blocks_at, today}
use Rattle.model.specs.Definitions.Bank.{Entry, Board, Bank, empty_frame, no_board, board_at, entry_at, frame_at, on_board, on_entry, no_entry}
use Rattle.model.specs.Definitions.Codec.{encode_entry, encode_frame, decode_frame, encode_record, decode_record, encode_log, decode_log, decode_frames}
use Rattle.model.specs.Definitions.Codec.{encode_board, encode, encode_log_in, decode_log_in, encode_in}
use Rattle.model.specs.Definitions.WellFormed.{FrameOk, RecordOk, LogOk, FramesOk}
use Rattle.model.specs.Definitions.Steps.{appended}
use Rattle.model.proofs.Laws.Lists.{each_imp, update_set, length_update}
use Rattle.model.proofs.Laws.Parts.{Wide, part_part, index_in, each_all, get_d_decode_all, get_d_decode_all_part, decode_all_snoc, decode_all_write}
use Rattle.model.proofs.Laws.Parts.{encode_all_set, encode_all_snoc, splice_zero, splice_front, splice_append_right, splice_amid, splice_behind}
use Rattle.model.proofs.Laws.Zeros.{zeros_length, zeros_append, zeros_drop}
use Rattle.model.proofs.Laws.CodecBank.{bank_head, length_encode_entries}
use Rattle.model.proofs.Laws.CodecBack.{slot_in}
use Rattle.model.proofs.Laws.Codec.{length_encode_entry, length_encode_frame, decode_encode_frame, length_encode_record, decode_encode_record}
use Rattle.model.proofs.Laws.Codec.{length_encode_records, records_in}

-- ---- frames: any page, in the bytes of the frames, or of frames that start at place a of a longer list

pub frame_read_at : (pages : ℕ) (l : List ℕ) (a p : ℕ) → p < pages
    → frame_at (decode_frames pages (part l a (pages * frame_size))) p ≡ decode_frame (part l (a + p * frame_size) frame_size)
unfolding frame_at decode_frames
frame_read_at pages l a p h = get_d_decode_all_part decode_frame frame_size pages l a p empty_frame h

-- "of a frame at any page": a frame written at any page reads back, the other pages are as they were
pub frame_back : (pages : ℕ) (l : List ℕ) (p : ℕ) (f : Frame) → FrameOk f → p < pages → pages * frame_size ≤ length l
    → decode_frames pages (splice l (p * frame_size) (encode_frame f)) ≡ set (decode_frames pages l) p f
unfolding decode_frames
frame_back pages l p f ok h k =
    decode_all_write encode_frame decode_frame frame_size pages l p f (length_encode_frame f ok.size, decode_encode_frame f ok) h k

-- one frame changed is one splice
pub encode_set_frame : (pages : ℕ) (fs : List Frame) (p : ℕ) (f : Frame) → FramesOk pages fs → FrameOk f → p < pages
    → encode_all encode_frame (set fs p f) ≡ splice (encode_all encode_frame fs) (p * frame_size) (encode_frame f)
encode_set_frame pages fs p f all ok h =
    encode_all_set encode_frame frame_size fs p f (each_imp fs (λ g o. length_encode_frame g o.size) all.frames) (length_encode_frame f ok.size)
    (omega (arith, all.count))

-- ---- records: any slot, in the bytes of a log, or of a log that starts at place a of a longer list

pub record_read : (count : ℕ) (l : List ℕ) (i : ℕ) (d : Record) → i < count
    → get_or (decode_log count l) i d ≡ decode_record (part l (i * slot_size) slot_size)
unfolding decode_log_in
record_read count l i d h = get_d_decode_all decode_record slot_size count l i d h

pub record_read_at : (count : ℕ) (l : List ℕ) (a i : ℕ) (d : Record) → count ≤ slot_count → i < count
    → get_or (decode_log count (part l a slots_size)) i d ≡ decode_record (part l (a + i * slot_size) slot_size)
record_read_at count l a i d n h =
    record_read count (part l a slots_size) i d h ∙ ap decode_record (part_part l a slots_size (i * slot_size) slot_size (slot_in today count i n h))

-- "of a record at any slot": a record written into any slot below the count reads back, the other slots are as they were
pub record_back : (pages count : ℕ) (l : List ℕ) (i : ℕ) (r : Record) → RecordOk pages r → i < count → count * slot_size ≤ length l
    → decode_log count (splice l (i * slot_size) (encode_record r)) ≡ set (decode_log count l) i r
unfolding decode_log_in
record_back pages count l i r ok h k =
    decode_all_write encode_record decode_record slot_size count l i r (length_encode_record today r ok.size, decode_encode_record pages r ok) h k

-- a record written into the slot at the count, and the count raised: it is the last one
pub decode_appended : (pages count : ℕ) (l : List ℕ) (r : Record) → RecordOk pages r → count * slot_size ≤ length l
    → decode_log (count + 1) (splice l (count * slot_size) (encode_record r)) ≡ appended r (decode_log count l)
unfolding decode_log_in appended
decode_appended pages count l r ok k =
    rw (decode_all_snoc decode_record slot_size count l (encode_record r) (length_encode_record today r ok.size) k, decode_encode_record pages r ok)

-- a record appended is one splice, at the count: it takes the first of the zero slots
pub encode_appended : (pages : ℕ) (r : Record) (rs : List Record) → RecordOk pages r → Each (RecordOk pages) rs → length rs < slot_count
    → encode_log (appended r rs) ≡ splice (encode_log rs) (length rs * slot_size) (encode_record r)
unfolding encode_log_in appended
encode_appended pages r rs ok all h =
    let l : List ℕ = encode_all encode_record rs in
    let v : List ℕ = encode_record r in
    let e : length l ≡ length rs * slot_size = length_encode_records pages rs all in
    let n : ℕ = slots_size - length (rs ++ (r ∷ [])) * slot_size in
    let m : slots_size - length rs * slot_size ≡ slot_size + n = rw (length-append rs (r ∷ [])) (omega arith) in
    rw (
      encode_all_snoc encode_record slot_size rs r,
      append_assoc l v (zeros n),
      m,
      splice_append_right l (zeros (slot_size + n)) (length rs * slot_size) 0 v (omega arith),
      splice_zero (zeros (slot_size + n)) v slot_size (length_encode_record today r ok.size),
      zeros_drop slot_size n,
    )

-- all slots zero, or those of the records: no record is left
pub encode_no_record : encode_log [] ≡ zeros slots_size
unfolding encode_log_in encode_all
encode_no_record = refl

pub encode_flushed : (pages : ℕ) (rs : List Record) → LogOk pages rs → splice (encode_log rs) 0 (zeros (length rs * slot_size)) ≡ encode_log []
unfolding encode_log_in encode_all
encode_flushed pages rs ok =
    let n : ℕ = length rs * slot_size in
    let m : n ≤ slots_size = records_in ok in
    let e : n + (slots_size - n) ≡ slots_size = omega arith in
    splice_front (encode_all encode_record rs) (zeros n) (zeros (slots_size - n)) (length_encode_records pages rs ok.records ∙ sym (zeros_length n))
    ∙ zeros_append n (slots_size - n) ∙ ap zeros e

-- ---- entries and blocks: any page, any board

-- one entry changed is one splice
pub encode_on_entry : (k : Bank) (p : ℕ) (f : Entry → Entry) → p < length k.directory
    → encode (on_entry p f k) ≡ splice (encode k) (head_size + p * entry_size) (encode_entry (f (entry_at k p)))
unfolding encode_in on_entry entry_at
encode_on_entry k p f h =
    let d : Entry = no_entry in
    let es : List Entry = k.directory in
    let v : List ℕ = encode_entry (f (get_or es p d)) in
    let n : length v ≡ entry_size = length_encode_entry (f (get_or es p d)) in
    let m : p * entry_size + entry_size ≤ length es * entry_size = index_in entry_size (length es) p h in
    let z : length (encode_all encode_entry es) ≡ length es * entry_size = length_encode_entries es in
    rw (
      length_update p f es,
      update_set p f es d h,
      encode_all_set encode_entry entry_size es p (f (get_or es p d)) (each_all es length_encode_entry) n h,
    )
    (sym (splice_amid (bank_head k) (encode_all encode_entry es) (encode_all encode_board k.boards) (head_size + p * entry_size) (p * entry_size) v refl
    (omega arith)))

-- one board changed is one splice
pub encode_on_board : (k : Bank) (b : ℕ) (f : Board → Board) → b < length k.boards
    → Each (Wide encode_board (block_size (length k.directory))) k.boards
    → length (encode_board (f (board_at k b))) ≡ block_size (length k.directory)
    → encode (on_board b f k) ≡ splice (encode k) (blocks_at (length k.directory) + b * block_size (length k.directory)) (encode_board (f (board_at k b)))
unfolding encode_in on_board board_at
encode_on_board k b f h all e =
    let pages : ℕ = length k.directory in
    let x : Board = f (get_or k.boards b no_board) in
    let z : length (encode_all encode_entry k.directory) ≡ pages * entry_size = length_encode_entries k.directory in
    rw (length_update b f k.boards, update_set b f k.boards no_board h, encode_all_set encode_board (block_size pages) k.boards b x all e h)
    (sym (splice_behind (bank_head k) (encode_all encode_entry k.directory) (encode_all encode_board k.boards)
    (blocks_at pages + b * block_size pages) (b * block_size pages) (encode_board x) (omega arith)))
