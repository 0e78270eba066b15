-- What was read writes back, of the bank: what the executable test says of the bytes, and that bytes which pass it are the bytes of what they are read as, but
-- for the slots past a count, which are written zero. Assumes nothing.
use Rattle.std.specs.Prelude.{◌≡◌, refl, Bool, true, ◌&&◌, length, get_or, ltb}
use Rattle.std.proofs.Math.Path.{sym, ap}
use Rattle.std.proofs.Common.{◌∙◌, arith, length-drop, take-append-drop, leb-true, ltb-true, eqb-true, le-leb, lt-ltb, eq-eqb}
use Prim.Native.Nat.{ℕ, ◌+◌, ◌*◌, ◌≤◌, ◌<◌}
use mathlib.Core.List.{List, [], ◌∷◌, ◌++◌, append-nil}
use Rattle.std.proofs.Math.ListN.{drop, drop_of_length-le}
use Rattle.words.specs.Bytes.{Each, Bytes}
use Rattle.model.specs.Definitions.Parts.{part, splice, byte_at, encode_all, decode_all, every}
use Rattle.model.specs.Definitions.Layout.{byte_values, owner_at, copies_at, most_boards, most_pages, entry_size, head_mark0, head_mark1, head_mark0_at}
use Rattle.model.specs.Definitions.Layout.{head_mark1_at, head_size, boards_at, pages_at, blocks_at, block_size_in, bank_size_in, Form}
use Rattle.model.specs.Definitions.Bank.{board_at, entry_at, no_board}
use Rattle.model.specs.Definitions.Codec.{encode_entry, decode_entry, encode_board_in, decode_board_in, encode_in, decode_in}
use Rattle.model.specs.Definitions.Check.{head_valid, directory_valid, fields_valid, block_fits, directory_of, blocks_fit, logs_valid, block_of_in, formed_in}
use Rattle.model.specs.Definitions.Check.{slot_valid, slot_peer_valid, records_pass, peers_valid}
use Rattle.model.specs.Definitions.Older.{cleaned_block, cleaned_in}
use Rattle.model.proofs.Laws.Logic.{clash, by_bool, and_left, and_right, and_both}
use Rattle.model.proofs.Laws.Lists.{every_below_at, every_below_all, every_each, each_every, each_of_get_d}
use Rattle.model.proofs.Laws.Parts.{get_d_decode_all, each_part, length_part, part_rest, part_drop, byte_rest, index_in, encode_all_decode_all_all}
use Rattle.model.proofs.Laws.Parts.{length_decode_all, length_encode_all, part_encode_all, part_last, part_splice, part_splice_before, part_splice_inside}
use Rattle.model.proofs.Laws.Parts.{same_byte, length_splice}
use Rattle.model.proofs.Laws.Parts.{splice_of, encode_all_decode_all_by}
use Rattle.model.proofs.Laws.CodecBack.{Readable}
use Rattle.model.proofs.Laws.Cleaned.{length_cleaned_block, cleaned_back}
use Rattle.model.proofs.Laws.BoardTests.{says_readable}

-- ---- what the test says

-- what the test of a head says
pub record HeadOk (form : Form) (s : List ℕ) : Type 0 where
  pub first : byte_at s head_mark0_at ≡ head_mark0
  pub second : byte_at s head_mark1_at ≡ head_mark1
  pub some_board : 0 < byte_at s boards_at
  pub boards : byte_at s boards_at ≤ most_boards
  pub some_page : 0 < byte_at s pages_at
  pub pages : byte_at s pages_at ≤ most_pages
  pub size : length s ≡ bank_size_in form (byte_at s boards_at) (byte_at s pages_at)

pub head_ok : {form : Form} (s : List ℕ) → head_valid form s ≡ true → HeadOk form s
unfolding head_valid
head_ok {form} s v =
    record {
      first = eqb-true (byte_at s head_mark0_at) head_mark0 (and_left _ _ v);
      second = eqb-true (byte_at s head_mark1_at) head_mark1 (search (and_left, and_right));
      some_board = ltb-true 0 (byte_at s boards_at) (search (and_left, and_right));
      boards = leb-true (byte_at s boards_at) most_boards (search (and_left, and_right));
      some_page = ltb-true 0 (byte_at s pages_at) (search (and_left, and_right));
      pages = leb-true (byte_at s pages_at) most_pages (search (and_left, and_right));
      size = eqb-true (length s) (bank_size_in form (byte_at s boards_at) (byte_at s pages_at)) (search (and_left, and_right));
    }

-- the two letters
abbrev HeadMarks : List ℕ → Type 0
HeadMarks s = (byte_at s head_mark0_at ≡ head_mark0) × (byte_at s head_mark1_at ≡ head_mark1)

-- what the test of the bytes says: of the head, of all bytes, of the directory and of each block
pub record BytesOk (form : Form) (named : Bool) (s : List ℕ) : Type 0 where
  pub head : HeadOk form s
  pub bytes : Bytes s
  pub entries : directory_valid (byte_at s boards_at) (byte_at s pages_at) (directory_of (byte_at s pages_at) s) ≡ true
  pub fits : (b : ℕ) → b < byte_at s boards_at → block_fits form (byte_at s pages_at) (directory_of (byte_at s pages_at) s) (block_of_in form (byte_at s pages_at) s b) b
      ≡ true
  pub records : (b : ℕ) → b < byte_at s boards_at → records_pass form (slot_valid form (byte_at s pages_at)) (byte_at s pages_at) (block_of_in form (byte_at s pages_at) s b)
      ≡ true
  pub peers : (b : ℕ) → b < byte_at s boards_at → records_pass form (slot_peer_valid named (byte_at s boards_at) b) (byte_at s pages_at) (block_of_in form (byte_at s pages_at) s b)
      ≡ true

pub bytes_ok : {form : Form} {named : Bool} (s : List ℕ) → formed_in form named s ≡ true → BytesOk form named s
unfolding formed_in blocks_fit logs_valid peers_valid
bytes_ok {form} {named} s v =
    by_bool (head_valid form s)
    (λ t.
    let n : ℕ = byte_at s boards_at in
    let pages : ℕ = byte_at s pages_at in
    let d : List ℕ = directory_of pages s in
    let r : (every (λ b. ltb b byte_values) s && (directory_valid n pages d && (blocks_fit form n pages s
    && (logs_valid form n pages s && peers_valid form named n pages s)))) ≡ true = cc in
    let f : blocks_fit form n pages s ≡ true = search (and_left, and_right) in
    let g : logs_valid form n pages s ≡ true = search (and_left, and_right) in
    let m : peers_valid form named n pages s ≡ true = search (and_left, and_right) in
    record {
      head = head_ok s t;
      bytes = every_each (λ b. ltb b byte_values) s (λ b h. ltb-true b byte_values h) (and_left _ _ r);
      entries = search (and_left, and_right);
      fits = λ b h. every_below_at n b (λ c. block_fits form pages d (block_of_in form pages s c) c) f h;
      records = λ b h. every_below_at n b (λ c. records_pass form (slot_valid form pages) pages (block_of_in form pages s c)) g h;
      peers = λ b h. every_below_at n b (λ c. records_pass form (slot_peer_valid named n c) pages (block_of_in form pages s c)) m h;
    })
    (λ t. clash v (cc))

-- and all that it says
pub test_head : {form : Form} (s : List ℕ) → HeadOk form s → head_valid form s ≡ true
unfolding head_valid
test_head {form} s h =
    let n : ℕ = byte_at s boards_at in
    let pages : ℕ = byte_at s pages_at in
    and_both (eq-eqb (byte_at s head_mark0_at) head_mark0 h.first)
    (and_both (eq-eqb (byte_at s head_mark1_at) head_mark1 h.second)
    (and_both
    (and_both (lt-ltb 0 n h.some_board)
    (and_both (le-leb n most_boards h.boards) (and_both (lt-ltb 0 pages h.some_page) (le-leb pages most_pages h.pages))))
    (eq-eqb (length s) (bank_size_in form n pages) h.size)))

pub test_bytes : {form : Form} {named : Bool} (s : List ℕ) → BytesOk form named s → formed_in form named s ≡ true
unfolding formed_in blocks_fit logs_valid peers_valid
test_bytes s ok =
    let n : ℕ = byte_at s boards_at in
    rw (test_head s ok.head, formed_in)
    (and_both (each_every (λ b. ltb b byte_values) s (λ b h. lt-ltb b byte_values h) ok.bytes)
    (and_both ok.entries
    (and_both (every_below_all n _ ok.fits) (and_both (every_below_all n _ ok.records) (every_below_all n _ ok.peers)))))

-- ---- the directory

pub encode_decode_entry : (l : List ℕ) → length l ≡ entry_size → encode_entry (decode_entry l) ≡ l
unfolding encode_entry decode_entry
encode_decode_entry l e =
    let d : drop entry_size l ≡ [] = drop_of_length-le l {i = entry_size} (omega arith) in
    rw d at (ap (λ (r : List ℕ). byte_at l owner_at ∷ r) (byte_rest l copies_at (omega arith)) ∙ byte_rest l owner_at (omega arith))

pub encode_decode_entries : (pages : ℕ) (l : List ℕ) → length l ≡ pages * entry_size
    → encode_all encode_entry (decode_all decode_entry entry_size pages l) ≡ l
encode_decode_entries pages l e =
    encode_all_decode_all_all encode_entry decode_entry entry_size pages l
    (λ p h.
    let m : p * entry_size + entry_size ≤ pages * entry_size = index_in entry_size pages p h in
    encode_decode_entry (part l (p * entry_size) entry_size) (length_part l (p * entry_size) entry_size (omega arith)))
    e

-- ---- the blocks

-- element i of n that start at place a is inside
inside : (a w n i size : ℕ) → size ≡ a + n * w → i < n → a + i * w + w ≤ size
inside a w n i size e h = let m : i * w + w ≤ n * w = index_in w n i h in omega arith

length_behind : (l : List ℕ) (a n : ℕ) → length l ≡ a + n → length (drop a l) ≡ n
length_behind l a n e = rw (length-drop a l) (omega arith)

pub decode_boards : (form : Form) (s : List ℕ) → length (decode_in form s).boards ≡ byte_at s boards_at
unfolding decode_in
decode_boards form s =
    length_decode_all (decode_board_in form (byte_at s pages_at)) (block_size_in form (byte_at s pages_at)) (byte_at s boards_at) (drop (blocks_at (byte_at s pages_at)) s)

pub decode_pages : (form : Form) (s : List ℕ) → length (decode_in form s).directory ≡ byte_at s pages_at
unfolding decode_in
decode_pages form s = length_decode_all decode_entry entry_size (byte_at s pages_at) (part s head_size (byte_at s pages_at * entry_size))

-- the block of any board is what its reader is given
pub part_block_of : (form : Form) (pages : ℕ) (s : List ℕ) (b : ℕ) → part (drop (blocks_at pages) s) (b * block_size_in form pages) (block_size_in form pages)
    ≡ block_of_in form pages s b
unfolding block_of_in
part_block_of form pages s b = part_drop s (blocks_at pages) (b * block_size_in form pages) (block_size_in form pages)

pub board_read : (form : Form) (s : List ℕ) (b : ℕ) → b < byte_at s boards_at
    → board_at (decode_in form s) b ≡ decode_board_in form (byte_at s pages_at) (block_of_in form (byte_at s pages_at) s b)
unfolding board_at decode_in
board_read form s b h =
    get_d_decode_all (decode_board_in form (byte_at s pages_at)) (block_size_in form (byte_at s pages_at)) (byte_at s boards_at)
    (drop (blocks_at (byte_at s pages_at)) s) b no_board h
    ∙ rw (part_block_of form (byte_at s pages_at) s b)

pub entry_read : (form : Form) (s : List ℕ) (p : ℕ) → p < byte_at s pages_at
    → entry_at (decode_in form s) p ≡ decode_entry (part (directory_of (byte_at s pages_at) s) (p * entry_size) entry_size)
unfolding decode_in entry_at directory_of
entry_read form s p h = get_d_decode_all decode_entry entry_size (byte_at s pages_at) (part s head_size (byte_at s pages_at * entry_size)) p _ h

module _ {form : Form} {named : Bool} (s : List ℕ) (ok : BytesOk form named s) where
  pub length_block_of : (b : ℕ) → b < byte_at s boards_at → length (block_of_in form (byte_at s pages_at) s b) ≡ block_size_in form (byte_at s pages_at)
  unfolding block_of_in
  length_block_of b h =
      let pages : ℕ = byte_at s pages_at in
      length_part s (blocks_at pages + b * block_size_in form pages) (block_size_in form pages)
      (inside (blocks_at pages) (block_size_in form pages) (byte_at s boards_at) b (length s) ok.head.size h)

  pub bytes_block_of : (b : ℕ) → Bytes (block_of_in form (byte_at s pages_at) s b)
  unfolding block_of_in
  bytes_block_of b = each_part s (blocks_at (byte_at s pages_at) + b * block_size_in form (byte_at s pages_at)) (block_size_in form (byte_at s pages_at)) ok.bytes

  pub block_readable : (b : ℕ) → b < byte_at s boards_at → Readable form (byte_at s pages_at) (block_of_in form (byte_at s pages_at) s b)
  unfolding block_fits
  block_readable b h =
      let l : List ℕ = block_of_in form (byte_at s pages_at) s b in
      (says_readable (byte_at s pages_at) l).0 (and_both (and_left (fields_valid form (byte_at s pages_at) l) _ (ok.fits b h)) (ok.records b h))

  -- each block is written with zero slots past its counts
  pub block_back : (b : ℕ) → b < byte_at s boards_at
      → encode_board_in form (decode_board_in form (byte_at s pages_at) (block_of_in form (byte_at s pages_at) s b))
      ≡ cleaned_block form (byte_at s pages_at) (block_of_in form (byte_at s pages_at) s b)
  block_back b h =
      cleaned_back form (byte_at s pages_at) (block_of_in form (byte_at s pages_at) s b) (length_block_of b h) (block_readable b h) (bytes_block_of b)

-- ---- the bank

-- the blocks of a bank, one behind the other, each made clean
abbrev pub cleaned_blocks : Form → List ℕ → List ℕ
cleaned_blocks form s =
    encode_all (cleaned_block form (byte_at s pages_at))
    (decode_all (λ l. l) (block_size_in form (byte_at s pages_at)) (byte_at s boards_at) (drop (blocks_at (byte_at s pages_at)) s))

-- bytes of a bank's length, whatever they are
module _ (form : Form) (s : List ℕ) (size : length s ≡ bank_size_in form (byte_at s boards_at) (byte_at s pages_at)) where
  abbrev n : ℕ
  n = byte_at s boards_at

  abbrev pages : ℕ
  pages = byte_at s pages_at

  -- the blocks, as they are cut out
  abbrev blocks : List (List ℕ)
  blocks = decode_all (λ l. l) (block_size_in form pages) n (drop (blocks_at pages) s)

  block_at : (b : ℕ) → b < n → get_or blocks b [] ≡ block_of_in form pages s b
  block_at b h = get_d_decode_all (λ l. l) (block_size_in form pages) n (drop (blocks_at pages) s) b [] h ∙ part_block_of form pages s b

  pub block_size : (b : ℕ) → b < n → length (block_of_in form pages s b) ≡ block_size_in form pages
  unfolding block_of_in
  block_size b h =
      length_part s (blocks_at pages + b * block_size_in form pages) (block_size_in form pages)
      (inside (blocks_at pages) (block_size_in form pages) n b (length s) size h)

  wide_blocks : Each (λ l. length (cleaned_block form pages l) ≡ block_size_in form pages) blocks
  wide_blocks =
      each_of_get_d blocks []
      (λ b h.
      let m : b < n = rw (length_decode_all (λ l. l) (block_size_in form pages) n (drop (blocks_at pages) s)) at h in
      rw (block_at b m) (length_cleaned_block form pages (block_of_in form pages s b) (block_size b m)))

  length_blocks : length (cleaned_blocks form s) ≡ n * block_size_in form pages
  length_blocks =
      length_encode_all (cleaned_block form pages) (block_size_in form pages) blocks wide_blocks
      ∙ rw (length_decode_all (λ l. l) (block_size_in form pages) n (drop (blocks_at pages) s))

  pub length_cleaned_in : length (cleaned_in form s) ≡ length s
  unfolding cleaned_in
  length_cleaned_in = length_splice s (blocks_at pages) (cleaned_blocks form s) (omega (arith, length_blocks))

  -- head and directory are as they were
  pub cleaned_before : (a k : ℕ) → a + k ≤ blocks_at pages → part (cleaned_in form s) a k ≡ part s a k
  unfolding cleaned_in
  cleaned_before a k h = part_splice_before s (blocks_at pages) (cleaned_blocks form s) a k h (omega arith)

  pub cleaned_byte : (i : ℕ) → i < blocks_at pages → byte_at (cleaned_in form s) i ≡ byte_at s i
  cleaned_byte i h = same_byte (cleaned_in form s) s i (cleaned_before i 1 (omega arith))

  -- and each block is made clean
  pub cleaned_block_lem : (b : ℕ) → b < n → block_of_in form pages (cleaned_in form s) b ≡ cleaned_block form pages (block_of_in form pages s b)
  unfolding cleaned_in block_of_in
  cleaned_block_lem b h =
      let w : ℕ = block_size_in form pages in
      let m : b * w + w ≤ n * w = index_in w n b h in
      part_splice_inside s (blocks_at pages) (cleaned_blocks form s) (b * w) w (omega (arith, length_blocks)) (omega arith)
      ∙ part_encode_all (cleaned_block form pages) w blocks b [] wide_blocks (rw (length_decode_all (λ l. l) w n (drop (blocks_at pages) s)) h)
      ∙ ap (cleaned_block form pages) (block_at b h)

  cleaned_blocks_lem : drop (blocks_at pages) (cleaned_in form s) ≡ cleaned_blocks form s
  unfolding cleaned_in
  cleaned_blocks_lem =
      sym (part_last (splice s (blocks_at pages) (cleaned_blocks form s)) (blocks_at pages) (n * block_size_in form pages)
      (length_splice s (blocks_at pages) (cleaned_blocks form s) (omega (arith, length_blocks)) ∙ size))
      ∙ part_splice s (blocks_at pages) (n * block_size_in form pages) (cleaned_blocks form s) length_blocks (omega arith)

  -- blocks that are clean stay, and so does the bank
  pub clean_bank : ((b : ℕ) → b < n → cleaned_block form pages (block_of_in form pages s b) ≡ block_of_in form pages s b) → cleaned_in form s ≡ s
  unfolding cleaned_in
  clean_bank f =
      let all : cleaned_blocks form s ≡ drop (blocks_at pages) s =
      encode_all_decode_all_all (cleaned_block form pages) (λ l. l) (block_size_in form pages) n (drop (blocks_at pages) s)
      (λ b h. rw (part_block_of form pages s b) (f b h))
      (length_behind s (blocks_at pages) (n * block_size_in form pages) size) in
      splice_of s (blocks_at pages) (cleaned_blocks form s) (n * block_size_in form pages) length_blocks
      ∙ rw (all, drop_of_length-le s {i = blocks_at pages + n * block_size_in form pages} (omega arith), append-nil) (take-append-drop (blocks_at pages) s)

-- the pieces of a bank's bytes
bank_pieces : (s : List ℕ) → HeadMarks s → blocks_at (byte_at s pages_at) ≤ length s
    → head_mark0 ∷ head_mark1 ∷ byte_at s boards_at ∷ byte_at s pages_at
    ∷ (part s head_size (byte_at s pages_at * entry_size) ++ drop (blocks_at (byte_at s pages_at)) s) ≡ s
bank_pieces s head z =
    let pages : ℕ = byte_at s pages_at in
    let first : head_mark0 ∷ drop head_mark1_at s ≡ s = rw head.0 at (byte_rest s head_mark0_at (omega arith)) in
    let second : head_mark1 ∷ drop boards_at s ≡ drop head_mark1_at s = rw head.1 at (byte_rest s head_mark1_at (omega arith)) in
    rw (
      part_rest s head_size (pages * entry_size) (blocks_at pages) refl,
      byte_rest s pages_at (omega arith),
      byte_rest s boards_at (omega arith),
      second,
    )
    first

-- what was read is written with zero slots past the counts
pub encode_decode : {form : Form} {named : Bool} (s : List ℕ) → BytesOk form named s → encode_in form (decode_in form s) ≡ cleaned_in form s
unfolding encode_in decode_in
encode_decode {form} s ok =
    let n : ℕ = byte_at s boards_at in
    let pages : ℕ = byte_at s pages_at in
    let z : length s ≡ bank_size_in form n pages = ok.head.size in
    let t : List ℕ = cleaned_in form s in
    let same : (i : ℕ) → i < blocks_at pages → byte_at t i ≡ byte_at s i = cleaned_byte form s z in
    let ps : byte_at t pages_at ≡ pages = same pages_at (omega arith) in
    let bs : byte_at t boards_at ≡ n = same boards_at (omega arith) in
    let whole = bank_pieces t (same head_mark0_at (omega arith) ∙ ok.head.first, same head_mark1_at (omega arith) ∙ ok.head.second)
    (rw (ps, length_cleaned_in form s z) (omega arith)) in
    rw (
      decode_boards form s,
      decode_pages form s,
      encode_decode_entries pages (part s head_size (pages * entry_size)) (length_part s head_size (pages * entry_size) (omega arith)),
      encode_all_decode_all_by (encode_board_in form) (decode_board_in form pages) (block_size_in form pages) (cleaned_block form pages) n (drop (blocks_at pages) s)
          (λ b h. rw (part_block_of form pages s b) (block_back s ok b h)),
    )
    (rw (ps, bs, cleaned_before form s z head_size (pages * entry_size) (omega arith), cleaned_blocks_lem form s z) at whole)
