-- The tests of bytes (Definitions.Check) say exactly that they are the bytes of a well-formed bank, or stand for one where slots past a count may hold
-- anything: what passes is read as one, and the bytes of one pass. Assumes nothing.
use Rattle.std.specs.Prelude.{◌↔◌, ◌≡◌, ℕ, ◌+◌, ◌*◌, ◌<◌, Bool, true, ◌&&◌, List}
use Rattle.std.proofs.Math.Path.{refl, sym}
use Rattle.std.proofs.Common.{ap, ◌∙◌, arith, lit<}
use Rattle.std.proofs.Math.ListN.{length}
use Rattle.words.specs.Bytes.{Each, Bytes}
use Rattle.types.specs.declared.State.{State}
use Rattle.types.specs.declared.State.TheVariants.{Up, Down, Replaying}
use Rattle.model.specs.Definitions.Parts.{part, splice, byte_at, encode_all}
use Rattle.model.specs.Definitions.Layout.{byte_values, head_mark0, head_mark1, head_mark0_at, head_mark1_at, head_size, boards_at, pages_at, entry_size}
use Rattle.model.specs.Definitions.Layout.{blocks_at, block_size_in, bank_size_in, Form, today}
use Rattle.model.specs.Definitions.Bank.{Board, Bank, board_at, entry_at, no_board, no_entry}
use Rattle.model.specs.Definitions.Codec.{encode_entry, decode_entry, encode_board_in, decode_board_in, encode_in, decode_in, encode, decode}
use Rattle.model.specs.Definitions.WellFormed.{PlaceOk, EntryOk, WellFormed, WellFormedBytes, FieldsOkIn, BoardOkIn, PeersOkIn, WellFormedIn}
use Rattle.model.specs.Definitions.Check.{well_formed_in, entry_valid, directory_valid, fields_valid, block_fits, directory_of, block_of_in}
use Rattle.model.specs.Definitions.Check.{formed_in, slot_valid, slot_peer_valid, records_pass, block_clean, slots_clean, well_formed}
use Rattle.model.specs.Definitions.Older.{cleaned_block, cleaned_in, StandsForIn, StaleBytesIn}
use Rattle.model.proofs.Laws.Logic.{and_left, and_right, and_both}
use Rattle.model.proofs.Laws.Lists.{each_of_get_d, each_get_d, each_imp, each_append, every_below_at, every_below_all}
use Rattle.model.proofs.Laws.Parts.{part_encode_all, each_part, byte_at_splice_left}
use Rattle.model.proofs.Laws.Tests.{says_entry}
use Rattle.model.proofs.Laws.CodecBack.{Readable}
use Rattle.model.proofs.Laws.Cleaned.{says_clean, block_clean_lem, same_board, length_cleaned_block, readable_same, readable_stays, readable_back}
use Rattle.model.proofs.Laws.BoardTests.{says_readable, says_coherent}
use Rattle.model.proofs.Laws.ReadTests.{each_decode_all, fields_ok}
use Rattle.model.proofs.Laws.PeerTests.{says_peers}
use Rattle.model.proofs.Laws.WrittenTests.{block_valid, byte, bytes_encode_all, bytes_entry, bytes_board}
use Rattle.model.proofs.Laws.CodecBank.{bank_boards, bank_pages, bank_blocks, length_encode_board, length_encode, decode_encode_board, decode_encode}
use Rattle.model.proofs.Laws.CodecBankBack.{HeadOk, BytesOk, bytes_ok, test_bytes, decode_boards, decode_pages, part_block_of, board_read, entry_read}
use Rattle.model.proofs.Laws.CodecBankBack.{length_block_of}
use Rattle.model.proofs.Laws.CodecBankBack.{bytes_block_of, block_readable, encode_decode, block_size, cleaned_before, cleaned_byte, cleaned_block_lem}
use Rattle.model.proofs.Laws.CodecBankBack.{cleaned_blocks, clean_bank}

-- ---- bytes that pass are those of a well-formed bank

board_ok : {form : Form} {named : Bool} (s : List ℕ) → BytesOk form named s → (b : ℕ) → b < byte_at s boards_at → BoardOkIn form (decode_in form s) b
unfolding block_fits
board_ok {form} s ok b h =
    let pages : ℕ = byte_at s pages_at in
    let l : List ℕ = block_of_in form pages s b in
    let n : length l ≡ block_size_in form pages = length_block_of s ok b h in
    (says_coherent (decode_in form s) b pages (directory_of pages s) l (decode_pages form s) (board_read form s b h) (entry_read form s)
    (fields_ok pages l n (bytes_block_of s ok b) (block_readable s ok b h))
    (omega arith)
    ).0 (and_right (fields_valid form pages l) _ (ok.fits b h))

entries_ok : {form : Form} {named : Bool} (s : List ℕ) → BytesOk form named s → Each (EntryOk (byte_at s boards_at)) (decode_in form s).directory
unfolding directory_valid decode_in directory_of
entries_ok s ok =
    let n : ℕ = byte_at s boards_at in
    let pages : ℕ = byte_at s pages_at in
    let d : List ℕ = directory_of pages s in
    each_decode_all decode_entry entry_size pages d
    (λ p h. (says_entry n _).0 (every_below_at pages p (λ q. entry_valid n (decode_entry (part d (q * entry_size) entry_size))) ok.entries h))

peers_ok : {form : Form} {named : Bool} (s : List ℕ) → BytesOk form named s → (b : ℕ) → b < byte_at s boards_at
    → PeersOkIn named (byte_at s boards_at) b (board_at (decode_in form s) b)
peers_ok {form} {named} s ok b h =
    let pages : ℕ = byte_at s pages_at in
    rw (board_read form s b h)
    ((says_peers form named (byte_at s boards_at) b pages (block_of_in form pages s b) (block_readable s ok b h)).0 (ok.peers b h))

-- the fields are in range, so the other tests say their clauses
pub stale_sound : {form : Form} {named : Bool} (s : List ℕ) → formed_in form named s ≡ true → WellFormedIn form named (decode_in form s)
stale_sound {form} {named} s v =
    let ok : BytesOk form named s = bytes_ok s v in
    record {
      sizes =
          rw (decode_boards form s, decode_pages form s)
          (record { some_board = ok.head.some_board; boards = ok.head.boards; some_page = ok.head.some_page; pages = ok.head.pages });
      directory = rw (decode_boards form s) (entries_ok s ok);
      boards = λ b h. board_ok s ok b (rw (decode_boards form s) at h);
      peers = λ b h. rw (decode_boards form s) (peers_ok s ok b (rw (decode_boards form s) at h));
    }

-- ---- the bytes of a well-formed bank pass

-- a board is written in its block
pub bank_block : {form : Form} (k : Bank) → Each (FieldsOkIn form (length k.directory)) k.boards → (b : ℕ) → b < length k.boards
    → block_of_in form (length k.directory) (encode_in form k) b ≡ encode_board_in form (board_at k b)
unfolding board_at
bank_block {form} k ok b h =
    let pages : ℕ = length k.directory in
    rw (← part_block_of form pages (encode_in form k) b, bank_blocks form k)
    (part_encode_all (encode_board_in form) (block_size_in form pages) k.boards b no_board (each_imp k.boards (length_encode_board pages) ok) h)

-- a place is at most the number of slots, so one byte holds it
place_byte : {form : Form} (pages : ℕ) (t : State) (x : Board) → FieldsOkIn form pages x → PlaceOk t x → x.working.place < byte_values
unfolding PlaceOk
place_byte pages Up x ok h = omega arith
place_byte pages Down x ok h = omega arith
place_byte pages Replaying x ok h = omega (arith, ok.selected.log.count)

module _ {form : Form} {named : Bool} (k : Bank) (w : WellFormedIn form named k) where
  boards_of : Each (λ x. FieldsOkIn form (length k.directory) x × (x.working.place < byte_values)) k.boards
  unfolding board_at
  boards_of =
      each_of_get_d k.boards no_board
      (λ b h.
      let ok : BoardOkIn form k b = w.boards b h in
      (ok.fields, place_byte (length k.directory) (board_at k b).state (board_at k b) ok.fields ok.place))

  pub fields_of : Each (FieldsOkIn form (length k.directory)) k.boards
  fields_of = each_imp k.boards (λ x o. o.0) boards_of

  pub bytes_of : Bytes (encode_in form k)
  unfolding encode_in
  bytes_of =
      byte head_mark0 (lit< tt)
      (byte head_mark1 (lit< tt)
      (byte (length k.boards) (omega (arith, w.sizes.boards))
      (byte (length k.directory) (omega (arith, w.sizes.pages))
      (each_append (encode_all encode_entry k.directory) _
      (bytes_encode_all encode_entry k.directory w.directory (λ e. bytes_entry (length k.boards) e w.sizes.boards))
      (bytes_encode_all (encode_board_in form) k.boards boards_of (λ x o. bytes_board (length k.directory) w.sizes.pages x o.0 o.1))))))

  head_of : HeadOk form (encode_in form k)
  unfolding encode_in byte_at
  head_of =
      record {
        first = refl;
        second = refl;
        some_board = w.sizes.some_board;
        boards = w.sizes.boards;
        some_page = w.sizes.some_page;
        pages = w.sizes.pages;
        size = length_encode k fields_of;
      }

  abbrev pages : ℕ
  pages = length k.directory

  block_fields : (b : ℕ) → b < length k.boards → FieldsOkIn form pages (board_at k b)
  block_fields b h = (w.boards b h).fields

  -- an entry is written in the directory
  bank_entry : (p : ℕ) → p < pages → entry_at k p ≡ decode_entry (part (directory_of pages (encode_in form k)) (p * entry_size) entry_size)
  bank_entry p h = rw (decode_encode k fields_of, bank_pages form k) at (entry_read form (encode_in form k) p (rw (bank_pages form k) h))

  readable_of : (b : ℕ) → b < length k.boards
      → (fields_valid form pages (encode_board_in form (board_at k b))
      && records_pass form (slot_valid form pages) pages (encode_board_in form (board_at k b))) ≡ true
  readable_of b h = (says_readable pages (encode_board_in form (board_at k b))).1 (block_valid pages (board_at k b) (block_fields b h))

  block_fits_lem : (b : ℕ) → b < length k.boards → block_fits form pages (directory_of pages (encode_in form k)) (block_of_in form pages (encode_in form k) b) b
      ≡ true
  unfolding block_fits
  block_fits_lem b h =
      let x : Board = board_at k b in
      let ok : FieldsOkIn form pages x = block_fields b h in
      let n : length (encode_board_in form x) ≡ block_size_in form pages = length_encode_board pages x ok in
      let back : decode_board_in form pages (encode_board_in form x) ≡ x = decode_encode_board pages x ok in
      rw (bank_block k fields_of b h)
      (and_both
      (and_left (fields_valid form pages (encode_board_in form x)) _ (readable_of b h))
      ((says_coherent k b pages (directory_of pages (encode_in form k)) (encode_board_in form x) refl (sym back) bank_entry (rw back ok) (omega arith)
      ).1 (w.boards b h)))

  records_fit : (b : ℕ) → b < length k.boards → records_pass form (slot_valid form pages) pages (block_of_in form pages (encode_in form k) b) ≡ true
  records_fit b h = rw (bank_block k fields_of b h) (and_right (fields_valid form pages (encode_board_in form (board_at k b))) _ (readable_of b h))

  peers_fit : (b : ℕ) → b < length k.boards
      → records_pass form (slot_peer_valid named (length k.boards) b) pages (block_of_in form pages (encode_in form k) b) ≡ true
  peers_fit b h =
      let x : Board = board_at k b in
      let ok : FieldsOkIn form pages x = block_fields b h in
      rw (bank_block k fields_of b h)
      ((says_peers form named (length k.boards) b pages (encode_board_in form x) (block_valid pages x ok)
      ).1 (rw (decode_encode_board pages x ok) (w.peers b h)))

  entry_fits : (p : ℕ) → p < pages → entry_valid (length k.boards) (decode_entry (part (directory_of pages (encode_in form k)) (p * entry_size) entry_size))
      ≡ true
  unfolding entry_at
  entry_fits p h = rw (← bank_entry p h) ((says_entry (length k.boards) (entry_at k p)).1 (each_get_d k.directory p no_entry w.directory h))

  bytes_ok_of : BytesOk form named (encode_in form k)
  unfolding directory_valid
  bytes_ok_of =
      record {
        head = head_of;
        bytes = bytes_of;
        entries = rw (bank_boards form k, bank_pages form k) (every_below_all pages _ entry_fits);
        fits = rw (bank_boards form k, bank_pages form k) block_fits_lem;
        records = rw (bank_boards form k, bank_pages form k) records_fit;
        peers = rw (bank_boards form k, bank_pages form k) peers_fit;
      }

  pub stale_complete : formed_in form named (encode_in form k) ≡ true
  stale_complete = test_bytes (encode_in form k) bytes_ok_of

  -- and so do the slots past its counts
  pub clean_complete : slots_clean form (encode_in form k) ≡ true
  unfolding slots_clean
  clean_complete =
      rw (bank_boards form k, bank_pages form k)
      (every_below_all (length k.boards) _
      (λ b h.
      let x : Board = board_at k b in
      let ok : FieldsOkIn form pages x = block_fields b h in
      rw (bank_block k fields_of b h)
      ((says_clean form pages (encode_board_in form x) (length_encode_board pages x ok) (block_valid pages x ok)).1 (block_clean_lem pages x ok))))

-- ---- the test by which slots past a count may hold anything

-- what passes once these slots are zero passes as it is
module _ {form : Form} {named : Bool} (s : List ℕ) (bytes : Bytes s) (size : length s ≡ bank_size_in form (byte_at s boards_at) (byte_at s pages_at))
    (ok : BytesOk form named (cleaned_in form s)) where
  abbrev t : List ℕ
  t = cleaned_in form s

  same : (i : ℕ) → i < head_size → byte_at t i ≡ byte_at s i
  same i h = cleaned_byte form s size i (omega arith)

  boards_same : byte_at t boards_at ≡ byte_at s boards_at
  boards_same = same boards_at (omega arith)

  pages_same : byte_at t pages_at ≡ byte_at s pages_at
  pages_same = same pages_at (omega arith)

  directory_same : directory_of (byte_at s pages_at) t ≡ directory_of (byte_at s pages_at) s
  unfolding directory_of
  directory_same = cleaned_before form s size head_size (byte_at s pages_at * entry_size) (omega arith)

  module _ (b : ℕ) (h : b < byte_at s boards_at) where
    abbrev ps : ℕ
    ps = byte_at s pages_at

    abbrev l : List ℕ
    l = block_of_in form ps s b

    l_size : length l ≡ block_size_in form ps
    l_size = block_size form s size b h

    l_bytes : Bytes l
    unfolding block_of_in
    l_bytes = each_part s (blocks_at ps + b * block_size_in form ps) (block_size_in form ps) bytes

    cleaned_fits : block_fits form ps (directory_of ps s) (cleaned_block form ps l) b ≡ true
    cleaned_fits = rw (pages_same, directory_same, cleaned_block_lem form s size b h) at (ok.fits b (rw boards_same h))

    cleaned_records : records_pass form (slot_valid form ps) ps (cleaned_block form ps l) ≡ true
    cleaned_records = rw (pages_same, cleaned_block_lem form s size b h) at (ok.records b (rw boards_same h))

    cleaned_peers : records_pass form (slot_peer_valid named (byte_at s boards_at) b) ps (cleaned_block form ps l) ≡ true
    cleaned_peers = rw (boards_same, pages_same, cleaned_block_lem form s size b h) at (ok.peers b (rw boards_same h))

    cleaned_readable : Readable form ps (cleaned_block form ps l)
    unfolding block_fits
    cleaned_readable =
        (says_readable ps (cleaned_block form ps l)).0 (and_both (and_left (fields_valid form ps (cleaned_block form ps l)) _ cleaned_fits) cleaned_records)

    l_readable : Readable form ps l
    l_readable = readable_back form ps l l_size cleaned_readable

    l_tests : (fields_valid form ps l && records_pass form (slot_valid form ps) ps l) ≡ true
    l_tests = (says_readable ps l).1 l_readable

    l_board : decode_board_in form ps (cleaned_block form ps l) ≡ decode_board_in form ps l
    l_board = same_board form ps l (cleaned_block form ps l) (readable_same form ps l l_size l_readable)

    -- what the tests say is said of the board, and both are read as the same one
    l_fits : block_fits form ps (directory_of ps s) l b ≡ true
    unfolding block_fits
    l_fits =
        let fields : FieldsOkIn form ps (decode_board_in form ps l) = fields_ok ps l l_size l_bytes l_readable in
        let coherent : BoardOkIn form (decode_in form s) b =
        (says_coherent (decode_in form s) b ps (directory_of ps s) (cleaned_block form ps l) (decode_pages form s) (board_read form s b h ∙ sym l_board)
        (entry_read form s) (rw l_board fields) (rw (length_cleaned_block form ps l l_size) (omega arith))
        ).0 (and_right (fields_valid form ps (cleaned_block form ps l)) _ cleaned_fits) in
        and_both (and_left (fields_valid form ps l) _ l_tests)
        ((says_coherent (decode_in form s) b ps (directory_of ps s) l (decode_pages form s) (board_read form s b h) (entry_read form s) fields
        (omega (arith, l_size))
        ).1 coherent)

    l_peers : records_pass form (slot_peer_valid named (byte_at s boards_at) b) ps l ≡ true
    l_peers =
        (says_peers form named (byte_at s boards_at) b ps l l_readable
        ).1 (rw l_board at ((says_peers form named (byte_at s boards_at) b ps (cleaned_block form ps l) cleaned_readable).0 cleaned_peers))

  bytes_ok_back : BytesOk form named s
  bytes_ok_back =
      record {
        head =
            record {
              first = sym (same head_mark0_at (omega arith)) ∙ ok.head.first;
              second = sym (same head_mark1_at (omega arith)) ∙ ok.head.second;
              some_board = rw boards_same at ok.head.some_board;
              boards = rw boards_same at ok.head.boards;
              some_page = rw pages_same at ok.head.some_page;
              pages = rw pages_same at ok.head.pages;
              size = size;
            };
        bytes = bytes;
        entries = rw (boards_same, pages_same, directory_same) at ok.entries;
        fits = l_fits;
        records = λ b h. and_right (fields_valid form (byte_at s pages_at) (l b h)) _ (l_tests b h);
        peers = l_peers;
      }

-- ---- so the tests say exactly that

-- bytes that stand for a bank have its numbers of boards and pages in their head, and its length
sized : {form : Form} (k : Bank) (s : List ℕ) → StandsForIn form k s → length s ≡ bank_size_in form (byte_at s boards_at) (byte_at s pages_at)
unfolding cleaned_in
sized {form} k s z =
    let same_left : (r : List ℕ) (a i : ℕ) → i < a → i < length r → byte_at (splice r a (cleaned_blocks form s)) i ≡ byte_at r i =
    λ r a. byte_at_splice_left r a (cleaned_blocks form s) in
    let same : (i : ℕ) → i < head_size → byte_at (encode_in form k) i ≡ byte_at s i =
    λ i h. ap (λ (r : List ℕ). byte_at r i) (sym z.cleaned) ∙ same_left s (blocks_at (byte_at s pages_at)) i (omega arith) (omega (arith, z.size)) in
    let b : length k.boards ≡ byte_at s boards_at = sym (bank_boards form k) ∙ same boards_at (omega arith) in
    let p : length k.directory ≡ byte_at s pages_at = sym (bank_pages form k) ∙ same pages_at (omega arith) in
    z.size ∙ rw (b, p)

-- bytes that pass today's test are clean
pub well_formed_back : (s : List ℕ) → well_formed s ≡ true → encode (decode s) ≡ s
unfolding well_formed_in slots_clean
well_formed_back s v =
    let ok : BytesOk today true s = bytes_ok s (and_left (formed_in today true s) _ v) in
    let pages : ℕ = byte_at s pages_at in
    encode_decode s ok
    ∙ clean_bank today s ok.head.size
    (λ b h.
    let l : List ℕ = block_of_in today pages s b in
    let n : length l ≡ block_size_in today pages = length_block_of s ok b h in
    let r : Readable today pages l = block_readable s ok b h in
    readable_stays today pages l n r
    ((says_clean today pages l n r
    ).0 (every_below_at (byte_at s boards_at) b (λ c. block_clean today pages (block_of_in today pages s c)) (and_right (formed_in today true s) _ v) h)))

pub stands_test : {form : Form} {named : Bool} (s : List ℕ) → BytesOk form named s → StandsForIn form (decode_in form s) s
stands_test {form} {named} s ok =
    record { bytes = ok.bytes; size = rw (decode_boards form s, decode_pages form s) ok.head.size; cleaned = sym (encode_decode s ok) }

pub stale_iff : {form : Form} {named : Bool} (s : List ℕ) → (formed_in form named s ≡ true) ↔ StaleBytesIn form named s
stale_iff {form} {named} s = (
  λ v. (decode_in form s, stale_sound s v, stands_test s (bytes_ok s v)),
  λ h.
      let k : Bank = h.0 in
      let z : StandsForIn form k s = h.2 in
      test_bytes s (bytes_ok_back s z.bytes (sized k s z) (bytes_ok (cleaned_in form s) (rw z.cleaned (stale_complete k h.1)))),
)

-- its own bytes among them
pub stands_encode : {form : Form} {named : Bool} (k : Bank) → WellFormedIn form named k → StandsForIn form k (encode_in form k)
stands_encode {form} k w = rw (decode_encode k (fields_of k w)) at (stands_test (encode_in form k) (bytes_ok_of k w))

-- they are read as that bank
pub stands_read : {form : Form} {named : Bool} (k : Bank) (s : List ℕ) → WellFormedIn form named k → StandsForIn form k s → decode_in form s ≡ k
stands_read {form} {named} k s w z =
    let v : formed_in form named s ≡ true = (stale_iff s).1 (k, w, z) in
    sym (decode_encode (decode_in form s) (fields_of (decode_in form s) (stale_sound s v)))
    ∙ ap (decode_in form) (encode_decode s (bytes_ok s v) ∙ z.cleaned)
    ∙ decode_encode k (fields_of k w)

pub well_formed_sound : (s : List ℕ) → well_formed s ≡ true → WellFormed (decode s)
unfolding well_formed_in
well_formed_sound s v = stale_sound s (and_left (formed_in today true s) _ v)

pub well_formed_complete : (k : Bank) → WellFormed k → well_formed (encode k) ≡ true
unfolding well_formed_in
well_formed_complete k w = and_both (stale_complete k w) (clean_complete k w)

pub well_formed_iff : (s : List ℕ) → (well_formed s ≡ true) ↔ WellFormedBytes s
well_formed_iff s = (λ v. (decode s, well_formed_sound s v, well_formed_back s v), λ h. rw h.2 at (well_formed_complete h.0 h.1))
