-- Bytes that hold a bank, as the contracts of this crate say it: what is asked of a board's number, and the bank that a step leaves. Assumes nothing.
use Rattle.std.specs.Prelude.{◌≡◌, ℕ, ◌+◌, ◌*◌, ◌-◌, ◌≤◌, ◌<◌, List, ◌++◌, length, take, drop}
use Rattle.std.proofs.Common.{sym, ◌∙◌, arith}
use Rattle.model.specs.Definitions.Parts.{part, splice}
use Rattle.model.specs.Definitions.Layout.{head_size, entry_size, frame_size, frames_at, blocks_at, block_size}
use Rattle.model.specs.Definitions.Bank.{Entry, Board, Bank, board_at, entry_at, on_board, on_entry}
use Rattle.model.specs.Definitions.Codec.{encode_entry, decode_entry, decode_frame, encode_board, encode, decode}
use Rattle.model.specs.Definitions.Steps.{frame_of}
use Rattle.model.specs.Definitions.WellFormed.{FieldsOk, SizesOk, WellFormed}
use Rattle.model.proofs.Laws.CodecBank.{decode_encode}
use Rattle.model.proofs.Laws.CodecAt.{encode_on_entry}
use Rattle.model.proofs.Laws.WellFormedTest.{fields_of}
use Rattle.model.proofs.Laws.Boards.{directory_on_entry}
use Rattle.model.proofs.Laws.Runs.{sizes_on_board}
use Rattle.model.proofs.Laws.BlockFields.{read_frame}
use Rattle.model.proofs.Laws.BankSteps.{is_bank_encode, entry_of, on_board_fields, on_entry_fields}
use Rattle.model.specs.Clauses.{Fields, IsBank}
use Rattle.steps.specs.Blocks.{board_of}
use Rattle.steps.specs.Power.{directory_in}
use Rattle.steps.specs.BankBlocks.{LentBlock, lent_block, lent_board, lent_step}

-- the bytes of this bank, every field of which is in range
pub record Holds (s : List ℕ) (k : Bank) : Type 0 where
  pub bytes : s ≡ encode k
  pub fields : Fields k
  pub sizes : SizesOk (length k.boards) (length k.directory)

-- a bank with so many pages, and the number of one of its boards
pub record OfBank (pages b : ℕ) (s : List ℕ) : Type 0 where
  pub bank : IsBank s
  pub count : pages ≡ length (decode s).directory
  pub board : b < length (decode s).boards

module _ {s : List ℕ} {k : Bank} (h : Holds s k) where
  pub holds_bank : IsBank s
  holds_bank = rw h.bytes (is_bank_encode k h.fields h.sizes)

  pub holds_decode : decode s ≡ k
  holds_decode = rw h.bytes (decode_encode k h.fields)

pub holds_well_formed : {s : List ℕ} {k : Bank} → s ≡ encode k → WellFormed k → Holds s k
holds_well_formed {k = k} e w = record { bytes = e; fields = fields_of k w; sizes = w.sizes }

-- at first bytes hold what they are read as
pub of_holds : {pages b : ℕ} {s : List ℕ} → OfBank pages b s → Holds s (decode s)
of_holds o = record { bytes = sym o.bank.back; fields = o.bank.fields; sizes = o.bank.sizes }

-- and what a step left may go to the next
pub holds_of : {s : List ℕ} {k : Bank} → Holds s k → (pages b : ℕ) → pages ≡ length k.directory → b < length k.boards → OfBank pages b s
holds_of h pages b p q = record { bank = holds_bank h; count = rw (holds_decode h) p; board = rw (holds_decode h) q }

-- ---- a directory entry

module _ {s : List ℕ} {k : Bank} (h : Holds s k) (p : ℕ) (l : p < length k.directory) where
  pub entry_in : head_size + p * entry_size + entry_size ≤ length s
  entry_in = let d : blocks_at (length k.directory) ≤ length s = rw (holds_decode h) at (directory_in s (holds_bank h)) in omega arith

  pub entry_read : decode_entry (part s (head_size + p * entry_size) entry_size) ≡ entry_at k p
  entry_read = rw h.bytes (entry_of k p l)

  -- the bank with the entry written
  pub entry_holds : (f : Entry → Entry) (e : Entry) (ys : List ℕ) → e ≡ f (entry_at k p) → ys ≡ splice s (head_size + p * entry_size) (encode_entry e)
      → Holds ys (on_entry p f k)
  unfolding on_entry
  entry_holds f e ys m w =
      record {
        bytes = w ∙ rw (m, h.bytes) (sym (encode_on_entry k p f l));
        fields = on_entry_fields k h.fields p f;
        sizes = rw (directory_on_entry p f k) h.sizes;
      }

-- ---- a board's block, lent

module _ {pages b : ℕ} {s : List ℕ} (o : OfBank pages b s) where
  pub lent_of : (a n : ℕ) → a ≡ blocks_at pages + b * block_size pages → n ≡ block_size pages → LentBlock (decode s) s pages b a n
  lent_of a n p q =
      record {
        bytes = sym o.bank.back;
        fields = o.bank.fields;
        few = omega (arith, o.bank.sizes.pages, o.count);
        count = o.count;
        board = o.board;
        place = p;
        size = q;
      }

-- what a step of the board leaves of the bank
module _ {s : List ℕ} {pages b a n : ℕ} (o : OfBank pages b s) (l : LentBlock (decode s) s pages b a n) where
  pub lent_holds : (f : Board → Board) (ys : List ℕ) → FieldsOk pages (f (board_at (decode s) b))
      → length ys ≡ length (take (a + n - a) (drop a s)) → ys ≡ encode_board (f (board_of pages (take (a + n - a) (drop a s))))
      → Holds (take a s ++ (ys ++ drop (a + n - a) (drop a s))) (on_board b f (decode s))
  lent_holds f ys v kept e =
      let z = sizes_on_board b f (decode s) in
      record {
        bytes = lent_step l f ys v kept e;
        fields = on_board_fields (decode s) o.bank.fields b f (λ h. rw o.count at v);
        sizes = rw (z.boards, z.pages) o.bank.sizes;
      }

  pub lent_frame : (p : ℕ) → p < pages
      → decode_frame (part (take (a + n - a) (drop a s)) (frames_at + p * frame_size) frame_size) ≡ frame_of (decode s) b p
  unfolding frame_of
  lent_frame p h =
      rw ((lent_block l).back, lent_board l) at (read_frame pages (board_of pages (take (a + n - a) (drop a s))) (lent_block l).fields p h)
