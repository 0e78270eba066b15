-- The bank as bytes, step by step: what is asked of the bytes between steps, where boards and entries stand in them, that a board's step is one
-- splice and so is an entry's, and a store as its board's splice. Assumes nothing.
use Rattle.std.specs.Prelude.{◌≡◌, ◌≢◌, true, List, get_or}
use Rattle.std.proofs.Math.Path.{sym}
use Rattle.std.proofs.Common.{ap, ◌∙◌, arith}
use Prim.Native.Nat.{ℕ, ◌+◌, ◌*◌, ◌<◌}
use Rattle.std.proofs.Math.Decide.{dec_lt}
use Rattle.std.proofs.Math.Option.{none, some}
use Rattle.std.proofs.Math.ListN.{length}
use Rattle.model.specs.Definitions.Parts.{part, splice}
use Rattle.model.specs.Definitions.Layout.{head_size, entry_size, blocks_at, block_size, bank_size, today}
use Rattle.model.specs.Definitions.Bank.{Entry, Board, Bank, no_board, board_at, entry_at, frame_at, on_board, on_entry, no_entry}
use Rattle.model.specs.Definitions.Codec.{encode_entry, decode_entry, encode_board, encode, decode}
use Rattle.model.specs.Definitions.WellFormed.{FrameOk, FieldsOk, SizesOk, WellFormed}
use Rattle.model.specs.Definitions.Check.{well_formed, block_of_in}
use Rattle.model.specs.Definitions.Steps.{Run, burnt, power_off, store, frame_of}
use Rattle.model.specs.Clauses.{IsBank, Fields}
use Rattle.model.proofs.Laws.Lists.{each_get_d, each_imp, each_set, length_update, update_set}
use Rattle.model.proofs.Laws.Parts.{part_part, part_encode_all, index_in, each_all}
use Rattle.model.proofs.Laws.Codec.{length_encode_entry, decode_encode_entry}
use Rattle.model.proofs.Laws.CodecBank.{bank_directory, length_encode_board, length_encode, decode_encode}
use Rattle.model.proofs.Laws.CodecAt.{encode_on_board}
use Rattle.model.proofs.Laws.WellFormedTest.{well_formed_sound, well_formed_back, bank_block, fields_of}
use Rattle.model.proofs.Laws.Boards.{update_out, board_at_out, board_at_same, on_board_on_board}
use Rattle.model.proofs.Laws.Runs.{lost_not, store_cases}
use Rattle.model.proofs.Laws.Valid.{frame_ok_empty, frame_ok_at}

-- ---- what is asked of a bank and of its bytes

pub is_bank_test : (s : List ℕ) → well_formed s ≡ true → IsBank s
is_bank_test s v =
    let w : WellFormed (decode s) = well_formed_sound s v in
    record { back = well_formed_back s v; fields = fields_of (decode s) w; sizes = w.sizes }

module _ (k : Bank) where
  pub is_bank_encode : Fields k → SizesOk (length k.boards) (length k.directory) → IsBank (encode k)
  is_bank_encode ok z = let e : decode (encode k) ≡ k = decode_encode k ok in record { back = ap encode e; fields = rw e ok; sizes = rw e z }

  pub fields_at : Fields k → (b : ℕ) → b < length k.boards → FieldsOk (length k.directory) (board_at k b)
  unfolding board_at
  fields_at ok b h = each_get_d k.boards b no_board ok h

pub is_bank_length : (s : List ℕ) → IsBank s → length s ≡ bank_size (length (decode s).boards) (length (decode s).directory)
is_bank_length s ok = rw ok.back at (length_encode (decode s) ok.fields)

-- ---- where boards and entries stand

module _ (k : Bank) where
  pub block_part : Fields k → (b : ℕ) → b < length k.boards
      → part (encode k) (blocks_at (length k.directory) + b * block_size (length k.directory)) (block_size (length k.directory))
      ≡ encode_board (board_at k b)
  unfolding block_of_in
  block_part ok b h = bank_block k ok b h

  pub entry_part : (p : ℕ) → p < length k.directory → part (encode k) (head_size + p * entry_size) entry_size ≡ encode_entry (entry_at k p)
  unfolding entry_at
  entry_part p h =
      let n : ℕ = length k.directory in
      sym (part_part (encode k) head_size (n * entry_size) (p * entry_size) entry_size (index_in entry_size n p h))
      ∙ rw (bank_directory today k)
      (part_encode_all encode_entry entry_size k.directory p no_entry (each_all k.directory length_encode_entry) h)

  pub entry_of : (p : ℕ) → p < length k.directory → decode_entry (part (encode k) (head_size + p * entry_size) entry_size) ≡ entry_at k p
  entry_of p h = rw (entry_part p h) (decode_encode_entry (entry_at k p))

-- ---- a board's step

module _ (k : Bank) (ok : Fields k) (b : ℕ) (f : Board → Board) where
  pub encode_board_lem : b < length k.boards → FieldsOk (length k.directory) (f (board_at k b))
      → encode (on_board b f k)
      ≡ splice (encode k) (blocks_at (length k.directory) + b * block_size (length k.directory)) (encode_board (f (board_at k b)))
  encode_board_lem h v =
      let pages : ℕ = length k.directory in
      encode_on_board k b f h (each_imp k.boards (length_encode_board pages) ok) (length_encode_board pages (f (board_at k b)) v)

  pub on_board_fields : (b < length k.boards → FieldsOk (length k.directory) (f (board_at k b))) → Fields (on_board b f k)
  unfolding on_board board_at
  on_board_fields v =
      elim (dec_lt b (length k.boards)) [
        | yes h ↦ rw (update_set b f k.boards no_board h) (each_set k.boards b (f (get_or k.boards b no_board)) ok (v h))
        | no n ↦ rw (update_out b f k.boards (omega arith)) ok
      ]

pub on_entry_fields : (k : Bank) → Fields k → (p : ℕ) (f : Entry → Entry) → Fields (on_entry p f k)
unfolding on_entry
on_entry_fields k ok p f = rw (length_update p f k.directory) ok

-- the frame of any board at any page
pub frame_of_ok : (k : Bank) → Fields k → (o p : ℕ) → FrameOk (frame_of k o p)
unfolding frame_of no_board frame_at
frame_of_ok k ok o p =
    elim (dec_lt o (length k.boards)) [
      | yes h ↦ frame_ok_at (board_at k o).working.frames p (fields_at k ok o h).working.frames
      | no n ↦ rw (board_at_out k o (omega arith)) frame_ok_empty
    ]

-- ---- a store

module _ (b : ℕ) (f : Board → Board) (r : Run) (on : r.lost ≡ none) (h : b < length r.bank.boards) where
  two_steps : on_board b burnt (on_board b f r.bank) ≡ on_board b (λ x. burnt (f x)) r.bank
  two_steps = on_board_on_board b f burnt r.bank

  fuse_left : (board_at (on_board b burnt (on_board b f r.bank)) b).fuse ≡ (burnt (f (board_at r.bank b))).fuse
  fuse_left = rw (two_steps, board_at_same b (λ x. burnt (f x)) r.bank h)

  -- the board's step and its lowered fuse
  pub store_kept : (burnt (f (board_at r.bank b))).fuse ≢ 0
      → store b f r ≡ record { bank = on_board b (λ x. burnt (f x)) r.bank; stores = r.stores + 1; lost = none }
  store_kept n =
      store_cases (λ s. s ≡ record { bank = on_board b (λ x. burnt (f x)) r.bank; stores = r.stores + 1; lost = none }) b f r
      (λ c e. lost_not on e)
      (λ m e. absurd (n (sym fuse_left ∙ e)))
      (λ m e. rw two_steps)

  -- the fuse blew: power is lost after both
  pub store_cut : (burnt (f (board_at r.bank b))).fuse ≡ 0
      → store b f r ≡ record { bank = power_off b (on_board b (λ x. burnt (f x)) r.bank); stores = r.stores + 1; lost = some b }
  store_cut z =
      store_cases (λ s. s ≡ record { bank = power_off b (on_board b (λ x. burnt (f x)) r.bank); stores = r.stores + 1; lost = some b }) b f r
      (λ c e. lost_not on e)
      (λ m e. rw two_steps)
      (λ m e. absurd (e (fuse_left ∙ z)))
