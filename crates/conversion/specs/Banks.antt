-- A bank of the older form as it is written anew: head and directory as they are, then block by block; what that comes to are today's bytes of
-- the bank that was read. Assumes nothing.
use Rattle.std.specs.Prelude.{◌≡◌, ℕ, ◌+◌, ◌*◌, ◌-◌, ◌<◌, true, false, length, take, drop}
use Rattle.std.proofs.Math.Path.{sym, ap}
use Rattle.std.proofs.Common.{◌∙◌, arith, length-append}
use mathlib.Core.List.{List, ◌++◌}
use Rattle.model.specs.Definitions.Parts.{part, splice, byte_at, encode_all}
use Rattle.model.specs.Definitions.Layout.{boards_at, pages_at, blocks_at, block_size, bank_size, block_size_in}
use Rattle.model.specs.Definitions.Bank.{Bank}
use Rattle.model.specs.Definitions.Codec.{encode_entry, encode_board, encode_board_in, decode_board_in, encode, encode_in, decode_in}
use Rattle.model.specs.Definitions.Older.{older, older_bank, cleaned_in, no_records}
use Rattle.model.specs.Definitions.Check.{block_of_in}
use Rattle.model.proofs.Laws.Parts.{part_front}
use Rattle.model.proofs.Laws.CodecBank.{bank_head, length_encode_entries}
use Rattle.fields.proofs.Splices.{splice_pair}
use Rattle.model.proofs.Laws.CodecBankBack.{decode_pages, part_block_of, encode_decode, cleaned_before}
use Rattle.model.proofs.Laws.Lists.{every_below_at}
use Rattle.model.proofs.Laws.Counts.{no_records_counts}
use Rattle.model.specs.Clauses.{counts_zero}
use Rattle.conversion.specs.Formed.{FormedBank, known, few_pages, listed, block_length, block_bytes, block_reads}
use Rattle.conversion.specs.Rewritten.{rewritten, Wide, rewritten_length, Turn, turn_lent}
use Rattle.conversion.specs.Blocks.{OlderBlock, block_wide}

-- the old bytes: well formed, without a record
pub record OlderBank (n p : ℕ) (s : List ℕ) : Type 0 where
  pub bank : FormedBank older false n p s
  pub empty : no_records (older_bank s) ≡ true

-- the blocks of the first n boards
abbrev pub rewritten_blocks : ℕ → ℕ → List ℕ → List ℕ
rewritten_blocks pages n s = rewritten (decode_board_in older pages) encode_board (block_size_in older pages) (block_size pages) n (drop (blocks_at pages) s)

-- the block that a loop writes next
abbrev pub NextBlock : ℕ → ℕ → (s t₀ t : List ℕ) (i a from b to : ℕ) → Type 0
NextBlock n p s t₀ t i a from b to =
    Turn (decode_board_in older p) encode_board (block_size_in older p) (block_size p) n s t₀ t (blocks_at p) i a from b to

-- head and directory of a bank
abbrev head_bytes : Bank → List ℕ
head_bytes k = bank_head k ++ encode_all encode_entry k.directory

module _ {n p : ℕ} {s : List ℕ} (o : OlderBank n p s) where
  -- a board's block
  block_of : (b : ℕ) → b < n → OlderBlock p (block_of_in older p s b)
  block_of b h =
      record {
        few = few_pages o.bank;
        size = block_length o.bank b h;
        bytes = block_bytes o.bank b h;
        readable = block_reads o.bank b h;
        empty = rw o.bank.pages (every_below_at (byte_at s boards_at) b (λ c. counts_zero older (byte_at s pages_at) (block_of_in older (byte_at s pages_at) s c))
            (rw (no_records_counts older s) at o.empty) (listed o.bank b h));
      }

  pub blocks_wide : Wide (decode_board_in older p) encode_board (block_size_in older p) (block_size p) n (drop (blocks_at p) s)
  blocks_wide b h = rw (part_block_of older p s b) (block_wide p (block_of_in older p s b) (block_of b h))

  pub next_lent : {t₀ t : List ℕ} {i a from b to : ℕ} → NextBlock n p s t₀ t i a from b to → OlderBlock p (take (a + from - a) (drop a s))
  unfolding block_of_in
  next_lent {i = i} x = rw (turn_lent x) (block_of i x.next)

  -- head and directory are as they were
  head_length : length (head_bytes (older_bank s)) ≡ blocks_at p
  head_length =
      rw (
        length-append (bank_head (older_bank s)) (encode_all encode_entry (older_bank s).directory),
        length_encode_entries
            (older_bank s).directory,
        decode_pages older s,
      )
      (omega (arith, o.bank.pages))

  head_same : part s 0 (blocks_at p) ≡ head_bytes (older_bank s)
  unfolding encode_in
  head_same =
      let ok = known o.bank in
      let split : head_bytes (older_bank s) ++ encode_all (encode_board_in older) (older_bank s).boards ≡ cleaned_in older s = encode_decode s ok in
      let e : part (cleaned_in older s) 0 (blocks_at p) ≡ part s 0 (blocks_at p) =
      cleaned_before older s ok.head.size 0 (blocks_at p) (omega (arith, o.bank.pages)) in
      sym e ∙ ap (λ (l : List ℕ). part l 0 (blocks_at p)) (sym split) ∙ part_front (head_bytes (older_bank s)) _ (blocks_at p) head_length

  parts : head_bytes (older_bank s) ++ rewritten_blocks p n s ≡ encode (older_bank s)
  unfolding encode_in rewritten decode_in
  parts = rw (o.bank.boards, o.bank.pages)

  pub bank_written : (t : List ℕ) → length t ≡ bank_size n p
      → splice (splice t 0 (part s 0 (blocks_at p))) (blocks_at p) (rewritten_blocks p n s) ≡ encode (older_bank s)
  bank_written t e =
      let blocks : List ℕ = rewritten_blocks p n s in
      let m : length blocks ≡ n * block_size p
      = rewritten_length (decode_board_in older p) encode_board (block_size_in older p) (block_size p) n (drop (blocks_at p) s) blocks_wide in
      rw head_same (splice_pair t (head_bytes (older_bank s)) blocks (blocks_at p) head_length (omega (arith, head_length)) ∙ parts)
