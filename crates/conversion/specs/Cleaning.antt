-- Slots past a count made zero in place, log by log and block by block: what that comes to is what the definitions say. Assumes nothing.
use Rattle.std.specs.Prelude.{◌≡◌, ℕ, ◌+◌, ◌-◌, ◌≤◌, ◌<◌, true, List, length, take, drop}
use Rattle.std.proofs.Common.{◌∙◌, arith, lit<}
use Rattle.model.specs.Definitions.Parts.{splice, byte_at}
use Rattle.model.specs.Definitions.Layout.{today, slot_count, most_pages, area_count_at, volatile_count_at, slots_size, slots_at, area_at, blocks_at, block_size}
use Rattle.model.specs.Definitions.Check.{area_count, area_log_at, block_of_in}
use Rattle.model.specs.Definitions.Older.{cleaned_log, cleaned_block, cleaned_in}
use Rattle.model.proofs.Laws.Parts.{same_byte}
use Rattle.model.proofs.Laws.CodecBack.{area_inside}
use Rattle.model.proofs.Laws.BoardTests.{count_place}
use Rattle.model.proofs.Laws.Cleaned.{length_cleaned, before_cleaned, length_cleaned_block, by_area}
use Rattle.model.proofs.Laws.CodecBankBack.{part_block_of}
use Rattle.conversion.specs.Formed.{FormedBank, few_pages, block_length, block_reads}
use Rattle.conversion.specs.Rewritten.{rewritten, Wide, Turn, turn_lent, turn_unwritten}

-- ---- an area of a block

abbrev pub cleaned_area : (pages area : ℕ) → List ℕ → List ℕ
cleaned_area pages area l = cleaned_log today (area_log_at today pages area) (area_count today pages area l) l

module _ (pages area : ℕ) (l : List ℕ) (h : area < 2) (n : length l ≡ block_size pages) where
  pub log_in : area_log_at today pages area + slots_size ≤ length l
  log_in = omega (arith, area_inside today pages area h)

  area_length : length (cleaned_area pages area l) ≡ block_size pages
  area_length = length_cleaned today (area_log_at today pages area) (area_count today pages area l) l log_in ∙ n

  -- what stands before its slots is as it was
  area_before : (i : ℕ) → i < area_log_at today pages area → byte_at (cleaned_area pages area l) i ≡ byte_at l i
  area_before i m =
      same_byte (cleaned_area pages area l) l i
      (before_cleaned today (area_log_at today pages area) (area_count today pages area l) l log_in i 1 (omega arith))

-- ---- a block: the second area, then the first, then the volatile log, each by the count that it then has

pub record CountedBlock (pages : ℕ) (l : List ℕ) : Type 0 where
  pub few : pages ≤ most_pages
  pub size : length l ≡ block_size pages
  pub volatile : byte_at l volatile_count_at ≤ slot_count
  pub stored : (area : ℕ) → area < 2 → area_count today pages area l ≤ slot_count

-- what both areas leave
abbrev pub cleaned_areas : (pages : ℕ) → List ℕ → List ℕ
cleaned_areas pages l = cleaned_area pages 0 (cleaned_area pages 1 l)

module _ {pages : ℕ} {l : List ℕ} (o : CountedBlock pages l) where
  abbrev once : List ℕ
  once = cleaned_area pages 1 l

  abbrev twice : List ℕ
  twice = cleaned_areas pages l

  pub once_length : length once ≡ block_size pages
  once_length = area_length pages 1 l (lit< tt) o.size

  pub twice_length : length twice ≡ block_size pages
  twice_length = area_length pages 0 once (lit< tt) once_length

  once_count : area_count today pages 0 once ≡ area_count today pages 0 l
  unfolding area_count
  once_count = area_before pages 1 l (lit< tt) o.size (area_at pages 0 + area_count_at) (omega arith)

  twice_count : byte_at twice volatile_count_at ≡ byte_at l volatile_count_at
  twice_count =
      area_before pages 0 once (lit< tt) once_length volatile_count_at (omega arith)
      ∙ area_before pages 1 l (lit< tt) o.size volatile_count_at (omega arith)

  pub once_few : area_count today pages 0 once ≤ slot_count
  once_few = rw once_count (o.stored 0 (lit< tt))

  pub twice_few : byte_at twice volatile_count_at ≤ slot_count
  twice_few = rw twice_count o.volatile

  pub block_cleaned : cleaned_log today (slots_at pages) (byte_at twice volatile_count_at) twice ≡ cleaned_block today pages l
  unfolding cleaned_block
  block_cleaned = rw (twice_count, once_count)

-- ---- a bank

-- the blocks of the first n boards
abbrev pub cleaned_blocks : ℕ → ℕ → List ℕ → List ℕ
cleaned_blocks pages n s = rewritten (λ l. l) (cleaned_block today pages) (block_size pages) (block_size pages) n (drop (blocks_at pages) s)

-- the block that a loop makes clean next
abbrev pub DueBlock : ℕ → ℕ → (s t : List ℕ) (i a size : ℕ) → Type 0
DueBlock n p s t i a size = Turn (λ l. l) (cleaned_block today p) (block_size p) (block_size p) n s s t (blocks_at p) i a size a size

module _ {n p : ℕ} {s : List ℕ} (o : FormedBank today true n p s) where
  counted : (b : ℕ) → b < n → CountedBlock p (block_of_in today p s b)
  counted b h =
      let l : List ℕ = block_of_in today p s b in
      let r = block_reads o b h in
      record {
        few = few_pages o;
        size = block_length o b h;
        volatile = r.log.few;
        stored =
            by_area (λ area. area_count today p area l ≤ slot_count) (rw (count_place today p 0 l) at r.area0.log.few)
            (rw (count_place today p 1 l) at r.area1.log.few);
      }

  pub blocks_wide : Wide (λ l. l) (cleaned_block today p) (block_size p) (block_size p) n (drop (blocks_at p) s)
  blocks_wide b h = rw (part_block_of today p s b) (length_cleaned_block today p (block_of_in today p s b) (block_length o b h))

  pub due_lent : {t : List ℕ} {i a size : ℕ} → DueBlock n p s t i a size → CountedBlock p (take (a + size - a) (drop a t))
  unfolding block_of_in
  due_lent {i = i} x = rw (turn_unwritten x, turn_lent x) (counted i x.next)

  pub bank_cleaned : splice s (blocks_at p) (cleaned_blocks p n s) ≡ cleaned_in today s
  unfolding cleaned_in rewritten
  bank_cleaned = rw (o.boards, o.pages)
