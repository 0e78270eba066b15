-- Document 02, F-2, F-6 and F-8: document 01's own form, which a conversion reads, the earlier one, which is today's layout without names, and the
-- rule by which slots at or past a count may be stale, hold anything, with the calls for them. Later requests don't move the first: one that adds a
-- field to Form or a rule says here the value that changes nothing (a width of 0, a rule not asked), and Conversions of the crate cases holds it to
-- document 01's bytes. No other call cites any of them. Assumes nothing.
use Rattle.std.specs.Prelude.{◌≡◌, ℕ, ◌+◌, ◌-◌, ◌*◌, Bool, true, false, ◌&&◌, List, length, drop, eqb}
use Rattle.words.specs.Bytes.{Bytes}
use Rattle.types.specs.declared.Answer.TheVariants.{Malformed, HasRecords}
use Rattle.types.specs.declared.Record.{Record}
use Rattle.model.specs.Definitions.Parts.{byte_at, zeros, every, splice, encode_all, decode_all}
use Rattle.model.specs.Definitions.Layout.{Form, today, boards_at, pages_at, slot_size_in, slots_size_in, slots_at_in, volatile_count_at_in, blocks_at, block_size_in}
use Rattle.model.specs.Definitions.Layout.{bank_size_in, bank_size}
use Rattle.model.specs.Definitions.Bank.{Board, Bank}
use Rattle.model.specs.Definitions.Codec.{encode, decode, encode_in, decode_in}
use Rattle.model.specs.Definitions.WellFormed.{WellFormedIn}
use Rattle.model.specs.Definitions.Check.{area_count, area_log_at, formed_in}
use Rattle.model.specs.Definitions.Calls.{Reply, refused, done_with}

-- ---- the older form: document 01's own

-- "since u16", "count u16" (document 01): a record is 22 bytes, a block 2134 + 51P; all else of a bank stands as in any form
abbrev pub older : Form
older = record { since_width = 2 }

-- "access with since 65,535": the last value of its since
abbrev pub older_last_since : ℕ
older_last_since = 65535

-- document 01's "Well formed means", of bytes in this form: no record names a board
abbrev pub older_well_formed : List ℕ → Bool
older_well_formed = formed_in older false

-- the bank that such bytes stand for
abbrev pub older_bank : List ℕ → Bank
older_bank = decode_in older

-- ---- the earlier form: today's layout, in which no record names a board (document 02, F-6)

abbrev pub earlier_well_formed : List ℕ → Bool
earlier_well_formed = formed_in today false

-- ---- the rule of the day before F-8: today's layout and names, and "Slots at or past a count may hold anything." (document 01)

abbrev pub stale_well_formed : List ℕ → Bool
stale_well_formed = formed_in today true

-- ---- these slots made zero, and no other byte, in bytes of any form

module _ (form : Form) where
  -- in the log of so many records whose 32 slots start at a place
  unfoldable pub cleaned_log : (at count : ℕ) → List ℕ → List ℕ
  cleaned_log a count l = splice l (a + count * slot_size_in form) (zeros (slots_size_in form - count * slot_size_in form))

  -- in a block: the volatile log and those of both areas
  unfoldable pub cleaned_block : (pages : ℕ) → List ℕ → List ℕ
  cleaned_block pages l =
      cleaned_log (slots_at_in form pages) (byte_at l (volatile_count_at_in form))
      (cleaned_log (area_log_at form pages 0) (area_count form pages 0 l) (cleaned_log (area_log_at form pages 1) (area_count form pages 1 l) l))

  -- in every block of a bank
  unfoldable pub cleaned_in : List ℕ → List ℕ
  cleaned_in s =
      let pages : ℕ = byte_at s pages_at in
      splice s (blocks_at pages)
      (encode_all (cleaned_block pages) (decode_all (λ l. l) (block_size_in form pages) (byte_at s boards_at) (drop (blocks_at pages) s)))

  -- bytes that stand for a bank: those of the bank but for what these slots hold
  pub record StandsForIn (k : Bank) (s : List ℕ) : Type 0 where
    pub bytes : Bytes s
    pub size : length s ≡ bank_size_in form (length k.boards) (length k.directory)
    pub cleaned : cleaned_in s ≡ encode_in form k

  -- well formed where these slots may hold anything: they stand for a well-formed bank. Laws/WellFormedTest proves that formed_in tests this.
  abbrev pub StaleBytesIn : (named : Bool) → List ℕ → Type 0
  StaleBytesIn named s = (k : Bank) × WellFormedIn form named k × StandsForIn k s

-- the same in today's layout
abbrev pub StandsFor : Bank → List ℕ → Type 0
StandsFor = StandsForIn today

-- "One call zeroes these slots in a bank well formed by the older rule." (F-8); any other gets 1. It is in place, and makes no store.
unfoldable pub clean : List ℕ → Reply
clean s =
    elim (stale_well_formed s) [
      | false ↦ refused Malformed s
      | true ↦ done_with (cleaned_in today s)
    ]

-- ---- "when every stored and volatile count is zero" (F-6)

unfoldable pub log_empty : List Record → Bool
log_empty rs = eqb (length rs) 0

-- the volatile log, and those of both areas
unfoldable pub board_empty : Board → Bool
board_empty x = log_empty x.working.log && (log_empty x.stable.selected.log && log_empty x.stable.spare.log)

unfoldable pub no_records : Bank → Bool
no_records k = every board_empty k.boards

-- ---- the call for the earlier form

-- "A call takes banks of the earlier form: they pass over unchanged when every stored and volatile count is zero; any other gives code 11, tested after 1"
-- (F-6). Nothing is written; slots past a count may hold anything, as they did in that form, and F-8's call then makes them zero.
unfoldable pub adopt : List ℕ → Reply
adopt s =
    elim (earlier_well_formed s) [
      | false ↦ refused Malformed s
      | true ↦
          elim (no_records (decode s)) [
            | false ↦ refused HasRecords s
            | true ↦ done_with s
          ]
    ]

-- ---- the conversion of the older form

-- the target has the length of a bank of as many boards and pages in today's form
unfoldable pub fits_target : (old new : List ℕ) → Bool
fits_target old new = eqb (length new) (bank_size (byte_at old boards_at) (byte_at old pages_at))

-- "A call reads an old bank from one buffer and writes the new form into another ..; a bank not well formed or a target of the wrong length gets code 1 and
-- writes nothing." (F-2); "any other gives code 11, tested after 1, in F-2's call too" (F-6). The reply's bytes are the target's; the old bank is read alone.
-- "This call always writes the newest layout", "with every number kept and slots at or past a count zero": today's bytes of the same bank.
unfoldable pub convert : (old new : List ℕ) → Reply
convert old new =
    elim (older_well_formed old && fits_target old new) [
      | false ↦ refused Malformed new
      | true ↦
          elim (no_records (older_bank old)) [
            | false ↦ refused HasRecords new
            | true ↦ done_with (encode (older_bank old))
          ]
    ]
