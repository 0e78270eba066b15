-- Document 02, F-2 and F-6, with F-8: an old bank byte by byte, as document 01 lays it out, what it is converted to, and what both answer. One board
-- and one page; since is at its last value, area 1 is the selected one, each area has its own frame, and something stands in every slot past a count.
-- Definitions only. Assumes nothing.
use Rattle.std.specs.Prelude.{ℕ, Bool, ◌&&◌, List, [], ◌∷◌, ◌++◌, replicate, eqb}
use Rattle.model.specs.Definitions.Parts.{zeros}
use Rattle.model.specs.Definitions.Layout.{bank_size, bank_size_in}
use Rattle.model.specs.Definitions.Steps.{Read}
use Rattle.model.specs.Definitions.Calls.{Call, Accessing}
use Rattle.model.specs.Definitions.Older.{older, cleaned_in, convert}
use Rattle.types.specs.declared.Answer.TheVariants.{Malformed}
use Rattle.types.specs.declared.Outcome.{Outcome}
use Rattle.model.proofs.History.Tests.{same_bytes}
use Rattle.model.specs.History.ConversionStatement.{told_older}
use Rattle.model.specs.History.CleanStatement.{Told, told_on}
use Rattle.cases.specs.Table.{agrees}

-- ---- the parts that both have

-- right own, all page bytes the same
abbrev own_frame : ℕ → List ℕ
own_frame byte = 2 ∷ replicate 16 byte

-- "SH", "GC" and "GO", each with page 0 and the zero byte
abbrev shown_mark : List ℕ
shown_mark = 83 ∷ 72 ∷ 0 ∷ 0 ∷ []

abbrev got_copy_mark : List ℕ
got_copy_mark = 71 ∷ 67 ∷ 0 ∷ 0 ∷ []

abbrev got_own_mark : List ℕ
got_own_mark = 71 ∷ 79 ∷ 0 ∷ 0 ∷ []

-- head and directory; up, area 1 selected, no fuse, access number 65,537
abbrev front : List ℕ
front = 66 ∷ 75 ∷ 1 ∷ 1 ∷ 0 ∷ 0 ∷ 0 ∷ 1 ∷ 255 ∷ 255 ∷ 1 ∷ 0 ∷ 1 ∷ 0 ∷ []

-- ---- the old bank, and the same converted

-- since 65,535, place 0, and these counts of a volatile record of count 65,535, of one of count 772 in the spare area 0 and of one of count 258 in area 1
unfoldable pub old_bank : (volatile count0 count1 : ℕ) → List ℕ
old_bank volatile count0 count1 =
    front
    ++ (255 ∷ 255 ∷ 0 ∷ volatile ∷ own_frame 3
    ++ (shown_mark ++ (255 ∷ 255 ∷ zeros 16)
    ++ (replicate 682 7
    ++ (4 ∷ 3 ∷ 2 ∷ 1 ∷ count0 ∷ own_frame 4
    ++ (got_own_mark ++ (4 ∷ 3 ∷ replicate 16 2)
    ++ (replicate 682 8
    ++ (9 ∷ 0 ∷ 0 ∷ 0 ∷ count1 ∷ own_frame 6
    ++ (got_copy_mark ++ (2 ∷ 1 ∷ replicate 16 5)
    ++ replicate 682 9))))))))

-- without a record, converted
unfoldable pub new_bank : List ℕ
new_bank =
    front
    ++ (255 ∷ 255 ∷ 0 ∷ 0 ∷ 0 ∷ 0 ∷ own_frame 3
    ++ (zeros 768
    ++ (4 ∷ 3 ∷ 2 ∷ 1 ∷ 0 ∷ own_frame 4
    ++ (zeros 768
    ++ (9 ∷ 0 ∷ 0 ∷ 0 ∷ 0 ∷ own_frame 6
    ++ zeros 768)))))

-- "Length 4 + 2P + N(2134 + 51P)" (document 01), and today's
unfoldable pub both_lengths : Bool
both_lengths = eqb (bank_size_in older 1 1) 2191 && (eqb (bank_size_in older 8 16) 23636 && (eqb (bank_size 1 1) 2385 && eqb (bank_size 8 16) 25188))

-- a target is left as it was
unfoldable pub refuses : (code : ℕ) → (old new : List ℕ) → Bool
refuses code old new = agrees (code, 0, 0, 0) (convert old new).outcome && same_bytes (convert old new).bytes new

-- it converts to these bytes, over any; a target one byte too short, and bytes that are no old bank, are refused and written nothing; so is a bank with a
-- record in any log, after the target's length was tested
unfoldable pub converts : Bool
converts =
    agrees (0, 0, 0, 0) (convert (old_bank 0 0 0) (replicate 2385 6)).outcome
    && (same_bytes (convert (old_bank 0 0 0) (replicate 2385 6)).bytes new_bank
    && (refuses 1 (old_bank 0 0 0) (replicate 2384 6)
    && (refuses 1 new_bank (replicate 2385 6)
    && (refuses 11 (old_bank 1 0 0) (replicate 2385 6)
    && (refuses 11 (old_bank 0 1 0) (replicate 2385 6)
    && (refuses 11 (old_bank 0 0 1) (replicate 2385 6) && refuses 1 (old_bank 1 1 1) (replicate 2384 6)))))))

-- what the first of some calls is told
unfoldable pub first_told : List Told → Outcome
first_told [] = record { answer = Malformed; stores = 0 }
first_told (t ∷ ts) = t.outcome

-- "until its first code 4": the old one, its stale slots zeroed, answers 4 to a read, and the converted one reads. With something in its slots the old
-- one is malformed by the rules of the day: of such banks F-2's claim would be false.
unfoldable pub reads : Bool
reads =
    let read : List Call = Accessing 0 (Read 0 3) ∷ [] in
    agrees (4, 0, 0, 0) (first_told (told_older read (cleaned_in older (old_bank 0 0 0))))
    && (agrees (0, 3, 0, 0) (first_told (told_on read new_bank)) && agrees (1, 0, 0, 0) (first_told (told_older read (old_bank 0 0 0))))
