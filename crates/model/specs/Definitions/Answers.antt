-- Document 01, "Codes", with document 02's: for each case of an answer its row of numbers: code, value, who. The contracts use these. Assumes nothing.
use Rattle.std.specs.Prelude.{ℕ}
use Rattle.types.specs.declared.Answer.{Answer}
use Rattle.types.specs.declared.Answer.TheVariants.{Done, Malformed, OutOfRange, WrongState, CountersFull, ReplayDiffers, OwnerNotUp, LogFull, PowerLost}
use Rattle.types.specs.declared.Answer.TheVariants.{WrongCells, HasRecords, Compared, SameBoard}
use Rattle.types.specs.declared.AnswerNumbers.{AnswerNumbers}

abbrev pub numbers_of : Answer → AnswerNumbers
numbers_of (Done v) = record { code = 0; value = v; who = 0 }
numbers_of Malformed = record { code = 1; value = 0; who = 0 }
numbers_of OutOfRange = record { code = 2; value = 0; who = 0 }
numbers_of (WrongState b) = record { code = 3; value = 0; who = b }
numbers_of (CountersFull b) = record { code = 4; value = 0; who = b }
numbers_of (ReplayDiffers b) = record { code = 5; value = 0; who = b }
numbers_of (OwnerNotUp b) = record { code = 6; value = 0; who = b }
numbers_of (LogFull b) = record { code = 7; value = 0; who = b }
numbers_of (PowerLost b) = record { code = 8; value = 0; who = b }
numbers_of WrongCells = record { code = 10; value = 0; who = 0 }
numbers_of HasRecords = record { code = 11; value = 0; who = 0 }
numbers_of (Compared i b) = record { code = 0; value = i; who = b }
numbers_of SameBoard = record { code = 12; value = 0; who = 0 }

unfoldable pub code : Answer → ℕ
code a = (numbers_of a).code

-- "the byte read; the checkpoint's access number for restart; 0 for the rest and for every code but 0"; "The value is that i" (document 02, F-7)
unfoldable pub value : Answer → ℕ
value a = (numbers_of a).value

-- "who (0 under code 0)"; of two logs held against each other "who is the taker" (document 02, F-7)
unfoldable pub who : Answer → ℕ
who a = (numbers_of a).who
