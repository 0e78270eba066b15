-- The definitions give document 01's cases, the K line of document 02's F-1 and some lines that are none of the seven. Computed; nothing here rests on a
-- law. Assumes nothing.
use Rattle.std.specs.Prelude.{◌≡◌, refl, ℕ, List, [], ◌∷◌, ◌++◌}
use Prim.Native.Char.{code}
use Prim.Native.String as text
use Rattle.cases.specs.Evaluate.{evaluate}
use Rattle.lines.specs.Definitions.Numbers.{digits_in, decimal, is_digit, value_from, leading_zero, digits_from, number}
use Rattle.lines.specs.Definitions.Lines.{letter_k, letter_f, longer, words, and_one, more, numbers_from, with_one, with_two, with_three, with_four, request_of}
use Rattle.lines.specs.Definitions.Lines.{request_in, request}
use Rattle.lines.specs.Definitions.Tally.{counted}
use Rattle.lines.specs.Definitions.Output.{field, printed_of, unreadable, line_of, last_line}
use Rattle.script.specs.Definitions.Runner.{unread, worked, made, work, begin, step_of, line, lines_from, run_lines, run}

-- a text's bytes
unfoldable pub bytes : text.String → List ℕ
bytes text.[] = []
bytes (text.◌∷◌ c s) = code c ∷ bytes s

-- A theorem that says `unfolding evaluate scripts` computes with the definitions of the line runner too
unfoldable texts : Unit {0}
unfolding digits_in decimal is_digit value_from leading_zero digits_from number field printed_of unreadable line_of last_line counted bytes
texts = tt

unfoldable requests : Unit {0}
unfolding longer words and_one more numbers_from with_one with_two with_three with_four request_of request_in request
requests = tt

unfoldable pub scripts : Unit {0}
unfolding texts requests unread worked made work begin step_of line lines_from run_lines run
scripts = tt

pub no_bank : run (bytes "R 0 0 0\nN 2 1\n\nC 9") ≡ bytes "1 1 0 0 0\n2 9 0 0 0\n3 9 0 0 0\n4 1 0 0 0\n4 0 4\n"
unfolding evaluate scripts
no_bank = refl

-- "Case A, whole input"
pub case_a : run (bytes "N 2 1\nW 1 0 3 7\nR 0 0 3\nK 0\nW 1 0 3 9\nS 0\nR 0 0 3\nR 0 1 0\n")
    ≡ bytes "1 0 0 0 0\n2 0 0 0 2\n3 0 7 0 1\n4 0 0 0 0\n5 0 0 0 0\n6 0 0 0 3\n7 0 9 0 1\n8 2 0 0 0\n8 7 1\n"
unfolding evaluate scripts
case_a = refl

-- Case B: "The repeated R gives 0, the last W makes 4 stores, the last R gives 9 with 2 stores."
pub case_b : run (bytes "N 2 2\nW 0 0 0 5\nR 0 1 0\nW 0 0 1 6\nR 1 0 0\nW 1 1 0 9\nK 0\nS 0\nW 0 0 0 5\nR 0 1 0\nW 0 0 1 6\nR 0 1 0\n")
    ≡ bytes "1 0 0 0 0\n2 0 0 0 0\n3 0 0 0 1\n4 0 0 0 0\n5 0 5 0 2\n6 0 0 0 0\n7 0 0 0 0\n8 0 0 0 0\n9 0 0 0 0\n10 0 0 0 0\n11 0 0 0 4\n12 0 9 0 2\n12 12 0\n"
unfolding evaluate scripts
case_b = refl

-- an input without lines
pub empty_input : run (bytes "")
    ≡ bytes "0 0 0\n"
unfolding evaluate scripts
empty_input = refl

-- byte 10 alone is a line; no line stands behind the last byte 10
pub empty_lines : run (bytes "\n\n")
    ≡ bytes "1 9 0 0 0\n2 9 0 0 0\n2 0 2\n"
unfolding evaluate scripts
empty_lines = refl

-- without a bank a line that can be read prints 1, whatever its numbers are
pub seven_lines : run (bytes "R 0 0 0\nW 1 2 3 4294967295\nC 0\nK 10\nF 9 0\nS 4294967295\nR 4294967295 4294967295 4294967295")
    ≡ bytes "1 1 0 0 0\n2 1 0 0 0\n3 1 0 0 0\n4 1 0 0 0\n5 1 0 0 0\n6 1 0 0 0\n7 1 0 0 0\n7 0 7\n"
unfolding evaluate scripts
seven_lines = refl

-- "the runner's K line uses the new one" (document 02, F-1): K b asks for what F b 0 asks
pub cut_asks_for_zero_fuse : (b : ℕ) → with_one letter_k b ≡ with_two letter_f b 0
unfolding with_one with_two
cut_asks_for_zero_fuse b = refl

pub zero_fuse_lines : run (bytes "N 2 1\nF 0 0\nK 1\nF 1 0\nK 0\nF 0 65535\nS 0\n")
    ≡ bytes "1 0 0 0 0\n2 0 0 0 0\n3 0 0 0 0\n4 3 0 1 0\n5 3 0 0 0\n6 2 0 0 0\n7 0 0 0 3\n7 4 3\n"
unfolding evaluate scripts
zero_fuse_lines = refl

-- the letter, the count of numbers
pub other_lines : run (bytes "X 0\nr 0 0 0\nR\nRR 0 0 0\nR 0 0\nR 0 0 0 0\nW 0 0 0\nW 0 0 0 0 0\nC\nC 0 0\nF 0\nR0 0 0\n 0\n0 C\nN 1 1\n")
    ≡ bytes "1 9 0 0 0\n2 9 0 0 0\n3 9 0 0 0\n4 9 0 0 0\n5 9 0 0 0\n6 9 0 0 0\n7 9 0 0 0\n8 9 0 0 0\n"
    ++ bytes "9 9 0 0 0\n10 9 0 0 0\n11 9 0 0 0\n12 9 0 0 0\n13 9 0 0 0\n14 9 0 0 0\n15 9 0 0 0\n15 0 15\n"
unfolding evaluate scripts
other_lines = refl

-- "One space", and no other
pub spaces : run (bytes "C  0\n C 0\nC 0 \nC 0 \r\nC\t0\nC 0\r\n \nC \n")
    ≡ bytes "1 9 0 0 0\n2 9 0 0 0\n3 9 0 0 0\n4 9 0 0 0\n5 9 0 0 0\n6 9 0 0 0\n7 9 0 0 0\n8 9 0 0 0\n8 0 8\n"
unfolding evaluate scripts
spaces = refl

-- "no leading zeros, numbers to 4,294,967,295"
pub numbers : run (bytes "C 00\nC 01\nC 4294967296\nC 9999999999\nC 42949672950\nC +1\nC -1\nC 1a\nC 1/\nC 1:\nC 0x1\n")
    ≡ bytes "1 9 0 0 0\n2 9 0 0 0\n3 9 0 0 0\n4 9 0 0 0\n5 9 0 0 0\n6 9 0 0 0\n7 9 0 0 0\n8 9 0 0 0\n9 9 0 0 0\n10 9 0 0 0\n11 9 0 0 0\n11 0 11\n"
unfolding evaluate scripts
numbers = refl

-- "at most 64 bytes": an over-long line is one line
pub long_lines : run (bytes "C 00000000000000000000000000000000000000000000000000000000000000\nC 000000000000000000000000000000000000000000000000000000000000000\nC 1\n"
    ++ (bytes "RRRRRRRRRRRRRRRRRRRRRRRRRRRRRRRRRRRRRRRRRRRRRRRRRRRRRRRRRRRRRRRRRRRRRRRRRRRRRRRRRRRRRRRRRRRRRRRRRRRR"
    ++ bytes "RRRRRRRRRRRRRRRRRRRRRRRRRRRRRRRRRRRRRRRRRRRRRRRRRRRRRRRRRRRRRRRRRRRRRRRRRRRRRRRRRRRRRRRRRRRRRRRRRRRR\nC 1\n"))
    ≡ bytes "1 9 0 0 0\n2 9 0 0 0\n3 1 0 0 0\n4 9 0 0 0\n5 1 0 0 0\n5 0 5\n"
unfolding evaluate scripts
long_lines = refl

-- a refused N leaves no bank
pub refused_make : run (bytes "N 9 1\nC 0\nN 1 1\nC 0\n")
    ≡ bytes "1 2 0 0 0\n2 1 0 0 0\n3 9 0 0 0\n4 1 0 0 0\n4 0 4\n"
unfolding evaluate scripts
refused_make = refl

-- N after line 1, with a bank; the last line ends at the end of input
pub later_make : run (bytes "N 1 1\nN 1 1\nR 0 0 15\nR 0 0 16\nS 0")
    ≡ bytes "1 0 0 0 0\n2 9 0 0 0\n3 0 0 0 0\n4 2 0 0 0\n5 3 0 0 0\n5 2 3\n"
unfolding evaluate scripts
later_make = refl
