-- Document 02, F-3: "On an up board they equal those of single reads with nothing between, where these are all done." Definitions only. Assumes nothing.
use Rattle.std.specs.Prelude.{◌≡◌, ℕ, List, map}
use Rattle.types.specs.declared.Answer.{Answer}
use Rattle.types.specs.declared.Answer.TheVariants.{Done}
use Rattle.types.specs.declared.State.TheVariants.{Up}
use Rattle.model.specs.Definitions.Bank.{board_at}
use Rattle.model.specs.Definitions.Codec.{decode}
use Rattle.model.specs.Definitions.Steps.{Cell, cells_asked, Read, ReadCells}
use Rattle.model.specs.Definitions.Answers.{code}
use Rattle.model.specs.Definitions.Calls.{Call, Accessing, call}
use Rattle.model.specs.History.Statement.{Observed, run_of}

-- a read of each cell, in the asked order
abbrev pub single_reads : ℕ → List Cell → List Call
single_reads b cs = map (λ (c : Cell). Accessing b (Read c.page c.offset)) cs

-- what they answer, one after the other, from the same bytes
abbrev pub answers_of : List Call → List ℕ → List Answer
answers_of cs s = map (λ (x : Observed). x.outcome.answer) (run_of cs s)

-- The bytes that a call gives into its second buffer are the values of single reads: on any bytes, for any list of cells and any second buffer, where the
-- board is up, the call is done and so are all the reads.
abbrev pub CellsAsReads : (board : ℕ) (cells : List ℕ) (out_length : ℕ) → List ℕ → Type 0
CellsAsReads b cells out_length s =
    (board_at (decode s) b).state ≡ Up
    → code (call (Accessing b (ReadCells cells out_length)) s).outcome.answer ≡ 0
    → (values : List ℕ)
    → answers_of (single_reads b (cells_asked cells)) s ≡ map Done values
    → (call (Accessing b (ReadCells cells out_length)) s).given ≡ values
