-- Document 02, F-6: what one access logs and whom its records name, beside the request's sentence. No law stands here. Assumes nothing.
use Rattle.std.specs.Prelude.{◌≡◌, ℕ, ◌<◌, true, false, ◌||◌, List, [], ◌∷◌, ◌++◌, map, length, eqb}
use Rattle.std.proofs.Math.Option.{some}
use Rattle.types.specs.declared.Answer.TheVariants.{Done}
use Rattle.types.specs.declared.CopyOrOwn.{CopyOrOwn}
use Rattle.types.specs.declared.Kind.{Kind}
use Rattle.types.specs.declared.Kind.TheVariants.{Got, Shown, Dropped}
use Rattle.types.specs.declared.Record.{Record}
use Rattle.model.specs.Definitions.Parts.{member}
use Rattle.model.specs.Definitions.Bank.{Board, Bank, board_at, entry_at}
use Rattle.model.specs.Definitions.WellFormed.{WellFormed}
use Rattle.model.specs.Definitions.Steps.{Access, Cell, takes, cells_written, giver}
use Rattle.model.specs.Definitions.Calls.{Accessing, call_bank, pages_lacking}
use Rattle.model.specs.Clauses.{records_of}
use Rattle.model.specs.History.Statement.{live_bank}

-- what a record says, but for its count and its page bytes: its kind with the page, and whom it names
pub record Said : Type 0 where
  pub kind : Kind
  pub peer : ℕ

abbrev pub said : Record → Said
said r = record { kind = r.kind; peer = r.peer }

-- all that a board's log says: the records stored in the selected area, then the volatile ones
unfoldable pub said_by : Board → List Said
said_by x = map said (records_of x)

-- "the giver in a got": a got for each page that board b takes
unfoldable pub gots_said : CopyOrOwn → Bank → List ℕ → List Said
gots_said g k ps = map (λ p. record { kind = Got g p; peer = giver g k p }) ps

-- "the taker in a shown": a shown for each page that board c gives to board b
unfoldable pub showns_said : CopyOrOwn → Bank → (b c : ℕ) → List ℕ → List Said
showns_said g k b c [] = []
showns_said g k b c (p ∷ ps) =
    elim (eqb (giver g k p) c) [ true ↦ record { kind = Shown p; peer = b } ∷ showns_said g k b c ps | false ↦ showns_said g k b c ps ]

-- "the writer in a dropped": of each cell that board b writes, if board c owns or holds its page
unfoldable pub drops_said : Bank → (b c : ℕ) → List (Cell × ℕ) → List Said
drops_said k b c [] = []
drops_said k b c (w ∷ ws) =
    elim (eqb c (entry_at k w.0.page).owner || member c (entry_at k w.0.page).copies) [
      | true ↦ record { kind = Dropped w.0.page; peer = b } ∷ drops_said k b c ws
      | false ↦ drops_said k b c ws
    ]

-- what an access of board b that goes on live in bank k adds to the log of board c: its own gots; in each other board what that one showed it, then what that
-- one dropped for it
unfoldable pub said_new : (b : ℕ) → Access → Bank → (c : ℕ) → List Said
said_new b a k c =
    let ps : List ℕ = pages_lacking b a k in
    elim (eqb c b) [ true ↦ gots_said (takes a) k ps | false ↦ showns_said (takes a) k b c ps ++ drops_said k b c (cells_written a) ]

-- The got, the shown and the dropped of one fetch name each other: a done access that goes on live, at once or behind the end of a replay, adds exactly these
-- records to the log of every board, to what stood there when it went on.
abbrev pub AccessLogs : (b : ℕ) → Access → Bank → Type 0
AccessLogs b a k =
    WellFormed k → (v : ℕ) → (call_bank (Accessing b a) k).answer ≡ Done v → (j : Bank) → live_bank b a k ≡ some j → (c : ℕ) → c < length k.boards
    → said_by (board_at (call_bank (Accessing b a) k).run.bank c) ≡ said_by (board_at j c) ++ said_new b a j c
