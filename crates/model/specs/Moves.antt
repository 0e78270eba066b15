-- A call as a list of moves of the bank. A move is the smallest change after which every law can be said again; a call is cut off after the store that blew a
-- fuse, and a selector's store that did so has nothing behind it. Each move has a guard, what the laws need of the bank when a call makes it: so a law about
-- calls is a law about each move (Laws/Moves). No law stands here. Assumes nothing.
use Rattle.std.specs.Prelude.{◌≡◌, ◌≢◌, ℕ, ◌≤◌, ◌<◌, true, false, ◌||◌, List, [], ◌∷◌, ◌++◌, length, eqb}
use Rattle.std.proofs.Math.Option.{none, some}
use Rattle.words.specs.Bytes.{Each}
use Rattle.types.specs.declared.Right.TheVariants.{None, Own}
use Rattle.types.specs.declared.CopyOrOwn.TheVariants.{GotCopy, GotOwn}
use Rattle.types.specs.declared.Kind.TheVariants.{Got, Shown}
use Rattle.types.specs.declared.State.TheVariants.{Up, Down, Replaying}
use Rattle.model.specs.Definitions.Parts.{zeros, member}
use Rattle.model.specs.Definitions.Layout.{page_size, no_fuse}
use Rattle.model.specs.Definitions.Bank.{Board, Bank, board_at, entry_at, on_board, on_working}
use Rattle.model.specs.Definitions.Steps.{Run, step, power_off, with_fuse, store, note, stored_record, stored_frame, stored_head, stored_selector}
use Rattle.model.specs.Definitions.Steps.{rested_working, Access, names, takes, read_from, access, frame_of, give_copy, drop_copies, pass_ownership}
use Rattle.model.specs.Definitions.Replay.{restarted, differs, took_due, replay_over, replayed, settle}
use Rattle.model.specs.Definitions.Calls.{lacking_of, copies_out}
use Rattle.model.specs.Clauses.{Another, RoomFor, Entered, CanAccess}
use Rattle.model.specs.History.Statement.{Event, Accessed, Restarted, LostPower, Nothing}

-- ---- what a move does

pub data Move : Type 0 where
  -- a record noted: the giver's shown, which names the taker; the taker's got own, which names the giver, with its bytes
  NoteShown : (board taker page : ℕ) → Move
  NoteGot : (board giver page : ℕ) → Move
  -- a store: the first volatile record; a frame, the head, the selector of a checkpoint, with what follows the selector
  StoreRecord : (board : ℕ) → Move
  StoreFrame : (board page : ℕ) → Move
  StoreHead : (board : ℕ) → Move
  StoreSelector : (board : ℕ) → Move
  -- a copy given, ownership passed, the copies of a page dropped for its writer
  GiveCopy : (giver board page : ℕ) → Move
  PassOwnership : (owner board page : ℕ) → Move
  DropCopies : (writer page : ℕ) → Move
  -- an access of an up board
  Perform : (board : ℕ) (access : Access) → Move
  -- power lost by a fuse of 0; a fuse set
  LosePower : (board : ℕ) → Move
  SetFuse : (board stores : ℕ) → Move
  -- a restart's load, with the records that are due; an access repeated, with its gots and the records that it makes due; the last gots taken; a replay
  -- settled
  Load : (board : ℕ) → Move
  Repeat : (board : ℕ) (access : Access) → Move
  TakeLast : (board : ℕ) → Move
  Settle : (board : ℕ) → Move

unfoldable pub does : Move → Run → Run
does (NoteShown b t p) r = step (note b (Shown p) t (zeros page_size)) r
does (NoteGot b o p) r = step (λ k. note b (Got GotOwn p) o (frame_of k o p).bytes k) r
does (StoreRecord b) r = store b stored_record r
does (StoreFrame b p) r = store b (stored_frame p) r
does (StoreHead b) r = store b stored_head r
does (StoreSelector b) r = step (on_board b (on_working rested_working)) (store b stored_selector r)
does (GiveCopy o b p) r = step (give_copy o b p) r
does (PassOwnership o b p) r = step (pass_ownership o b p) r
does (DropCopies w p) r = step (drop_copies w p) r
does (Perform b a) r = step (access b a) r
does (LosePower b) r = step (power_off b) r
does (SetFuse b n) r = step (on_board b (with_fuse n)) r
does (Load b) r = step (on_board b restarted) r
does (Repeat b a) r = step (λ k. on_board b (replayed a) (on_board b took_due k)) r
does (TakeLast b) r = step (on_board b took_due) r
does (Settle b) r = step (settle b) r

-- ---- when a call makes it

-- How far a call of a board has come between two moves: begun, with nothing under way; a got own noted, whose page has not passed; pages fetched for an access
-- that is to come, with who gave them; a replay that may have no record left; a replay that ended, without its checkpoint; over. From the access, the restart
-- or the power loss on it carries what the call is to feed to the history: the event, and who gave a page away.
pub data Phase : Type 0 where
  Begun : Phase
  Noted : (giver page : ℕ) → Phase
  Fetched : (access : Access) (givers pages : List ℕ) → Phase
  Replays : (event : Event) → Phase
  Settled : (event : Event) → Phase
  Finished : (event : Event) (gave : List ℕ) → Phase

-- which boards may store a record, a frame or a head in a phase of a call of board d: any where nothing is under way; the caller alone once its got is noted
-- or its replay settled; in the other phases none
pub data MayStore (d : ℕ) : ℕ → Phase → Type 0 where
  anyone : {b : ℕ} → MayStore d b Begun
  taker : {o p : ℕ} → MayStore d d (Noted o p)
  ender : {e : Event} → MayStore d d (Settled e)

-- what a selector's store leads to: of a checkpoint by itself the call goes on as before; of the end of a replay the access that took the last got goes on
-- live, or the call is over
pub data Selects (d : ℕ) : ℕ → Phase → Phase → Type 0 where
  checkpoints : {b : ℕ} → Selects d b Begun Begun
  resumes : Selects d d (Settled Nothing) Begun
  closes : {e : Event} → Selects d d (Settled e) (Finished e [])

-- a copy is taken with nothing under way, or right behind copies of lower pages
pub data TakesCopy (a : Access) (o p : ℕ) : Phase → Phase → Type 0 where
  first : TakesCopy a o p Begun (Fetched a (o ∷ []) (p ∷ []))
  behind : {os ps : List ℕ} → Each (λ q. q < p) ps → TakesCopy a o p (Fetched a os ps) (Fetched a (os ++ (o ∷ [])) (ps ++ (p ∷ [])))

-- an access is made with nothing under way, or with its pages just fetched from who gave them
pub data MayPerform (a : Access) : List ℕ → Phase → Type 0 where
  local : MayPerform a [] Begun
  taken : {os ps : List ℕ} → MayPerform a os (Fetched a os ps)

-- the spare area is a checkpoint of the working memory
pub record Saved (x : Board) : Type 0 where
  pub number : x.stable.spare.number ≡ x.working.number
  pub frames : x.stable.spare.frames ≡ x.working.frames
  pub records : x.stable.spare.log ≡ []

-- an up board has stored all that it counted
pub record Secure (x : Board) : Type 0 where
  pub up : x.state ≡ Up
  pub since : x.working.since ≡ 0
  pub volatile : x.working.log ≡ []

-- board o has a right to page p, which another board takes, and has stored all that it counted
pub record Gives (o d p : ℕ) (k : Bank) : Type 0 where
  pub page : p < length k.directory
  pub right : (frame_of k o p).right ≢ None
  pub other : o ≢ d
  pub secure : Secure (board_at k o)

-- A move that a call of board d may make in this bank, and how far the call is before and after it. `Again a` is what a repeated access a needs beside the
-- bank: that the premise of demand 3 speaks of it.
pub data Guard (d : ℕ) (Again : Access → Type 0) (k : Bank) : Move → Phase → Phase → Type 0 where
  notes_shown : (b p : ℕ) → (board_at k b).state ≡ Up → RoomFor 1 (board_at k b) → p < length k.directory → Another d b k
      → Guard d Again k (NoteShown b d p) Begun Begun
  notes_got : (o p : ℕ) → (board_at k d).state ≡ Up → RoomFor 1 (board_at k d) → p < length k.directory → (frame_of k d p).right ≢ Own → Another o d k
      → Guard d Again k (NoteGot d o p) Begun (Noted o p)
  stores_record : (b : ℕ) {φ : Phase} → MayStore d b φ → (board_at k b).state ≡ Up → Guard d Again k (StoreRecord b) φ φ
  stores_frame : (b p : ℕ) {φ : Phase} → MayStore d b φ → (board_at k b).state ≡ Up → Guard d Again k (StoreFrame b p) φ φ
  stores_head : (b : ℕ) {φ : Phase} → MayStore d b φ → (board_at k b).state ≡ Up → Guard d Again k (StoreHead b) φ φ
  stores_selector : (b : ℕ) {φ ψ : Phase} → Selects d b φ ψ → (board_at k b).state ≡ Up → Saved (board_at k b) → Guard d Again k (StoreSelector b) φ ψ
  gives_copy : (a : Access) (o p : ℕ) {φ ψ : Phase} → TakesCopy a o p φ ψ → takes a ≡ GotCopy → names a p ≡ true → Gives o d p k → (board_at k d).state ≡ Up
      → RoomFor 1 (board_at k d) → (frame_of k d p).right ≡ None → Guard d Again k (GiveCopy o d p) φ ψ
  passes_ownership : (a : Access) (o p : ℕ) → takes a ≡ GotOwn → names a p ≡ true → Gives o d p k → (entry_at k p).owner ≡ o → Secure (board_at k d)
      → ((c : ℕ) → c < length k.boards → c ≢ d → (eqb c o || member c (entry_at k p).copies) ≡ true → RoomFor 1 (board_at k c))
      → Guard d Again k (PassOwnership o d p) (Noted o p) (Fetched a (o ∷ []) (p ∷ []))
  drops_copies : (p : ℕ) → p < length k.directory → (entry_at k p).owner ≡ d
      → ((c : ℕ) → c < length k.boards → member c (entry_at k p).copies ≡ true → RoomFor 1 (board_at k c)) → Guard d Again k (DropCopies d p) Begun Begun
  performs : (a : Access) {gave : List ℕ} {φ : Phase} → MayPerform a gave φ → CanAccess d a k → lacking_of d a k ≡ false → copies_out a k ≡ false
      → Guard d Again k (Perform d a) φ (Finished (Accessed d a (read_from a (board_at k d).working.frames)) gave)
  loses_power : d < length k.boards → Guard d Again k (LosePower d) Begun (Finished (LostPower d) [])
  sets_fuse : (n : ℕ) → (board_at k d).state ≢ Down → 0 < n → n ≤ no_fuse → Guard d Again k (SetFuse d n) Begun Begun
  loads : d < length k.boards → (board_at k d).state ≡ Down → Guard d Again k (Load d) Begun (Replays (Restarted d (board_at k d).stable.selected.number))
  repeats_access : (a : Access) → Again a → Entered d a k → (board_at k d).state ≡ Replaying → differs a (board_at k d) ≡ false
      → replay_over (took_due (board_at k d)) ≡ false
      → Guard d Again k (Repeat d a) Begun (Replays (Accessed d a (read_from a (took_due (board_at k d)).working.frames)))
  takes_last : (a : Access) → Entered d a k → (board_at k d).state ≡ Replaying → differs a (board_at k d) ≡ false
      → replay_over (took_due (board_at k d)) ≡ true → Guard d Again k (TakeLast d) Begun (Replays Nothing)
  settles : {e : Event} → d < length k.boards → (board_at k d).state ≡ Replaying → replay_over (board_at k d) ≡ true
      → Guard d Again k (Settle d) (Replays e) (Settled e)

-- ---- a call

-- One move after the other of a call of board d, from a run in one phase to a run in another. Where a record is left a replay waits for its board's next
-- access. A call that feeds nothing may end wherever nothing is under way (`ends`). Once a board lost power no move follows, and any phase may be claimed,
-- since no law says anything of it then (`cut_off`).
pub data Moves (d : ℕ) (Again : Access → Type 0) (φ : Phase) (r : Run) : Phase → Run → Type 0 where
  still : Moves d Again φ r φ r
  then : {χ ψ : Phase} {s : Run} → Moves d Again φ r χ s → (m : Move) → s.lost ≡ none → Guard d Again s.bank m χ ψ → Moves d Again φ r ψ (does m s)
  waits : {e : Event} {s : Run} → Moves d Again φ r (Replays e) s → s.lost ≡ none → replay_over (board_at s.bank d) ≡ false
      → Moves d Again φ r (Finished e []) s
  ends : {s : Run} → Moves d Again φ r Begun s → Moves d Again φ r (Finished Nothing []) s
  cut_off : {χ ψ : Phase} {s : Run} {c : ℕ} → Moves d Again φ r χ s → s.lost ≡ some c → Moves d Again φ r ψ s
