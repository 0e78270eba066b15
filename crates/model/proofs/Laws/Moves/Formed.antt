-- Every move keeps a bank well formed, but for the board whose replay is under way. Assumes nothing.
use Rattle.std.specs.Prelude.{◌≡◌, refl, ℕ, false, List, [], length}
use Rattle.std.proofs.Common.{ap, arith, leb-false}
use Rattle.std.proofs.Math.Option.{none, some}
use Rattle.types.specs.declared.CopyOrOwn.TheVariants.{GotOwn}
use Rattle.types.specs.declared.Kind.TheVariants.{Got, Shown}
use Rattle.model.specs.Definitions.Parts.{zeros}
use Rattle.model.specs.Definitions.Layout.{page_size}
use Rattle.model.specs.Definitions.Bank.{Board, Bank, board_at, on_board, on_working}
use Rattle.model.specs.Definitions.Codec.{page_of}
use Rattle.model.specs.Definitions.WellFormed.{is_got, PeersOk, WellFormed}
use Rattle.model.specs.Definitions.Steps.{Run, step, store, stored_record, stored_frame, stored_head, stored_selector, rested_working, Access, frame_of}
use Rattle.model.specs.Definitions.Replay.{loaded, used_up, replay_over, settle}
use Rattle.model.specs.Definitions.Calls.{lacking_of}
use Rattle.model.specs.Clauses.{Fits, InReplay, WellFormedBut}
use Rattle.model.specs.Moves.{Move, does, Phase, Begun, Noted, Fetched, Replays, Settled, Finished, MayStore, anyone, taker, ender, Selects, checkpoints}
use Rattle.model.specs.Moves.{notes_shown, notes_got, stores_record, stores_frame, stores_head, stores_selector, gives_copy, passes_ownership, drops_copies}
use Rattle.model.specs.Moves.{performs, loses_power, sets_fuse, loads, repeats_access, takes_last, settles, Moves, resumes, closes, MayPerform, local}
use Rattle.model.specs.Moves.{taken, TakesCopy, first, behind}
use Rattle.model.specs.Moves.{Guard}
use Rattle.model.specs.History.Statement.{Event, Nothing}
use Rattle.model.proofs.Laws.Logic.{by_option}
use Rattle.model.proofs.Laws.Runs.{lost_not, step_cases}
use Rattle.model.proofs.Laws.Keeps.Clauses.{but, whole, on_board_but, on_board_keeps, place_replaying, up_below, up_not_down, up_not_replaying}
use Rattle.model.proofs.Laws.Keeps.Peers.{loaded_peers, used_up_peers, stored_record_peers, stored_frame_peers, stored_head_peers}
use Rattle.model.proofs.Laws.Keeps.Peers.{stored_selector_peers, rested_peers}
use Rattle.model.proofs.Laws.Keeps.NotedRecords.{note_keeps, stored_record_fits}
use Rattle.model.proofs.Laws.Keeps.Stores.{power_off_keeps, with_fuse_keeps, store_keeps, step_keeps}
use Rattle.model.proofs.Laws.Keeps.Checkpoint.{stored_frame_fits, stored_head_fits, stored_selector_fits, rested_fits}
use Rattle.model.proofs.Laws.Keeps.Accesses.{access_keeps, writable}
use Rattle.model.proofs.Laws.Keeps.Rights.{frame_ok_of, board_byte, give_copy_keeps, drop_copies_keeps, pass_ownership_keeps, no_right}
use Rattle.model.proofs.Laws.Keeps.Replay.{loaded_in_replay, used_up_in_replay, settle_restores}
use Rattle.model.proofs.Laws.Keeps.Live.{frames_count}
use Rattle.model.proofs.Laws.Keeps.Entered.{taken_in_replay, replayed_keeps}
use Rattle.model.proofs.Laws.Moves.{induct}
use Rattle.model.proofs.Laws.Valid.{recordable_plain, recordable_got}

-- ---- a bank between two moves

-- in a call of board d
unfoldable pub FormedIn : ℕ → Phase → Bank → Type 0
FormedIn d Begun k = WellFormed k
FormedIn d (Noted o p) k = WellFormed k
FormedIn d (Fetched a os ps) k = WellFormed k
FormedIn d (Replays e) k = WellFormedBut d InReplay k
FormedIn d (Settled e) k = WellFormed k
FormedIn d (Finished e o) k = WellFormed k

-- nothing can be lost while a replay is under way, so a bank that lost power is well formed
pub record FormedRun (d : ℕ) (φ : Phase) (r : Run) : Type 0 where
  pub going : r.lost ≡ none → FormedIn d φ r.bank
  pub lost : (c : ℕ) → r.lost ≡ some c → WellFormed r.bank

-- whoever may store does so in a well-formed bank
only_formed : {d b : ℕ} {φ : Phase} {k : Bank} → MayStore d b φ → FormedIn d φ k → WellFormed k
unfolding FormedIn
only_formed anyone w = w
only_formed taker w = w
only_formed ender w = w

formed_only : {d b : ℕ} {φ : Phase} {k : Bank} → MayStore d b φ → WellFormed k → FormedIn d φ k
unfolding FormedIn
formed_only anyone w = w
formed_only taker w = w
formed_only ender w = w

pub run_formed : {d b : ℕ} {φ : Phase} {r : Run} → MayStore d b φ → FormedRun d φ r → WellFormed r.bank
run_formed {r = r} o h = by_option r.lost (λ n. only_formed o (h.going n)) h.lost

begins_formed : (d : ℕ) {a : Access} {gave : List ℕ} {φ : Phase} {k : Bank} → MayPerform a gave φ → FormedIn d φ k → WellFormed k
unfolding FormedIn
begins_formed d local w = w
begins_formed d taken w = w

-- copies are taken in a well-formed bank, and leave one
takes_well : (d : ℕ) {o p : ℕ} {a : Access} {φ ψ : Phase} {k : Bank} → TakesCopy a o p φ ψ → FormedIn d φ k → WellFormed k
unfolding FormedIn
takes_well d first w = w
takes_well d (behind l) w = w

-- a bank that is well formed, lost power or not
formed_run : {d b : ℕ} {φ : Phase} {r : Run} → MayStore d b φ → WellFormed r.bank → FormedRun d φ r
formed_run o w = record { going = λ n. formed_only o w; lost = λ c e. w }

-- a call that begins
pub formed_begun : (d : ℕ) (r : Run) → WellFormed r.bank → FormedRun d Begun r
formed_begun d r w = formed_run {b = d} anyone w

-- what a selector's store asks for, and what it leaves
unfoldable pub selects_stores : {d b : ℕ} {φ ψ : Phase} → Selects d b φ ψ → MayStore d b φ
selects_stores checkpoints = anyone
selects_stores resumes = ender
selects_stores closes = ender

formed_selected : {d b : ℕ} {φ ψ : Phase} {r : Run} → Selects d b φ ψ → WellFormed r.bank → FormedRun d ψ r
unfolding FormedIn
formed_selected checkpoints w = record { going = λ n. w; lost = λ c e. w }
formed_selected resumes w = record { going = λ n. w; lost = λ c e. w }
formed_selected closes w = record { going = λ n. w; lost = λ c e. w }

-- ---- each move

-- a step that stores nothing, where power was not lost
step_formed : {d : ℕ} {ψ : Phase} (f : Bank → Bank) (s : Run) → s.lost ≡ none → FormedIn d ψ (f s.bank) → FormedRun d ψ (step f s)
step_formed {d} {ψ} f s n w =
    step_cases (FormedRun d ψ) f s (λ c e. lost_not n e) (λ e. record { going = λ m. w; lost = λ c e. lost_not refl e })

takes_formed : {d o p : ℕ} {a : Access} {φ ψ : Phase} → TakesCopy a o p φ ψ → (f : Bank → Bank) (s : Run) → s.lost ≡ none → WellFormed (f s.bank)
    → FormedRun d ψ (step f s)
unfolding FormedIn
takes_formed first f s n w = step_formed f s n w
takes_formed (behind l) f s n w = step_formed f s n w

-- a store of an up board that keeps the clauses of its board
store_formed : {d : ℕ} {φ : Phase} (b : ℕ) (f : Board → Board) (s : Run) → s.lost ≡ none → MayStore d b φ → FormedRun d φ s
    → (WellFormed s.bank → Fits s.bank.directory b (board_at s.bank b) → Fits s.bank.directory b (f (board_at s.bank b)))
    → (PeersOk (length s.bank.boards) b (board_at s.bank b) → PeersOk (length s.bank.boards) b (f (board_at s.bank b)))
    → WellFormed (store b f s).bank
store_formed b f s n o h g m =
    let w : WellFormed s.bank = run_formed o h in
    store_keeps b f s w (λ e. on_board_keeps b f s.bank w (λ l i. g w i) m)

move_formed : {d : ℕ} {Again : Access → Type 0} {χ : Phase} (s : Run) {ψ : Phase} (m : Move) → s.lost ≡ none → Guard d Again s.bank m χ ψ
    → FormedRun d χ s → FormedRun d ψ (does m s)
unfolding does FormedIn page_of is_got settle lacking_of
move_formed {d} s _ n (notes_shown b p u m l o) h =
    step_formed _ s n
    (note_keeps b (Shown p) d (zeros page_size) s.bank (h.going n) u m (recordable_plain (Shown p) refl l (board_byte (h.going n) d o.board)) o)
move_formed {d} s _ n (notes_got o p u m l r v) h =
    step_formed _ s n
    (note_keeps d (Got GotOwn p) o (frame_of s.bank o p).bytes s.bank (h.going n) u m
    (recordable_got GotOwn (frame_ok_of (h.going n) o p) l (board_byte (h.going n) o v.board)) v)
move_formed s _ n (stores_record b o u) h =
    formed_run o (store_formed b stored_record s n o h (λ w f. stored_record_fits s.bank.directory b (board_at s.bank b) f)
    (stored_record_peers (board_at s.bank b)))
move_formed s _ n (stores_frame b p o u) h =
    formed_run o (store_formed b (stored_frame p) s n o h (λ w f. stored_frame_fits s.bank.directory b p (board_at s.bank b) f)
    (stored_frame_peers p (board_at s.bank b)))
move_formed s _ n (stores_head b o u) h =
    formed_run o (store_formed b stored_head s n o h (λ w f. stored_head_fits s.bank.directory b (board_at s.bank b) w.sizes.pages f)
    (stored_head_peers (board_at s.bank b)))
move_formed s _ n (stores_selector b o u v) h =
    let x : Board = board_at s.bank b in
    let t : Run = store b stored_selector s in
    let w : WellFormed t.bank =
    store_formed b stored_selector s n (selects_stores o) h
    (λ w f.
    stored_selector_fits s.bank.directory b x f (λ i. up_not_replaying u i)
    (omega (arith, ap length v.records, f.alone.fields.working.log.count)))
    (stored_selector_peers x) in
    formed_selected o
    (step_keeps (on_board b (on_working rested_working)) t w
    (λ e. on_board_keeps b (on_working rested_working) t.bank w (λ l f. rested_fits t.bank.directory b (board_at t.bank b) f)
    (rested_peers (board_at t.bank b))))
move_formed {d} s _ n (gives_copy a o p x c i g u m r) h =
    takes_formed x _ s n (give_copy_keeps o d p s.bank (takes_well d x (h.going n)) u m g.page
    (no_right (takes_well d x (h.going n)) d p u g.page r).0
    (record { board = up_below s.bank o g.secure.up; other = g.other }))
move_formed {d} s _ n (passes_ownership a o p c i g own v m) h =
    step_formed _ s n (pass_ownership_keeps o d p s.bank (h.going n) g.page own g.secure.up v.up m)
move_formed {d} s _ n (drops_copies p l own m) h = step_formed _ s n (drop_copies_keeps d p s.bank (h.going n) l own m)
move_formed {d} s _ n (performs a i can has none_out) h =
    let w : WellFormed s.bank = begins_formed d i (h.going n) in
    step_formed _ s n
    (access_keeps d a s.bank w (λ e. up_not_down can.up e) can.since can.number
    (writable a (board_at s.bank d).working.frames has (λ p t. rw (frames_count d a s.bank w can) (can.pages p t)) can.values))
move_formed {d} s _ n (loses_power l) h = step_formed _ s n (power_off_keeps d s.bank (h.going n))
move_formed {d} s _ n (sets_fuse m p low high) h = step_formed _ s n (with_fuse_keeps d m s.bank (h.going n) low high p)
move_formed {d} s _ n (loads l down) h =
    let k : Bank = s.bank in
    step_formed _ s n
    (on_board_but d (λ x. used_up (loaded x)) k (but {Kept = Fits} (h.going n) (λ f. f))
    (λ i f. used_up_in_replay k.directory d (loaded (board_at k d)) (loaded_in_replay k.directory d (board_at k d) f down))
    (λ m. used_up_peers (loaded (board_at k d)) (loaded_peers (board_at k d) m)))
move_formed {d} s _ n (repeats_access a z i rep same over) h = step_formed _ s n (replayed_keeps d a s.bank (h.going n) i rep same over)
move_formed {d} s _ n (takes_last a i rep same over) h = step_formed _ s n (taken_in_replay d a s.bank (h.going n) i rep same)
move_formed {d} s _ n (settles l rep over) h = step_formed _ s n (settle_restores d s.bank (h.going n))

-- a replay that waits has a record left
waits_formed : {d : ℕ} {e : Event} (s : Run) → s.lost ≡ none → replay_over (board_at s.bank d) ≡ false → FormedRun d (Replays e) s
    → FormedRun d (Finished e []) s
unfolding FormedIn replay_over
waits_formed {d} s n over h =
    let x : Board = board_at s.bank d in
    record {
      going =
          λ m.
          whole (h.going m)
          (λ f.
          record {
            alone = f.alone;
            place = place_replaying x.state x f.state (leb-false (length x.stable.selected.log) x.working.place over);
            agreed = f.agreed;
          });
      lost = h.lost;
    }

ends_formed : {d : ℕ} (s : Run) → FormedRun d Begun s → FormedRun d (Finished Nothing []) s
unfolding FormedIn
ends_formed s h = record { going = h.going; lost = h.lost }

lost_formed : {d : ℕ} {χ ψ : Phase} {c : ℕ} (s : Run) → s.lost ≡ some c → FormedRun d χ s → FormedRun d ψ s
lost_formed s e h = record { going = λ n. lost_not n e; lost = h.lost }

pub moves_formed : {d : ℕ} {Again : Access → Type 0} {φ χ : Phase} {r s : Run} → Moves d Again φ r χ s → FormedRun d φ r → FormedRun d χ s
moves_formed {d} t h = induct (FormedRun d) (λ χ ψ s m. move_formed s m) (λ e. waits_formed) ends_formed (λ χ ψ s c. lost_formed s) t h

-- what every move keeps that finds and leaves a bank as its phase has it
pub induct_formed : {d : ℕ} {Again : Access → Type 0} (P : Phase → Run → Type 0)
    → ((χ ψ : Phase) (s : Run) (m : Move) → s.lost ≡ none → Guard d Again s.bank m χ ψ → FormedRun d χ s → FormedRun d ψ (does m s)
    → P χ s → P ψ (does m s))
    → ((e : Event) (s : Run) → s.lost ≡ none → replay_over (board_at s.bank d) ≡ false → FormedRun d (Finished e []) s
    → P (Replays e) s → P (Finished e []) s)
    → ((s : Run) → P Begun s → P (Finished Nothing []) s)
    → ((χ ψ : Phase) (s : Run) (c : ℕ) → s.lost ≡ some c → P χ s → P ψ s)
    → {φ χ : Phase} {r s : Run} → Moves d Again φ r χ s → FormedRun d φ r → P φ r → P χ s
induct_formed {d} P move wait end cut t f h =
    (induct (λ χ s. FormedRun d χ s × P χ s)
    (λ χ ψ s m n a i. let w : FormedRun d ψ (does m s) = move_formed s m n a i.0 in (w, move χ ψ s m n a i.0 w i.1))
    (λ e s n o i. let w : FormedRun d (Finished e []) s = waits_formed s n o i.0 in (w, wait e s n o w i.1))
    (λ s i. (ends_formed s i.0, end s i.1))
    (λ χ ψ s c e i. (lost_formed s e i.0, cut χ ψ s c e i.1))
    t (f, h)).1

-- a page fetched, a call that is over
pub fetched_formed : {d : ℕ} {a : Access} {os ps : List ℕ} {r : Run} → FormedRun d (Fetched a os ps) r → WellFormed r.bank
unfolding FormedIn
fetched_formed {r = r} h = by_option r.lost h.going h.lost

pub finished_formed : {d : ℕ} {e : Event} {gave : List ℕ} {r : Run} → FormedRun d (Finished e gave) r → WellFormed r.bank
unfolding FormedIn
finished_formed {r = r} h = by_option r.lost h.going h.lost
