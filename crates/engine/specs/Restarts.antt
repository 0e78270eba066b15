-- A restart, up to the end of replay that may follow at once: the board's step, the bank that it leaves, and the call. Assumes nothing.
use Rattle.std.specs.Prelude.{◌≡◌, ℕ, ◌+◌, ◌≤◌, ◌<◌, Bool, length, ltb}
use Rattle.std.proofs.Math.Path.{refl}
use Rattle.std.proofs.Common.{sym, ap, ◌∙◌}
use Rattle.std.proofs.Math.Bool.{true, false}
use mathlib.Core.List.{List, []}
use Rattle.types.specs.declared.State.{State}
use Rattle.types.specs.declared.State.TheVariants.{Down}
use Rattle.types.specs.declared.Answer.TheVariants.{Done, WrongState}
use Rattle.types.specs.declared.Outcome.{Outcome}
use Rattle.model.specs.Definitions.Bank.{Board, Bank, board_at, on_board}
use Rattle.model.specs.Definitions.Codec.{decode}
use Rattle.model.specs.Definitions.WellFormed.{FieldsOk, WellFormed, is_down}
use Rattle.model.specs.Definitions.Steps.{start}
use Rattle.model.specs.Definitions.Replay.{loaded, used_up, replay_over, end_replay, end_if_over}
use Rattle.model.specs.Definitions.Calls.{first_given, unless, finished, restart_bank, Restarting, call_bank, refused, call}
use Rattle.model.proofs.Laws.Boards.{board_at_same}
use Rattle.model.proofs.Laws.Keeps.Clauses.{but, on_board_but}
use Rattle.model.specs.Clauses.{Fits, InReplay, WellFormedBut, most_stores}
use Rattle.model.proofs.Laws.Keeps.Replay.{loaded_in_replay, used_up_in_replay}
use Rattle.model.proofs.Laws.Keeps.Peers.{loaded_peers, used_up_peers}
use Rattle.model.proofs.Laws.Runs.{sizes_on_board}
use Rattle.model.proofs.Laws.BoardFields.{loaded_fields}
use Rattle.replay.specs.Used.{used_up_fields}
use Rattle.copies.specs.Banks.{Holds, OfBank, holds_decode, holds_of}
use Rattle.exchange.specs.Progress.{running, lost_by, Came}
use Rattle.accesses.specs.Results.{ended_as}
use Rattle.engine.specs.Clauses.{Replied}
use Rattle.checks.specs.Findings.{OnBoard}
use Rattle.engine.specs.Replies.{call_refused, ran_replied, ended_replied, listed}

-- the board's step
abbrev pub restarted : Board → Board
restarted x = used_up (loaded x)

pub restarted_fields : {pages : ℕ} (x : Board) → FieldsOk pages x → FieldsOk pages (restarted x)
restarted_fields {pages} x ok = used_up_fields (loaded x) (loaded_fields pages x ok)

module _ (b : ℕ) (k : Bank) where
  -- the bank that it leaves
  abbrev pub resumed : Bank
  resumed = on_board b restarted k

  pub resumed_in_replay : WellFormed k → (board_at k b).state ≡ Down → WellFormedBut b InReplay resumed
  resumed_in_replay w down =
      on_board_but b restarted k (but {Kept = Fits} w (λ h. h))
      (λ i h. used_up_in_replay k.directory b (loaded (board_at k b)) (loaded_in_replay k.directory b (board_at k b) h down))
      (λ q. used_up_peers (loaded (board_at k b)) (loaded_peers (board_at k b) q))

  pub resumed_of : {s : List ℕ} → Holds s resumed → (pages : ℕ) → pages ≡ length k.directory → b < length k.boards → OfBank pages b s
  resumed_of h pages e l =
      let z = sizes_on_board b restarted k in
      holds_of h pages b (e ∙ sym z.pages) (rw z.boards l)

  restart_wrong : ltb b (length k.boards) ≡ true → is_down (board_at k b).state ≡ false
      → restart_bank b k ≡ record { answer = WrongState b; run = start k; given = [] }
  unfolding restart_bank unless first_given
  restart_wrong h d = cc

  module _ (l : b < length k.boards) (h : ltb b (length k.boards) ≡ true) (d : is_down (board_at k b).state ≡ true) where
    board_resumed : board_at resumed b ≡ restarted (board_at k b)
    board_resumed = board_at_same b restarted k l

    restart_going : replay_over (restarted (board_at k b)) ≡ false
        → restart_bank b k ≡ record { answer = Done (board_at k b).stable.selected.number; run = start resumed; given = [] }
    unfolding restart_bank unless first_given end_if_over finished start
    restart_going o =
        let u : replay_over (board_at resumed b) ≡ false = rw board_resumed o in
        let e : end_if_over b (start resumed) ≡ start resumed = cc in
        cc

    restart_over : replay_over (restarted (board_at k b)) ≡ true
        → restart_bank b k ≡ finished (board_at k b).stable.selected.number [] (end_replay b (start resumed))
    unfolding restart_bank unless first_given end_if_over start
    restart_over o = let u : replay_over (board_at resumed b) ≡ true = rw board_resumed o in cc

module _ {b : ℕ} {s : List ℕ} {st : State} (on : OnBoard b s st) where
  pub restart_refused : is_down st ≡ false → call (Restarting b) s ≡ refused (WrongState b) s
  unfolding call_bank
  restart_refused d = call_refused s on.formed (Restarting b) (WrongState b) (restart_wrong b (decode s) (listed on) (rw on.state d))

  -- the board goes on replaying, or its replay is over at once
  module _ (d : is_down st ≡ true) (n : ℕ) (e : n ≡ (board_at (decode s) b).stable.selected.number) {t : List ℕ} (h : Holds t (resumed b (decode s))) where
    pub goes_replied : replay_over (restarted (board_at (decode s) b)) ≡ false
        → Replied (call (Restarting b) s) (record { answer = Done n; stores = 0 }) t × (0 ≤ most_stores)
    unfolding call_bank start
    goes_replied o =
        ran_replied s on.formed (Restarting b)
        (record { answer = Done (board_at (decode s) b).stable.selected.number; run = start (resumed b (decode s)); given = [] })
        (restart_going b (decode s) on.inside (listed on) (rw on.state d) o) h.bytes (ap (λ (i : ℕ). Done i) e) refl

    pub ends_replied : replay_over (restarted (board_at (decode s) b)) ≡ true → {u : List ℕ} {o : Outcome} (m : ℕ) (l : Bool)
        → Came u (0 + m) (lost_by b l) (end_replay b (running 0 (decode t))) → (o.answer ≡ ended_as n b l) × (o.stores ≡ m)
        → Replied (call (Restarting b) s) o u × (o.stores ≤ most_stores)
    unfolding call_bank start
    ends_replied v m l came o =
        ended_replied s on.formed (Restarting b) n b m l
        (restart_over b (decode s) on.inside (listed on) (rw on.state d) v ∙ rw e)
        (rw (holds_decode h) at came) o
