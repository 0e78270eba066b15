-- The boards of a bank over a call in progress: each goes through changes of RecoveryStatement, and its records stay in order but for what is pending.
-- One lemma for each step of a run. Assumes nothing.
use Rattle.std.specs.Prelude.{◌≡◌, refl, ◌≢◌, ℕ, ◌<◌, length}
use Rattle.std.proofs.Math.Path.{sym}
use Rattle.std.proofs.Common.{ap, ◌∙◌}
use Rattle.std.proofs.Math.Option.{none, some}
use Rattle.types.specs.declared.Frame.{Frame}
use Rattle.types.specs.declared.State.TheVariants.{Up}
use Rattle.model.specs.Definitions.Bank.{Working, Stable, Board, Bank, board_at, on_board, on_working, on_frames, on_spare}
use Rattle.model.specs.Definitions.Steps.{Run, step, powered_off, power_off, burnt, store, stored_frame, stored_head, stored_selector, rested_working, with_frame}
use Rattle.model.proofs.Laws.Logic.{by_eq}
use Rattle.model.proofs.Laws.Boards.{board_at_same, board_at_other, board_at_power_off_same, board_at_power_off_other, power_off_on_board, on_board_on_board}
use Rattle.model.proofs.Laws.Runs.{lost_not, step_cases, store_cases, SameSizes, sizes_same, sizes_trans, sizes_on_board, sizes_power_off}
use Rattle.model.proofs.Laws.Runs.Stores.{burnt_state, burnt_working, burnt_stable}
use Rattle.model.specs.Moves.{Saved}
use Rattle.model.specs.History.RecoveryStatement.{SameCounters, Change, Selected, Lost, Quiet, Changes, unchanged, next}
use Rattle.history.specs.Counters.Spacing.{Orderly, orderly_less, selected_orderly, powered_off_orderly, quiet_orderly}
use Rattle.model.proofs.Laws.Keeps.Stores.{powered_off_burnt}

-- ==== a board

pub changes_trans : {x y z : Board} → Changes x y → Changes y z → Changes x z
changes_trans s unchanged = s
changes_trans s (next t c) = next (changes_trans s t) c

-- board y is x after changes; `P` is what is pending before and `Q` what is pending after them
pub record Advance (P Q : Type 0) (x y : Board) : Type 0 where
  pub changes : Changes x y
  pub orderly : Orderly P x → Orderly Q y

module _ {P Q : Type 0} {x : Board} where
  pub advance_same : (P → Q) → Advance P Q x x
  advance_same f = record { changes = unchanged; orderly = orderly_less f }

  pub advance_one : {y : Board} → Change x y → (Orderly P x → Orderly Q y) → Advance P Q x y
  advance_one c f = record { changes = next unchanged c; orderly = f }

  pub advance_trans : {R : Type 0} {y z : Board} → Advance P Q x y → Advance Q R y z → Advance P R x z
  advance_trans p q = record { changes = changes_trans p.changes q.changes; orderly = λ h. q.orderly (p.orderly h) }

-- what is pending before and after, in other words
pub advance_less : {P P' Q Q' : Type 0} {x y : Board} → (P' → P) → (Q → Q') → Advance P Q x y → Advance P' Q' x y
advance_less f g a = record { changes = a.changes; orderly = λ h. orderly_less g (a.orderly (orderly_less f h)) }

pub advance_quiet : {P : Type 0} {x y : Board} → SameCounters x y → Advance P P x y
advance_quiet s = advance_one (Quiet s) (quiet_orderly s)

pub advance_lost : {P Q : Type 0} (x : Board) → Advance P Q x (powered_off x)
advance_lost x = advance_one (Lost refl) (powered_off_orderly x)

-- a fuse, a frame and the spare area are no counters
burnt_same : (x : Board) → SameCounters x (burnt x)
burnt_same x =
    record {
      state = burnt_state x;
      number = ap (λ (w : Working). w.number) (burnt_working x);
      since = ap (λ (w : Working). w.since) (burnt_working x);
      place = ap (λ (w : Working). w.place) (burnt_working x);
      volatile = ap (λ (w : Working). w.log) (burnt_working x);
      second = ap (λ (t : Stable). t.second) (burnt_stable x);
      selected = ap (λ (t : Stable). t.selected) (burnt_stable x);
    }

pub with_frame_same : (p : ℕ) (f : Frame) (x : Board) → SameCounters x (with_frame p f x)
unfolding with_frame on_working on_frames
with_frame_same p f x = record { state = refl; number = refl; since = refl; place = refl; volatile = refl; second = refl; selected = refl }

pub stored_frame_same : (p : ℕ) (x : Board) → SameCounters x (stored_frame p x)
unfolding stored_frame on_spare
stored_frame_same p x = record { state = refl; number = refl; since = refl; place = refl; volatile = refl; second = refl; selected = refl }

pub stored_head_same : (x : Board) → SameCounters x (stored_head x)
unfolding stored_head on_spare
stored_head_same x = record { state = refl; number = refl; since = refl; place = refl; volatile = refl; second = refl; selected = refl }

selected_advance : {P Q : Type 0} (x : Board) → x.state ≡ Up → Saved x → Advance P Q x (on_working rested_working (stored_selector x))
selected_advance x u v = advance_one (Selected u v.number v.records refl) (λ o. selected_orderly x u v.records)

rested_burnt_same : (x : Board) → SameCounters (on_working rested_working x) (on_working rested_working (burnt x))
unfolding on_working rested_working
rested_burnt_same x =
    let s : SameCounters x (burnt x) = burnt_same x in
    record { state = s.state; number = s.number; since = refl; place = s.place; volatile = refl; second = s.second; selected = s.selected }

powered_off_rested : (x : Board) → powered_off (on_working rested_working x) ≡ powered_off x
unfolding powered_off on_working rested_working
powered_off_rested x = refl

-- ==== a bank

-- every board of bank j is that of k after changes
pub record Advances (P Q : ℕ → Type 0) (k j : Bank) : Type 0 where
  pub sizes : SameSizes k j
  pub boards : (c : ℕ) → c < length k.boards → Advance (P c) (Q c) (board_at k c) (board_at j c)

-- no board has anything pending; board b alone may have
abbrev pub Nobody : ℕ → Type 0
Nobody c = ⊥

abbrev pub Only : ℕ → ℕ → Type 0
Only b c = c ≡ b

pub advances_same : {P Q : ℕ → Type 0} (k : Bank) → ((c : ℕ) → P c → Q c) → Advances P Q k k
advances_same k f = record { sizes = sizes_same k; boards = λ c l. advance_same (f c) }

pub advances_trans : {P Q R : ℕ → Type 0} {k j i : Bank} → Advances P Q k j → Advances Q R j i → Advances P R k i
advances_trans p q =
    record {
      sizes = sizes_trans p.sizes q.sizes;
      boards = λ c l. advance_trans (p.boards c l) (q.boards c (rw p.sizes.boards l));
    }

module _ {P Q : ℕ → Type 0} (b : ℕ) (k : Bank) (others : (c : ℕ) → c ≢ b → P c → Q c) where
  -- a change of board b alone
  pub on_board_advances : (f : Board → Board) → (b < length k.boards → Advance (P b) (Q b) (board_at k b) (f (board_at k b)))
      → Advances P Q k (on_board b f k)
  on_board_advances f a =
      record {
        sizes = sizes_on_board b f k;
        boards = λ c l.
            by_eq c b
            (λ e. let i : b < length k.boards = rw e at l in rw (e, board_at_same b f k i) (a i))
            (λ n. rw (board_at_other b f k c n) (advance_same (others c n)));
      }

  pub power_off_advances : Advances P Q k (power_off b k)
  power_off_advances =
      record {
        sizes = sizes_power_off b k;
        boards = λ c l.
            by_eq c b
            (λ e. let i : b < length k.boards = rw e at l in rw (e, board_at_power_off_same b k i) (advance_lost (board_at k b)))
            (λ n. rw (board_at_power_off_other b k c n) (advance_same (others c n)));
      }

-- what is pending before and after, in other words
pub advances_less : {P P' Q Q' : ℕ → Type 0} {k j : Bank} → ((c : ℕ) → P' c → P c) → ((c : ℕ) → Q c → Q' c) → Advances P Q k j → Advances P' Q' k j
advances_less f g a = record { sizes = a.sizes; boards = λ c l. advance_less (f c) (g c) (a.boards c l) }

-- ==== a run

-- nothing is pending once power was lost
abbrev pub Going : (ℕ → Type 0) → Run → ℕ → Type 0
Going P r c = (r.lost ≡ none) × P c

pub record RunAdvances (P Q : ℕ → Type 0) (r s : Run) : Type 0 where
  pub bank : Advances (Going P r) (Going Q s) r.bank s.bank

pub run_trans : {P Q R : ℕ → Type 0} {r s t : Run} → RunAdvances P Q r s → RunAdvances Q R s t → RunAdvances P R r t
run_trans p q = record { bank = advances_trans p.bank q.bank }

pub run_same : {P Q : ℕ → Type 0} (r : Run) → ((c : ℕ) → P c → Q c) → RunAdvances P Q r r
run_same r f = record { bank = advances_same r.bank (λ c g. (g.0, f c g.1)) }

module _ {P Q : ℕ → Type 0} where
  pub lost_advances : (r : Run) (c : ℕ) → r.lost ≡ some c → RunAdvances P Q r r
  lost_advances r c e = record { bank = advances_same r.bank (λ d g. lost_not g.0 e) }

  pub step_advances : (f : Bank → Bank) (r : Run) → (r.lost ≡ none → Advances P Q r.bank (f r.bank)) → RunAdvances P Q r (step f r)
  step_advances f r a =
      step_cases (RunAdvances P Q r) f r
      (lost_advances r)
      (λ n. record { bank = advances_less (λ c g. g.1) (λ c q. (refl, q)) (a n) })

-- the fuse of board b is lowered
burnt_advances : {P : ℕ → Type 0} (b : ℕ) (k : Bank) → Advances P P k (on_board b burnt k)
burnt_advances b k = on_board_advances b k (λ c n p. p) burnt (λ l. advance_quiet (burnt_same (board_at k b)))

-- a store of board b, of which alone something may be pending
module _ {P : ℕ → Type 0} (b : ℕ) (only : (c : ℕ) → c ≢ b → P c → ⊥) where
  -- its fuse blows
  cut_advances : (k : Bank) (f : Board → Board) → (b < length k.boards → Advance (P b) (b ≡ b) (board_at k b) (f (board_at k b)))
      → Advances P Nobody k (power_off b (on_board b burnt (on_board b f k)))
  cut_advances k f a =
      advances_trans (on_board_advances {Q = Only b} b k (λ c n p. absurd (only c n p)) f a)
      (advances_trans (burnt_advances b (on_board b f k)) (power_off_advances b (on_board b burnt (on_board b f k)) (λ c n e. n e)))

  pub store_advances : {Q : ℕ → Type 0} (f : Board → Board) (r : Run)
      → (r.lost ≡ none → b < length r.bank.boards → Advance (P b) (Q b) (board_at r.bank b) (f (board_at r.bank b)))
      → RunAdvances P Q r (store b f r)
  store_advances {Q} f r a =
      store_cases (RunAdvances P Q r) b f r
      (lost_advances r)
      (λ n z.
      record {
        bank =
            advances_less (λ c g. g.1) (λ c q. absurd q)
            (cut_advances r.bank f (λ l. advance_less (λ p. p) (λ q. refl) (a n l)));
      })
      (λ n z.
      record {
        bank =
            advances_less (λ c g. g.1) (λ c q. (refl, q))
            (advances_trans (on_board_advances b r.bank (λ c m p. absurd (only c m p)) f (a n)) (burnt_advances b (on_board b f r.bank)));
      })

  -- the selector and the rest after it, of an up board whose spare area has its head
  pub selector_advances : (r : Run) → (board_at r.bank b).state ≡ Up → Saved (board_at r.bank b)
      → RunAdvances P Nobody r (step (on_board b (on_working rested_working)) (store b stored_selector r))
  unfolding step
  selector_advances r u v =
      let k : Bank = r.bank in
      let x : Board = board_at k b in
      store_cases (λ s. RunAdvances P Nobody r (step (on_board b (on_working rested_working)) s)) b stored_selector r
      (λ c i. step_advances (on_board b (on_working rested_working)) r (λ n. lost_not n i))
      (λ n z.
      let j : Bank = on_board b stored_selector k in
      let e : power_off b (on_board b burnt j) ≡ power_off b (on_board b (on_working rested_working) j) =
      power_off_on_board b j burnt powered_off_burnt ∙ sym (power_off_on_board b j (on_working rested_working) powered_off_rested) in
      record {
        bank =
            advances_less (λ c g. g.1) (λ c q. absurd q)
            (rw (e, on_board_on_board b stored_selector (on_working rested_working) k)
            (advances_trans {Q = Nobody}
            (on_board_advances b k only (λ y. on_working rested_working (stored_selector y)) (λ l. selected_advance x u v))
            (power_off_advances b (on_board b (λ y. on_working rested_working (stored_selector y)) k) (λ c m q. q))));
      })
      (λ n z.
      record {
        bank =
            advances_less (λ c g. g.1) (λ c q. absurd q)
            (rw (on_board_on_board b stored_selector burnt k, on_board_on_board b (λ y. burnt (stored_selector y)) (on_working rested_working) k)
            (on_board_advances b k only (λ y. on_working rested_working (burnt (stored_selector y)))
            (λ l. advance_trans (selected_advance x u v) (advance_quiet (rested_burnt_same (stored_selector x))))));
      })
