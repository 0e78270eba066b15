-- What a call of one board leaves of every board's log, whatever it answers and whoever loses power in it (for document 02's F-7): no shown is left volatile,
-- and any other up board that keeps its power has no more gots, and no more showns but those to the caller. Assumes nothing.
use Rattle.std.specs.Prelude.{◌≡◌, ◌≢◌, ◌⊎◌, ℕ, ◌+◌, ◌<◌, Bool, false, ◌&&◌, List, [], ◌∷◌, ◌++◌, length, eqb}
use Rattle.std.proofs.Math.Path.{refl, ap}
use Rattle.std.proofs.Common.{sym, ◌∙◌, inr, append_assoc, append-nil, ne_eqb}
use Rattle.std.proofs.Math.Logic.{inl}
use Rattle.std.proofs.Math.Option.{none, some}
use Rattle.words.specs.Bytes.{Each, each_nil, each_cons}
use Rattle.types.specs.declared.Kind.{Kind}
use Rattle.types.specs.declared.Kind.TheVariants.{Got, Shown, Dropped}
use Rattle.types.specs.declared.Record.{Record}
use Rattle.types.specs.declared.State.TheVariants.{Up, Down}
use Rattle.model.specs.Definitions.Parts.{zeros}
use Rattle.model.specs.Definitions.Layout.{page_size, last_since}
use Rattle.model.specs.Definitions.Bank.{Working, Board, Bank, no_board, board_at, on_board, on_working, on_spare, on_frames}
use Rattle.model.specs.Definitions.WellFormed.{is_got, is_replaying}
use Rattle.model.specs.Definitions.Steps.{Run, start, step, powered_off, power_off, with_fuse, burnt, store_all, appended, recorded, note}
use Rattle.model.specs.Definitions.Steps.{moved_record, stored_record, record_stores, flush, stored_frame, stored_head, stored_selector, rested_working}
use Rattle.model.specs.Definitions.Steps.{Access, accessed, show, with_frame, dropped}
use Rattle.model.specs.Definitions.Replay.{loaded, used_up, restarted, took_due, due, records_left, settled, replayed}
use Rattle.model.specs.Definitions.Logs.{is_shown, pages_naming, gots_from, showns_to}
use Rattle.model.specs.Definitions.Calls.{Result, access_bank, access_refusals, access_within}
use Rattle.model.specs.Definitions.Calls.{Call, call_bank}
use Rattle.model.specs.Clauses.{records_of}
use Rattle.model.proofs.Laws.Logic.{cases, by_eq, by_option}
use Rattle.model.proofs.Laws.Lists.{each_tail, each_append}
use Rattle.model.proofs.Laws.Boards.{stored_record_cases, board_at_out, by_board, boards_on_board, board_at_power_off_same}
use Rattle.model.proofs.Laws.Runs.{lost_not, store_cases, each_record_stores, follows_store_all, follows_flush, follows_show}
use Rattle.model.proofs.Laws.Runs.{step_same}
use Rattle.model.proofs.Laws.Runs.Stores.{burnt_state, burnt_working, burnt_stable, flushed_stored_record, flush_empties}
use Rattle.model.proofs.Laws.Keeps.Peers.{use_up_log, took_gots_log}
use Rattle.model.specs.Laws.Codes.Statement.{board_named}
use Rattle.model.proofs.Laws.EveryBoard.{Boards, KeepsOn, every_on_board, every_step, every_store_all, Lasts, every_unless, every_live, every_replaying}
use Rattle.model.proofs.Laws.EveryBoard.{every_call}
use Rattle.model.proofs.Laws.LogPages.{pages_append}

-- ==== a flush, whole or cut short

-- a power loss empties the volatile log
stores_lost : (b : ℕ) (fs : List (Board → Board)) (r : Run) (c : ℕ) → b < length r.bank.boards → r.lost ≡ none → (store_all b fs r).lost ≡ some c
    → (board_at (store_all b fs r).bank b).working.log ≡ []
unfolding store_all powered_off
stores_lost b [] r c l n e = lost_not n e
stores_lost b (f ∷ fs) r c l n e =
    let k : Bank = on_board b burnt (on_board b f r.bank) in
    let m : b < length k.boards = rw (boards_on_board b burnt (on_board b f r.bank), boards_on_board b f r.bank) l in
    store_cases (λ s. (store_all b fs s).lost ≡ some c → (board_at (store_all b fs s).bank b).working.log ≡ []) b f r
    (λ d z. lost_not n z)
    (λ z y i.
    let s : Run = record { bank = power_off b k; stores = r.stores + 1; lost = some b } in
    rw ((follows_store_all b fs s).lost b refl, board_at_power_off_same b k m) refl)
    (λ z y. stores_lost b fs _ c m refl)
    e

flush_leaves_none : (b : ℕ) (r : Run) → r.lost ≡ none → (board_at (flush b r).bank b).working.log ≡ []
unfolding flush no_board
flush_leaves_none b r n =
    by_board r.bank b
    (λ l.
    by_option (flush b r).lost
    (λ m. flush_empties b r l m)
    (λ c e. stores_lost b (record_stores (board_at r.bank b)) r c l n e))
    (λ out. rw (board_at_out (flush b r).bank b (rw (follows_flush b r).sizes.boards out)) refl)

-- ==== one board

-- no shown is volatile
abbrev pub NoneShown : Board → Type 0
NoneShown x = Each (λ r. is_shown r.kind ≡ false) x.working.log

none_same : (x y : Board) → y.working.log ≡ x.working.log → NoneShown x → NoneShown y
none_same x y e h = rw e h

used_up_log : (x : Board) → (used_up x).working.log ≡ x.working.log
unfolding used_up on_working
used_up_log x = use_up_log (records_left x) x.working

took_due_log : (x : Board) → (took_due x).working.log ≡ x.working.log
unfolding took_due on_working
took_due_log x = took_gots_log (due x) x.working

-- board y was x, up, when a call of board d began
pub record Stood (d : ℕ) (x y : Board) : Type 0 where
  pub state : y.state ≡ Up
  pub gots : (t : ℕ) → gots_from t (records_of y) ≡ gots_from t (records_of x)
  pub showns : (t : ℕ) → t ≢ d → showns_to t (records_of y) ≡ showns_to t (records_of x)

-- the same records
stood_same : {d : ℕ} (x y z : Board) → z.state ≡ y.state → records_of z ≡ records_of y → Stood d x y → Stood d x z
stood_same x y z s e h =
    record {
      state = s ∙ h.state;
      gots = λ t. ap (gots_from t) e ∙ h.gots t;
      showns = λ t n. ap (showns_to t) e ∙ h.showns t n;
    }

-- a record noted that is none of those that are looked for
pages_noted : (such : Kind → Bool) (t : ℕ) (kind : Kind) (peer : ℕ) (bytes : List ℕ) (x : Board) → (such kind && eqb peer t) ≡ false
    → pages_naming such t (records_of (on_working (recorded kind peer bytes) x)) ≡ pages_naming such t (records_of x)
unfolding records_of on_working recorded appended pages_naming
pages_noted such t kind peer bytes x other =
    let stored : List Record = x.stable.selected.log in
    let volatile : List Record = x.working.log in
    let new : List Record = record { count = x.working.since; kind = kind; peer = peer; bytes = bytes } ∷ [] in
    let none_new : pages_naming such t new ≡ [] = cc in
    ap (pages_naming such t) (sym (append_assoc stored volatile new))
    ∙ (pages_append such t (stored ++ volatile) new
    ∙ (ap (λ (l : List ℕ). pages_naming such t (stored ++ volatile) ++ l) none_new ∙ append-nil (pages_naming such t (stored ++ volatile))))

module _ (d : ℕ) (x y : Board) where
  stood_shown : (p : ℕ) (bytes : List ℕ) → Stood d x y → Stood d x (on_working (recorded (Shown p) d bytes) y)
  unfolding on_working is_got is_shown
  stood_shown p bytes h =
      record {
        state = h.state;
        gots = λ t. pages_noted is_got t (Shown p) d bytes y refl ∙ h.gots t;
        showns = λ t n. pages_noted is_shown t (Shown p) d bytes y (ne_eqb d t (λ e. n (sym e))) ∙ h.showns t n;
      }

  stood_dropped : (p : ℕ) → Stood d x y → Stood d x (dropped d p y)
  unfolding dropped with_frame on_frames on_working is_got is_shown records_of
  stood_dropped p h =
      record {
        state = h.state;
        gots = λ t. pages_noted is_got t (Dropped p) d (zeros page_size) y refl ∙ h.gots t;
        showns = λ t n. pages_noted is_shown t (Dropped p) d (zeros page_size) y refl ∙ h.showns t n;
      }

  stood_stored : Stood d x y → Stood d x (stored_record y)
  stood_stored h = stood_same x y (stored_record y) (flushed_stored_record y).state (flushed_stored_record y).records h

  stood_burnt : Stood d x y → Stood d x (burnt y)
  unfolding records_of
  stood_burnt h = stood_same x y (burnt y) (burnt_state y) (cc (burnt_working y, burnt_stable y)) h

-- ==== every board

-- a call of board d began with bank k
module _ (k : Bank) (d : ℕ) where
  -- board c, if it is another than the caller and was up: it lost its power, or stood by
  abbrev StandsBy : ℕ → Board → Type 0
  StandsBy c y = c ≢ d → (board_at k c).state ≡ Up → (y.state ≡ Down) ⊎ Stood d (board_at k c) y

  abbrev pub LogKept : ℕ → Board → Type 0
  LogKept c y = NoneShown y × StandsBy c y

  stands_on : (c : ℕ) (y z : Board) → z.state ≡ y.state → (Stood d (board_at k c) y → Stood d (board_at k c) z) → StandsBy c y → StandsBy c z
  stands_on c y z s f h n u = elim (h n u) [ inl e ↦ inl (s ∙ e) | inr e ↦ inr (f e) ]

  stands_off : (c : ℕ) (y : Board) → StandsBy c (powered_off y)
  unfolding powered_off
  stands_off c y n u = inl refl

  -- the caller's own log is not spoken of
  own : (y : Board) → StandsBy d y
  own y n u = absurd (n refl)

  own_same : (f : Board → Board) → ((x : Board) → (f x).working.log ≡ x.working.log) → KeepsOn LogKept d f
  own_same f e x h = (none_same x (f x) (e x) h.0, own (f x))

  -- ---- the giver: while it flushes it may have a volatile shown, then it has none

  abbrev But : ℕ → ℕ → Board → Type 0
  But o c y = (c ≢ o → NoneShown y) × StandsBy c y

  but_here : (o : ℕ) (y z : Board) → z.state ≡ y.state → (Stood d (board_at k o) y → Stood d (board_at k o) z) → But o o y → But o o z
  but_here o y z s f h = (λ n. absurd (n refl), stands_on o y z s f h.1)

  shown_kept : (o p : ℕ) (r : Run) → Boards LogKept r.bank → Boards LogKept (show o d p r).bank
  unfolding show note flush on_working
  shown_kept o p r h =
      let s : Run = step (note o (Shown p) d (zeros page_size)) r in
      by_option r.lost
      (λ n.
      let begun : Boards (But o) s.bank =
      every_step (But o) _ r (λ c. (λ m. (h c).0, (h c).1))
      (every_on_board (But o) o (on_working (recorded (Shown p) d (zeros page_size))) r.bank
      (λ y. but_here o y _ refl (stood_shown d (board_at k o) y p (zeros page_size))) (λ c. (λ m. (h c).0, (h c).1))) in
      let done : Boards (But o) (flush o s).bank =
      every_store_all (But o) o
      (λ y. but_here o y (burnt y) (burnt_state y) (stood_burnt d (board_at k o) y))
      (λ y b. (λ m. absurd (m refl), stands_off o y))
      (record_stores (board_at s.bank o)) s
      (each_record_stores (λ y. but_here o y (stored_record y) (flushed_stored_record y).state (stood_stored d (board_at k o) y)) (board_at s.bank o))
      begun in
      λ c. (
        by_eq c o
            (λ e. rw (e, flush_leaves_none o s (step_same _ r ∙ n)) each_nil)
            (λ m. (done c).0 m),
        (done c).1,
      ))
      (λ c e. rw ((follows_show o d p r).lost c e) h)

  -- ---- every other step

  none_noted : (kind : Kind) (peer : ℕ) (bytes : List ℕ) (x : Board) → is_shown kind ≡ false → NoneShown x → NoneShown (on_working (recorded kind peer bytes) x)
  unfolding on_working recorded appended
  none_noted kind peer bytes x e h = each_append x.working.log _ h (each_cons e each_nil)

  none_stored : (x : Board) → NoneShown x → NoneShown (stored_record x)
  unfolding moved_record
  none_stored x h = stored_record_cases NoneShown x (λ e. h) (λ r rs e. each_tail (rw e at h))

  log_lasts : Lasts d LogKept
  unfolding no_board powered_off dropped with_frame on_frames on_working on_spare stored_frame stored_head stored_selector rested_working settled loaded
      with_fuse is_shown
  log_lasts =
      record {
        absent = λ c. (each_nil, λ n u. inl refl);
        off = λ c x h. (each_nil, stands_off c x);
        gives = shown_kept;
        drops = λ c p x h. (
          none_noted (Dropped p) d (zeros page_size) x refl h.0,
          stands_on c x (dropped d p x) refl (stood_dropped d (board_at k c) x p) h.1,
        );
        lowers = own_same burnt (λ x. ap (λ (w : Working). w.log) (burnt_working x));
        got = λ g p o bytes x h. (none_noted (Got g p) o bytes x refl h.0, own _);
        frame = λ p f. own_same (with_frame p f) (λ x. refl);
        stores_record = λ x h. (none_stored x h.0, own _);
        stores_frame = λ p. own_same (stored_frame p) (λ x. refl);
        stores_head = own_same stored_head (λ x. refl);
        stores_selector = own_same stored_selector (λ x. refl);
        rests = λ x h. (each_nil, own _);
        settles = λ owned. own_same (settled owned) (λ x. refl);
        restarts = own_same restarted (λ x. used_up_log (loaded x));
        fuses = λ n. own_same (with_fuse n) (λ x. refl);
      }

  access_kept : (a : Access) → Boards LogKept k → Boards LogKept (access_bank d a k).run.bank
  unfolding access_within start replayed accessed on_working
  access_kept a h =
      let counts : KeepsOn LogKept d (on_working (accessed a)) = own_same (on_working (accessed a)) (λ x. refl) in
      every_unless LogKept (access_refusals d a k) (start k) _ h
      (λ e.
      cases (λ (t : Result). Boards LogKept t.run.bank) (is_replaying (board_at k d).state)
      (λ t.
      every_replaying d LogKept LogKept log_lasts log_lasts (λ c x q. q) a counts (own_same took_due took_due_log)
      (own_same (replayed a) (λ x. used_up_log (on_working (accessed a) x))) k h)
      (λ t. every_live d LogKept LogKept log_lasts log_lasts (λ c x q. q) a counts (start k) h))

  begins_kept : Boards (λ c. NoneShown) k → Boards LogKept k
  begins_kept h c = (h c, λ n u. inr (record { state = u; gots = λ t. refl; showns = λ t n. refl }))

-- any call, of any numbers, with any answer
pub call_kept : (c : Call) (k : Bank) → Boards (λ b. NoneShown) k → Boards (LogKept k (board_named c)) (call_bank c k).run.bank
unfolding call_bank
call_kept c k h =
    let d : ℕ = board_named c in
    let begun : Boards (LogKept k d) k = begins_kept k d h in
    every_call (LogKept k d) k begun last_since c (log_lasts k d) (λ a. access_kept k d a begun)
