-- What a flush and a checkpoint that lost no power leave of the board that stored. Assumes nothing.
use Rattle.std.specs.Prelude.{◌≡◌, refl, ℕ, zero, suc, ◌≤◌, ◌<◌, Bool, length, replicate, eqb}
use Rattle.std.proofs.Common.{sym, ap, ◌∙◌, not-suc-le-zero, arith}
use Rattle.std.proofs.Math.Option.{none}
use mathlib.Core.List.{List, [], ◌∷◌, append_assoc, foldl-append}
use Rattle.types.specs.declared.Kind.{Kind}
use Rattle.types.specs.declared.Kind.TheVariants.{Shown}
use Rattle.types.specs.declared.Record.{Record}
use Rattle.model.specs.Definitions.Parts.{zeros, tabulate}
use Rattle.model.specs.Definitions.Layout.{page_size, no_fuse}
use Rattle.model.specs.Definitions.Bank.{Area, Working, Stable, Board, Bank, board_at, entry_at, on_board, on_working, on_spare}
use Rattle.model.specs.Definitions.Steps.{Run, step, with_fuse, burnt, store_all, appended, recorded, note, moved_record, stored_record, record_stores, flush}
use Rattle.model.specs.Definitions.Steps.{stored_frame, stored_head, stored_selector, spare_stores, checkpoint_stores, rested_working, checkpoint, show}
use Rattle.model.specs.Definitions.Replay.{settled, settle, end_replay}
use Rattle.model.proofs.Laws.Logic.{cases}
use Rattle.model.proofs.Laws.Lists.{foldl_keeps}
use Rattle.model.proofs.Laws.Boards.{stored_record_cases}
use Rattle.model.proofs.Laws.Runs.{step_none, follows_none, follows_flush, each_record_stores, each_spare_stores, after_stores, changed_map}
use Rattle.model.proofs.Laws.Runs.{changed_store_all, follows_checkpoint, Changed, changed_trans, changed_on_board, changed_step}
use Rattle.model.specs.Clauses.{records_of}

-- ---- a fuse lowered

pub burnt_state : (x : Board) → (burnt x).state ≡ x.state
unfolding burnt with_fuse
burnt_state x = cases (λ (y : Board). y.state ≡ x.state) (eqb x.fuse no_fuse) (λ t. refl) (λ t. refl)

pub burnt_working : (x : Board) → (burnt x).working ≡ x.working
unfolding burnt with_fuse
burnt_working x = cases (λ (y : Board). y.working ≡ x.working) (eqb x.fuse no_fuse) (λ t. refl) (λ t. refl)

pub burnt_stable : (x : Board) → (burnt x).stable ≡ x.stable
unfolding burnt with_fuse
burnt_stable x = cases (λ (y : Board). y.stable ≡ x.stable) (eqb x.fuse no_fuse) (λ t. refl) (λ t. refl)

-- ---- a flush

-- board y is x after some of its volatile records were stored
pub record Flushed (x y : Board) : Type 0 where
  pub state : y.state ≡ x.state
  pub number : y.working.number ≡ x.working.number
  pub since : y.working.since ≡ x.working.since
  pub place : y.working.place ≡ x.working.place
  pub frames : y.working.frames ≡ x.working.frames
  pub area_number : y.stable.selected.number ≡ x.stable.selected.number
  pub area_frames : y.stable.selected.frames ≡ x.stable.selected.frames
  pub records : records_of y ≡ records_of x

pub flushed_refl : (x : Board) → Flushed x x
flushed_refl x =
    record { state = refl; number = refl; since = refl; place = refl; frames = refl; area_number = refl; area_frames = refl; records = refl }

pub flushed_trans : (x y z : Board) → Flushed x y → Flushed y z → Flushed x z
flushed_trans x y z p q =
    record {
      state = q.state ∙ p.state;
      number = q.number ∙ p.number;
      since = q.since ∙ p.since;
      place = q.place ∙ p.place;
      frames = q.frames ∙ p.frames;
      area_number = q.area_number ∙ p.area_number;
      area_frames = q.area_frames ∙ p.area_frames;
      records = q.records ∙ p.records;
    }

flushed_burnt : (x : Board) → Flushed x (burnt x)
unfolding records_of
flushed_burnt x =
    record {
      state = burnt_state x;
      number = ap (λ (w : Working). w.number) (burnt_working x);
      since = ap (λ (w : Working). w.since) (burnt_working x);
      place = ap (λ (w : Working). w.place) (burnt_working x);
      frames = ap (λ (w : Working). w.frames) (burnt_working x);
      area_number = ap (λ (t : Stable). t.selected.number) (burnt_stable x);
      area_frames = ap (λ (t : Stable). t.selected.frames) (burnt_stable x);
      records = cc (burnt_working x, burnt_stable x);
    }

-- the record moves from the head of the volatile ones to the end of the stored ones
flushed_moved_record : (x : Board) (r : Record) (rs : List Record) → x.working.log ≡ r ∷ rs → Flushed x (moved_record r rs x)
unfolding moved_record records_of appended
flushed_moved_record x r rs e =
    record {
      state = refl;
      number = refl;
      since = refl;
      place = refl;
      frames = refl;
      area_number = refl;
      area_frames = refl;
      records = rw (e, append_assoc x.stable.selected.log (r ∷ []) rs);
    }

pub flushed_stored_record : (x : Board) → Flushed x (stored_record x)
flushed_stored_record x = stored_record_cases (Flushed x) x (λ e. flushed_refl x) (λ r rs e. flushed_moved_record x r rs e)

-- a flush moves records and does nothing else
pub flush_changed : (b : ℕ) (r : Run) → (flush b r).lost ≡ none → Changed b Flushed r.bank (flush b r).bank
unfolding flush after_stores
flush_changed b r e =
    let fs : List (Board → Board) = record_stores (board_at r.bank b) in
    let h : (x y : Board) → Flushed x y → Flushed x (burnt (stored_record y)) =
    λ x y p. flushed_trans x (stored_record y) _ (flushed_trans x y (stored_record y) p (flushed_stored_record y)) (flushed_burnt (stored_record y)) in
    changed_map (λ x y q. rw q (foldl_keeps (Flushed x) _ fs (each_record_stores (h x) (board_at r.bank b)) x (flushed_refl x)))
    (changed_store_all b fs r e)

-- one volatile record less
volatile_stored_record : (x : Board) (n : ℕ) → length x.working.log ≤ suc n → length (stored_record x).working.log ≤ n
unfolding moved_record
volatile_stored_record x n h =
    stored_record_cases (λ y. length y.working.log ≤ n) x
    (λ e. omega (arith, ap length e))
    (λ r rs e. omega (arith, ap length e))

volatile_after_stores : (n : ℕ) (x : Board) → length x.working.log ≤ n
    → length (after_stores (replicate n stored_record) x).working.log ≤ 0
unfolding after_stores
volatile_after_stores zero x h = h
volatile_after_stores (suc n) x h =
    volatile_after_stores n (burnt (stored_record x)) (rw (burnt_working (stored_record x)) (volatile_stored_record x n h))

no_records : (l : List Record) → length l ≤ 0 → l ≡ []
no_records [] h = refl
no_records (r ∷ rs) h = absurd (not-suc-le-zero h)

-- a whole flush leaves no volatile record
pub flush_empties : (b : ℕ) (r : Run) → b < length r.bank.boards → (flush b r).lost ≡ none
    → (board_at (flush b r).bank b).working.log ≡ []
unfolding flush record_stores
flush_empties b r l e =
    let x : Board = board_at r.bank b in
    no_records (board_at (flush b r).bank b).working.log
    (rw ((changed_store_all b (record_stores x) r e).this l) (volatile_after_stores (length x.working.log) x (omega arith)))

-- ---- a record noted, then a flush

-- board y is x after a record was noted and some volatile records were stored
abbrev pub FlushedWith : Kind → (peer : ℕ) → List ℕ → Board → Board → Type 0
FlushedWith kind peer bytes x y = Flushed (on_working (recorded kind peer bytes) x) y

-- for bytes that may be read off the bank
pub note_flush_changed : (b : ℕ) (kind : Kind) (peer : ℕ) (bytes : Bank → List ℕ) (r : Run) → (flush b (step (λ k. note b kind peer (bytes k) k) r)).lost ≡ none
    → Changed b (FlushedWith kind peer (bytes r.bank)) r.bank (flush b (step (λ k. note b kind peer (bytes k) k) r)).bank
unfolding note
note_flush_changed b kind peer bytes r e =
    let s : Run = step (λ k. note b kind peer (bytes k) k) r in
    let m : s.lost ≡ none = follows_none (follows_flush b s) e in
    let f : Board → Board = on_working (recorded kind peer (bytes r.bank)) in
    changed_trans b (λ x y z p q. rw p at q)
    (changed_step b (λ k. note b kind peer (bytes k) k) r m (changed_on_board b {R = λ x y. y ≡ f x} f r.bank refl))
    (flush_changed b s e)

-- "owner records shown and flushes"
pub show_changed : (o b p : ℕ) (r : Run) → (show o b p r).lost ≡ none
    → Changed o (FlushedWith (Shown p) b (zeros page_size)) r.bank (show o b p r).bank
unfolding show
show_changed o b p r e = note_flush_changed o (Shown p) b (λ k. zeros page_size) r e

-- ---- a checkpoint

-- before the selector is stored: the working memory and the selected area stay
pub record Saving (x y : Board) : Type 0 where
  pub state : y.state ≡ x.state
  pub working : y.working ≡ x.working
  pub selected : y.stable.selected ≡ x.stable.selected

saving_spare : (f : Area → Area) (x y : Board) → Saving x y → Saving x (burnt (on_spare f y))
unfolding on_spare
saving_spare f x y s =
    let z : Board = on_spare f y in
    record {
      state = burnt_state z ∙ s.state;
      working = burnt_working z ∙ s.working;
      selected = ap (λ (t : Stable). t.selected) (burnt_stable z) ∙ s.selected;
    }

saving_spare_stores : (pages : ℕ) (x : Board) → Saving x (after_stores (spare_stores pages) x)
unfolding after_stores stored_frame stored_head
saving_spare_stores pages x =
    foldl_keeps (Saving x) _ (spare_stores pages) (each_spare_stores (λ p y. saving_spare _ x y) (λ y. saving_spare _ x y) pages) x
    (record { state = refl; working = refl; selected = refl })

-- after the head: besides, the spare area has the number and no record
pub record Headed (x y : Board) : Type 0 where
  pub saving : Saving x y
  pub number : y.stable.spare.number ≡ x.working.number
  pub records : y.stable.spare.log ≡ []

-- the frames, then the head
pub after_spare_stores : (pages : ℕ) (x : Board) → after_stores (spare_stores pages) x ≡ burnt (stored_head (after_stores (tabulate pages stored_frame) x))
unfolding spare_stores after_stores
after_spare_stores pages x = foldl-append (λ y f. burnt (f y)) x (tabulate pages stored_frame) (stored_head ∷ [])

pub headed_spare_stores : (pages : ℕ) (x : Board) → Headed x (after_stores (spare_stores pages) x)
unfolding stored_head on_spare
headed_spare_stores pages x =
    let z : Board = stored_head (after_stores (tabulate pages stored_frame) x) in
    let e : after_stores (spare_stores pages) x ≡ burnt z = after_spare_stores pages x in
    let s : Saving x (after_stores (spare_stores pages) x) = saving_spare_stores pages x in
    let t : (after_stores (spare_stores pages) x).stable ≡ z.stable = ap (λ (y : Board). y.stable) e ∙ burnt_stable z in
    let w : z.working ≡ x.working = sym (ap (λ (y : Board). y.working) e ∙ burnt_working z) ∙ s.working in
    record {
      saving = s;
      number = ap (λ (u : Stable). u.spare.number) t ∙ ap (λ (v : Working). v.number) w;
      records = ap (λ (u : Stable). u.spare.log) t;
    }

-- after the whole checkpoint
pub record Checkpointed (x y : Board) : Type 0 where
  pub state : y.state ≡ x.state
  pub working : y.working ≡ rested_working x.working
  pub number : y.stable.selected.number ≡ x.working.number
  pub records : y.stable.selected.log ≡ []

headed_checkpointed : (x y z : Board) → Headed x y → z ≡ on_working rested_working (burnt (stored_selector y)) → Checkpointed x z
unfolding on_working stored_selector
headed_checkpointed x y z h e =
    let t : (burnt (stored_selector y)).stable ≡ (stored_selector y).stable = burnt_stable (stored_selector y) in
    record {
      state = ap (λ (u : Board). u.state) e ∙ burnt_state (stored_selector y) ∙ h.saving.state;
      working =
          ap (λ (u : Board). u.working) e
          ∙ ap rested_working (burnt_working (stored_selector y) ∙ h.saving.working);
      number = ap (λ (u : Board). u.stable.selected.number) e ∙ ap (λ (s : Stable). s.selected.number) t ∙ h.number;
      records = ap (λ (u : Board). u.stable.selected.log) e ∙ ap (λ (s : Stable). s.selected.log) t ∙ h.records;
    }

-- a checkpoint that isn't lost lost none of its stores
pub checkpoint_changed : (b : ℕ) (r : Run) → (checkpoint b r).lost ≡ none → Changed b Checkpointed r.bank (checkpoint b r).bank
unfolding checkpoint checkpoint_stores after_stores
checkpoint_changed b r e =
    let pages : ℕ = length r.bank.directory in
    let f : Board → Board = on_working rested_working in
    let s : Run = store_all b (checkpoint_stores pages) r in
    changed_trans b
    (λ x y z p q.
    headed_checkpointed x (after_stores (spare_stores pages) x) z (headed_spare_stores pages x)
    (q ∙ ap f (p ∙ foldl-append (λ y f. burnt (f y)) x (spare_stores pages) (stored_selector ∷ []))))
    (changed_store_all b (checkpoint_stores pages) r (step_none (on_board b f) s e))
    (changed_step b (on_board b f) s e (changed_on_board b {R = λ y z. z ≡ f y} f s.bank refl))

-- ---- the end of a replay

-- board y is x after its replay ended, where `owned` are its pages
abbrev pub Ended : (ℕ → Bool) → Board → Board → Type 0
Ended owned x y = Checkpointed (settled owned x) y

pub end_replay_changed : (b : ℕ) (r : Run) → (end_replay b r).lost ≡ none
    → Changed b (Ended (λ p. eqb (entry_at r.bank p).owner b)) r.bank (end_replay b r).bank
unfolding end_replay settle
end_replay_changed b r e =
    let f : Board → Board = settled (λ p. eqb (entry_at r.bank p).owner b) in
    let s : Run = step (settle b) r in
    let n : s.lost ≡ none = follows_none (follows_checkpoint b s) e in
    changed_trans b (λ x y z p q. rw p at q)
    (changed_step b (settle b) r n (changed_on_board b {R = λ x y. y ≡ f x} f r.bank refl))
    (checkpoint_changed b s e)
