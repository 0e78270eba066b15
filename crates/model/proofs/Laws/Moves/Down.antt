-- Who is down over a call: only a store and a fuse of 0 bring a board down, only a restart ends that, and who restarted has no fuse. So a fuse blew exactly
-- where a board that was not down is down after a call that fed no power loss by a fuse of 0. Assumes nothing.
use Rattle.std.specs.Prelude.{◌≡◌, ◌≢◌, ℕ, ◌<◌, List, eqb}
use Rattle.std.proofs.Math.Path.{refl, ap}
use Rattle.std.proofs.Common.{sym, ◌∙◌, arith, eq-eqb}
use Rattle.std.proofs.Math.Option.{none, some}
use Rattle.std.proofs.Math.ListN.{length}
use Rattle.types.specs.declared.CopyOrOwn.TheVariants.{GotOwn}
use Rattle.types.specs.declared.Kind.TheVariants.{Got, Shown}
use Rattle.types.specs.declared.State.TheVariants.{Up, Down}
use Rattle.model.specs.Definitions.Parts.{zeros}
use Rattle.model.specs.Definitions.Layout.{page_size, no_fuse}
use Rattle.model.specs.Definitions.Bank.{Board, Bank, board_at, entry_at, on_board, on_working, on_spare}
use Rattle.model.specs.Definitions.WellFormed.{WellFormed}
use Rattle.model.specs.Definitions.Steps.{Run, start, step, powered_off, power_off, with_fuse, burnt, store, recorded, note, moved_record, stored_record}
use Rattle.model.specs.Definitions.Steps.{stored_frame, stored_head, stored_selector, rested_working, Access, accessed, access, frame_of}
use Rattle.model.specs.Definitions.Replay.{settle, loaded, used_up, took_due, settled, replayed}
use Rattle.model.specs.Moves.{TakesCopy, first, behind}
use Rattle.model.specs.Moves.{Move, does, Phase, Begun, Noted, Fetched, Replays, Settled, Finished, MayStore, anyone, taker, ender, Selects, checkpoints}
use Rattle.model.specs.Moves.{resumes, closes, MayPerform, local, taken, Guard, notes_shown, notes_got, stores_record, stores_frame, stores_head}
use Rattle.model.specs.Moves.{stores_selector, gives_copy, passes_ownership, drops_copies, performs, loses_power, sets_fuse, loads, repeats_access, takes_last}
use Rattle.model.specs.Moves.{settles, Moves}
use Rattle.model.specs.History.Statement.{LostPower, Nothing}
use Rattle.model.proofs.Laws.Logic.{by_eq}
use Rattle.model.proofs.Laws.Boards.{stored_record_cases, boards_on_board, board_at_same, board_at_other}
use Rattle.model.proofs.Laws.Boards.{board_at_power_off_same, board_at_power_off_other}
use Rattle.model.proofs.Laws.Boards.{took_due_state, replayed_state}
use Rattle.model.proofs.Laws.States.{SameStates, states_on_board, states_give_copy, states_drop_copies, states_pass_ownership}
use Rattle.model.proofs.Laws.Runs.{lost_not, step_cases, store_cases, follows_store}
use Rattle.model.proofs.Laws.Runs.Stores.{burnt_state}
use Rattle.model.proofs.Laws.Keeps.Clauses.{up_below, up_not_down, down_not_replaying}
use Rattle.model.proofs.Laws.Moves.Formed.{FormedIn, FormedRun, formed_begun, selects_stores, induct_formed}
use Rattle.model.proofs.Laws.Codes.Order.{never}

-- ==== what may have become of a board

-- the call is a fuse of 0 on board c, and over
unfoldable pub CutIn : Phase → ℕ → Type 0
CutIn Begun c = ⊥
CutIn (Noted o p) c = ⊥
CutIn (Fetched a os ps) c = ⊥
CutIn (Replays e) c = ⊥
CutIn (Settled e) c = ⊥
CutIn (Finished e o) c = e ≡ LostPower c

-- the call may have restarted its board: a replay that goes on feeds nothing if its access took the last got
unfoldable pub RestartIn : Phase → Type 0
RestartIn Begun = ⊥
RestartIn (Noted o p) = ⊥
RestartIn (Fetched a os ps) = ⊥
RestartIn (Replays e) = e ≢ Nothing
RestartIn (Settled e) = e ≢ Nothing
RestartIn (Finished e o) = Unit

-- board c was x when the call began, and is y
pub record PowerChange (χ : Phase) (c : ℕ) (x y : Board) : Type 0 where
  pub went_down : x.state ≢ Down → y.state ≡ Down → CutIn χ c
  pub restarted : x.state ≡ Down → y.state ≢ Down → RestartIn χ × (y.fuse ≡ no_fuse)

abbrev PowerChanges : Phase → Bank → Bank → Type 0
PowerChanges χ k j = (c : ℕ) → PowerChange χ c (board_at k c) (board_at j c)

-- board b lost power by a store, and no other board went down
pub record LostBoard (b : ℕ) (k j : Bank) : Type 0 where
  pub before : (board_at k b).state ≢ Down
  pub after : (board_at j b).state ≡ Down
  pub others : (c : ℕ) → c ≢ b → (board_at k c).state ≢ Down → (board_at j c).state ≢ Down

-- a call in progress that began with bank k
pub record Tracks (k : Bank) (χ : Phase) (r : Run) : Type 0 where
  pub going : r.lost ≡ none → PowerChanges χ k r.bank
  pub lost : (b : ℕ) → r.lost ≡ some b → LostBoard b k r.bank

-- ---- from one phase to the next

-- no power loss before, and who may have restarted still may
abbrev Leads : Phase → Phase → Type 0
Leads χ ψ = ((c : ℕ) → CutIn χ c → ⊥) × (RestartIn χ → RestartIn ψ)

-- no board went down or restarted yet
abbrev NoPowerChange : Phase → Type 0
NoPowerChange χ = ((c : ℕ) → CutIn χ c → ⊥) × (RestartIn χ → ⊥)

begins_quiet : {a : Access} {gave : List ℕ} {φ : Phase} → MayPerform a gave φ → NoPowerChange φ
unfolding CutIn RestartIn
begins_quiet local = (λ c z. z, λ z. z)
begins_quiet taken = (λ c z. z, λ z. z)

takes_quiet : {a : Access} {o p : ℕ} {φ ψ : Phase} → TakesCopy a o p φ ψ → NoPowerChange φ
unfolding CutIn RestartIn
takes_quiet first = (λ c z. z, λ z. z)
takes_quiet (behind l) = (λ c z. z, λ z. z)

stores_lead : {d b : ℕ} {φ : Phase} → MayStore d b φ → Leads φ φ
unfolding CutIn
stores_lead anyone = (λ c z. z, λ z. z)
stores_lead taker = (λ c z. z, λ z. z)
stores_lead ender = (λ c z. z, λ z. z)

selects_lead : {d b : ℕ} {φ ψ : Phase} → Selects d b φ ψ → Leads φ ψ
unfolding CutIn RestartIn
selects_lead checkpoints = (λ c z. z, λ z. z)
selects_lead resumes = (λ c z. z, λ z. z refl)
selects_lead closes = (λ c z. z, λ z. tt)

module _ {χ ψ : Phase} where
  quiet_change : NoPowerChange χ → (c : ℕ) {x y z : Board} → z.state ≡ y.state → PowerChange χ c x y → PowerChange ψ c x z
  quiet_change q c e h =
      record { went_down = λ u v. absurd (q.0 c (h.went_down u (sym e ∙ v))); restarted = λ u v. absurd (q.1 (h.restarted u (λ i. v (e ∙ i))).0) }

  -- what a store leaves of a board
  kept_change : Leads χ ψ → (c : ℕ) {x y z : Board} → z.state ≡ y.state → (y.fuse ≡ no_fuse → z.fuse ≡ no_fuse) → PowerChange χ c x y → PowerChange ψ c x z
  kept_change q c e f h =
      record {
        went_down = λ u v. absurd (q.0 c (h.went_down u (sym e ∙ v)));
        restarted = λ u v. (q.1 (h.restarted u (λ i. v (e ∙ i))).0, f (h.restarted u (λ i. v (e ∙ i))).1);
      }

  -- one board changed
  board_change : Leads χ ψ → (b : ℕ) (k i j : Bank) → ((c : ℕ) → c ≢ b → board_at j c ≡ board_at i c) → PowerChange ψ b (board_at k b) (board_at j b)
      → PowerChanges χ k i → PowerChanges ψ k j
  board_change q b k i j others this h c = by_eq c b (λ e. rw e this) (λ n. rw (others c n) (kept_change q c refl (λ z. z) (h c)))

-- ==== each move

burnt_fuse : (x : Board) → x.fuse ≡ no_fuse → (burnt x).fuse ≡ no_fuse
unfolding burnt
burnt_fuse x e = cc (eq-eqb x.fuse no_fuse e)

module _ {k : Bank} {χ : Phase} (s : Run) (t : Tracks k χ s) where
  -- a step that stores nothing
  step_tracks : {ψ : Phase} (f : Bank → Bank) → (s.lost ≡ none → PowerChanges ψ k (f s.bank)) → Tracks k ψ (step f s)
  step_tracks {ψ} f h =
      step_cases (Tracks k ψ) f s
      (λ c e. record { going = λ n. lost_not n e; lost = t.lost })
      (λ n. record { going = λ m. h n; lost = λ c e. lost_not refl e })

  quiet_tracks : {ψ : Phase} (f : Bank → Bank) → NoPowerChange χ → SameStates s.bank (f s.bank) → Tracks k ψ (step f s)
  quiet_tracks f q e = step_tracks f (λ n c. quiet_change q c (e c) (t.going n c))

  board_tracks : {ψ : Phase} (b : ℕ) (f : Bank → Board → Board) → b < length s.bank.boards → Leads χ ψ
      → (PowerChange χ b (board_at k b) (board_at s.bank b) → PowerChange ψ b (board_at k b) (f s.bank (board_at s.bank b)))
      → Tracks k ψ (step (λ j. on_board b (f j) j) s)
  board_tracks b f l q h =
      let i : Bank = s.bank in
      step_tracks (λ j. on_board b (f j) j)
      (λ n. board_change q b k i (on_board b (f i) i) (board_at_other b (f i) i) (rw (board_at_same b (f i) i l) (h (t.going n b))) (t.going n))

  -- a store of an up board: who has no fuse can't lose power
  store_tracks : {d : ℕ} (b : ℕ) (f : Board → Board) → MayStore d b χ → (board_at s.bank b).state ≡ Up
      → ((x : Board) → (f x).state ≡ x.state) → ((x : Board) → (f x).fuse ≡ x.fuse) → s.lost ≡ none → Tracks k χ (store b f s)
  unfolding powered_off
  store_tracks b f o u state fuse n =
      let i : Bank = s.bank in
      let x : Board = board_at i b in
      let j : Bank = on_board b burnt (on_board b f i) in
      let l : b < length i.boards = up_below i b u in
      let m : b < length (on_board b f i).boards = rw (boards_on_board b f i) l in
      let this : board_at j b ≡ burnt (f x) = board_at_same b burnt (on_board b f i) m ∙ ap burnt (board_at_same b f i l) in
      let same : (burnt (f x)).state ≡ x.state = burnt_state (f x) ∙ state x in
      let h : PowerChanges χ k j =
      board_change (stores_lead o) b k i j
      (λ c e. board_at_other b burnt (on_board b f i) c e ∙ board_at_other b f i c e)
      (rw this (kept_change (stores_lead o) b same (λ z. burnt_fuse (f x) (fuse x ∙ z)) (t.going n b)))
      (t.going n) in
      store_cases (Tracks k χ) b f s
      (λ c e. lost_not n e)
      (λ _ blown.
      record {
        going = λ e. lost_not e refl;
        lost = λ c e.
            let z : c ≡ b = cc in
            rw z
            (record {
              before = λ v.
                  let unset : (board_at j b).fuse ≡ no_fuse = ((h b).restarted v (λ w. up_not_down u (sym (ap (λ (y : Board). y.state) this ∙ same) ∙ w))).1 in
                  absurd (omega arith);
              after = ap (λ (y : Board). y.state) (board_at_power_off_same b j (rw (boards_on_board b burnt (on_board b f i)) m));
              others = λ c e v w. (stores_lead o).0 c ((h c).went_down v (sym (ap (λ (y : Board). y.state) (board_at_power_off_other b j c e)) ∙ w));
            });
      })
      (λ _ left. record { going = λ e. h; lost = λ c e. lost_not refl e })

stored_record_like : (x : Board) → ((stored_record x).state ≡ x.state) × ((stored_record x).fuse ≡ x.fuse)
unfolding moved_record
stored_record_like x = stored_record_cases (λ (y : Board). (y.state ≡ x.state) × (y.fuse ≡ x.fuse)) x (λ e. (refl, refl)) (λ r rs e. (refl, refl))

move_tracks : {k : Bank} {d : ℕ} {Again : Access → Type 0} {χ : Phase} (s : Run) {ψ : Phase} (m : Move) → s.lost ≡ none → Guard d Again s.bank m χ ψ
    → FormedRun d χ s → Tracks k χ s → Tracks k ψ (does m s)
unfolding does FormedIn CutIn RestartIn note access on_working on_spare stored_frame stored_head stored_selector with_fuse loaded used_up settled powered_off settle
move_tracks {d = d} s _ n (notes_shown b p u m l o) h t =
    quiet_tracks s t _ (λ c z. z, λ z. z) (states_on_board b (on_working (recorded (Shown p) d (zeros page_size))) s.bank refl)
move_tracks {d = d} s _ n (notes_got o p u m l r v) h t =
    quiet_tracks s t _ (λ c z. z, λ z. z) (states_on_board d (on_working (recorded (Got GotOwn p) o (frame_of s.bank o p).bytes)) s.bank refl)
move_tracks s _ n (stores_record b o u) h t = store_tracks s t b stored_record o u (λ x. (stored_record_like x).0) (λ x. (stored_record_like x).1) n
move_tracks s _ n (stores_frame b p o u) h t = store_tracks s t b (stored_frame p) o u (λ x. refl) (λ x. refl) n
move_tracks s _ n (stores_head b o u) h t = store_tracks s t b stored_head o u (λ x. refl) (λ x. refl) n
move_tracks s _ n (stores_selector b o u v) h t =
    board_tracks (store b stored_selector s) (store_tracks s t b stored_selector (selects_stores o) u (λ x. refl) (λ x. refl) n) b (λ j. on_working rested_working)
    (rw (follows_store b stored_selector s).sizes.boards (up_below s.bank b u))
    (selects_lead o) (kept_change (selects_lead o) b refl (λ z. z))
move_tracks {d = d} s _ n (gives_copy a o p x c i g u m r) h t = quiet_tracks s t _ (takes_quiet x) (states_give_copy o d p s.bank)
move_tracks {d = d} s _ n (passes_ownership a o p c i g own v m) h t = quiet_tracks s t _ (λ c z. z, λ z. z) (states_pass_ownership o d p s.bank)
move_tracks {d = d} s _ n (drops_copies p l own m) h t = quiet_tracks s t _ (λ c z. z, λ z. z) (states_drop_copies d p s.bank)
move_tracks {d = d} s _ n (performs a i can has out) h t =
    quiet_tracks s t _ (begins_quiet i) (states_on_board d (on_working (accessed a)) s.bank refl)
move_tracks {k} {d} s _ n (loses_power l) h t =
    step_tracks s t (power_off d)
    (λ m.
    board_change (λ c z. z, λ z. tt) d k s.bank (power_off d s.bank) (board_at_power_off_other d s.bank)
    (rw (board_at_power_off_same d s.bank l) (record { went_down = λ u v. refl; restarted = λ u v. absurd (v refl) }))
    (t.going m))
move_tracks {d = d} s _ n (sets_fuse m p low high) h t = quiet_tracks s t _ (λ c z. z, λ z. z) (states_on_board d (with_fuse m) s.bank refl)
move_tracks {d = d} s _ n (loads l down) h t =
    board_tracks s t d (λ j x. used_up (loaded x)) l (λ c z. z, λ z. absurd z)
    (λ i. record { went_down = λ u v. down_not_replaying v refl; restarted = λ u v. (λ e. never (cc), (((h.going n).boards d l).down down).fuse) })
move_tracks {d = d} s _ n (repeats_access a z i rep same over) h t =
    let k : Bank = on_board d took_due s.bank in
    quiet_tracks s t _ (λ c z. z, λ z. z)
    (λ c.
    states_on_board d (replayed a) k (replayed_state a (board_at k d)) c
    ∙ states_on_board d took_due s.bank (took_due_state (board_at s.bank d)) c)
move_tracks {d = d} s _ n (takes_last a i rep same over) h t =
    quiet_tracks s t _ (λ c z. z, λ z. z) (states_on_board d took_due s.bank (took_due_state (board_at s.bank d)))
move_tracks {d = d} s _ n (settles l rep over) h t =
    board_tracks s t d (λ j. settled (λ p. eqb (entry_at j p).owner d)) l (λ c z. z, λ z. z)
    (λ i. record { went_down = λ u v. up_not_down refl v; restarted = λ u v. i.restarted u (λ z. down_not_replaying z rep) })

-- ==== lists of moves

pub moves_track : {d : ℕ} {Again : Access → Type 0} {χ : Phase} {k : Bank} {s : Run} → Moves d Again Begun (start k) χ s → WellFormed k → Tracks k χ s
unfolding start CutIn RestartIn
moves_track {d} {k = k} t w =
    induct_formed (Tracks k)
    (λ χ ψ s m n a h v. move_tracks s m n a h)
    (λ e s n o v i. record { going = λ m c. kept_change (λ c z. z, λ z. tt) c refl (λ z. z) (i.going m c); lost = i.lost })
    (λ s i. record { going = λ n c. quiet_change (λ c z. z, λ z. z) c refl (i.going n c); lost = i.lost })
    (λ χ ψ s c e i. record { going = λ n. lost_not n e; lost = i.lost })
    t (formed_begun d (start k) w)
    (record { going = λ n c. record { went_down = λ u v. u v; restarted = λ u v. absurd (v u) }; lost = λ b e. lost_not refl e })
