-- A run and its bytes; a write fetch stage by stage: what the bytes hold after each, what the next stage asks for, and how the run goes on or was lost.
-- Assumes nothing.
use Rattle.std.specs.Prelude.{◌≡◌, ◌≢◌, ℕ, ◌<◌, Bool, true, false, ◌||◌, List, [], ◌∷◌, length, eqb}
use Rattle.std.proofs.Math.Path.{refl}
use Rattle.std.proofs.Common.{sym, ap, ◌∙◌, arith, eq-eqb}
use Rattle.std.proofs.Math.Option.{Option, none, some}
use Rattle.types.specs.declared.CopyOrOwn.{CopyOrOwn}
use Rattle.types.specs.declared.CopyOrOwn.TheVariants.{GotOwn}
use Rattle.types.specs.declared.Kind.TheVariants.{Got, Shown}
use Rattle.types.specs.declared.State.TheVariants.{Up}
use Rattle.model.specs.Definitions.Parts.{zeros, member}
use Rattle.model.specs.Definitions.Layout.{page_size}
use Rattle.model.specs.Definitions.Bank.{Bank, board_at, entry_at}
use Rattle.model.specs.Definitions.Codec.{decode}
use Rattle.model.specs.Definitions.WellFormed.{EntryOk, WellFormed}
use Rattle.model.specs.Definitions.Steps.{Run, step, frame_of, giver, show, pass_ownership, write_fetch}
use Rattle.model.proofs.Laws.Lists.{each_head}
use Rattle.model.proofs.Laws.Runs.{Changed, entry_at_changed, Follows, follows_trans, follows_step, follows_note_flush, sizes_pass_ownership}
use Rattle.model.proofs.Laws.Runs.Stores.{FlushedWith, show_changed, note_flush_changed}
use Rattle.model.proofs.Laws.Keeps.Clauses.{up_below}
use Rattle.model.specs.Clauses.{RoomFor, Space, CanFetch}
use Rattle.model.proofs.Laws.Keeps.Rights.{entry_at_lem}
use Rattle.model.proofs.Laws.Keeps.Fetches.{page_there, owner_up, owner_other, room_taker, room_owner, room_got}
use Rattle.copies.specs.Banks.{Holds, OfBank, holds_bank, holds_decode, holds_well_formed}
use Rattle.exchange.specs.Progress.{running, Came, CanShow, get_own}
use Rattle.model.proofs.Laws.Moves.Stores.{show_keeps}
use Rattle.model.proofs.Laws.Moves.Fetches.{taker_other, got_keeps}

-- ---- a run and its bytes

module _ {s : List ℕ} {n : ℕ} {o : Option ℕ} {r : Run} (c : Came s n o r) where
  pub came_holds : WellFormed r.bank → Holds s r.bank
  came_holds w = holds_well_formed c.bytes w

  -- a run that has its power yet goes on from its bytes
  pub came_on : o ≡ none → WellFormed r.bank → running n (decode s) ≡ r
  came_on e w = λ i. record { bank = holds_decode (came_holds w) i; stores = c.stores i; lost = (sym e ∙ c.lost) i }

  pub came_step : o ≡ none → WellFormed r.bank → (f : Bank → Bank) (ys : List ℕ) → Holds ys (f (decode s)) → Came ys n none (step f r)
  unfolding step
  came_step e w f ys h = rw (← came_on e w) (record { bytes = h.bytes; stores = refl; lost = refl })

  -- a run that lost it is passed on
  pub came_lost : {t : Run} (b : ℕ) → o ≡ some b → Follows r t → Came s n o t
  came_lost b e f = rw (f.lost b (sym c.lost ∙ e)) c

-- ---- before the first stage

-- a fetch of one page is of a page of the bank
pub one_page : {g : CopyOrOwn} {pages b p : ℕ} {s ps : List ℕ} → OfBank pages b s → CanFetch g b ps (decode s) → ps ≡ p ∷ [] → p < pages
one_page o c e = rw o.count (each_head (rw e at c.pages))

-- what a write fetch asks for: page p, of owner o, by board b
abbrev pub Ready : ℕ → ℕ → ℕ → ℕ → List ℕ → Type 0
Ready pages b p o s = OfBank pages b s × WellFormed (decode s) × CanFetch GotOwn b (p ∷ []) (decode s) × (o ≡ giver GotOwn (decode s) p)

module _ {s : List ℕ} {pages b p o : ℕ} (ready : Ready pages b p o s) where
  page_in : p < length (decode s).directory
  page_in = page_there b p (running 0 (decode s)) ready.1 ready.2

  pub fetch_page : p < pages
  fetch_page = omega (arith, ready.0.count, page_in)

  pub fetch_other : o ≢ b
  fetch_other = rw ready.3 (owner_other b p (running 0 (decode s)) ready.1 ready.2)

  giver_up : (board_at (decode s) o).state ≡ Up
  giver_up = rw ready.3 (owner_up b p (running 0 (decode s)) ready.1 ready.2)

  pub fetch_owner : o < length (decode s).boards
  fetch_owner = up_below (decode s) o giver_up

  pub fetch_of : OfBank pages o s
  fetch_of = record { bank = ready.0.bank; count = ready.0.count; board = fetch_owner }

  -- the owner's part: room for one record
  pub fetch_shows : CanShow o (decode s)
  fetch_shows = (giver_up, rw ready.3 (omega (arith, room_owner b p (running 0 (decode s)) ready.1 ready.2)))

  -- every bank that the owner's part leaves is well formed
  pub shown_keeps : (n : ℕ) → WellFormed (show o b p (running n (decode s))).bank
  shown_keeps n = show_keeps o b p (running n (decode s)) ready.1 (λ e. giver_up) (λ e. fetch_shows.1) (λ e. page_in)
      (λ e. taker_other (decode s) b o ready.2.taker fetch_other)

  -- ---- after the owner's part, with power yet

  module _ (n : ℕ) {l : List ℕ} {m : ℕ} {q : Option ℕ} (ran : Came l m q (show o b p (running n (decode s)))) (on : q ≡ none) where
    shown_bank : Holds l (show o b p (running n (decode s))).bank
    shown_bank = came_holds ran (shown_keeps n)

    changed : Changed o (FlushedWith (Shown p) b (zeros page_size)) (decode s) (decode l)
    changed = rw (holds_decode shown_bank) (show_changed o b p (running n (decode s)) (sym ran.lost ∙ on))

    pub shown_well_formed : WellFormed (decode l)
    shown_well_formed = rw (holds_decode shown_bank) (shown_keeps n)

    pub shown_of : (d : ℕ) → d < length (decode s).boards → OfBank pages d l
    shown_of d h = record { bank = holds_bank shown_bank; count = rw changed.directory ready.0.count; board = rw changed.boards h }

    -- the owner's flush leaves the taker alone
    taker_same : board_at (decode l) b ≡ board_at (decode s) b
    taker_same = changed.others b (λ e. fetch_other (sym e))

    pub shown_taker : (board_at (decode l) b).state ≡ Up
    shown_taker = rw taker_same ready.2.taker

    pub shown_room : RoomFor 1 (board_at (decode l) b)
    shown_room = rw taker_same (room_taker b p (running 0 (decode s)) ready.1 ready.2)

-- ---- to its end

or_holds : (a : Bool) {t : Bool} → t ≡ true → (a || t) ≡ true
or_holds true h = refl
or_holds false h = h

module _ {s : List ℕ} {pages b p o : ℕ} (ready : Ready pages b p o s) (n : ℕ) {l : List ℕ} {m : ℕ} {q : Option ℕ}
    (ran : Came l m q (show o b p (running n (decode s)))) where
  -- power was lost in the owner's part
  pub write_lost : (d : ℕ) → q ≡ some d → Came l m q (write_fetch b p (running n (decode s)))
  unfolding write_fetch
  write_lost d e =
      let r : Run = show o b p (running n (decode s)) in
      rw (← ready.3)
      (came_lost ran d e
      (follows_trans
      (follows_note_flush b (Got GotOwn p) o (λ k. (frame_of k o p).bytes) r)
      (follows_step (pass_ownership o b p) (get_own o b p r) (sizes_pass_ownership o b p (get_own o b p r).bank))))

  -- after the writer's part
  module _ (on : q ≡ none) {j : List ℕ} {t : ℕ} {y : Option ℕ} (took : Came j t y (get_own o b p (running m (decode l)))) where
    gave : running m (decode l) ≡ show o b p (running n (decode s))
    gave = came_on ran on (shown_keeps ready n)

    got_formed : WellFormed (get_own o b p (running m (decode l))).bank
    got_formed = rw (gave, ready.3) (got_keeps b p (running n (decode s)) ready.1 ready.2)

    -- power was lost there
    pub got_lost : (d : ℕ) → y ≡ some d → Came j t y (write_fetch b p (running n (decode s)))
    unfolding write_fetch
    got_lost d e =
        let r : Run = get_own o b p (running m (decode l)) in
        rw (← ready.3, ← gave) (came_lost took d e (follows_step (pass_ownership o b p) r (sizes_pass_ownership o b p r.bank)))

    module _ (still : y ≡ none) where
      pub got_passed : (ys : List ℕ) → Holds ys (pass_ownership o b p (decode j)) → Came ys t none (write_fetch b p (running n (decode s)))
      unfolding write_fetch
      got_passed ys h = rw (← ready.3, ← gave) (came_step took still got_formed (pass_ownership o b p) ys h)

      -- what the passing on asks for
      got_bank : Holds j (get_own o b p (running m (decode l))).bank
      got_bank = came_holds took got_formed

      got_changed : Changed b (FlushedWith (Got GotOwn p) o (frame_of (decode l) o p).bytes) (decode l) (decode j)
      got_changed =
          rw (holds_decode got_bank)
          (note_flush_changed b (Got GotOwn p) o (λ k. (frame_of k o p).bytes) (running m (decode l)) (sym took.lost ∙ still))

      gave_changed : Changed o (FlushedWith (Shown p) b (zeros page_size)) (decode s) (decode l)
      gave_changed = changed ready n ran on

      pub got_of : (d : ℕ) → d < length (decode s).boards → OfBank pages d j
      got_of d h =
          record {
            bank = holds_bank got_bank;
            count = rw (got_changed.directory, gave_changed.directory) ready.0.count;
            board = rw (got_changed.boards, gave_changed.boards) h;
          }

      pub got_entry : EntryOk (length (decode j).boards) (entry_at (decode j) p)
      got_entry = entry_at_lem (rw (holds_decode got_bank) got_formed) p (rw (got_changed.directory, gave_changed.directory) (page_in ready))

      got_space : (d : ℕ) → d < length (decode j).boards → d ≢ b → (eqb d o || member d (entry_at (decode j) p).copies) ≡ true
          → Space (board_at (decode j) d)
      got_space d h other loses =
          let e : entry_at (decode j) p ≡ entry_at (decode s) p = entry_at_changed got_changed p ∙ entry_at_changed gave_changed p in
          let done : (get_own o b p (show o b p (running n (decode s)))).lost ≡ none = rw gave at (sym took.lost ∙ still) in
          let room : RoomFor 1 (board_at (decode j) d)
          = rw (holds_decode got_bank, gave, ready.3)
          (room_got b p (running n (decode s)) ready.1 ready.2 d (rw ready.3 at done) (rw (got_changed.boards, gave_changed.boards) at h) other
          (rw (e, ready.3) at loses)) in
          omega arith

      pub got_space_owner : Space (board_at (decode j) o)
      got_space_owner =
          got_space o (got_of o (fetch_owner ready)).board (fetch_other ready)
          (ap (λ (t : Bool). t || member o (entry_at (decode j) p).copies) (eq-eqb o o refl))

      pub got_space_holder : (d : ℕ) → d < length (decode j).boards → d ≢ b → member d (entry_at (decode j) p).copies ≡ true
          → Space (board_at (decode j) d)
      got_space_holder d h other holder = got_space d h other (or_holds (eqb d o) holder)
