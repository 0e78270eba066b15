-- Every step of a replaying board keeps banks alike; with the steps of boards that are up, every move keeps runs alike. The only premise is that f keeps 0.
-- Assumes nothing.
use Rattle.std.specs.Prelude.{◌≡◌, refl, ℕ, ◌+◌, Bool, List, eqb}
use Rattle.std.proofs.Math.Path.{ap}
use Rattle.std.proofs.Math.Bool.{true, false}
use Rattle.types.specs.declared.Frame.{Frame}
use Rattle.types.specs.declared.CopyOrOwn.{CopyOrOwn}
use Rattle.types.specs.declared.Kind.{Kind}
use Rattle.types.specs.declared.Kind.TheVariants.{Got, Shown, Dropped}
use Rattle.types.specs.declared.CopyOrOwn.TheVariants.{GotOwn}
use Rattle.types.specs.declared.Record.{Record}
use Rattle.model.specs.Definitions.Bank.{Working, Board}
use Rattle.model.specs.Definitions.Codec.{page_of}
use Rattle.model.specs.Definitions.Steps.{Access, Run}
use Rattle.model.specs.Definitions.Replay.{loaded, records_left, used, use_up, used_up, gots_due, due, right_got, took_got, took_gots, took_due, settled_frame}
use Rattle.model.specs.Definitions.Replay.{settled, replayed, settle}
use Rattle.model.specs.Likeness.{EachPair, pairs_nil, pairs_cons, FrameAlike, RecordAlike, FramesAlike, AreaAlike, WorkingAlike, BoardAlike, Alike}
use Rattle.model.specs.Likeness.{mapped_access, RunAlike, mapped, Change}
use Rattle.model.proofs.Laws.Likeness.{Preserve, cases_both, pairs_set, pairs_each, pairs_drop, alike_empty_frame}
use Rattle.model.proofs.Laws.Likeness.{alike_entry_at, alike_on_board, alike_on_working}
use Rattle.model.proofs.Laws.Likeness.Steps.{alike_accessed, alike_step, alike_with_fuse, alike_note_shown, alike_note_page, alike_store, alike_stored_record}
use Rattle.model.proofs.Laws.Likeness.Steps.{alike_stored_frame, alike_stored_head, alike_stored_selector, alike_rested_working, alike_give_copy}
use Rattle.model.proofs.Laws.Likeness.Steps.{alike_pass_ownership, alike_drop_copies, alike_access, alike_power_off}
use Rattle.model.specs.Moves.{Move, NoteShown, NoteGot, StoreRecord, StoreFrame, StoreHead, StoreSelector, GiveCopy, PassOwnership, DropCopies, Perform}
use Rattle.model.specs.Moves.{LosePower, SetFuse, Load, Repeat, TakeLast, Settle, does}

-- the same kind on both sides
kinds_both : {A B : Type 0} (R : A → B → Type 0) {k j : Kind} {a : CopyOrOwn → ℕ → A} {b c : ℕ → A} {d : CopyOrOwn → ℕ → B} {e g : ℕ → B} → j ≡ k
    → ((o : CopyOrOwn) (p : ℕ) → R (a o p) (d o p)) → ((p : ℕ) → R (b p) (e p)) → ((p : ℕ) → R (c p) (g p))
    → R (elim k [ Got o p ↦ a o p | Shown p ↦ b p | Dropped p ↦ c p ]) (elim j [ Got o p ↦ d o p | Shown p ↦ e p | Dropped p ↦ g p ])
kinds_both R {k} {a = a} {b = b} {c = c} {d = d} {e = e} {g = g} i x y w =
    rw i
    (elim k as (λ v. R (elim v [ Got o p ↦ a o p | Shown p ↦ b p | Dropped p ↦ c p ]) (elim v [ Got o p ↦ d o p | Shown p ↦ e p | Dropped p ↦ g p ]))
    [ Got o p ↦ x o p | Shown p ↦ y p | Dropped p ↦ w p ])

module _ (f : Change) (z : f.bytes 0 ≡ 0) where
  alike_loaded : Preserve (BoardAlike f) loaded loaded
  unfolding loaded
  alike_loaded x y e =
      let a : AreaAlike f x.stable.selected y.stable.selected = e.stable.selected in
      record {
        state = refl;
        fuse = e.fuse;
        working = record { number = a.number; since = refl; place = refl; frames = a.frames; log = e.working.log };
        stable = e.stable;
      }

  alike_records_left : {x y : Board} → BoardAlike f x y → EachPair (RecordAlike f) (records_left x) (records_left y)
  unfolding records_left
  alike_records_left {x} e =
      rw e.working.place (pairs_drop (RecordAlike f) x.working.place e.stable.selected.log)

  alike_used : {fs gs : List Frame} {x y : Working} → FramesAlike f fs gs → WorkingAlike f x y → WorkingAlike f (used fs x) (used gs y)
  unfolding used
  alike_used i e = record { number = e.number; since = refl; place = ap (λ (n : ℕ). n + 1) e.place; frames = i; log = e.log }

  -- whether a record's count is reached
  same_reached : {r s : Record} {m n : ℕ} → RecordAlike f r s → n ≡ m → eqb s.count n ≡ eqb r.count m
  same_reached i e = rw (i.count, e)

  alike_use_up : {rs ss : List Record} → EachPair (RecordAlike f) rs ss → Preserve (WorkingAlike f) (use_up rs) (use_up ss)
  unfolding use_up
  alike_use_up pairs_nil x y e = e
  alike_use_up (pairs_cons i is) x y e =
      cases_both (WorkingAlike f) (same_reached i e.since)
      (kinds_both (WorkingAlike f) i.kind
      (λ g p. e)
      (λ p. alike_use_up is _ _ (alike_used e.frames e))
      (λ p. alike_use_up is _ _ (alike_used (pairs_set (FrameAlike f) p (alike_empty_frame f z) e.frames) e)))
      e

  alike_used_up : Preserve (BoardAlike f) used_up used_up
  unfolding used_up
  alike_used_up x y e = alike_on_working f (alike_use_up (alike_records_left e)) x y e

  pub alike_load : (x y : Board) → BoardAlike f x y → BoardAlike f (used_up (loaded x)) (used_up (loaded y))
  alike_load x y e = alike_used_up (loaded x) (loaded y) (alike_loaded x y e)

  alike_gots_due : {rs ss : List Record} {m n : ℕ} → EachPair (RecordAlike f) rs ss → n ≡ m → EachPair (RecordAlike f) (gots_due rs m) (gots_due ss n)
  unfolding gots_due
  alike_gots_due pairs_nil e = pairs_nil
  alike_gots_due (pairs_cons i is) e =
      cases_both (EachPair (RecordAlike f)) (same_reached i e)
      (kinds_both (EachPair (RecordAlike f)) i.kind (λ g p. pairs_cons i (alike_gots_due is refl)) (λ p. pairs_nil) (λ p. pairs_nil))
      pairs_nil

  pub alike_due : {x y : Board} → BoardAlike f x y → EachPair (RecordAlike f) (due x) (due y)
  unfolding due
  alike_due e = alike_gots_due (alike_records_left e) e.working.since

  alike_took_got : {r s : Record} → RecordAlike f r s → Preserve (WorkingAlike f) (took_got r) (took_got s)
  unfolding took_got
  alike_took_got {r} i x y e =
      rw (ap page_of i.kind)
      (alike_used (pairs_set (FrameAlike f) (page_of r.kind) (record { right = ap right_got i.kind; bytes = i.bytes }) e.frames) e)

  alike_took_gots : {rs ss : List Record} → EachPair (RecordAlike f) rs ss → Preserve (WorkingAlike f) (took_gots rs) (took_gots ss)
  unfolding took_gots
  alike_took_gots pairs_nil x y e = e
  alike_took_gots (pairs_cons i is) x y e = alike_took_gots is _ _ (alike_took_got i x y e)

  pub alike_took_due : Preserve (BoardAlike f) took_due took_due
  unfolding took_due
  alike_took_due x y e = alike_on_working f (alike_took_gots (alike_due e)) x y e

  pub alike_replayed : (a : Access) → Preserve (BoardAlike f) (replayed a) (replayed (mapped_access f.bytes a))
  unfolding replayed
  alike_replayed a x y e = alike_used_up _ _ (alike_on_working f (alike_accessed f z a) x y e)

  alike_settled_frame : {t u : Bool} {c d : Frame} → u ≡ t → FrameAlike f c d → FrameAlike f (settled_frame t c) (settled_frame u d)
  unfolding settled_frame
  alike_settled_frame {t} {c = c} {d = d} e i =
      rw e
      (elim t as (λ v. FrameAlike f (settled_frame v c) (settled_frame v d))
      [ true ↦ record { right = refl; bytes = i.bytes } | false ↦ alike_empty_frame f z ])

  alike_settled : {owned held : ℕ → Bool} → ((p : ℕ) → held p ≡ owned p) → Preserve (BoardAlike f) (settled owned) (settled held)
  unfolding settled
  alike_settled i x y e =
      let w : WorkingAlike f x.working y.working = e.working in
      record {
        state = refl;
        fuse = e.fuse;
        working =
            record {
              number = w.number;
              since = w.since;
              place = refl;
              frames = pairs_each (FrameAlike f) (λ p c d o. alike_settled_frame (i p) o) w.frames;
              log = w.log;
            };
        stable = e.stable;
      }

  alike_settle : (b : ℕ) → Preserve (Alike f) (settle b) (settle b)
  unfolding settle
  alike_settle b k j e = alike_on_board f b (alike_settled (λ p. rw (alike_entry_at f p e))) k j e

  -- ---- every move

  pub moves_alike : (m : Move) {r s : Run} → RunAlike f r s → RunAlike f (does m r) (does (mapped f.bytes m) s)
  unfolding does mapped settle
  moves_alike (NoteShown b t p) e = alike_step f (alike_note_shown f z b t p) e
  moves_alike (NoteGot b o p) e = alike_step f (alike_note_page f z b o p (Got GotOwn p)) e
  moves_alike (StoreRecord b) e = alike_store f z b (alike_stored_record f) e
  moves_alike (StoreFrame b p) e = alike_store f z b (alike_stored_frame f z p) e
  moves_alike (StoreHead b) e = alike_store f z b (alike_stored_head f) e
  moves_alike (StoreSelector b) e =
      alike_step f (alike_on_board f b (alike_on_working f (alike_rested_working f))) (alike_store f z b (alike_stored_selector f) e)
  moves_alike (GiveCopy o b p) e = alike_step f (alike_give_copy f z o b p) e
  moves_alike (PassOwnership o b p) e = alike_step f (alike_pass_ownership f z o b p) e
  moves_alike (DropCopies w p) e = alike_step f (alike_drop_copies f z w p) e
  moves_alike (Perform b a) e = alike_step f (alike_access f z b a) e
  moves_alike (LosePower b) e = alike_step f (alike_power_off f z b) e
  moves_alike (SetFuse b n) e = alike_step f (alike_on_board f b (alike_with_fuse f n)) e
  moves_alike (Load b) e = alike_step f (alike_on_board f b alike_load) e
  moves_alike (Repeat b a) e = alike_step f (λ k j i. alike_on_board f b (alike_replayed a) _ _ (alike_on_board f b alike_took_due k j i)) e
  moves_alike (TakeLast b) e = alike_step f (alike_on_board f b alike_took_due) e
  moves_alike (Settle b) e = alike_step f (alike_settle b) e
