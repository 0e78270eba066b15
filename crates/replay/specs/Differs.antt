-- Whether an access differs from the log, by a walk over the gots that are due: each is tried against the pages that are lacking still, and what is left
-- of the walk decides as the whole does. Assumes nothing.
use Rattle.std.specs.Prelude.{◌≡◌, Bool, ◌&&◌, ◌||◌, not, length, drop, eqb, Some, None}
use Rattle.std.proofs.Math.Path.{refl, sym, ap}
use Rattle.std.proofs.Common.{◌∙◌, arith}
use Prim.Native.Nat.{ℕ, suc, ◌+◌, ◌^◌, ◌≤◌, ◌<◌}
use Rattle.std.proofs.Math.Numerals.{add-one}
use Rattle.std.proofs.Math.Bool.{true, false, and-false}
use mathlib.Core.List.{List, ◌∷◌}
use Rattle.std.proofs.Math.ListN.{set, length-set}
use Rattle.std.proofs.Math.Dec.{leb}
use borrow.Author.Tests.{leb-true, le-leb, lt-leb}
use Rattle.types.specs.declared.Frame.{Frame}
use Rattle.types.specs.declared.Kind.{Kind}
use Rattle.types.specs.declared.Kind.TheVariants.{Got, Shown, Dropped}
use Rattle.types.specs.declared.Record.{Record}
use Rattle.model.specs.Definitions.Parts.{member, without_member}
use Rattle.model.specs.Definitions.Bank.{Board, frame_at, on_working}
use Rattle.model.specs.Definitions.Codec.{page_of}
use Rattle.model.specs.Definitions.Steps.{Access, names, takes, lacks, lacks_page}
use Rattle.model.specs.Definitions.Replay.{records_left, used, gots_due, due, same_got, lacking, needs_got, needs_gots, differs, right_got, took_got, took_due}
use Rattle.model.specs.Definitions.Replay.{replay_over}
use Rattle.model.proofs.Laws.Logic.{by_bool, by_eq, clash, and_left, and_right}
use Rattle.model.proofs.Laws.Below.{page_same, page_enough}
use Rattle.model.proofs.Laws.Boards.{frame_at_same, frame_at_other}
use Rattle.model.proofs.Laws.Keeps.Accesses.{takes_enough}
use Rattle.model.proofs.Laws.Keeps.Replay.{same_got_true}
use Rattle.model.proofs.Laws.Sets.{member_without_same, member_without_other}
use Rattle.steps.specs.Access.{lacking_test}
use Rattle.replay.specs.Clauses.{first, fits}
use Rattle.replay.specs.Next.{ready_past}
use Rattle.replay.specs.Got.{due_unready, first_none, due_next, took_next, took_none}

-- ---- what is left of the walk

-- code 5 from a got on: fs are the frames of before the walk, n is the lowest page that the next got may have
unfoldable pub differs_from : Access → List Frame → ℕ → Board → Bool
differs_from a fs n y =
    not (needs_gots a fs n (due y)) || (not (replay_over (took_due y)) && lacking a (took_due y).working.frames)

module _ (a : Access) (fs : List Frame) (n : ℕ) (y : Board) where
  differs_none : first (due y) ≡ None → differs_from a fs n y ≡ (not (replay_over y) && lacking a y.working.frames)
  unfolding differs_from needs_gots
  differs_none h = rw (first_none (due y) h, took_none y h)

  differs_next : (r : Record) → first (due y) ≡ Some r
      → differs_from a fs n y
      ≡ elim (needs_got a fs r.kind && leb n (page_of r.kind)) [
        | true ↦ differs_from a fs (suc (page_of r.kind)) (on_working (took_got r) y)
        | false ↦ true
      ]
  unfolding differs_from needs_gots
  differs_next r h =
      let d : due y ≡ r ∷ due (on_working (took_got r) y) = due_next y r h in
      let t : took_due y ≡ took_due (on_working (took_got r) y) = took_next y r h in
      by_bool (needs_got a fs r.kind)
      (λ u. by_bool (leb n (page_of r.kind)) (λ v. rw (d, t, u, v)) (λ v. rw (d, u, v)))
      (λ u. rw (d, u))

-- ---- a got, as the code tests it

fits_needed : (a : Access) (fs : List Frame) (s n : ℕ) (k : Kind) → (n ≤ page_of k → member (page_of k) s ≡ lacks_page a fs (page_of k))
    → fits (takes a) s n k ≡ (needs_got a fs k && leb n (page_of k))
unfolding fits needs_got page_of
fits_needed a fs s n (Got h p) m =
    by_bool (leb n p)
    (λ t. rw (m (leb-true n p t)))
    (λ t. rw (t, and-false (same_got h (takes a) && member p s), and-false (same_got h (takes a) && lacks_page a fs p)))
fits_needed a fs s n (Shown p) m = refl
fits_needed a fs s n (Dropped p) m = refl

-- a got that is needed gives a right that is enough
got_enough : (a : Access) (fs : List Frame) (k : Kind) → needs_got a fs k ≡ true → lacks (takes a) (right_got k) ≡ false
unfolding needs_got
got_enough a fs (Got h p) t = let e : h ≡ takes a = same_got_true h (takes a) (and_left (same_got h (takes a)) _ t) in rw e (takes_enough (takes a) p)
got_enough a fs (Shown p) t = clash t refl
got_enough a fs (Dropped p) t = clash t refl

-- ---- the walk

-- After some gots the walk stands at a place: a board has used them. The set has the pages that are lacking there, pages from the lowest on are as they were,
-- and what is left decides.
pub record Walk (pages : ℕ) (a : Access) (x : Board) (lacks place since lowest : ℕ) : Type 0 where
  pub board : Board
  pub stable : board.stable ≡ x.stable
  pub at : board.working.place ≡ place
  pub counted : board.working.since ≡ since
  pub frames : length board.working.frames ≡ pages
  pub set : (p : ℕ) → member p lacks ≡ lacks_page a board.working.frames p
  pub above : (p : ℕ) → lowest ≤ p → frame_at board.working.frames p ≡ frame_at x.working.frames p
  pub same : differs a x ≡ differs_from a x.working.frames lowest board

module _ {pages : ℕ} {a : Access} {x : Board} where
  pub walk_start : (s : ℕ) → length x.working.frames ≡ pages → ((p : ℕ) → member p s ≡ lacks_page a x.working.frames p)
      → Walk pages a x s x.working.place x.working.since 0
  unfolding differs differs_from
  walk_start s n h = record { board = x; stable = refl; at = refl; counted = refl; frames = n; set = h; above = λ p l. refl; same = refl }

  module _ {s i since n : ℕ} (w : Walk pages a x s i since n) where
    abbrev records : List Record
    records = x.stable.selected.log

    walk_due : gots_due (drop i records) since ≡ due w.board
    unfolding due records_left
    walk_due = rw (w.stable, w.at, w.counted)

    -- the board that has used them: whether its log is used up
    walk_place : replay_over w.board ≡ leb (length records) i
    unfolding replay_over
    walk_place = rw (w.stable, w.at)

    -- no record is left: whatever is lacking is fetched live
    pub walk_over : length x.stable.selected.log ≤ i → false ≡ differs a x
    unfolding first
    walk_over l =
        let d : first (due w.board) ≡ None = rw (← walk_due, due_unready (drop i records) since (ready_past records i since l)) in
        let o : replay_over w.board ≡ true = walk_place ∙ le-leb (length records) i l in
        sym (w.same ∙ differs_none a x.working.frames n w.board d ∙ rw o)

    -- no got is due: none may be lacking
    pub walk_none : i < length x.stable.selected.log → first (gots_due (drop i x.stable.selected.log) since) ≡ None
        → (m : ℕ) → s < 2 ^ m → ((p : ℕ) → names a p ≡ true → p < pages) → not (eqb s 0) ≡ differs a x
    walk_none l h m k below =
        let d : first (due w.board) ≡ None = rw walk_due at h in
        let o : replay_over w.board ≡ false = walk_place ∙ lt-leb (length records) i l in
        let t : not (eqb s 0) ≡ lacking a w.board.working.frames =
        lacking_test a w.board.working.frames m s k (λ p e. rw w.frames (below p e)) w.set in
        sym (w.same ∙ differs_none a x.working.frames n w.board d ∙ rw o (sym t))

    module _ (r : Record) (h : first (gots_due (drop i x.stable.selected.log) since) ≡ Some r) where
      here : first (due w.board) ≡ Some r
      here = rw walk_due at h

      tested : fits (takes a) s n r.kind ≡ (needs_got a x.working.frames r.kind && leb n (page_of r.kind))
      tested =
          fits_needed a x.working.frames s n r.kind
          (λ l.
          w.set (page_of r.kind)
          ∙ page_same a x.working.frames w.board.working.frames (page_of r.kind) (ap (λ (f : Frame). f.right) (w.above (page_of r.kind) l)))

      -- a got that is not needed
      pub walk_other : fits (takes a) s n r.kind ≡ false → true ≡ differs a x
      walk_other t = sym (w.same ∙ differs_next a x.working.frames n w.board r here ∙ rw (← tested, t))

      -- a got that is needed: its page is lacking no more
      pub walk_next : fits (takes a) s n r.kind ≡ true → page_of r.kind < pages
          → Walk pages a x (without_member (page_of r.kind) s) (i + 1) 0 (page_of r.kind + 1)
      unfolding on_working took_got used
      walk_next t l =
          let p : ℕ = page_of r.kind in
          let fs : List Frame = w.board.working.frames in
          let f : Frame = record { right = right_got r.kind; bytes = r.bytes } in
          let u : (needs_got a x.working.frames r.kind && leb n p) ≡ true = sym tested ∙ t in
          let enough : lacks (takes a) f.right ≡ false = got_enough a x.working.frames r.kind (and_left _ _ u) in
          let low : n ≤ p = leb-true n p (and_right (needs_got a x.working.frames r.kind) _ u) in
          let new : frame_at (set fs p f) p ≡ f = frame_at_same fs p f (rw w.frames l) in
          record {
            board = on_working (took_got r) w.board;
            stable = w.stable;
            at = ap (λ (m : ℕ). m + 1) w.at;
            counted = refl;
            frames = length-set fs p f ∙ w.frames;
            set =
                λ q.
                by_eq q p
                (λ e. rw e (member_without_same p s ∙ sym (page_enough a (set fs p f) p (rw new enough))))
                (λ e.
                member_without_other p q s e ∙ w.set q
                ∙ sym (page_same a fs (set fs p f) q (ap (λ (g : Frame). g.right) (frame_at_other fs p q f e))));
            above = λ q k. frame_at_other fs p q f (λ e. absurd (omega arith)) ∙ w.above q (omega arith);
            same = w.same ∙ differs_next a x.working.frames n w.board r here ∙ rw (u, add-one p);
          }
