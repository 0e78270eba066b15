-- The gots that are due: the first is the record that is ready, the others follow it with count 0, and what their use leaves. Assumes nothing.
use Rattle.std.specs.Prelude.{◌≡◌, refl, ℕ, ◌+◌, ◌≤◌, ◌<◌, Bool, true, false, ◌&&◌, not, length, set, eqb, Some, None}
use Rattle.std.proofs.Common.{sym, ◌∙◌, arith, le-leb}
use Rattle.std.proofs.Math.Bool.{and-false}
use Rattle.std.proofs.Math.Path.{ap}
use mathlib.Core.List.{List, [], ◌∷◌}
use Rattle.std.proofs.Math.ListN.{drop}
use Rattle.std.proofs.Math.Seq.{drop-drop}
use Rattle.std.proofs.lemmas.Bool.{lt-leb}
use Rattle.types.specs.declared.Frame.{Frame}
use Rattle.types.specs.declared.CopyOrOwn.{CopyOrOwn}
use Rattle.types.specs.declared.CopyOrOwn.TheVariants.{GotCopy, GotOwn}
use Rattle.types.specs.declared.Kind.TheVariants.{Got}
use Rattle.types.specs.declared.Record.{Record}
use Rattle.model.specs.Definitions.Parts.{member}
use Rattle.model.specs.Definitions.Bank.{Board, on_working}
use Rattle.model.specs.Definitions.Codec.{page_of}
use Rattle.model.specs.Definitions.WellFormed.{is_got, FrameOk, RecordOk, FieldsOk}
use Rattle.model.specs.Definitions.Replay.{records_left, used, gots_due, due, same_got, right_got, took_got, took_gots, took_due}
use Rattle.model.proofs.Laws.Logic.{by_bool, clash}
use Rattle.model.proofs.Laws.Codes.Tests.{by_kind}
use Rattle.model.proofs.Laws.Valid.{copy_some, own_some, frames_ok_set}
use Rattle.model.proofs.Laws.BoardFields.{used_fields}
use Rattle.steps.specs.Asked.{got}
use Rattle.replay.specs.Clauses.{ready_in, ready, first, fits, takes_got, took_first}
use Rattle.replay.specs.Next.{by_option, Ready, ready_in_some, ready_valid}

-- ---- the first got that is due is the record that is ready

pub due_unready : (l : List Record) (since : ℕ) → ready_in l since ≡ None → gots_due l since ≡ []
unfolding ready_in gots_due
due_unready [] since h = refl
due_unready (r ∷ rs) since h =
    by_bool (eqb r.count since)
    (λ t. cc)
    (λ t. cc)

gots_first : (r : Record) (rs : List Record) (since : ℕ) → eqb r.count since ≡ true
    → gots_due (r ∷ rs) since ≡ elim (is_got r.kind) [ true ↦ r ∷ gots_due rs 0 | false ↦ [] ]
unfolding gots_due is_got
gots_first r rs since t = by_kind r.kind (λ g p e. cc) (λ p e. cc) (λ p e. cc)

gots_ready : (l : List Record) (since : ℕ) (r : Record) → ready_in l since ≡ Some r
    → gots_due l since ≡ elim (is_got r.kind) [ true ↦ r ∷ gots_due (drop 1 l) 0 | false ↦ [] ]
gots_ready l since r h =
    let s : Ready l since r = ready_in_some l since r h in
    ap (λ (q : List Record). gots_due q since) s.first ∙ gots_first r (drop 1 l) since s.equal

pub due_got : (l : List Record) (since : ℕ) (r : Record) → ready_in l since ≡ Some r → is_got r.kind ≡ true → ready_in l since ≡ first (gots_due l since)
unfolding first
due_got l since r h g = h ∙ sym (ap first (rw g at (gots_ready l since r h)))

pub due_other : (l : List Record) (since : ℕ) (r : Record) → ready_in l since ≡ Some r → is_got r.kind ≡ false → gots_due l since ≡ []
due_other l since r h g = rw g at (gots_ready l since r h)

pub first_none : (l : List Record) → first l ≡ None → l ≡ []
unfolding first
first_none [] h = refl
first_none (r ∷ rs) h = cc

-- a got that is first: it is ready, and those behind it come after its use
pub record First (l : List Record) (since : ℕ) (r : Record) : Type 0 where
  pub ready : ready_in l since ≡ Some r
  pub kind : is_got r.kind ≡ true
  pub all : gots_due l since ≡ r ∷ gots_due (drop 1 l) 0

pub first_some : (l : List Record) (since : ℕ) (r : Record) → first (gots_due l since) ≡ Some r → First l since r
unfolding first
first_some l since r h =
    by_option (ready_in l since)
    (λ e. cc (due_unready l since e))
    (λ q e.
    by_bool (is_got q.kind)
    (λ t.
    let z : q ≡ r = cc (gots_ready l since q e) in
    record { ready = rw z at e; kind = rw z at t; all = rw z at (rw t at (gots_ready l since q e)) })
    (λ t. cc (gots_ready l since q e)))

-- ---- one of them used

module _ (x : Board) (r : Record) (h : first (due x) ≡ Some r) where
  pub due_ready : (ready x ≡ Some r) × (is_got r.kind ≡ true)
  unfolding ready due
  due_ready = let f : First (records_left x) x.working.since r = first_some (records_left x) x.working.since r h in (f.ready, f.kind)

  pub due_next : due x ≡ r ∷ due (on_working (took_got r) x)
  unfolding due records_left on_working took_got used
  due_next =
      let rs : List Record = x.stable.selected.log in
      let f : First (drop x.working.place rs) x.working.since r = first_some (drop x.working.place rs) x.working.since r h in
      let d : drop 1 (drop x.working.place rs) ≡ drop (x.working.place + 1) rs = drop-drop 1 x.working.place rs in
      f.all ∙ ap (λ (l : List Record). r ∷ gots_due l 0) d

  pub took_next : took_due x ≡ took_due (on_working (took_got r) x)
  unfolding took_due took_gots on_working
  took_next = rw due_next

  pub took_first_lem : (takes_got x ≡ true) × (took_first x ≡ on_working (took_got r) x)
  unfolding takes_got took_first
  took_first_lem = (cc, cc)

  -- as the code writes it
  pub took_written : (p : ℕ) (f : Frame) → p ≡ page_of r.kind → f ≡ record { right = right_got r.kind; bytes = r.bytes }
      → (true ≡ takes_got x) × (on_working (λ w. used (set w.frames p f) w) x ≡ took_first x)
  unfolding took_got
  took_written p f e g = (sym took_first_lem.0, rw (e, g) (sym took_first_lem.1))

module _ (x : Board) (h : first (due x) ≡ None) where
  pub took_none : took_due x ≡ x
  unfolding took_due took_gots on_working
  took_none = rw (first_none (due x) h)

  pub took_idle : (takes_got x ≡ false) × (took_first x ≡ x)
  unfolding takes_got took_first
  took_idle = (cc, cc)

-- ---- every field stays in range

by_got : {X : Type 0} (g : CopyOrOwn) → (g ≡ GotCopy → X) → (g ≡ GotOwn → X) → X
by_got GotCopy a b = a refl
by_got GotOwn a b = b refl

got_frame_ok : {pages : ℕ} (r : Record) → RecordOk pages r → is_got r.kind ≡ true → FrameOk (record { right = right_got r.kind; bytes = r.bytes })
unfolding is_got right_got
got_frame_ok r v h =
    record {
      size = v.size;
      bytes = v.bytes;
      empty =
          λ e.
          by_kind r.kind
          (λ g p k. by_got g (λ i. absurd (copy_some (cc))) (λ i. absurd (own_some (cc))))
          (λ p k. clash h (rw k))
          (λ p k. clash h (rw k));
    }

took_got_fields : {pages : ℕ} (x : Board) (r : Record) → FieldsOk pages x → first (due x) ≡ Some r → FieldsOk pages (on_working (took_got r) x)
unfolding took_got on_working
took_got_fields x r ok h =
    let d = due_ready x r h in
    let f : Frame = record { right = right_got r.kind; bytes = r.bytes } in
    used_fields ok (set x.working.frames (page_of r.kind) f)
    (frames_ok_set x.working.frames (page_of r.kind) f ok.working.frames (got_frame_ok r (ready_valid x r ok d.0).1 d.1))

-- what the use of one leaves to the next
pub record NextTake (pages : ℕ) (x y : Board) : Type 0 where
  pub same : took_due x ≡ took_due y
  pub fields : FieldsOk pages y
  pub fewer : length (due y) < length (due x)

pub took_more : {pages : ℕ} (x : Board) → FieldsOk pages x → takes_got x ≡ true → NextTake pages x (took_first x)
took_more x ok t =
    by_option (first (due x))
    (λ e. clash t (took_idle x e).0)
    (λ r e.
    rw (took_first_lem x r e).1
    (record { same = took_next x r e; fields = took_got_fields x r ok e; fewer = omega (arith, ap length (due_next x r e)) }))

-- nothing to take
pub took_end : (x : Board) → takes_got x ≡ false → (took_due x ≡ x) × (took_first x ≡ x)
took_end x t = by_option (first (due x)) (λ e. (took_none x e, (took_idle x e).1)) (λ r e. clash (took_first_lem x r e).0 t)

-- one got after the other
took_within : {pages : ℕ} (l : List Record) (x : Board) → due x ≡ l → FieldsOk pages x → FieldsOk pages (took_due x)
unfolding first
took_within [] x e ok = rw (took_none x (ap first e)) ok
took_within (r ∷ rs) x e ok =
    let h : first (due x) ≡ Some r = ap first e in
    let y : Board = on_working (took_got r) x in
    let k : due y ≡ rs = cc (sym (due_next x r h) ∙ e) in
    rw (took_next x r h) (took_within rs y k (took_got_fields x r ok h))

pub took_due_fields : {pages : ℕ} (x : Board) → FieldsOk pages x → FieldsOk pages (took_due x)
took_due_fields x ok = took_within (due x) x refl ok

-- ---- the tests of a got, as the code makes them

pub serves_copy : (writes : Bool) → not writes ≡ same_got GotCopy (got writes)
unfolding same_got got
serves_copy true = refl
serves_copy false = refl

pub serves_own : (writes : Bool) → writes ≡ same_got GotOwn (got writes)
unfolding same_got got
serves_own true = refl
serves_own false = refl

module _ (g h : CopyOrOwn) (s n p : ℕ) where
  pub fits_low : p < n → false ≡ fits g s n (Got h p)
  unfolding fits
  fits_low l = rw (lt-leb n p l, and-false (same_got h g && member p s))

  pub fits_out : member p s ≡ false → false ≡ fits g s n (Got h p)
  unfolding fits
  fits_out m = rw (m, and-false (same_got h g))

  pub fits_in : n ≤ p → member p s ≡ true → (t : Bool) → t ≡ same_got h g → t ≡ fits g s n (Got h p)
  unfolding fits
  fits_in l m t e = rw (le-leb n p l, m, ← e) (by_bool t (λ u. rw u) (λ u. rw u))
