-- Each test of Definitions.Calls and Definitions.Replay decides the condition that Laws.Codes.Statement states for it. Assumes nothing.
use Rattle.std.specs.Prelude.{◌≡◌, refl, ◌≢◌, ◌⊎◌, ◌↔◌, ℕ, suc, ◌+◌, ◌-◌, ◌%◌, ◌≤◌, ◌<◌, Bool, true, false, ◌&&◌, ◌||◌, not, List, [], ◌∷◌, ◌++◌, drop, set, eqb, ltb, leb}
use Rattle.std.proofs.Common.{sym, ◌∙◌, inl, inr, arith, length-set, length-drop, length-append, eqb-true, eq-eqb}
use Rattle.std.proofs.Math.Path.{ap}
use Rattle.std.proofs.Math.ListN.{length}
use Rattle.std.proofs.lemmas.Bool.{eqb-false, not-false}
use Rattle.words.specs.Bytes.{Each, each_nil, each_cons}
use Rattle.types.specs.declared.Right.{Right}
use Rattle.types.specs.declared.Right.TheVariants.{None, Copy, Own}
use Rattle.types.specs.declared.Frame.{Frame}
use Rattle.types.specs.declared.CopyOrOwn.{CopyOrOwn}
use Rattle.types.specs.declared.CopyOrOwn.TheVariants.{GotCopy, GotOwn}
use Rattle.types.specs.declared.Kind.{Kind}
use Rattle.types.specs.declared.Kind.TheVariants.{Got, Shown, Dropped}
use Rattle.types.specs.declared.Record.{Record}
use Rattle.model.specs.Definitions.Parts.{every}
use Rattle.model.specs.Definitions.Layout.{byte_values, page_size, most_cells, last_since, last_number}
use Rattle.model.specs.Definitions.Bank.{Working, Board, Bank, frame_at, on_working}
use Rattle.model.specs.Definitions.Codec.{page_of}
use Rattle.model.specs.Definitions.Steps.{Access, Read, Write, ReadCells, Cell, cells_asked, cells_read, cells_written, any_cell, any_write, names}
use Rattle.model.specs.Definitions.Steps.{takes, lacks, lacks_page, lacking_pages}
use Rattle.model.specs.Definitions.Replay.{records_left, used, gots_due, due, same_got, lacking, needs_got, needs_gots, right_got, took_got, took_gots}
use Rattle.model.specs.Definitions.Replay.{took_due, replay_over, differs}
use Rattle.model.specs.Definitions.Calls.{cell_in_range, access_in_range, wrong_cells, counters_full}
use Rattle.model.proofs.Laws.Logic.{by_bool, by_eq, clash}
use Rattle.model.proofs.Laws.Lists.{each_head, each_tail}
use Rattle.model.proofs.Laws.Boards.{frame_at_same, frame_at_other}
use Rattle.model.proofs.Laws.Below.{Lacks, lacking_pages_lack, lacks_no_page}
use Rattle.model.specs.Laws.Codes.Statement.{Some, CellOut, AccessOut, CellsOut, CountersEnd, Names, TooLittle, LacksPage, NoneDue, Together, all, got}
use Rattle.model.specs.Laws.Codes.Statement.{Due, NeedsFrom, NeedsGots, ReplayOther}
use Rattle.model.proofs.Laws.Tests.{Says, says_and, says_eq, says_lt, says_le}
use Rattle.model.proofs.Laws.Codes.Order.{never, fails, says_absurd, says_iff, says_no, says_or, says_or_else, says_not_and, says_not_every, says_not_lt}

-- ==== 2, 10 and 4

cell_out : (k : Bank) (c : Cell) → Says (not (cell_in_range (length k.directory) c)) (CellOut k c)
unfolding cell_in_range
cell_out k c =
    says_not_and (ltb c.page (length k.directory)) (ltb c.offset page_size)
    (says_not_lt c.page (length k.directory))
    (says_not_lt c.offset page_size)

pub access_out : (b : ℕ) (a : Access) (k : Bank) → Says (not (access_in_range b a k)) (AccessOut b a k)
unfolding access_in_range AccessOut
access_out b a k =
    let reads : Cell → Bool = cell_in_range (length k.directory) in
    let writes : Cell × ℕ → Bool = λ w. cell_in_range (length k.directory) w.0 && ltb w.1 byte_values in
    says_not_and (ltb b (length k.boards)) (every reads (cells_read a) && every writes (cells_written a))
    (says_not_lt b (length k.boards))
    (says_not_and (every reads (cells_read a)) (every writes (cells_written a))
    (says_not_every reads (cells_read a) (cell_out k))
    (says_not_every writes (cells_written a)
    (λ w. says_not_and (reads w.0) (ltb w.1 byte_values) (cell_out k w.0) (says_not_lt w.1 byte_values))))

pub cells_out : (a : Access) → Says (wrong_cells a) (CellsOut a)
unfolding wrong_cells CellsOut
cells_out (Read p o) = says_absurd (λ u. u)
cells_out (Write p o v) = says_absurd (λ u. u)
cells_out (ReadCells cells out_length) =
    let n : ℕ = length (cells_asked cells) in
    says_or (eqb n 0) (eqb (length cells % 2) 1 || (ltb most_cells n || not (eqb out_length n))) (says_eq n 0)
    (says_or (eqb (length cells % 2) 1) (ltb most_cells n || not (eqb out_length n)) (says_eq (length cells % 2) 1)
    (says_or (ltb most_cells n) (not (eqb out_length n)) (says_lt most_cells n) (says_no (eqb out_length n) (says_eq out_length n))))

pub counters_end : (x : Board) → Says (counters_full last_since x) (CountersEnd x)
unfolding counters_full
counters_end x =
    says_or (eqb x.working.since last_since) (eqb x.working.number last_number)
    (says_eq x.working.since last_since)
    (says_eq x.working.number last_number)

-- ==== the pages that an access names, and those that it lacks

reads_page : (cs : List Cell) (p : ℕ) → Says (any_cell cs p) (Some (λ c. c.page ≡ p) cs)
unfolding any_cell Some
reads_page [] p = says_absurd (λ u. u)
reads_page (c ∷ cs) p = says_or (eqb c.page p) (any_cell cs p) (says_eq c.page p) (reads_page cs p)

pub writes_page : (ws : List (Cell × ℕ)) (p : ℕ) → Says (any_write ws p) (Some (λ w. w.0.page ≡ p) ws)
unfolding any_write Some
writes_page [] p = says_absurd (λ u. u)
writes_page (w ∷ ws) p = says_or (eqb w.0.page p) (any_write ws p) (says_eq w.0.page p) (writes_page ws p)

names_page : (a : Access) (p : ℕ) → Says (names a p) (Names a p)
unfolding names
names_page a p =
    says_or (any_cell (cells_read a) p) (any_write (cells_written a) p) (reads_page (cells_read a) p) (writes_page (cells_written a) p)

too_little : (g : CopyOrOwn) (r : Right) → Says (lacks g r) (TooLittle g r)
unfolding lacks TooLittle
too_little GotCopy None = (λ e. refl, λ e. refl)
too_little GotCopy Copy = says_absurd (λ e. never (cc))
too_little GotCopy Own = says_absurd (λ e. never (cc))
too_little GotOwn None = (λ e h. never (cc), λ h. refl)
too_little GotOwn Copy = (λ e h. never (cc), λ h. refl)
too_little GotOwn Own = says_absurd (λ h. h refl)

pub lacks_page_lem : (a : Access) (fs : List Frame) (p : ℕ) → Says (lacks_page a fs p) (LacksPage a fs p)
unfolding lacks_page
lacks_page_lem a fs p = says_and (names_page a p) (too_little (takes a) (frame_at fs p).right)

-- the first page that is lacking
some_page : {P : ℕ → Type 0} (ps : List ℕ) → ◌≡◌ {A = Bool} (elim ps [ [] ↦ false | p ∷ qs ↦ true ]) true → Each P ps → (p : ℕ) × P p
some_page [] h e = clash h refl
some_page (p ∷ ps) h e = (p, each_head e)

some_lacking : (a : Access) (fs : List Frame) → Says (lacking a fs) ((p : ℕ) × (p < length fs) × LacksPage a fs p)
unfolding lacking
some_lacking a fs = (
  λ t.
      let (p, l) = some_page {P = Lacks a fs} (lacking_pages a fs) t (lacking_pages_lack a fs) in
      (p, l.below, ((names_page a p).0 l.named, (too_little (takes a) (frame_at fs p).right).0 l.right)),
  λ u.
      by_bool (lacking a fs)
      (λ t. t)
      (λ t. absurd (fails (lacks_page_lem a fs u.0) (lacks_no_page a fs t u.0 u.1) u.2)),
)

-- ==== 5

same_got_lem : (g h : CopyOrOwn) → Says (same_got g h) (g ≡ h)
unfolding same_got
same_got_lem GotCopy GotCopy = (λ e. refl, λ e. refl)
same_got_lem GotCopy GotOwn = says_absurd (λ e. never (cc))
same_got_lem GotOwn GotCopy = says_absurd (λ e. never (cc))
same_got_lem GotOwn GotOwn = (λ e. refl, λ e. refl)

-- a record of this kind is a got that the access needs, of page n or above; t is what is tested of the gots behind it
needs_got_lem : (a : Access) (fs : List Frame) (n : ℕ) (kind : Kind) (t : ℕ → Bool) {R : ℕ → Type 0} → ((p : ℕ) → Says (t p) (R p))
    → Says (needs_got a fs kind && (leb n (page_of kind) && t (page_of kind))) ((p : ℕ) × (kind ≡ Got (takes a) p) × LacksPage a fs p × (n ≤ p) × R p)
unfolding needs_got page_of
needs_got_lem a fs n (Got g q) t {R} d =
    says_iff
    (λ u. (q, let e : g ≡ takes a = u.0.0 in cc, u.0.1, u.1.0, u.1.1))
    (λ u.
    let e : Got g q ≡ Got (takes a) u.0 = u.1 in
    let i : u.0 ≡ q = cc in
    ((cc, rw (← i) u.2), (rw (← i) u.3, rw (← i) u.4)))
    (says_and (says_and (same_got_lem g (takes a)) (lacks_page_lem a fs q)) (says_and (says_le n q) (d q)))
needs_got_lem a fs n (Shown q) t d = says_absurd (λ u. let e : Shown q ≡ Got (takes a) u.0 = u.1 in never (cc))
needs_got_lem a fs n (Dropped q) t d = says_absurd (λ u. let e : Dropped q ≡ Got (takes a) u.0 = u.1 in never (cc))

needs_gots_lem : (a : Access) (fs : List Frame) (n : ℕ) (rs : List Record) → Says (needs_gots a fs n rs) (NeedsFrom a fs n rs)
unfolding needs_gots NeedsFrom
needs_gots_lem a fs n [] = (λ e. tt, λ u. refl)
needs_gots_lem a fs n (r ∷ rs) = needs_got_lem a fs n r.kind (λ p. needs_gots a fs (suc p) rs) (λ p. needs_gots_lem a fs (suc p) rs)

-- ---- which gots are due

pub by_kind : {X : Type 0} (kind : Kind) → ((g : CopyOrOwn) (p : ℕ) → kind ≡ Got g p → X) → ((p : ℕ) → kind ≡ Shown p → X)
    → ((p : ℕ) → kind ≡ Dropped p → X) → X
by_kind (Got g p) f h d = f g p refl
by_kind (Shown p) f h d = h p refl
by_kind (Dropped p) f h d = d p refl

-- the gots that the definitions find go together ..
record GotsIn (l : List Record) (n : ℕ) (rs : List Record) : Type 0 where
  behind : List Record
  next : l ≡ rs ++ behind
  group : Together n rs behind

gots_in : (l : List Record) (n : ℕ) → GotsIn l n (gots_due l n)
unfolding gots_due NoneDue
gots_in [] n = record { behind = []; next = refl; group = all tt }
gots_in (q ∷ qs) n =
    by_bool (eqb q.count n)
    (λ t.
    by_kind q.kind
    (λ g p f.
    let e : gots_due (q ∷ qs) n ≡ q ∷ gots_due qs 0 = cc in
    let rest : GotsIn qs 0 (gots_due qs 0) = gots_in qs 0 in
    rw e
    (record {
      behind = rest.behind;
      next = ap (λ (l : List Record). q ∷ l) rest.next;
      group = got (g, p, f) (eqb-true q.count n t) rest.group;
    }))
    (λ p f. no (cc) (λ u. let e : q.kind ≡ Got u.0.0 u.0.1 = u.0.2 in never (cc)))
    (λ p f. no (cc) (λ u. let e : q.kind ≡ Got u.0.0 u.0.1 = u.0.2 in never (cc))))
    (λ t. no (cc) (λ u. eqb-false q.count n t u.1))
  where
    no : gots_due (q ∷ qs) n ≡ [] → NoneDue n (q ∷ qs) → GotsIn (q ∷ qs) n (gots_due (q ∷ qs) n)
    no e d = rw e (record { behind = q ∷ qs; next = refl; group = all d })

-- .. and no others do
in_gots : (n : ℕ) (rs behind : List Record) → Together n rs behind → gots_due (rs ++ behind) n ≡ rs
unfolding gots_due NoneDue
in_gots n [] [] (all d) = refl
in_gots n [] (q ∷ qs) (all d) =
    by_bool (eqb q.count n)
    (λ t. by_kind q.kind (λ g p f. absurd (d ((g, p, f), eqb-true q.count n t))) (λ p f. cc) (λ p f. cc))
    (λ t. cc)
in_gots n (r ∷ rs) behind (got f c d) =
    let k : r.kind ≡ Got f.0 f.1 = f.2 in
    cc (eq-eqb r.count n c, in_gots 0 rs behind d)

-- the due gots of a board, as the definitions find them
pub due_found : (x : Board) → (behind : List Record) × Due x (due x) behind
unfolding due records_left
due_found x =
    let d = gots_in (drop x.working.place x.stable.selected.log) x.working.since in
    (d.behind, record { next = d.next; group = d.group })

pub due_same : (x : Board) (rs behind : List Record) → Due x rs behind → due x ≡ rs
unfolding due records_left
due_same x rs behind d = rw d.next (in_gots x.working.since rs behind d.group)

-- ---- what a board has once it took them

took_place : (rs : List Record) (w : Working) → (took_gots rs w).place ≡ w.place + length rs
unfolding took_gots took_got used
took_place [] w = omega arith
took_place (r ∷ rs) w = omega (arith, took_place rs (took_got r w))

took_length : (rs : List Record) (w : Working) → length (took_gots rs w).frames ≡ length w.frames
unfolding took_gots took_got used
took_length [] w = refl
took_length (r ∷ rs) w = took_length rs (took_got r w) ∙ length-set w.frames (page_of r.kind) _

-- a page is lacking after gots that fit exactly if it was before, and is none of theirs
took_right : (g : CopyOrOwn) (p : ℕ) (rs : List Record) (w : Working) → Each (λ r. ¬ TooLittle g (right_got r.kind)) rs → p < length w.frames
    → TooLittle g (frame_at (took_gots rs w).frames p).right
    ↔ (TooLittle g (frame_at w.frames p).right × (¬ Some (λ r. page_of r.kind ≡ p) rs))
unfolding took_gots took_got used Some
took_right g p [] w h l = (λ t. (t, λ s. s), λ u. u.0)
took_right g p (r ∷ rs) w h l =
    let q : ℕ = page_of r.kind in
    let f : Frame = record { right = right_got r.kind; bytes = r.bytes } in
    let i = took_right g p rs (took_got r w) (each_tail h) (rw length-set l) in
    by_eq q p
    (λ e.
    let same : frame_at (set w.frames q f) p ≡ f = rw e (frame_at_same w.frames p f l) in
    (λ t. absurd (each_head h (rw same at (i.0 t).0)), λ u. absurd (u.1 (inl e))))
    (λ ne.
    let other : frame_at (set w.frames q f) p ≡ frame_at w.frames p = frame_at_other w.frames q p f (λ e. ne (sym e)) in
    (λ t. (rw other at (i.0 t).0, λ s. elim s [ inl e ↦ ne e | inr o ↦ (i.0 t).1 o ]), λ u. i.1 (rw other u.0, λ s. u.1 (inr s))))

-- a got gives the right that its access lacks
got_enough : (g : CopyOrOwn) (p : ℕ) → ¬ TooLittle g (right_got (Got g p))
unfolding TooLittle right_got
got_enough GotCopy p e = never (cc)
got_enough GotOwn p h = h refl

needed_fit : (a : Access) (fs : List Frame) (n : ℕ) (rs : List Record) → NeedsFrom a fs n rs → Each (λ r. ¬ TooLittle (takes a) (right_got r.kind)) rs
unfolding NeedsFrom
needed_fit a fs n [] u = each_nil
needed_fit a fs n (r ∷ rs) u = each_cons {x = r} (rw u.1 (got_enough (takes a) u.0)) (needed_fit a fs (suc u.0) rs u.4)

no_more : {A : Type 0} (xs : List A) → length xs ≤ 0 → xs ≡ []
no_more [] h = refl
no_more (x ∷ xs) h = absurd (omega arith)

module _ (x : Board) (rs behind : List Record) (d : Due x rs behind) where
  -- the records that replay has left, counted
  left_count : length x.stable.selected.log - x.working.place ≡ length rs + length behind
  left_count =
      let e : length (drop x.working.place x.stable.selected.log) ≡ length (rs ++ behind) = ap length d.next in
      let f : length (drop x.working.place x.stable.selected.log) ≡ length x.stable.selected.log - x.working.place =
      length-drop x.working.place x.stable.selected.log in
      omega (arith, length-append rs behind)

  -- replay is over with the due gots where no record is behind them
  took_over : Says (replay_over (took_due x)) (behind ≡ [])
  unfolding replay_over took_due on_working
  took_over =
      let p : (took_gots (due x) x.working).place ≡ x.working.place + length rs = rw (due_same x rs behind d) (took_place rs x.working) in
      says_iff
      (λ l. no_more behind (omega (arith, left_count)))
      (λ e. let z : length behind ≡ 0 = ap length e in omega (arith, left_count))
      (says_le (length x.stable.selected.log) (took_gots (due x) x.working).place)

  -- the access lacks a page that none of the due gots brings
  abbrev OtherPage : Access → Type 0
  OtherPage a =
      (p : ℕ) × (p < length x.working.frames) × LacksPage a x.working.frames p × (¬ Some (λ r. page_of r.kind ≡ p) rs)

  other_page : (a : Access) → NeedsGots a x.working.frames rs → Says (lacking a (took_due x).working.frames) (OtherPage a)
  unfolding took_due on_working
  other_page a n =
      let w : Working = x.working in
      let fit = needed_fit a w.frames 0 rs n in
      rw (due_same x rs behind d)
      (says_iff
      (λ u.
      let l : u.0 < length w.frames = rw (took_length rs w) at u.1 in
      let t = (took_right (takes a) u.0 rs w fit l).0 u.2.1 in
      (u.0, l, (u.2.0, t.0), t.1))
      (λ u. (u.0, rw (took_length rs w) u.1, (u.2.0, (took_right (takes a) u.0 rs w fit u.1).1 (u.2.1, u.3))))
      (some_lacking a (took_gots rs w).frames))

  -- code 5's test, of the gots that are due
  differs_says : (a : Access) → Says (differs a x) ((¬ NeedsGots a x.working.frames rs) ⊎ ((behind ≢ []) × OtherPage a))
  unfolding differs
  differs_says a =
      let needs : Says (needs_gots a x.working.frames 0 (due x)) (NeedsGots a x.working.frames rs) =
      rw (due_same x rs behind d) (needs_gots_lem a x.working.frames 0 rs) in
      says_or_else
      (not (needs_gots a x.working.frames 0 (due x)))
      (not (replay_over (took_due x)) && lacking a (took_due x).working.frames)
      (says_no (needs_gots a x.working.frames 0 (due x)) needs)
      (λ t. says_and (says_no (replay_over (took_due x)) took_over) (other_page a (needs.0 (not-false _ t))))

pub replay_other : (a : Access) (x : Board) → Says (differs a x) (ReplayOther a x)
replay_other a x = (
  λ t. let (behind, d) = due_found x in (due x, behind, d, (differs_says x (due x) behind d a).0 t),
  λ u. (differs_says x u.0 u.1 u.2 a).1 u.3,
)

-- ---- where an access ends the replay

-- gots that the access needs are due, and are the last records
abbrev pub LastDue : Access → Board → Type 0
LastDue a x = (r : Record) × (rs : List Record) × Due x (r ∷ rs) [] × NeedsGots a x.working.frames (r ∷ rs)

last_found : (a : Access) (x : Board) (rs : List Record) → x.working.place < length x.stable.selected.log
    → Due x rs [] → ¬ ReplayOther a x → LastDue a x
last_found a x [] h d o = absurd (omega (arith, left_count x [] [] d))
last_found a x (r ∷ rs) h d o =
    let needs = needs_gots_lem a x.working.frames 0 (r ∷ rs) in
    by_bool (needs_gots a x.working.frames 0 (r ∷ rs))
    (λ t. (r, rs, d, needs.0 t))
    (λ t. absurd (o (r ∷ rs, [], d, inl (fails needs t))))

pub last_due : (a : Access) (x : Board) → x.working.place < length x.stable.selected.log → ¬ ReplayOther a x
    → Says (replay_over (took_due x)) (LastDue a x)
last_due a x h o = (
  λ t.
      let (behind, d) = due_found x in
      let e : behind ≡ [] = (took_over x (due x) behind d).0 t in
      last_found a x (due x) h (rw e at d) o,
  λ u. (took_over x (u.0 ∷ u.1) [] u.2).1 refl,
)
