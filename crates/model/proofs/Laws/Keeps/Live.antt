-- An access of an up board: what codes 6 and 7 let pass can be fetched, and the access finds its right. Assumes nothing.
use Rattle.std.specs.Prelude.{◌≡◌, refl, ◌≢◌, Bool, ◌&&◌, eqb}
use Rattle.std.proofs.Math.Path.{sym}
use Rattle.std.proofs.Common.{ap, ◌∙◌, arith}
use Prim.Native.Nat.{ℕ, ◌+◌, ◌≤◌, ◌<◌}
use Rattle.std.proofs.Math.Bool.{true, false}
use Rattle.std.proofs.Math.Option.{Option, none, some}
use mathlib.Core.List.{List, [], ◌∷◌}
use Rattle.std.proofs.Math.ListN.{length}
use borrow.Author.Tests.{eqb-true, eq-eqb, ltb-false}
use Rattle.types.specs.declared.Right.TheVariants.{None}
use Rattle.types.specs.declared.Frame.{Frame}
use Rattle.types.specs.declared.CopyOrOwn.{CopyOrOwn}
use Rattle.types.specs.declared.CopyOrOwn.TheVariants.{GotCopy, GotOwn}
use Rattle.types.specs.declared.State.TheVariants.{Up}
use Rattle.types.specs.declared.Answer.{Answer}
use Rattle.words.specs.Bytes.{Each}
use Rattle.model.specs.Definitions.Parts.{all_below, member, sum_over}
use Rattle.model.specs.Definitions.Layout.{slot_count}
use Rattle.model.specs.Definitions.Bank.{Board, Bank, board_at, entry_at, frame_at}
use Rattle.model.specs.Definitions.WellFormed.{WellFormed, right_in}
use Rattle.model.specs.Definitions.Steps.{Run, Access, Read, Write, ReadCells, cells_read, cells_written, any_cell, any_write, names, takes}
use Rattle.model.specs.Definitions.Steps.{lacks, lacks_page, lacking_pages, frame_of, giver, drop_copies, fetch}
use Rattle.model.specs.Definitions.Replay.{lacking}
use Rattle.model.specs.Definitions.Calls.{first_given, page_written, copies_out, fetch_need, drop_need, lacking_of, pages_lacking, page_need, need, short}
use Rattle.model.specs.Definitions.Calls.{short_board, is_some, nobody_gives, page_missing, live_refusals, prepared}
use Rattle.model.proofs.Laws.Logic.{cases, by_bool, clash, and_both, by_eq}
use Rattle.model.proofs.Laws.Lists.{first_below_none, each_head, each_tail, each_imp}
use Rattle.model.proofs.Laws.Below.{listed, Lacks, or_right, sum_below_part, sum_below_at, all_below_one, all_below_listed, lacks_no_page}
use Rattle.model.proofs.Laws.Below.{no_page_lacks, lacks_passes, passes_names, page_enough, page_same, has_right, lacking_pages_lack, lacking_pages_rise}
use Rattle.model.proofs.Laws.Boards.{dropped_if, board_at_drop_copies, right_in_copy, right_in_none}
use Rattle.model.proofs.Laws.Runs.{lost_not, step_done}
use Rattle.model.proofs.Laws.Keeps.Clauses.{up_below, up_not_down, fits}
use Rattle.model.specs.Clauses.{RoomFor, fetch_needs, CanFetch, CanAccess, Ready}
use Rattle.model.proofs.Laws.Keeps.Accesses.{takes_enough}
use Rattle.model.proofs.Laws.Keeps.Rights.{or_cases, entry_at_lem}
use Rattle.model.proofs.Laws.Keeps.Givers.{copy_none, giver_other, giver_up}
use Rattle.model.proofs.Laws.Keeps.Fetches.{Taken, write_fetch_taken}
use Rattle.model.proofs.Laws.Keeps.Copies.{read_fetch_taken}

-- ---- tests and what follows them

-- no test held: the first didn't, nor did the others
pub record NoneOf (t : Bool) (ts : List (Bool × Answer)) : Type 0 where
  pub here : t ≡ false
  pub rest : first_given ts ≡ none

pub first_of_none : (t : Bool) (a : Answer) (ts : List (Bool × Answer)) → first_given ((t, a) ∷ ts) ≡ none → NoneOf t ts
unfolding first_given
first_of_none true a ts h = lost_not h refl
first_of_none false a ts h = record { here = refl; rest = h }

-- the first test that holds has one of the answers
pub first_in : (P : Answer → Type 0) (ts : List (Bool × Answer)) (a : Answer) → Each (λ t. P t.1) ts → first_given ts ≡ some a → P a
unfolding first_given
first_in P [] a s e = let z : ◌≡◌ {A = ℕ} 0 1 = cc in absurd (omega arith)
first_in P (t ∷ ts) a s e =
    by_bool t.0
    (λ b. let i : t.1 ≡ a = cc in rw i at (each_head s))
    (λ b. first_in P ts a (each_tail s) (cc))

-- ---- what comes before it

never_own : {X : Type 0} → ◌≡◌ {A = CopyOrOwn} GotCopy GotOwn → X
never_own e = let z : ◌≡◌ {A = ℕ} 0 1 = cc in absurd (omega arith)

some_page : (ps : List ℕ) {qs : List ℕ} → qs ≡ ps → ◌≡◌ {A = Bool} (elim ps [ [] ↦ false | p ∷ rs ↦ true ]) true
    → (p : ℕ) × (rs : List ℕ) × (qs ≡ p ∷ rs)
some_page [] e h = clash h refl
some_page (p ∷ ps) e h = (p, ps, e)

-- the needs of fetched pages, added up
needs_sum : (g : CopyOrOwn) (k : Bank) (b c : ℕ) (ps : List ℕ) → fetch_needs g k b ps c ≡ sum_over (λ p. fetch_need g k b (giver g k p) p c) ps
unfolding fetch_needs sum_over
needs_sum g k b c [] = refl
needs_sum g k b c (p ∷ ps) = ap (λ (n : ℕ). fetch_need g k b (giver g k p) p c + n) (needs_sum g k b c ps)

-- what an access that writes takes, and the one page that it names
pub writes_own : (a : Access) (k : Bank) → copies_out a k ≡ true → takes a ≡ GotOwn
unfolding copies_out cells_written takes
writes_own (Read p o) k h = clash h refl
writes_own (Write p o v) k h = refl
writes_own (ReadCells cells out_length) k h = clash h refl

pub own_writes : (a : Access) → takes a ≡ GotOwn → any_write (cells_written a) (page_written a) ≡ true
unfolding takes page_written cells_written any_write
own_writes (Read p o) e = never_own e
own_writes (Write p o v) e = cc (eq-eqb p p refl)
own_writes (ReadCells cells out_length) e = never_own e

pub own_names : (a : Access) → takes a ≡ GotOwn → (q : ℕ) → names a q ≡ true → q ≡ page_written a
unfolding takes names page_written cells_read cells_written any_cell any_write
own_names (Read p o) e q t = never_own e
own_names (Write p o v) e q t = or_cases (eqb p q) false t (λ s. sym (eqb-true p q s)) (λ s. clash s refl)
own_names (ReadCells cells out_length) e q t = never_own e

pub named_written : (a : Access) (p : ℕ) → any_write (cells_written a) p ≡ true → names a p ≡ true
unfolding names
named_written a p t = or_right (any_cell (cells_read a) p) t

is_some_none : (o : Option ℕ) → is_some o ≡ false → o ≡ none
unfolding is_some
is_some_none none h = refl
is_some_none (some n) h = clash refl h

-- a lacking access has a first page that it lacks
pub lacking_some : (a : Access) (fs : List Frame) → lacking a fs ≡ true → (p : ℕ) × (ps : List ℕ) × (lacking_pages a fs ≡ p ∷ ps)
unfolding lacking
lacking_some a fs h = some_page (lacking_pages a fs) refl h

-- one that takes ownership lacks one page
pub lacking_own : (a : Access) (fs : List Frame) → takes a ≡ GotOwn → lacking a fs ≡ true → lacking_pages a fs ≡ page_written a ∷ []
unfolding lacking_pages
lacking_own a fs e h =
    let (p, ps, s) = lacking_some a fs h in
    let l : Lacks a fs p = each_head (rw s at (lacking_pages_lack a fs)) in
    let i : p ≡ page_written a = own_names a e p l.named in
    all_below_one (lacks_page a fs) (length fs) (page_written a)
    (rw (← i) (lacks_passes a fs p l))
    (λ q t. own_names a e q (passes_names a fs q t))
    (rw (← i) l.below)

-- after a fetch of what it lacks an access lacks nothing
pub taken_has : (a : Access) (x y : Board) → Taken (takes a) (lacking_pages a x.working.frames) x y → lacking a y.working.frames ≡ false
unfolding lacking_pages
taken_has a x y t =
    no_page_lacks a y.working.frames
    (λ p l.
    let m : p < length x.working.frames = rw t.pages at l in
    let listing : listed p (all_below (length x.working.frames) (lacks_page a x.working.frames)) ≡ lacks_page a x.working.frames p =
    all_below_listed (lacks_page a x.working.frames) (length x.working.frames) p m in
    by_bool (lacks_page a x.working.frames p)
    (λ s. page_enough a y.working.frames p (ap (lacks (takes a)) (t.right p (listing ∙ s)) ∙ takes_enough (takes a) p))
    (λ s. page_same a x.working.frames y.working.frames p (ap (λ (f : Frame). f.right) (t.kept p (listing ∙ s))) ∙ s))

-- what codes 6 and 7 tested
module _ (b : ℕ) (a : Access) (k : Bank) (w : WellFormed k) (can : CanAccess b a k) where
  abbrev fs : List Frame
  fs = (board_at k b).working.frames

  below : b < length k.boards
  below = up_below k b can.up

  pub frames_count : length (board_at k b).working.frames ≡ length k.directory
  frames_count = (fits w b below).alone.fields.working.frames.count

  -- who lacks a right doesn't give
  pub lacking_other : (p : ℕ) → Lacks a fs p → giver (takes a) k p ≢ b
  unfolding frame_of
  lacking_other p l = giver_other w p (rw frames_count at l.below) (takes a) b can.up l.right

  module _ (passed : first_given (live_refusals b a k) ≡ none) where
    gives_up : (p : ℕ) → Lacks a fs p → (board_at k (giver (takes a) k p)).state ≡ Up
    unfolding live_refusals page_missing
    gives_up p l =
        let i : p < length k.directory = rw frames_count at l.below in
        let none_missing : page_missing b a k ≡ none =
        is_some_none (page_missing b a k) (first_of_none (is_some (page_missing b a k)) _ _ passed).here in
        giver_up w p i (takes a)
        (by_bool (nobody_gives (takes a) k p)
        (λ t.
        clash (and_both (lacks_passes a fs p l) t)
        (first_below_none (length k.directory) p (λ q. lacks_page a fs q && nobody_gives (takes a) k q) none_missing i))
        (λ t. t))

    room_for : (c : ℕ) → c < length k.boards → RoomFor (need b a k c) (board_at k c)
    unfolding live_refusals short_board short
    room_for c l =
        let none_short : short_board b a k ≡ none =
        is_some_none (short_board b a k) (first_of_none (is_some (short_board b a k)) _ _ (first_of_none _ _ _ passed).rest).here in
        ltb-false slot_count _ (first_below_none (length k.boards) c (short b a k) none_short l)

    -- the needs of the pages that are fetched are part of all needs
    needs_part : (c : ℕ) → fetch_needs (takes a) k b (pages_lacking b a k) c ≤ need b a k c
    unfolding pages_lacking lacking_pages need page_need
    needs_part c =
        rw (frames_count, needs_sum (takes a) k b c (all_below (length k.directory) (lacks_page a fs)))
        (sum_below_part (lacks_page a fs) (λ p. fetch_need (takes a) k b (giver (takes a) k p) p c) (page_need b a k c) (length k.directory) (λ j t. cc))

    pub can_fetch : CanFetch (takes a) b (pages_lacking b a k) k
    unfolding pages_lacking
    can_fetch =
        let lack : Each (Lacks a fs) (lacking_pages a fs) = lacking_pages_lack a fs in
        record {
          pages = each_imp (lacking_pages a fs) (λ p l. rw frames_count at l.below) lack;
          taker = can.up;
          givers = each_imp (lacking_pages a fs) gives_up lack;
          others = each_imp (lacking_pages a fs) lacking_other lack;
          room = λ c l. omega (arith, needs_part c, room_for c l);
        }

    pub can_drop : lacking_of b a k ≡ false → copies_out a k ≡ true
        → (c : ℕ) → c < length k.boards → member c (entry_at k (page_written a)).copies ≡ true → RoomFor 1 (board_at k c)
    unfolding lacking_of need page_need drop_need
    can_drop t o c l m =
        let p : ℕ = page_written a in
        let v : any_write (cells_written a) p ≡ true = own_writes a (writes_own a k o) in
        let i : p < length k.directory = can.pages p (named_written a p v) in
        let has : lacks_page a fs p ≡ false = lacks_no_page a fs t p (rw frames_count i) in
        let e : page_need b a k c p ≡ 1 = cc in
        omega (arith, e, sum_below_at (page_need b a k c) (length k.directory) p i, room_for c l)

    -- a writer that has its right is the owner ..
    pub local_owner : lacking_of b a k ≡ false → takes a ≡ GotOwn → (entry_at k (page_written a)).owner ≡ b
    unfolding lacking_of lacks
    local_owner t own =
        let p : ℕ = page_written a in
        let named : names a p ≡ true = named_written a p (own_writes a own) in
        let i : p < length k.directory = can.pages p named in
        let right : (frame_at fs p).right ≡ right_in (entry_at k p) b = (w.boards b (up_below k b can.up)).rights can.up p i in
        let enough : lacks (takes a) (frame_at fs p).right ≡ false = has_right a fs t p (rw frames_count i) named in
        by_eq (entry_at k p).owner b (λ e. e)
        (λ n.
        by_bool (member b (entry_at k p).copies)
        (λ m. let z : lacks (takes a) (frame_at fs p).right ≡ true = rw (own, right, right_in_copy (entry_at k p) b n m) in clash z enough)
        (λ m. let z : lacks (takes a) (frame_at fs p).right ≡ true = rw (own, right, right_in_none (entry_at k p) b n m) in clash z enough))

    pub writer_owns : lacking_of b a k ≡ false → copies_out a k ≡ true → (entry_at k (page_written a)).owner ≡ b
    writer_owns t o = local_owner t (writes_own a k o)

    -- .. so it holds no copy
    pub writer_none : lacking_of b a k ≡ false → copies_out a k ≡ true → member b (entry_at k (page_written a)).copies ≡ false
    writer_none t o =
        let p : ℕ = page_written a in
        let i : p < length k.directory = can.pages p (named_written a p (own_writes a (writes_own a k o))) in
        rw (writer_owns t o) at (entry_at_lem w p i).owner_bit

-- ---- the whole

module _ (b : ℕ) (a : Access) (r : Run) (w : WellFormed r.bank) (can : CanAccess b a r.bank) where
  -- the right is there
  ready_now : lacking_of b a r.bank ≡ false → Ready a (board_at r.bank b)
  unfolding lacking_of
  ready_now t = record { power = λ e. up_not_down can.up e; since = can.since; number = can.number; right = t }

  module _ (passed : first_given (live_refusals b a r.bank) ≡ none) where
    abbrev k : Bank
    k = r.bank

    fetch_as : (g : CopyOrOwn) (ps : List ℕ) → takes a ≡ g → pages_lacking b a k ≡ ps → lacking_of b a k ≡ true → (fetch g b ps r).lost ≡ none
        → Taken g ps (board_at k b) (board_at (fetch g b ps r).bank b)
    unfolding fetch pages_lacking lacking_of frame_of
    fetch_as GotCopy ps e i t n =
        let (p, qs, s) = lacking_some a (board_at k b).working.frames t in
        let j : ps ≡ p ∷ qs = sym i ∙ s in
        let c : CanFetch GotCopy b (p ∷ qs) k = rw (e, s) at (can_fetch b a k w can passed) in
        let lack : Each (λ q. (frame_at (board_at k b).working.frames q).right ≡ None) (p ∷ qs) =
        each_imp (p ∷ qs) (λ q l. copy_none _ (ap (λ (g : CopyOrOwn). lacks g (frame_at (board_at k b).working.frames q).right) (sym e) ∙ l.right))
        (rw s at (lacking_pages_lack a (board_at k b).working.frames)) in
        rw j (read_fetch_taken b p qs r w c lack (rw s at (lacking_pages_rise a (board_at k b).working.frames)) (rw j at n))
    fetch_as GotOwn ps e i t n =
        let s : lacking_pages a (board_at k b).working.frames ≡ page_written a ∷ [] = lacking_own a (board_at k b).working.frames e t in
        let j : ps ≡ page_written a ∷ [] = sym i ∙ s in
        let c : CanFetch GotOwn b (page_written a ∷ []) k = rw (e, s) at (can_fetch b a k w can passed) in
        rw j (write_fetch_taken b (page_written a) r w c (rw j at n))

    -- what a fetch leaves of the board that lacks
    pub fetched_taken : lacking_of b a k ≡ true → (fetch (takes a) b (pages_lacking b a k) r).lost ≡ none
        → Taken (takes a) (pages_lacking b a k) (board_at k b) (board_at (fetch (takes a) b (pages_lacking b a k) r).bank b)
    fetched_taken t n = fetch_as (takes a) (pages_lacking b a k) refl refl t n

    -- after it the access finds its right
    pub prepared_ready : (prepared b a r).lost ≡ none → Ready a (board_at (prepared b a r).bank b)
    unfolding prepared pages_lacking dropped_if
    prepared_ready =
        let p : ℕ = page_written a in
        let P : Run → Type 0 = λ s. s.lost ≡ none → Ready a (board_at s.bank b) in
        cases P (lacking_of b a k)
        (λ t n.
        let u : Run = fetch (takes a) b (pages_lacking b a k) r in
        let y : Taken (takes a) (pages_lacking b a k) (board_at k b) (board_at u.bank b) = fetched_taken t n in
        record {
          power = λ e. up_not_down y.state e;
          since = rw y.since (omega arith);
          number = rw y.number can.number;
          right = taken_has a (board_at k b) (board_at u.bank b) y;
        })
        (λ t.
        cases P (copies_out a k)
        (λ o n.
        let e : board_at (drop_copies b p k) b ≡ board_at k b = cc (board_at_drop_copies b p k b (up_below k b can.up), writer_none b a k w can passed t o) in
        rw (step_done (drop_copies b p) r n, e) (ready_now t))
        (λ o n. ready_now t))
