-- A live access keeps the invariant: the board has the right, so its frame holds the page's memory, and a write finds no copy out.
-- Assumes nothing.
use Rattle.std.proofs.Math.Path.{◌≡◌, refl, sym}
use Rattle.std.proofs.Common.{ap, subst, ◌∙◌, eqb-true, eq-eqb, ne_eqb}
use Rattle.std.specs.Prelude.{◌≢◌, ℕ, ◌+◌, ◌≤◌, ◌<◌, false, eqb}
use Rattle.std.proofs.Math.Logic.{⊎_elim}
use native.Mathlib.Omega.{arith}
use Rattle.std.proofs.Math.Bool.{true}
use Rattle.std.proofs.Math.Option.{Option, none}
use mathlib.Core.List.{List, [], ◌∷◌, ◌++◌, map}
use Rattle.std.proofs.Math.ListN.{length, length-append}
use Rattle.words.specs.Bytes.{Each, each_nil, each_cons}
use Rattle.types.specs.declared.CopyOrOwn.{CopyOrOwn}
use Rattle.types.specs.declared.CopyOrOwn.TheVariants.{GotCopy, GotOwn}
use Rattle.types.specs.declared.Right.{Right}
use Rattle.types.specs.declared.Right.TheVariants.{None, Copy, Own}
use Rattle.types.specs.declared.Frame.{Frame}
use Rattle.types.specs.declared.State.TheVariants.{Up}
use Rattle.model.specs.Definitions.Parts.{member}
use Rattle.model.specs.Definitions.Bank.{Entry, Board, Bank, board_at, frame_at, on_board, on_working, entry_in}
use Rattle.model.specs.Definitions.WellFormed.{WellFormed, right_in}
use Rattle.model.specs.Definitions.Steps.{Access, cells_read, cells_written, any_cell, any_write, names, takes, lacks, with_bytes, read_from, accessed, access}
use Rattle.model.specs.Definitions.Replay.{lacking, recovery_point}
use Rattle.model.proofs.Laws.Logic.{by_bool, by_eq, clash}
use Rattle.model.proofs.Laws.Lists.{each_append}
use Rattle.model.proofs.Laws.Below.{has_right}
use Rattle.model.proofs.Laws.Sets.{member_none}
use Rattle.model.proofs.Laws.Boards.{boards_on_board, directory_on_board, board_at_same, board_at_other}
use Rattle.model.proofs.Laws.Keeps.Clauses.{fits}
use Rattle.model.proofs.Laws.Keeps.Rights.{right_from}
use Rattle.model.specs.Clauses.{Fits}
use Rattle.model.specs.History.Statement.{HistoryEntry, History, of_board, discard, zero_memory, byte_in, with_number_of}
use Rattle.history.specs.Rerun.{Rebuilt, Made, next, Accepts, Serves}
use Rattle.history.specs.Invariant.{memory_after, writes_page, touches_page, unstable_write, settled_as, BoardInvariant, Invariant}
use Rattle.history.specs.Entries.{of_board_snoc_same, of_board_snoc_other, discard_snoc_same, discard_snoc_other}
use Rattle.history.specs.Unstable.{or_true_right, writes_own, unstable_write_snoc_other, unstable_write_snoc, exclusive_snoc}
use Rattle.history.specs.Memory.{memory_after_snoc, memory_after_snoc_unless, one_memory_snoc}
use Rattle.history.specs.Pages.{frame_at_with_bytes, reads_agree}
use Rattle.history.specs.Logging.{recovery_point_same, on_working_area, more_rebuilt, more_stable, accessed_volatile}
use Rattle.history.specs.LoggedRecords.{explained_up, up_explained, counts_up, up_counts, owner_frame}

-- the entry that an access of board b makes where its frames are fs
unfoldable pub entry_of : ℕ → Access → List Frame → HistoryEntry
entry_of b a fs = record { board = b; access = a; bytes_read = read_from a fs }

-- the history with one entry more
unfoldable pub grown : ℕ → HistoryEntry → History → History
grown b e h = record { entries = h.entries ++ (e ∷ []); cursor = with_number_of b (h.cursor b + 1) h.cursor }

pub cursor_same : (b n : ℕ) (f : ℕ → ℕ) → with_number_of b n f b ≡ n
unfolding with_number_of
cursor_same b n f = cc (eq-eqb b b refl)

pub cursor_other : (b n : ℕ) (f : ℕ → ℕ) (c : ℕ) → c ≢ b → with_number_of b n f c ≡ f c
unfolding with_number_of
cursor_other b n f c h = cc (ne_eqb c b h)

-- ---- what a board has of a page

-- an access that lacks nothing has a right, and a write the right own
some_right : (g : CopyOrOwn) (r : Right) → lacks g r ≡ false → r ≢ None
unfolding lacks
some_right GotCopy None h e = clash refl h
some_right GotCopy Copy h e = let z : ◌≡◌ {A = ℕ} 0 1 = cc in omega arith
some_right GotCopy Own h e = let z : ◌≡◌ {A = ℕ} 0 1 = cc in omega arith
some_right GotOwn None h e = clash refl h
some_right GotOwn Copy h e = clash refl h
some_right GotOwn Own h e = let z : ◌≡◌ {A = ℕ} 0 1 = cc in omega arith

right_own : (r : Right) → lacks GotOwn r ≡ false → r ≡ Own
unfolding lacks
right_own None h = clash refl h
right_own Copy h = clash refl h
right_own Own h = refl

own_from : (e : Entry) (b : ℕ) → right_in e b ≡ Own → e.owner ≡ b
unfolding right_in
own_from e b h =
    by_bool (eqb e.owner b)
    (λ t. eqb-true e.owner b t)
    (λ t.
    by_bool (member b e.copies)
    (λ m. let z : ◌≡◌ {A = ℕ} 0 1 = cc in absurd (omega arith))
    (λ m. let z : ◌≡◌ {A = ℕ} 0 1 = cc in absurd (omega arith)))

-- an up board with a right on a page has the page's memory there
module _ {d : List Entry} {h : History} {g : Option Rebuilt} {b : ℕ} {x : Board} (q : BoardInvariant d h g b x) (w : Fits d b x) (u : x.state ≡ Up)
    (p : ℕ) (j : p < length d) where
  pub right_frame : (frame_at x.working.frames p).right ≢ None → (frame_at x.working.frames p).bytes ≡ memory_after zero_memory h.entries p
  right_frame r =
      let s : (frame_at x.working.frames p).right ≡ right_in (entry_in d p) b = w.agreed.rights u p j in
      ⊎_elim
      (λ o. ap (λ (f : Frame). f.bytes) (owner_frame q u p j w.alone.fields.selected.frames.count o))
      (λ m. q.copies p j m)
      (right_from (entry_in d p) b (λ e. r (s ∙ e)))

-- ---- the access

-- The guards of a live access of board b, which is `x`: it lacks no right; a page that it writes has no copy out; the gots that are pending are this access's.
pub record MayAccess (d : List Entry) (g : Option Rebuilt) (b : ℕ) (a : Access) (x : Board) : Type 0 where
  pub up : x.state ≡ Up
  pub pages : (p : ℕ) → names a p ≡ true → p < length d
  pub has : lacking a x.working.frames ≡ false
  pub alone : (e : HistoryEntry) (p : ℕ) → e.access ≡ a → writes_page e p ≡ true → (entry_in d p).copies ≡ 0
  pub shows : (settled_as g x).frames ≡ x.working.frames
  pub fits : Each (λ r. Serves a r.kind) (settled_as g x).pending

module _ {d : List Entry} {h : History} {g : Option Rebuilt} {b : ℕ} {x : Board} {a : Access} (q : BoardInvariant d h g b x) (w : Fits d b x)
    (m : MayAccess d g b a x) where
  -- a page that the access names is not lacked
  enough : (p : ℕ) → names a p ≡ true → lacks (takes a) (frame_at x.working.frames p).right ≡ false
  enough p n = has_right a x.working.frames m.has p (rw w.alone.fields.working.frames.count (m.pages p n)) n

  right_named : (p : ℕ) → names a p ≡ true → (frame_at x.working.frames p).right ≢ None
  right_named p n = some_right (takes a) (frame_at x.working.frames p).right (enough p n)

  -- a page that the access writes is the board's
  written_owned : (p : ℕ) → writes_page (entry_of b a x.working.frames) p ≡ true → (entry_in d p).owner ≡ b
  unfolding entry_of writes_page names
  written_owned p t =
      let n : names a p ≡ true = or_true_right (any_cell (cells_read a) p) (any_write (cells_written a) p) t in
      let o : (frame_at x.working.frames p).right ≡ Own =
      right_own (frame_at x.working.frames p).right
      (ap (λ (g : CopyOrOwn). lacks g (frame_at x.working.frames p).right) (sym (writes_own a p t).0) ∙ enough p n) in
      own_from (entry_in d p) b (sym (w.agreed.rights m.up p (m.pages p n)) ∙ o)

  accepts : Accepts (settled_as g x) (Made (entry_of b a x.working.frames))
  unfolding Accepts entry_of read_from
  accepts = (m.fits, rw m.shows m.has, rw m.shows refl)

  -- the frame of a page after the access holds the memory after its entry
  frame_after : (p : ℕ) → p < length d → (frame_at x.working.frames p).bytes ≡ memory_after zero_memory h.entries p
      → (frame_at (with_bytes (cells_written a) x.working.frames) p).bytes
      ≡ memory_after zero_memory (h.entries ++ (entry_of b a x.working.frames ∷ [])) p
  unfolding entry_of
  frame_after p j f =
      rw (
        memory_after_snoc zero_memory h.entries (entry_of b a x.working.frames),
        frame_at_with_bytes (cells_written a) x.working.frames (memory_after zero_memory h.entries) p
            (rw w.alone.fields.working.frames.count j) (sym f),
      )

  shown_after : next (Made (entry_of b a x.working.frames)) (settled_as g x) ≡ settled_as none (on_working (accessed a) x)
  unfolding next entry_of on_working accessed settled_as
  shown_after = rw m.shows

  pub access_this : BoardInvariant d (grown b (entry_of b a x.working.frames) h) none b (on_working (accessed a) x)
  unfolding grown entry_of on_working accessed settled_as
  access_this =
      let y : Board = on_working (accessed a) x in
      let n : HistoryEntry = entry_of b a x.working.frames in
      let es : List HistoryEntry = of_board b h.entries in
      let own : of_board b (h.entries ++ (n ∷ [])) ≡ es ++ (n ∷ []) = of_board_snoc_same b h.entries n refl in
      let point : recovery_point y ≡ recovery_point x = recovery_point_same x y (on_working_area (accessed a) x) in
      let reached : recovery_point x ≤ length es = q.stable.reached in
      let len : length (es ++ (n ∷ [])) ≡ length es + 1 = length-append es (n ∷ []) in
      let c : (h.cursor b ≡ length es) × (x.working.number ≡ length es) = counts_up q m.up in
      record {
        counts =
            rw (own, cursor_same b (h.cursor b + 1) h.cursor)
            (up_counts y (es ++ (n ∷ [])) (h.cursor b + 1) m.up (omega arith, omega arith));
        stable = rw own (more_stable (accessed a) x es (n ∷ []) reached q.stable);
        explained = rw own (up_explained none y (es ++ (n ∷ [])) m.up
            (rw shown_after at (accessed_volatile x es (settled_as g x) (explained_up q m.up) a n accepts)));
        ahead = λ p t j v f. let z : ◌≡◌ {A = ℕ} 0 1 = cc in absurd (omega arith);
        copies = λ p j k. frame_after p j (q.copies p j k);
        owned = λ p j o. rw (own, more_rebuilt (accessed a) x es (n ∷ []) reached, point, discard_snoc_same b (recovery_point x) h.entries n refl reached)
            (q.owned p j o);
        exclusive = λ p. rw point (exclusive_snoc b (recovery_point x) p h.entries n (q.exclusive p) (λ v t. refl));
        unstable = λ p j v.
            ⊎_elim
            (λ k. q.unstable p j k)
            (λ k. (written_owned p k.1, m.alone n p refl k.1))
            (unstable_write_snoc b (recovery_point x) p h.entries n reached (rw point at v));
        volatile = q.volatile;
      }

  -- ---- another board

  module _ {c : ℕ} {y : Board} (n : c ≢ b) (g' : Option Rebuilt) (r : BoardInvariant d h g' c y) where
    -- a page that the access touches is not one that board c wrote past its recovery point: the accessing board has a right there
    untouched : (p : ℕ) → unstable_write c (recovery_point y) p h.entries ≡ true → touches_page (entry_of b a x.working.frames) p ≡ true → b ≡ c
    unfolding entry_of touches_page
    untouched p u t =
        let j : p < length d = m.pages p t in
        let v : ((entry_in d p).owner ≡ c) × ((entry_in d p).copies ≡ 0) = r.unstable p j u in
        ⊎_elim
        (λ o. sym o ∙ v.0)
        (λ k. clash k (rw v.1 (member_none b)))
        (right_from (entry_in d p) b (λ e. right_named p t (w.agreed.rights m.up p j ∙ e)))

    unwritten_owned : (p : ℕ) → (entry_in d p).owner ≡ c → writes_page (entry_of b a x.working.frames) p ≡ false
    unwritten_owned p o =
        by_bool (writes_page (entry_of b a x.working.frames) p) (λ t. absurd (n (sym o ∙ written_owned p t))) (λ t. t)

    unwritten_held : (p : ℕ) → member c (entry_in d p).copies ≡ true → writes_page (entry_of b a x.working.frames) p ≡ false
    unfolding entry_of
    unwritten_held p k =
        by_bool (writes_page (entry_of b a x.working.frames) p)
        (λ t. clash k (rw (m.alone (entry_of b a x.working.frames) p refl t) (member_none c)))
        (λ t. t)

    pub access_other : BoardInvariant d (grown b (entry_of b a x.working.frames) h) g' c y
    unfolding grown entry_of
    access_other =
        let e : HistoryEntry = entry_of b a x.working.frames in
        let no : e.board ≢ c = λ s. n (sym s) in
        let own : of_board c (h.entries ++ (e ∷ [])) ≡ of_board c h.entries = of_board_snoc_other c h.entries e no in
        record {
          counts = rw (own, cursor_other b (h.cursor b + 1) h.cursor c n) r.counts;
          stable = rw own r.stable;
          explained = rw own r.explained;
          ahead = r.ahead;
          copies = λ p j k. r.copies p j k ∙ sym (memory_after_snoc_unless zero_memory h.entries e p (unwritten_held p k));
          owned = λ p j o.
              rw (
                own,
                discard_snoc_other c (recovery_point y) h.entries e no,
                memory_after_snoc_unless zero_memory (discard c (recovery_point y) h.entries) e p (unwritten_owned p o),
              )
              (r.owned p j o);
          exclusive = λ p. exclusive_snoc c (recovery_point y) p h.entries e (r.exclusive p) (λ u t. untouched p u t);
          unstable = λ p j u. r.unstable p j (rw (unstable_write_snoc_other c (recovery_point y) p h.entries e no) at u);
          volatile = r.volatile;
        }

-- ---- the bank

-- the bytes read are the memory's
read_memory : (b : ℕ) (a : Access) (k : Bank) {g : ℕ → Option Rebuilt} {h : History} → Invariant g k h → b < length k.boards
    → MayAccess k.directory (g b) b a (board_at k b)
    → read_from a (board_at k b).working.frames ≡ map (byte_in (memory_after zero_memory h.entries)) (cells_read a)
unfolding read_from
read_memory b a k {h = h} q i m =
    let fs : List Frame = (board_at k b).working.frames in
    let t : Fits k.directory b (board_at k b) = fits q.formed b i in
    reads_agree a fs (memory_after zero_memory h.entries)
    (λ p n. sym (right_frame (q.boards b i) t m.up p (m.pages p n) (right_named (q.boards b i) t m p n)))

-- A live access of board b. What was ahead of its frames, a got that this access takes, is no longer.
pub access_invariant : (b : ℕ) (a : Access) (k : Bank) {g g' : ℕ → Option Rebuilt} {h : History} → Invariant g k h → b < length k.boards
    → MayAccess k.directory (g b) b a (board_at k b)
    → WellFormed (access b a k)
    → ((c : ℕ) → c ≢ b → g' c ≡ g c)
    → g' b ≡ none
    → Invariant g' (access b a k) (grown b (entry_of b a (board_at k b).working.frames) h)
unfolding access grown entry_of
access_invariant b a k {g} {g'} {h} q i m w same here =
    let x : Board = board_at k b in
    let e : HistoryEntry = entry_of b a x.working.frames in
    let f : Board → Board = on_working (accessed a) in
    let t : Fits k.directory b x = fits q.formed b i in
    record {
      formed = w;
      memory = one_memory_snoc zero_memory h.entries e q.memory (read_memory b a k q i m);
      known = rw (boards_on_board b f k) (each_append h.entries (e ∷ []) q.known (each_cons i each_nil));
      boards = λ c l.
          let j : c < length k.boards = rw (boards_on_board b f k) at l in
          subst (λ (d : List Entry). BoardInvariant d (grown b e h) (g' c) c (board_at (on_board b f k) c)) (sym (directory_on_board b f k))
          (by_eq c b
          (λ s. rw s (rw (board_at_same b f k i, here) (access_this (q.boards b i) t m)))
          (λ n. rw (board_at_other b f k c n, same c n) (access_other (q.boards b i) t m n (g c) (q.boards c j))));
    }
