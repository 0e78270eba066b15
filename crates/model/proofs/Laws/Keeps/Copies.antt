-- A read fetch of several pages: what the givers' part leaves, and what the copies find when they are taken together. Assumes nothing.
use Rattle.std.specs.Prelude.{◌≡◌, refl, false, eqb}
use Rattle.std.proofs.Common.{sym, ◌∙◌}
use Rattle.std.proofs.Math.Path.{ap}
use Prim.Native.Nat.{ℕ, suc, ◌+◌, ◌<◌}
use native.Mathlib.Omega.{arith}
use Rattle.std.proofs.Math.Option.{none}
use mathlib.Core.List.{List, [], ◌∷◌}
use Rattle.std.proofs.Math.ListN.{length, set, length-set, length-append}
use borrow.Author.Tests.{eqb-true, eq-eqb, ne_eqb}
use Rattle.words.specs.Bytes.{Each, each_nil, each_cons}
use Rattle.types.specs.declared.Right.TheVariants.{None, Copy}
use Rattle.types.specs.declared.Frame.{Frame}
use Rattle.types.specs.declared.CopyOrOwn.{CopyOrOwn}
use Rattle.types.specs.declared.CopyOrOwn.TheVariants.{GotCopy}
use Rattle.types.specs.declared.Kind.{Kind}
use Rattle.types.specs.declared.Kind.TheVariants.{Got, Shown}
use Rattle.types.specs.declared.State.TheVariants.{Up}
use Rattle.model.specs.Definitions.Parts.{zeros}
use Rattle.model.specs.Definitions.Layout.{page_size}
use Rattle.model.specs.Definitions.Bank.{Entry, Board, Bank, board_at, entry_at, frame_at, on_working, on_frames, entry_in}
use Rattle.model.specs.Definitions.WellFormed.{WellFormed}
use Rattle.model.specs.Definitions.Steps.{Run, step, appended, recorded, note, flush, with_frame, frame_of, giver, show, give_copy, show_all, give_copies}
use Rattle.model.specs.Definitions.Steps.{read_fetch}
use Rattle.model.specs.Definitions.Replay.{right_got}
use Rattle.model.specs.Definitions.Calls.{fetch_need}
use Rattle.model.specs.Clauses.{RoomFor, fetch_needs, CanFetch}
use Rattle.model.specs.Moves.{Secure, Gives}
use Rattle.model.proofs.Laws.Logic.{by_eq, by_bool, clash}
use Rattle.model.proofs.Laws.Lists.{each_head, each_tail, each_imp, each_both}
use Rattle.model.proofs.Laws.Below.{Rising, rising_each, listed}
use Rattle.model.proofs.Laws.Boards.{frame_at_same, frame_at_other, took_copy, directory_give_copy, board_at_give_copy_same}
use Rattle.model.proofs.Laws.Boards.{board_at_give_copy_other}
use Rattle.model.proofs.Laws.States.{SameStates}
use Rattle.model.proofs.Laws.Runs.{step_done, step_none, Changed, follows_none, follows_show_all, follows_step}
use Rattle.model.proofs.Laws.Runs.{sizes_on_board}
use Rattle.model.proofs.Laws.Runs.Stores.{FlushedWith, note_flush_changed, show_changed, flush_empties}
use Rattle.model.proofs.Laws.Keeps.Clauses.{fits, up_below}
use Rattle.model.proofs.Laws.Keeps.Rights.{or_cases, or_none}
use Rattle.model.proofs.Laws.Keeps.Givers.{giver_same, giver_right, giver_give_copy}
use Rattle.model.proofs.Laws.Keeps.Fetches.{room_noted, room_less, Taken}

-- ---- a giver after its part

-- a record noted and flushed leaves its board with all that it counted stable
pub note_flush_secure : (b : ℕ) (kind : Kind) (peer : ℕ) (bytes : Bank → List ℕ) (s : Run) → (board_at s.bank b).state ≡ Up
    → (flush b (step (λ k. note b kind peer (bytes k) k) s)).lost ≡ none → Secure (board_at (flush b (step (λ k. note b kind peer (bytes k) k) s)).bank b)
unfolding on_working recorded note
note_flush_secure b kind peer bytes s u e =
    let l : b < length s.bank.boards = up_below s.bank b u in
    let t : FlushedWith kind peer (bytes s.bank) (board_at s.bank b) (board_at (flush b (step (λ k. note b kind peer (bytes k) k) s)).bank b) =
    (note_flush_changed b kind peer bytes s e).this l in
    record {
      up = t.state ∙ u;
      since = t.since;
      volatile =
          flush_empties b (step (λ k. note b kind peer (bytes k) k) s)
          (rw (follows_step (λ k. note b kind peer (bytes k) k) s (sizes_on_board b _ s.bank)).sizes.boards l) e;
    }

pub show_secure : (o b p : ℕ) (s : Run) → (board_at s.bank o).state ≡ Up → (show o b p s).lost ≡ none → Secure (board_at (show o b p s).bank o)
unfolding show
show_secure o b p s u e = note_flush_secure o (Shown p) b (λ k. zeros page_size) s u e

-- the room that a giver's own record needs
pub room_giver : (b p : ℕ) (ps : List ℕ) (k : Bank) → CanFetch GotCopy b (p ∷ ps) k → RoomFor 1 (board_at k (giver GotCopy k p))
unfolding fetch_needs fetch_need
room_giver b p ps k c =
    let o : ℕ = giver GotCopy k p in
    let e : fetch_need GotCopy k b o p o ≡ 1 = cc (ne_eqb o b (each_head c.others), eq-eqb o o refl) in
    omega (arith, e, c.room o (up_below k o (each_head c.givers)))

-- ---- the givers' part, page by page

-- the same directory and states, the same needs
pub giver_kept : (k j : Bank) → j.directory ≡ k.directory → SameStates k j → (g : CopyOrOwn) (p : ℕ) → giver g j p ≡ giver g k p
unfolding entry_at
giver_kept k j e s g p = giver_same g k j p (ap (λ (d : List Entry). entry_in d p) e) s

needs_same : (k j : Bank) → j.directory ≡ k.directory → SameStates k j → (b : ℕ) (ps : List ℕ) (c : ℕ)
    → fetch_needs GotCopy j b ps c ≡ fetch_needs GotCopy k b ps c
unfolding fetch_needs fetch_need
needs_same k j e s b [] c = refl
needs_same k j e s b (p ∷ ps) c = cc (giver_kept k j e s GotCopy p, needs_same k j e s b ps c)

-- what a record noted and flushed doesn't touch: the reader, the states, the frames, who has all stable
pub record Shared (b : ℕ) (k j : Bank) : Type 0 where
  pub directory : j.directory ≡ k.directory
  pub boards : length j.boards ≡ length k.boards
  pub states : SameStates k j
  pub reader : board_at j b ≡ board_at k b
  pub frames : (c : ℕ) → (board_at j c).working.frames ≡ (board_at k c).working.frames
  pub secure : (c : ℕ) → Secure (board_at k c) → Secure (board_at j c)

shared_refl : (b : ℕ) (k : Bank) → Shared b k k
shared_refl b k = record { directory = refl; boards = refl; states = λ c. refl; reader = refl; frames = λ c. refl; secure = λ c s. s }

shared_trans : {b : ℕ} {k j i : Bank} → Shared b k j → Shared b j i → Shared b k i
shared_trans s t =
    record {
      directory = t.directory ∙ s.directory;
      boards = t.boards ∙ s.boards;
      states = λ c. t.states c ∙ s.states c;
      reader = t.reader ∙ s.reader;
      frames = λ c. t.frames c ∙ s.frames c;
      secure = λ c v. t.secure c (s.secure c v);
    }

-- the same givers
pub shared_giver : {b : ℕ} {k j : Bank} → Shared b k j → (g : CopyOrOwn) (p : ℕ) → giver g j p ≡ giver g k p
shared_giver {k = k} {j = j} s = giver_kept k j s.directory s.states

module _ (b p : ℕ) (ps : List ℕ) (s : Run) (c : CanFetch GotCopy b (p ∷ ps) s.bank) where
  abbrev o : ℕ
  o = giver GotCopy s.bank p

  abbrev u : Run
  u = show o b p s

  module _ (n : (show (giver GotCopy s.bank p) b p s).lost ≡ none) where
    changed : Changed o (FlushedWith (Shown p) b (zeros page_size)) s.bank u.bank
    changed = show_changed o b p s n

    flushed : FlushedWith (Shown p) b (zeros page_size) (board_at s.bank o) (board_at u.bank o)
    flushed = changed.this (up_below s.bank o (each_head c.givers))

    pub show_shared : Shared b s.bank u.bank
    unfolding on_working recorded
    show_shared =
        record {
          directory = changed.directory;
          boards = changed.boards;
          states = λ d. by_eq d o (λ i. rw i flushed.state) (λ i. ap (λ (x : Board). x.state) (changed.others d i));
          reader = changed.others b (λ i. each_head c.others (sym i));
          frames = λ d.
              by_eq d o (λ i. rw i flushed.frames) (λ i. ap (λ (x : Board). x.working.frames) (changed.others d i));
          secure = λ d v. by_eq d o (λ i. rw i (show_secure o b p s (each_head c.givers) n)) (λ i. rw (changed.others d i) v);
        }

    -- the pages behind it can still be fetched
    pub shown_can : CanFetch GotCopy b ps u.bank
    unfolding fetch_needs fetch_need on_working
    shown_can =
        let same : (q : ℕ) → giver GotCopy u.bank q ≡ giver GotCopy s.bank q = shared_giver show_shared GotCopy in
        record {
          pages = rw changed.directory (each_tail c.pages);
          taker = rw show_shared.reader c.taker;
          givers = each_imp ps (λ q v. rw (same q) (show_shared.states (giver GotCopy s.bank q) ∙ v)) (each_tail c.givers);
          others = each_imp ps (λ q v i. v (sym (same q) ∙ i)) (each_tail c.others);
          room =
              λ d l.
              let m : d < length s.bank.boards = rw changed.boards at l in
              let need : ℕ = fetch_needs GotCopy s.bank b ps d in
              let one : fetch_need GotCopy s.bank b o p o ≡ 1 = cc (ne_eqb o b (each_head c.others), eq-eqb o o refl) in
              let left : RoomFor (fetch_needs GotCopy s.bank b ps o + 1) (board_at s.bank o) =
              omega (arith, one, c.room o (up_below s.bank o (each_head c.givers))) in
              rw (needs_same s.bank u.bank changed.directory show_shared.states b ps d)
              (by_eq d o
              (λ i.
              rw i
              (room_noted (fetch_needs GotCopy s.bank b ps o) (Shown p) b (zeros page_size) (board_at s.bank o) (board_at u.bank o) flushed left))
              (λ i. rw (changed.others d i) (room_less (fetch_need GotCopy s.bank b o p d) need (board_at s.bank d) (c.room d m))));
        }

-- all givers' parts: the reader, the directory and the frames are as they were
pub show_all_shared : (b : ℕ) (ps : List ℕ) (s : Run) → CanFetch GotCopy b ps s.bank → (show_all b ps s).lost ≡ none
    → Shared b s.bank (show_all b ps s).bank
unfolding show_all
show_all_shared b [] s c n = shared_refl b s.bank
show_all_shared b (p ∷ ps) s c n =
    let u : Run = show (giver GotCopy s.bank p) b p s in
    let m : u.lost ≡ none = follows_none (follows_show_all b ps u) n in
    shared_trans (show_shared b p ps s c m) (show_all_shared b ps u (shown_can b p ps s c m) n)

-- .. and each giver has all that it counted stable
pub show_all_secure : (b : ℕ) (ps : List ℕ) (s : Run) → CanFetch GotCopy b ps s.bank → (show_all b ps s).lost ≡ none
    → Each (λ p. Secure (board_at (show_all b ps s).bank (giver GotCopy s.bank p))) ps
unfolding show_all
show_all_secure b [] s c n = each_nil
show_all_secure b (p ∷ ps) s c n =
    let o : ℕ = giver GotCopy s.bank p in
    let u : Run = show o b p s in
    let m : u.lost ≡ none = follows_none (follows_show_all b ps u) n in
    let t : Shared b s.bank u.bank = show_shared b p ps s c m in
    let can : CanFetch GotCopy b ps u.bank = shown_can b p ps s c m in
    each_cons
    ((show_all_shared b ps u can n).secure o (show_secure o b p s (each_head c.givers) m))
    (each_imp ps
    (λ q v. rw (← shared_giver t GotCopy q) v)
    (show_all_secure b ps u can n))

-- ---- the copies

-- what board b finds when it takes copies of pages: who gives can't lose what it wrote, b is up with room for their records and no right to any of them
pub record CanTake (b : ℕ) (ps : List ℕ) (k : Bank) : Type 0 where
  pub gives : Each (λ p. Gives (giver GotCopy k p) b p k) ps
  pub up : (board_at k b).state ≡ Up
  pub room : RoomFor (length ps) (board_at k b)
  pub rights : Each (λ p. (frame_of k b p).right ≡ None) ps
  pub frames : length (board_at k b).working.frames ≡ length k.directory

-- the reader's own needs
pub needs_reader : (k : Bank) (b : ℕ) (ps : List ℕ) → fetch_needs GotCopy k b ps b ≡ length ps
unfolding fetch_needs fetch_need
needs_reader k b [] = refl
needs_reader k b (p ∷ ps) =
    let e : fetch_need GotCopy k b (giver GotCopy k p) p b ≡ 1 = cc (eq-eqb b b refl) in
    omega (arith, e, needs_reader k b ps)

-- after the givers' part they can be taken
pub shown_take : (b : ℕ) (ps : List ℕ) (s : Run) → WellFormed s.bank → CanFetch GotCopy b ps s.bank
    → Each (λ p. (frame_of s.bank b p).right ≡ None) ps → (show_all b ps s).lost ≡ none → CanTake b ps (show_all b ps s).bank
unfolding frame_of giver
shown_take b ps s w c lack n =
    let j : Bank = (show_all b ps s).bank in
    let t : Shared b s.bank j = show_all_shared b ps s c n in
    let l : b < length s.bank.boards = up_below s.bank b c.taker in
    let same : (q : ℕ) → giver GotCopy j q ≡ giver GotCopy s.bank q = shared_giver t GotCopy in
    record {
      gives =
          each_imp ps
          (λ p v.
          record {
            page = rw t.directory v.0.0.0;
            right = rw (same p, t.frames (giver GotCopy s.bank p)) (giver_right w p v.0.0.0 GotCopy v.0.0.1);
            other = λ i. v.0.1 (sym (same p) ∙ i);
            secure = rw (same p) v.1;
          })
          (each_both (each_both (each_both c.pages c.givers) c.others) (show_all_secure b ps s c n));
      up = rw t.reader c.taker;
      room = rw (t.reader, ← needs_reader s.bank b ps) (c.room b l);
      rights = rw t.reader lack;
      frames = rw (t.reader, t.directory) (fits w b l).alone.fields.working.frames.count;
    }

module _ (b p : ℕ) (ps : List ℕ) (k : Bank) (c : CanTake b (p ∷ ps) k) (rise : Rising (suc p) ps) where
  abbrev from : ℕ
  from = giver GotCopy k p

  abbrev j : Bank
  j = give_copy (giver GotCopy k p) b p k

  pub reader_after : board_at j b ≡ took_copy from p (frame_of k from p).bytes (board_at k b)
  reader_after = board_at_give_copy_same from b p k (up_below k b c.up)

  -- the pages behind it can still be taken
  pub taken_take : CanTake b ps j
  unfolding took_copy with_frame on_working on_frames recorded appended frame_of giver entry_at
  taken_take =
      record {
        gives =
            each_imp ps
            (λ q v.
            let same : giver GotCopy j q ≡ giver GotCopy k q = giver_give_copy GotCopy from b p k q (λ i. absurd (omega (arith, v.1))) in
            let kept : board_at j (giver GotCopy k q) ≡ board_at k (giver GotCopy k q) =
            board_at_give_copy_other from b p k (giver GotCopy k q) v.0.other in
            record {
              page = rw (directory_give_copy from b p k) v.0.page;
              right = rw (same, kept) v.0.right;
              other = λ i. v.0.other (sym same ∙ i);
              secure = rw (same, kept) v.0.secure;
            })
            (each_both (each_tail c.gives) (rising_each (suc p) ps rise));
        up = rw reader_after c.up;
        room =
            rw reader_after
            (omega (
              arith,
              c.room,
              length-append (board_at k b).working.log
                  (record { count = (board_at k b).working.since; kind = Got GotCopy p; peer = from; bytes = (frame_of k from p).bytes } ∷ []),
            ));
        rights =
            rw reader_after
            (each_imp ps
            (λ q v.
            ap (λ (f : Frame). f.right)
            (frame_at_other (board_at k b).working.frames p q (record { right = Copy; bytes = (frame_of k from p).bytes }) (λ i. absurd (omega (arith, v.1))))
            ∙ v.0)
            (each_both (each_tail c.rights) (rising_each (suc p) ps rise)));
        frames =
            rw (reader_after, directory_give_copy from b p k)
            (length-set (board_at k b).working.frames p (record { right = Copy; bytes = (frame_of k from p).bytes }) ∙ c.frames);
      }

  -- the first copy taken, then the others
  then_taken : {y : Board} → Taken GotCopy ps (board_at j b) y → Taken GotCopy (p ∷ ps) (board_at k b) y
  unfolding took_copy with_frame on_working on_frames recorded right_got listed
  then_taken {y} t =
      let fs : List Frame = (board_at k b).working.frames in
      let f : Frame = record { right = Copy; bytes = (frame_of k from p).bytes } in
      let shown : (board_at j b).working.frames ≡ set fs p f = ap (λ (x : Board). x.working.frames) reader_after in
      let l : p < length fs = rw c.frames (each_head c.gives).page in
      record {
        state = t.state;
        number = t.number ∙ ap (λ (x : Board). x.working.number) reader_after;
        since = t.since;
        pages = t.pages ∙ (ap length shown ∙ length-set fs p f);
        right = λ q s.
            by_bool (listed q ps)
            (λ v. t.right q v)
            (λ v.
            let here : frame_at (set fs p f) q ≡ f =
            or_cases (eqb p q) (listed q ps) s (λ e. rw (← eqb-true p q e) (frame_at_same fs p f l)) (λ e. clash e v) in
            ap (λ (g : Frame). g.right) (t.kept q v ∙ (ap (λ (gs : List Frame). frame_at gs q) shown ∙ here)));
        kept = λ q s.
            let n : (eqb p q ≡ false) × (listed q ps ≡ false) = or_none (eqb p q) (listed q ps) s in
            t.kept q n.1 ∙ (ap (λ (gs : List Frame). frame_at gs q) shown ∙ frame_at_other fs p q f (λ e. clash (eq-eqb p q (sym e)) n.0));
      }

  pub reader_since : (board_at j b).working.since ≡ 0
  unfolding took_copy with_frame on_working on_frames recorded
  reader_since = rw reader_after

-- what the copies leave of a reader whose last record is just made ..
pub rest_taken : (b : ℕ) (n : ℕ) (ps : List ℕ) (k : Bank) → CanTake b ps k → Rising n ps → (board_at k b).working.since ≡ 0
    → Taken GotCopy ps (board_at k b) (board_at (give_copies b ps k) b)
unfolding give_copies Rising listed
rest_taken b n [] k c r z =
    record { state = c.up; number = refl; since = z; pages = refl; right = λ q s. clash s refl; kept = λ q s. refl }
rest_taken b n (p ∷ ps) k c r z =
    then_taken b p ps k c r.1
    (rest_taken b (suc p) ps (give_copy (giver GotCopy k p) b p k) (taken_take b p ps k c r.1) r.1 (reader_since b p ps k c r.1))

-- .. and of any reader, if there is a page
pub give_copies_taken : (b p : ℕ) (ps : List ℕ) (k : Bank) → CanTake b (p ∷ ps) k → Rising 0 (p ∷ ps)
    → Taken GotCopy (p ∷ ps) (board_at k b) (board_at (give_copies b (p ∷ ps) k) b)
unfolding give_copies Rising
give_copies_taken b p ps k c r =
    then_taken b p ps k c r.1
    (rest_taken b (suc p) ps (give_copy (giver GotCopy k p) b p k) (taken_take b p ps k c r.1) r.1 (reader_since b p ps k c r.1))

-- "Read fetch: ..", of each page in turn, and the reader after it
pub read_fetch_taken : (b p : ℕ) (ps : List ℕ) (s : Run) → WellFormed s.bank → CanFetch GotCopy b (p ∷ ps) s.bank
    → Each (λ q. (frame_of s.bank b q).right ≡ None) (p ∷ ps) → Rising 0 (p ∷ ps) → (read_fetch b (p ∷ ps) s).lost ≡ none
    → Taken GotCopy (p ∷ ps) (board_at s.bank b) (board_at (read_fetch b (p ∷ ps) s).bank b)
unfolding read_fetch
read_fetch_taken b p ps s w c lack r n =
    let u : Run = show_all b (p ∷ ps) s in
    let e : u.lost ≡ none = step_none (give_copies b (p ∷ ps)) u n in
    rw (step_done (give_copies b (p ∷ ps)) u n, ← (show_all_shared b (p ∷ ps) s c e).reader)
    (give_copies_taken b p ps u.bank (shown_take b (p ∷ ps) s w c lack e) r)
