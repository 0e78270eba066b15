-- One board where the directory's entry of a page changes, where its frame of a page does, where it drops a page and where it logs a got; and when no
-- write on a page is unstable. Assumes nothing.
use Rattle.std.proofs.Math.Path.{◌≡◌, refl}
use Rattle.std.proofs.Common.{sym, subst, arith, eq-eqb, ne_eqb}
use Rattle.std.specs.Prelude.{◌≢◌, ℕ, ◌<◌, true, false, length, set}
use Rattle.std.proofs.Math.Option.{Option, none, some}
use mathlib.Core.List.{List, [], ◌∷◌}
use Rattle.words.specs.Bytes.{Each, each_nil, each_cons}
use Rattle.types.specs.declared.Right.TheVariants.{Own}
use Rattle.types.specs.declared.Frame.{Frame}
use Rattle.types.specs.declared.CopyOrOwn.{CopyOrOwn}
use Rattle.types.specs.declared.Kind.TheVariants.{Got, Dropped}
use Rattle.types.specs.declared.Record.{Record}
use Rattle.types.specs.declared.State.TheVariants.{Up}
use Rattle.model.specs.Definitions.Parts.{zeros, update, member}
use Rattle.model.specs.Definitions.Layout.{page_size}
use Rattle.model.specs.Definitions.Bank.{Entry, Board, Bank, empty_frame, board_at, entry_at, frame_at, on_working, on_frames, no_entry, entry_in}
use Rattle.model.specs.Definitions.Codec.{page_of}
use Rattle.model.specs.Definitions.WellFormed.{WellFormed}
use Rattle.model.specs.Definitions.Steps.{recorded, with_frame, dropped}
use Rattle.model.specs.Definitions.Replay.{recovery_point}
use Rattle.model.proofs.Laws.Logic.{by_bool, by_option, by_eq, clash}
use Rattle.model.proofs.Laws.Lists.{each_head, each_tail, each_imp, length_update, get_d_update_same}
use Rattle.model.proofs.Laws.Sets.{member_none}
use Rattle.model.proofs.Laws.Boards.{frame_at_same, frame_at_other}
use Rattle.model.proofs.Laws.Keeps.Rights.{entry_in_same, entry_in_other}
use Rattle.model.specs.History.Statement.{HistoryEntry, History, of_board, discard, zero_memory}
use Rattle.history.specs.Rerun.{Rebuilt, Logged, logged, next, Joins, Accepts, MayLog, rebuilt}
use Rattle.history.specs.Invariant.{memory_after, unstable_write, settled_as, is_shown, BoardInvariant, Invariant, only_of}
use Rattle.history.specs.Pages.{frame_at_logged}
use Rattle.history.specs.Logging.{recovery_point_same, rebuilt_same, stable_same, volatile_same, new_record}
use Rattle.history.specs.LoggedRecords.{explained_up, up_explained, counts_up, up_counts, recorded_holds}

-- ---- the entry of one page changes

-- What the invariant says of board b and page p alone, where `e` is the page's entry in the directory.
pub record HoldsOn (e : Entry) (h : History) (g : Option Rebuilt) (b : ℕ) (x : Board) (p : ℕ) : Type 0 where
  pub ahead : (t : Rebuilt) → x.state ≡ Up → g ≡ some t → e.owner ≡ b → frame_at t.frames p ≡ frame_at x.working.frames p
  pub copies : member b e.copies ≡ true → (frame_at x.working.frames p).bytes ≡ memory_after zero_memory h.entries p
  pub owned : e.owner ≡ b
      → frame_at (rebuilt x (of_board b h.entries)).frames p
      ≡ record { right = Own; bytes = memory_after zero_memory (discard b (recovery_point x) h.entries) p }
  pub unstable : unstable_write b (recovery_point x) p h.entries ≡ true → (e.owner ≡ b) × (e.copies ≡ 0)
  pub volatile : Each (λ r. page_of r.kind ≡ p → e.owner ≡ b → is_shown r.kind ≡ true) x.working.log

-- what holds of each element twice
each_both : {A : Type 0} {P Q R : A → Type 0} (xs : List A) → ((x : A) → P x → Q x → R x) → Each P xs → Each Q xs → Each R xs
each_both [] f p q = each_nil
each_both (x ∷ xs) f p q = each_cons (f x (each_head p) (each_head q)) (each_both xs f (each_tail p) (each_tail q))

module _ {d : List Entry} {h : History} {g : Option Rebuilt} {b : ℕ} {x : Board} (q : BoardInvariant d h g b x) (p : ℕ) (l : p < length d) where
  -- an entry that gives the board no more than the old one did, and takes nothing that an unstable write of the board rests on
  pub kept_on : (e : Entry) → (e.owner ≡ b → (entry_in d p).owner ≡ b)
      → (member b e.copies ≡ true → member b (entry_in d p).copies ≡ true)
      → (unstable_write b (recovery_point x) p h.entries ≡ true → (entry_in d p).owner ≡ b → (entry_in d p).copies ≡ 0 → (e.owner ≡ b) × (e.copies ≡ 0))
      → HoldsOn e h g b x p
  kept_on e owner copies unstable =
      record {
        ahead = λ t u s o. q.ahead p t l u s (owner o);
        copies = λ m. q.copies p l (copies m);
        owned = λ o. q.owned p l (owner o);
        unstable = λ u. unstable u (q.unstable p l u).0 (q.unstable p l u).1;
        volatile = each_imp x.working.log (λ r f i o. f (rw i (owner o))) q.volatile;
      }

  module _ (f : Entry → Entry) where
    in_range : (c : ℕ) → c < length (update p f d) → c < length d
    in_range c j = rw (length_update p f d) at j

    -- what holds of the page under its new entry is given, what holds of the others stands
    pub entry_holds : HoldsOn (f (entry_in d p)) h g b x p → BoardInvariant (update p f d) h g b x
    entry_holds on =
        record {
          counts = q.counts;
          stable = q.stable;
          explained = q.explained;
          ahead = λ c t j u s.
              by_eq c p
              (λ i. rw (i, entry_in_same d p f l) (on.ahead t u s))
              (λ n. rw (entry_in_other d p f c n) (q.ahead c t (in_range c j) u s));
          copies = λ c j.
              by_eq c p
              (λ i. rw (i, entry_in_same d p f l) on.copies)
              (λ n. rw (entry_in_other d p f c n) (q.copies c (in_range c j)));
          owned = λ c j.
              by_eq c p
              (λ i. rw (i, entry_in_same d p f l) on.owned)
              (λ n. rw (entry_in_other d p f c n) (q.owned c (in_range c j)));
          exclusive = q.exclusive;
          unstable = λ c j.
              by_eq c p
              (λ i. rw (i, entry_in_same d p f l) on.unstable)
              (λ n. rw (entry_in_other d p f c n) (q.unstable c (in_range c j)));
          volatile =
              each_both x.working.log
              (λ r s t.
              by_eq (page_of r.kind) p
              (λ i. rw (i, entry_in_same d p f l) (t i))
              (λ n. rw (entry_in_other d p f (page_of r.kind) n) s))
              q.volatile on.volatile;
        }

-- ---- the frame of one page changes

module _ {d : List Entry} {h : History} {t : Rebuilt} {b : ℕ} {x : Board} (q : BoardInvariant d h (some t) b x) (u : x.state ≡ Up) where
  -- The log explains `t`, whatever the frames show: any frame may stand where the board owns no page and holds no copy.
  pub framed_holds : (p : ℕ) (f : Frame) → p < length d → length x.working.frames ≡ length d
      → ((entry_in d p).owner ≡ b → frame_at t.frames p ≡ f)
      → (member b (entry_in d p).copies ≡ true → f.bytes ≡ memory_after zero_memory h.entries p)
      → BoardInvariant d h (some t) b (with_frame p f x)
  unfolding with_frame on_working on_frames settled_as
  framed_holds p f l s owner copies =
      let y : Board = with_frame p f x in
      let es : List HistoryEntry = of_board b h.entries in
      let here : frame_at (set x.working.frames p f) p ≡ f = frame_at_same x.working.frames p f (rw s l) in
      let same : rebuilt y es ≡ rebuilt x es = rebuilt_same x y refl es es refl in
      let point : recovery_point y ≡ recovery_point x = recovery_point_same x y refl in
      record {
        counts = up_counts y es (h.cursor b) u (counts_up q u);
        stable = stable_same x y refl es es refl q.stable.reached q.stable;
        explained = up_explained (some t) y es u (volatile_same x y es t refl refl refl (explained_up q u));
        ahead = λ c r j v e o.
            by_eq c p
            (λ i. cc (owner (rw i at o)))
            (λ n. cc (q.ahead c t j u refl o, frame_at_other x.working.frames p c f n));
        copies = λ c j m.
            by_eq c p
            (λ i. cc (copies (rw i at m)))
            (λ n. rw (frame_at_other x.working.frames p c f n) (q.copies c j m));
        owned = λ c j o. rw (same, point) (q.owned c j o);
        exclusive = λ c. rw point (q.exclusive c);
        unstable = λ c j v. q.unstable c j (rw point at v);
        volatile = q.volatile;
      }

  -- the frames show what the log explains, and nothing is pending
  pub settled_holds : t ≡ record { frames = x.working.frames; pending = [] } → BoardInvariant d h none b x
  unfolding settled_as
  settled_holds e =
      let es : List HistoryEntry = of_board b h.entries in
      record {
        counts = q.counts;
        stable = q.stable;
        explained = up_explained none x es u (rw e at (explained_up q u));
        ahead = λ p r j v i. let z : ◌≡◌ {A = ℕ} 0 1 = cc in absurd (omega arith);
        copies = q.copies;
        owned = q.owned;
        exclusive = q.exclusive;
        unstable = q.unstable;
        volatile = q.volatile;
      }

-- ---- pages without an unstable write

module _ {d : List Entry} {h : History} {g : Option Rebuilt} {b : ℕ} {x : Board} (q : BoardInvariant d h g b x) (p : ℕ) (l : p < length d) where
  -- only the owner writes past its recovery point, and only while no copy is out
  pub quiet_unowned : (entry_in d p).owner ≢ b → unstable_write b (recovery_point x) p h.entries ≡ false
  quiet_unowned other = by_bool (unstable_write b (recovery_point x) p h.entries) (λ u. absurd (other (q.unstable p l u).0)) (λ u. u)

  pub quiet_held : (c : ℕ) → member c (entry_in d p).copies ≡ true → unstable_write b (recovery_point x) p h.entries ≡ false
  quiet_held c m =
      by_bool (unstable_write b (recovery_point x) p h.entries)
      (λ u. clash m (rw (q.unstable p l u).1 (member_none c)))
      (λ u. u)

-- ---- a page is dropped

-- an up board logs a dropped and empties its frame, where the directory gives it no right
dropped_holds : {d : List Entry} {h : History} {b : ℕ} {x : Board} (w p : ℕ) → BoardInvariant d h none b x → x.state ≡ Up → p < length d
    → length x.working.frames ≡ length d → (entry_in d p).owner ≢ b → member b (entry_in d p).copies ≡ false → BoardInvariant d h none b (dropped w p x)
unfolding dropped settled_as Accepts Joins MayLog next logged on_working recorded with_frame on_frames page_of
dropped_holds {d} {h} {b} {x} w p q u l s lost m =
    let y : Board = on_working (recorded (Dropped p) w (zeros page_size)) x in
    let t : Rebuilt = record { frames = set x.working.frames p empty_frame; pending = [] } in
    let r : BoardInvariant d h (some t) b y =
    recorded_holds q u (Dropped p) w (zeros page_size) (tt, tt) (λ o. absurd (lost o)) refl
    (λ c i j e o. cc (frame_at_other x.working.frames p c empty_frame (λ n. lost (rw n at o)))) in
    settled_holds (framed_holds r u p empty_frame l s (λ o. absurd (lost o)) (λ i. clash i m)) u refl

-- The new entry gives the board no right, and the board drops the page, of which it has no unstable write.
pub lost_holds : {d : List Entry} {h : History} {b : ℕ} {x : Board} (w p : ℕ) (f : Entry → Entry) → BoardInvariant d h none b x → x.state ≡ Up → p < length d
    → length x.working.frames ≡ length d
    → (f (entry_in d p)).owner ≢ b
    → member b (f (entry_in d p)).copies ≡ false
    → unstable_write b (recovery_point x) p h.entries ≡ false
    → BoardInvariant (update p f d) h none b (dropped w p x)
lost_holds {d} {b = b} w p f q u l s other out quiet =
    let here : entry_in (update p f d) p ≡ f (entry_in d p) = get_d_update_same p f d no_entry l in
    dropped_holds w p
    (entry_holds q p l f (kept_on q p l (f (entry_in d p)) (λ o. absurd (other o)) (λ m. clash m out) (λ v. clash v quiet)))
    u (rw (length_update p f d) l) (rw (length_update p f d) s) (rw here other) (rw here out)

-- ---- a got is logged

module _ {d : List Entry} {h : History} {g : Option Rebuilt} {b : ℕ} {x : Board} (q : BoardInvariant d h g b x) (u : x.state ≡ Up) where
  -- what is ahead of the frames is not on a page that the board owns
  pub ahead_frame : (p : ℕ) → p < length d → (entry_in d p).owner ≡ b → frame_at (settled_as g x).frames p ≡ frame_at x.working.frames p
  unfolding settled_as
  ahead_frame p l o = by_option g (λ e. rw e) (λ t e. rw e (q.ahead p t l u e o))

  -- a got that the board may log now, of a page that it doesn't own: its log is ahead of its frames
  pub got_holds : (c : CopyOrOwn) (p from : ℕ) (bytes : List ℕ) → Accepts (settled_as g x) (Logged (new_record (Got c p) from bytes x.working))
      → (entry_in d p).owner ≢ b
      → BoardInvariant d h (some (next (Logged (new_record (Got c p) from bytes x.working)) (settled_as g x))) b (on_working (recorded (Got c p) from bytes) x)
  unfolding settled_as page_of next
  got_holds c p from bytes a other =
      let r : Record = new_record (Got c p) from bytes x.working in
      recorded_holds q u (Got c p) from bytes a (λ o. absurd (other o)) refl
      (λ i t j e o.
      cc (
        ahead_frame i j o,
        frame_at_logged (Got c p) r (settled_as g x) i (λ n. absurd (other (rw n o))),
      ))

-- ---- the bank

pub only_of_same : (b : ℕ) (t : Rebuilt) → only_of b t b ≡ some t
unfolding only_of
only_of_same b t = cc (eq-eqb b b refl)

pub only_of_other : (b : ℕ) (t : Rebuilt) (c : ℕ) → c ≢ b → only_of b t c ≡ none
unfolding only_of
only_of_other b t c n = cc (ne_eqb c b n)

-- one entry of the directory changes, and boards with it
pub entry_invariant : (p : ℕ) (f : Entry → Entry) (k j : Bank) {g g' : ℕ → Option Rebuilt} {h : History} → Invariant g k h → WellFormed j
    → length j.boards ≡ length k.boards → j.directory ≡ update p f k.directory
    → ((c : ℕ) → c < length k.boards → BoardInvariant k.directory h (g c) c (board_at k c)
    → BoardInvariant (update p f k.directory) h (g' c) c (board_at j c))
    → Invariant g' j h
entry_invariant p f k j {g} {g'} {h} q w s d keeps =
    record {
      formed = w;
      memory = q.memory;
      known = rw s q.known;
      boards = λ c i.
          let l : c < length k.boards = rw s at i in
          subst (λ (e : List Entry). BoardInvariant e h (g' c) c (board_at j c)) (sym d) (keeps c l (q.boards c l));
    }

-- where the owner has no unstable write on a page, no board has
pub quiet_page : (k : Bank) {g : ℕ → Option Rebuilt} {h : History} → Invariant g k h → (p : ℕ) → p < length k.directory
    → unstable_write (entry_at k p).owner (recovery_point (board_at k (entry_at k p).owner)) p h.entries ≡ false
    → (c : ℕ) → c < length k.boards → unstable_write c (recovery_point (board_at k c)) p h.entries ≡ false
unfolding entry_at
quiet_page k q p l quiet c i = by_eq (entry_at k p).owner c (λ e. rw e at quiet) (λ n. quiet_unowned (q.boards c i) p l n)
