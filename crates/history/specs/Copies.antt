-- A copy given and the copies of a page dropped keep the invariant: no write on a page that is handed out can be lost any more.
-- Assumes nothing.
use Rattle.std.specs.Prelude.{◌≡◌, ◌≢◌, ℕ, ◌<◌, true, false, List, [], ◌∷◌, ◌++◌}
use Rattle.std.proofs.Math.Path.{refl}
use Rattle.std.proofs.Common.{sym, ◌∙◌}
use Rattle.std.proofs.Math.Option.{Option, none, some}
use Rattle.std.proofs.Math.ListN.{length}
use Rattle.types.specs.declared.Right.TheVariants.{None, Copy}
use Rattle.types.specs.declared.Frame.{Frame}
use Rattle.types.specs.declared.CopyOrOwn.TheVariants.{GotCopy}
use Rattle.types.specs.declared.Kind.TheVariants.{Got}
use Rattle.types.specs.declared.Record.{Record}
use Rattle.types.specs.declared.State.TheVariants.{Up}
use Rattle.model.specs.Definitions.Parts.{update, member}
use Rattle.model.specs.Definitions.Bank.{Entry, Board, Bank, board_at, entry_at, on_board, on_entry, on_working, on_frames, entry_in}
use Rattle.model.specs.Definitions.WellFormed.{WellFormed}
use Rattle.model.specs.Definitions.Steps.{recorded, note, with_frame, frame_of, give_copy, drop_at, drop_copies}
use Rattle.model.specs.Definitions.Replay.{recovery_point, right_got}
use Rattle.model.proofs.Laws.Logic.{by_eq, cases, clash}
use Rattle.model.proofs.Laws.Lists.{each_imp}
use Rattle.model.proofs.Laws.Sets.{member_none, member_with_other}
use Rattle.model.proofs.Laws.Boards.{frame_at_same, took_copy, with_copy, dropped_if, without_copies, boards_give_copy, board_at_give_copy_same, board_at_give_copy_other}
use Rattle.model.proofs.Laws.Boards.{boards_drop_copies, board_at_drop_copies}
use Rattle.model.proofs.Laws.Keeps.Clauses.{fits, up_below}
use Rattle.model.specs.Clauses.{Fits}
use Rattle.model.proofs.Laws.Keeps.Rights.{entry_at_lem, no_right, holder_up}
use Rattle.model.specs.History.Statement.{History, zero_memory}
use Rattle.history.specs.Rerun.{Rebuilt, Logged, logged, next, LacksFor, MayLog, Joins, Accepts}
use Rattle.history.specs.Invariant.{memory_after, unstable_write, settled_as, BoardInvariant, Invariant, only_of}
use Rattle.history.specs.Logging.{new_record}
use Rattle.history.specs.Rights.{kept_on, entry_holds, framed_holds, lost_holds, quiet_held, got_holds, only_of_same, only_of_other}
use Rattle.history.specs.Rights.{entry_invariant}

-- ---- a copy given

-- no unstable write on the page, so nobody loses anything by one holder more
quiet_holds : {d : List Entry} {h : History} {g : Option Rebuilt} {c : ℕ} {x : Board} (b p : ℕ) → BoardInvariant d h g c x → p < length d → c ≢ b
    → unstable_write c (recovery_point x) p h.entries ≡ false → BoardInvariant (update p (with_copy b) d) h g c x
unfolding with_copy
quiet_holds {d} {c = c} b p q l n quiet =
    entry_holds q p l (with_copy b)
    (kept_on q p l (with_copy b (entry_in d p)) (λ o. o) (λ m. sym (member_with_other b c (entry_in d p).copies n) ∙ m) (λ u. clash u quiet))

module _ {d : List Entry} {h : History} {g : Option Rebuilt} {b : ℕ} {x : Board} (q : BoardInvariant d h g b x) (u : x.state ≡ Up)
    (o p : ℕ) (bytes : List ℕ) where
  abbrev got : Record
  got = new_record (Got GotCopy p) o bytes x.working

  -- the reader: it logs the got, and its frame shows it
  reader_holds : Accepts (settled_as g x) (Logged got) → p < length d → length x.working.frames ≡ length d
      → (entry_in d p).owner ≢ b → member b (entry_in d p).copies ≡ false
      → bytes ≡ memory_after zero_memory h.entries p
      → BoardInvariant (update p (with_copy b) d) h (some (next (Logged got) (settled_as g x))) b (took_copy o p bytes x)
  unfolding took_copy with_copy with_frame on_working on_frames recorded
  reader_holds a l s other out memory =
      let f : Frame = record { right = Copy; bytes = bytes } in
      let y : Board = on_working (recorded (Got GotCopy p) o bytes) x in
      let t : Rebuilt = next (Logged got) (settled_as g x) in
      let r : BoardInvariant d h (some t) b (with_frame p f y) =
      framed_holds (got_holds q u GotCopy p o bytes a other) u p f l s (λ o. absurd (other o)) (λ m. clash m out) in
      entry_holds r p l (with_copy b)
      (record {
        ahead = λ t v e o. absurd (other o);
        copies = λ m. rw (frame_at_same x.working.frames p f (rw s l)) memory;
        owned = λ o. absurd (other o);
        unstable = λ v. absurd (other (r.unstable p l v).0);
        volatile = each_imp (with_frame p f y).working.log (λ i e n o. absurd (other o)) r.volatile;
      })

module _ (o b p : ℕ) (k : Bank) where
  abbrev bytes_given : List ℕ
  bytes_given = (frame_of k o p).bytes

  -- the reader after the step, before its access: its frame shows the got that its log ends with, behind those that are pending
  abbrev pub reader_ahead : List Record → Rebuilt
  reader_ahead ps =
      record {
        frames = (board_at (give_copy o b p k) b).working.frames;
        pending = ps ++ (new_record (Got GotCopy p) o (frame_of k o p).bytes (board_at k b).working ∷ []);
      }

  give_copy_directory : (give_copy o b p k).directory ≡ update p (with_copy b) k.directory
  unfolding give_copy with_copy on_entry on_board note
  give_copy_directory = refl

  reader_ahead_lem : (g : Option Rebuilt) → b < length k.boards → (settled_as g (board_at k b)).frames ≡ (board_at k b).working.frames
      → reader_ahead (settled_as g (board_at k b)).pending
      ≡ next (Logged (new_record (Got GotCopy p) o bytes_given (board_at k b).working)) (settled_as g (board_at k b))
  unfolding next logged took_copy with_frame on_working on_frames recorded right_got
  reader_ahead_lem g i shows = rw (board_at_give_copy_same o b p k i, shows)

  -- "reader records got copy, gains the copy and its bit": an up board without a right, whose got joins those that are pending; the giver's frame holds the
  -- page's memory, on which no write is unstable
  pub give_copy_invariant : {g : ℕ → Option Rebuilt} {h : History} → Invariant g k h → ((c : ℕ) → c ≢ b → g c ≡ none) → (board_at k b).state ≡ Up
      → p < length k.directory
      → (frame_of k b p).right ≡ None
      → (settled_as (g b) (board_at k b)).frames ≡ (board_at k b).working.frames
      → Joins (new_record (Got GotCopy p) o (frame_of k o p).bytes (board_at k b).working) (settled_as (g b) (board_at k b)).pending
      → (frame_of k o p).bytes ≡ memory_after zero_memory h.entries p
      → ((c : ℕ) → c < length k.boards → unstable_write c (recovery_point (board_at k c)) p h.entries ≡ false)
      → WellFormed (give_copy o b p k)
      → Invariant (only_of b (reader_ahead (settled_as (g b) (board_at k b)).pending)) (give_copy o b p k) h
  unfolding entry_at frame_of Accepts MayLog LacksFor
  give_copy_invariant {g} {h} q only u l lacks shows joins memory quiet w =
      let i : b < length k.boards = up_below k b u in
      let t : Fits k.directory b (board_at k b) = fits q.formed b i in
      let out : ((entry_at k p).owner ≢ b) × (member b (entry_at k p).copies ≡ false) = no_right q.formed b p u l lacks in
      let ahead : Rebuilt = reader_ahead (settled_as (g b) (board_at k b)).pending in
      entry_invariant p (with_copy b) k (give_copy o b p k) q w (boards_give_copy o b p k) give_copy_directory
      (λ c j r.
      by_eq c b
      (λ e.
      rw (e, only_of_same b ahead, reader_ahead_lem (g b) i shows, board_at_give_copy_same o b p k i)
      (reader_holds (q.boards b i) u o p bytes_given (joins, rw shows lacks) l t.alone.fields.working.frames.count out.0 out.1 memory))
      (λ n. rw (board_at_give_copy_other o b p k c n, only_of_other b ahead c n) (quiet_holds b p (rw (only c n) at r) l n (quiet c j))))

-- ---- the copies of a page dropped

-- nobody loses by the empty copy-set but the holders
kept_holds : {d : List Entry} {h : History} {g : Option Rebuilt} {c : ℕ} {x : Board} (p : ℕ) → BoardInvariant d h g c x → p < length d
    → BoardInvariant (update p without_copies d) h g c x
unfolding without_copies
kept_holds {d} {c = c} p q l =
    entry_holds q p l without_copies (kept_on q p l (without_copies (entry_in d p)) (λ o. o) (λ m. clash m (member_none c)) (λ u o e. (o, refl)))

module _ (w p : ℕ) (k : Bank) where
  drop_copies_directory : (drop_copies w p k).directory ≡ update p without_copies k.directory
  unfolding drop_copies without_copies on_entry drop_at
  drop_copies_directory = refl

  -- "each holder records dropped and loses its copy, the copy-set empties": no holder's log is ahead of its frames
  pub drop_copies_invariant : {g : ℕ → Option Rebuilt} {h : History} → Invariant g k h → p < length k.directory
      → ((c : ℕ) → member c (entry_at k p).copies ≡ true → g c ≡ none)
      → WellFormed (drop_copies w p k)
      → Invariant g (drop_copies w p k) h
  unfolding entry_at dropped_if without_copies
  drop_copies_invariant {g} {h} q l settled formed =
      entry_invariant p without_copies k (drop_copies w p k) q formed (boards_drop_copies w p k) drop_copies_directory
      (λ c j r.
      rw (board_at_drop_copies w p k c j)
      (cases (BoardInvariant (update p without_copies k.directory) h (g c) c) (member c (entry_at k p).copies)
      (λ t.
      let n : BoardInvariant k.directory h none c (board_at k c) = rw (settled c t) at r in
      rw (settled c t)
      (lost_holds w p without_copies n (holder_up q.formed c p j l t) l (fits q.formed c j).alone.fields.working.frames.count
      (λ e. clash (rw e t) (entry_at_lem q.formed p l).owner_bit) (member_none c) (quiet_held n p l c t)))
      (λ t. kept_holds p r l)))
