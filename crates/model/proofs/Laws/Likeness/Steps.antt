-- Every step of boards that are up keeps banks alike, and every store runs: one lemma for each, and no premise but that f keeps 0. Assumes nothing.
use Rattle.std.specs.Prelude.{◌≡◌, ℕ, ◌+◌, ◌-◌, Bool}
use Rattle.std.proofs.Math.Path.{refl, sym, ap}
use Rattle.std.proofs.Common.{◌∙◌}
use Rattle.std.proofs.Math.Bool.{not}
use mathlib.Core.List.{List, [], ◌∷◌, map}
use Rattle.std.proofs.Math.ListN.{set}
use Rattle.std.proofs.Math.Dec.{eqb}
use Rattle.types.specs.declared.Frame.{Frame}
use Rattle.types.specs.declared.CopyOrOwn.TheVariants.{GotCopy}
use Rattle.types.specs.declared.Kind.{Kind}
use Rattle.types.specs.declared.Kind.TheVariants.{Got, Shown, Dropped}
use Rattle.types.specs.declared.Record.{Record}
use Rattle.model.specs.Definitions.Parts.{zeros, with_member}
use Rattle.model.specs.Definitions.Layout.{page_size, no_fuse}
use Rattle.model.specs.Definitions.Bank.{Board, Bank, frame_at, on_board, on_frames}
use Rattle.model.specs.Definitions.Steps.{Run, step, powered_off, power_off, with_fuse, burnt, store, appended, recorded, note, moved_record, stored_record}
use Rattle.model.specs.Definitions.Steps.{stored_frame, stored_head, stored_selector, rested_working, Access, Read, Write, ReadCells, Cell, cells_written}
use Rattle.model.specs.Definitions.Steps.{with_byte, with_bytes, accessed, access, with_frame, frame_of, give_copy, dropped, drop_at, drop_copies}
use Rattle.model.specs.Definitions.Steps.{pass_ownership}
use Rattle.model.specs.Likeness.{EachPair, pairs_nil, pairs_cons, FrameAlike, RecordAlike, FramesAlike, LogAlike, AreaAlike, WorkingAlike, BoardAlike}
use Rattle.model.specs.Likeness.{Alike, RunAlike, mapped_access, Change}
use Rattle.model.proofs.Laws.Likeness.{Preserve, perhaps_same, cases_both, options_both, pairs_set, pairs_each, pairs_map, pairs_append, map_set, map_zeros}
use Rattle.model.proofs.Laws.Likeness.{alike_empty_frame, alike_frame_at, alike_board_at, alike_entry_at, alike_on_board, alike_on_entry}
use Rattle.model.proofs.Laws.Likeness.{alike_on_working, alike_on_spare}

-- ==== whatever f is

module _ (f : Change) where
  pub alike_step : {g h : Bank → Bank} {r s : Run} → Preserve (Alike f) g h → RunAlike f r s → RunAlike f (step g r) (step h s)
  unfolding step
  alike_step i e =
      options_both (RunAlike f) (λ x y. y ≡ x) (perhaps_same e.lost)
      (record { bank = i _ _ e.bank; stores = e.stores; lost = refl })
      (λ x y c. e)

  pub alike_with_fuse : (n : ℕ) → Preserve (BoardAlike f) (with_fuse n) (with_fuse n)
  unfolding with_fuse
  alike_with_fuse n x y e = record { state = e.state; fuse = refl; working = e.working; stable = e.stable }

  alike_burnt : Preserve (BoardAlike f) burnt burnt
  unfolding burnt with_fuse
  alike_burnt x y e =
      cases_both (BoardAlike f) (ap (λ (n : ℕ). eqb n no_fuse) e.fuse)
      e
      (rw e.fuse (alike_with_fuse (x.fuse - 1) x y e))

  -- ---- records

  alike_appended : {r s : Record} {l m : List Record} → RecordAlike f r s → LogAlike f l m → LogAlike f (appended r l) (appended s m)
  unfolding appended
  alike_appended i e = pairs_append (RecordAlike f) e (pairs_cons i pairs_nil)

  alike_recorded : (kind : Kind) (peer : ℕ) (l m : List ℕ) → m ≡ map f.bytes l → Preserve (WorkingAlike f) (recorded kind peer l) (recorded kind peer m)
  unfolding recorded
  alike_recorded kind peer l m i x y e =
      record {
        number = e.number;
        since = refl;
        place = e.place;
        frames = e.frames;
        log = alike_appended (record { count = e.since; kind = refl; peer = f.same peer; bytes = i }) e.log;
      }

  alike_note : (b : ℕ) (kind : Kind) (peer : ℕ) (l m : List ℕ) → m ≡ map f.bytes l → Preserve (Alike f) (note b kind peer l) (note b kind peer m)
  unfolding note
  alike_note b kind peer l m i = alike_on_board f b (alike_on_working f (alike_recorded kind peer l m i))

  alike_moved_record : {r s : Record} {rs ss : List Record} {x y : Board} → RecordAlike f r s → EachPair (RecordAlike f) rs ss → BoardAlike f x y
      → BoardAlike f (moved_record r rs x) (moved_record s ss y)
  unfolding moved_record
  alike_moved_record i is e =
      let w : WorkingAlike f _ _ = e.working in
      let a : AreaAlike f _ _ = e.stable.selected in
      record {
        state = e.state;
        fuse = e.fuse;
        working = record { number = w.number; since = w.since; place = w.place; frames = w.frames; log = is };
        stable =
            record {
              second = e.stable.second;
              selected = record { number = a.number; frames = a.frames; log = alike_appended i a.log };
              spare = e.stable.spare;
            };
      }

  pub alike_stored_record : Preserve (BoardAlike f) stored_record stored_record
  unfolding stored_record
  alike_stored_record x y e = go e.working.log
    where
      go : {l m : List Record} → EachPair (RecordAlike f) l m
          → BoardAlike f (elim l [ [] ↦ x | r ∷ rs ↦ moved_record r rs x ]) (elim m [ [] ↦ y | s ∷ ss ↦ moved_record s ss y ])
      go pairs_nil = e
      go (pairs_cons i is) = alike_moved_record i is e

  -- ---- a checkpoint, and a frame changed

  pub alike_stored_head : Preserve (BoardAlike f) stored_head stored_head
  unfolding stored_head
  alike_stored_head x y e =
      alike_on_spare f (λ a c i. record { number = e.working.number; frames = i.frames; log = pairs_nil }) e

  pub alike_stored_selector : Preserve (BoardAlike f) stored_selector stored_selector
  unfolding stored_selector
  alike_stored_selector x y e =
      record {
        state = e.state;
        fuse = e.fuse;
        working = e.working;
        stable = record { second = ap not e.stable.second; selected = e.stable.spare; spare = e.stable.selected };
      }

  pub alike_rested_working : Preserve (WorkingAlike f) rested_working rested_working
  unfolding rested_working
  alike_rested_working x y e =
      record { number = e.number; since = refl; place = e.place; frames = e.frames; log = pairs_nil }

  alike_with_frame : (p : ℕ) {c d : Frame} → FrameAlike f c d → Preserve (BoardAlike f) (with_frame p c) (with_frame p d)
  unfolding with_frame on_frames
  alike_with_frame p i x y e =
      alike_on_working f
      (λ v w o.
      record { number = o.number; since = o.since; place = o.place; frames = pairs_set (FrameAlike f) p i o.frames; log = o.log })
      x
      y
      e

-- ==== if f keeps 0: what a step zeroes is zero on both sides

module _ (f : Change) (z : f.bytes 0 ≡ 0) where
  alike_powered_off : Preserve (BoardAlike f) powered_off powered_off
  unfolding powered_off
  alike_powered_off x y e =
      record {
        state = refl;
        fuse = refl;
        working =
            record {
              number = refl;
              since = refl;
              place = refl;
              frames = pairs_map (FrameAlike f) (λ x y i. alike_empty_frame f z) e.working.frames;
              log = pairs_nil;
            };
        stable = e.stable;
      }

  pub alike_power_off : (b : ℕ) → Preserve (Alike f) (power_off b) (power_off b)
  unfolding power_off
  alike_power_off b k j e = alike_on_board f b alike_powered_off _ _ (record { directory = rw e.directory; boards = e.boards })

  pub alike_store : (b : ℕ) {g h : Board → Board} {r s : Run} → Preserve (BoardAlike f) g h → RunAlike f r s
      → RunAlike f (store b g r) (store b h s)
  unfolding store
  alike_store b {g} {h} {r} {s} i e =
      let k : Bank = on_board b burnt (on_board b g r.bank) in
      let j : Bank = on_board b burnt (on_board b h s.bank) in
      let q : Alike f k j = alike_on_board f b (alike_burnt f) _ _ (alike_on_board f b i _ _ e.bank) in
      let t : s.stores + 1 ≡ r.stores + 1 = ap (λ (n : ℕ). n + 1) e.stores in
      options_both (RunAlike f) (λ x y. y ≡ x) (perhaps_same e.lost)
      (cases_both (RunAlike f) (ap (λ (n : ℕ). eqb n 0) (alike_board_at f b q).fuse)
      (record { bank = alike_power_off b k j q; stores = t; lost = refl })
      (record { bank = q; stores = t; lost = refl }))
      (λ x y c. e)

  pub alike_stored_frame : (p : ℕ) → Preserve (BoardAlike f) (stored_frame p) (stored_frame p)
  unfolding stored_frame
  alike_stored_frame p x y e =
      alike_on_spare f
      (λ a c i.
      record {
        number = i.number;
        frames = pairs_set (FrameAlike f) p (alike_frame_at f z p e.working.frames) i.frames;
        log = i.log;
      })
      e

  -- ---- accesses

  alike_with_byte : (c : Cell) (v : ℕ) {fs gs : List Frame} → FramesAlike f fs gs → FramesAlike f (with_byte c v fs) (with_byte c (f.bytes v) gs)
  unfolding with_byte
  alike_with_byte c v {fs} {gs} e =
      let i : FrameAlike f (frame_at fs c.page) (frame_at gs c.page) = alike_frame_at f z c.page e in
      pairs_set (FrameAlike f) c.page
      (record {
        right = i.right;
        bytes = ap (λ (l : List ℕ). set l c.offset (f.bytes v)) i.bytes ∙ sym (map_set f.bytes (frame_at fs c.page).bytes c.offset v);
      })
      e

  alike_written : (a : Access) {fs gs : List Frame} → FramesAlike f fs gs
      → FramesAlike f (with_bytes (cells_written a) fs) (with_bytes (cells_written (mapped_access f.bytes a)) gs)
  unfolding with_bytes cells_written mapped_access
  alike_written (Read p o) e = e
  alike_written (Write p o v) e = alike_with_byte (record { page = p; offset = o }) v e
  alike_written (ReadCells cells out_length) e = e

  pub alike_accessed : (a : Access) → Preserve (WorkingAlike f) (accessed a) (accessed (mapped_access f.bytes a))
  unfolding accessed
  alike_accessed a x y e =
      record {
        number = ap (λ (n : ℕ). n + 1) e.number;
        since = ap (λ (n : ℕ). n + 1) e.since;
        place = e.place;
        frames = alike_written a e.frames;
        log = e.log;
      }

  pub alike_access : (b : ℕ) (a : Access) → Preserve (Alike f) (access b a) (access b (mapped_access f.bytes a))
  unfolding access
  alike_access b a = alike_on_board f b (alike_on_working f (alike_accessed a))

  -- ---- fetches

  alike_frame_of : (b p : ℕ) {k j : Bank} → Alike f k j → FrameAlike f (frame_of k b p) (frame_of j b p)
  unfolding frame_of
  alike_frame_of b p e = alike_frame_at f z p (alike_board_at f b e).working.frames

  pub alike_note_shown : (b t p : ℕ) → Preserve (Alike f) (note b (Shown p) t (zeros page_size)) (note b (Shown p) t (zeros page_size))
  alike_note_shown b t p = alike_note f b (Shown p) t (zeros page_size) (zeros page_size) (map_zeros f.bytes z page_size)

  -- a record of board b that names board o, with its page
  pub alike_note_page : (b o p : ℕ) (kind : Kind) → Preserve (Alike f) (λ k. note b kind o (frame_of k o p).bytes k) (λ k. note b kind o (frame_of k o p).bytes k)
  alike_note_page b o p kind k j e = alike_note f b kind o (frame_of k o p).bytes (frame_of j o p).bytes (alike_frame_of o p e).bytes k j e

  pub alike_give_copy : (o b p : ℕ) → Preserve (Alike f) (give_copy o b p) (give_copy o b p)
  unfolding give_copy
  alike_give_copy o b p k j e =
      alike_on_entry f p (λ e. record { owner = e.owner; copies = with_member b e.copies }) _ _
      (alike_on_board f b (alike_with_frame f p (record { right = refl; bytes = (alike_frame_of o p e).bytes })) _ _
      (alike_note_page b o p (Got GotCopy p) k j e))

  alike_dropped : (w p : ℕ) → Preserve (BoardAlike f) (dropped w p) (dropped w p)
  unfolding dropped
  alike_dropped w p x y e =
      alike_with_frame f p (alike_empty_frame f z) _ _
      (alike_on_working f (alike_recorded f (Dropped p) w (zeros page_size) (zeros page_size) (map_zeros f.bytes z page_size)) x y e)

  alike_drop_at : {loses gives : ℕ → Bool} (w p : ℕ) {k j : Bank} → ((c : ℕ) → gives c ≡ loses c) → Alike f k j
      → Alike f (drop_at loses w p k) (drop_at gives w p j)
  unfolding drop_at
  alike_drop_at w p i e =
      record {
        directory = e.directory;
        boards =
            pairs_each (BoardAlike f) (λ c x y o. cases_both (BoardAlike f) (i c) (alike_dropped w p x y o) o) e.boards;
      }

  pub alike_drop_copies : (w p : ℕ) → Preserve (Alike f) (drop_copies w p) (drop_copies w p)
  unfolding drop_copies
  alike_drop_copies w p k j e =
      alike_on_entry f p (λ e. record { owner = e.owner; copies = 0 }) _ _ (alike_drop_at w p (λ c. rw (alike_entry_at f p e)) e)

  pub alike_pass_ownership : (o w p : ℕ) → Preserve (Alike f) (pass_ownership o w p) (pass_ownership o w p)
  unfolding pass_ownership
  alike_pass_ownership o w p k j e =
      alike_on_entry f p (λ e. record { owner = w; copies = 0 }) _ _
      (alike_on_board f w (alike_with_frame f p (record { right = refl; bytes = (alike_frame_of o p e).bytes })) _ _
      (alike_drop_at w p (λ c. rw (alike_entry_at f p e)) e))
