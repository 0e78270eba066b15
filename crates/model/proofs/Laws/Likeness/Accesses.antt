-- Every access of a board keeps banks alike and answers alike: the moves that it makes one by one, its refusals, its value and bytes. Assumes nothing.
use Rattle.std.specs.Prelude.{◌≡◌, Bool, ◌&&◌, replicate, ltb}
use Rattle.std.proofs.Math.Path.{refl, ap, fun_ext}
use Rattle.std.proofs.Common.{◌∙◌}
use Prim.Native.Nat.{ℕ, suc}
use Rattle.std.proofs.Math.Bool.{not}
use Rattle.std.proofs.Math.Option.{Option}
use mathlib.Core.List.{List, [], ◌∷◌, map}
use Rattle.std.proofs.Math.ListN.{length, get_or, get_or-map}
use Rattle.types.specs.declared.Frame.{Frame}
use Rattle.types.specs.declared.CopyOrOwn.{CopyOrOwn}
use Rattle.types.specs.declared.CopyOrOwn.TheVariants.{GotCopy, GotOwn}
use Rattle.types.specs.declared.Kind.{Kind}
use Rattle.types.specs.declared.Kind.TheVariants.{Got, Shown, Dropped}
use Rattle.types.specs.declared.Record.{Record}
use Rattle.types.specs.declared.Answer.{Answer}
use Rattle.types.specs.declared.Answer.TheVariants.{Done, OwnerNotUp, LogFull, PowerLost}
use Rattle.model.specs.Definitions.Parts.{every}
use Rattle.model.specs.Definitions.Layout.{byte_values}
use Rattle.model.specs.Definitions.Bank.{Board, Bank, board_at, entry_at, frame_at, on_board}
use Rattle.model.specs.Definitions.Codec.{page_of}
use Rattle.model.specs.Definitions.WellFormed.{is_down, is_replaying}
use Rattle.model.specs.Definitions.Steps.{Run, start, store_all, stored_record, record_stores, flush, spare_stores, checkpoint, Access, Read, Write}
use Rattle.model.specs.Definitions.Steps.{ReadCells, Cell, cells_asked, cells_read, cells_written, any_write, names, takes, lacks_page, lacking_pages}
use Rattle.model.specs.Definitions.Steps.{cell_byte, read_from, value_of, given_of, giver, show, show_all, give_copies, read_fetch, write_fetch, fetch}
use Rattle.model.specs.Definitions.Replay.{lacking, needs_got, needs_gots, differs, took_due, replay_over, end_replay, end_if_over}
use Rattle.model.specs.Definitions.Calls.{Result, first_given, unless, finished, page_written, copies_out, fetch_need, drop_need, lacking_of, pages_lacking}
use Rattle.model.specs.Definitions.Calls.{page_need, need, short, short_board, is_some, number_in, nobody_gives, page_missing, live_refusals, prepared}
use Rattle.model.specs.Definitions.Calls.{performed, live}
use Rattle.model.specs.Definitions.Calls.{live_after_end, replaying, access_in_range, wrong_cells, counters_full, refusals_within, access_within}
use Rattle.model.specs.Moves.{NoteShown, NoteGot, StoreRecord, StoreFrame, StoreHead, StoreSelector, PassOwnership, DropCopies, Perform, Settle}
use Rattle.model.specs.Moves.{does}
use Rattle.model.specs.Likeness.{EachPair, pairs_nil, pairs_cons, FrameAlike, RecordAlike, FramesAlike, BoardAlike, Alike, RunAlike, mapped_access}
use Rattle.model.specs.Likeness.{mapped, mapped_value, on_value, ResultAlike, Change}
use Rattle.model.proofs.Laws.Lists.{foldl_both, each_replicate}
use Rattle.model.proofs.Laws.States.{SameStates}
use Rattle.model.proofs.Laws.Runs.{each_spare_stores, checkpoint_selector}
use Rattle.model.proofs.Laws.Keeps.Givers.{owner_up_same, giver_same}
use Rattle.model.proofs.Laws.Likeness.{Preserve, Perhaps, neither, both, perhaps_same, cases_both, options_both, pairs_length, alike_frame_at}
use Rattle.model.proofs.Laws.Likeness.{alike_board_at, alike_entry_at, alike_on_board}
use Rattle.model.proofs.Laws.Likeness.Steps.{alike_step, alike_give_copy}
use Rattle.model.proofs.Laws.Likeness.Moves.{alike_due, alike_took_due, alike_replayed, moves_alike}

-- ==== several moves

module _ (f : Change) where
  pub alike_start : {k j : Bank} → Alike f k j → RunAlike f (start k) (start j)
  unfolding start
  alike_start e = record { bank = e; stores = refl; lost = refl }

  same_states : {k j : Bank} → Alike f k j → SameStates k j
  same_states e c = (alike_board_at f c e).state

  same_giver : (g : CopyOrOwn) (p : ℕ) {k j : Bank} → Alike f k j → giver g j p ≡ giver g k p
  same_giver g p {k} {j} e = giver_same g k j p (alike_entry_at f p e) (same_states e)

  same_over : {x y : Board} → BoardAlike f x y → replay_over y ≡ replay_over x
  unfolding replay_over
  same_over e = rw (pairs_length (RecordAlike f) e.stable.selected.log, e.working.place)

module _ (f : Change) (z : f.bytes 0 ≡ 0) where
  alike_flush : (b : ℕ) {r s : Run} → RunAlike f r s → RunAlike f (flush b r) (flush b s)
  unfolding flush store_all record_stores does mapped
  alike_flush b {r} {s} e =
      let n : ℕ = length (board_at r.bank b).working.log in
      let i : length (board_at s.bank b).working.log ≡ n = pairs_length (RecordAlike f) (alike_board_at f b e.bank).working.log in
      rw i (foldl_both (RunAlike f) _ (replicate n stored_record) (each_replicate n stored_record (λ r s d. moves_alike f z (StoreRecord b) d)) r s e)

  pub alike_checkpoint : (b : ℕ) {r s : Run} → RunAlike f r s → RunAlike f (checkpoint b r) (checkpoint b s)
  unfolding store_all does mapped
  alike_checkpoint b {r} {s} e =
      let n : ℕ = length r.bank.directory in
      let i : length s.bank.directory ≡ n = ap length e.bank.directory in
      let h : RunAlike f (store_all b (spare_stores n) r) (store_all b (spare_stores n) s) =
      foldl_both (RunAlike f) _ (spare_stores n)
      (each_spare_stores (λ p r s d. moves_alike f z (StoreFrame b p) d) (λ r s d. moves_alike f z (StoreHead b) d) n) r s e in
      rw (checkpoint_selector b r, checkpoint_selector b s, i) (moves_alike f z (StoreSelector b) h)

  alike_show : (o b p : ℕ) {r s : Run} → RunAlike f r s → RunAlike f (show o b p r) (show o b p s)
  unfolding show does mapped
  alike_show o b p e = alike_flush o (moves_alike f z (NoteShown o b p) e)

  alike_show_all : (b : ℕ) (ps : List ℕ) {r s : Run} → RunAlike f r s → RunAlike f (show_all b ps r) (show_all b ps s)
  unfolding show_all
  alike_show_all b [] e = e
  alike_show_all b (p ∷ ps) {r} e = alike_show_all b ps (rw (same_giver f GotCopy p e.bank) (alike_show (giver GotCopy r.bank p) b p e))

  alike_give_copies : (b : ℕ) (ps : List ℕ) → Preserve (Alike f) (give_copies b ps) (give_copies b ps)
  unfolding give_copies
  alike_give_copies b [] k j e = e
  alike_give_copies b (p ∷ ps) k j e = alike_give_copies b ps _ _ (rw (same_giver f GotCopy p e) (alike_give_copy f z (giver GotCopy k p) b p k j e))

  alike_write_fetch : (b p : ℕ) {r s : Run} → RunAlike f r s → RunAlike f (write_fetch b p r) (write_fetch b p s)
  unfolding write_fetch does mapped
  alike_write_fetch b p {r} e =
      let o : ℕ = giver GotOwn r.bank p in
      rw (same_giver f GotOwn p e.bank)
      (moves_alike f z (PassOwnership o b p) (alike_flush b (moves_alike f z (NoteGot b o p) (alike_show o b p e))))

  alike_fetch : (g : CopyOrOwn) (b : ℕ) (ps : List ℕ) {r s : Run} → RunAlike f r s → RunAlike f (fetch g b ps r) (fetch g b ps s)
  unfolding fetch read_fetch
  alike_fetch GotCopy b ps e = alike_step f (alike_give_copies b ps) (alike_show_all b ps e)
  alike_fetch GotOwn b [] e = e
  alike_fetch GotOwn b (p ∷ ps) e = alike_fetch GotOwn b ps (alike_write_fetch b p e)

  alike_end_replay : (b : ℕ) {r s : Run} → RunAlike f r s → RunAlike f (end_replay b r) (end_replay b s)
  unfolding end_replay does mapped
  alike_end_replay b e = alike_checkpoint b (moves_alike f z (Settle b) e)

  pub alike_end_if_over : (b : ℕ) {r s : Run} → RunAlike f r s → RunAlike f (end_if_over b r) (end_if_over b s)
  unfolding end_if_over
  alike_end_if_over b e = cases_both (RunAlike f) (same_over f (alike_board_at f b e.bank)) (alike_end_replay b e) e

-- ==== results

same_and : {s t u v : Bool} → u ≡ s → v ≡ t → (u && v) ≡ (s && t)
same_and p q = rw (p, q)

module _ (g : ℕ → ℕ) where
  -- a row of the table of codes: the same test, the same refusal
  abbrev RowAlike : Bool × Answer → Bool × Answer → Type 0
  RowAlike t u = (u.0 ≡ t.0) × (u.1 ≡ on_value g t.1)

  alike_first_of : {ts us : List (Bool × Answer)} → EachPair RowAlike ts us → Perhaps (λ x y. y ≡ on_value g x) (first_given ts) (first_given us)
  unfolding first_given
  alike_first_of pairs_nil = neither
  alike_first_of (pairs_cons i is) = cases_both (Perhaps (λ x y. y ≡ on_value g x)) i.0 (both i.1) (alike_first_of is)

module _ (f : Change) (g : ℕ → ℕ) where
  pub alike_unless : {ts us : List (Bool × Answer)} {r s : Run} {x y : Result} → EachPair (RowAlike g) ts us → RunAlike f r s → ResultAlike f g x y
      → ResultAlike f g (unless ts r x) (unless us s y)
  unfolding unless
  alike_unless is e q = options_both (ResultAlike f g) (λ x y. y ≡ on_value g x) (alike_first_of g is) q (λ x y i. record { answer = i; run = e; given = refl })

  pub alike_finished : {v w : ℕ} (l : List ℕ) {m : List ℕ} {r s : Run} → w ≡ g v → m ≡ map f.bytes l → RunAlike f r s
      → ResultAlike f g (finished v l r) (finished w m s)
  unfolding finished on_value
  alike_finished l i h e =
      options_both (ResultAlike f g) (λ x y. y ≡ x) (perhaps_same e.lost)
      (record { answer = ap Done i; run = e; given = h })
      (λ b c o. record { answer = ap PowerLost o; run = e; given = refl })

-- ==== an access of an up board

-- what is asked of an access but for the byte that it writes
module _ (f : ℕ → ℕ) where
  same_takes : (a : Access) → takes (mapped_access f a) ≡ takes a
  unfolding takes mapped_access
  same_takes (Read p o) = refl
  same_takes (Write p o v) = refl
  same_takes (ReadCells cells out_length) = refl

  same_read : (a : Access) → cells_read (mapped_access f a) ≡ cells_read a
  unfolding cells_read mapped_access
  same_read (Read p o) = refl
  same_read (Write p o v) = refl
  same_read (ReadCells cells out_length) = refl

  same_any_write : (a : Access) (p : ℕ) → any_write (cells_written (mapped_access f a)) p ≡ any_write (cells_written a) p
  unfolding any_write cells_written mapped_access
  same_any_write (Read p o) q = refl
  same_any_write (Write p o v) q = refl
  same_any_write (ReadCells cells out_length) q = refl

  same_names : (a : Access) (p : ℕ) → names (mapped_access f a) p ≡ names a p
  unfolding names
  same_names a p = rw (same_read a, same_any_write a p)

  same_page_written : (a : Access) → page_written (mapped_access f a) ≡ page_written a
  unfolding page_written cells_written mapped_access
  same_page_written (Read p o) = refl
  same_page_written (Write p o v) = refl
  same_page_written (ReadCells cells out_length) = refl

  same_wrong_cells : (a : Access) → wrong_cells (mapped_access f a) ≡ wrong_cells a
  unfolding wrong_cells mapped_access
  same_wrong_cells (Read p o) = refl
  same_wrong_cells (Write p o v) = refl
  same_wrong_cells (ReadCells cells out_length) = refl

module _ (f : Change) (z : f.bytes 0 ≡ 0) (a : Access) where
  same_lacks_page : (p : ℕ) {fs gs : List Frame} → FramesAlike f fs gs → lacks_page (mapped_access f.bytes a) gs p ≡ lacks_page a fs p
  unfolding lacks_page
  same_lacks_page p e = rw (same_names f.bytes a p, same_takes f.bytes a, (alike_frame_at f z p e).right)

  same_lacking_pages : {fs gs : List Frame} → FramesAlike f fs gs → lacking_pages (mapped_access f.bytes a) gs ≡ lacking_pages a fs
  unfolding lacking_pages
  same_lacking_pages e = rw (pairs_length (FrameAlike f) e, fun_ext (λ p. same_lacks_page p e))

  same_lacking : {fs gs : List Frame} → FramesAlike f fs gs → lacking (mapped_access f.bytes a) gs ≡ lacking a fs
  unfolding lacking
  same_lacking e = rw (same_lacking_pages e, lacking)

  same_lacking_of : (b : ℕ) {k j : Bank} → Alike f k j → lacking_of b (mapped_access f.bytes a) j ≡ lacking_of b a k
  unfolding lacking_of
  same_lacking_of b e = same_lacking (alike_board_at f b e).working.frames

  same_pages_lacking : (b : ℕ) {k j : Bank} → Alike f k j → pages_lacking b (mapped_access f.bytes a) j ≡ pages_lacking b a k
  unfolding pages_lacking
  same_pages_lacking b e = same_lacking_pages (alike_board_at f b e).working.frames

module _ (f : Change) (z : f.bytes 0 ≡ 0) where
  same_byte : (c : Cell) {fs gs : List Frame} → FramesAlike f fs gs → cell_byte gs c ≡ f.bytes (cell_byte fs c)
  unfolding cell_byte
  same_byte c {fs} e =
      let l : List ℕ = (frame_at fs c.page).bytes in
      let i : get_or (map f.bytes l) c.offset 0 ≡ get_or (map f.bytes l) c.offset (f.bytes 0) = rw z in
      ap (λ (m : List ℕ). get_or m c.offset 0) (alike_frame_at f z c.page e).bytes ∙ i ∙ get_or-map f.bytes l c.offset 0

  -- the byte read, or 0
  same_value : (a : Access) {fs gs : List Frame} → FramesAlike f fs gs → value_of (mapped_access f.bytes a) gs ≡ mapped_value f.bytes a (value_of a fs)
  unfolding value_of mapped_access mapped_value
  same_value (Read p o) e = same_byte (record { page = p; offset = o }) e
  same_value (Write p o v) e = refl
  same_value (ReadCells cells out_length) e = refl

  same_bytes : (cs : List Cell) {fs gs : List Frame} → FramesAlike f fs gs → map (cell_byte gs) cs ≡ map f.bytes (map (cell_byte fs) cs)
  same_bytes [] e = refl
  same_bytes (c ∷ cs) e = rw (same_byte c e, same_bytes cs e)

  -- the bytes of a second buffer, if there is one
  same_given : (a : Access) {fs gs : List Frame} → FramesAlike f fs gs → given_of (mapped_access f.bytes a) gs ≡ map f.bytes (given_of a fs)
  unfolding given_of read_from cells_read mapped_access
  same_given (Read p o) e = refl
  same_given (Write p o v) e = refl
  same_given (ReadCells cells out_length) e = same_bytes (cells_asked cells) e

same_copies_out : (f : Change) (a : Access) {k j : Bank} → Alike f k j → copies_out (mapped_access f.bytes a) j ≡ copies_out a k
unfolding copies_out cells_written mapped_access
same_copies_out f (Read p o) e = refl
same_copies_out f (Write p o v) e = rw (alike_entry_at f p e)
same_copies_out f (ReadCells cells out_length) e = refl

same_fetch_need : (f : Change) (g : CopyOrOwn) (b o p c : ℕ) {k j : Bank} → Alike f k j → fetch_need g j b o p c ≡ fetch_need g k b o p c
unfolding fetch_need
same_fetch_need f GotCopy b o p c e = refl
same_fetch_need f GotOwn b o p c e = cc (alike_entry_at f p e)

same_nobody : (f : Change) (g : CopyOrOwn) (p : ℕ) {k j : Bank} → Alike f k j → nobody_gives g j p ≡ nobody_gives g k p
unfolding nobody_gives
same_nobody f GotCopy p {k} {j} e = rw (owner_up_same k j p (alike_entry_at f p e) (same_states f e), alike_entry_at f p e)
same_nobody f GotOwn p {k} {j} e = rw (owner_up_same k j p (alike_entry_at f p e) (same_states f e))

module _ (f : Change) (z : f.bytes 0 ≡ 0) (b : ℕ) (a : Access) {k j : Bank} (e : Alike f k j) where
  same_drop_need : (p c : ℕ) → drop_need (mapped_access f.bytes a) j p c ≡ drop_need a k p c
  unfolding drop_need
  same_drop_need p c = cc (same_any_write f.bytes a p, alike_entry_at f p e)

  same_page_need : (c p : ℕ) → page_need b (mapped_access f.bytes a) j c p ≡ page_need b a k c p
  unfolding page_need
  same_page_need c p =
      cases_both (λ m n. n ≡ m) (same_lacks_page f z a p (alike_board_at f b e).working.frames)
      (rw (same_takes f.bytes a, same_giver f (takes a) p e) (same_fetch_need f (takes a) b (giver (takes a) k p) p c e))
      (same_drop_need p c)

  same_need : (c : ℕ) → need b (mapped_access f.bytes a) j c ≡ need b a k c
  unfolding need
  same_need c = rw (fun_ext (same_page_need c), e.directory)

  same_short : (c : ℕ) → short b (mapped_access f.bytes a) j c ≡ short b a k c
  unfolding short
  same_short c =
      let x : BoardAlike f (board_at k c) (board_at j c) = alike_board_at f c e in
      rw
      (pairs_length (RecordAlike f) x.stable.selected.log, pairs_length (RecordAlike f) x.working.log, same_need c)

  same_short_board : short_board b (mapped_access f.bytes a) j ≡ short_board b a k
  unfolding short_board
  same_short_board = rw (pairs_length (BoardAlike f) e.boards, fun_ext same_short)

  same_missing : (p : ℕ) → (lacks_page (mapped_access f.bytes a) (board_at j b).working.frames p && nobody_gives (takes (mapped_access f.bytes a)) j p)
      ≡ (lacks_page a (board_at k b).working.frames p && nobody_gives (takes a) k p)
  same_missing p = rw (same_lacks_page f z a p (alike_board_at f b e).working.frames, same_takes f.bytes a, same_nobody f (takes a) p e)

  same_page_missing : page_missing b (mapped_access f.bytes a) j ≡ page_missing b a k
  unfolding page_missing
  same_page_missing = rw (fun_ext same_missing, e.directory)

  rows_live : EachPair (RowAlike (mapped_value f.bytes a)) (live_refusals b a k) (live_refusals b (mapped_access f.bytes a) j)
  unfolding live_refusals on_value
  rows_live =
      let owner : (entry_at j (number_in (page_missing b (mapped_access f.bytes a) j))).owner ≡ (entry_at k (number_in (page_missing b a k))).owner =
      rw (same_page_missing, alike_entry_at f (number_in (page_missing b a k)) e) in
      pairs_cons (ap is_some same_page_missing, ap OwnerNotUp owner)
      (pairs_cons (ap is_some same_short_board, ap (λ (m : Option ℕ). LogFull (number_in m)) same_short_board) pairs_nil)

same_in_range : (f : Change) → ((v : ℕ) → ltb (f.bytes v) byte_values ≡ ltb v byte_values) → (b : ℕ) (a : Access) {k j : Bank} → Alike f k j
    → access_in_range b (mapped_access f.bytes a) j ≡ access_in_range b a k
unfolding access_in_range every cells_read cells_written mapped_access
same_in_range f bytes b (Read p o) e = rw (pairs_length (BoardAlike f) e.boards, e.directory)
same_in_range f bytes b (Write p o v) e = rw (pairs_length (BoardAlike f) e.boards, e.directory, bytes v)
same_in_range f bytes b (ReadCells cells out_length) e = rw (pairs_length (BoardAlike f) e.boards, e.directory)

module _ (f : Change) (z : f.bytes 0 ≡ 0) (b : ℕ) (a : Access) where
  alike_prepared : {r s : Run} → RunAlike f r s → RunAlike f (prepared b a r) (prepared b (mapped_access f.bytes a) s)
  unfolding prepared does mapped
  alike_prepared {r} e =
      cases_both (RunAlike f) (same_lacking_of f z a b e.bank)
      (rw (same_takes f.bytes a, same_pages_lacking f z a b e.bank) (alike_fetch f z (takes a) b (pages_lacking b a r.bank) e))
      (cases_both (RunAlike f) (same_copies_out f a e.bank)
      (rw (same_page_written f.bytes a) (moves_alike f z (DropCopies b (page_written a)) e))
      e)

  alike_performed : {r s : Run} → RunAlike f r s → ResultAlike f (mapped_value f.bytes a) (performed b a r) (performed b (mapped_access f.bytes a) s)
  unfolding performed does mapped
  alike_performed e =
      let fs : FramesAlike f _ _ = (alike_board_at f b e.bank).working.frames in
      alike_finished f (mapped_value f.bytes a) _ (same_value f z a fs) (same_given f z a fs) (moves_alike f z (Perform b a) e)

  alike_live : {r s : Run} → RunAlike f r s → ResultAlike f (mapped_value f.bytes a) (live b a r) (live b (mapped_access f.bytes a) s)
  unfolding live
  alike_live e = alike_unless f (mapped_value f.bytes a) (rows_live f z b a e.bank) e (alike_performed (alike_prepared e))

  alike_live_after_end : {r s : Run} → RunAlike f r s → ResultAlike f (mapped_value f.bytes a) (live_after_end b a r) (live_after_end b (mapped_access f.bytes a) s)
  unfolding live_after_end on_value
  alike_live_after_end e =
      options_both (ResultAlike f (mapped_value f.bytes a)) (λ x y. y ≡ x) (perhaps_same e.lost)
      (alike_live e)
      (λ c d o. record { answer = ap PowerLost o; run = e; given = refl })

  -- ==== an access of a replaying board

  alike_replaying : {k j : Bank} → Alike f k j → ResultAlike f (mapped_value f.bytes a) (replaying b a k) (replaying b (mapped_access f.bytes a) j)
  unfolding replaying
  alike_replaying {k} {j} e =
      let q : Alike f (on_board b took_due k) (on_board b took_due j) = alike_on_board f b (alike_took_due f z) k j e in
      let fs : FramesAlike f _ _ = (alike_board_at f b q).working.frames in
      cases_both (ResultAlike f (mapped_value f.bytes a)) (same_over f (alike_board_at f b q))
      (alike_live_after_end (alike_end_replay f z b (alike_start f q)))
      (alike_finished f (mapped_value f.bytes a) _ (same_value f z a fs) (same_given f z a fs)
      (alike_end_if_over f z b (alike_start f (alike_on_board f b (alike_replayed f z a) _ _ q))))

  -- ==== an access

  same_needs_got : {fs gs : List Frame} {m n : Kind} → FramesAlike f fs gs → n ≡ m → needs_got (mapped_access f.bytes a) gs n ≡ needs_got a fs m
  unfolding needs_got
  same_needs_got {fs = fs} {gs = gs} {m = m} e i =
      rw i
      (elim m as (λ v. needs_got (mapped_access f.bytes a) gs v ≡ needs_got a fs v) [ Got g p ↦ rw (same_takes f.bytes a, same_lacks_page f z a p e) | Shown p ↦ refl | Dropped p ↦ refl ])

  same_needs_gots : {fs gs : List Frame} {rs ss : List Record} (n : ℕ) → FramesAlike f fs gs → EachPair (RecordAlike f) rs ss
      → needs_gots (mapped_access f.bytes a) gs n ss ≡ needs_gots a fs n rs
  unfolding needs_gots
  same_needs_gots n e pairs_nil = refl
  same_needs_gots n e (pairs_cons {x} i is) =
      rw (same_needs_got e i.kind, i.kind, same_needs_gots (suc (page_of x.kind)) e is)

  same_differs : {x y : Board} → BoardAlike f x y → differs (mapped_access f.bytes a) y ≡ differs a x
  unfolding differs
  same_differs e =
      let t : BoardAlike f _ _ = alike_took_due f z _ _ e in
      rw (same_needs_gots 0 e.working.frames (alike_due f z e), same_over f t, same_lacking f z a t.working.frames)

  same_full : (largest : ℕ) {x y : Board} → BoardAlike f x y → counters_full largest y ≡ counters_full largest x
  unfolding counters_full
  same_full largest e = rw (e.working.since, e.working.number)

  module _ (bytes : (v : ℕ) → ltb (f.bytes v) byte_values ≡ ltb v byte_values) (largest : ℕ) where
    rows_access : {k j : Bank} → Alike f k j
        → EachPair (RowAlike (mapped_value f.bytes a)) (refusals_within largest b a k) (refusals_within largest b (mapped_access f.bytes a) j)
    unfolding refusals_within on_value
    rows_access {k} {j} e =
        let x : BoardAlike f (board_at k b) (board_at j b) = alike_board_at f b e in
        pairs_cons (ap not (same_in_range f bytes b a e), refl)
        (pairs_cons (same_wrong_cells f.bytes a, refl)
        (pairs_cons (ap is_down x.state, refl)
        (pairs_cons (same_full largest x, refl)
        (pairs_cons (same_and (ap is_replaying x.state) (same_differs x), refl)
        pairs_nil))))

    pub alike_access_within : {k j : Bank} → Alike f k j
        → ResultAlike f (mapped_value f.bytes a) (access_within largest b a k) (access_within largest b (mapped_access f.bytes a) j)
    unfolding access_within
    alike_access_within e =
        alike_unless f (mapped_value f.bytes a) (rows_access e) (alike_start f e)
        (cases_both (ResultAlike f (mapped_value f.bytes a)) (ap is_replaying (alike_board_at f b e).state)
        (alike_replaying e)
        (alike_live (alike_start f e)))
