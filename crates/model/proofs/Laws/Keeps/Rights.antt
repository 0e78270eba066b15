-- A copy given, copies dropped and a page passed on keep a bank well formed: directory and rights change together. Assumes nothing.
use Rattle.std.specs.Prelude.{◌≡◌, ◌≢◌, ◌⊎◌, Bool, true, false, ◌||◌, eqb}
use Rattle.std.proofs.Math.Path.{refl, sym}
use Rattle.std.proofs.Common.{◌∙◌, inl, inr, arith}
use Prim.Native.Nat.{ℕ, ◌<◌}
use Rattle.std.proofs.Math.Nat.{one-le-pow}
use Rattle.std.proofs.Math.Decide.{dec_lt}
use mathlib.Core.List.{List}
use Rattle.std.proofs.Math.ListN.{length}
use borrow.Author.Tests.{eqb-true, eqb-false}
use Rattle.types.specs.declared.Right.TheVariants.{None, Copy, Own}
use Rattle.types.specs.declared.Frame.{Frame}
use Rattle.types.specs.declared.CopyOrOwn.TheVariants.{GotCopy}
use Rattle.types.specs.declared.Kind.TheVariants.{Got, Dropped}
use Rattle.types.specs.declared.State.TheVariants.{Up}
use Rattle.model.specs.Definitions.Parts.{zeros, update, member, with_member}
use Rattle.model.specs.Definitions.Layout.{byte_values, page_size}
use Rattle.model.specs.Definitions.Bank.{Entry, Board, Bank, empty_frame, no_board, board_at, entry_at, frame_at, on_board, on_entry, on_working, on_frames}
use Rattle.model.specs.Definitions.Bank.{no_entry, entry_in}
use Rattle.model.specs.Definitions.Codec.{page_of}
use Rattle.model.specs.Definitions.WellFormed.{FrameOk, is_got, right_in, EntryOk, PeersOk, WellFormed}
use Rattle.model.specs.Definitions.Steps.{recorded, note, with_frame, frame_of, give_copy, dropped, drop_at, drop_copies, pass_ownership}
use Rattle.model.proofs.Laws.Logic.{cases, by_bool, by_eq, by_state, clash}
use Rattle.model.proofs.Laws.Lists.{length_update, get_d_update_same, get_d_update_other, update_set, each_get_d, each_set}
use Rattle.model.proofs.Laws.Sets.{member_with_same, member_with_other, with_below, member_none}
use Rattle.model.proofs.Laws.Boards.{board_at_out, right_in_owner, right_in_copy, right_in_none, right_in_same, frame_at_same, frame_at_other, took_copy}
use Rattle.model.proofs.Laws.Boards.{with_copy, dropped_if, without_copies, owned_by, took_own, board_at_give_copy_same, board_at_give_copy_other}
use Rattle.model.proofs.Laws.Boards.{board_at_drop_copies, board_at_pass_ownership_same, board_at_pass_ownership_other}
use Rattle.model.proofs.Laws.Runs.{SameSizes, sizes_give_copy, sizes_drop_copies, sizes_pass_ownership}
use Rattle.model.proofs.Laws.Keeps.Clauses.{up_not_down, up_not_replaying, SameFor, place_kept, fits, well_formed_fits, fits_directory, up_below, alone_up}
use Rattle.model.specs.Clauses.{Fits, Another, RoomFor}
use Rattle.model.proofs.Laws.Keeps.Peers.{with_frame_peers, took_copy_peers, dropped_peers}
use Rattle.model.proofs.Laws.Keeps.NotedRecords.{recorded_fits}
use Rattle.model.proofs.Laws.Valid.{copy_some, own_some, frame_ok_empty, frame_ok_right, frame_ok_at, recordable_plain, recordable_got}
use Rattle.model.proofs.Laws.BoardFields.{with_frame_fields}

-- ---- one entry changed

-- the entry is valid, and every board fits in the changed directory
entry_keeps : (p : ℕ) (f : Entry → Entry) (k j : Bank) → WellFormed k → p < length k.directory → SameSizes k j
    → j.directory ≡ update p f k.directory → EntryOk (length k.boards) (f (entry_at k p))
    → ((c : ℕ) → c < length k.boards → Fits (update p f k.directory) c (board_at j c))
    → ((c : ℕ) → c < length k.boards → PeersOk (length k.boards) c (board_at j c)) → WellFormed j
unfolding entry_at board_at
entry_keeps p f k j w l s d e g n =
    well_formed_fits j
    (rw (s.boards, s.pages) w.sizes)
    (rw (s.boards, d, update_set p f k.directory no_entry l)
    (each_set k.directory p (f (entry_in k.directory p)) w.directory e))
    (λ c h. rw d (g c (rw s.boards at h)))
    (λ c h. rw s.boards (n c (rw s.boards at h)))

module _ (d : List Entry) (p : ℕ) (f : Entry → Entry) where
  pub entry_in_same : p < length d → entry_in (update p f d) p ≡ f (entry_in d p)
  entry_in_same l = get_d_update_same p f d no_entry l

  pub entry_in_other : (q : ℕ) → q ≢ p → entry_in (update p f d) q ≡ entry_in d q
  entry_in_other q n = get_d_update_other p q f d no_entry n

module _ (d : List Entry) (p : ℕ) (f : Entry → Entry) (l : p < length d) (b : ℕ) (x : Board) (h : Fits d b x) where
  -- a board of which the changed entry says what the old one said
  unaffected_fits : SameFor b (entry_in d p) (f (entry_in d p)) → Fits (update p f d) b x
  unaffected_fits s =
      fits_directory d (update p f d) b x (length_update p f d)
      (λ q m. by_eq q p (λ e. rw (e, entry_in_same d p f l) s) (λ n. rw (entry_in_other d p f q n) (record { right = refl; copies = refl })))
      h

  -- an up board whose frame of page p gets the right that the changed entry gives it
  exchanged_fits : (g : Frame) → x.state ≡ Up → FrameOk g → g.right ≡ right_in (f (entry_in d p)) b → Fits (update p f d) b (with_frame p g x)
  unfolding with_frame on_working on_frames
  exchanged_fits g u v r =
      record {
        alone =
            rw (length_update p f d) (alone_up {x = with_frame p g x} u (with_frame_fields h.alone.fields p g v) h.alone.fuse h.alone.room);
        place = place_kept x.state x (with_frame p g x) h.place refl (omega arith);
        agreed =
            record {
              rights =
                  λ e q m.
                  by_eq q p
                  (λ i. rw (i, entry_in_same d p f l, frame_at_same x.working.frames p g (rw h.alone.fields.working.frames.count l)) r)
                  (λ n. rw (entry_in_other d p f q n, frame_at_other x.working.frames p q g n) (h.agreed.rights e q (rw (length_update p f d) at m)));
              copies = λ n. absurd (n u);
            };
      }

-- an up board that gives page p up: it has room for the record, and the changed entry gives it no right
dropped_fits : (d : List Entry) (w p : ℕ) (f : Entry → Entry) → p < length d → w < byte_values → (b : ℕ) (x : Board) → Fits d b x → x.state ≡ Up
    → RoomFor 1 x → right_in (f (entry_in d p)) b ≡ None → Fits (update p f d) b (dropped w p x)
unfolding dropped empty_frame on_working recorded page_of is_got
dropped_fits d w p f l i b x h u m r =
    exchanged_fits d p f l b (on_working (recorded (Dropped p) w (zeros page_size)) x)
    (recorded_fits d b (Dropped p) w (zeros page_size) x h u m (recordable_plain (Dropped p) refl l i))
    empty_frame u frame_ok_empty (sym r)

-- ---- entries

entry_ok_with_copy : (n b : ℕ) (e : Entry) → EntryOk n e → b < n → e.owner ≢ b → EntryOk n (with_copy b e)
unfolding with_copy
entry_ok_with_copy n b e h l o =
    record {
      owner = h.owner;
      copies = with_below n b e.copies h.copies l;
      owner_bit = member_with_other b e.owner e.copies o ∙ h.owner_bit;
    }

-- an owner and no copies
entry_ok_alone : (n w : ℕ) → w < n → EntryOk n (record { owner = w; copies = 0 })
entry_ok_alone n w l = record { owner = l; copies = one-le-pow n 2 (omega arith); owner_bit = member_none w }

pub entry_at_lem : {k : Bank} → WellFormed k → (p : ℕ) → p < length k.directory → EntryOk (length k.boards) (entry_at k p)
unfolding entry_at
entry_at_lem {k} w p l = each_get_d k.directory p no_entry w.directory l

-- the frame of any board at any page
pub frame_ok_of : {k : Bank} → WellFormed k → (o p : ℕ) → FrameOk (frame_of k o p)
unfolding frame_of no_board frame_at
frame_ok_of {k} w o p =
    elim (dec_lt o (length k.boards)) [
      | yes l ↦ frame_ok_at (board_at k o).working.frames p (fits w o l).alone.fields.working.frames
      | no n ↦
          let e : board_at k o ≡ no_board = board_at_out k o (omega arith) in
          rw e frame_ok_empty
    ]

-- without the right own an up board is not the owner
pub not_owner : {k : Bank} → WellFormed k → (b p : ℕ) → (board_at k b).state ≡ Up → p < length k.directory → (frame_of k b p).right ≢ Own
    → (entry_at k p).owner ≢ b
unfolding frame_of
not_owner {k} w b p u l n o = n ((w.boards b (up_below k b u)).rights u p l ∙ right_in_owner (entry_at k p) b o)

-- without a right it is neither the owner nor a holder
pub no_right : {k : Bank} → WellFormed k → (b p : ℕ) → (board_at k b).state ≡ Up → p < length k.directory → (frame_of k b p).right ≡ None
    → ((entry_at k p).owner ≢ b) × (member b (entry_at k p).copies ≡ false)
unfolding frame_of
no_right {k} w b p u l n =
    let other : (entry_at k p).owner ≢ b = not_owner w b p u l (λ e. let z : ◌≡◌ {A = ℕ} 0 1 = cc in omega arith) in
    let r : None ≡ right_in (entry_at k p) b = sym n ∙ (w.boards b (up_below k b u)).rights u p l in (
      other,
      by_bool (member b (entry_at k p).copies)
          (λ t. let c : right_in (entry_at k p) b ≡ Copy = right_in_copy (entry_at k p) b other t in let z : ◌≡◌ {A = ℕ} 0 1 = cc in absurd (omega arith))
          (λ t. t),
    )

-- a right comes from the directory: the owner, or a holder of a copy
pub right_from : (e : Entry) (b : ℕ) → right_in e b ≢ None → (e.owner ≡ b) ⊎ (member b e.copies ≡ true)
unfolding right_in
right_from e b h =
    by_bool (eqb e.owner b)
    (λ t. inl (eqb-true e.owner b t))
    (λ t. by_bool (member b e.copies) (λ m. inr m) (λ m. absurd (h (cc))))

-- a board's number fits in a byte
pub board_byte : {k : Bank} → WellFormed k → (b : ℕ) → b < length k.boards → b < byte_values
board_byte w b h = omega (arith, w.sizes.boards)

-- ---- a copy given

module _ (o b p : ℕ) (k : Bank) where
  -- "reader records got copy, gains the copy and its bit": the reader is up, has room for one record and isn't the owner
  pub give_copy_keeps : WellFormed k → (board_at k b).state ≡ Up → RoomFor 1 (board_at k b) → p < length k.directory → (entry_at k p).owner ≢ b
      → Another o b k → WellFormed (give_copy o b p k)
  unfolding give_copy note on_board on_entry with_copy took_copy on_working recorded entry_at
  give_copy_keeps w u m l n other =
      let d : List Entry = k.directory in
      let bytes : List ℕ = (frame_of k o p).bytes in
      let x : Board = board_at k b in
      let i : b < length k.boards = up_below k b u in
      let v : FrameOk (frame_of k o p) = frame_ok_of w o p in
      entry_keeps p (with_copy b) k (give_copy o b p k) w l (sizes_give_copy o b p k) refl
      (entry_ok_with_copy (length k.boards) b (entry_at k p) (entry_at_lem w p l) i n)
      (λ c j.
      by_eq c b
      (λ e.
      rw (e, board_at_give_copy_same o b p k i)
      (exchanged_fits d p (with_copy b) l b (on_working (recorded (Got GotCopy p) o bytes) x)
      (recorded_fits d b (Got GotCopy p) o bytes x (fits w b i) u m (recordable_got GotCopy v l (board_byte w o other.board)))
      (record { right = Copy; bytes = bytes }) u
      (frame_ok_right Copy copy_some v)
      (sym (right_in_copy (with_copy b (entry_at k p)) b n (member_with_same b (entry_at k p).copies)))))
      (λ e.
      let s : member c (with_member b (entry_at k p).copies) ≡ member c (entry_at k p).copies = member_with_other b c (entry_at k p).copies e in
      rw (board_at_give_copy_other o b p k c e)
      (unaffected_fits d p (with_copy b) l c (board_at k c) (fits w c j)
      (record { right = right_in_same (entry_at k p) (with_copy b (entry_at k p)) c refl s; copies = s }))))
      (λ c j.
      by_eq c b
      (λ e. rw (e, board_at_give_copy_same o b p k i) (took_copy_peers o other.board other.other p bytes (w.peers b i)))
      (λ e. rw (board_at_give_copy_other o b p k c e) (w.peers c j)))

-- ---- the copies of a page dropped

-- a holder of a copy is up
pub holder_up : {k : Bank} → WellFormed k → (c p : ℕ) → c < length k.boards → p < length k.directory → member c (entry_at k p).copies ≡ true
    → (board_at k c).state ≡ Up
unfolding entry_at
holder_up {k} w c p i l m =
    by_state (board_at k c).state
    (λ e. e)
    (λ e. clash m ((fits w c i).agreed.copies (λ u. up_not_down u e) p l))
    (λ e. clash m ((fits w c i).agreed.copies (λ u. up_not_replaying u e) p l))

-- a board that loses its right to writer w, another board
dropped_if_peers : (n w p c : ℕ) (t : Bool) (x : Board) → w < n → (t ≡ true → w ≢ c) → PeersOk n c x → PeersOk n c (dropped_if t w p x)
unfolding dropped_if
dropped_if_peers n w p c t x i o h = cases (PeersOk n c) t (λ e. dropped_peers w i (o e) p h) (λ e. h)

module _ (w p : ℕ) (k : Bank) where
  -- "each holder records dropped and loses its copy, the copy-set empties": each holder has room for one record, and the writer is the owner
  pub drop_copies_keeps : WellFormed k → p < length k.directory → (entry_at k p).owner ≡ w
      → ((c : ℕ) → c < length k.boards → member c (entry_at k p).copies ≡ true → RoomFor 1 (board_at k c)) → WellFormed (drop_copies w p k)
  unfolding drop_copies drop_at on_entry without_copies dropped_if entry_at
  drop_copies_keeps wf l own m =
      let d : List Entry = k.directory in
      let e : Entry = entry_at k p in
      let o : EntryOk (length k.boards) e = entry_at_lem wf p l in
      let i : w < length k.boards = rw (← own) o.owner in
      entry_keeps p without_copies k (drop_copies w p k) wf l (sizes_drop_copies w p k) refl
      (entry_ok_alone (length k.boards) e.owner o.owner)
      (λ c j.
      rw (board_at_drop_copies w p k c j)
      (cases (Fits (update p without_copies d) c) (member c e.copies)
      (λ t.
      dropped_fits d w p without_copies l (board_byte wf w i) c (board_at k c) (fits wf c j) (holder_up wf c p j l t) (m c j t)
      (right_in_none (without_copies e) c (λ i. clash (rw i t) o.owner_bit) (member_none c)))
      (λ t.
      unaffected_fits d p without_copies l c (board_at k c) (fits wf c j)
      (record { right = right_in_same e (without_copies e) c refl (member_none c ∙ sym t); copies = member_none c ∙ sym t }))))
      (λ c j.
      rw (board_at_drop_copies w p k c j)
      (dropped_if_peers (length k.boards) w p c (member c e.copies) (board_at k c) i (λ t s. clash t (rw (own, s) at o.owner_bit)) (wf.peers c j)))

-- ---- a page passed on

pub or_cases : {X : Type 0} (a b : Bool) → (a || b) ≡ true → (a ≡ true → X) → (b ≡ true → X) → X
or_cases true b h f g = f refl
or_cases false b h f g = g h

pub or_none : (a b : Bool) → (a || b) ≡ false → (a ≡ false) × (b ≡ false)
or_none true b h = clash refl h
or_none false b h = (refl, h)

module _ (o w p : ℕ) (k : Bank) where
  -- "then together owner and all copy holders but the writer ..": the owner and the writer are up, and whoever loses its right has room for one record
  pub pass_ownership_keeps : WellFormed k → p < length k.directory → (entry_at k p).owner ≡ o → (board_at k o).state ≡ Up → (board_at k w).state ≡ Up
      → ((c : ℕ) → c < length k.boards → c ≢ w → (eqb c o || member c (entry_at k p).copies) ≡ true → RoomFor 1 (board_at k c))
      → WellFormed (pass_ownership o w p k)
  unfolding pass_ownership drop_at on_board on_entry owned_by took_own dropped_if entry_at
  pass_ownership_keeps wf l own up u m =
      let d : List Entry = k.directory in
      let e : Entry = entry_at k p in
      let i : w < length k.boards = up_below k w u in
      entry_keeps p (owned_by w) k (pass_ownership o w p k) wf l (sizes_pass_ownership o w p k) refl
      (entry_ok_alone (length k.boards) w i)
      (λ c j.
      by_eq c w
      (λ q.
      rw (q, board_at_pass_ownership_same o w p k i)
      (exchanged_fits d p (owned_by w) l w (board_at k w) (fits wf w i) (record { right = Own; bytes = (frame_of k o p).bytes }) u
      (frame_ok_right Own own_some (frame_ok_of wf o p))
      (sym (right_in_owner (owned_by w e) w refl))))
      (λ n.
      rw (board_at_pass_ownership_other o w p k c j n)
      (cases (Fits (update p (owned_by w) d) c) (eqb c o || member c e.copies)
      (λ t.
      dropped_fits d w p (owned_by w) l (board_byte wf w i) c (board_at k c) (fits wf c j)
      (or_cases (eqb c o) (member c e.copies) t (λ s. rw (eqb-true c o s) up) (holder_up wf c p j l))
      (m c j n t)
      (right_in_none (owned_by w e) c (λ s. n (sym s)) (member_none c)))
      (λ t.
      let f : (eqb c o ≡ false) × (member c e.copies ≡ false) = or_none (eqb c o) (member c e.copies) t in
      unaffected_fits d p (owned_by w) l c (board_at k c) (fits wf c j)
      (record {
        right =
            right_in_none (owned_by w e) c (λ s. n (sym s)) (member_none c)
            ∙ sym (right_in_none e c (λ s. eqb-false c o f.0 (sym s ∙ own)) f.1);
        copies = member_none c ∙ sym f.1;
      })))))
      (λ c j.
      by_eq c w
      (λ q. rw (q, board_at_pass_ownership_same o w p k i) (with_frame_peers p _ (wf.peers w i)))
      (λ n.
      rw (board_at_pass_ownership_other o w p k c j n)
      (dropped_if_peers (length k.boards) w p c (eqb c o || member c e.copies) (board_at k c) i (λ t s. n (sym s)) (wf.peers c j))))
