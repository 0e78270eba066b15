-- A fetch is a list of moves, under what codes 6 and 7 tested. Assumes nothing.
use Rattle.std.specs.Prelude.{◌≡◌, refl, ◌≢◌, true, length}
use Rattle.std.proofs.Common.{sym, ◌∙◌, arith, ne_eqb}
use Rattle.std.proofs.Math.Path.{ap}
use Prim.Native.Nat.{ℕ, suc, ◌<◌}
use Rattle.std.proofs.Math.Option.{Option, none}
use Rattle.model.specs.Definitions.WellFormed.{right_in, WellFormed}
use mathlib.Core.List.{List, [], ◌∷◌, ◌++◌, map, append-nil, append_assoc}
use Rattle.words.specs.Bytes.{Each, each_nil, each_cons}
use Rattle.types.specs.declared.Right.TheVariants.{None, Own}
use Rattle.types.specs.declared.CopyOrOwn.TheVariants.{GotCopy, GotOwn}
use Rattle.types.specs.declared.Kind.TheVariants.{Got, Shown}
use Rattle.types.specs.declared.State.TheVariants.{Up}
use Rattle.model.specs.Definitions.Parts.{zeros, member}
use Rattle.model.specs.Definitions.Layout.{page_size}
use Rattle.model.specs.Definitions.Bank.{Entry, Board, Bank, board_at, entry_at, frame_at, on_working}
use Rattle.model.specs.Definitions.Steps.{Run, Access, step, names, takes, note, flush, frame_of, giver, show, give_copy, show_all, give_copies, read_fetch}
use Rattle.model.specs.Definitions.Steps.{recorded, write_fetch}
use Rattle.model.specs.Clauses.{CanFetch, Another}
use Rattle.model.specs.Moves.{NoteGot, GiveCopy, PassOwnership, does, Phase, Begun, Noted, Fetched, taker, TakesCopy, first, behind, Gives, notes_got}
use Rattle.model.specs.Moves.{gives_copy, passes_ownership, Moves, still, cut_off}
use Rattle.model.proofs.Laws.Logic.{by_bool, by_option}
use Rattle.model.proofs.Laws.Lists.{each_head, each_tail, each_imp, each_append, map_same, map_each}
use Rattle.model.proofs.Laws.Below.{Rising, rising_each}
use Rattle.model.proofs.Laws.Runs.{step_none, step_done, step_lost, step_cases, follows_none, follows_show, Changed, entry_at_changed}
use Rattle.model.proofs.Laws.Runs.Stores.{FlushedWith, show_changed}
use Rattle.model.proofs.Laws.Keeps.Clauses.{fits, up_below}
use Rattle.model.proofs.Laws.Keeps.Fetches.{page_there, owner_up, owner_other, room_taker, room_owner, writer_same, gave_changed, got_changed, gave_none}
use Rattle.model.proofs.Laws.Keeps.Fetches.{room_got}
use Rattle.model.proofs.Laws.Keeps.Givers.{giver_right, giver_give_copy}
use Rattle.model.proofs.Laws.Keeps.Copies.{note_flush_secure, show_secure, room_giver, shared_giver, show_all_shared, shown_can, CanTake}
use Rattle.model.proofs.Laws.Keeps.Copies.{shown_take, taken_take}
use Rattle.model.proofs.Laws.Moves.{moves_do}
use Rattle.model.proofs.Laws.Moves.Stores.{noted_up, flush_moves, show_moves}
use Rattle.model.proofs.Laws.Moves.Formed.{formed_begun, run_formed, moves_formed}

-- ---- a read fetch

-- a taker is another board than its giver
pub taker_other : (k : Bank) (b o : ℕ) → (board_at k b).state ≡ Up → o ≢ b → Another b o k
taker_other k b o u n = record { board = up_below k b u; other = λ e. n (sym e) }

-- the givers' part, page by page
pub show_all_moves : {b : ℕ} {Again : Access → Type 0} {φ : Phase} {r : Run} (ps : List ℕ) (s : Run) → (s.lost ≡ none → CanFetch GotCopy b ps s.bank)
    → Moves b Again φ r Begun s → Moves b Again φ r Begun (show_all b ps s)
unfolding show_all
show_all_moves [] s c t = t
show_all_moves {b} (p ∷ ps) s c t =
    let o : ℕ = giver GotCopy s.bank p in
    show_all_moves ps (show o b p s)
    (λ e. shown_can b p ps s (c (follows_none (follows_show o b p s) e)) e)
    (show_moves o p t (λ e. each_head (c e).givers) (λ e. room_giver b p ps s.bank (c e)) (λ e. each_head (c e).pages)
    (λ e. taker_other s.bank b o (c e).taker (each_head (c e).others)))

-- one copy, then the others
step_copies : (b p : ℕ) (ps : List ℕ) (s : Run)
    → step (give_copies b (p ∷ ps)) s ≡ step (give_copies b ps) (step (give_copy (giver GotCopy s.bank p) b p) s)
unfolding step give_copies
step_copies b p ps s = by_option s.lost (λ n. cc) (λ c e. cc)

no_copies : (b : ℕ) (s : Run) → step (give_copies b []) s ≡ s
unfolding step give_copies
no_copies b s =
    let at : Option ℕ → Run = λ o. record { bank = s.bank; stores = s.stores; lost = o } in
    by_option s.lost (λ n. let t : step (give_copies b []) s ≡ at none = cc in t ∙ ap at (sym n)) (λ c e. cc)

-- a copy given leaves who gives the pages behind it
givers_step : (b p : ℕ) (ps : List ℕ) (s : Run) → Rising (suc p) ps
    → map (giver GotCopy (step (give_copy (giver GotCopy s.bank p) b p) s).bank) ps ≡ map (giver GotCopy s.bank) ps
givers_step b p ps s rise =
    step_cases (λ u. map (giver GotCopy u.bank) ps ≡ map (giver GotCopy s.bank) ps) (give_copy (giver GotCopy s.bank p) b p) s
    (λ c e. refl)
    (λ e.
    map_each ps
    (each_imp ps (λ q l. giver_give_copy GotCopy (giver GotCopy s.bank p) b p s.bank q (λ i. absurd (omega (arith, l)))) (rising_each (suc p) ps rise)))

copy_take : (b p : ℕ) (ps : List ℕ) (s : Run) → Rising (suc p) ps → (s.lost ≡ none → CanTake b (p ∷ ps) s.bank)
    → (step (give_copy (giver GotCopy s.bank p) b p) s).lost ≡ none → CanTake b ps (step (give_copy (giver GotCopy s.bank p) b p) s).bank
copy_take b p ps s rise can n =
    let f : Bank → Bank = give_copy (giver GotCopy s.bank p) b p in
    rw (step_done f s n) (taken_take b p ps s.bank (can (step_none f s n)) rise)

module _ {b : ℕ} {Again : Access → Type 0} {φ : Phase} {r : Run} (a : Access) (copy : takes a ≡ GotCopy) where
  -- one copy
  copy_moves : (p : ℕ) (ps : List ℕ) (s : Run) {χ ψ : Phase} → TakesCopy a (giver GotCopy s.bank p) p χ ψ → names a p ≡ true
      → (s.lost ≡ none → CanTake b (p ∷ ps) s.bank) → Moves b Again φ r χ s → Moves b Again φ r ψ (step (give_copy (giver GotCopy s.bank p) b p) s)
  unfolding does
  copy_moves p ps s x named can t =
      let o : ℕ = giver GotCopy s.bank p in
      moves_do (GiveCopy o b p) t
      (λ e.
      gives_copy a o p x copy named (each_head (can e).gives) (can e).up (omega (arith, (can e).room)) (each_head (can e).rights))

  -- the copies behind the first, each of a higher page
  behind_moves : (n : ℕ) (ps os qs : List ℕ) (s : Run) → Each (λ p. names a p ≡ true) ps → Each (λ q. q < n) qs → Rising n ps
      → (s.lost ≡ none → CanTake b ps s.bank) → Moves b Again φ r (Fetched a os qs) s
      → Moves b Again φ r (Fetched a (os ++ map (giver GotCopy s.bank) ps) (qs ++ ps)) (step (give_copies b ps) s)
  unfolding Rising
  behind_moves n [] os qs s named low rise can t = rw (no_copies b s, append-nil os, append-nil qs) t
  behind_moves n (p ∷ ps) os qs s named low rise can t =
      let o : ℕ = giver GotCopy s.bank p in
      let u : Run = step (give_copy o b p) s in
      let lower : Each (λ q. q < suc p) (qs ++ (p ∷ [])) =
      each_append qs (p ∷ []) (each_imp qs (λ q l. omega (arith, rise.0)) low) (each_cons (omega arith) each_nil) in
      let here : Moves b Again φ r (Fetched a (os ++ (o ∷ [])) (qs ++ (p ∷ []))) u =
      copy_moves p ps s (behind (each_imp qs (λ q l. omega (arith, rise.0)) low)) (each_head named) can t in
      let rest : Moves b Again φ r (Fetched a ((os ++ (o ∷ [])) ++ map (giver GotCopy u.bank) ps) ((qs ++ (p ∷ [])) ++ ps)) (step (give_copies b ps) u) =
      behind_moves (suc p) ps (os ++ (o ∷ [])) (qs ++ (p ∷ [])) u (each_tail named) lower rise.1 (copy_take b p ps s rise.1 can) here in
      rw
      (step_copies b p ps s, ← append_assoc os (o ∷ []) (map (giver GotCopy s.bank) ps), ← append_assoc qs (p ∷ []) ps, ← givers_step b p ps s rise.1)
      rest

  -- all of them
  copies_moves : (p : ℕ) (ps : List ℕ) (s : Run) → Each (λ q. names a q ≡ true) (p ∷ ps) → Rising 0 (p ∷ ps)
      → (s.lost ≡ none → CanTake b (p ∷ ps) s.bank) → Moves b Again φ r Begun s
      → Moves b Again φ r (Fetched a (map (giver GotCopy s.bank) (p ∷ ps)) (p ∷ ps)) (step (give_copies b (p ∷ ps)) s)
  unfolding Rising
  copies_moves p ps s named rise can t =
      let o : ℕ = giver GotCopy s.bank p in
      let u : Run = step (give_copy o b p) s in
      rw (step_copies b p ps s, ← givers_step b p ps s rise.1)
      (behind_moves (suc p) ps (o ∷ []) (p ∷ []) u (each_tail named) (each_cons (omega arith) each_nil) rise.1 (copy_take b p ps s rise.1 can)
      (copy_moves p ps s first (each_head named) can t))

  -- "Read fetch: .."
  pub read_fetch_moves : (p : ℕ) (ps : List ℕ) (s : Run) → WellFormed s.bank → CanFetch GotCopy b (p ∷ ps) s.bank
      → Each (λ q. (frame_of s.bank b q).right ≡ None) (p ∷ ps) → Each (λ q. names a q ≡ true) (p ∷ ps) → Rising 0 (p ∷ ps) → Moves b Again φ r Begun s
      → Moves b Again φ r (Fetched a (map (giver GotCopy s.bank) (p ∷ ps)) (p ∷ ps)) (read_fetch b (p ∷ ps) s)
  unfolding read_fetch
  read_fetch_moves p ps s w c lack named rise t =
      let qs : List ℕ = p ∷ ps in
      let u : Run = show_all b qs s in
      let shown : Moves b Again φ r Begun u = show_all_moves qs s (λ e. c) t in
      by_option u.lost
      (λ n.
      let same : map (giver GotCopy u.bank) qs ≡ map (giver GotCopy s.bank) qs =
      map_same qs (shared_giver (show_all_shared b qs s c n) GotCopy) in
      rw (← same) (copies_moves p ps u named rise (λ e. shown_take b qs s w c lack e) shown))
      (λ d e. rw (step_lost (give_copies b qs) u e) (cut_off shown e))

-- ---- a write fetch

-- an entry gives right own to its owner alone
owned_not : (e : Entry) (b : ℕ) → e.owner ≢ b → right_in e b ≢ Own
unfolding right_in
owned_not e b n i =
    by_bool (member b e.copies)
    (λ t. let z : ◌≡◌ {A = ℕ} 0 1 = cc (ne_eqb e.owner b n, t) in absurd (omega arith))
    (λ t. let z : ◌≡◌ {A = ℕ} 0 1 = cc (ne_eqb e.owner b n, t) in absurd (omega arith))

-- what follows the owner's part
module _ (b p : ℕ) (s : Run) (formed : WellFormed s.bank) where
  abbrev o : ℕ
  o = giver GotOwn s.bank p

  -- the owner after its part
  gives_shown : (board_at s.bank (giver GotOwn s.bank p)).state ≡ Up → p < length s.bank.directory → giver GotOwn s.bank p ≢ b
      → (show (giver GotOwn s.bank p) b p s).lost ≡ none → Gives (giver GotOwn s.bank p) b p (show (giver GotOwn s.bank p) b p s).bank
  unfolding frame_of on_working recorded
  gives_shown u l n e =
      let d : Changed o (FlushedWith (Shown p) b (zeros page_size)) s.bank (show o b p s).bank = show_changed o b p s e in
      record {
        page = rw d.directory l;
        right = rw (d.this (up_below s.bank o u)).frames (giver_right formed p l GotOwn u);
        other = n;
        secure = show_secure o b p s u e;
      }

  -- the owner's part leaves the taker's frames
  frame_same : (show (giver GotOwn s.bank p) b p s).lost ≡ none → CanFetch GotOwn b (p ∷ []) s.bank
      → (frame_of (show (giver GotOwn s.bank p) b p s).bank b p).right ≡ (frame_of s.bank b p).right
  unfolding frame_of
  frame_same e c = ap (λ (x : Board). (frame_at x.working.frames p).right) (writer_same b p s formed c e)

  -- who isn't the owner doesn't own the page
  unowned : CanFetch GotOwn b (p ∷ []) s.bank → (frame_of s.bank b p).right ≢ Own
  unfolding frame_of giver entry_at
  unowned c e =
      owned_not (entry_at s.bank p) b (owner_other b p s formed c)
      (sym ((fits formed b (up_below s.bank b c.taker)).agreed.rights c.taker p (page_there b p s formed c)) ∙ e)

  -- "writer records got own and flushes"
  pub got_moves : {Again : Access → Type 0} {φ : Phase} {r : Run} → CanFetch GotOwn b (p ∷ []) s.bank
      → Moves b Again φ r Begun (show (giver GotOwn s.bank p) b p s)
      → Moves b Again φ r (Noted (giver GotOwn s.bank p) p)
      (flush b (step (λ k. note b (Got GotOwn p) (giver GotOwn s.bank p) (frame_of k (giver GotOwn s.bank p) p).bytes k) (show (giver GotOwn s.bank p) b p s)))
  unfolding does
  got_moves c t =
      flush_moves b taker
      (moves_do (NoteGot b o p) t
      (λ e.
      notes_got o p
      (rw (writer_same b p s formed c e) c.taker)
      (rw (writer_same b p s formed c e) (room_taker b p s formed c))
      (rw (gave_changed b p s formed c e).directory (page_there b p s formed c))
      (λ i. unowned c (sym (frame_same e c) ∙ i))
      (record { board = rw (gave_changed b p s formed c e).boards (up_below s.bank o (owner_up b p s formed c)); other = owner_other b p s formed c })))
      (noted_up b (Got GotOwn p) o (λ k. (frame_of k o p).bytes) (show o b p s) (λ e. rw (writer_same b p s formed c e) c.taker))

  -- "Write fetch: .."
  pub write_fetch_moves : {Again : Access → Type 0} {φ : Phase} {r : Run} (a : Access) → takes a ≡ GotOwn → names a p ≡ true
      → CanFetch GotOwn b (p ∷ []) s.bank
      → Moves b Again φ r Begun (show (giver GotOwn s.bank p) b p s)
      → Moves b Again φ r (Fetched a (giver GotOwn s.bank p ∷ []) (p ∷ [])) (write_fetch b p s)
  unfolding write_fetch does giver frame_of
  write_fetch_moves a own named c t =
      let gave : Run = show o b p s in
      let bytes : Bank → List ℕ = λ k. (frame_of k o p).bytes in
      let got : Run = flush b (step (λ k. note b (Got GotOwn p) o (bytes k) k) gave) in
      moves_do (PassOwnership o b p) (got_moves c t)
      (λ e.
      let m : gave.lost ≡ none = gave_none b p s formed c e in
      let g : Changed o (FlushedWith (Shown p) b (zeros page_size)) s.bank gave.bank = gave_changed b p s formed c m in
      let d : Changed b (FlushedWith (Got GotOwn p) o (bytes gave.bank)) gave.bank got.bank = got_changed b p s formed c e in
      let entry : entry_at got.bank p ≡ entry_at s.bank p = entry_at_changed d p ∙ entry_at_changed g p in
      let gives : Gives o b p gave.bank = gives_shown (owner_up b p s formed c) (page_there b p s formed c) (owner_other b p s formed c) m in
      passes_ownership a o p own named
      (record {
        page = rw d.directory gives.page;
        right = rw (d.others o (owner_other b p s formed c)) gives.right;
        other = owner_other b p s formed c;
        secure = rw (d.others o (owner_other b p s formed c)) gives.secure;
      })
      (ap (λ (x : Entry). x.owner) entry)
      (note_flush_secure b (Got GotOwn p) o bytes gave (rw (writer_same b p s formed c m) c.taker) e)
      (λ x l n i. room_got b p s formed c x e (rw (d.boards, g.boards) at l) n (rw entry at i)))

  pub got_keeps : CanFetch GotOwn b (p ∷ []) s.bank
      → WellFormed (flush b (step (λ k. note b (Got GotOwn p) (giver GotOwn s.bank p) (frame_of k (giver GotOwn s.bank p) p).bytes k) (show (giver GotOwn s.bank p) b p s))).bank
  got_keeps c =
      run_formed {d = b} {b = b} taker
      (moves_formed
      (got_moves {Again = λ a. ⊥} c
      (show_moves o p still (λ e. owner_up b p s formed c) (λ e. omega (arith, room_owner b p s formed c)) (λ e. page_there b p s formed c)
      (λ e. taker_other s.bank b o c.taker (owner_other b p s formed c))))
      (formed_begun b s formed))
