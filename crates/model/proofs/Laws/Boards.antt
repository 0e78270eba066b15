-- What stands at a board, at an entry and at a frame after each operation on a bank, and that the lists of boards and entries keep their lengths.
-- Assumes nothing.
use Rattle.std.specs.Prelude.{◌≡◌, ◌≢◌, Bool, ◌&&◌, ◌||◌, not, get_or, set, eqb, ltb}
use Rattle.std.proofs.Math.Path.{refl, ap, fun_ext}
use Rattle.std.proofs.Common.{◌∙◌, le_of_suc-le-suc, not-suc-le-zero, get_or-set_same, get_or-set_other}
use Prim.Native.Nat.{ℕ, zero, suc, ◌≤◌, ◌<◌}
use Rattle.std.proofs.Math.Bool.{true, false}
use mathlib.Core.List.{List, [], ◌∷◌, map}
use Rattle.std.proofs.Math.ListN.{length, length-map, get_or-eq_default}
use borrow.Author.Tests.{eq-eqb, ne_eqb, ltb-true, ltb-false}
use Rattle.types.specs.declared.Right.TheVariants.{None, Copy, Own}
use Rattle.types.specs.declared.Frame.{Frame}
use Rattle.types.specs.declared.CopyOrOwn.TheVariants.{GotCopy}
use Rattle.types.specs.declared.Record.{Record}
use Rattle.types.specs.declared.Kind.TheVariants.{Got}
use Rattle.model.specs.Definitions.Parts.{update, each, member, with_member}
use Rattle.model.specs.Definitions.Bank.{Entry, Board, Bank, empty_frame, no_board, board_at, entry_at, frame_at, on_board, on_entry, on_working, no_entry}
use Rattle.model.specs.Definitions.Steps.{powered_off, forgotten, power_off, recorded, note, moved_record, stored_record, with_frame, frame_of, give_copy}
use Rattle.model.specs.Definitions.Steps.{dropped, drop_at, drop_copies, pass_ownership, Access}
use Rattle.model.specs.Definitions.Replay.{used_up, took_due, replayed}
use Rattle.words.specs.Bytes.{Each, each_nil, each_cons}
use Rattle.model.specs.Definitions.WellFormed.{right_in}
unfoldable pub use Rattle.model.specs.Clauses.{took_copy, took_own}
use Rattle.model.proofs.Laws.Logic.{by_bool}
use Rattle.model.proofs.Laws.Lists.{each_head, each_tail, length_update, get_d_update_same, get_d_update_other, length_each, get_d_each}

-- ---- lists: what the laws of Lists leave out

module _ {A : Type 0} where
  pub update_out : (i : ℕ) (f : A → A) (xs : List A) → length xs ≤ i → update i f xs ≡ xs
  unfolding update
  update_out i f [] h = refl
  update_out zero f (x ∷ xs) h = absurd (not-suc-le-zero h)
  update_out (suc i) f (x ∷ xs) h = ap (λ (l : List A). x ∷ l) (update_out i f xs (le_of_suc-le-suc h))

  pub update_update : (i : ℕ) (f g : A → A) (xs : List A) → update i g (update i f xs) ≡ update i (λ x. g (f x)) xs
  unfolding update
  update_update i f g [] = refl
  update_update zero f g (x ∷ xs) = refl
  update_update (suc i) f g (x ∷ xs) = ap (λ (l : List A). x ∷ l) (update_update i f g xs)

  -- the default is free where the index is in range
  pub get_d_map_below : {B : Type 0} (f : B → A) (xs : List B) (i : ℕ) (d : A) (e : B) → i < length xs → get_or (map f xs) i d ≡ f (get_or xs i e)
  get_d_map_below f [] i d e h = absurd (not-suc-le-zero h)
  get_d_map_below f (x ∷ xs) zero d e h = refl
  get_d_map_below f (x ∷ xs) (suc i) d e h = get_d_map_below f xs i d e (le_of_suc-le-suc h)

  pub each_map_of : {B : Type 0} {P : A → Type 0} {Q : B → Type 0} (f : B → A) (xs : List B) → ((x : B) → Q x → P (f x)) → Each Q xs → Each P (map f xs)
  each_map_of f [] h e = each_nil
  each_map_of f (x ∷ xs) h e = each_cons (h x (each_head e)) (each_map_of f xs h (each_tail e))

-- ---- the right that an entry gives

pub right_in_owner : (e : Entry) (b : ℕ) → e.owner ≡ b → right_in e b ≡ Own
unfolding right_in
right_in_owner e b h = cc (eq-eqb e.owner b h)

pub right_in_copy : (e : Entry) (b : ℕ) → e.owner ≢ b → member b e.copies ≡ true → right_in e b ≡ Copy
unfolding right_in
right_in_copy e b h m = cc (ne_eqb e.owner b h)

pub right_in_none : (e : Entry) (b : ℕ) → e.owner ≢ b → member b e.copies ≡ false → right_in e b ≡ None
unfolding right_in
right_in_none e b h m = cc (ne_eqb e.owner b h)

pub right_in_same : (e e' : Entry) (b : ℕ) → e'.owner ≡ e.owner → member b e'.copies ≡ member b e.copies → right_in e' b ≡ right_in e b
unfolding right_in
right_in_same e e' b o m = cc

-- ---- a frame

pub frame_at_same : (fs : List Frame) (p : ℕ) (f : Frame) → p < length fs → frame_at (set fs p f) p ≡ f
unfolding frame_at
frame_at_same fs p f h = get_or-set_same fs p f empty_frame h

pub frame_at_other : (fs : List Frame) (p q : ℕ) (f : Frame) → q ≢ p → frame_at (set fs p f) q ≡ frame_at fs q
unfolding frame_at
frame_at_other fs p q f h = get_or-set_other fs p q f empty_frame h

pub frame_at_each : (p : ℕ) (g : ℕ → Frame → Frame) (fs : List Frame) → p < length fs → frame_at (each g fs) p ≡ g p (frame_at fs p)
unfolding frame_at
frame_at_each p g fs h = get_d_each p g fs empty_frame h

-- ---- the first volatile record, if there is one

pub stored_record_cases : (P : Board → Type 0) (x : Board) → (x.working.log ≡ [] → P x)
    → ((r : Record) (rs : List Record) → x.working.log ≡ r ∷ rs → P (moved_record r rs x)) → P (stored_record x)
unfolding stored_record
stored_record_cases P x f g = go x.working.log refl
  where
    go : (l : List Record) → x.working.log ≡ l → P (elim l [ [] ↦ x | r ∷ rs ↦ moved_record r rs x ])
    go [] e = f e
    go (r ∷ rs) e = g r rs e

-- ---- one board changed

pub board_at_out : (k : Bank) (b : ℕ) → length k.boards ≤ b → board_at k b ≡ no_board
unfolding board_at
board_at_out k b h = get_or-eq_default k.boards no_board {n = b} h

-- a board is there or not
pub by_board : {X : Type 0} (k : Bank) (c : ℕ) → (c < length k.boards → X) → (length k.boards ≤ c → X) → X
by_board k c f g = by_bool (ltb c (length k.boards)) (λ t. f (ltb-true c (length k.boards) t)) (λ t. g (ltb-false c (length k.boards) t))

module _ (b : ℕ) (f : Board → Board) (k : Bank) where
  pub boards_on_board : length (on_board b f k).boards ≡ length k.boards
  unfolding on_board
  boards_on_board = length_update b f k.boards

  pub directory_on_board : (on_board b f k).directory ≡ k.directory
  unfolding on_board
  directory_on_board = refl

  pub board_at_same : b < length k.boards → board_at (on_board b f k) b ≡ f (board_at k b)
  unfolding board_at on_board
  board_at_same h = get_d_update_same b f k.boards no_board h

  pub board_at_other : (c : ℕ) → c ≢ b → board_at (on_board b f k) c ≡ board_at k c
  unfolding board_at on_board
  board_at_other c h = get_d_update_other b c f k.boards no_board h

  -- a board that isn't there can't be changed
  pub on_board_out : length k.boards ≤ b → on_board b f k ≡ k
  unfolding on_board
  on_board_out h = ap (λ (xs : List Board). record { directory = k.directory; boards = xs }) (update_out b f k.boards h)

pub on_board_on_board : (b : ℕ) (f g : Board → Board) (k : Bank) → on_board b g (on_board b f k) ≡ on_board b (λ x. g (f x)) k
unfolding on_board
on_board_on_board b f g k =
    ap (λ (xs : List Board). record { directory = k.directory; boards = xs }) (update_update b f g k.boards)

-- ---- one entry changed

module _ (p : ℕ) (f : Entry → Entry) (k : Bank) where
  pub directory_on_entry : length (on_entry p f k).directory ≡ length k.directory
  unfolding on_entry
  directory_on_entry = length_update p f k.directory

  pub board_at_on_entry : (b : ℕ) → board_at (on_entry p f k) b ≡ board_at k b
  unfolding board_at on_entry
  board_at_on_entry b = refl

  pub entry_at_same : p < length k.directory → entry_at (on_entry p f k) p ≡ f (entry_at k p)
  unfolding entry_at on_entry
  entry_at_same h = get_d_update_same p f k.directory no_entry h

-- ---- a power loss

module _ (b : ℕ) (k : Bank) where
  pub boards_power_off : length (power_off b k).boards ≡ length k.boards
  unfolding power_off on_board
  boards_power_off = length_update b powered_off k.boards

  pub directory_power_off : length (power_off b k).directory ≡ length k.directory
  unfolding power_off on_board
  directory_power_off = length-map k.directory (forgotten b)

  pub board_at_power_off_same : b < length k.boards → board_at (power_off b k) b ≡ powered_off (board_at k b)
  unfolding power_off on_board board_at
  board_at_power_off_same h = get_d_update_same b powered_off k.boards no_board h

  pub board_at_power_off_other : (c : ℕ) → c ≢ b → board_at (power_off b k) c ≡ board_at k c
  unfolding power_off on_board board_at
  board_at_power_off_other c h = get_d_update_other b c powered_off k.boards no_board h

  -- what a change left of the board's working memory and of its fuse is gone
  pub power_off_on_board : (f : Board → Board) → ((x : Board) → powered_off (f x) ≡ powered_off x) → power_off b (on_board b f k) ≡ power_off b k
  unfolding power_off on_board
  power_off_on_board f h =
      ap (λ (xs : List Board). record { directory = map (forgotten b) k.directory; boards = xs })
      (update_update b f powered_off k.boards ∙ ap (λ (g : Board → Board). update b g k.boards) (fun_ext h))

-- ---- a copy given

unfoldable pub with_copy : ℕ → Entry → Entry
with_copy b e = record { owner = e.owner; copies = with_member b e.copies }

module _ (o b p : ℕ) (k : Bank) where
  abbrev copied : Board → Board
  copied = took_copy o p (frame_of k o p).bytes

  pub give_copy_parts : give_copy o b p k ≡ on_entry p (with_copy b) (on_board b (took_copy o p (frame_of k o p).bytes) k)
  unfolding give_copy note took_copy with_copy
  give_copy_parts =
      let bytes : List ℕ = (frame_of k o p).bytes in
      rw (on_board_on_board b (on_working (recorded (Got GotCopy p) o bytes)) (with_frame p (record { right = Copy; bytes = bytes })) k)

  pub boards_give_copy : length (give_copy o b p k).boards ≡ length k.boards
  unfolding on_entry
  boards_give_copy = rw give_copy_parts (boards_on_board b copied k)

  pub directory_give_copy : length (give_copy o b p k).directory ≡ length k.directory
  unfolding on_board
  directory_give_copy = rw give_copy_parts (directory_on_entry p (with_copy b) (on_board b copied k))

  pub board_at_give_copy_same : b < length k.boards → board_at (give_copy o b p k) b ≡ took_copy o p (frame_of k o p).bytes (board_at k b)
  board_at_give_copy_same h = rw (give_copy_parts, board_at_on_entry) (board_at_same b copied k h)

  pub board_at_give_copy_other : (c : ℕ) → c ≢ b → board_at (give_copy o b p k) c ≡ board_at k c
  board_at_give_copy_other c h = rw (give_copy_parts, board_at_on_entry) (board_at_other b copied k c h)

-- ---- boards that lose a right

-- a board that loses its right to writer w, if the test says so
unfoldable pub dropped_if : Bool → (w p : ℕ) → Board → Board
dropped_if t w p x = elim t [ true ↦ dropped w p x | false ↦ x ]

module _ (loses : ℕ → Bool) (w p : ℕ) (k : Bank) where
  pub boards_drop_at : length (drop_at loses w p k).boards ≡ length k.boards
  unfolding drop_at
  boards_drop_at = length_each (λ c x. elim (loses c) [ true ↦ dropped w p x | false ↦ x ]) k.boards

  pub board_at_drop_at : (c : ℕ) → c < length k.boards → board_at (drop_at loses w p k) c ≡ dropped_if (loses c) w p (board_at k c)
  unfolding drop_at board_at dropped_if
  board_at_drop_at c h = get_d_each c (λ c x. elim (loses c) [ true ↦ dropped w p x | false ↦ x ]) k.boards no_board h

-- ---- the copies of a page dropped

unfoldable pub without_copies : Entry → Entry
without_copies e = record { owner = e.owner; copies = 0 }

module _ (w p : ℕ) (k : Bank) where
  abbrev pub holds : ℕ → Bool
  holds c = member c (entry_at k p).copies

  pub drop_copies_parts : drop_copies w p k ≡ on_entry p without_copies (drop_at holds w p k)
  unfolding drop_copies without_copies
  drop_copies_parts = refl

  pub boards_drop_copies : length (drop_copies w p k).boards ≡ length k.boards
  unfolding drop_copies on_entry
  boards_drop_copies = boards_drop_at holds w p k

  pub directory_drop_copies : length (drop_copies w p k).directory ≡ length k.directory
  unfolding drop_at
  directory_drop_copies = rw drop_copies_parts (directory_on_entry p without_copies (drop_at holds w p k))

  pub board_at_drop_copies : (c : ℕ) → c < length k.boards → board_at (drop_copies w p k) c ≡ dropped_if (holds c) w p (board_at k c)
  board_at_drop_copies c h = rw (drop_copies_parts, board_at_on_entry) (board_at_drop_at holds w p k c h)

  pub entry_at_drop_copies_same : p < length k.directory → entry_at (drop_copies w p k) p ≡ without_copies (entry_at k p)
  unfolding drop_at entry_at
  entry_at_drop_copies_same h = rw drop_copies_parts (entry_at_same p without_copies (drop_at holds w p k) h)

-- ---- a page passed on

unfoldable pub owned_by : ℕ → Entry → Entry
owned_by w e = record { owner = w; copies = 0 }

module _ (o w p : ℕ) (k : Bank) where
  -- all but the taker: the old owner and the holders lose their right
  abbrev pub loses : ℕ → Bool
  loses c = not (eqb c w) && (eqb c o || member c (entry_at k p).copies)

  abbrev taken : Board → Board
  taken = took_own p (frame_of k o p).bytes

  pub pass_ownership_parts : pass_ownership o w p k ≡ on_entry p (owned_by w) (on_board w (took_own p (frame_of k o p).bytes) (drop_at loses w p k))
  unfolding pass_ownership owned_by took_own
  pass_ownership_parts = refl

  pub boards_pass_ownership : length (pass_ownership o w p k).boards ≡ length k.boards
  unfolding on_entry
  boards_pass_ownership = rw pass_ownership_parts (boards_on_board w taken (drop_at loses w p k) ∙ boards_drop_at loses w p k)

  pub directory_pass_ownership : length (pass_ownership o w p k).directory ≡ length k.directory
  unfolding on_board drop_at
  directory_pass_ownership = rw pass_ownership_parts (directory_on_entry p (owned_by w) (on_board w taken (drop_at loses w p k)))

  pub board_at_pass_ownership_same : w < length k.boards → board_at (pass_ownership o w p k) w ≡ took_own p (frame_of k o p).bytes (board_at k w)
  unfolding dropped_if
  board_at_pass_ownership_same h =
      let l : w < length (drop_at loses w p k).boards = rw (boards_drop_at loses w p k) h in
      let e : board_at (drop_at loses w p k) w ≡ board_at k w = cc (board_at_drop_at loses w p k w h, eq-eqb w w refl) in
      rw (pass_ownership_parts, board_at_on_entry) (board_at_same w taken (drop_at loses w p k) l ∙ ap taken e)

  pub board_at_pass_ownership_other : (c : ℕ) → c < length k.boards → c ≢ w
      → board_at (pass_ownership o w p k) c ≡ dropped_if (eqb c o || member c (entry_at k p).copies) w p (board_at k c)
  board_at_pass_ownership_other c h n =
      let e : loses c ≡ (eqb c o || member c (entry_at k p).copies) = cc (ne_eqb c w n) in
      rw (pass_ownership_parts, board_at_on_entry, ← e) (board_at_other w taken (drop_at loses w p k) c n ∙ board_at_drop_at loses w p k c h)

  pub entry_at_pass_ownership_same : p < length k.directory → entry_at (pass_ownership o w p k) p ≡ record { owner = w; copies = 0 }
  unfolding on_board drop_at owned_by
  entry_at_pass_ownership_same h = rw pass_ownership_parts (entry_at_same p (owned_by w) (on_board w taken (drop_at loses w p k)) h)

-- ---- a repeated access leaves its board's state

pub took_due_state : (x : Board) → (took_due x).state ≡ x.state
unfolding took_due on_working
took_due_state x = refl

pub replayed_state : (a : Access) (x : Board) → (replayed a x).state ≡ x.state
unfolding replayed used_up on_working
replayed_state a x = refl
