-- The clauses of a well-formed bank sorted by what they speak of: a board alone, its replay place, a board and the directory. A step is shown to keep
-- them on its board, and the lemmas here lift that to the bank. Assumes nothing.
use Rattle.std.specs.Prelude.{◌≡◌, refl, ◌≢◌, ℕ, ◌≤◌, ◌<◌, true, false, List, length}
use Rattle.std.proofs.Common.{sym, ap, ◌∙◌, arith}
use Rattle.std.proofs.Math.Decide.{dec_lt}
use Rattle.types.specs.declared.State.{State}
use Rattle.types.specs.declared.State.TheVariants.{Up, Down, Replaying}
use Rattle.words.specs.Bytes.{Each}
use Rattle.model.specs.Definitions.Parts.{member}
use Rattle.model.specs.Definitions.Bank.{Entry, Working, Board, Bank, no_board, board_at, entry_in, entry_at, on_board}
use Rattle.model.specs.Definitions.WellFormed.{FieldsOk, FuseOk, RoomOk, PlaceOk, Blank, right_in, BoardOk, EntryOk, SizesOk, is_up, is_down}
use Rattle.model.specs.Definitions.WellFormed.{is_replaying, PeersOk, WellFormed}
use Rattle.model.specs.Clauses.{Alone, Fits, WellFormedBut}
use Rattle.model.proofs.Laws.Logic.{by_eq, clash}
use Rattle.model.proofs.Laws.Lists.{length_update}
use Rattle.model.proofs.Laws.Boards.{board_at_out, board_at_same, board_at_other, on_board_out}

-- ---- a board is in one state

module _ {X : Type 0} {s : State} where
  pub up_not_down : s ≡ Up → s ≡ Down → X
  up_not_down p q = let z : ◌≡◌ {A = ℕ} 0 1 = cc in absurd (omega arith)

  pub up_not_replaying : s ≡ Up → s ≡ Replaying → X
  up_not_replaying p q = let z : ◌≡◌ {A = ℕ} 0 1 = cc in absurd (omega arith)

  pub down_not_replaying : s ≡ Down → s ≡ Replaying → X
  down_not_replaying p q = let z : ◌≡◌ {A = ℕ} 0 1 = cc in absurd (omega arith)

pub is_up_up : (s : State) → is_up s ≡ true → s ≡ Up
unfolding is_up
is_up_up Up h = refl
is_up_up Down h = clash h refl
is_up_up Replaying h = clash h refl

pub is_down_down : (s : State) → is_down s ≡ true → s ≡ Down
unfolding is_down
is_down_down Up h = clash h refl
is_down_down Down h = refl
is_down_down Replaying h = clash h refl

pub is_down_not : (s : State) → is_down s ≡ false → s ≢ Down
unfolding is_down
is_down_not Up h e = up_not_down refl e
is_down_not Down h e = clash refl h
is_down_not Replaying h e = down_not_replaying e refl

pub is_replaying_replaying : (s : State) → is_replaying s ≡ true → s ≡ Replaying
unfolding is_replaying
is_replaying_replaying Up h = clash h refl
is_replaying_replaying Down h = clash h refl
is_replaying_replaying Replaying h = refl

-- neither down nor replaying
pub up_left : (s : State) → s ≢ Down → is_replaying s ≡ false → s ≡ Up
unfolding is_replaying
up_left Up n h = refl
up_left Down n h = absurd (n refl)
up_left Replaying n h = clash refl h

-- ---- the clauses of one board

-- a step that leaves the place alone and takes no stored record away
pub place_kept : (s : State) (x y : Board) → PlaceOk s x → y.working.place ≡ x.working.place
    → length x.stable.selected.log ≤ length y.stable.selected.log → PlaceOk s y
unfolding PlaceOk
place_kept Up x y h e l = omega arith
place_kept Down x y h e l = omega arith
place_kept Replaying x y h e l = omega arith

-- outside a replay the stored records don't matter
pub place_idle : (s : State) (x y : Board) → s ≢ Replaying → PlaceOk s x → y.working.place ≡ x.working.place → PlaceOk s y
unfolding PlaceOk
place_idle Up x y u h e = omega arith
place_idle Down x y u h e = omega arith
place_idle Replaying x y u h e = absurd (u refl)

pub place_replaying : (s : State) (x : Board) → s ≡ Replaying → x.working.place < length x.stable.selected.log → PlaceOk s x
unfolding PlaceOk
place_replaying Up x e h = up_not_replaying refl e
place_replaying Down x e h = down_not_replaying refl e
place_replaying Replaying x e h = h

pub replaying_place : (s : State) (x : Board) → s ≡ Replaying → PlaceOk s x → x.working.place < length x.stable.selected.log
unfolding PlaceOk
replaying_place Up x e h = up_not_replaying refl e
replaying_place Down x e h = down_not_replaying refl e
replaying_place Replaying x e h = h

pub blank_same : (x y : Board) → Blank x → y.working ≡ x.working → y.fuse ≡ x.fuse → Blank y
blank_same x y h w f =
    record {
      number = ap (λ (v : Working). v.number) w ∙ h.number;
      since = ap (λ (v : Working). v.since) w ∙ h.since;
      volatile = ap (λ (v : Working). v.log) w ∙ h.volatile;
      frames = rw w h.frames;
      fuse = f ∙ h.fuse;
    }

-- of an up board the clauses about the other states say nothing
pub alone_up : {pages : ℕ} {x : Board} → x.state ≡ Up → FieldsOk pages x → FuseOk x → RoomOk x → Alone pages x
alone_up u v f r = record { fields = v; fuse = f; room = r; replaying = λ e. up_not_replaying u e; down = λ e. up_not_down u e }

-- a step that leaves state, place and frames alone and takes no stored record away
pub fits_kept : {d : List Entry} {b : ℕ} (x y : Board) → Fits d b x → Alone (length d) y → y.state ≡ x.state → y.working.place ≡ x.working.place
    → y.working.frames ≡ x.working.frames → length x.stable.selected.log ≤ length y.stable.selected.log → Fits d b y
fits_kept x y h a s p f l =
    record {
      alone = a;
      place = place_kept y.state x y (rw s h.place) p l;
      agreed = record { rights = λ u. rw f (h.agreed.rights (sym s ∙ u)); copies = λ n. h.agreed.copies (λ u. n (s ∙ u)) };
    }

-- ---- the bank

pub board_ok_fits : (k : Bank) (b : ℕ) → BoardOk k b → Fits k.directory b (board_at k b)
unfolding entry_at
board_ok_fits k b h =
    record {
      alone = record { fields = h.fields; fuse = h.fuse; room = h.room; replaying = h.replaying; down = h.down };
      place = h.place;
      agreed = record { rights = h.rights; copies = h.copies };
    }

pub fits_board_ok : (k : Bank) (b : ℕ) → Fits k.directory b (board_at k b) → BoardOk k b
unfolding entry_at
fits_board_ok k b h =
    record {
      fields = h.alone.fields;
      fuse = h.alone.fuse;
      room = h.alone.room;
      place = h.place;
      replaying = h.alone.replaying;
      down = h.alone.down;
      rights = h.agreed.rights;
      copies = h.agreed.copies;
    }

-- the clauses of a board of a well-formed bank
pub fits : {k : Bank} → WellFormed k → (b : ℕ) → b < length k.boards → Fits k.directory b (board_at k b)
fits {k} w b h = board_ok_fits k b (w.boards b h)

-- a bank is well formed where every board fits and names others
pub well_formed_fits : (k : Bank) → SizesOk (length k.boards) (length k.directory)
    → Each (EntryOk (length k.boards)) k.directory
    → ((b : ℕ) → b < length k.boards → Fits k.directory b (board_at k b))
    → ((b : ℕ) → b < length k.boards → PeersOk (length k.boards) b (board_at k b)) → WellFormed k
well_formed_fits k s d f n = record { sizes = s; directory = d; boards = λ b h. fits_board_ok k b (f b h); peers = n }

module _ {b : ℕ} {k : Bank} where
  -- any clauses of board b that follow from all of them
  pub but : {Kept : List Entry → ℕ → Board → Type 0} → WellFormed k → (Fits k.directory b (board_at k b) → Kept k.directory b (board_at k b))
      → WellFormedBut b Kept k
  but w f = record { sizes = w.sizes; directory = w.directory; others = λ c h n. fits w c h; this = λ h. f (fits w b h); peers = w.peers }

  -- the clauses that were left out restored
  pub whole : {Kept : List Entry → ℕ → Board → Type 0} → WellFormedBut b Kept k
      → (Kept k.directory b (board_at k b) → Fits k.directory b (board_at k b)) → WellFormed k
  whole {Kept} w f =
      well_formed_fits k w.sizes w.directory
      (λ c h. by_eq c b (λ e. rw e (f (w.this (rw e at h)))) (λ n. w.others c h n))
      w.peers

-- whom a board's records name after a change of board b alone
pub peers_on_board : {n : ℕ} (b : ℕ) (f : Board → Board) (k : Bank) → (PeersOk n b (board_at k b) → PeersOk n b (f (board_at k b)))
    → (c : ℕ) → PeersOk n c (board_at k c) → PeersOk n c (board_at (on_board b f k) c)
peers_on_board {n} b f k m c h =
    by_eq c b
    (λ e.
    elim (dec_lt b (length k.boards)) [
      | yes l ↦ rw (e, board_at_same b f k l) (m (rw e at h))
      | no o ↦ rw (on_board_out b f k (omega arith)) h
    ])
    (λ o. rw (board_at_other b f k c o) h)

-- a change of board b alone
pub on_board_but : (b : ℕ) (f : Board → Board) (k : Bank) {Kept Left : List Entry → ℕ → Board → Type 0} → WellFormedBut b Kept k
    → (b < length k.boards → Kept k.directory b (board_at k b) → Left k.directory b (f (board_at k b)))
    → (PeersOk (length k.boards) b (board_at k b) → PeersOk (length k.boards) b (f (board_at k b))) → WellFormedBut b Left (on_board b f k)
unfolding on_board
on_board_but b f k {Kept} {Left} w g m =
    record {
      sizes = rw (length_update b f k.boards) w.sizes;
      directory = rw (length_update b f k.boards) w.directory;
      others = λ c h n. rw (board_at_other b f k c n) (w.others c (rw (length_update b f k.boards) at h) n);
      this = λ h. let l : b < length k.boards = rw (length_update b f k.boards) at h in rw (board_at_same b f k l) (g l (w.this l));
      peers = λ c h. rw (length_update b f k.boards) (peers_on_board b f k m c (w.peers c (rw (length_update b f k.boards) at h)));
    }

-- a change of board b that keeps its clauses keeps the bank well formed
pub on_board_keeps : (b : ℕ) (f : Board → Board) (k : Bank) → WellFormed k
    → (b < length k.boards → Fits k.directory b (board_at k b) → Fits k.directory b (f (board_at k b)))
    → (PeersOk (length k.boards) b (board_at k b) → PeersOk (length k.boards) b (f (board_at k b))) → WellFormed (on_board b f k)
on_board_keeps b f k w g m = whole {Kept = Fits} (on_board_but b f k (but {Kept = Fits} w (λ h. h)) g m) (λ h. h)

-- an up board is one of the bank's
pub up_below : (k : Bank) (b : ℕ) → (board_at k b).state ≡ Up → b < length k.boards
unfolding no_board
up_below k b e =
    elim (dec_lt b (length k.boards)) [
      | yes h ↦ h
      | no n ↦
          let d : board_at k b ≡ no_board = board_at_out k b (omega arith) in
          up_not_down e (ap (λ (x : Board). x.state) d)
    ]

-- ---- a board and two directories

-- two entries say the same of board c
pub record SameFor (c : ℕ) (e e' : Entry) : Type 0 where
  pub right : right_in e' c ≡ right_in e c
  pub copies : member c e'.copies ≡ member c e.copies

pub fits_directory : (d d' : List Entry) (c : ℕ) (x : Board) → length d' ≡ length d
    → ((p : ℕ) → p < length d → SameFor c (entry_in d p) (entry_in d' p)) → Fits d c x → Fits d' c x
fits_directory d d' c x l s h =
    record {
      alone = rw l h.alone;
      place = h.place;
      agreed =
          record {
            rights = λ u p m. h.agreed.rights u p (rw l at m) ∙ sym (s p (rw l at m)).right;
            copies = λ u p m. (s p (rw l at m)).copies ∙ h.agreed.copies u p (rw l at m);
          };
    }
