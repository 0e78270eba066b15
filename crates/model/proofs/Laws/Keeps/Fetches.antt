-- What a write fetch finds and leaves of the boards, under what code 6 and code 7 tested; what any fetch leaves of the taker. Assumes nothing.
use Rattle.std.specs.Prelude.{◌≡◌, refl, ◌≢◌, ℕ, ◌+◌, ◌<◌, true, false, ◌||◌, set, eqb}
use Rattle.std.proofs.Common.{sym, ◌∙◌, arith, length-append}
use Rattle.std.proofs.Math.Path.{ap}
use Rattle.std.proofs.Math.Option.{none}
use mathlib.Core.List.{List, [], ◌∷◌}
use Rattle.std.proofs.Math.ListN.{length, length-set}
use borrow.Author.Tests.{eqb-true, eq-eqb, ne_eqb}
use Rattle.types.specs.declared.Right.TheVariants.{Own}
use Rattle.types.specs.declared.Frame.{Frame}
use Rattle.types.specs.declared.CopyOrOwn.{CopyOrOwn}
use Rattle.types.specs.declared.CopyOrOwn.TheVariants.{GotOwn}
use Rattle.types.specs.declared.Kind.{Kind}
use Rattle.types.specs.declared.Kind.TheVariants.{Got, Shown}
use Rattle.types.specs.declared.State.TheVariants.{Up}
use Rattle.model.specs.Definitions.Parts.{zeros, member}
use Rattle.model.specs.Definitions.Layout.{page_size}
use Rattle.model.specs.Definitions.Bank.{Board, Bank, board_at, entry_at, frame_at, on_working, on_frames}
use Rattle.model.specs.Definitions.WellFormed.{WellFormed}
use Rattle.model.specs.Definitions.Steps.{Run, step, appended, recorded, note, flush, with_frame, frame_of, giver, show, pass_ownership, write_fetch}
use Rattle.model.specs.Definitions.Replay.{right_got}
use Rattle.model.specs.Definitions.Calls.{fetch_need}
use Rattle.model.proofs.Laws.Logic.{by_eq, clash}
use Rattle.model.proofs.Laws.Lists.{each_head}
use Rattle.model.proofs.Laws.Below.{listed}
use Rattle.model.proofs.Laws.Boards.{frame_at_same, frame_at_other, took_own, board_at_pass_ownership_same}
use Rattle.model.proofs.Laws.Runs.{step_done, step_none, Changed, follows_none, follows_note_flush}
use Rattle.model.proofs.Laws.Runs.Stores.{FlushedWith, note_flush_changed, show_changed}
use Rattle.model.proofs.Laws.Keeps.Clauses.{fits, up_below}
use Rattle.model.specs.Clauses.{RoomFor, fetch_needs, CanFetch, records_of}
use Rattle.model.proofs.Laws.Keeps.Rights.{or_cases, or_none}

-- ---- rooms

-- stored and volatile records counted together
length_records : (x : Board) → length (records_of x) ≡ length x.stable.selected.log + length x.working.log
unfolding records_of
length_records x = length-append x.stable.selected.log x.working.log

-- a record noted takes one slot of the room, a flush takes none
pub room_noted : (n : ℕ) (kind : Kind) (peer : ℕ) (bytes : List ℕ) (x y : Board) → FlushedWith kind peer bytes x y → RoomFor (n + 1) x → RoomFor n y
unfolding on_working recorded appended
room_noted n kind peer bytes x y f m =
    omega (
      arith,
      ap length f.records,
      length_records y,
      length_records (on_working (recorded kind peer bytes) x),
      length-append x.working.log (record { count = x.working.since; kind = kind; peer = peer; bytes = bytes } ∷ []),
    )

-- room for fewer
pub room_less : (m n : ℕ) (x : Board) → RoomFor (m + n) x → RoomFor n x
room_less m n x h = omega (arith, h)

-- ---- what a fetch leaves of the taker

-- board y is x after it took these pages: no counter but since is touched, no right but theirs
pub record Taken (g : CopyOrOwn) (ps : List ℕ) (x y : Board) : Type 0 where
  pub state : y.state ≡ Up
  pub number : y.working.number ≡ x.working.number
  pub since : y.working.since ≡ 0
  pub pages : length y.working.frames ≡ length x.working.frames
  pub right : (q : ℕ) → listed q ps ≡ true → (frame_at y.working.frames q).right ≡ right_got (Got g q)
  pub kept : (q : ℕ) → listed q ps ≡ false → frame_at y.working.frames q ≡ frame_at x.working.frames q

page_frame : {k : Bank} → WellFormed k → (b p : ℕ) → b < length k.boards → p < length k.directory → p < length (board_at k b).working.frames
page_frame {k} w b p i l = rw (fits w b i).alone.fields.working.frames.count l

-- a frame set shows at its own page alone
pub put_frame : (fs : List Frame) (p : ℕ) (f : Frame) (q : ℕ) → p < length fs → listed q (p ∷ []) ≡ true → frame_at (set fs p f) q ≡ f
unfolding listed
put_frame fs p f q l t = or_cases (eqb p q) false t (λ e. rw (← eqb-true p q e) (frame_at_same fs p f l)) (λ e. clash e refl)

pub put_other : (fs : List Frame) (p : ℕ) (f : Frame) (q : ℕ) → listed q (p ∷ []) ≡ false → frame_at (set fs p f) q ≡ frame_at fs q
unfolding listed
put_other fs p f q t = frame_at_other fs p q f (λ e. clash (eq-eqb p q (sym e)) (or_none (eqb p q) false t).0)

-- ---- a write fetch

module _ (w p : ℕ) (r : Run) (wf : WellFormed r.bank) (c : CanFetch GotOwn w (p ∷ []) r.bank) where
  abbrev pub from : ℕ
  from = giver GotOwn r.bank p

  -- what is asked of the page, of its owner and of whoever has a part
  pub page_there : p < length r.bank.directory
  page_there = each_head c.pages

  pub owner_up : (board_at r.bank from).state ≡ Up
  owner_up = each_head c.givers

  pub owner_other : from ≢ w
  owner_other = each_head c.others

  room_part : (h : ℕ) → h < length r.bank.boards → RoomFor (fetch_need GotOwn r.bank w from p h) (board_at r.bank h)
  unfolding fetch_needs
  room_part h l = omega (arith, c.room h l)

  -- room for the taker's own record
  pub room_taker : RoomFor 1 (board_at r.bank w)
  unfolding fetch_need
  room_taker =
      let e : fetch_need GotOwn r.bank w from p w ≡ 1 = cc (eq-eqb w w refl) in
      rw e at (room_part w (up_below r.bank w c.taker))

  -- room for the shown and for the dropped
  pub room_owner : RoomFor 2 (board_at r.bank from)
  unfolding fetch_need
  room_owner =
      let e : fetch_need GotOwn r.bank w from p from ≡ 2 = cc (ne_eqb from w owner_other, eq-eqb from from refl) in
      rw e at (room_part from (up_below r.bank from owner_up))

  pub room_holder : (h : ℕ) → h < length r.bank.boards → h ≢ w → h ≢ from → member h (entry_at r.bank p).copies ≡ true
      → RoomFor 1 (board_at r.bank h)
  unfolding fetch_need
  room_holder h l n m t =
      let e : fetch_need GotOwn r.bank w from p h ≡ 1 = cc (ne_eqb h w n, ne_eqb h from m) in
      rw e at (room_part h l)

  -- the run after the owner's part, and after the writer's got own
  abbrev pub gave : Run
  gave = show from w p r

  abbrev pub got_bytes : Bank → List ℕ
  got_bytes k = (frame_of k from p).bytes

  abbrev pub noted : Run
  noted = step (λ k. note w (Got GotOwn p) from (got_bytes k) k) gave

  abbrev pub got : Run
  got = flush w noted

  pub gave_changed : gave.lost ≡ none → Changed from (FlushedWith (Shown p) w (zeros page_size)) r.bank gave.bank
  gave_changed e = show_changed from w p r e

  -- the owner's flush leaves the writer alone
  pub writer_same : gave.lost ≡ none → board_at gave.bank w ≡ board_at r.bank w
  writer_same e = (gave_changed e).others w (λ i. owner_other (sym i))

  pub got_changed : got.lost ≡ none → Changed w (FlushedWith (Got GotOwn p) from (got_bytes gave.bank)) gave.bank got.bank
  got_changed e = note_flush_changed w (Got GotOwn p) from got_bytes gave e

  pub gave_none : got.lost ≡ none → gave.lost ≡ none
  gave_none e = follows_none (follows_note_flush w (Got GotOwn p) from got_bytes gave) e

  -- whoever gives its right up has room left for that record
  pub room_got : (h : ℕ) → got.lost ≡ none → h < length r.bank.boards → h ≢ w → (eqb h from || member h (entry_at r.bank p).copies) ≡ true
      → RoomFor 1 (board_at got.bank h)
  room_got h e l n t =
      let g : Changed from (FlushedWith (Shown p) w (zeros page_size)) r.bank gave.bank = gave_changed (gave_none e) in
      let held : h ≢ from → member h (entry_at r.bank p).copies ≡ true =
      λ m. or_cases (eqb h from) (member h (entry_at r.bank p).copies) t (λ i. absurd (m (eqb-true h from i))) (λ i. i) in
      rw ((got_changed e).others h n)
      (by_eq h from
      (λ i. rw i (room_noted 1 (Shown p) w (zeros page_size) (board_at r.bank from) (board_at gave.bank from) (g.this (rw i at l)) room_owner))
      (λ m. rw (g.others h m) (room_holder h l n m (held m))))

  pub write_fetch_taken : (write_fetch w p r).lost ≡ none → Taken GotOwn (p ∷ []) (board_at r.bank w) (board_at (write_fetch w p r).bank w)
  unfolding write_fetch giver took_own with_frame on_working on_frames recorded right_got
  write_fetch_taken n =
      let e : got.lost ≡ none = step_none (pass_ownership from w p) got n in
      let g : Changed from (FlushedWith (Shown p) w (zeros page_size)) r.bank gave.bank = gave_changed (gave_none e) in
      let t : Changed w (FlushedWith (Got GotOwn p) from (got_bytes gave.bank)) gave.bank got.bank = got_changed e in
      let i : w < length r.bank.boards = up_below r.bank w c.taker in
      let f : FlushedWith (Got GotOwn p) from (got_bytes gave.bank) (board_at r.bank w) (board_at got.bank w) =
      rw (writer_same (gave_none e)) at (t.this (rw g.boards i)) in
      let y : Board = board_at got.bank w in
      let put : Frame = record { right = Own; bytes = (frame_of got.bank from p).bytes } in
      rw (step_done (pass_ownership from w p) got n, board_at_pass_ownership_same from w p got.bank (rw (t.boards, g.boards) i))
      (record {
        state = f.state ∙ c.taker;
        number = f.number;
        since = f.since;
        pages = length-set y.working.frames p put ∙ ap length f.frames;
        right = λ q s. ap (λ (h : Frame). h.right) (put_frame y.working.frames p put q (rw f.frames (page_frame wf w p i page_there)) s);
        kept = λ q s. put_other y.working.frames p put q s ∙ ap (λ (fs : List Frame). frame_at fs q) f.frames;
      })
