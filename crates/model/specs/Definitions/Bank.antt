-- The bank as a record, which loses nothing of well-formed bytes: its directory and its boards. A board is nested by what a power loss does to it:
-- `working` is emptied, `stable` can't be touched. Assumes nothing.
use Rattle.std.specs.Prelude.{ℕ, ◌%◌, Bool, true, false, List, [], get_or, eqb}
use Rattle.types.specs.declared.Right.TheVariants.{None, Own}
use Rattle.types.specs.declared.Frame.{Frame}
use Rattle.types.specs.declared.Record.{Record}
use Rattle.types.specs.declared.State.{State}
use Rattle.types.specs.declared.State.TheVariants.{Up, Down}
use Rattle.model.specs.Definitions.Parts.{zeros, update, tabulate}
use Rattle.model.specs.Definitions.Layout.{page_size, no_fuse}

-- "Directory, per page: owner; copy-set, where bit b stands for board b."; N is the number of boards, P of entries
pub record Entry : Type 0 where
  pub owner : ℕ
  pub copies : ℕ

-- A log is its records, and the count their number; the slots behind them are zero.
-- "An area: access number u32, stored count u8, P frames, 32 slots."
pub record Area : Type 0 where
  pub number : ℕ
  pub frames : List Frame
  pub log : List Record

-- What a power loss empties: access number, since, replay place, frames, volatile log.
pub record Working : Type 0 where
  pub number : ℕ
  pub since : ℕ
  pub place : ℕ
  pub frames : List Frame
  pub log : List Record

-- What a power loss can't touch: the area that the selector names, and the spare one. `second` says that area 1 is the selected one.
pub record Stable : Type 0 where
  pub second : Bool
  pub selected : Area
  pub spare : Area

pub record Board : Type 0 where
  pub state : State
  pub fuse : ℕ
  pub working : Working
  pub stable : Stable

pub record Bank : Type 0 where
  pub directory : List Entry
  pub boards : List Board

-- ---- one part read

-- right none, "all zero under right 0"
unfoldable pub empty_frame : Frame
empty_frame = record { right = None; bytes = zeros page_size }

-- these frames, no record, all else zero
abbrev pub zero_area : List Frame → Area
zero_area fs = record { number = 0; frames = fs; log = [] }

abbrev pub zero_working : List Frame → Working
zero_working fs = record { number = 0; since = 0; place = 0; frames = fs; log = [] }

-- what stands where there is no board: never read in a bank that is well formed
unfoldable pub no_board : Board
no_board =
    record {
      state = Down;
      fuse = no_fuse;
      working = zero_working [];
      stable = record { second = false; selected = zero_area []; spare = zero_area [] };
    }

unfoldable pub board_at : Bank → ℕ → Board
board_at k b = get_or k.boards b no_board

-- a page past the directory
abbrev pub no_entry : Entry
no_entry = record { owner = 0; copies = 0 }

abbrev pub entry_in : List Entry → ℕ → Entry
entry_in d p = get_or d p no_entry

unfoldable pub entry_at : Bank → ℕ → Entry
entry_at k p = entry_in k.directory p

unfoldable pub frame_at : List Frame → ℕ → Frame
frame_at fs p = get_or fs p empty_frame

-- ---- one field changed: a step names what it changes, and not what it leaves alone

abbrev pub with_state : State → Board → Board
with_state s x = record { state = s; fuse = x.fuse; working = x.working; stable = x.stable }

abbrev pub with_working : Working → Board → Board
with_working w x = record { state = x.state; fuse = x.fuse; working = w; stable = x.stable }

abbrev pub with_stable : Stable → Board → Board
with_stable t x = record { state = x.state; fuse = x.fuse; working = x.working; stable = t }

abbrev pub with_selected_area : Area → Stable → Stable
with_selected_area a t = record { second = t.second; selected = a; spare = t.spare }

abbrev pub with_spare_area : Area → Stable → Stable
with_spare_area a t = record { second = t.second; selected = t.selected; spare = a }

abbrev pub with_area_number : ℕ → Area → Area
with_area_number n a = record { number = n; frames = a.frames; log = a.log }

abbrev pub with_area_frames : List Frame → Area → Area
with_area_frames fs a = record { number = a.number; frames = fs; log = a.log }

abbrev pub with_area_log : List Record → Area → Area
with_area_log l a = record { number = a.number; frames = a.frames; log = l }

abbrev pub with_number : ℕ → Working → Working
with_number n w = record { number = n; since = w.since; place = w.place; frames = w.frames; log = w.log }

abbrev pub with_since : ℕ → Working → Working
with_since n w = record { number = w.number; since = n; place = w.place; frames = w.frames; log = w.log }

abbrev pub with_place : ℕ → Working → Working
with_place n w = record { number = w.number; since = w.since; place = n; frames = w.frames; log = w.log }

abbrev pub with_frames : List Frame → Working → Working
with_frames fs w = record { number = w.number; since = w.since; place = w.place; frames = fs; log = w.log }

abbrev pub with_log : List Record → Working → Working
with_log l w = record { number = w.number; since = w.since; place = w.place; frames = w.frames; log = l }

-- ---- one part changed by what it was

unfoldable pub on_board : ℕ → (Board → Board) → Bank → Bank
on_board b f k = record { directory = k.directory; boards = update b f k.boards }

unfoldable pub on_entry : ℕ → (Entry → Entry) → Bank → Bank
on_entry p f k = record { directory = update p f k.directory; boards = k.boards }

unfoldable pub on_working : (Working → Working) → Board → Board
on_working f x = with_working (f x.working) x

unfoldable pub on_selected : (Area → Area) → Board → Board
on_selected f x = with_stable (with_selected_area (f x.stable.selected) x.stable) x

unfoldable pub on_spare : (Area → Area) → Board → Board
on_spare f x = with_stable (with_spare_area (f x.stable.spare) x.stable) x

unfoldable pub on_frames : (List Frame → List Frame) → Working → Working
on_frames f w = with_frames (f w.frames) w

-- ---- a fresh bank

-- "page p owned by board p mod N"
unfoldable pub fresh_frames : ℕ → ℕ → ℕ → List Frame
fresh_frames boards pages b =
    tabulate pages
    (λ p. elim (eqb (p % boards) b) [ true ↦ record { right = Own; bytes = zeros page_size } | false ↦ empty_frame ])

-- "all up, .. every other right, byte, count and slot zero, fuses none, area 0 selected, both areas holding these frames"
unfoldable pub fresh_board : ℕ → ℕ → ℕ → Board
fresh_board boards pages b =
    let fs : List Frame = fresh_frames boards pages b in
    record {
      state = Up;
      fuse = no_fuse;
      working = zero_working fs;
      stable = record { second = false; selected = zero_area fs; spare = zero_area fs };
    }

unfoldable pub fresh : ℕ → ℕ → Bank
fresh boards pages =
    record {
      directory = tabulate pages (λ p. record { owner = p % boards; copies = 0 });
      boards = tabulate boards (λ b. fresh_board boards pages b);
    }
